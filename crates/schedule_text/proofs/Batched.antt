-- The steps of the loop that reads the pairs of a write.
use Rattle.std.proofs.Common.{◌≡◌, ◌≢◌, ℕ, ◌<◌, List, [], ◌∷◌, ◌++◌, length, map, take, drop, get_or, ◌-◌, ◌≤◌, Bor, arith, refl, sym, ap, ◌∙◌, append_assoc}
use Rattle.std.specs.Prelude.{Result, Ok, Err}
use Rattle.std.proofs.lemmas.List.{take_rest}
use Rattle.salus_types.specs.declared.records.Write.{Write}
use Rattle.schedule_text.specs.declared.error.Cause.{Cause}
use Rattle.schedule_text.specs.declared.error.Cause.TheVariants as cause
use Rattle.schedule_text.specs.Reading.{after, pair_of, with_writes, writes_of}

with-push : (writes : List Write) (w : Write) (r : Result (List Write) Cause) → with_writes writes (with_writes (w ∷ []) r) ≡ with_writes (writes ++ w ∷ []) r
with-push writes w (Ok more) = ap Ok (sym (append_assoc writes (w ∷ []) more))
with-push writes w (Err c) = refl

pub writes-nil : (r : Result (List Write) Cause) → with_writes [] r ≡ r
writes-nil (Ok more) = refl
writes-nil (Err c) = refl

pub writes-more : (size : ℕ) (writes longer : List Write) (number block : List ℕ) (words : List (List ℕ)) (w : Write) → pair_of size number block ≡ Ok w
    → longer ≡ writes ++ w ∷ [] → with_writes longer (writes_of size words) ≡ with_writes writes (writes_of size (number ∷ block ∷ words))
unfolding writes_of
writes-more size writes longer number block words w is grown =
    ap (λ l. with_writes l (writes_of size words)) grown
    ∙ (sym (with-push writes w (writes_of size words)) ∙ ap (λ p. with_writes writes (after p (λ v. with_writes (v ∷ []) (writes_of size words)))) (sym is))

pub writes-wrong : (size : ℕ) (writes : List Write) (number block : List ℕ) (words : List (List ℕ)) (c : Cause) → pair_of size number block ≡ Err c
    → with_writes writes (writes_of size (number ∷ block ∷ words)) ≡ Err c
unfolding writes_of
writes-wrong size writes number block words c is = ap (λ p. with_writes writes (after p (λ v. with_writes (v ∷ []) (writes_of size words)))) is

-- one word is left over
pub writes-odd : (size : ℕ) (writes : List Write) (rest : List (Bor (List ℕ))) → length rest < 2 → length rest ≢ 0
    → with_writes writes (writes_of size (map (λ word. word.now) rest)) ≡ Err cause.Word
unfolding writes_of
writes-odd size writes [] few some = absurd (some refl)
writes-odd size writes (word ∷ []) few some = refl
writes-odd size writes (word ∷ other ∷ rest) few some = absurd (omega (arith, few))

-- two words more are read
pub writes-step : (size : ℕ) (writes longer : List Write) (rest : List (Bor (List ℕ))) (none : Bor (List ℕ)) (w : Write) → 2 ≤ length rest
    → pair_of size (get_or rest 0 none).now (get_or rest 1 none).now ≡ Ok w → longer ≡ writes ++ w ∷ []
    → with_writes longer (writes_of size (map (λ word. word.now) (take (length rest - 2) (drop 2 rest)))) ≡ with_writes writes (writes_of size (map (λ word. word.now) rest))
writes-step size writes longer [] none w some is grown = absurd (omega (arith, some))
writes-step size writes longer (word ∷ []) none w some is grown = absurd (omega (arith, some))
writes-step size writes longer (number ∷ block ∷ rest) none w some is grown =
    ap (λ l. with_writes longer (writes_of size (map (λ word. word.now) l))) (take_rest (number ∷ block ∷ rest) 2)
    ∙ writes-more size writes longer number.now block.now (map (λ word. word.now) rest) w is grown
