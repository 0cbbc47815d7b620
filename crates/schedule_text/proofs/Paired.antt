-- The words of a write are read as its pairs of a number and a block.
use Rattle.std.proofs.Common.{◌≡◌, ◌≢◌, ◌⊎◌, ℕ, ◌*◌, ◌%◌, ◌≤◌, ltb, eqb, List, [], ◌∷◌, ◌++◌, length, refl, sym, ap, subst, ◌∙◌, arith, inl, inr}
use Rattle.std.specs.Prelude.{Result, Ok, Err, codes, zero, suc}
use Rattle.std.specs.List.{AllZip, flat_map}
use Rattle.std.proofs.lemmas.Bool.{ltb-true, ltb-false, le-ltb, eqb-true, eqb-false, ne_eqb}
use Rattle.salus_types.specs.Volume.{Shape}
use Rattle.salus_types.specs.declared.records.Write.{Write}
use Rattle.text_words.specs.Grammar.{IsNumber, IsBlock}
use Rattle.text_words.proofs.Settled.{pick_false, chosen}
use Rattle.schedule_text.specs.declared.error.Cause.{Cause}
use Rattle.schedule_text.specs.declared.error.Cause.TheVariants as cause
use Rattle.schedule_text.specs.declared.keyword.Keyword.TheVariants as keyword
use Rattle.schedule_text.specs.declared.schedule.Event.{Event}
use Rattle.schedule_text.specs.declared.schedule.Event.TheVariants as event
use Rattle.schedule_text.specs.Reading.{after, pair_of, with_writes, writes_of, write_of}
use Rattle.schedule_text.specs.Grammar.{Spells, Kind, ANumber, ABlock, pair_values, pair_kinds, IsFirstWrongWord, IsForm, AreKinds, IsLongWrite, IsEmptyWrite}
use Rattle.schedule_text.proofs.Decided.{Decides, ok-err, same_ok, same_err, next_word, nothing_more, after-ok, after-err}
use Rattle.schedule_text.proofs.Parties.{number-decides, block-decides}
use Rattle.schedule_text.proofs.Keyed.{same_keyword}
use Rattle.schedule_text.proofs.Behind.{IsOf, Reads, IsWrongHere}

-- ---- an even number of words

abbrev Even : List (List ℕ) → Type 0
Even [] = Unit {0}
Even (a ∷ []) = ⊥
Even (a ∷ b ∷ words) = Even words

-- how many pairs there are
abbrev half : List (List ℕ) → ℕ
half [] = zero
half (a ∷ []) = zero
half (a ∷ b ∷ words) = suc (half words)

pub kinds-length : (n : ℕ) → length (pair_kinds n) ≡ 2 * n
kinds-length zero = refl
kinds-length (suc n) = let e = kinds-length n in omega (arith, e)

half-length : (words : List (List ℕ)) → Even words → length (pair_kinds (half words)) ≡ length words
half-length [] even = refl
half-length (a ∷ []) even = absurd even
half-length (a ∷ b ∷ words) even = let e = half-length words even in omega (arith, e)

odd_or_even : (words : List (List ℕ)) → length words % 2 ≢ 1 → Even words
odd_or_even [] h = tt
odd_or_even (a ∷ []) h = absurd (h refl)
odd_or_even (a ∷ b ∷ words) h = odd_or_even words (λ e. h (omega (arith, e)))

odd_not : (n m : ℕ) → m % 2 ≡ 1 → 2 * n ≡ m → ⊥
odd_not n m odd twice = omega (arith, odd, twice)

-- ---- the pairs

abbrev IsPairOf : Shape → List ℕ → List ℕ → Write → Type 0
IsPairOf shape a b w = (n : ℕ) × IsNumber a n × ((x : List ℕ) × IsBlock shape.block b x × (record { block = n; bytes = x } ≡ w))

pair-decides : (shape : Shape) (a b : List ℕ) → Decides (pair_of shape.block a b) (IsPairOf shape a b) (IsFirstWrongWord shape (ANumber ∷ ABlock ∷ []) (a ∷ b ∷ []))
pair-decides shape a b =
    next_word _ _ _ _ _ _ (number-decides a) (λ n. next_word _ _ _ _ _ _ (block-decides shape.block b) (λ x. nothing_more (record { block = n; bytes = x })))

with-ok : (writes : List Write) (r : Result (List Write) Cause) (all : List Write) → with_writes writes r ≡ Ok all → (more : List Write) × (r ≡ Ok more) × (writes ++ more ≡ all)
with-ok writes (Ok more) all h = (more, refl, same_ok {E = Cause} _ _ h)
with-ok writes (Err c) all h = absurd (ok-err all c (sym h))

with-err : (writes : List Write) (r : Result (List Write) Cause) (c : Cause) → with_writes writes r ≡ Err c → r ≡ Err c
with-err writes (Ok more) c h = absurd (ok-err (writes ++ more) c h)
with-err writes (Err d) c h = ap Err (same_err {X = List Write} d c h)

pair_spelled : (shape : Shape) (a b : List ℕ) (words : List (List ℕ)) (w : Write) (more : List Write) → IsPairOf shape a b w → AllZip (Spells shape) (flat_map pair_values more) words
    → AllZip (Spells shape) (flat_map pair_values (w ∷ more)) (a ∷ b ∷ words)
pair_spelled shape a b words w more p rest =
    subst (λ v. AllZip (Spells shape) (flat_map pair_values (v ∷ more)) (a ∷ b ∷ words)) p.2.2 (p.1, (p.2.1, rest))

writes-sound : (shape : Shape) (words : List (List ℕ)) (ws : List Write) → writes_of shape.block words ≡ Ok ws → AllZip (Spells shape) (flat_map pair_values ws) words
unfolding writes_of
writes-sound shape [] ws h = subst (λ (l : List Write). AllZip (Spells shape) (flat_map pair_values l) []) (same_ok {E = Cause} [] ws h) tt
writes-sound shape (a ∷ []) ws h = absurd (ok-err ws cause.Word (sym h))
writes-sound shape (a ∷ b ∷ words) ws h =
    let p = after-ok (pair_of shape.block a b) _ ws h in
    let q = with-ok (p.0 ∷ []) (writes_of shape.block words) ws p.2 in
    subst (λ l. AllZip (Spells shape) (flat_map pair_values l) (a ∷ b ∷ words)) q.2
    (pair_spelled shape a b words p.0 q.0 ((pair-decides shape a b).sound p.0 p.1) (writes-sound shape words q.0 q.1))

first_wrong : (shape : Shape) (a b : List ℕ) (words : List (List ℕ)) (kinds : List Kind) (c : Cause)
    → IsFirstWrongWord shape (ANumber ∷ ABlock ∷ []) (a ∷ b ∷ []) c → IsFirstWrongWord shape (ANumber ∷ ABlock ∷ kinds) (a ∷ b ∷ words) c
first_wrong shape a b words kinds c (inl w) = inl w
first_wrong shape a b words kinds c (inr (r, inl w)) = inr (r, inl w)
first_wrong shape a b words kinds c (inr (r, inr w)) = absurd (w.1)

writes-wrong : (shape : Shape) (words : List (List ℕ)) (c : Cause) → Even words → writes_of shape.block words ≡ Err c → IsFirstWrongWord shape (pair_kinds (half words)) words c
unfolding writes_of
writes-wrong shape [] c even h = absurd (ok-err {X = List Write} [] c h)
writes-wrong shape (a ∷ []) c even h = absurd even
writes-wrong shape (a ∷ b ∷ words) c even h = elim (after-err (pair_of shape.block a b) _ c h) [
  | inl e ↦ first_wrong shape a b words (pair_kinds (half words)) c ((pair-decides shape a b).wrong c e)
  | inr e ↦
      let p = (pair-decides shape a b).sound e.0 e.1 in
      inr ((p.0, p.1), inr ((p.2.0, p.2.1), writes-wrong shape words c even (with-err (e.0 ∷ []) (writes_of shape.block words) c e.2)))
]

pub writes-only : (shape : Shape) (ws : List Write) (words : List (List ℕ)) → AllZip (Spells shape) (flat_map pair_values ws) words → writes_of shape.block words ≡ Ok ws
unfolding writes_of
writes-only shape [] [] w = refl
writes-only shape [] (a ∷ words) w = absurd w
writes-only shape (v ∷ ws) [] w = absurd w
writes-only shape (v ∷ ws) (a ∷ []) w = absurd (w.1)
writes-only shape (v ∷ ws) (a ∷ b ∷ words) w =
    ap (λ p. after p (λ u. with_writes (u ∷ []) (writes_of shape.block words))) ((pair-decides shape a b).only v (v.block, w.0, (v.bytes, w.1.0, refl)))
    ∙ ap (with_writes (v ∷ [])) (writes-only shape ws words w.1.1)

-- ---- the whole write

pub spelled-length : (shape : Shape) (ws : List Write) (words : List (List ℕ)) → AllZip (Spells shape) (flat_map pair_values ws) words → length words ≡ 2 * length ws
spelled-length shape [] [] w = refl
spelled-length shape [] (a ∷ words) w = absurd w
spelled-length shape (v ∷ ws) [] w = absurd w
spelled-length shape (v ∷ ws) (a ∷ []) w = absurd (w.1)
spelled-length shape (v ∷ ws) (a ∷ b ∷ words) w = let e = spelled-length shape ws words w.1.1 in omega (arith, e)

oddly : (words : List (List ℕ)) → length words % 2 ≡ 1 → IsForm (codes "write") words → ⊥
oddly words odd form =
    let same = same_keyword keyword.Write form.first form.named in
    let are = subst (λ f. AreKinds f form.kinds) (sym same) form.are_kinds in
    odd_not are.0 (length words) odd (sym (kinds-length are.0) ∙ (ap length (sym are.1) ∙ form.as_many))

batch-ok : (r : Result (List Write) Cause) (e : Event) → after r (λ batch. Ok (event.Write batch)) ≡ Ok e → (ws : List Write) × (r ≡ Ok ws) × (event.Write ws ≡ e)
batch-ok (Ok ws) e h = (ws, refl, same_ok {E = Cause} _ _ h)
batch-ok (Err c) e h = absurd (ok-err e c (sym h))

batch-err : (r : Result (List Write) Cause) (c : Cause) → after r (λ batch. Ok (event.Write batch)) ≡ Err c → r ≡ Err c
batch-err (Ok ws) c h = absurd (ok-err (event.Write ws) c h)
batch-err (Err d) c h = ap Err (same_err {X = Event} d c h)

write-sound : (shape : Shape) (words : List (List ℕ)) (e : Event) → write_of shape.block words ≡ Ok e → IsOf shape keyword.Write words e
unfolding write_of
write-sound shape words e h = elim (chosen (ltb 128 (length words)) _ _ _ h) [
  | inl w ↦ absurd (ok-err e cause.Long (sym w.1))
  | inr w ↦ elim (chosen (eqb (length words) 0) _ _ _ w.1) [
    | inl v ↦ absurd (ok-err e cause.Empty (sym v.1))
    | inr v ↦ elim (chosen (eqb (length words % 2) 1) _ _ _ v.1) [
      | inl u ↦ absurd (ok-err e cause.Word (sym u.1))
      | inr u ↦
          let p = batch-ok (writes_of shape.block words) e u.1 in
          let spelled = writes-sound shape words p.0 p.1 in
          let long = spelled-length shape p.0 words spelled in
          let few = ltb-false 128 (length words) w.0 in
          let some = eqb-false (length words) 0 v.0 in
          subst (IsOf shape keyword.Write words) p.2 (refl, spelled, (omega (arith, long, some), omega (arith, long, few)))
    ]
  ]
]

write-wrong : (shape : Shape) (words : List (List ℕ)) (c : Cause) → write_of shape.block words ≡ Err c → IsWrongHere shape (codes "write") words c
unfolding write_of
write-wrong shape words c h = elim (chosen (ltb 128 (length words)) _ _ _ h) [
  | inl w ↦ inl (sym (same_err {X = Event} _ _ w.1), (refl, ltb-true 128 (length words) w.0))
  | inr w ↦ elim (chosen (eqb (length words) 0) _ _ _ w.1) [
    | inl v ↦ inr (inl (sym (same_err {X = Event} _ _ v.1), (refl, no-words words (eqb-true (length words) 0 v.0))))
    | inr v ↦
        let few = ltb-false 128 (length words) w.0 in
        let some = eqb-false (length words) 0 v.0 in
        let not_long : IsLongWrite (codes "write") words → ⊥ = λ long. let many = long.1 in omega (arith, few, many) in
        let not_empty : IsEmptyWrite (codes "write") words → ⊥ = λ empty. some (ap length empty.1) in
        elim (chosen (eqb (length words % 2) 1) _ _ _ v.1) [
          | inl u ↦ inr (inr (inl (sym (same_err {X = Event} _ _ u.1), not_long, not_empty, oddly words (eqb-true (length words % 2) 1 u.0))))
          | inr u ↦
              let even = odd_or_even words (eqb-false (length words % 2) 1 u.0) in
              inr (inr (inr (
                not_long,
                not_empty,
                record {
                  form = record { first = keyword.Write; kinds = pair_kinds (half words); named = refl; are_kinds = (half words, refl); as_many = half-length words even };
                  wrong = writes-wrong shape words c even (batch-err (writes_of shape.block words) c u.1);
                },
              )))
        ]
  ]
]
  where
    no-words : (l : List (List ℕ)) → length l ≡ 0 → l ≡ []
    no-words [] e = refl
    no-words (a ∷ l) e = absurd (omega (arith, e))

pub write-reads : (shape : Shape) (words : List (List ℕ)) → Reads (write_of shape.block words) (IsOf shape keyword.Write words) (IsWrongHere shape (codes "write") words)
write-reads shape words = record { sound = write-sound shape words; wrong = write-wrong shape words }

pub write-only : (shape : Shape) (ws : List Write) (words : List (List ℕ)) → AllZip (Spells shape) (flat_map pair_values ws) words → 1 ≤ length ws → length ws ≤ 64
    → write_of shape.block words ≡ Ok (event.Write ws)
unfolding write_of
write-only shape ws words w some few =
    let long = spelled-length shape ws words w in
    pick_false (ltb 128 (length words)) _ _ (le-ltb 128 (length words) (omega (arith, long, few)))
    ∙ (pick_false (eqb (length words) 0) _ _ (ne_eqb (length words) 0 (λ e. omega (arith, long, some, e)))
    ∙ (pick_false (eqb (length words % 2) 1) _ _ (ne_eqb (length words % 2) 1 (λ e. odd_not (length ws) (length words) e (sym long)))
    ∙ ap (λ r. after r (λ batch. Ok (event.Write batch))) (writes-only shape ws words w)))
