-- What a step of a reader's loop does to what is left.
use Rattle.std.proofs.Common.{◌≡◌, ℕ, ◌+◌, ◌-◌, ◌<◌, ◌≤◌, Bool, true, false, cond, eqb, not, List, [], ◌∷◌, ◌++◌, length, take, drop, refl, sym, ap, ◌∙◌, arith, append_assoc}
use Rattle.std.specs.Prelude.{suc, Option, None, Some, position, ◌==◌}
use Rattle.std.specs.List.{position_or_len, before_first, after_first}
use Rattle.std.proofs.lemmas.List.{take_all, take_rest, drop_all}
use Rattle.std.proofs.lemmas.Bool.{ltb-false}
use Rattle.text_words.specs.Reading.{front, past, onto_first_line, lines_left, prefixed, pairs_of, pair_of, onto}

-- ---- the first separator

take_step : (t : Bool) (b n : ℕ) (bytes rest : List ℕ) → take n bytes ≡ rest → take (cond (not t) (1 + n) 0) (b ∷ bytes) ≡ cond t [] (b ∷ rest)
take_step true b n bytes rest e = refl
take_step false b n bytes rest e =
    let more : 1 + n ≡ suc n = omega arith in
    ap (λ k. take k (b ∷ bytes)) more ∙ ap (λ l. b ∷ l) e

pub before_is_front : (separator : ℕ) (bytes : List ℕ) → before_first (λ b. b == separator) bytes ≡ front separator bytes
unfolding front
before_is_front separator [] = refl
before_is_front separator (b ∷ bytes) = take_step (eqb b separator) b _ bytes _ (before_is_front separator bytes)

drop_step : (t : Bool) (b n : ℕ) (bytes rest : List ℕ) → drop (n + 1) bytes ≡ rest → drop (cond (not t) (1 + n) 0 + 1) (b ∷ bytes) ≡ cond t bytes rest
drop_step true b n bytes rest e = refl
drop_step false b n bytes rest e =
    let more : 1 + n + 1 ≡ suc (n + 1) = omega arith in
    ap (λ k. drop k (b ∷ bytes)) more ∙ e

pub after_is_past : (separator : ℕ) (bytes : List ℕ) → after_first (λ b. b == separator) bytes ≡ past separator bytes
unfolding past
after_is_past separator [] = refl
after_is_past separator (b ∷ bytes) = drop_step (eqb b separator) b _ bytes _ (after_is_past separator bytes)

found : (t : Bool) (m end : ℕ) → Some end ≡ cond t (Some m) None → end ≡ m
found true m end h = cc
found false m end h = absurd (cc)

none : (t : Bool) (m : ℕ) → None ≡ cond t (Some m) None → t ≡ false
none true m h = absurd (cc)
none false m h = refl

pub front-found : (separator end : ℕ) (xs : List ℕ) → Some end ≡ position (λ b. b == separator) xs → take end xs ≡ front separator xs
front-found separator end xs h = ap (λ n. take n xs) (found _ _ end h) ∙ before_is_front separator xs

pub past-found : (separator end : ℕ) (xs : List ℕ) → Some end ≡ position (λ b. b == separator) xs
    → take (length xs - (end + 1)) (drop (end + 1) xs) ≡ past separator xs
past-found separator end xs h = take_rest xs (end + 1) ∙ (ap (λ n. drop (n + 1) xs) (found _ _ end h) ∙ after_is_past separator xs)

lies_past : (separator : ℕ) (xs : List ℕ) → None ≡ position (λ b. b == separator) xs → length xs ≤ position_or_len (λ b. b == separator) xs
lies_past separator xs h = ltb-false _ _ (none _ _ h)

pub front-none : (separator : ℕ) (xs : List ℕ) → None ≡ position (λ b. b == separator) xs → xs ≡ front separator xs
front-none separator xs h = sym (take_all _ xs (lies_past separator xs h)) ∙ before_is_front separator xs

pub past-none : (separator : ℕ) (xs : List ℕ) → None ≡ position (λ b. b == separator) xs
    → take (length xs - length xs) (drop (length xs) xs) ≡ past separator xs
past-none separator xs h =
    let far = lies_past separator xs h in
    take_rest xs (length xs) ∙ (drop_all (length xs) xs (omega arith) ∙ (sym (drop_all (position_or_len (λ b. b == separator) xs + 1) xs (omega (arith, far))) ∙ after_is_past separator xs))

-- ---- lines

-- what stands before the first line end is a line, and the lines of the rest follow
line_step : (t : Bool) (b : ℕ) (bytes front_bytes past_bytes : List ℕ) (lines : List (List ℕ))
    → lines_left bytes ≡ front_bytes ∷ lines_left past_bytes
    → cond t ([] ∷ lines_left bytes) (onto_first_line b (lines_left bytes)) ≡ cond t [] (b ∷ front_bytes) ∷ lines_left (cond t bytes past_bytes)
line_step true b bytes front_bytes past_bytes lines e = refl
line_step false b bytes front_bytes past_bytes lines e = ap (onto_first_line b) e

last_step : (t : Bool) (b : ℕ) → cond t ([] ∷ lines_left []) (onto_first_line b (lines_left [])) ≡ cond t [] (b ∷ front 10 []) ∷ lines_left (cond t [] (past 10 []))
unfolding lines_left front past
last_step true b = refl
last_step false b = refl

pub lines_left_step : (b : ℕ) (bytes : List ℕ) → lines_left (b ∷ bytes) ≡ front 10 (b ∷ bytes) ∷ lines_left (past 10 (b ∷ bytes))
unfolding lines_left front past
lines_left_step b [] = last_step (eqb b 10) b
lines_left_step b (c ∷ bytes) = line_step (eqb b 10) b (c ∷ bytes) _ _ [] (lines_left_step c bytes)

past_le : (separator : ℕ) (bytes : List ℕ) → length (past separator bytes) ≤ length bytes
unfolding past
past_le separator [] = omega arith
past_le separator (b ∷ bytes) = by (eqb b separator) (past_le separator bytes)
  where
    by : (t : Bool) → length (past separator bytes) ≤ length bytes → length (cond t bytes (past separator bytes)) ≤ suc (length bytes)
    by true h = omega arith
    by false h = omega (arith, h)

pub past_lt : (separator : ℕ) (bytes : List ℕ) → 0 < length bytes → length (past separator bytes) < length bytes
unfolding past
past_lt separator [] h = absurd (omega (arith, h))
past_lt separator (b ∷ bytes) h = by (eqb b separator) (past_le separator bytes)
  where
    by : (t : Bool) → length (past separator bytes) ≤ length bytes → length (cond t bytes (past separator bytes)) < suc (length bytes)
    by true h = omega arith
    by false h = omega (arith, h)

-- ---- pairs of digits

pub prefixed-nil : (o : Option (List ℕ)) → prefixed [] o ≡ o
prefixed-nil None = refl
prefixed-nil (Some bytes) = refl

prefixed-push : (bytes : List ℕ) (b : ℕ) (o : Option (List ℕ)) → prefixed bytes (onto (Some b) o) ≡ prefixed (bytes ++ b ∷ []) o
prefixed-push bytes b None = refl
prefixed-push bytes b (Some more) = ap Some (sym (append_assoc bytes (b ∷ []) more))

-- one more pair is read
pub pairs-more : (bytes : List ℕ) (high low b : ℕ) (more : List ℕ) → Some b ≡ pair_of high low
    → prefixed bytes (pairs_of (high ∷ low ∷ more)) ≡ prefixed (bytes ++ b ∷ []) (pairs_of more)
unfolding pairs_of
pairs-more bytes high low b more e = ap (λ p. prefixed bytes (onto p (pairs_of more))) (sym e) ∙ prefixed-push bytes b (pairs_of more)

-- a pair that is none
pub pairs-wrong : (bytes : List ℕ) (high low : ℕ) (more : List ℕ) → None ≡ pair_of high low → None ≡ prefixed bytes (pairs_of (high ∷ low ∷ more))
unfolding pairs_of
pairs-wrong bytes high low more e = ap (λ p. prefixed bytes (onto p (pairs_of more))) e
