-- What stands before the first separator and after it.
use Rattle.std.proofs.Common.{◌≡◌, ℕ, ◌<◌, Bool, true, false, cond, not, eqb, List, [], ◌∷◌, ◌++◌, length, refl, ap, ◌∙◌, arith}
use Rattle.std.specs.List.{list_all}
use Rattle.std.proofs.lemmas.Bool.{and_parts, not-true, eqb-true, eqb-false, ne_eqb, eq-eqb}
use Rattle.text_words.specs.Reading.{front, past}
use Rattle.text_words.specs.Grammar.{Lacks}
use Rattle.text_words.proofs.Settled.{pick_true, pick_false}

pub all_lack : (b : ℕ) (bytes : List ℕ) → list_all (λ c. not (eqb c b)) bytes ≡ true → Lacks b bytes
all_lack b [] h = tt
all_lack b (c ∷ bytes) h =
    let p = and_parts (not (eqb c b)) (list_all (λ d. not (eqb d b)) bytes) h in
    (eqb-false c b (not-true (eqb c b) p.0), all_lack b bytes p.1)

front_step : (separator b : ℕ) (rest : List ℕ) (t : Bool) → eqb b separator ≡ t → Lacks separator rest → Lacks separator (cond t [] (b ∷ rest))
front_step separator b rest true e w = tt
front_step separator b rest false e w = (eqb-false b separator e, w)

pub front_lacks : (separator : ℕ) (bytes : List ℕ) → Lacks separator (front separator bytes)
unfolding front
front_lacks separator [] = tt
front_lacks separator (b ∷ bytes) = front_step separator b (front separator bytes) (eqb b separator) refl (front_lacks separator bytes)

back_step : (separator b : ℕ) (bytes before after : List ℕ) (t : Bool) → eqb b separator ≡ t
    → (0 < length after → bytes ≡ before ++ separator ∷ after)
    → 0 < length (cond t bytes after) → b ∷ bytes ≡ cond t [] (b ∷ before) ++ separator ∷ cond t bytes after
back_step separator b bytes before after true e h there = ap (λ c. c ∷ bytes) (eqb-true b separator e)
back_step separator b bytes before after false e h there = ap (λ l. b ∷ l) (h there)

pub split_back : (separator : ℕ) (bytes : List ℕ) → 0 < length (past separator bytes) → bytes ≡ front separator bytes ++ separator ∷ past separator bytes
unfolding front past
split_back separator [] there = absurd (omega (arith, there))
split_back separator (b ∷ bytes) there = back_step separator b bytes _ _ (eqb b separator) refl (split_back separator bytes) there

pub front_at : (separator : ℕ) (word rest : List ℕ) → Lacks separator word → front separator (word ++ separator ∷ rest) ≡ word
unfolding front
front_at separator [] rest w = pick_true (eqb separator separator) _ _ (eq-eqb separator separator refl)
front_at separator (b ∷ word) rest w = pick_false (eqb b separator) _ _ (ne_eqb b separator w.0) ∙ ap (λ l. b ∷ l) (front_at separator word rest w.1)

pub past_at : (separator : ℕ) (word rest : List ℕ) → Lacks separator word → past separator (word ++ separator ∷ rest) ≡ rest
unfolding past
past_at separator [] rest w = pick_true (eqb separator separator) _ _ (eq-eqb separator separator refl)
past_at separator (b ∷ word) rest w = pick_false (eqb b separator) _ _ (ne_eqb b separator w.0) ∙ past_at separator word rest w.1

pub append_there : (before : List ℕ) (b : ℕ) (after : List ℕ) → 0 < length (before ++ b ∷ after)
append_there [] b after = omega arith
append_there (c ∷ before) b after = omega arith
