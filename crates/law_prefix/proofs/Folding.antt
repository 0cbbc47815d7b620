-- Folding moves the base along the linked parts: what is left links from it, and as much is reached.
use Rattle.std.proofs.Common.{◌≡◌, ℕ, suc, ◌≤◌, ◌<◌, max, Bool, true, false, cond, nat_le, List, [], ◌∷◌, refl, sym, ap, ◌∙◌, arith, le_refl, leb-true, leb-false, subst₂}
use Rattle.std.proofs.lemmas.Bool.{cond-false, lt-leb}
use Rattle.law_prefix.specs.Numbers.{number}
use Rattle.law_prefix.specs.Images.{Part, IsLinked, reach, folded_place, folded_parts}
use Rattle.law_prefix.proofs.Counting.{number_touched}
use Rattle.law_prefix.proofs.Linking.{part_past}

-- parts past F stay
none_folded : (bs : List (List ℕ)) (n g F at place : ℕ) (ps : List Part) → F ≤ at → IsLinked bs n g at ps
    → (folded_place F place ps ≡ place) × (folded_parts F ps ≡ ps)
unfolding IsLinked folded_place folded_parts
none_folded bs n g F at place [] h linked = (refl, refl)
none_folded bs n g F at place (p ∷ ps) h linked =
    let past : at ≤ p.before = part_past bs n g at p linked.0 linked.1 in
    let high : F < suc p.before = omega arith in
    let e : nat_le (suc p.before) F ≡ false = lt-leb (suc p.before) F high in
    let later : F ≤ suc p.before = omega arith in
    let rest : (folded_place F place ps ≡ place) × (folded_parts F ps ≡ ps) = none_folded bs n g F (suc p.before) place ps later linked.2 in (
      cond-false (nat_le (suc p.before) F) (folded_place F (suc p.before) ps) (folded_place F place ps) e ∙ rest.0,
      cond-false (nat_le (suc p.before) F) (folded_parts F ps) (p ∷ folded_parts F ps) e ∙ ap (λ l. p ∷ l) rest.1,
    )

pub record FoldsWell (bs : List (List ℕ)) (n g F at : ℕ) (ps : List Part) (place : ℕ) (left : List Part) : Type 0 where
  pub linked : IsLinked bs n g place left
  pub reached : reach place left ≡ reach at ps
  pub above : at ≤ place
  pub low : place ≤ max at F
  pub is_number : number bs n place g ≡ place

folds_one : (bs : List (List ℕ)) (n g F at : ℕ) (p : Part) (ps : List Part) → number bs n at g ≡ at → IsLinked bs n g at (p ∷ ps)
    → (number bs n (suc p.before) g ≡ suc p.before → FoldsWell bs n g F (suc p.before) ps (folded_place F (suc p.before) ps) (folded_parts F ps))
    → (b : Bool) → nat_le (suc p.before) F ≡ b
    → FoldsWell bs n g F at (p ∷ ps) (cond b (folded_place F (suc p.before) ps) (folded_place F at ps)) (cond b (folded_parts F ps) (p ∷ folded_parts F ps))
unfolding IsLinked reach
folds_one bs n g F at p ps start linked lower true e =
    let past : at ≤ p.before = part_past bs n g at p linked.0 linked.1 in
    let small : suc p.before ≤ F = leb-true (suc p.before) F e in
    let here : number bs n (suc p.before) g ≡ suc p.before = number_touched bs n p.before g linked.0.after_start linked.0.touched in
    let rest : FoldsWell bs n g F (suc p.before) ps (folded_place F (suc p.before) ps) (folded_parts F ps) = lower here in
    let up : suc p.before ≤ folded_place F (suc p.before) ps = rest.above in
    let down : folded_place F (suc p.before) ps ≤ max (suc p.before) F = rest.low in
    record { linked = rest.linked; reached = rest.reached; above = omega arith; low = omega arith; is_number = rest.is_number }
folds_one bs n g F at p ps start linked lower false e =
    let past : at ≤ p.before = part_past bs n g at p linked.0 linked.1 in
    let high : F < suc p.before = leb-false (suc p.before) F e in
    let below : F ≤ suc p.before = omega arith in
    let none : (folded_place F at ps ≡ at) × (folded_parts F ps ≡ ps) = none_folded bs n g F (suc p.before) at ps below linked.2 in
    subst₂ (λ x l. FoldsWell bs n g F at (p ∷ ps) x (p ∷ l)) (sym none.0) (sym none.1)
    (record { linked = linked; reached = refl; above = le_refl at; low = omega arith; is_number = start })

pub folds_well : (bs : List (List ℕ)) (n g F at : ℕ) (ps : List Part) → number bs n at g ≡ at → IsLinked bs n g at ps
    → FoldsWell bs n g F at ps (folded_place F at ps) (folded_parts F ps)
unfolding IsLinked reach folded_place folded_parts
folds_well bs n g F at [] start linked = record { linked = tt; reached = refl; above = le_refl at; low = omega arith; is_number = start }
folds_well bs n g F at (p ∷ ps) start linked =
    folds_one bs n g F at p ps start linked (λ here. folds_well bs n g F (suc p.before) ps here linked.2) (nat_le (suc p.before) F) refl
