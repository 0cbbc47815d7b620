-- A path that meets a subtree: it climbs through the closed subtree over its place.
use Rattle.std.proofs.Common.{◌≡◌, ℕ, zero, suc, ◌+◌, ◌-◌, ◌^◌, ◌<◌, ◌≤◌, ◌∙◌, List, length, take, drop, refl, ap, sym, subst, inl, inr, arith, length-take}
use Rattle.std.proofs.Math.Numerals.{sub-one}
use Rattle.std.proofs.lemmas.Bool.{cases_lt}
use Rattle.salus_hash.specs.Hash.{inner}
use Rattle.merkle_region.specs.Tree.{climb, climb_strings, NoTwoCollide}
use Rattle.merkle_region.proofs.Membership.{among_left, among_right}
use Rattle.merkle_pruned.specs.Subtree.{Subtree, Closed, Opened, digest_of, opened_strings, closed_over, AgreesOn, IsSound}
use Rattle.merkle_pruned.specs.Path.{path_subtree, grafted, Meets}
use Rattle.merkle_pruned.proofs.Halves.{closed_over-left, closed_over-right, grafted-left, grafted-right, within_right, length-digest_of, digest_of-agrees}
use Rattle.merkle_pruned.proofs.Climbing.{climb-high, AllAmong, through_left, through_right}
use Rattle.merkle_pruned.proofs.Opening.{path_subtree-digest}

pub closed_over-height : (p : Subtree) (h i : ℕ) → (closed_over p h i).0 ≤ h
closed_over-height (Closed d) h i = omega arith
closed_over-height (Opened l r) h i = elim (cases_lt i (2 ^ (h - 1))) [
  | inl below ↦ let lower = closed_over-height l (h - 1) i in let here = ap (λ (q : ℕ × List ℕ). q.0) (closed_over-left l r h i below) in omega arith
  | inr above ↦
      let lower = closed_over-height r (h - 1) (i - 2 ^ (h - 1)) in
      let here = ap (λ (q : ℕ × List ℕ). q.0) (closed_over-right l r h i above) in
      omega arith
]

module _ (l r : Subtree) (h i : ℕ) (leaf : List ℕ) (path : List (List ℕ)) where
  -- in the left half
  pub meets_left : i < 2 ^ (h - 1) → Meets (Opened l r) h i leaf path → Meets l (h - 1) i leaf path
  meets_left below m = subst (λ (q : ℕ × List ℕ). q.1 ≡ climb i leaf (take q.0 path)) (closed_over-left l r h i below) m

  pub meets_from_left : i < 2 ^ (h - 1) → Meets l (h - 1) i leaf path → Meets (Opened l r) h i leaf path
  meets_from_left below m = subst (λ (q : ℕ × List ℕ). q.1 ≡ climb i leaf (take q.0 path)) (sym (closed_over-left l r h i below)) m

  same_climb : 2 ^ (h - 1) ≤ i → (k : ℕ) → k ≤ h - 1 → climb i leaf (take k path) ≡ climb (i - 2 ^ (h - 1)) leaf (take k path)
  same_climb above k few =
      let e : i - 2 ^ (h - 1) + 2 ^ (h - 1) ≡ i = omega arith in
      ap (λ j. climb j leaf (take k path)) (sym e)
      ∙ climb-high (i - 2 ^ (h - 1)) (h - 1) leaf (take k path) (omega (arith, length-take k path))

  -- in the right one
  pub meets_right : 2 ^ (h - 1) ≤ i → Meets (Opened l r) h i leaf path → Meets r (h - 1) (i - 2 ^ (h - 1)) leaf path
  meets_right above m =
      subst (λ (q : ℕ × List ℕ). q.1 ≡ climb i leaf (take q.0 path)) (closed_over-right l r h i above) m
      ∙ same_climb above (closed_over r (h - 1) (i - 2 ^ (h - 1))).0 (closed_over-height r (h - 1) (i - 2 ^ (h - 1)))

  pub meets_from_right : 2 ^ (h - 1) ≤ i → Meets r (h - 1) (i - 2 ^ (h - 1)) leaf path → Meets (Opened l r) h i leaf path
  meets_from_right above m =
      subst (λ (q : ℕ × List ℕ). q.1 ≡ climb i leaf (take q.0 path)) (sym (closed_over-right l r h i above))
      (m ∙ sym (same_climb above (closed_over r (h - 1) (i - 2 ^ (h - 1))).0 (closed_over-height r (h - 1) (i - 2 ^ (h - 1)))))

-- a path that meets a subtree leaves its digest
pub grafted-digest : (p : Subtree) (h i : ℕ) (leaf : List ℕ) (path : List (List ℕ)) → IsSound p h → i < 2 ^ h → h ≤ length path
    → Meets p h i leaf path → digest_of (grafted p h i leaf path) ≡ digest_of p
grafted-digest (Closed d) h i leaf path sound within levels meets = path_subtree-digest h i leaf path within levels ∙ sym meets
grafted-digest (Opened l r) h i leaf path sound within levels meets = elim (cases_lt i (2 ^ (h - 1))) [
  | inl below ↦
      ap digest_of (grafted-left l r h i leaf path below)
      ∙ ap (λ d. inner d (digest_of r)) (grafted-digest l (h - 1) i leaf path sound.1 below (omega arith) (meets_left l r h i leaf path below meets))
  | inr above ↦
      ap digest_of (grafted-right l r h i leaf path above)
      ∙ ap (λ d. inner (digest_of l) d)
      (grafted-digest r (h - 1) (i - 2 ^ (h - 1)) leaf path sound.2 (within_right h i sound.0 within above) (omega arith) (meets_right l r h i leaf path above meets))
]

-- and then no list agrees that didn't
pub grafted-agreed : (p : Subtree) (h i : ℕ) (leaf : List ℕ) (path : List (List ℕ)) (blocks : List (List ℕ)) → IsSound p h → i < 2 ^ h → h ≤ length path
    → Meets p h i leaf path → AgreesOn (grafted p h i leaf path) h blocks → AgreesOn p h blocks
grafted-agreed (Closed d) h i leaf path blocks sound within levels meets agrees =
    meets ∙ (sym (path_subtree-digest h i leaf path within levels) ∙ digest_of-agrees (path_subtree h i leaf path) h blocks agrees)
grafted-agreed (Opened l r) h i leaf path blocks sound within levels meets agrees = elim (cases_lt i (2 ^ (h - 1))) [
  | inl below ↦
      let parts = subst (λ q. AgreesOn q h blocks) (grafted-left l r h i leaf path below) agrees in (
        parts.0,
        grafted-agreed l (h - 1) i leaf path (take (2 ^ (h - 1)) blocks) sound.1 below (omega arith) (meets_left l r h i leaf path below meets) parts.1,
        parts.2,
      )
  | inr above ↦
      let parts = subst (λ q. AgreesOn q h blocks) (grafted-right l r h i leaf path above) agrees in (
        parts.0,
        parts.1,
        grafted-agreed r (h - 1) (i - 2 ^ (h - 1)) leaf path (drop (2 ^ (h - 1)) blocks) sound.2 (within_right h i sound.0 within above) (omega arith)
            (meets_right l r h i leaf path above meets) parts.2,
      )
]

-- where no strings collide, a path that leads to the subtree's digest meets it
pub meets : (strings : List (List ℕ)) → NoTwoCollide strings → (p : Subtree) (h i : ℕ) (leaf : List ℕ) (path : List (List ℕ)) → IsSound p h → i < 2 ^ h
    → h ≤ length path → length leaf ≡ 32 → AllAmong (opened_strings p) strings → AllAmong (climb_strings i leaf (take h path)) strings
    → climb i leaf (take h path) ≡ digest_of p → Meets p h i leaf path
meets strings none (Closed d) h i leaf path sound within levels bytes known seen reached = sym reached
meets strings none (Opened l r) zero i leaf path sound within levels bytes known seen reached = absurd (omega arith)
meets strings none (Opened l r) (suc h) i leaf path sound within levels bytes known seen reached = elim (cases_lt i (2 ^ h)) [
  | inl below ↦
      let low : i < 2 ^ (suc h - 1) = rw sub-one below in
      let left : IsSound l h = rw sub-one at sound.1 in
      let through = through_left strings none h i leaf path (omega arith) bytes (digest_of l) (digest_of r) (known _ (inl refl)) seen reached below (length-digest_of l h left) in
      let lower : Meets l h i leaf path
      = meets strings none l h i leaf path left below (omega arith) bytes (λ x m. known x (inr (among_left x (opened_strings l) (opened_strings r) m))) through.2 through.0 in
      meets_from_left l r (suc h) i leaf path low (rw sub-one lower)
  | inr above ↦
      let high : 2 ^ (suc h - 1) ≤ i = rw sub-one above in
      let right : IsSound r h = rw sub-one at sound.2 in
      let through = through_right strings none h i leaf path (omega arith) bytes (digest_of l) (digest_of r) (known _ (inl refl)) seen reached above within (length-digest_of r h right) in
      let inside : i - 2 ^ h < 2 ^ h = rw sub-one at (within_right (suc h) i (omega arith) within high) in
      let lower : Meets r h (i - 2 ^ h) leaf path
      = meets strings none r h (i - 2 ^ h) leaf path right inside (omega arith) bytes (λ x m. known x (inr (among_right x (opened_strings l) (opened_strings r) m))) through.2 through.0 in
      meets_from_right l r (suc h) i leaf path high (rw sub-one lower)
]
