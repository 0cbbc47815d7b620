-- Where no strings collide, a subtree that agrees with blocks still agrees with them once a path that leads to their root is grafted.
use Rattle.std.proofs.Common.{◌≡◌, ℕ, zero, suc, ◌-◌, ◌^◌, ◌<◌, ◌≤◌, ◌∙◌, List, [], length, take, drop, get_or, refl, ap, sym, subst, inl, inr, arith}
use Rattle.std.proofs.Math.Numerals.{sub-one}
use Rattle.std.proofs.lemmas.Bool.{cases_lt}
use Rattle.merkle_region.specs.Tree.{root_of, tree_strings, climb, climb_strings, NoTwoCollide}
use Rattle.merkle_region.proofs.Carried.{length-root_of}
use Rattle.merkle_region.proofs.Membership.{among_left, among_right}
use Rattle.merkle_pruned.specs.Subtree.{Subtree, Closed, Opened, AgreesOn}
use Rattle.merkle_pruned.specs.Path.{path_subtree, grafted}
use Rattle.merkle_pruned.proofs.Halves.{grafted-left, grafted-right}
use Rattle.merkle_pruned.proofs.Climbing.{AllAmong, through_left, through_right}
use Rattle.merkle_pruned.proofs.Opening.{path_subtree-left, path_subtree-right, inside_right}

-- the two halves of an opened subtree, at a height above 0
halves : (l r : Subtree) (h : ℕ) (blocks : List (List ℕ)) → AgreesOn l h (take (2 ^ h) blocks) → AgreesOn r h (drop (2 ^ h) blocks)
    → AgreesOn (Opened l r) (suc h) blocks
halves l r h blocks left right = (omega arith, rw sub-one left, rw sub-one right)

module _ (strings : List (List ℕ)) (none : NoTwoCollide strings) (leaf : List ℕ) (path : List (List ℕ)) (bytes : length leaf ≡ 32) where
  pub path_agrees : (h i : ℕ) (blocks : List (List ℕ)) → i < 2 ^ h → h ≤ length path
      → AllAmong (tree_strings h blocks) strings → AllAmong (climb_strings i leaf (take h path)) strings
      → climb i leaf (take h path) ≡ root_of h blocks → AgreesOn (path_subtree h i leaf path) h blocks
  unfolding path_subtree root_of tree_strings climb
  path_agrees zero i blocks within levels known seen reached = reached
  path_agrees (suc h) i blocks within levels known seen reached = elim (cases_lt i (2 ^ h)) [
    | inl below ↦
        let through = through_left strings none h i leaf path (omega arith) bytes (root_of h (take (2 ^ h) blocks)) (root_of h (drop (2 ^ h) blocks))
        (known _ (inl refl)) seen reached below (length-root_of h (take (2 ^ h) blocks)) in
        subst (λ p. AgreesOn p (suc h) blocks) (sym (path_subtree-left h i leaf path below))
        (halves (path_subtree h i leaf path) (Closed (get_or path h [])) h blocks
        (path_agrees h i (take (2 ^ h) blocks) below (omega arith)
        (λ x m. known x (inr (among_left x (tree_strings h (take (2 ^ h) blocks)) (tree_strings h (drop (2 ^ h) blocks)) m))) through.2 through.0)
        through.1)
    | inr above ↦
        let through = through_right strings none h i leaf path (omega arith) bytes (root_of h (take (2 ^ h) blocks)) (root_of h (drop (2 ^ h) blocks))
        (known _ (inl refl)) seen reached above within (length-root_of h (drop (2 ^ h) blocks)) in
        subst (λ p. AgreesOn p (suc h) blocks) (sym (path_subtree-right h i leaf path above))
        (halves (Closed (get_or path h [])) (path_subtree h (i - 2 ^ h) leaf path) h blocks through.1
        (path_agrees h (i - 2 ^ h) (drop (2 ^ h) blocks) (inside_right h i within above) (omega arith)
        (λ x m. known x (inr (among_right x (tree_strings h (take (2 ^ h) blocks)) (tree_strings h (drop (2 ^ h) blocks)) m))) through.2 through.0))
  ]

  pub grafted-agrees : (p : Subtree) (h i : ℕ) (blocks : List (List ℕ)) → i < 2 ^ h → h ≤ length path
      → AllAmong (tree_strings h blocks) strings → AllAmong (climb_strings i leaf (take h path)) strings
      → climb i leaf (take h path) ≡ root_of h blocks → AgreesOn p h blocks → AgreesOn (grafted p h i leaf path) h blocks
  unfolding root_of tree_strings
  grafted-agrees (Closed d) h i blocks within levels known seen reached agrees = path_agrees h i blocks within levels known seen reached
  grafted-agrees (Opened l r) zero i blocks within levels known seen reached agrees = absurd (omega (arith, agrees.0))
  grafted-agrees (Opened l r) (suc h) i blocks within levels known seen reached agrees = elim (cases_lt i (2 ^ h)) [
    | inl below ↦
        let through = through_left strings none h i leaf path (omega arith) bytes (root_of h (take (2 ^ h) blocks)) (root_of h (drop (2 ^ h) blocks))
        (known _ (inl refl)) seen reached below (length-root_of h (take (2 ^ h) blocks)) in
        let low : i < 2 ^ (suc h - 1) = rw sub-one below in
        let same : grafted (Opened l r) (suc h) i leaf path ≡ Opened (grafted l h i leaf path) r = grafted-left l r (suc h) i leaf path low ∙ ap (λ k. Opened (grafted l k i leaf path) r) (sub-one (suc h)) in
        subst (λ p. AgreesOn p (suc h) blocks) (sym same)
        (halves (grafted l h i leaf path) r h blocks
        (grafted-agrees l h i (take (2 ^ h) blocks) below (omega arith)
        (λ x m. known x (inr (among_left x (tree_strings h (take (2 ^ h) blocks)) (tree_strings h (drop (2 ^ h) blocks)) m))) through.2 through.0 (rw sub-one at agrees.1))
        (rw sub-one at agrees.2))
    | inr above ↦
        let through = through_right strings none h i leaf path (omega arith) bytes (root_of h (take (2 ^ h) blocks)) (root_of h (drop (2 ^ h) blocks))
        (known _ (inl refl)) seen reached above within (length-root_of h (drop (2 ^ h) blocks)) in
        let high : 2 ^ (suc h - 1) ≤ i = rw sub-one above in
        let same : grafted (Opened l r) (suc h) i leaf path ≡ Opened l (grafted r h (i - 2 ^ h) leaf path) = grafted-right l r (suc h) i leaf path high ∙ ap (λ k. Opened l (grafted r k (i - 2 ^ k) leaf path)) (sub-one (suc h)) in
        subst (λ p. AgreesOn p (suc h) blocks) (sym same)
        (halves l (grafted r h (i - 2 ^ h) leaf path) h blocks (rw sub-one at agrees.1)
        (grafted-agrees r h (i - 2 ^ h) (drop (2 ^ h) blocks) (inside_right h i within above) (omega arith)
        (λ x m. known x (inr (among_right x (tree_strings h (take (2 ^ h) blocks)) (tree_strings h (drop (2 ^ h) blocks)) m))) through.2 through.0 (rw sub-one at agrees.2)))
  ]
