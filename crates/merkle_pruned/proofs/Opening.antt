-- A subtree that is opened along a path: what is there, what stays, and its digest.
use Rattle.std.proofs.Common.{◌≡◌, ◌≢◌, ℕ, zero, suc, ◌-◌, ◌*◌, ◌^◌, ◌<◌, ◌≤◌, ◌∙◌, List, [], length, get_or, take, nat_lt, refl, ap, sym, inl, inr, arith}
use Rattle.std.proofs.Math.Nat.{pow-suc}
use Rattle.std.proofs.Math.Numerals.{sub-one}
use Rattle.std.proofs.lemmas.Bool.{cases_lt, cond-true, cond-false, lt-ltb, le-ltb}
use Rattle.salus_hash.specs.Hash.{inner}
use Rattle.merkle_region.specs.Tree.{climb}
use Rattle.merkle_pruned.specs.Subtree.{Subtree, Closed, Opened, digest_of, closed_over, IsSound}
use Rattle.merkle_pruned.specs.Path.{path_subtree, grafted}
use Rattle.merkle_pruned.proofs.Halves.{closed_over-left, closed_over-right, grafted-left, grafted-right, within_right}
use Rattle.merkle_pruned.proofs.Climbing.{climb-left, climb-right}

module _ (h i : ℕ) (leaf : List ℕ) (path : List (List ℕ)) where
  pub path_subtree-left : i < 2 ^ h → path_subtree (suc h) i leaf path ≡ Opened (path_subtree h i leaf path) (Closed (get_or path h []))
  unfolding path_subtree
  path_subtree-left below = cond-true (nat_lt i (2 ^ h)) _ _ (lt-ltb i (2 ^ h) below)

  pub path_subtree-right : 2 ^ h ≤ i → path_subtree (suc h) i leaf path ≡ Opened (Closed (get_or path h [])) (path_subtree h (i - 2 ^ h) leaf path)
  unfolding path_subtree
  path_subtree-right above = cond-false (nat_lt i (2 ^ h)) _ _ (le-ltb i (2 ^ h) above)

-- a place of the right half, within that half
pub inside_right : (h i : ℕ) → i < 2 ^ suc h → 2 ^ h ≤ i → i - 2 ^ h < 2 ^ h
inside_right h i within above = let q : 2 ^ suc h ≡ 2 ^ h * 2 = pow-suc 2 h in omega arith

over_left : (l r : Subtree) (h i : ℕ) → i < 2 ^ h → closed_over (Opened l r) (suc h) i ≡ closed_over l h i
over_left l r h i below =
    let low : i < 2 ^ (suc h - 1) = rw sub-one below in
    closed_over-left l r (suc h) i low ∙ ap (λ k. closed_over l k i) (sub-one (suc h))

over_right : (l r : Subtree) (h i : ℕ) → 2 ^ h ≤ i → closed_over (Opened l r) (suc h) i ≡ closed_over r h (i - 2 ^ h)
over_right l r h i above =
    let high : 2 ^ (suc h - 1) ≤ i = rw sub-one above in
    closed_over-right l r (suc h) i high ∙ ap (λ k. closed_over r k (i - 2 ^ k)) (sub-one (suc h))

-- the leaf of a path is opens
pub path_subtree-there : (h i : ℕ) (leaf : List ℕ) (path : List (List ℕ)) → i < 2 ^ h → closed_over (path_subtree h i leaf path) h i ≡ (0, leaf)
unfolding path_subtree
path_subtree-there zero i leaf path within = refl
path_subtree-there (suc h) i leaf path within = elim (cases_lt i (2 ^ h)) [
  | inl below ↦
      ap (λ p. closed_over p (suc h) i) (path_subtree-left h i leaf path below)
      ∙ (over_left (path_subtree h i leaf path) (Closed (get_or path h [])) h i below ∙ path_subtree-there h i leaf path below)
  | inr above ↦
      ap (λ p. closed_over p (suc h) i) (path_subtree-right h i leaf path above)
      ∙ (over_right (Closed (get_or path h [])) (path_subtree h (i - 2 ^ h) leaf path) h i above
      ∙ path_subtree-there h (i - 2 ^ h) leaf path (inside_right h i within above))
]

-- its digest is what the leaf climbs to
pub path_subtree-digest : (h i : ℕ) (leaf : List ℕ) (path : List (List ℕ)) → i < 2 ^ h → h ≤ length path
    → digest_of (path_subtree h i leaf path) ≡ climb i leaf (take h path)
unfolding path_subtree climb
path_subtree-digest zero i leaf path within levels = refl
path_subtree-digest (suc h) i leaf path within levels = elim (cases_lt i (2 ^ h)) [
  | inl below ↦
      ap digest_of (path_subtree-left h i leaf path below)
      ∙ (ap (λ d. inner d (get_or path h [])) (path_subtree-digest h i leaf path below (omega arith))
      ∙ sym (climb-left h i leaf path (omega arith) below))
  | inr above ↦
      ap digest_of (path_subtree-right h i leaf path above)
      ∙ (ap (λ d. inner (get_or path h []) d) (path_subtree-digest h (i - 2 ^ h) leaf path (inside_right h i within above) (omega arith))
      ∙ sym (climb-right h i leaf path (omega arith) above within))
]

-- the leaf is there
pub grafted-there : (p : Subtree) (h i : ℕ) (leaf : List ℕ) (path : List (List ℕ)) → IsSound p h → i < 2 ^ h
    → closed_over (grafted p h i leaf path) h i ≡ (0, leaf)
grafted-there (Closed d) h i leaf path sound within = path_subtree-there h i leaf path within
grafted-there (Opened l r) h i leaf path sound within = elim (cases_lt i (2 ^ (h - 1))) [
  | inl below ↦
      ap (λ p. closed_over p h i) (grafted-left l r h i leaf path below)
      ∙ (closed_over-left (grafted l (h - 1) i leaf path) r h i below ∙ grafted-there l (h - 1) i leaf path sound.1 below)
  | inr above ↦
      ap (λ p. closed_over p h i) (grafted-right l r h i leaf path above)
      ∙ (closed_over-right l (grafted r (h - 1) (i - 2 ^ (h - 1)) leaf path) h i above
      ∙ grafted-there r (h - 1) (i - 2 ^ (h - 1)) leaf path sound.2 (within_right h i sound.0 within above))
]

-- every other open leaf stays
pub grafted-stays : (p : Subtree) (h i j : ℕ) (leaf : List ℕ) (path : List (List ℕ)) → IsSound p h → i < 2 ^ h → j < 2 ^ h → j ≢ i
    → (closed_over p h j).0 ≡ 0 → closed_over (grafted p h i leaf path) h j ≡ closed_over p h j
grafted-stays (Closed d) h i j leaf path sound within other ne opens = let e : h ≡ 0 = opens in absurd (ne (grind arith))
grafted-stays (Opened l r) h i j leaf path sound within other ne opens = elim (cases_lt i (2 ^ (h - 1))) [
  | inl below ↦
      ap (λ p. closed_over p h j) (grafted-left l r h i leaf path below)
      ∙ elim (cases_lt j (2 ^ (h - 1))) [
        | inl near ↦
            let lower : (closed_over l (h - 1) j).0 ≡ 0 = ap (λ (q : ℕ × List ℕ). q.0) (sym (closed_over-left l r h j near)) ∙ opens in
            closed_over-left (grafted l (h - 1) i leaf path) r h j near
            ∙ (grafted-stays l (h - 1) i j leaf path sound.1 below near ne lower ∙ sym (closed_over-left l r h j near))
        | inr far ↦ closed_over-right (grafted l (h - 1) i leaf path) r h j far ∙ sym (closed_over-right l r h j far)
      ]
  | inr above ↦
      ap (λ p. closed_over p h j) (grafted-right l r h i leaf path above)
      ∙ elim (cases_lt j (2 ^ (h - 1))) [
        | inl near ↦
            closed_over-left l (grafted r (h - 1) (i - 2 ^ (h - 1)) leaf path) h j near ∙ sym (closed_over-left l r h j near)
        | inr far ↦
            let lower : (closed_over r (h - 1) (j - 2 ^ (h - 1))).0 ≡ 0 = ap (λ (q : ℕ × List ℕ). q.0) (sym (closed_over-right l r h j far)) ∙ opens in
            let ne2 : j - 2 ^ (h - 1) ≢ i - 2 ^ (h - 1) = λ e. ne (omega arith) in
            closed_over-right l (grafted r (h - 1) (i - 2 ^ (h - 1)) leaf path) h j far
            ∙ (grafted-stays r (h - 1) (i - 2 ^ (h - 1)) (j - 2 ^ (h - 1)) leaf path sound.2 (within_right h i sound.0 within above)
            (within_right h j sound.0 other far) ne2 lower
            ∙ sym (closed_over-right l r h j far))
      ]
]

-- the same over a height that isn't written as a successor
pub path_subtree-leaf : (h i : ℕ) (leaf : List ℕ) (path : List (List ℕ)) → h ≡ 0 → path_subtree h i leaf path ≡ Closed leaf
unfolding path_subtree
path_subtree-leaf zero i leaf path e = refl
path_subtree-leaf (suc h) i leaf path e = absurd (omega arith)

pub path_subtree-low : (h i : ℕ) (leaf : List ℕ) (path : List (List ℕ)) → 0 < h → i < 2 ^ (h - 1)
    → path_subtree h i leaf path ≡ Opened (path_subtree (h - 1) i leaf path) (Closed (get_or path (h - 1) []))
path_subtree-low zero i leaf path p below = absurd (omega arith)
path_subtree-low (suc h) i leaf path p below =
    path_subtree-left h i leaf path (rw sub-one at below)
    ∙ ap (λ k. Opened (path_subtree k i leaf path) (Closed (get_or path k []))) (sym (sub-one (suc h)))

pub path_subtree-high : (h i : ℕ) (leaf : List ℕ) (path : List (List ℕ)) → 0 < h → 2 ^ (h - 1) ≤ i
    → path_subtree h i leaf path ≡ Opened (Closed (get_or path (h - 1) [])) (path_subtree (h - 1) (i - 2 ^ (h - 1)) leaf path)
path_subtree-high zero i leaf path p above = absurd (omega arith)
path_subtree-high (suc h) i leaf path p above =
    path_subtree-right h i leaf path (rw sub-one at above)
    ∙ ap (λ k. Opened (Closed (get_or path k [])) (path_subtree k (i - 2 ^ k) leaf path)) (sym (sub-one (suc h)))
