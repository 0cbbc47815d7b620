-- Another leaf at an open place.
use Rattle.std.proofs.Common.{◌≡◌, ◌≢◌, ℕ, zero, suc, ◌+◌, ◌-◌, ◌*◌, ◌^◌, ◌<◌, ◌∙◌, List, [], length, take, drop, set, get_or, ap, sym, subst, inl, inr, arith}
use Rattle.std.proofs.Math.Seq.{take-set-lt}
use Rattle.std.proofs.lemmas.Bool.{cases_lt}
use Rattle.std.proofs.lemmas.List.{length-take-le, length-drop, get_or-set_same, take-set-le, drop-set-lt, drop-set-add}
use Rattle.salus_hash.specs.Hash.{leaf}
use Rattle.merkle_region.specs.Tree.{root_of}
use Rattle.merkle_region.proofs.Halves.{power_halved, root_of-leaf}
use Rattle.merkle_pruned.specs.Subtree.{Subtree, Closed, Opened, closed_over, AgreesOn, IsSound, with_leaf}
use Rattle.merkle_pruned.proofs.Halves.{closed_over-left, closed_over-right, with_leaf-left, with_leaf-right, within_right}

-- the leaf is there
pub with_leaf-there : (p : Subtree) (h i : ℕ) (x : List ℕ) → (closed_over p h i).0 ≡ 0 → closed_over (with_leaf p h i x) h i ≡ (0, x)
with_leaf-there (Closed d) h i x opens = ap (λ k. (k, x)) opens
with_leaf-there (Opened l r) h i x opens = elim (cases_lt i (2 ^ (h - 1))) [
  | inl below ↦
      let lower : (closed_over l (h - 1) i).0 ≡ 0 = ap (λ (q : ℕ × List ℕ). q.0) (sym (closed_over-left l r h i below)) ∙ opens in
      ap (λ q. closed_over q h i) (with_leaf-left l r h i x below)
      ∙ (closed_over-left (with_leaf l (h - 1) i x) r h i below ∙ with_leaf-there l (h - 1) i x lower)
  | inr above ↦
      let lower : (closed_over r (h - 1) (i - 2 ^ (h - 1))).0 ≡ 0 = ap (λ (q : ℕ × List ℕ). q.0) (sym (closed_over-right l r h i above)) ∙ opens in
      ap (λ q. closed_over q h i) (with_leaf-right l r h i x above)
      ∙ (closed_over-right l (with_leaf r (h - 1) (i - 2 ^ (h - 1)) x) h i above ∙ with_leaf-there r (h - 1) (i - 2 ^ (h - 1)) x lower)
]

-- every other place lies in the closed subtree that it lay in
pub with_leaf-elsewhere : (p : Subtree) (h i j : ℕ) (x : List ℕ) → IsSound p h → i < 2 ^ h → j < 2 ^ h → j ≢ i → (closed_over p h i).0 ≡ 0
    → closed_over (with_leaf p h i x) h j ≡ closed_over p h j
with_leaf-elsewhere (Closed d) h i j x sound p q ne opens = let e : h ≡ 0 = opens in absurd (ne (grind arith))
with_leaf-elsewhere (Opened l r) h i j x sound p q ne opens = elim (cases_lt i (2 ^ (h - 1))) [
  | inl below ↦
      let lower : (closed_over l (h - 1) i).0 ≡ 0 = ap (λ (q : ℕ × List ℕ). q.0) (sym (closed_over-left l r h i below)) ∙ opens in
      ap (λ q. closed_over q h j) (with_leaf-left l r h i x below)
      ∙ elim (cases_lt j (2 ^ (h - 1))) [
        | inl near ↦
            closed_over-left (with_leaf l (h - 1) i x) r h j near
            ∙ (with_leaf-elsewhere l (h - 1) i j x sound.1 below near ne lower ∙ sym (closed_over-left l r h j near))
        | inr far ↦ closed_over-right (with_leaf l (h - 1) i x) r h j far ∙ sym (closed_over-right l r h j far)
      ]
  | inr above ↦
      let lower : (closed_over r (h - 1) (i - 2 ^ (h - 1))).0 ≡ 0 = ap (λ (q : ℕ × List ℕ). q.0) (sym (closed_over-right l r h i above)) ∙ opens in
      ap (λ q. closed_over q h j) (with_leaf-right l r h i x above)
      ∙ elim (cases_lt j (2 ^ (h - 1))) [
        | inl near ↦
            closed_over-left l (with_leaf r (h - 1) (i - 2 ^ (h - 1)) x) h j near ∙ sym (closed_over-left l r h j near)
        | inr far ↦
            let ne2 : j - 2 ^ (h - 1) ≢ i - 2 ^ (h - 1) = λ e. ne (omega arith) in
            closed_over-right l (with_leaf r (h - 1) (i - 2 ^ (h - 1)) x) h j far
            ∙ (with_leaf-elsewhere r (h - 1) (i - 2 ^ (h - 1)) (j - 2 ^ (h - 1)) x sound.2 (within_right h i sound.0 p above) (within_right h j sound.0 q far) ne2 lower
            ∙ sym (closed_over-right l r h j far))
      ]
]

set_leaf_only : (h i : ℕ) (blocks : List (List ℕ)) (block : List ℕ) → h ≡ 0 → length blocks ≡ 2 ^ h → i < 2 ^ h → root_of h (set blocks i block) ≡ leaf block
set_leaf_only zero i blocks block e n within =
    let first : i ≡ 0 = omega arith in
    let here : 0 < length blocks = omega arith in
    root_of-leaf 0 (set blocks i block) e ∙ ap leaf (ap (λ k. get_or (set blocks k block) 0 []) first ∙ get_or-set_same blocks 0 block [] here)
set_leaf_only (suc h) i blocks block e n within = absurd (omega arith)

left_half : (h : ℕ) (blocks : List (List ℕ)) → 0 < h → length blocks ≡ 2 ^ h → length (take (2 ^ (h - 1)) blocks) ≡ 2 ^ (h - 1)
left_half h blocks p n = let q : 2 ^ h ≡ 2 ^ (h - 1) * 2 = power_halved h p in length-take-le (2 ^ (h - 1)) blocks (omega arith)

right_half : (h : ℕ) (blocks : List (List ℕ)) → 0 < h → length blocks ≡ 2 ^ h → length (drop (2 ^ (h - 1)) blocks) ≡ 2 ^ (h - 1)
right_half h blocks p n = let q : 2 ^ h ≡ 2 ^ (h - 1) * 2 = power_halved h p in omega (arith, length-drop (2 ^ (h - 1)) blocks)

-- it agrees with the blocks with that block in place
pub with_leaf-agrees : (p : Subtree) (h i : ℕ) (x : List ℕ) (blocks : List (List ℕ)) (block : List ℕ) → (closed_over p h i).0 ≡ 0
    → length blocks ≡ 2 ^ h → i < 2 ^ h → AgreesOn p h blocks → leaf block ≡ x → AgreesOn (with_leaf p h i x) h (set blocks i block)
with_leaf-agrees (Closed d) h i x blocks block opens n within agrees e = sym (set_leaf_only h i blocks block opens n within ∙ e)
with_leaf-agrees (Opened l r) h i x blocks block opens n within agrees e = elim (cases_lt i (2 ^ (h - 1))) [
  | inl below ↦
      let lower : (closed_over l (h - 1) i).0 ≡ 0 = ap (λ (q : ℕ × List ℕ). q.0) (sym (closed_over-left l r h i below)) ∙ opens in
      subst (λ q. AgreesOn q h (set blocks i block)) (sym (with_leaf-left l r h i x below)) (
        agrees.0,
        subst (λ bs. AgreesOn (with_leaf l (h - 1) i x) (h - 1) bs) (sym (take-set-lt (2 ^ (h - 1)) blocks i block below))
            (with_leaf-agrees l (h - 1) i x (take (2 ^ (h - 1)) blocks) block lower (left_half h blocks agrees.0 n) below agrees.1 e),
        subst (λ bs. AgreesOn r (h - 1) bs) (sym (drop-set-lt (2 ^ (h - 1)) blocks i block below)) agrees.2,
      )
  | inr above ↦
      let lower : (closed_over r (h - 1) (i - 2 ^ (h - 1))).0 ≡ 0 = ap (λ (q : ℕ × List ℕ). q.0) (sym (closed_over-right l r h i above)) ∙ opens in
      let place : 2 ^ (h - 1) + (i - 2 ^ (h - 1)) ≡ i = omega arith in
      let moved : drop (2 ^ (h - 1)) (set blocks i block) ≡ set (drop (2 ^ (h - 1)) blocks) (i - 2 ^ (h - 1)) block
      = ap (λ k. drop (2 ^ (h - 1)) (set blocks k block)) (sym place) ∙ drop-set-add (2 ^ (h - 1)) blocks (i - 2 ^ (h - 1)) block in
      subst (λ q. AgreesOn q h (set blocks i block)) (sym (with_leaf-right l r h i x above)) (
        agrees.0,
        subst (λ bs. AgreesOn l (h - 1) bs) (sym (take-set-le (2 ^ (h - 1)) blocks i block above)) agrees.1,
        subst (λ bs. AgreesOn (with_leaf r (h - 1) (i - 2 ^ (h - 1)) x) (h - 1) bs) (sym moved)
            (with_leaf-agrees r (h - 1) (i - 2 ^ (h - 1)) x (drop (2 ^ (h - 1)) blocks) block lower (right_half h blocks agrees.0 n)
            (within_right h i agrees.0 within above) agrees.2 e),
      )
]
