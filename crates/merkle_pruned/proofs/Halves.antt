-- The two halves of an opened subtree.
use Rattle.std.proofs.Common.{◌≡◌, ℕ, ◌-◌, ◌*◌, ◌^◌, ◌<◌, ◌≤◌, List, length, take, drop, nat_lt, arith}
use Rattle.std.proofs.lemmas.Bool.{cond-true, cond-false, lt-ltb, le-ltb}
use Rattle.sha2.proofs.Facts256.{length-sha256}
use Rattle.merkle_region.specs.Tree.{root_of}
use Rattle.merkle_region.proofs.Halves.{power_halved, root_of-halves}
use Rattle.merkle_pruned.specs.Subtree.{Subtree, Closed, Opened, digest_of, closed_over, AgreesOn, IsSound, with_leaf}
use Rattle.merkle_pruned.specs.Path.{grafted}

module _ (l r : Subtree) (h i : ℕ) where
  pub closed_over-left : i < 2 ^ (h - 1) → closed_over (Opened l r) h i ≡ closed_over l (h - 1) i
  closed_over-left below = cond-true (nat_lt i (2 ^ (h - 1))) _ _ (lt-ltb i (2 ^ (h - 1)) below)

  pub closed_over-right : 2 ^ (h - 1) ≤ i → closed_over (Opened l r) h i ≡ closed_over r (h - 1) (i - 2 ^ (h - 1))
  closed_over-right above = cond-false (nat_lt i (2 ^ (h - 1))) _ _ (le-ltb i (2 ^ (h - 1)) above)

  pub with_leaf-left : (leaf : List ℕ) → i < 2 ^ (h - 1) → with_leaf (Opened l r) h i leaf ≡ Opened (with_leaf l (h - 1) i leaf) r
  with_leaf-left leaf below = cond-true (nat_lt i (2 ^ (h - 1))) _ _ (lt-ltb i (2 ^ (h - 1)) below)

  pub with_leaf-right : (leaf : List ℕ) → 2 ^ (h - 1) ≤ i → with_leaf (Opened l r) h i leaf ≡ Opened l (with_leaf r (h - 1) (i - 2 ^ (h - 1)) leaf)
  with_leaf-right leaf above = cond-false (nat_lt i (2 ^ (h - 1))) _ _ (le-ltb i (2 ^ (h - 1)) above)

  pub grafted-left : (leaf : List ℕ) (path : List (List ℕ)) → i < 2 ^ (h - 1) → grafted (Opened l r) h i leaf path ≡ Opened (grafted l (h - 1) i leaf path) r
  grafted-left leaf path below = cond-true (nat_lt i (2 ^ (h - 1))) _ _ (lt-ltb i (2 ^ (h - 1)) below)

  pub grafted-right : (leaf : List ℕ) (path : List (List ℕ)) → 2 ^ (h - 1) ≤ i
      → grafted (Opened l r) h i leaf path ≡ Opened l (grafted r (h - 1) (i - 2 ^ (h - 1)) leaf path)
  grafted-right leaf path above = cond-false (nat_lt i (2 ^ (h - 1))) _ _ (le-ltb i (2 ^ (h - 1)) above)

-- a place of the right half, within that half
pub within_right : (h i : ℕ) → 0 < h → i < 2 ^ h → 2 ^ (h - 1) ≤ i → i - 2 ^ (h - 1) < 2 ^ (h - 1)
within_right h i p within above = let q : 2 ^ h ≡ 2 ^ (h - 1) * 2 = power_halved h p in omega arith

-- every digest of a sound subtree has 32 bytes
pub length-digest_of : (p : Subtree) (h : ℕ) → IsSound p h → length (digest_of p) ≡ 32
length-digest_of (Closed d) h sound = sound
length-digest_of (Opened l r) h sound = length-sha256 _

-- the digest of a subtree that agrees is the root of its blocks
pub digest_of-agrees : (p : Subtree) (h : ℕ) (blocks : List (List ℕ)) → AgreesOn p h blocks → digest_of p ≡ root_of h blocks
digest_of-agrees (Closed d) h blocks agrees = agrees
digest_of-agrees (Opened l r) h blocks agrees =
    let left = digest_of-agrees l (h - 1) (take (2 ^ (h - 1)) blocks) agrees.1 in
    let right = digest_of-agrees r (h - 1) (drop (2 ^ (h - 1)) blocks) agrees.2 in
    let whole = root_of-halves h blocks agrees.0 in
    cc
