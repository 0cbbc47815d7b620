-- The digests of a tree while they are raised above the leaves, and while they are hashed again above a leaf that changed.
use Rattle.std.proofs.Common.{◌≡◌, ◌≢◌, ℕ, suc, ◌+◌, ◌*◌, ◌-◌, ◌/◌, ◌<◌, ◌≤◌, ◌∙◌, List, [], ◌∷◌, ◌++◌, length, get_or, set, refl, sym, ap, inl, inr, arith, length-append, get_or-set_same, get_or-set_other, length-set}
use Rattle.std.proofs.lemmas.Bool.{cases_eq, cases_lt}
use Rattle.std.proofs.lemmas.List.{length_push, get_or_push, get_or_append_left}
use Rattle.merkle_region.specs.Raised.{digest_at, IsRaised}

-- k digests are raised above n leaves
pub record IsRising (node : List ℕ → List ℕ → List ℕ) (n k : ℕ) (leaves digests : List (List ℕ)) : Type 0 where
  pub same : (i : ℕ) → i < n → digest_at digests i ≡ digest_at leaves i
  pub nodes : (j : ℕ) → j < k → digest_at digests (n + j) ≡ node (digest_at digests (2 * j)) (digest_at digests (2 * j + 1))

-- one more, in a list that has it at its place and is otherwise the same so far
module _ (node : List ℕ → List ℕ → List ℕ) (n k : ℕ) (leaves digests later : List (List ℕ)) (rising : IsRising node n k leaves digests)
    (within : k + 1 < n) (held : (i : ℕ) → i < n + k → digest_at later i ≡ digest_at digests i)
    (hashed : digest_at later (n + k) ≡ node (digest_at digests (2 * k)) (digest_at digests (2 * k + 1))) where
  nodes_more : (j : ℕ) → j < k + 1 → digest_at later (n + j) ≡ node (digest_at later (2 * j)) (digest_at later (2 * j + 1))
  nodes_more j below =
      let left = held (2 * j) (omega arith) in
      let right = held (2 * j + 1) (omega arith) in
      elim (cases_lt j k) [
        | inl low ↦
            let here = held (n + j) (omega arith) in
            let before = rising.nodes j low in
            cc
        | inr high ↦
            let same : j ≡ k = omega arith in
            cc
      ]

  pub rising-more : IsRising node n (k + 1) leaves later
  rising-more = record { same = λ i low. held i (omega arith) ∙ rising.same i low; nodes = nodes_more }

-- by a push
pub rising-push : (node : List ℕ → List ℕ → List ℕ) (n k : ℕ) (leaves digests : List (List ℕ)) (digest : List ℕ) → IsRising node n k leaves digests
    → length digests ≡ n + k → k + 1 < n → digest ≡ node (digest_at digests (2 * k)) (digest_at digests (2 * k + 1))
    → IsRising node n (k + 1) leaves (digests ++ digest ∷ [])
rising-push node n k leaves digests digest rising count within hashed =
    rising-more node n k leaves digests (digests ++ digest ∷ []) rising within
    (λ i low. let short : i < length digests = omega arith in get_or_append_left digests (digest ∷ []) [] i short)
    (get_or_push digests digest [] (n + k) count ∙ hashed)

-- by a write
pub rising-set : (node : List ℕ → List ℕ → List ℕ) (n k : ℕ) (leaves digests : List (List ℕ)) (digest : List ℕ) → IsRising node n k leaves digests
    → n + k < length digests → k + 1 < n → digest ≡ node (digest_at digests (2 * k)) (digest_at digests (2 * k + 1))
    → IsRising node n (k + 1) leaves (set digests (n + k) digest)
rising-set node n k leaves digests digest rising room within hashed =
    rising-more node n k leaves digests (set digests (n + k) digest) rising within
    (λ i low. get_or-set_other digests (n + k) i digest [] (omega arith))
    (get_or-set_same digests (n + k) digest [] room ∙ hashed)

-- the last one is that of the pair before
pub rising-last : (node : List ℕ → List ℕ → List ℕ) (n k : ℕ) (leaves digests : List (List ℕ)) → IsRising node n k leaves digests
    → length digests ≡ n + k → 0 < k → digest_at digests (length digests - 1) ≡ node (digest_at digests (2 * k - 2)) (digest_at digests (2 * k - 1))
rising-last node n k leaves digests rising count some =
    let last : length digests - 1 ≡ n + (k - 1) = omega arith in
    let left : 2 * k - 2 ≡ 2 * (k - 1) = omega arith in
    let right : 2 * k - 1 ≡ 2 * (k - 1) + 1 = omega arith in
    let below : k - 1 < k = omega arith in
    rw (last, left, right) (rising.nodes (k - 1) below)

-- none yet, and all
pub rising-none : (node : List ℕ → List ℕ → List ℕ) (n : ℕ) (leaves : List (List ℕ)) → IsRising node n 0 leaves leaves
rising-none node n leaves = record { same = λ i low. refl; nodes = λ j below. absurd (omega arith) }

pub rising-all : (node : List ℕ → List ℕ → List ℕ) (n k : ℕ) (leaves digests : List (List ℕ)) → IsRising node n k leaves digests → n ≤ k + 1
    → 2 * n ≤ length digests + 1 → IsRaised node n digests
rising-all node n k leaves digests rising all room = record { room = room; nodes = λ j below. rising.nodes j (omega arith) }

-- all digests are right but what stands above this place; of the leaves, this one was put
pub record IsRaisedBut (node : List ℕ → List ℕ → List ℕ) (n place i : ℕ) (leaf : List ℕ) (before digests : List (List ℕ)) : Type 0 where
  pub room : 2 * n ≤ length digests + 1
  pub there : place < length digests
  pub put : digest_at digests i ≡ leaf
  pub others : (j : ℕ) → j < n → j ≢ i → digest_at digests j ≡ digest_at before j
  pub nodes : (k : ℕ) → k + 1 < n → k ≢ place / 2 → digest_at digests (n + k) ≡ node (digest_at digests (2 * k)) (digest_at digests (2 * k + 1))

-- a leaf is put
module _ (node : List ℕ → List ℕ → List ℕ) (n i : ℕ) (leaf : List ℕ) (before : List (List ℕ)) (raised : IsRaised node n before) (within : i < n) where
  nodes_put : (k : ℕ) → k + 1 < n → k ≢ i / 2
      → digest_at (set before i leaf) (n + k) ≡ node (digest_at (set before i leaf) (2 * k)) (digest_at (set before i leaf) (2 * k + 1))
  nodes_put k below apart =
      let here : digest_at (set before i leaf) (n + k) ≡ digest_at before (n + k) = get_or-set_other before i (n + k) leaf [] (omega arith) in
      let left : digest_at (set before i leaf) (2 * k) ≡ digest_at before (2 * k) = get_or-set_other before i (2 * k) leaf [] (omega arith) in
      let right : digest_at (set before i leaf) (2 * k + 1) ≡ digest_at before (2 * k + 1) = get_or-set_other before i (2 * k + 1) leaf [] (omega arith) in
      let was = raised.nodes k below in
      cc

  pub raised_but-first : IsRaisedBut node n i i leaf before (set before i leaf)
  raised_but-first = record {
    room = omega (arith, length-set before i leaf, raised.room);
    there = omega (arith, length-set before i leaf, raised.room);
    put = get_or-set_same before i leaf [] (omega (arith, raised.room));
    others = λ j low apart. get_or-set_other before i j leaf [] apart;
    nodes = nodes_put;
  }

-- one level up
module _ (node : List ℕ → List ℕ → List ℕ) (n place i : ℕ) (leaf : List ℕ) (before digests : List (List ℕ)) (digest : List ℕ)
    (but : IsRaisedBut node n place i leaf before digests) (within : place + 2 < 2 * n) (low : i < n)
    (hashed : digest ≡ node (digest_at digests (2 * (place / 2))) (digest_at digests (2 * (place / 2) + 1))) where
  same_at : (j : ℕ) → j ≢ n + place / 2 → digest_at (set digests (n + place / 2) digest) j ≡ digest_at digests j
  same_at j apart = get_or-set_other digests (n + place / 2) j digest [] apart

  nodes_up : (k : ℕ) → k + 1 < n → k ≢ (n + place / 2) / 2
      → digest_at (set digests (n + place / 2) digest) (n + k)
      ≡ node (digest_at (set digests (n + place / 2) digest) (2 * k)) (digest_at (set digests (n + place / 2) digest) (2 * k + 1))
  nodes_up k below apart =
      let left = same_at (2 * k) (omega arith) in
      let right = same_at (2 * k + 1) (omega arith) in
      elim (cases_eq k (place / 2)) [
        | inl same ↦
            let here : digest_at (set digests (n + place / 2) digest) (n + place / 2) ≡ digest
            = get_or-set_same digests (n + place / 2) digest [] (omega (arith, but.room)) in
            cc
        | inr other ↦
            let here = same_at (n + k) (omega arith) in
            let was = but.nodes k below other in
            cc
      ]

  pub raised_but-up : IsRaisedBut node n (n + place / 2) i leaf before (set digests (n + place / 2) digest)
  raised_but-up = record {
    room = omega (arith, length-set digests (n + place / 2) digest, but.room);
    there = omega (arith, length-set digests (n + place / 2) digest, but.room);
    put = same_at i (omega arith) ∙ but.put;
    others = λ j below apart. same_at j (omega arith) ∙ but.others j below apart;
    nodes = nodes_up;
  }

-- at the top
pub raised_but-all : (node : List ℕ → List ℕ → List ℕ) (n place i : ℕ) (leaf : List ℕ) (before digests : List (List ℕ))
    → IsRaisedBut node n place i leaf before digests → 2 * n ≤ place + 2 → IsRaised node n digests
raised_but-all node n place i leaf before digests but top = record { room = but.room; nodes = λ k below. but.nodes k below (omega arith) }
