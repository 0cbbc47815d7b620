-- What stands at each place of the digests of a tree: the value of the part of the list below it.
use Rattle.std.proofs.Common.{◌≡◌, ℕ, zero, suc, ◌+◌, ◌*◌, ◌-◌, ◌^◌, ◌<◌, ◌≤◌, ◌∙◌, List, length, take, drop, refl, sym, ap, arith}
use Rattle.std.proofs.Math.Nat.{pow-suc}
use Rattle.std.proofs.Math.Pow.{pow_mono}
use Rattle.std.proofs.lemmas.List.{take-take, drop-drop, drop-take, take_all}
use Rattle.merkle_region.specs.Raised.{digest_at, IsRaised}

-- the j-th part of 2 ^ l elements of a list
abbrev pub part : {X : Type 0} → ℕ → ℕ → List X → List X
part l j xs = take (2 ^ l) (drop (j * 2 ^ l) xs)

-- its halves are parts
pub part-left : {X : Type 0} (l j : ℕ) (xs : List X) → take (2 ^ l) (part (suc l) j xs) ≡ part l (2 * j) xs
part-left l j xs =
    let q : 2 ^ suc l ≡ 2 ^ l * 2 = pow-suc 2 l in
    let e : j * (2 ^ l * 2) ≡ 2 * j * 2 ^ l = omega arith in
    let below : 2 ^ l ≤ 2 ^ suc l = omega arith in
    take-take (2 ^ l) (2 ^ suc l) (drop (j * 2 ^ suc l) xs) below ∙ ap (λ n. take (2 ^ l) (drop n xs)) (ap (λ n. j * n) q ∙ e)

pub part-right : {X : Type 0} (l j : ℕ) (xs : List X) → drop (2 ^ l) (part (suc l) j xs) ≡ part l (2 * j + 1) xs
part-right l j xs =
    let q : 2 ^ suc l ≡ 2 ^ l * 2 = pow-suc 2 l in
    let two : 2 ^ suc l ≡ 2 ^ l + 2 ^ l = omega arith in
    let e : j * (2 ^ l * 2) + 2 ^ l ≡ (2 * j + 1) * 2 ^ l = omega arith in
    ap (λ n. drop (2 ^ l) (take n (drop (j * 2 ^ suc l) xs))) two
    ∙ (drop-take (2 ^ l) (2 ^ l) (drop (j * 2 ^ suc l) xs)
    ∙ (ap (take (2 ^ l)) (drop-drop (2 ^ l) (j * 2 ^ suc l) xs)
    ∙ ap (λ n. take (2 ^ l) (drop n xs)) (ap (λ n. j * n + 2 ^ l) q ∙ e)))

-- the whole list is one
pub part-whole : {X : Type 0} (h : ℕ) (xs : List X) → length xs ≡ 2 ^ h → part h 0 xs ≡ xs
part-whole h xs count =
    let first : 0 * 2 ^ h ≡ 0 = omega arith in
    ap (λ n. take (2 ^ h) (drop n xs)) first ∙ take_all (2 ^ h) xs (omega arith)

-- the part of a part's front
pub part-take : {X : Type 0} (l j n : ℕ) (xs : List X) → j * 2 ^ l + 2 ^ l ≤ n → part l j (take n xs) ≡ part l j xs
part-take l j n xs within =
    let e : n ≡ j * 2 ^ l + (n - j * 2 ^ l) = omega arith in
    let below : 2 ^ l ≤ n - j * 2 ^ l = omega arith in
    ap (λ m. take (2 ^ l) (drop (j * 2 ^ l) (take m xs))) e
    ∙ (ap (take (2 ^ l)) (drop-take (j * 2 ^ l) (n - j * 2 ^ l) xs) ∙ take-take (2 ^ l) (n - j * 2 ^ l) (drop (j * 2 ^ l) xs) below)

-- and of what follows k parts
pub part-drop : {X : Type 0} (l j k : ℕ) (xs : List X) → part l j (drop (k * 2 ^ l) xs) ≡ part l (j + k) xs
part-drop l j k xs =
    let e : k * 2 ^ l + j * 2 ^ l ≡ (j + k) * 2 ^ l = omega arith in
    ap (take (2 ^ l)) (drop-drop (j * 2 ^ l) (k * 2 ^ l) xs ∙ ap (λ n. drop n xs) e)

-- a value of each list, of which that of a list of 2 ^ (l + 1) elements is the node of those of its halves
module _ {X : Type 0} (value : ℕ → List X → List ℕ) (node : List ℕ → List ℕ → List ℕ)
    (step : (l : ℕ) (xs : List X) → value (suc l) xs ≡ node (value l (take (2 ^ l) xs)) (value l (drop (2 ^ l) xs)))
    (h : ℕ) (xs : List X) (digests : List (List ℕ)) (raised : IsRaised node (2 ^ h) digests)
    (leaves : (i : ℕ) → i < 2 ^ h → digest_at digests i ≡ value 0 (part 0 i xs)) where
  standing_leaf : (m j place : ℕ) → m ≡ h → j < 2 ^ m → place + 2 * 2 ^ m ≡ 2 * 2 ^ h + j → digest_at digests place ≡ value 0 (part 0 j xs)
  standing_leaf m j place same below at =
      let e : 2 ^ m ≡ 2 ^ h = ap (λ n. 2 ^ n) same in
      let here : place ≡ j = omega arith in
      ap (digest_at digests) here ∙ leaves j (omega arith)

  halved : (l j : ℕ) → value (suc l) (part (suc l) j xs) ≡ node (value l (part l (2 * j) xs)) (value l (part l (2 * j + 1) xs))
  halved l j = let split = step l (part (suc l) j xs) in let left = part-left l j xs in let right = part-right l j xs in cc

  -- what stands at the j-th place of level l
  pub standing : (l m j place : ℕ) → l + m ≡ h → j < 2 ^ m → place + 2 * 2 ^ m ≡ 2 * 2 ^ h + j → digest_at digests place ≡ value l (part l j xs)
  standing zero m j place level below at = standing_leaf m j place (omega arith) below at
  standing (suc l) m j place level below at =
      let q : 2 ^ suc m ≡ 2 ^ m * 2 = pow-suc 2 m in
      let some : 2 ^ suc m ≤ 2 ^ h = pow_mono (omega arith) in
      let k = 2 ^ h + j - 2 * 2 ^ m in
      let here : place ≡ 2 ^ h + k = omega arith in
      let inner_one : k + 1 < 2 ^ h = omega arith in
      let left = standing l (suc m) (2 * j) (2 * k) (omega arith) (omega arith) (omega arith) in
      let right = standing l (suc m) (2 * j + 1) (2 * k + 1) (omega arith) (omega arith) (omega arith) in
      let hashed = raised.nodes k inner_one in
      let split = halved l j in
      rw here cc

  -- the top is the value of the whole list
  pub standing_top : (place : ℕ) → length xs ≡ 2 ^ h → place + 2 ≡ 2 * 2 ^ h → digest_at digests place ≡ value h xs
  standing_top place count at = standing h 0 0 place (omega arith) (omega arith) (omega arith) ∙ ap (value h) (part-whole h xs count)
