-- A path that is gathered from kept digests, level by level.
use Rattle.std.proofs.Common.{◌≡◌, ℕ, suc, ◌+◌, ◌*◌, ◌-◌, ◌/◌, ◌%◌, ◌^◌, ◌<◌, ◌≤◌, ◌∙◌, List, [], ◌∷◌, ◌++◌, length, take, get_or, refl, sym, ap, arith}
use Rattle.std.proofs.Math.Nat.{pow-suc}
use Rattle.std.proofs.lemmas.Nat.{shr-shr}
use Rattle.std.proofs.lemmas.List.{take_more, take_all, length_push}
use Rattle.merkle_region.specs.Tree.{root_of, path_from}
use Rattle.merkle_region.specs.Raised.{digest_at}
use Rattle.merkle_region.specs.Kept.{IsKept}
use Rattle.merkle_region.proofs.Reached.{length-path_from}
use Rattle.merkle_region.proofs.Standing.{part}
use Rattle.merkle_region.proofs.Beneath.{beside, below_level, path_from-at}
use Rattle.merkle_region.proofs.KeptRoots.{kept_at}

-- the path so far is the path's front, and the place is that of the level that it has come to
pub record IsGathered (height : ℕ) (blocks : List (List ℕ)) (i place : ℕ) (path : List (List ℕ)) : Type 0 where
  pub low : length path ≤ height
  pub within : i < 2 ^ height
  pub front : path ≡ take (length path) (path_from height blocks i)
  pub at : place + 2 * 2 ^ (height - length path) ≡ 2 * 2 ^ height + i / 2 ^ length path

pub gathered-none : (height : ℕ) (blocks : List (List ℕ)) (i : ℕ) → i < 2 ^ height → IsGathered height blocks i i []
gathered-none height blocks i within =
    let all : height - 0 ≡ height = omega arith in
    let at : i + 2 * 2 ^ (height - 0) ≡ 2 * 2 ^ height + i / 1 = rw all (omega arith) in
    record { low = omega arith; within = within; front = refl; at = at }

pub gathered-all : (height : ℕ) (blocks : List (List ℕ)) (i place : ℕ) (path : List (List ℕ)) → IsGathered height blocks i place path
    → height ≤ length path → path ≡ path_from height blocks i
gathered-all height blocks i place path gathered all =
    gathered.front ∙ take_all (length path) (path_from height blocks i) (omega (arith, length-path_from height blocks i))

module _ (height : ℕ) (blocks digests : List (List ℕ)) (kept : IsKept height blocks digests) (i place : ℕ) (path : List (List ℕ))
    (gathered : IsGathered height blocks i place path) (more : length path < height) where
  even : 2 ^ (height - length path) ≡ 2 ^ (height - length path - 1) * 2
  even =
      let e : height - length path ≡ suc (height - length path - 1) = omega arith in
      ap (λ n. 2 ^ n) e ∙ pow-suc 2 (height - length path - 1)

  pub sibling_within : beside place + 1 < 2 * 2 ^ height
  sibling_within = let below = below_level height (length path) i more gathered.within in let e = even in omega (arith, gathered.at, below.0)

  pub gathered_digest : digest_at digests (beside place) ≡ get_or (path_from height blocks i) (length path) []
  gathered_digest =
      let below = below_level height (length path) i more gathered.within in
      let e = even in
      kept_at height blocks digests kept (length path) (height - length path) (beside (i / 2 ^ length path)) (beside place) (omega arith) below.1
      (omega (arith, gathered.at, below.0))
      ∙ sym (path_from-at height blocks i (length path) kept.count gathered.within more)

  pub gathered-more : (digest : List ℕ) → digest ≡ digest_at digests (beside place) → IsGathered height blocks i (2 ^ height + place / 2) (path ++ digest ∷ [])
  gathered-more digest read =
      let one = length_push path digest in
      let below = below_level height (length path) i more gathered.within in
      let e = even in
      let less : height - length (path ++ digest ∷ []) ≡ height - length path - 1 = omega arith in
      let up : i / 2 ^ length path / 2 ≡ i / 2 ^ (length path + 1) = shr-shr i (length path) 1 in
      record {
        low = omega arith;
        within = gathered.within;
        front = rw one (ap (λ d. path ++ d ∷ []) (read ∙ gathered_digest)
            ∙ (ap (λ front. front ++ get_or (path_from height blocks i) (length path) [] ∷ []) gathered.front
            ∙ sym (take_more (path_from height blocks i) (length path) [] (omega (arith, length-path_from height blocks i)))));
        at = rw (less, one, ← up) (omega (arith, gathered.at, below.0));
      }
