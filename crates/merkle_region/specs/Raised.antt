-- The digests of a binary tree in one list: first its leaves, then level by level what stands above them, the top last.
use Rattle.std.specs.Prelude.{◌≡◌, ℕ, ◌+◌, ◌*◌, ◌<◌, ◌≤◌, List, [], length, slice_index_or}

-- the digest at a place, and the empty string where there is none
abbrev pub digest_at : List (List ℕ) → ℕ → List ℕ
digest_at digests i = slice_index_or digests i []

-- behind n leaves stand the n - 1 digests above them, and the k-th of these is that of the two at the places 2 k and 2 k + 1
pub record IsRaised (node : List ℕ → List ℕ → List ℕ) (n : ℕ) (digests : List (List ℕ)) : Type 0 where
  pub room : 2 * n ≤ length digests + 1
  pub nodes : (k : ℕ) → k + 1 < n → digest_at digests (n + k) ≡ node (digest_at digests (2 * k)) (digest_at digests (2 * k + 1))
