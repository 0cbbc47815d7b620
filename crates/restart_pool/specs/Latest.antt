-- Where in a list of numbers a number stands.
use Rattle.std.specs.Prelude.{◌≡◌, ◌≢◌, ℕ, ◌<◌, List, length, slice_index, slice_index_or, Option, None, MatchOption}

-- the last place below n at which the number k stands, if there is one
abbrev pub IsLatest : List ℕ → ℕ → ℕ → Option ℕ → Type 0
IsLatest numbers n k place =
    MatchOption place ((j : ℕ) → j < n → slice_index numbers j ≢ k) (λ i. (i < n) × (slice_index numbers i ≡ k) × ((j : ℕ) → i < j → j < n → slice_index numbers j ≢ k))

-- for each place the last one before it with the same number, and for each number its last place
pub record IsIndexed (numbers : List ℕ) (before : List (Option ℕ)) (last : ℕ → Option ℕ) : Type 0 where
  pub count : length before ≡ length numbers
  pub linked : (i : ℕ) → i < length numbers → IsLatest numbers i (slice_index numbers i) (slice_index_or before i None)
  pub found : (k : ℕ) → IsLatest numbers (length numbers) k (last k)
