-- The blocks that a record brings to a region's tree, each with its place.
use Rattle.std.specs.Prelude.{ℕ, zero, suc, ◌+◌, ◌<◌, List, [], ◌∷◌, ◌++◌, replicate, All}
use Rattle.salus_types.specs.declared.records.PlaceWrite.{PlaceWrite}

-- each goes to one of the first n places
abbrev pub AreWithin : ℕ → List PlaceWrite → Type 0
AreWithin n changes = All (λ w. w.place < n) changes

-- zero blocks of so many bytes at n places from this one on
unfoldable pub zero_writes : ℕ → ℕ → ℕ → List PlaceWrite
zero_writes place zero size = []
zero_writes place (suc n) size = zero_writes place n size ++ (record { place = place + n; bytes = replicate size 0 }) ∷ []
