-- The bytes that a source has left and that a sink holds, where they tell them: `None` is one that doesn't. A relation
-- between two moments here also says that the one tells exactly where the other does.
use Rattle.std.specs.Prelude.{◌≡◌, ℕ, ◌<◌, ◌≤◌, List, [], ◌++◌, length, take, option_map, Option, IfSome}

-- the source gave these bytes
abbrev pub Consumes : Option (List ℕ) → Option (List ℕ) → List ℕ → Type 0
Consumes old new bytes = old ≡ option_map (λ left. bytes ++ left) new

-- the source gave some bytes, or none
abbrev pub ConsumesSome : Option (List ℕ) → Option (List ℕ) → Type 0
ConsumesSome old new = (bytes : List ℕ) × Consumes old new bytes

-- the source gave more bytes than the limit
abbrev pub ConsumesMore : Option (List ℕ) → Option (List ℕ) → ℕ → Type 0
ConsumesMore old new limit = (bytes : List ℕ) × (limit < length bytes) × Consumes old new bytes

-- nothing is left
abbrev pub IsAtEnd : Option (List ℕ) → Type 0
IsAtEnd left = IfSome left (λ bytes. bytes ≡ [])

-- the sink took these bytes
abbrev pub Appends : Option (List ℕ) → Option (List ℕ) → List ℕ → Type 0
Appends old new bytes = new ≡ option_map (λ held. held ++ bytes) old

-- the sink took a front part of these bytes
abbrev pub AppendsPrefix : Option (List ℕ) → Option (List ℕ) → List ℕ → Type 0
AppendsPrefix old new bytes = (n : ℕ) × (n ≤ length bytes) × Appends old new (take n bytes)
