-- What an answer says of a meaning, and what has become of a count of faults.
use Rattle.std.specs.Prelude.{◌≡◌, ℕ, ◌+◌, ◌-◌, ◌^◌, ◌≤◌, min, Option, IfSome, Result, Ok, Err}

-- The answer is the meaning, unless memory ran out: a value gives the meaning `means x`, and an error the one that
-- `refusal e` is. `None` there is want of memory, which says nothing.
abbrev pub Gives : {X E M : Type 0} → (X → M) → (E → Option M) → Result X E → M → Type 0
Gives means refusal (Ok x) meaning = meaning ≡ means x
Gives means refusal (Err e) meaning = IfSome (refusal e) (λ refused. meaning ≡ refused)

-- the count has risen, unless it stands at the end of its type
abbrev pub Rose : ℕ → ℕ → Type 0
Rose before now = min (before + 1) (2 ^ 64 - 1) ≤ now
