-- Up to which number the held parts are folded.
use Rattle.std.specs.Prelude.{ℕ, ◌-◌, Bool, ◌&&◌, nat_le, nat_lt, if◌then◌else◌, List, filter, length, map, Option, None, Some}
use Rattle.salus_types.specs.Volume.{Shape}
use Rattle.salus_types.specs.declared.records.Record.{Record}
use Rattle.replica_rules.specs.Voting.{Claims, committed, greatest_of, lesser}

-- 16 below the greatest number, and not past what is committed
abbrev pub most_folded : Shape → Claims → List Record → ℕ
most_folded shape claims parts = lesser (committed shape claims) (greatest_of (map (λ rec. rec.header.seq) parts) - 16)

-- where all counts that is held of the session, and eight parts go
abbrev pub fold_at : Shape → Bool → Claims → List Record → Option ℕ
fold_at shape whole claims parts =
    if whole && nat_le 8 (length (filter (λ rec. nat_le rec.header.seq (most_folded shape claims parts)) parts)) then Some (most_folded shape claims parts) else None

-- the parts above it are left
abbrev pub left_after : Option ℕ → List Record → List Record
left_after None parts = parts
left_after (Some n) parts = filter (λ rec. nat_lt n rec.header.seq) parts
