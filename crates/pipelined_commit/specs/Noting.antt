-- What a leader keeps of the headers that it is told of.
use Rattle.std.specs.Prelude.{◌≡◌, ℕ, ◌-◌, ◌<◌, Bool, false, not, ◌==◌, ◌&&◌, ◌||◌, nat_lt, nat_le, if◌then◌else◌, List, [], ◌∷◌, filter}
use Rattle.std.specs.List.{AllByRecursion, list_any}
use Rattle.salus_types.specs.Volume.{Shape}
use Rattle.salus_types.specs.declared.records.Header.{Header}
use Rattle.replica_rules.specs.Voting.{Votes, Claims, share_place, is_unanimous, all_claim}

-- its number, the leader of the batch before, and the regions that its batch touches
pub record Noted : Type 0 where
  pub seq : ℕ
  pub leader_before : ℕ
  pub touched : List ℕ

abbrev pub noted_of : Header → Noted
noted_of h = record { seq = h.seq; leader_before = h.leader_before; touched = h.touched }

-- rising numbers, each of which has its place modulo 16 for itself
unfoldable pub IsNoted : List Noted → Type 0
IsNoted [] = Unit {0}
IsNoted (n ∷ notes) = AllByRecursion (λ o. (n.seq < o.seq) × (share_place n.seq o.seq ≡ false)) notes × IsNoted notes

-- one of at least that number has its place
abbrev pub has_passed : List Noted → ℕ → Bool
has_passed notes x = list_any (λ n. share_place n.seq x && nat_le x n.seq) notes

abbrev pub without_place : List Noted → ℕ → List Noted
without_place notes x = filter (λ n. not (share_place n.seq x)) notes

-- by rising numbers
unfoldable pub put_note : List Noted → Noted → List Noted
put_note [] n = n ∷ []
put_note (o ∷ notes) n = if nat_lt n.seq o.seq then n ∷ o ∷ notes else o ∷ put_note notes n

abbrev pub with_note : List Noted → Noted → List Noted
with_note notes n = if has_passed notes n.seq then notes else put_note (without_place notes n.seq) n

-- the batch before is the base, or every replica of its leader has claimed it
abbrev pub is_after : Shape → ℕ → Claims → Noted → Bool
is_after shape base claims n = all_claim shape claims n.leader_before (n.seq - 1) || (n.seq - 1 == base)

-- past the front, every touched region is unanimous, and the batch before is claimed
abbrev pub may_claim : Shape → ℕ → ℕ → Votes → Claims → Noted → Bool
may_claim shape base front votes claims n = nat_lt front n.seq && is_unanimous shape votes n.seq n.touched && is_after shape base claims n
