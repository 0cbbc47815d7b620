-- The leader of a region's batches: which of them it may claim.
use Rattle.std.specs.Prelude.{ℕ, ◌-◌, Bool, not, ◌==◌, ◌&&◌, ◌||◌, nat_lt, nat_le, if◌then◌else◌, List, [], ◌∷◌, filter, find, fold, Option}
use Rattle.std.specs.List.{list_any}
use Rattle.salus_types.specs.Volume.{Shape}
use Rattle.salus_types.specs.declared.records.Header.{Header}
use Rattle.salus_types.specs.declared.records.Record.{Record}
use Rattle.replica_rules.specs.Views.{led_by}
use Rattle.replica_rules.specs.Voting.{Votes, no_votes, share_place, is_unanimous, Claims, all_claim}

-- The number with which the session's base came, the front up to which all is claimed, and the headers of the parts that
-- the region leads, by rising numbers. Of numbers that are the same modulo 16 only the greatest is noted.
pub record Leader : Type 0 where
  pub base : ℕ
  pub front : ℕ
  pub noted : List Header
  pub votes : Votes
  pub claims : Claims

-- no vote, and every node's claim is the base's number
abbrev pub new_leader : ℕ → List Header → Leader
new_leader base noted = record { base = base; front = base; noted = noted; votes = no_votes; claims = λ name. base }

-- by rising numbers
unfoldable pub put_header : List Header → Header → List Header
put_header [] h = h ∷ []
put_header (other ∷ noted) h = if nat_lt h.seq other.seq then h ∷ other ∷ noted else other ∷ put_header noted h

-- one of at least that number has its place
abbrev pub is_passed : List Header → Header → Bool
is_passed noted h = list_any (λ other. share_place other.seq h.seq && nat_le h.seq other.seq) noted

abbrev pub with_header : List Header → Header → List Header
with_header noted h = if is_passed noted h then noted else put_header (filter (λ other. not (share_place other.seq h.seq)) noted) h

-- where region g leads it
abbrev pub with_led : ℕ → List Header → Record → List Header
with_led g noted rec = if led_by rec.header == g then with_header noted rec.header else noted

-- the parts that region g leads are noted too
abbrev pub noted_with : ℕ → List Header → List Record → List Header
noted_with g noted parts = fold (with_led g) noted parts

-- the batch before is the base, or every replica of its leader has claimed it
abbrev pub is_after_claimed : Shape → Leader → Header → Bool
is_after_claimed shape leader h = all_claim shape leader.claims h.leader_before (h.seq - 1) || (h.seq - 1 == leader.base)

-- past the front, every touched region is unanimous, and the batch before is claimed
unfoldable pub is_certified : Shape → Leader → Header → Bool
is_certified shape leader h =
    nat_lt leader.front h.seq && is_unanimous shape leader.votes h.seq h.touched && is_after_claimed shape leader h

-- the least such header that is noted
abbrev pub advance : Shape → Leader → Option Header
advance shape leader = find (λ h. is_certified shape leader h) leader.noted

-- All of them, by rising numbers: what `advance` gives as long as it gives one. The front becomes the last one's number.
abbrev pub all_certified : Shape → Leader → List Header
all_certified shape leader = filter (λ h. is_certified shape leader h) leader.noted

unfoldable pub front_after : ℕ → List Header → ℕ
front_after front [] = front
front_after front (h ∷ headers) = front_after h.seq headers
