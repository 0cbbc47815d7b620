-- The parts that a replica applies one after another.
use Rattle.std.specs.Prelude.{◌≡◌, ℕ, ◌-◌, ◌≤◌, List, ◌++◌, map, flat_map, drop, length}
use Rattle.std.specs.List.{AllByRecursion}
use Rattle.salus_types.specs.declared.records.Record.{Record}
use Rattle.salus_types.specs.declared.records.Out.{Out}
use Rattle.client_tag.specs.Ranges.{IsRecord}
use Rattle.replica_rules.specs.Leading.{noted_with}
use Rattle.replica_rules.specs.Rules.{votes_for}
use Rattle.replica_rules.specs.Replicas.{after_part, all_kept_in_turn}
use Rattle.region_replica.specs.Serving.{Serving, IsFor}
use Rattle.pipelined_commit.specs.Standing.{KeptLeader, Follows}
use Rattle.posting.specs.Sendings.{out_of_sending}
use Rattle.open_session.specs.Kept.{KeepsRecords}

-- it can be spelled, is of the session and the region, and of the right shape
abbrev pub CanBeTaken : Serving → Record → Type 0
CanBeTaken serving rec = IsRecord rec × IsFor serving rec

-- After the first part those are taken that the rules take in their turn; each is one of the replica's own.
pub record AreTaken (before : Serving) (first : Record) (after : Serving) (parts : List Record) : Type 0 where
  pub applied : record { replica = after.replica; parts = parts } ≡ after_part first (all_kept_in_turn before.shape before.replica)
  pub own : CanBeTaken before first → KeepsRecords before → AllByRecursion (CanBeTaken before) parts

-- A part that was applied, and those that are taken in their turn after it, are added, noted, and voted for.
pub record IsStored (before : Serving) (first : Record) (after : Serving) (led leads : KeptLeader) (old new : List Record) (sent posted : List Out) (count : ℕ) : Type 0 where
  pub applied : List Record
  pub taken : AreTaken before first after applied
  pub own : AllByRecursion (CanBeTaken before) applied
  pub noted : Follows (λ l. record l { noted = noted_with led.region l.noted applied }) led leads
  pub parts : new ≡ old ++ applied
  pub outs : posted ≡ sent ++ map out_of_sending (flat_map (λ rec. votes_for before.shape rec) applied)
  pub count_is : count ≡ length applied

-- the newest so many parts, each one of the replica's own
pub record AreNewest (serving : Serving) (parts : List Record) (count : ℕ) : Type 0 where
  pub within : count ≤ length parts
  pub own : AllByRecursion (CanBeTaken serving) (drop (length parts - count) parts)
