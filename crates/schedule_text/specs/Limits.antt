-- What every schedule of a text keeps to.
use Rattle.std.specs.Prelude.{◌≡◌, ◌<◌, ◌≤◌, ◌^◌, length}
use Rattle.std.specs.List.{AllByRecursion}
use Rattle.salus_types.specs.Volume.{Shape, IsVolume, regions}
use Rattle.salus_types.specs.declared.names.NodeName.{NodeName}
use Rattle.salus_types.specs.declared.names.Sender.{Sender}
use Rattle.salus_types.specs.declared.names.Sender.TheVariants as sender
use Rattle.schedule_text.specs.declared.schedule.Event.{Event}
use Rattle.schedule_text.specs.declared.schedule.Schedule.{Schedule}
use Rattle.schedule_text.specs.Grammar.{Value, Number, Count, Node, Party, Block, Bytes, Fill, values, HasFewBlocks, RisesFrom, sessions_of}

-- the node is one of the volume
abbrev pub IsOfVolume : Shape → NodeName → Type 0
IsOfVolume shape name = (name.region < regions shape) × (name.replica < shape.replicas)

abbrev pub IsPartyOfVolume : Shape → Sender → Type 0
IsPartyOfVolume shape sender.Client = Unit {0}
IsPartyOfVolume shape (sender.Node name) = IsOfVolume shape name

-- a value that a word of the volume's language can stand for
abbrev pub IsWithin : Shape → Value → Type 0
IsWithin shape (Number n) = n < 2 ^ 64
IsWithin shape (Count n) = 1 ≤ n
IsWithin shape (Node name) = IsOfVolume shape name
IsWithin shape (Party who) = IsPartyOfVolume shape who
IsWithin shape (Block bytes) = length bytes ≡ shape.block
IsWithin shape (Bytes bytes) = AllByRecursion (λ b. b < 256) bytes
IsWithin shape (Fill b) = Unit {0}

-- the values of an event are of the volume, and a write has 1 to 64 blocks
abbrev pub IsEventWithin : Shape → Event → Type 0
IsEventWithin shape e = AllByRecursion (IsWithin shape) (values e) × HasFewBlocks e

-- a volume in its limits, at most 65,536 events of it, and session numbers that rise from above 1 on
pub record IsWithinLimits (schedule : Schedule) : Type 0 where
  pub volume : IsVolume schedule.volume.geometry
  pub key : 1 ≤ length schedule.volume.key
  pub short_key : length schedule.volume.key ≤ 64
  pub events : AllByRecursion (IsEventWithin schedule.volume.geometry) schedule.events
  pub few : length schedule.events ≤ 65536
  pub rising : RisesFrom 1 (sessions_of schedule.events)
