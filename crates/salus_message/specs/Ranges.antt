-- Which messages have a spelling: counts and lengths in their ranges, and each number in its width.
use Rattle.std.specs.Prelude.{◌≡◌, ℕ, ◌≤◌, ◌<◌, ◌^◌, length, All}
use Rattle.std.specs.List.{AllByRecursion}
use Rattle.salus_types.specs.declared.records.Held.{Held}
use Rattle.client_tag.specs.Ranges.{IsBetween, IsRecord, IsBase, AreBlocks, IsTyped}
use Rattle.salus_message.specs.declared.small.Prepared.{Prepared}
use Rattle.salus_message.specs.declared.small.Committed.{Committed}
use Rattle.salus_message.specs.declared.small.Dump.{Dump}
use Rattle.salus_message.specs.declared.replies.Answer.{Answer}
use Rattle.salus_message.specs.declared.carried.Gathered.{Gathered}
use Rattle.salus_message.specs.declared.carried.Dumped.{Dumped}
use Rattle.salus_message.specs.declared.wire.Message.{Message}
use Rattle.salus_message.specs.declared.wire.Message.TheVariants as message

-- a block of 1 to 4,096 bytes, and a path of at most 12 digests
pub record IsAnswer (m : Answer) : Type 0 where
  pub small_block : IsBetween 1 4096 (length m.bytes)
  pub short_path : length m.path ≤ 12

-- at most 1,048,576 bases and as many records, each with a spelling
pub record IsHeld (h : Held) : Type 0 where
  pub few_bases : length h.bases ≤ 1048576
  pub its_bases : All IsBase h.bases
  pub few_parts : length h.parts ≤ 1048576
  pub its_parts : All IsRecord h.parts

-- counts and lengths are in their ranges
abbrev pub IsMessage : Message → Type 0
IsMessage (message.Part m) = IsRecord m.rec
IsMessage (message.Prepared m) = Unit {0}
IsMessage (message.Committed m) = Unit {0}
IsMessage (message.Ask m) = Unit {0}
IsMessage (message.Answer m) = IsAnswer m
IsMessage (message.Gather m) = Unit {0}
IsMessage (message.Gathered m) = IsHeld m.held
IsMessage (message.Stage m) = IsBase m.base
IsMessage (message.Staged m) = Unit {0}
IsMessage (message.Switch m) = Unit {0}
IsMessage (message.Switched m) = Unit {0}
IsMessage (message.Dump m) = Unit {0}
IsMessage (message.Dumped m) = AreBlocks m.blocks

-- The numbers are in the widths of their fields and the digests have 32 bytes, as those of the program are.
abbrev pub PreparedWidths : Prepared → Type 0
PreparedWidths m = (m.session < 2 ^ 64) × ((m.seq < 2 ^ 64) × ((m.region < 2 ^ 16) × (length m.root ≡ 32)))

abbrev pub CommittedWidths : Committed → Type 0
CommittedWidths m = (m.session < 2 ^ 64) × (m.front < 2 ^ 64)

abbrev pub AskedWidths : ℕ → ℕ → ℕ → ℕ → Type 0
AskedWidths session read block as_of = (session < 2 ^ 64) × ((read < 2 ^ 64) × ((block < 2 ^ 32) × (as_of < 2 ^ 64)))

abbrev pub AnswerWidths : Answer → Type 0
AnswerWidths m = AskedWidths m.session m.read m.block m.at × AllByRecursion (λ digest. length digest ≡ 32) m.path

abbrev pub GatheredWidths : Gathered → Type 0
GatheredWidths m = (m.session < 2 ^ 64) × (m.held.session < 2 ^ 64) × AllByRecursion (λ base. IsTyped base.rec) m.held.bases × AllByRecursion IsTyped m.held.parts

abbrev pub DumpWidths : Dump → Type 0
DumpWidths m = (m.session < 2 ^ 64) × (m.region < 2 ^ 16)

abbrev pub DumpedWidths : Dumped → Type 0
DumpedWidths m = (m.session < 2 ^ 64) × (m.region < 2 ^ 16) × (m.at < 2 ^ 64)

abbrev pub HasWidths : Message → Type 0
HasWidths (message.Part m) = IsTyped m.rec
HasWidths (message.Prepared m) = PreparedWidths m
HasWidths (message.Committed m) = CommittedWidths m
HasWidths (message.Ask m) = AskedWidths m.session m.read m.block m.at
HasWidths (message.Answer m) = AnswerWidths m
HasWidths (message.Gather m) = m.session < 2 ^ 64
HasWidths (message.Gathered m) = GatheredWidths m
HasWidths (message.Stage m) = IsTyped m.base.rec
HasWidths (message.Staged m) = m.session < 2 ^ 64
HasWidths (message.Switch m) = m.session < 2 ^ 64
HasWidths (message.Switched m) = m.session < 2 ^ 64
HasWidths (message.Dump m) = DumpWidths m
HasWidths (message.Dumped m) = DumpedWidths m
