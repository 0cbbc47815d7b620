-- How a schedule is written, and which schedules have such a text.
use Rattle.std.specs.Prelude.{ℕ, ◌^◌, ◌<◌, ◌==◌, if◌then◌else◌, List, [], ◌∷◌, ◌++◌, length, codes, decimal}
use Rattle.std.specs.List.{AllByRecursion, flat_map, join_with_byte}
use Rattle.salus_types.specs.declared.names.NodeName.{NodeName}
use Rattle.salus_types.specs.declared.names.Sender.{Sender}
use Rattle.salus_types.specs.declared.names.Sender.TheVariants as sender
use Rattle.text_words.specs.Writing.{pair_text, hex_text, block_text}
use Rattle.text_words.specs.Grammar.{ended}
use Rattle.schedule_text.specs.declared.schedule.Volume.{Volume}
use Rattle.schedule_text.specs.declared.schedule.Event.{Event}
use Rattle.schedule_text.specs.declared.schedule.Schedule.{Schedule}
use Rattle.schedule_text.specs.Grammar.{Value, Number, Count, Node, Party, Block, Bytes, Fill, spelling, first_word, values}

-- `REGION.REPLICA`
abbrev pub node_text : NodeName → List ℕ
node_text name = decimal name.region ++ 46 ∷ decimal name.replica

-- `client`, or a node
abbrev pub party_text : Sender → List ℕ
party_text sender.Client = codes "client"
party_text (sender.Node name) = node_text name

-- the bytes of a lie as hex, or `-` for none
abbrev pub lie_text : List ℕ → List ℕ
lie_text bytes = if length bytes == 0 then codes "-" else hex_text bytes

-- the word of a value
abbrev pub value_text : Value → List ℕ
value_text (Number n) = decimal n
value_text (Count n) = decimal n
value_text (Node name) = node_text name
value_text (Party who) = party_text who
value_text (Block bytes) = block_text bytes
value_text (Bytes bytes) = lie_text bytes
value_text (Fill b) = pair_text b

-- a value's word with a space in front
abbrev pub spaced : Value → List ℕ
spaced value = codes " " ++ value_text value

-- an event's line: its first word, and the word of each of its values with a space in front
unfoldable pub event_text : Event → List ℕ
event_text e = spelling (first_word e) ++ flat_map spaced (values e)

-- the first line: six words with one space between each two
unfoldable pub volume_text : Volume → List ℕ
volume_text volume =
    join_with_byte 32 (codes "volume" ∷ decimal volume.geometry.regions_log ∷ decimal volume.geometry.height ∷ decimal volume.geometry.block
    ∷ decimal volume.geometry.replicas ∷ hex_text volume.key ∷ [])

-- an event's line with its end
abbrev pub event_line : Event → List ℕ
event_line e = ended (event_text e)

-- the lines of a schedule, each with its end
unfoldable pub printed : Schedule → List ℕ
printed schedule = ended (volume_text schedule.volume) ++ flat_map event_line schedule.events

-- ---- numbers that words can have

-- these are bytes
abbrev pub AreBytes : List ℕ → Type 0
AreBytes bytes = AllByRecursion (λ b. b < 256) bytes

-- a number is below 2 ^ 64, and bytes are below 256; a node of a volume has small numbers
abbrev pub HasSize : Value → Type 0
HasSize (Number n) = n < 2 ^ 64
HasSize (Count n) = n < 2 ^ 64
HasSize (Node name) = Unit {0}
HasSize (Party who) = Unit {0}
HasSize (Block bytes) = AreBytes bytes
HasSize (Bytes bytes) = AreBytes bytes
HasSize (Fill b) = b < 256

-- the numbers and bytes of a schedule are those of 64 and of 8 bits
pub record HasBytes (schedule : Schedule) : Type 0 where
  pub key : AreBytes schedule.volume.key
  pub events : AllByRecursion (λ e. AllByRecursion HasSize (values e)) schedule.events
