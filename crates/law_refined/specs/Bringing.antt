-- What the records and messages that are handed to a node are to the abstract client, and which votes and claims were sent.
use Rattle.std.specs.Prelude.{◌≡◌, ◌⊎◌, ℕ, ◌-◌, ◌^◌, ◌<◌, ◌≤◌, true, List, [], ◌++◌, Option, None, Some, Result, Ok, Err}
use Rattle.salus_types.specs.Volume.{Shape}
use Rattle.salus_types.specs.declared.names.NodeName.{NodeName}
use Rattle.salus_types.specs.declared.names.Sender.{Sender}
use Rattle.salus_types.specs.declared.names.Sender.TheVariants as sender
use Rattle.salus_types.specs.declared.records.Record.{Record}
use Rattle.salus_message.specs.declared.wire.Message.{Message}
use Rattle.salus_message.specs.declared.wire.Message.TheVariants as message
use Rattle.salus_message.specs.declared.wire.MessageError.{MessageError}
use Rattle.salus_message.specs.Reading.{message_at}
use Rattle.merkle_region.specs.Tree.{IsAmong}
use Rattle.replica_rules.specs.Rules.{Input, Receives, Ticks}
use Rattle.law_handed.specs.Fitting.{IsSpelled}
use Rattle.law_prefix.specs.Numbers.{Mem, touches}
use Rattle.law_prefix.specs.Images.{IsPart}
use Rattle.law_prefix.specs.World.{Client, Vote, Claim, Volume, leader}
use Rattle.law_prefix.specs.Steps.{Claimed, Voted}
use Rattle.kept_model.specs.Nodes.{node_of}
use Rattle.kept_model.specs.Images.{part_as}

-- ---- records

-- The record is the part of a batch of a known session: its header names each region that the batch touches, and the leader
-- of the batch before, unless it is the session's first. It has a spelling.
pub record PartFits (c : Client) (rec : Record) : Type 0 where
  pub known : Mem rec.header.session c.known
  pub counted : 0 < rec.header.seq
  pub is_part : IsPart (c.lists rec.header.session) (c.starts rec.header.session) rec.header.region (part_as rec)
  pub touched : (g : ℕ) → touches (c.lists rec.header.session) (rec.header.seq - 1) g ≡ true → IsAmong g rec.header.touched
  pub before : (rec.header.seq - 1 ≤ c.starts rec.header.session) ⊎ (rec.header.leader_before ≡ leader (c.lists rec.header.session) (rec.header.seq - 1 - 1))
  pub spelled : IsSpelled rec

-- the record with which a known session starts; it writes nothing, and has a spelling
pub record StartFits (c : Client) (rec : Record) : Type 0 where
  pub known : Mem rec.header.session c.known
  pub start : rec.header.seq ≡ c.starts rec.header.session
  pub no_writes : rec.writes ≡ []
  pub no_run : rec.run ≡ None
  pub spelled : IsSpelled rec

-- lists only grow at their ends, and what is known stays so
pub record Onward (c d : Client) : Type 0 where
  pub lists : (e : ℕ) → Mem e c.known → (more : List (List ℕ)) × (d.lists e ≡ c.lists e ++ more)
  pub starts : (e : ℕ) → Mem e c.known → d.starts e ≡ c.starts e
  pub known : (e : ℕ) → Mem e c.known → Mem e d.known

-- ---- votes and claims

-- where the node is an honest one, it voted for that batch, as the abstract world has it
abbrev pub VotedFor : Shape → Volume → List Vote → ℕ → ℕ → NodeName → Type 0
VotedFor shape v votes e x name = (r : ℕ) → v.honest r ≡ true → node_of shape r ≡ name → Voted votes r e (x - 1)

-- so it claimed that batch or a later one
abbrev pub ClaimedFor : Shape → Volume → List Claim → ℕ → ℕ → NodeName → Type 0
ClaimedFor shape v claims e x name = (r : ℕ) → v.honest r ≡ true → node_of shape r ≡ name → Claimed claims r e x

-- ---- messages

-- a message in the client's name
abbrev pub ClientFits : Client → Message → Type 0
ClientFits c (message.Part m) = PartFits c m.rec
ClientFits c (message.Stage m) = StartFits c m.base.rec
ClientFits c (message.Switch m) = Mem m.session c.switches
ClientFits c (message.Gather m) = (m.session ≤ c.asked) × (m.session < 2 ^ 64)
ClientFits c other = Unit {0}

abbrev pub NodeFits : Shape → Volume → List Vote → List Claim → NodeName → Message → Type 0
NodeFits shape v votes claims name (message.Prepared m) = VotedFor shape v votes m.session m.seq name
NodeFits shape v votes claims name (message.Committed m) = ClaimedFor shape v claims m.session m.front name
NodeFits shape v votes claims name other = Unit {0}

abbrev pub SenderFits : Shape → Volume → Client → List Vote → List Claim → Sender → Message → Type 0
SenderFits shape v c votes claims sender.Client m = ClientFits c m
SenderFits shape v c votes claims (sender.Node name) m = NodeFits shape v votes claims name m

abbrev pub ResultFits : Shape → Volume → Client → List Vote → List Claim → Sender → Result Message MessageError → Type 0
ResultFits shape v c votes claims from (Ok m) = SenderFits shape v c votes claims from m
ResultFits shape v c votes claims from (Err e) = Unit {0}

-- what is handed to a node
abbrev pub InputFits : Shape → Volume → Client → List Vote → List Claim → Input → Type 0
InputFits shape v c votes claims (Receives from bytes) = ResultFits shape v c votes claims from (message_at bytes)
InputFits shape v c votes claims Ticks = Unit {0}

-- it fits, if it is an input
abbrev pub HandedFits : Shape → Volume → Client → List Vote → List Claim → Option Input → Type 0
HandedFits shape v c votes claims None = Unit {0}
HandedFits shape v c votes claims (Some input) = InputFits shape v c votes claims input
