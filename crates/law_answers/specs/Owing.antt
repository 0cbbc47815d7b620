-- What a node owes: an answer to each ask.
use Rattle.std.specs.Prelude.{◌≡◌, ◌⊎◌, ◌<◌, ◌≤◌, List, Option, None, Some, Ok}
use Rattle.salus_types.specs.Volume.{Shape}
use Rattle.salus_types.specs.declared.names.Sender.TheVariants as sender
use Rattle.salus_message.specs.declared.small.Ask.{Ask}
use Rattle.salus_message.specs.declared.wire.Message.TheVariants as message
use Rattle.salus_message.specs.Reading.{message_at}
use Rattle.merkle_region.specs.Tree.{IsAmong}
use Rattle.replica_rules.specs.Replicas.{Replica, answer_to}
use Rattle.replica_rules.specs.Nodes.{Memory}
use Rattle.replica_rules.specs.Rules.{Sending, Input, Receives, Ticks}

-- one of these messages answers the ask as of the view of the memory after it, which has reached the number that it asks for
pub record Answers (shape : Shape) (ask : Ask) (outs : List Sending) (memory : Option Memory) : Type 0 where
  pub m : Memory
  pub is : memory ≡ Some m
  pub sent : IsAmong (record { to = sender.Client; message = message.Answer (answer_to shape m.replica.view ask) }) outs
  pub late : ask.at ≤ m.replica.view.number

-- the ask is kept, and the view hasn't reached its number
pub record Keeps (ask : Ask) (r : Replica) : Type 0 where
  pub kept : IsAmong ask r.asks
  pub early : r.view.number < ask.at

abbrev pub KeepsIn : Ask → Option Memory → Type 0
KeepsIn ask None = ⊥
KeepsIn ask (Some m) = Keeps ask m.replica

-- the input is that ask of the client
abbrev pub BringsAsk : Input → Ask → Type 0
BringsAsk (Receives sender.Client bytes) ask = message_at bytes ≡ Ok (message.Ask ask)
BringsAsk (Receives (sender.Node name) bytes) ask = ⊥
BringsAsk Ticks ask = ⊥

-- the ask itself, or one of the same read number that the input brings
abbrev pub StandsFor : Input → Ask → Ask → Type 0
StandsFor input ask other = (other ≡ ask) ⊎ ((other.read ≡ ask.read) × BringsAsk input other)

-- it is answered, or it is kept, or a newer one in its place
abbrev pub IsSeenTo : Shape → Input → Ask → List Sending → Option Memory → Type 0
IsSeenTo shape input ask outs memory = Answers shape ask outs memory ⊎ ((other : Ask) × StandsFor input ask other × KeepsIn other memory)
