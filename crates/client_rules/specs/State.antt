-- What a client keeps, and what a step of it gives.
use Rattle.std.specs.Prelude.{ℕ, List, [], map, Option}
use Rattle.salus_types.specs.declared.names.NodeName.{NodeName}
use Rattle.salus_types.specs.declared.records.Record.{Record}
use Rattle.salus_types.specs.declared.strike.Strike.{Strike}
use Rattle.salus_message.specs.declared.replies.Answer.{Answer}
use Rattle.salus_message.specs.declared.wire.Message.{Message}
use Rattle.printed_lines.specs.declared.line.Line.{Line}
use Rattle.salus_model.specs.Waiting.{Taken, Question}
use Rattle.volume_model.specs.Recovering.{Pool}

-- ---- the entries of its tables

-- a question that waits for its block, with the first strike of each replica
pub record Open : Type 0 where
  pub question : Question
  pub strikes : List (Option Strike)

-- a barrier that has left the waiting line, and waits until every batch up to its front is acknowledged
pub record Waiter : Type 0 where
  pub event : ℕ
  pub front : ℕ

-- the greatest front that a node has claimed
pub record Claimed : Type 0 where
  pub name : NodeName
  pub front : ℕ

-- a batch that isn't acknowledged: its leader, and its sealed parts
pub record Unacked : Type 0 where
  pub leader : ℕ
  pub parts : List Record

-- ---- the client

pub record Serving : Type 0 where
  -- the session, its base, the last number, the acknowledged front
  pub session : ℕ
  pub base : ℕ
  pub last : ℕ
  pub acked : ℕ
  -- the number of each region, and the blocks after all batches. A client that keeps roots and pruned trees keeps those of these blocks
  pub numbers : List ℕ
  pub contents : List (List ℕ)
  -- the leader of the last batch, 0 where the session has none yet
  pub leader : ℕ
  pub unacked : List Unacked
  pub claims : List Claimed
  pub barriers : List Waiter
  -- the waiting line; where it isn't empty, a write stands at its head
  pub line : List Taken
  -- the open reads; the questions of the head that wait; the answers that made the head's other blocks known
  pub reads : List Open
  pub asked : List Open
  pub known : List Answer

-- It waits for what all nodes hold: the session to open, who has replied, and what counts of the replies.
pub record Gathering : Type 0 where
  pub session : ℕ
  pub answered : List NodeName
  pub pool : Pool

-- It waits for a region's blocks: the session to open, the region, and what was served.
pub record Fetching : Type 0 where
  pub session : ℕ
  pub region : ℕ
  pub served : ℕ
  pub last : ℕ
  pub contents : List (List ℕ)

-- a message, and to whom it goes
pub record Letter : Type 0 where
  pub to : NodeName
  pub message : Message

-- It waits for the nodes to stage a session, or to switch to it: the session, with how many batches and which blocks it
-- starts, the bases that were sent, and who has answered.
pub record Beginning : Type 0 where
  pub session : ℕ
  pub seq : ℕ
  pub contents : List (List ℕ)
  pub bases : List Letter
  pub answered : List NodeName

pub data Client : Type 0 where
  Closed : Client
  Serves : Serving → Client
  Gathers : Gathering → Client
  Fetches : Fetching → Client
  Stages : Beginning → Client
  Switches : Beginning → Client

-- ---- a step

-- what the client answers to a step, and what it is then
pub record Told : Type 0 where
  pub client : Client
  pub outs : List Letter
  pub lines : List Line

-- nothing happens
abbrev pub ignored : Client → Told
ignored c = record { client = c; outs = []; lines = [] }

abbrev pub only_lines : Client → List Line → Told
only_lines c lines = record { client = c; outs = []; lines = lines }

abbrev pub to_all : List NodeName → Message → List Letter
to_all names m = map (λ name. record { to = name; message = m }) names
