-- What a sound server does for a read of its region that is open: it has the session served in memory, its
-- answers aren't struck, and once all was taken it keeps no ask of the read.
use Rattle.std.specs.Prelude.{◌^◌, ◌<◌, ◌≡◌, ℕ, List, [], ◌∷◌, ◌++◌, Option, Some}
use Rattle.salus_types.specs.Volume.{Shape}
use Rattle.salus_types.specs.declared.names.NodeName.{NodeName}
use Rattle.salus_types.specs.declared.names.Sender.TheVariants as sender
use Rattle.salus_types.specs.declared.records.Held.{Held}
use Rattle.salus_message.specs.declared.small.Ask.{Ask}
use Rattle.schedule_text.specs.declared.schedule.Volume.{Volume}
use Rattle.schedule_text.specs.declared.schedule.Event.{Event}
use Rattle.merkle_region.specs.Tree.{IsAmong}
use Rattle.volume_model.specs.Contents.{region_of}
use Rattle.salus_model.specs.declared.trace.TraceStep.{TraceStep}
use Rattle.salus_model.specs.Following.{Posted}
use Rattle.salus_model.specs.Hearing.{news_of}
use Rattle.salus_model.specs.Waiting.{Question}
use Rattle.salus_model.specs.Complete.{Rooms, IsSound, AllTaken}
use Rattle.client_rules.specs.State as state
use Rattle.client_rules.specs.State.{Open}
use Rattle.client_rules.specs.Rules.{new_client, told}
use Rattle.replica_rules.specs.Nodes.{Memory}
use Rattle.replica_rules.specs.Rules.{Input}
use Rattle.run_rules.specs.Knowing.{KnownNode, fresh, input_of, known_to}
use Rattle.run_rules.specs.Running.{known_of, after}
use Rattle.run_rules.specs.Serving.{client_of}
use Rattle.law_answers.specs.Owing.{KeepsIn, BringsAsk}
use Rattle.law_reads.specs.Reading.{IsFair}

-- ---- a read

-- the question of the read of event v, of block b
pub record IsReadOf (v b : ℕ) (q : Question) : Type 0 where
  pub event : q.event ≡ v
  pub number : q.number ≡ v
  pub block : q.block ≡ b

-- it is open
pub record IsOpenRead (v b : ℕ) (c : state.Serving) : Type 0 where
  pub read : Open
  pub among : IsAmong read c.reads
  pub of : IsReadOf v b read.question

-- the numbers of its asks are in their widths
pub record AreSmall (e v b : ℕ) : Type 0 where
  pub session : e < 2 ^ 64
  pub read : v < 2 ^ 64
  pub block : b < 2 ^ 32

-- a node keeps an ask of it, of session e
pub record KeepsOne (e v b : ℕ) (memory : Option Memory) : Type 0 where
  pub ask : Ask
  pub keeps : KeepsIn ask memory
  pub small : AreSmall e v b
  pub session : ask.session ≡ e
  pub read : ask.read ≡ v
  pub block : ask.block ≡ b

-- ---- a step of the server

-- The open session stays, and the read's own asks alone have its number.
pub record IsClear (shape : Shape) (posts : List Posted) (name : NodeName) (e v b : ℕ) (known : KnownNode) (step : TraceStep) : Type 0 where
  pub stays : (known_to shape name.region posts known step.handed step.failed step.loaded).state.held.session ≡ known.state.held.session
  pub asks : (input : Input) → input_of posts step.handed ≡ Some input → (other : Ask) → BringsAsk input other → other.read ≡ v → (other.session ≡ e) × (other.block ≡ b)

-- and the server has session e in memory
pub record InSession (shape : Shape) (posts : List Posted) (name : NodeName) (e v b : ℕ) (known : KnownNode) (step : TraceStep) : Type 0 where
  pub m : Memory
  pub there : known.state.memory ≡ Some m
  pub session : m.replica.session ≡ e
  pub clear : IsClear shape posts name e v b known step

-- so where the client serves and the read is open
abbrev pub ServesAt : Shape → List Posted → NodeName → (v b : ℕ) → state.Client → KnownNode → TraceStep → Type 0
ServesAt shape posts name v b (state.Serves c) known step = IsOpenRead v b c → InSession shape posts name c.session v b known step
ServesAt shape posts name v b other known step = Unit {0}

-- ---- a step of the client

-- an answer of the server to the open read isn't struck
abbrev pub FairAt : Shape → List Posted → NodeName → (v b : ℕ) → state.Client → TraceStep → Type 0
FairAt shape posts name v b (state.Serves c) step = (o : Open) → IsAmong o c.reads → IsReadOf v b o.question → IsFair shape c name.replica o (news_of posts step)
FairAt shape posts name v b other step = Unit {0}

-- ---- a run

-- both at each of these steps
unfoldable pub ServesRead : Volume → List Posted → NodeName → (v b : ℕ) → state.Client → KnownNode → List TraceStep → Type 0
ServesRead volume posts name v b c known [] = Unit {0}
ServesRead volume posts name v b c known (step ∷ steps) =
    FairAt volume.geometry posts name v b c step
    × (step.party ≡ sender.Node name → ServesAt volume.geometry posts name v b c known step)
    × ServesRead volume posts name v b (told volume c step.event (news_of posts step)).client (after volume.geometry posts name known step) steps

-- the server keeps no ask of the read, if that is open
abbrev pub NoneKept : (v b : ℕ) → state.Client → KnownNode → Type 0
NoneKept v b (state.Serves c) known = IsOpenRead v b c → KeepsOne c.session v b known.state.memory → ⊥
NoneKept v b other known = Unit {0}

-- It serves each read of its region along the run; and at the end of each front part of it that took all messages between it
-- and the client it keeps no ask of an open one.
pub record IsServing (volume : Volume) (posts : List Posted) (is_full : Rooms) (trace : List TraceStep) (first : NodeName → Held) (name : NodeName) : Type 0 where
  pub serves : (v b : ℕ) → region_of volume.geometry b ≡ name.region
      → ServesRead volume posts name v b (new_client volume.geometry) (fresh volume.geometry name.region (first name)) trace
  pub drained : (done rest : List TraceStep) → trace ≡ done ++ rest → AllTaken posts is_full done name → (v b : ℕ) → region_of volume.geometry b ≡ name.region
      → NoneKept v b (client_of volume posts (new_client volume.geometry) done) (known_of volume.geometry posts name (fresh volume.geometry name.region (first name)) done)

-- each sound server does
abbrev pub SoundServe : Volume → List Event → List Posted → Rooms → List TraceStep → (NodeName → Held) → Type 0
SoundServe volume events posts is_full trace first = (name : NodeName) → IsSound events trace name → IsServing volume posts is_full trace first name
