-- What a server is asked for an open read, what it keeps of it, and that what it answers isn't struck.
use Rattle.std.specs.Prelude.{◌≡◌, ℕ, ◌<◌, ◌≤◌, List, [], ◌∷◌, ◌++◌, Some}
use Rattle.salus_types.specs.Volume.{Shape, regions}
use Rattle.salus_types.specs.declared.names.NodeName.{NodeName}
use Rattle.salus_types.specs.declared.records.Held.{Held}
use Rattle.salus_message.specs.declared.small.Ask.{Ask}
use Rattle.schedule_text.specs.declared.schedule.Volume.{Volume}
use Rattle.volume_model.specs.Contents.{region_of}
use Rattle.salus_model.specs.declared.trace.TraceStep.{TraceStep}
use Rattle.salus_model.specs.Following.{Posted}
use Rattle.salus_model.specs.Hearing.{news_of}
use Rattle.client_rules.specs.State as state
use Rattle.client_rules.specs.Tables.{number_at}
use Rattle.client_rules.specs.Rules.{new_client, told}
use Rattle.replica_rules.specs.Rules.{Input}
use Rattle.run_rules.specs.Knowing.{KnownNode, fresh, input_of}
use Rattle.run_rules.specs.Running.{known_of}
use Rattle.run_rules.specs.Serving.{client_of}
use Rattle.law_answers.specs.Owing.{KeepsIn, BringsAsk}
use Rattle.law_reads.specs.Serving.{IsOpenRead, FairAt}

-- While the read of event v, of block b, is open: an ask with its number that the step hands over is of the session served, and
-- of its block.
abbrev pub AsksAt : List Posted → (v b : ℕ) → state.Client → TraceStep → Type 0
AsksAt posts v b (state.Serves c) step =
    IsOpenRead v b c → (input : Input) → input_of posts step.handed ≡ Some input → (ask : Ask) → BringsAsk input ask → ask.read ≡ v → (ask.session ≡ c.session) × (ask.block ≡ b)
AsksAt posts v b other step = Unit {0}

-- so in each of these steps, and no answer of the server to the read is struck
unfoldable pub AskedAlong : Volume → List Posted → NodeName → (v b : ℕ) → state.Client → List TraceStep → Type 0
AskedAlong volume posts name v b c [] = Unit {0}
AskedAlong volume posts name v b c (step ∷ steps) =
    FairAt volume.geometry posts name v b c step
    × AsksAt posts v b c step
    × AskedAlong volume posts name v b (told volume c step.event (news_of posts step)).client steps

-- no ask of the session served that the server keeps has a number above the present one
abbrev pub KeptBelow : Shape → (b : ℕ) → state.Client → KnownNode → Type 0
KeptBelow shape b (state.Serves c) known =
    (ask : Ask) → KeepsIn ask known.state.memory → ask.session ≡ c.session → ask.block ≡ b → region_of shape b < regions shape → ask.at ≤ number_at c (region_of shape b)
KeptBelow shape b other known = Unit {0}

-- For each read of a block of its region so along the run; and at the end of each front part of it the server keeps no ask that is
-- above the present number.
pub record IsAskedRight (volume : Volume) (posts : List Posted) (trace : List TraceStep) (first : NodeName → Held) (name : NodeName) : Type 0 where
  pub along : (v b : ℕ) → region_of volume.geometry b ≡ name.region → AskedAlong volume posts name v b (new_client volume.geometry) trace
  pub kept : (done rest : List TraceStep) → trace ≡ done ++ rest → (b : ℕ)
      → KeptBelow volume.geometry b (client_of volume posts (new_client volume.geometry) done) (known_of volume.geometry posts name (fresh volume.geometry name.region (first name)) done)
