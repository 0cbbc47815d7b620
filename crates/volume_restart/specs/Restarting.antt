-- What a restart holds, and what it chooses.
use Rattle.std.specs.Prelude.{ℕ, Bool, false, ◌==◌, ◌&&◌, not, if◌then◌else◌, List}
use Rattle.salus_types.specs.Volume.{Shape}
use Rattle.salus_types.specs.declared.names.NodeName.{NodeName}
use Rattle.salus_message.specs.declared.carried.Gathered.{Gathered}
use Rattle.volume_model.specs.Recovering.{Pool}
use Rattle.client_rules.specs.Opening.{no_pool, with_held}
use Rattle.restart_pool.specs.Kept.{Kept}
use Rattle.volume_restart.specs.declared.restart.Phase.{Phase}
use Rattle.volume_restart.specs.declared.restart.Phase.TheVariants as phase
use Rattle.volume_restart.specs.Answers.{Table, all_said, has_said, nobody, with_said}

pub record Restarting : Type 0 where
  pub session : ℕ
  pub phase : Phase
  -- who has answered in this phase
  pub answers : Table
  -- what counts of the replies
  pub pool : Pool

abbrev pub shape_of : Restarting → Shape
shape_of r = r.answers.shape

abbrev pub nothing_gathered : Shape → ℕ → Restarting
nothing_gathered shape session = record { session = session; phase = phase.Gathering; answers = nobody shape; pool = no_pool }

-- ---- gathering

abbrev pub counts_reply : Restarting → NodeName → Gathered → Bool
counts_reply r name m = (m.session == r.session) && not (has_said r.answers name)

-- a node's first reply of the session
abbrev pub reply_taken : List ℕ → Restarting → NodeName → Gathered → Restarting
reply_taken key r name m =
    if counts_reply r name m
    then record { session = r.session; phase = r.phase; answers = with_said r.answers name; pool = with_held (shape_of r) key m.held r.pool }
    else r

-- it counts while replies are gathered
abbrev pub with_reply_in : Phase → List ℕ → Restarting → NodeName → Gathered → Restarting
with_reply_in phase.Gathering key r name m = reply_taken key r name m
with_reply_in other key r name m = r

-- ---- staging and switching

abbrev pub in_phase : Phase → Restarting → Restarting
in_phase next r = record { session = r.session; phase = next; answers = nobody (shape_of r); pool = r.pool }

-- a node has answered; after the last one the next phase begins
abbrev pub answered : Phase → Restarting → NodeName → Restarting
answered next r name =
    if all_said (with_said r.answers name) then in_phase next r
    else record { session = r.session; phase = r.phase; answers = with_said r.answers name; pool = r.pool }

abbrev pub staged_in : Phase → Restarting → NodeName → Restarting
staged_in phase.Staging r name = answered phase.Switching r name
staged_in other r name = r

abbrev pub switched_in : Phase → Restarting → NodeName → Restarting
switched_in phase.Switching r name = answered phase.Done r name
switched_in other r name = r

abbrev pub waits_in : Phase → Restarting → NodeName → Bool
waits_in phase.Done r name = false
waits_in other r name = not (has_said r.answers name)

-- ---- the choice

abbrev pub kept_by : Restarting → Kept
kept_by r = record { shape = shape_of r; held = r.pool }
