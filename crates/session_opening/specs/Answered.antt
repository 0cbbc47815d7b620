-- Which nodes have answered in a phase: the table of the program, and the list of the rules.
use Rattle.std.specs.Prelude.{◌≡◌, Bool, List, length}
use Rattle.salus_types.specs.Volume.{nodes}
use Rattle.salus_types.specs.declared.names.NodeName.{NodeName}
use Rattle.schedule_text.specs.Limits.{IsOfVolume}
use Rattle.client_rules.specs.Opening.{has_answered}
use Rattle.volume_restart.specs.Answers.{Table, has_said}
use Rattle.volume_restart.specs.Restarting.{Restarting, waits_in}

-- the node hasn't answered in the phase
abbrev pub is_waited_for : Restarting → NodeName → Bool
is_waited_for r name = waits_in r.phase r name

-- the table has an entry for each node of the volume, and says of it what the list says
pub record IsSaid (t : Table) (names : List NodeName) : Type 0 where
  pub count : length t.said ≡ nodes t.shape
  pub same : (name : NodeName) → IsOfVolume t.shape name → has_said t name ≡ has_answered name names
