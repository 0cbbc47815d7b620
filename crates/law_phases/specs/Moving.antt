-- What a step of the client makes of an abstract world that matched before it.
use Rattle.std.specs.Prelude.{◌≡◌, ℕ, if◌then◌else◌, List, ◌∷◌}
use Rattle.salus_types.specs.Volume.{Shape}
use Rattle.schedule_text.specs.declared.schedule.Event.{Event}
use Rattle.salus_model.specs.Hearing.{Past, opens, begins, Phase, Serving, Closed, Gathering, Fetching, Staged, phase_of}
use Rattle.law_prefix.specs.World as abstract
use Rattle.law_prefix.specs.Run.{Run}
use Rattle.kept_model.specs.Nodes.{volume_as}
use Rattle.kept_model.specs.Phases.{asked_of, IsClientOf}

-- the session that is being opened is the one that was asked for last
abbrev pub OpensAsked : Phase → ℕ → Type 0
OpensAsked Serving asked = Unit {0}
OpensAsked Closed asked = Unit {0}
OpensAsked (Gathering e) asked = asked ≡ e
OpensAsked (Fetching e g) asked = asked ≡ e
OpensAsked (Staged e) asked = asked ≡ e

-- A run of the abstract model leads to a world whose client is as the history with the step says. What the nodes hold, and all
-- messages, are as before. Where the step opens a session the nodes that are fresh count, and where it begins to open one
-- each node is fresh in whose name no lie is told.
pub record IsMoved (shape : Shape) (events : List Event) (history : List Past) (p : Past) (w : abstract.World) : Type 0 where
  pub after : abstract.World
  pub run : Run (volume_as shape events) w after
  pub client : IsClientOf shape events (p ∷ history) after.client
  pub opening : OpensAsked (phase_of (p ∷ history)) (asked_of (p ∷ history))
  pub images : after.images ≡ w.images
  pub counts : after.counts ≡ (if opens p then w.fresh else w.counts)
  pub fresh : after.fresh ≡ (if begins p then (volume_as shape events).honest else w.fresh)
  pub votes : after.votes ≡ w.votes
  pub claims : after.claims ≡ w.claims
  pub staged : after.staged ≡ w.staged
  pub switched : after.switched ≡ w.switched
  pub replies : after.replies ≡ w.replies
