-- What holds before each step of the client, so that it is steps of the abstract client.
use Rattle.std.specs.Prelude.{◌≡◌, ℕ, ◌+◌, ◌<◌, ◌≤◌, true, List, ◌∷◌, length, Some}
use Rattle.salus_types.specs.Volume.{Shape}
use Rattle.schedule_text.specs.declared.schedule.Volume.{Volume}
use Rattle.schedule_text.specs.declared.schedule.Event.{Event}
use Rattle.printed_lines.specs.declared.line.Line.TheVariants as line
use Rattle.merkle_region.specs.Tree.{IsAmong}
use Rattle.salus_model.specs.declared.trace.Request.TheVariants as request
use Rattle.volume_model.specs.Parts.{Session}
use Rattle.salus_model.specs.Judge.{Judge, known_at, last_number, IsLegalLine, AlongLines}
use Rattle.salus_model.specs.Hearing.{News, Asks, Past, judge_of, news_since, begins, phase_of}
use Rattle.salus_model.specs.Opening.{Reply, replies_to}
use Rattle.salus_model.specs.Due.{due_news}
use Rattle.law_prefix.specs.World as abstract
use Rattle.law_prefix.specs.World.{Guarded}
use Rattle.law_prefix.specs.Good.{Good}
use Rattle.kept_model.specs.Nodes.{node_number, is_honest, volume_as}
use Rattle.kept_model.specs.Phases.{asked_of, IsClientOf}
use Rattle.kept_model.specs.Sound.{IsSoundHeld}
use Rattle.law_records.specs.Sessions.{IsCountable}
use Rattle.law_records.specs.Replying.{IsTold}
use Rattle.law_phases.specs.Hearing.{IsHeardIn}
use Rattle.law_phases.specs.Moving.{OpensAsked}

-- a session that is asked for is later than the last one
abbrev pub AsksLater : ℕ → News → Type 0
AsksLater asked (Asks (request.Restart e)) = asked < e
AsksLater asked (Asks (request.Reassign e g)) = asked < e
AsksLater asked other = Unit {0}

-- what a node replied in whose name no lie is told is sound
abbrev pub RepliesSound : Volume → List Event → Judge → List Reply → Type 0
RepliesSound volume events judge replies =
    (r : Reply) → IsAmong r replies → r.name.replica < volume.geometry.replicas → is_honest volume.geometry events (node_number volume.geometry r.name) ≡ true
    → IsSoundHeld volume.geometry volume.key judge r.name.region r.held

-- each session that is known keeps to what its records need to count, and has at most as many batches as the number of the last
-- write that was submitted
pub record AreCountable (shape : Shape) (events : List Event) (judge : Judge) : Type 0 where
  pub each : (known : Session) (e : ℕ) → known_at judge e ≡ Some known → IsCountable shape known
  pub few : (known : Session) (e : ℕ) → known_at judge e ≡ Some known → length known.list ≤ judge.latest
  pub low : judge.latest ≤ length events

-- The abstract world matches the history before the step with that news, and its run was good so far.
pub record IsBefore (volume : Volume) (events : List Event) (history : List Past) (v : ℕ) (news : News) (w : abstract.World) : Type 0 where
  pub client : IsClientOf volume.geometry events history w.client
  pub good : Good (volume_as volume.geometry events) w
  pub guarded : Guarded (volume_as volume.geometry events) w.counts
  pub legal : AlongLines (IsLegalLine volume.geometry events) events (judge_of volume.geometry events history) (due_news volume events history (judge_of volume.geometry events history) v news)
  pub countable : AreCountable volume.geometry events (judge_of volume.geometry events history)
  pub opening : OpensAsked (phase_of history) (asked_of history)
  pub later : AsksLater (asked_of history) news
  -- all that was heard of honest nodes is in the abstract world
  pub heard_before : (p : Past) → IsAmong p history → IsHeardIn volume.geometry events w p.news
  pub heard_now : IsHeardIn volume.geometry events w news
  pub told : IsTold volume (judge_of volume.geometry events history) (news ∷ news_since begins history)
  pub sound : (e : ℕ) → RepliesSound volume events (judge_of volume.geometry events history) (replies_to e (news ∷ news_since begins history))
  -- at most 16 batches wait to be acknowledged
  pub room : (u s : ℕ) → IsAmong (line.Submit u s) (due_news volume events history (judge_of volume.geometry events history) v news)
      → last_number (judge_of volume.geometry events history) < (judge_of volume.geometry events history).acked + 16
