-- The premises of the law of lines: what a trace that follows a schedule gives, and what a restart chooses.
use Rattle.std.specs.Prelude.{◌≡◌, ℕ, ◌+◌, ◌^◌, ◌<◌, ◌≤◌, List, [], ◌∷◌, Some}
use Rattle.schedule_text.specs.declared.schedule.Volume.{Volume}
use Rattle.schedule_text.specs.declared.schedule.Event.{Event}
use Rattle.schedule_text.specs.declared.schedule.Event.TheVariants as event
use Rattle.salus_model.specs.declared.trace.Request.{Request}
use Rattle.salus_model.specs.declared.trace.Request.TheVariants as request
use Rattle.salus_model.specs.declared.trace.TraceStep.{TraceStep}
use Rattle.salus_model.specs.Judge.{Judge, event_at}
use Rattle.salus_model.specs.Following.{Posted}
use Rattle.salus_model.specs.Hearing.{News, Asks, Past, news_of, news_since, begins, judge_of, Gathering, phase_of}
use Rattle.salus_model.specs.Opening.{replies_to}
use Rattle.salus_model.specs.Due.{past_of}
use Rattle.law_lines.specs.Mirrors.{ChoiceHolds}

-- sessions that are asked for rise
abbrev pub SessionFits : ℕ → Request → Type 0
SessionFits m (request.Restart e) = m ≤ e
SessionFits m (request.Reassign e g) = m ≤ e
SessionFits m other = Unit {0}

-- a write is that of its event
abbrev pub IsScripted : List Event → ℕ → Request → Type 0
IsScripted events v (request.Write batch) = event_at events v ≡ Some (event.Write batch)
IsScripted events v other = Unit {0}

-- a request comes at an event from n on, below 2^32, and asks for no session below m
abbrev pub AsksFit : List Event → ℕ → ℕ → ℕ → News → Type 0
AsksFit events n m v (Asks r) = (n ≤ v) × (v < 2 ^ 32) × SessionFits m r × IsScripted events v r
AsksFit events n m v other = Unit {0}

-- the next event and the next session that may be asked
abbrev pub event_after : ℕ → ℕ → News → ℕ
event_after n v (Asks r) = v + 1
event_after n v other = n

abbrev pub session_after : ℕ → News → ℕ
session_after m (Asks (request.Restart e)) = e + 1
session_after m (Asks (request.Reassign e g)) = e + 1
session_after m other = m

-- What one step owes: it fits the schedule, and what a restart would choose is a front part of a known session.
pub record IsReady (volume : Volume) (events : List Event) (history : List Past) (judge : Judge) (n m : ℕ) (v : ℕ) (news : News) : Type 0 where
  pub fits : AsksFit events n m v news
  pub choice : (e : ℕ) → phase_of history ≡ Gathering e → ChoiceHolds volume judge (replies_to e (news ∷ news_since begins history))

-- and so each of these steps, after that history
unfoldable pub AreReady : Volume → List Event → List Posted → List Past → ℕ → ℕ → List TraceStep → Type 0
AreReady volume events posts history n m [] = Unit {0}
AreReady volume events posts history n m (step ∷ steps) =
    IsReady volume events history (judge_of volume.geometry events history) n m step.event (news_of posts step)
    × AreReady volume events posts (past_of volume events posts history step ∷ history) (event_after n step.event (news_of posts step)) (session_after m (news_of posts step)) steps
