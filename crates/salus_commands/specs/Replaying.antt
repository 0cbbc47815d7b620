-- What a replay reports.
use Rattle.std.specs.Prelude.{◌≡◌, ℕ, false, List, [], Option, IfSome}
use Rattle.schedule_text.specs.declared.schedule.Volume.{Volume}
use Rattle.schedule_text.specs.declared.schedule.Event.{Event}
use Rattle.schedule_text.specs.declared.schedule.Schedule.{Schedule}
use Rattle.schedule_text.specs.Grammar.{IsSchedule, sessions_of}
use Rattle.printed_lines.specs.declared.line.Line.{Line}
use Rattle.salus_model.specs.declared.trace.TraceStep.{TraceStep}
use Rattle.salus_model.specs.Following.{Posted, posts_of, Follows}
use Rattle.salus_model.specs.Judge.{LegalHistory, KeepsAcknowledged}
use Rattle.salus_model.specs.Guarding.{Guarded}
use Rattle.salus_model.specs.Due.{lines_due, lines_from}
use Rattle.salus_model.specs.Seen.{NoCollision}
use Rattle.salus_model.specs.Forgery.{NoForgery}
use Rattle.salus_model.specs.Complete.{CompleteWhenQuiet, ReadsBesideLies}
use Rattle.client_rules.specs.Rules.{new_client}
use Rattle.run_rules.specs.Running.{NodesByRules, formatted}
use Rattle.run_rules.specs.Serving.{ClientByRules}
use Rattle.run_rules.specs.Calm.{Calm}
use Rattle.run_rules.specs.Rooms.{rooms_of}
use Rattle.client_premises.specs.Behind.{ClientStepsBehind, LinesBehind}
use Rattle.law_lines.specs.Running.{told_pasts}
use Rattle.law_kept.specs.Losing.{NoneIsLost}
use Rattle.law_covered.specs.Coverage.{CoveredThroughout}
use Rattle.salus_world.specs.declared.ran.Ran.{Ran}
use Rattle.salus_world.specs.Runs.{Ends}
use Rattle.salus_commands.specs.declared.report.Report.{Report}
use Rattle.salus_commands.specs.Disks.{DisksCovered}

abbrev pub empty_report : Report
empty_report = record { lines = []; messages = [] }

-- These are the messages, the trace, the lines of each step and all lines of a run of these events on that volume.
pub record IsRun (volume : Volume) (events : List Event) (posts : List Posted) (trace : List TraceStep) (told : List (List Line)) (lines : List Line) : Type 0 where
  -- the trace follows the schedule
  pub follows : Follows events posts trace
  -- a call of a disk fails only where the schedule has one fail
  pub calm : Calm events trace
  -- each node goes by its rules, from a formatted volume on
  pub nodes : NodesByRules volume.geometry (formatted volume) posts trace
  -- so does the client, its messages and its lines, up to the first step in which two different strings share a digest
  pub client : ClientStepsBehind volume posts (new_client volume.geometry) 0 trace
  pub client_lines : LinesBehind volume posts (new_client volume.geometry) trace told
  -- the lines are those of the steps, with those of the events that are skipped in their places
  pub printed : lines ≡ lines_from volume events posts 0 1 events (told_pasts volume trace told)
  -- Where no two different strings seen share a digest and no lie brings a forged tag, the client goes by its rules throughout, the
  -- lines are exactly those due, and they are a legal history of one array.
  pub by_rules : NoCollision volume events posts trace → NoForgery volume events posts trace → ClientByRules volume (new_client volume.geometry) posts trace
  pub exact : NoCollision volume events posts trace → NoForgery volume events posts trace → lines ≡ lines_due volume events posts trace
  pub legal : NoCollision volume events posts trace → NoForgery volume events posts trace → LegalHistory volume.geometry events lines
  -- Where besides no lie carries the client's name and each group has a node that counts at every step, every session starts from a
  -- front part of the last list that has every acknowledged batch, and none is lost.
  pub kept : NoCollision volume events posts trace → NoForgery volume events posts trace → Guarded volume events posts trace
      → KeepsAcknowledged volume.geometry events lines × NoneIsLost lines
  -- So it is because at every step the disks of the nodes that count have all that was acknowledged or claimed.
  pub covered : NoCollision volume events posts trace → NoForgery volume events posts trace → Guarded volume events posts trace → CoveredThroughout volume events posts trace
  -- A read of a block whose group has a sound server, whatever the others do, ends with its block once every message between that
  -- server and the client was taken, if no lie carries the client's name and the client doesn't crash before.
  pub reads : NoCollision volume events posts trace → NoForgery volume events posts trace → ReadsBesideLies volume events posts (rooms_of volume.geometry posts (formatted volume)) trace
  -- Where each group has a node that counts at every step, that server has room for every part, so it is enough that each of these
  -- messages was handed over.
  pub reads_handed : NoCollision volume events posts trace → NoForgery volume events posts trace → Guarded volume events posts trace → ReadsBesideLies volume events posts (λ earlier step. false) trace
  -- A quiet run, of requests, deliveries, ticks and crashes of the client alone, in which every message was handed over by the end, is
  -- complete: of the requests that the client took since its last crash each write is acknowledged, each read has its block and each
  -- barrier is answered, and the last session that it took a request to open since then was opened.
  pub answers : NoCollision volume events posts trace → NoForgery volume events posts trace → CompleteWhenQuiet volume events posts trace
  -- Where no event asks to open a session, the first two need no premise on tags.
  pub closed_by_rules : sessions_of events ≡ [] → NoCollision volume events posts trace → ClientByRules volume (new_client volume.geometry) posts trace
  pub closed_exact : sessions_of events ≡ [] → NoCollision volume events posts trace → lines ≡ lines_due volume events posts trace

-- The report is that of a run of the schedule.
pub record Replays (schedule : Schedule) (report : Report) : Type 0 where
  pub trace : List TraceStep
  pub told : List (List Line)
  pub run : IsRun schedule.volume schedule.events (posts_of report.messages) trace told report.lines
  -- the run left its nodes, besides the lines and the messages that are reported
  pub left : Ran
  pub reported : report ≡ record { lines = left.lines; messages = left.messages }
  pub ends : Ends schedule.volume schedule.events left
  pub same_trace : ends.runs.course.trace ≡ trace
  -- and so their disks have what was acknowledged or claimed
  pub disks : DisksCovered schedule.volume schedule.events (posts_of report.messages) trace left.nodes.items

-- The text is that of a schedule, and the report is that of a run of this schedule.
pub record RanText (text : List ℕ) (report : Report) : Type 0 where
  pub schedule : Schedule
  pub means : IsSchedule text schedule
  pub replays : Replays schedule report

-- So of the text that a source had, if it tells what it had.
pub record RanSchedule (left : Option (List ℕ)) (report : Report) : Type 0 where
  pub text : List ℕ
  pub told : IfSome left (λ bytes. bytes ≡ text)
  pub ran : RanText text report
