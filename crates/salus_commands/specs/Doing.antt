-- What each command has done at each status.
use Rattle.std.specs.Prelude.{◌≡◌, ℕ, ◌≤◌, List, length, Option}
use Rattle.salus_io.specs.Told.{IsAtEnd, Appends, AppendsPrefix}
use Rattle.printed_lines.specs.LineText.{text_of}
use Rattle.schedule_text.specs.Printing.{printed}
use Rattle.schedule_generator.specs.Generator.{generated, generated_events}
use Rattle.run_summary.specs.Counting.{summary_text}
use Rattle.salus_commands.specs.declared.report.Report.{Report}
use Rattle.salus_commands.specs.declared.words.Command.{Command}
use Rattle.salus_commands.specs.declared.words.Command.TheVariants as command
use Rattle.salus_commands.specs.Replaying.{empty_report, Replays, RanSchedule}
use Rattle.salus_commands.specs.Statuses.{HasSchedule, WrotePart}

-- ---- the command is done

-- the source was read to its end and had a schedule, the report is of a run of it, and its lines were written
pub record Replayed (source_old source_new : Option (List ℕ)) (report : Report) (held_old held_new : Option (List ℕ)) : Type 0 where
  pub ran : RanSchedule source_old report
  pub whole : IsAtEnd source_new
  pub written : Appends held_old held_new (text_of report.lines)

-- the text of the schedule of that seed was written, and the report is of nothing
pub record WroteSchedule (seed rounds : ℕ) (report : Report) (held_old held_new : Option (List ℕ)) : Type 0 where
  pub nothing : report ≡ empty_report
  pub written : Appends held_old held_new (printed (generated seed rounds))

-- the summary of a run of that schedule
abbrev pub trial_text : ℕ → ℕ → Report → List ℕ
trial_text seed rounds report = summary_text (length (generated_events seed rounds)) report.lines

-- the report is of a run of the schedule of that seed, and its summary was written
pub record WroteSummary (seed rounds : ℕ) (report : Report) (held_old held_new : Option (List ℕ)) : Type 0 where
  pub ran : Replays (generated seed rounds) report
  pub written : Appends held_old held_new (trial_text seed rounds report)

abbrev pub HasDone : Command → Option (List ℕ) → Option (List ℕ) → Report → Option (List ℕ) → Option (List ℕ) → Type 0
HasDone command.Replay source_old source_new report held_old held_new = Replayed source_old source_new report held_old held_new
HasDone (command.Generate seed rounds) source_old source_new report held_old held_new = WroteSchedule seed rounds report held_old held_new
HasDone (command.Trial seed rounds) source_old source_new report held_old held_new = WroteSummary seed rounds report held_old held_new

-- ---- a front part of what was to be written was written

pub record WrotePartOfSchedule (seed rounds : ℕ) (report : Report) (held_old held_new : Option (List ℕ)) : Type 0 where
  pub nothing : report ≡ empty_report
  pub written : AppendsPrefix held_old held_new (printed (generated seed rounds))

pub record WrotePartOfSummary (seed rounds : ℕ) (report : Report) (held_old held_new : Option (List ℕ)) : Type 0 where
  pub ran : Replays (generated seed rounds) report
  pub written : AppendsPrefix held_old held_new (trial_text seed rounds report)

abbrev pub HasWrittenPart : Command → Option (List ℕ) → Option (List ℕ) → Report → Option (List ℕ) → Option (List ℕ) → Type 0
HasWrittenPart command.Replay source_old source_new report held_old held_new = WrotePart source_old source_new report held_old held_new
HasWrittenPart (command.Generate seed rounds) source_old source_new report held_old held_new = WrotePartOfSchedule seed rounds report held_old held_new
HasWrittenPart (command.Trial seed rounds) source_old source_new report held_old held_new = WrotePartOfSummary seed rounds report held_old held_new

-- ---- what a command needs

-- a replay needs a source with a schedule, the others need none
abbrev pub HasInput : Command → Option (List ℕ) → Type 0
HasInput command.Replay source = HasSchedule source
HasInput (command.Generate seed rounds) source = Unit {0}
HasInput (command.Trial seed rounds) source = Unit {0}

abbrev pub IsReplay : Command → Type 0
IsReplay command.Replay = Unit {0}
IsReplay (command.Generate seed rounds) = ⊥
IsReplay (command.Trial seed rounds) = ⊥

-- a generated schedule has at most 10,000 rounds
abbrev pub HasFewRounds : Command → Type 0
HasFewRounds command.Replay = Unit {0}
HasFewRounds (command.Generate seed rounds) = rounds ≤ 10000
HasFewRounds (command.Trial seed rounds) = rounds ≤ 10000

-- only a replay reads its source
abbrev pub ReadsNothing : Command → Type 0
ReadsNothing command.Replay = ⊥
ReadsNothing (command.Generate seed rounds) = Unit {0}
ReadsNothing (command.Trial seed rounds) = Unit {0}
