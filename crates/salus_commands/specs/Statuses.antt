-- What each status says of source, sink and report.
use Rattle.std.specs.Prelude.{◌≡◌, ℕ, ◌⊎◌, List, Option, Some, IfSome}
use Rattle.salus_io.specs.Told.{ConsumesMore, IsAtEnd, Appends, AppendsPrefix}
use Rattle.printed_lines.specs.LineText.{text_of}
use Rattle.schedule_text.specs.declared.schedule.Schedule.{Schedule}
use Rattle.schedule_text.specs.declared.error.ScheduleError.{ScheduleError}
use Rattle.schedule_text.specs.Grammar.{IsSchedule}
use Rattle.salus_commands.specs.declared.report.Report.{Report}
use Rattle.salus_commands.specs.Refusing.{IsRefused, refusal_text}
use Rattle.salus_commands.specs.Replaying.{empty_report, RanText, RanSchedule}

-- ---- of a source

-- The source was read to its end, or past the limit of a schedule's text; what it had, if it tells, is refused so.
pub record IsRefusedOf (old new : Option (List ℕ)) (r : ScheduleError) : Type 0 where
  pub read : IsAtEnd new ⊎ ConsumesMore old new 67108864
  pub refused : IfSome old (λ text. IsRefused text r)

-- the refusal was written, and nothing else
pub record WroteRefusal (source_old source_new held_old held_new : Option (List ℕ)) : Type 0 where
  pub why : ScheduleError
  pub refused : IsRefusedOf source_old source_new why
  pub written : Appends held_old held_new (refusal_text why)

-- a front part of the refusal was written, and the report is of nothing
pub record WrotePartOfRefusal (source_old source_new : Option (List ℕ)) (report : Report) (held_old held_new : Option (List ℕ)) : Type 0 where
  pub why : ScheduleError
  pub refused : IsRefusedOf source_old source_new why
  pub written : AppendsPrefix held_old held_new (refusal_text why)
  pub nothing : report ≡ empty_report

-- a front part of a run's lines was written, and the report is of that run
pub record WrotePartOfLines (source_old : Option (List ℕ)) (report : Report) (held_old held_new : Option (List ℕ)) : Type 0 where
  pub ran : RanSchedule source_old report
  pub written : AppendsPrefix held_old held_new (text_of report.lines)

-- a front part of the one text or of the other
abbrev pub WrotePart : Option (List ℕ) → Option (List ℕ) → Report → Option (List ℕ) → Option (List ℕ) → Type 0
WrotePart source_old source_new report held_old held_new =
    WrotePartOfLines source_old report held_old held_new ⊎ WrotePartOfRefusal source_old source_new report held_old held_new

-- the source tells what it has, and that is the text of a schedule
pub record HasSchedule (left : Option (List ℕ)) : Type 0 where
  pub text : List ℕ
  pub schedule : Schedule
  pub told : left ≡ Some text
  pub means : IsSchedule text schedule

-- the source tells what it has, and that is refused
pub record HasRefused (left : Option (List ℕ)) : Type 0 where
  pub text : List ℕ
  pub why : ScheduleError
  pub told : left ≡ Some text
  pub refused : IsRefused text why

-- ---- the same of a text that was read

-- the text is refused, and the refusal was written
pub record RefusedText (text : List ℕ) (held_old held_new : Option (List ℕ)) : Type 0 where
  pub why : ScheduleError
  pub refused : IsRefused text why
  pub written : Appends held_old held_new (refusal_text why)

pub record PartOfLines (text : List ℕ) (report : Report) (held_old held_new : Option (List ℕ)) : Type 0 where
  pub ran : RanText text report
  pub written : AppendsPrefix held_old held_new (text_of report.lines)

pub record PartOfRefusal (text : List ℕ) (report : Report) (held_old held_new : Option (List ℕ)) : Type 0 where
  pub why : ScheduleError
  pub refused : IsRefused text why
  pub written : AppendsPrefix held_old held_new (refusal_text why)
  pub nothing : report ≡ empty_report

abbrev pub PartOfText : List ℕ → Report → Option (List ℕ) → Option (List ℕ) → Type 0
PartOfText text report held_old held_new = PartOfLines text report held_old held_new ⊎ PartOfRefusal text report held_old held_new
