-- What a reader's refusal says of what it read.
use Rattle.std.specs.Prelude.{ℕ, List, codes, Option, None, Some, Result, Err}
use Rattle.schedule_text.specs.declared.error.Cause.{Cause}
use Rattle.schedule_text.specs.declared.error.Cause.TheVariants as cause
use Rattle.schedule_text.specs.declared.error.LineError.{LineError}
use Rattle.schedule_text.specs.declared.error.LineError.TheVariants as failure
use Rattle.schedule_text.specs.declared.error.ScheduleError.{ScheduleError}
use Rattle.schedule_text.specs.declared.error.ParseError.{ParseError}
use Rattle.schedule_text.specs.declared.error.ParseError.TheVariants as error
use Rattle.schedule_text.specs.declared.schedule.Schedule.{Schedule}
use Rattle.schedule_text.specs.Grammar.{IsFirstWrong, IsSchedule}

-- the word by which users see a cause
abbrev pub cause_word : Cause → List ℕ
cause_word cause.Volume = codes "volume"
cause_word cause.Word = codes "word"
cause_word cause.Number = codes "number"
cause_word cause.Node = codes "node"
cause_word cause.Hex = codes "hex"
cause_word cause.Size = codes "size"
cause_word cause.Empty = codes "empty"
cause_word cause.Order = codes "order"
cause_word cause.Long = codes "long"

-- what a line means where this error is answered, which is that it is wrong, and why; want of memory says nothing
abbrev pub line_fault : {X : Type 0} → LineError → Option (Result X Cause)
line_fault (failure.Wrong why) = Some (Err why)
line_fault failure.NoMemory = None

-- what a text means where this error is answered, which is its first wrong line; want of memory says nothing
abbrev pub text_fault : {X : Type 0} → ParseError → Option (Result X ScheduleError)
text_fault (error.Refused wrong) = Some (Err wrong)
text_fault error.NoMemory = None

-- a refusal names the first wrong line of the text with its cause, and the text is no schedule's
abbrev pub RefusesText : List ℕ → ParseError → Type 0
RefusesText text (error.Refused wrong) = IsFirstWrong text wrong × ((schedule : Schedule) → ¬ IsSchedule text schedule)
RefusesText text error.NoMemory = Unit {0}
