-- Which texts aren't run, and what is written then.
use Rattle.std.specs.Prelude.{ℕ, List, [], ◌∷◌, ◌++◌, codes, decimal}
use Rattle.schedule_text.specs.declared.schedule.Schedule.{Schedule}
use Rattle.schedule_text.specs.declared.error.ScheduleError.{ScheduleError}
use Rattle.schedule_text.specs.Grammar.{IsSchedule, IsFirstWrong}
use Rattle.schedule_text.specs.Outcome.{cause_word}

-- the text is no schedule's
abbrev pub IsNoSchedule : List ℕ → Type 0
IsNoSchedule text = (schedule : Schedule) → ¬ IsSchedule text schedule

-- that is its first wrong line with its cause, and it is no schedule's
abbrev pub IsRefused : List ℕ → ScheduleError → Type 0
IsRefused text wrong = IsFirstWrong text wrong × IsNoSchedule text

-- the number of that line and the cause, with the line end
abbrev pub refusal_text : ScheduleError → List ℕ
refusal_text wrong = codes "error " ++ decimal wrong.line ++ codes " " ++ cause_word wrong.cause ++ 10 ∷ []
