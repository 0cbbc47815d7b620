-- That the last session asked for opens.
use Rattle.std.specs.Prelude.{◌≡◌, true, List, IfSome}
use Rattle.salus_types.specs.Volume.{Shape}
use Rattle.schedule_text.specs.declared.schedule.Event.{Event}
use Rattle.salus_model.specs.Complete.{crashes, last_begun}
use Rattle.salus_model.specs.Hearing.{Past, judge_of, since}
use Rattle.salus_model.specs.Judge.{is_among}

-- The last session that the client took a request to open, since its last crash, was opened.
abbrev pub LastOpens : Shape → List Event → List Past → Type 0
LastOpens shape events history = IfSome (last_begun (since crashes history)) (λ e. is_among e (judge_of shape events history).opened ≡ true)
