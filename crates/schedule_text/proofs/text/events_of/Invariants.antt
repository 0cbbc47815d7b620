use Rattle.std.proofs.Common.{◌≡◌, ◌≤◌, length}
use Rattle.text_words.specs.Reading.{lines_left}
use Rattle.schedule_text.specs.Reading.{after_events, events_from}
use Rattle.schedule_text.proofs.text.events_of.Given as goal

abbrev pub invariant-loop-rest : goal.invariant-loop-rest
invariant-loop-rest l = record {
  within : l.line ≤ 65538;
  meaning : after_events l.events (events_from l.geometry l.latest l.line (lines_left l.rest)) ≡ events_from l.geometry 1 2 (lines_left l.fn.text);
}

abbrev pub decreases-loop-rest : goal.decreases-loop-rest
decreases-loop-rest l = length l.rest
