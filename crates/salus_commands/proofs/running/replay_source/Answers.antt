use Rattle.std.proofs.Common.{Err, ap, inl, inr}
use Rattle.salus_commands.proofs.Sources.{refused_of_source, part_of_source, too_long, too_long_of}
use Rattle.salus_commands.proofs.running.replay_source.Goals as goal

pub returns-in-Ok-clause-refused : goal.returns-in-Ok-clause-refused
returns-in-Ok-clause-refused g c three =
    refused_of_source _ _ c.in-Ok.text.items _ _ c.in-Ok.ensures.whole c.in-Ok.ensures.end (rw c.as_slice.ensures.value at (c.answer.ensures.refused three))

pub returns-in-Ok-clause-part : goal.returns-in-Ok-clause-part
returns-in-Ok-clause-part g c failed =
    part_of_source _ _ c.in-Ok.text.items c.answer.new.report _ _ c.in-Ok.ensures.whole c.in-Ok.ensures.end (rw c.as_slice.ensures.value at (c.answer.ensures.part failed))

pub returns-in-Ok-clause-memory : goal.returns-in-Ok-clause-memory
returns-in-Ok-clause-memory g c six = elim (c.answer.ensures.memory six) [
  | inl same ↦ inl same
  | inr part ↦ inr (part_of_source _ _ c.in-Ok.text.items c.answer.new.report _ _ c.in-Ok.ensures.whole c.in-Ok.ensures.end (rw c.as_slice.ensures.value at part))
]

pub returns-in-Err-TooLong-clause-refused : goal.returns-in-Err-TooLong-clause-refused
returns-in-Err-TooLong-clause-refused g c three = record {
  why = too_long;
  refused = too_long_of _ _ (c.in-Err-TooLong.ensures.too_long (ap Err c.in-Err-TooLong.field-0-is)) (c.in-Err-TooLong.ensures.longer (ap Err c.in-Err-TooLong.field-0-is));
  written = c.refuse.ensures.written three;
}

pub returns-in-Err-TooLong-clause-part : goal.returns-in-Err-TooLong-clause-part
returns-in-Err-TooLong-clause-part g c failed = inr (record {
  why = too_long;
  refused = too_long_of _ _ (c.in-Err-TooLong.ensures.too_long (ap Err c.in-Err-TooLong.field-0-is)) (c.in-Err-TooLong.ensures.longer (ap Err c.in-Err-TooLong.field-0-is));
  written = c.refuse.ensures.part;
  nothing = c.requires;
})

pub returns-in-Err-TooLong-clause-memory : goal.returns-in-Err-TooLong-clause-memory
returns-in-Err-TooLong-clause-memory g c six = inr (inr (record {
  why = too_long;
  refused = too_long_of _ _ (c.in-Err-TooLong.ensures.too_long (ap Err c.in-Err-TooLong.field-0-is)) (c.in-Err-TooLong.ensures.longer (ap Err c.in-Err-TooLong.field-0-is));
  written = c.refuse.ensures.part;
  nothing = c.requires;
}))
