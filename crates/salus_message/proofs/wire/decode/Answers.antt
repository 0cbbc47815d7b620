use Rattle.std.proofs.Common.{Result, Ok, ap, subst, ◌∙◌}
use Rattle.salus_types.specs.Outcome.{Gives}
use Rattle.salus_message.specs.declared.wire.Message.{Message}
use Rattle.salus_message.specs.declared.wire.MessageError.{MessageError}
use Rattle.salus_message.specs.Reading.{message_at, message_fault}
use Rattle.salus_message.proofs.MessageLaws.{is_found, message_again}
use Rattle.salus_message.proofs.wire.decode.Goals as goal

pub returns-clause-found : goal.returns-clause-found
returns-clause-found c = is_found c.args.bytes.now c.read_message.result (λ i. (c.type_inv.bytes i).fits) c.read_message.ensures

pub returns-clause-only : goal.returns-clause-only
returns-clause-only c = λ m counts widths e. subst (λ (f : Result Message MessageError). Gives Ok message_fault c.read_message.result f) (ap message_at e ∙ message_again m counts widths) c.read_message.ensures
