use Rattle.std.proofs.Common.{◌≡◌, sym, subst, ⊎_elim}
use Rattle.std.specs.Prelude.{Ok, Err}
use Rattle.salus_types.specs.Outcome.{Gives}
use Rattle.salus_message.specs.declared.wire.MessageError.{MessageError}
use Rattle.salus_message.specs.Reading.{message_fault}
use Rattle.replica_node.proofs.Saying.{on_ok_given}
use Rattle.replica_node.proofs.dispatch.plan_undecoded.Goals as goal

pub returns-in-Short-clause-refused : goal.returns-in-Short-clause-refused
returns-in-Short-clause-refused c = λ meaning gives.
    let R : MessageError → Type 0 = λ e. Gives Ok message_fault (Err e) meaning → meaning ≡ Err e in
    let is : R c.args.error =
    ⊎_elim (λ e. subst R (sym e) (λ same. same)) (⊎_elim (λ e. subst R (sym e) (λ same. same)) (⊎_elim (λ e. subst R (sym e) (λ same. same)) (λ e. subst R (sym e) (λ same. same)))) c.in-Short.is in
    on_ok_given c.ignored.result (meaning ≡ Err c.args.error) (is gives)
