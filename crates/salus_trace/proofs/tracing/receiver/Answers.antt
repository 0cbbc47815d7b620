use Rattle.std.proofs.Common.{◌∙◌, ◌-◌, List, slice_get, sym, ap}
use Rattle.std.specs.Option.{option_copied}
use Rattle.salus_model.specs.declared.sending.Sent.{Sent}
use Rattle.salus_trace.proofs.Walking.{receiver_within}
use Rattle.salus_trace.proofs.tracing.receiver.Goals as goal

pub returns-in-Some : goal.returns-in-Some
returns-in-Some c =
    receiver_within c.args.world.now c.requires (c.args.message - 1) c.in-Some.sent.now
    (ap (λ (l : List Sent). slice_get l (c.args.message - 1)) (sym c.sent.ensures) ∙ (sym c.message_at.ensures ∙ ap option_copied c.in-Some.is))
