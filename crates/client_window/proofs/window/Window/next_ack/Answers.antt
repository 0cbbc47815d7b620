use Rattle.std.proofs.Common.{◌∙◌, sym}
use Rattle.client_window.proofs.Acking.{no_batch, no_ack, first_ack}
use Rattle.client_window.proofs.window.Window.next_ack.Goals as goal

pub returns-in-None-clause-first : goal.returns-in-None-clause-first
returns-in-None-clause-first c = λ s stands. no_batch _ _ c.self.view_is c.self.invariant s stands (sym c.oldest.ensures ∙ c.in-None.is)

pub returns-then-not-all_claim-clause-first : goal.returns-then-not-all_claim-clause-first
returns-then-not-all_claim-clause-first c =
    λ s stands. no_ack _ _ c.self.view_is c.self.invariant s stands c.in-Some.leader (sym c.oldest.ensures ∙ c.in-Some.is) (sym c.all_claim.ensures ∙ c.if-not-all_claim.true)

pub returns-clause-first : goal.returns-clause-first
returns-clause-first c =
    λ s stands. first_ack _ _ c.self.view_is c.self.invariant s stands c.in-Some.leader (sym c.oldest.ensures ∙ c.in-Some.is) (sym c.all_claim.ensures ∙ c.if-not-all_claim.false)
