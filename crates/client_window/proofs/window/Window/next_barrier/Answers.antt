use Rattle.std.proofs.Common.{◌∙◌, sym, subst}
use Rattle.client_window.specs.Window.{KeptWindow}
use Rattle.client_window.specs.Viewing.{waiters}
use Rattle.client_window.specs.Answering.{NoneDue, IsFirstDue}
use Rattle.client_window.proofs.Due.{none_due, first_due, fewer, waiting_rest}
use Rattle.client_window.proofs.window.Window.next_barrier.Goals as goal

pub returns-then-barrier-self-clause-first : goal.returns-then-barrier-self-clause-first
returns-then-barrier-self-clause-first c =
    subst (λ (w : KeptWindow). NoneDue w.acked w.barriers) c.self.view_is
    (none_due c.self.inside.acked c.self.inside.barriers.items c.in-Some.barrier c.self.inside.submitted (sym c.oldest.ensures ∙ c.in-Some.is) c.if-barrier-self.true c.self.invariant.waiting)

pub invariant_of-self : goal.invariant_of-self
invariant_of-self c = record {
  numbered = c.self.invariant.numbered;
  rooted = c.self.invariant.rooted;
  claims_shape = c.self.invariant.claims_shape;
  based = c.self.invariant.based;
  front = c.self.invariant.front;
  counted = c.self.invariant.counted;
  few = c.self.invariant.few;
  waiting = waiting_rest c.self.inside.barriers.items c.pop_front.new.self.items c.self.inside.submitted c.pop_front.ensures.rest c.self.invariant.waiting;
  few_wait = fewer c.self.inside.barriers.items c.pop_front.new.self.items 64 c.pop_front.ensures.rest c.self.invariant.few_wait;
}

pub returns-clause-first : goal.returns-clause-first
returns-clause-first c =
    subst (λ (w : KeptWindow). IsFirstDue w.acked w.barriers (waiters c.pop_front.new.self.items) (c.in-Some.barrier.event, c.in-Some.barrier.front)) c.self.view_is
    (first_due c.self.inside.acked c.self.inside.barriers.items c.pop_front.new.self.items c.in-Some.barrier (sym c.oldest.ensures ∙ c.in-Some.is) c.pop_front.ensures.rest c.if-barrier-self.false)
