use Rattle.std.proofs.Common.{◌<◌, length, subst, sym}
use Rattle.client_window.specs.Window.{KeptWindow}
use Rattle.client_window.proofs.Due.{comes_last, comes_few}
use Rattle.client_window.proofs.window.Window.barrier.Goals as goal

pub invariant_of-self-2 : goal.invariant_of-self-2
invariant_of-self-2 c = record {
  numbered = c.self.invariant.numbered;
  rooted = c.self.invariant.rooted;
  claims_shape = c.self.invariant.claims_shape;
  based = c.self.invariant.based;
  front = c.self.invariant.front;
  counted = c.self.invariant.counted;
  few = c.self.invariant.few;
  waiting = comes_last c.self.inside.barriers.items c.push_back.new.self.items c.args.event c.self.inside.submitted c.in_ok-push_back.ensures.items c.self.invariant.waiting;
  few_wait =
      comes_few c.self.inside.barriers.items c.push_back.new.self.items c.args.event c.self.inside.submitted 64 c.in_ok-push_back.ensures.items
      (subst (λ (w : KeptWindow). length w.barriers < 64) (sym c.self.view_is) c.requires);
}
