use Rattle.std.proofs.Common.{◌∙◌, ap, sym, subst}
use Rattle.client_window.specs.Standing.{StandsFor}
use Rattle.client_window.proofs.Claiming.{claims_agree}
use Rattle.unanimous_certificate.specs.Kept.{claims_in}
use Rattle.client_window.proofs.window.Window.claim.Goals as goal

pub invariant_of-self : goal.invariant_of-self
invariant_of-self c = record {
  numbered = c.self.invariant.numbered;
  rooted = c.self.invariant.rooted;
  claims_shape = c.take.ensures.shape ∙ c.self.invariant.claims_shape;
  based = c.self.invariant.based;
  front = c.self.invariant.front;
  counted = c.self.invariant.counted;
  few = c.self.invariant.few;
  waiting = c.self.invariant.waiting;
  few_wait = c.self.invariant.few_wait;
}

pub returns-clause-stands : goal.returns-clause-stands
returns-clause-stands c = λ s stands.
    let here = subst (λ w. StandsFor w s) (sym c.self.view_is) stands in
    record {
      session = here.session;
      base = here.base;
      last = here.last;
      acked = here.acked;
      numbers = here.numbers;
      roots = here.roots;
      leader = here.leader;
      leaders = here.leaders;
      claims = λ name. ap (λ claims. claims name) c.take.ensures.claims ∙ claims_agree c.args.node c.args.front s.base (claims_in c.self.inside.claims) s.claims here.claims name;
      barriers = here.barriers;
    }
