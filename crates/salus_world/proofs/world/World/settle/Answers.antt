use Rattle.std.proofs.Common.{◌≡◌, ◌≤◌, Option, None, Some, subst, ℕ, rules}
use Rattle.run_steps.specs.Steps.{with_step}
use Rattle.salus_world.specs.Kept.{DeliversNext}
use Rattle.salus_world.proofs.Finishing.{nothing_settled, one_settled, all_settled, enough_settled}
use Rattle.salus_world.proofs.world.World.settle.Goals as goal

pub deliveries-init : goal.deliveries-init
deliveries-init g c = record { ongoing = c.requires.kept; settled = λ number origin volume all course kept. nothing_settled origin volume all number c.args.self.now course kept }

pub deliveries-preserved : goal.deliveries-preserved
deliveries-preserved g c =
    let k = c.deliveries.invariant.ongoing in
    let now = c.deliveries.self in
    let later = c.deliver_next.new.self in
    let next : DeliversNext (Some c.in-Some.field-0) now later = subst (λ (o : Option ℕ). DeliversNext o now later) c.in-Some.is c.in_ok-deliver_next.ensures.delivers in
    let d = next k.0 k.1 k.2 k.3 k.4 k.5 k.6 in
    record {
      ongoing = (k.0, k.1, k.2, k.3, k.4, with_step k.5 d.stepped.step d.stepped.said, d.stepped.kept);
      settled = λ number origin volume all course kept.
          one_settled origin volume all number c.args.self.now course c.deliveries.done c.in-Some.field-0 now later (c.deliveries.invariant.settled number origin volume all course kept) next;
    }

pub returns-in-None : goal.returns-in-None
returns-in-None g c = λ number origin volume all course low at kept.
    let now = c.deliveries.self in
    let mid = c.deliver_next.new.self in
    let next : DeliversNext None now mid = subst (λ (o : Option ℕ). DeliversNext o now mid) c.in-None.is c.in_ok-deliver_next.ensures.delivers in
    let few : c.deliveries.done ≤ c.args.count = search rules in
    all_settled origin volume all number c.args.self.now course c.deliveries.done c.args.count now mid (c.deliveries.invariant.settled number origin volume all course kept) next few low

pub returns : goal.returns
returns g c = λ number origin volume all course low at kept.
    let all_done : c.deliveries.done ≡ c.args.count = search rules in
    enough_settled origin volume all number c.args.self.now course c.deliveries.done c.args.count c.deliveries.self (c.deliveries.invariant.settled number origin volume all course kept) all_done low
