use Rattle.std.proofs.Common.{◌≡◌, ℕ, Some, refl, not, ap, subst}
use Rattle.salus_model.specs.Following.{posts_of, posted_at}
use Rattle.schedule_text.specs.declared.schedule.Event.TheVariants as event
use Rattle.salus_world.proofs.Acting.{delivered_done, unsent, none_sent, index_posted}
use Rattle.salus_world.proofs.Doing.{skipped_done}
use Rattle.salus_world.proofs.Finishing.{some_posted}
use Rattle.salus_world.proofs.world.World.deliver.Goals as goal

pub returns-in_ok-deliver_at-in-Some-clause-does : goal.returns-in_ok-deliver_at-in-Some-clause-does
returns-in_ok-deliver_at-in-Some-clause-does g c = λ origin volume all course low at kept.
    let old = c.args.self.now in
    let found = c.in-Some.ensures.some in
    let m = some_posted old.sent.items c.in-Some.index found.1 in
    delivered_done origin volume all c.args.number old c.deliver_at.new.self course low kept c.args.message c.in-Some.index found.0 found.1 m.0 m.1
    (c.in_ok-deliver_at-in-Some.ensures.steps origin volume all c.args.number c.args.number course m.0 kept m.1)

pub returns-in_ok-skip-in-None-clause-does : goal.returns-in_ok-skip-in-None-clause-does
returns-in_ok-skip-in-None-clause-does g c = λ origin volume all course low at kept.
    skipped_done origin volume all c.args.number (event.Deliver c.args.message) c.args.self.now c.skip.new.self course low kept
    (λ posts front. ap not (unsent origin volume all c.args.number c.args.self.now course kept c.args.message (c.index_of.ensures.none c.in-None.is))) refl
    (ap (λ v. v.items) c.skip.ensures.messages.0) c.skip.ensures.messages.1 (ap (λ v. v.items) c.skip.ensures.parties.1) c.skip.ensures.parties.2 c.in_ok-skip-in-None.ensures.lines c.skip.ensures.parties.0

pub returns-in_ok-deliver_at-in-Some-clause-moments : goal.returns-in_ok-deliver_at-in-Some-clause-moments
returns-in_ok-deliver_at-in-Some-clause-moments g c = λ m at.
    let found = c.in-Some.ensures.some in
    c.in_ok-deliver_at-in-Some.ensures.moments m (index_posted c.args.self.now.sent.items c.in-Some.index m found.1 (subst (λ (k : ℕ). posted_at (posts_of c.args.self.now.sent.items) k ≡ Some m) found.0 at))

pub returns-in_ok-skip-in-None-clause-moments : goal.returns-in_ok-skip-in-None-clause-moments
returns-in_ok-skip-in-None-clause-moments g c = λ m at. absurd (none_sent c.args.self.now.sent.items c.args.message m (c.index_of.ensures.none c.in-None.is) at)
