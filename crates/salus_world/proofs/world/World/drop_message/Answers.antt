use Rattle.std.proofs.Common.{refl, not, if◌then◌else◌, ◌∷◌, Bool, ap}
use Rattle.schedule_text.specs.declared.schedule.Event.TheVariants as event
use Rattle.salus_world.proofs.Acting.{drop_done, unsent}
use Rattle.salus_world.proofs.Doing.{skipped_done}
use Rattle.salus_world.proofs.world.World.drop_message.Goals as goal

pub returns-in-Some : goal.returns-in-Some
returns-in-Some g c = λ origin volume all course low at kept.
    let found = c.in-Some.ensures.some in
    drop_done origin volume all c.args.number c.args.self.now _ course low kept c.args.message c.in-Some.index found.0 found.1 c.mark_dropped.ensures.posts c.mark_dropped.ensures.marks refl refl refl refl refl

pub returns-in_ok-skip-in-None : goal.returns-in_ok-skip-in-None
returns-in_ok-skip-in-None g c = λ origin volume all course low at kept.
    let none = unsent origin volume all c.args.number c.args.self.now course kept c.args.message (c.index_of.ensures.none c.in-None.is) in
    skipped_done origin volume all c.args.number (event.Drop c.args.message) c.args.self.now c.skip.new.self course low kept
    (λ posts front. ap not none) (ap (λ (b : Bool). if b then c.args.message ∷ course.dropped else course.dropped) none)
    (ap (λ v. v.items) c.skip.ensures.messages.0) c.skip.ensures.messages.1 (ap (λ v. v.items) c.skip.ensures.parties.1) c.skip.ensures.parties.2 c.in_ok-skip-in-None.ensures.lines c.skip.ensures.parties.0
