use Rattle.std.proofs.Common.{refl, not, ◌||◌, Bool, ap}
use Rattle.schedule_text.specs.declared.schedule.Event.TheVariants as event
use Rattle.salus_model.specs.Following.{goes_to_client, posted_at}
use Rattle.salus_world.proofs.Acting.{unsent, none_sent}
use Rattle.salus_world.proofs.Doing.{skipped_done}
use Rattle.salus_world.proofs.events.World+MemDisk.stop.Goals as goal

pub returns-in_ok-skip-in-None-clause-does : goal.returns-in_ok-skip-in-None-clause-does
returns-in_ok-skip-in-None-clause-does c = λ origin volume all course low at kept.
    skipped_done origin volume all c.args.number (event.Stop c.args.message c.args.calls c.args.keep c.args.fill) c.args.self.now c.skip.new.self course low kept
    (λ posts front. ap (λ (b : Bool). not b || goes_to_client (posted_at posts c.args.message)) (unsent origin volume all c.args.number c.args.self.now course kept c.args.message (c.index_of.ensures.none c.in-None.is))) refl
    (ap (λ v. v.items) c.skip.ensures.messages.0) c.skip.ensures.messages.1 (ap (λ v. v.items) c.skip.ensures.parties.1) c.skip.ensures.parties.2 c.in_ok-skip-in-None.ensures.lines c.skip.ensures.parties.0

pub returns-in_ok-skip-in-None-clause-exact : goal.returns-in_ok-skip-in-None-clause-exact
returns-in_ok-skip-in-None-clause-exact c = λ m name at to. absurd (none_sent c.args.self.now.sent.items c.args.message m (c.index_of.ensures.none c.in-None.is) at)
