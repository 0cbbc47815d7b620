use Rattle.std.proofs.Common.{◌≡◌, ◌∙◌, refl, sym, ap, subst}
use Rattle.salus_types.specs.declared.names.NodeName.{NodeName}
use Rattle.salus_types.specs.declared.names.Sender.{Sender}
use Rattle.schedule_text.specs.declared.schedule.Event.TheVariants as event
use Rattle.schedule_text.specs.Limits.{IsPartyOfVolume}
use Rattle.salus_model.specs.Following.{Posted, posted}
use Rattle.salus_world.specs.Kept.{AtNode, StopsOn}
use Rattle.salus_world.proofs.Acting.{stop_done, stop_skips, message_within, client_stops, same_posted, node_same}
use Rattle.salus_world.proofs.Doing.{skipped_done}
use Rattle.salus_world.proofs.NodeSteps.{posted_sent}
use Rattle.salus_world.proofs.events.World+MemDisk.stop_at.Goals as goal

pub stop_node-requires-clause-of : goal.stop_node-requires-clause-of
stop_node-requires-clause-of c =
    let k = c.requires.kept in
    let m = c.message_at.result.now in
    subst (λ (p : Sender). IsPartyOfVolume c.args.self.now.geometry p) c.in-Node.is (message_within k.0 k.1 k.2 k.3 k.4 c.args.self.now k.5 k.6 c.args.index m c.message_at.ensures).1

pub returns-in_ok-skip-in-Client-clause-does : goal.returns-in_ok-skip-in-Client-clause-does
returns-in_ok-skip-in-Client-clause-does c = λ origin volume all course low at kept.
    let old = c.args.self.now in
    let m = c.message_at.result.now in
    let sent = ap (λ v. v.items) c.skip.ensures.messages.0 in
    skipped_done origin volume all c.args.number (event.Stop c.args.message c.args.calls c.args.keep c.args.fill) old c.skip.new.self course low kept
    (stop_skips origin volume all c.args.number old c.skip.new.self course low kept c.args.message c.args.index c.requires.is c.requires.inside (posted m) (posted_sent old.sent.items c.args.index m c.message_at.ensures)
    c.args.calls c.args.keep c.args.fill c.in-Client.is sent) refl
    sent c.skip.ensures.messages.1 (ap (λ v. v.items) c.skip.ensures.parties.1) c.skip.ensures.parties.2 c.in_ok-skip-in-Client.ensures.lines c.skip.ensures.parties.0

pub returns-in_ok-stop_node-in-Node-clause-does : goal.returns-in_ok-stop_node-in-Node-clause-does
returns-in_ok-stop_node-in-Node-clause-does c = λ origin volume all course low at kept.
    let old = c.args.self.now in
    let m = c.message_at.result.now in
    stop_done origin volume all c.args.number old c.stop_node.new.self course low kept c.args.message c.args.index c.requires.is c.requires.inside (posted m) (posted_sent old.sent.items c.args.index m c.message_at.ensures)
    c.in-Node.name c.args.calls c.args.keep c.args.fill c.in-Node.is (c.in_ok-stop_node-in-Node.ensures.steps origin volume all c.args.number c.args.number course kept)

pub returns-in_ok-skip-in-Client-clause-exact : goal.returns-in_ok-skip-in-Client-clause-exact
returns-in_ok-skip-in-Client-clause-exact c = λ p name at to.
    let m = c.message_at.result.now in
    absurd (client_stops c.args.self.now.sent.items c.args.message c.args.index (posted m) p name c.requires.is (posted_sent c.args.self.now.sent.items c.args.index m c.message_at.ensures) c.in-Client.is at to)

pub returns-in_ok-stop_node-in-Node-clause-exact : goal.returns-in_ok-stop_node-in-Node-clause-exact
returns-in_ok-stop_node-in-Node-clause-exact c = λ p name at to.
    let m = c.message_at.result.now in
    let there = posted_sent c.args.self.now.sent.items c.args.index m c.message_at.ensures in
    let same : posted m ≡ p = same_posted c.args.self.now.sent.items c.args.message c.args.index (posted m) p c.requires.is there at in
    let named : c.in-Node.name ≡ name = node_same c.in-Node.name name (sym c.in-Node.is ∙ (ap (λ (q : Posted). q.to) same ∙ to)) in
    subst (λ (q : Posted). AtNode name (StopsOn c.args.calls c.args.keep c.args.fill q) c.args.self.now c.stop_node.new.self) same
    (subst (λ (x : NodeName). AtNode x (StopsOn c.args.calls c.args.keep c.args.fill (posted m)) c.args.self.now c.stop_node.new.self) named (c.in_ok-stop_node-in-Node.ensures.exact (posted m) there))
