use Rattle.std.proofs.Common.{refl, sym}
use Rattle.salus_types.specs.declared.names.Sender.TheVariants as sender
use Rattle.salus_model.specs.declared.trace.Handed.TheVariants as handed
use Rattle.replica_rules.specs.Rules.{Receives}
use Rattle.salus_world.specs.declared.world.World.{World}
use Rattle.salus_world.proofs.Acting.{Posts, answered_kept, marks_same, passed_at}
use Rattle.salus_world.proofs.world.World.lie_to_node.Goals as goal

pub returns-clause-steps : goal.returns-clause-steps
returns-clause-steps g c = λ origin volume all b n course kept.
    let old = c.args.self.now in
    let outcome = c.in_ok-outcome.outcome in
    let outs = c.into_vec.result.items in
    let name = c.args.name in
    let what = handed.Lie c.args.from c.args.bytes.now in
    let mid = old.sent.items in
    let now : World _ _ _ = record { geometry = old.geometry; client = old.client; nodes = c.hand_at.new.nodes; sent = c.post.new.sent; lowest = old.lowest; lines = old.lines } in
    let added : Posts (sender.Node name) outs mid old now = record { sent = c.in_ok-post.ensures; posts = refl; lowest = refl; geometry = refl } in
    answered_kept origin volume all b n old now course kept name c.requires.of c.place_of-place.result c.place_of-place.ensures.value what outs mid added refl refl
    (marks_same origin volume all b n old now course kept (sender.Node name) outs mid added what refl (λ k. refl))
    (Receives c.args.from c.args.bytes.now) outcome (sym c.into_vec.ensures) c.in_ok-outcome.ensures (λ posts front. refl) (λ posts known. refl) refl

pub returns-clause-moments : goal.returns-clause-moments
returns-clause-moments g c =
    passed_at c.args.self.now.nodes.items c.hand_at.new.nodes.items c.place_of-place.result _ (Receives c.args.from c.args.bytes.now) (Receives c.args.from c.args.bytes.now) c.in_ok-outcome.outcome c.place_of-place.ensures.value refl c.in_ok-outcome.ensures
