use Rattle.std.proofs.Common.{◌≡◌, ◌∙◌, ◌+◌, List, ℕ, Some, refl, sym, ap}
use Rattle.salus_types.specs.declared.names.Sender.TheVariants as sender
use Rattle.salus_model.specs.declared.trace.Handed.TheVariants as handed
use Rattle.salus_model.specs.Following.{posted}
use Rattle.replica_rules.specs.Rules.{Receives}
use Rattle.salus_world.specs.declared.world.World.{World}
use Rattle.run_rules.specs.Knowing.{input_of_post}
use Rattle.salus_world.proofs.Acting.{Posts, stopped_kept, stopped_exact, marks_set, input_at, same_message}
use Rattle.salus_world.proofs.NodeSteps.{posted_sent}
use Rattle.salus_world.proofs.handing.World+MemDisk.stop_node.Goals as goal

pub returns-clause-steps : goal.returns-clause-steps
returns-clause-steps c = λ origin volume all b n course kept.
    let old = c.args.self.now in
    let outcome = c.in_ok-outcome.outcome in
    let outs = c.into_vec.result.items in
    let name = c.args.name in
    let m = c.message_at-message.result.now in
    let index = c.args.index in
    let what = handed.Stop (index + 1) in
    let mid = c.mark_delivered.new.sent.items in
    let now : World _ _ _ = record { geometry = old.geometry; client = old.client; nodes = c.stop_at.new.nodes; sent = c.post.new.sent; lowest = old.lowest; lines = old.lines } in
    let added : Posts (sender.Node name) outs mid old now = record { sent = c.in_ok-post.ensures; posts = c.mark_delivered.ensures.posts; lowest = refl; geometry = refl } in
    stopped_kept origin volume all b n old now course kept name c.requires.of c.place_of-place.result c.place_of-place.ensures.value what outs mid added refl refl
    (marks_set origin volume all b n old now course kept (sender.Node name) outs mid added what index c.requires.inside c.mark_delivered.ensures.marks (λ k. refl))
    (Receives m.from c.as_slice.result.now) outcome c.args.calls c.args.keep c.args.fill (sym c.into_vec.ensures) c.in_ok-outcome.ensures
    (λ posts front. input_at origin volume all b n old now course kept index (posted m) (posted_sent old.sent.items index m c.message_at-message.ensures) posts front ∙ ap (λ (l : List ℕ). Some (Receives m.from l)) (sym c.as_slice.ensures))
    (λ posts known held among. among) refl refl

pub returns-clause-exact : goal.returns-clause-exact
returns-clause-exact c = λ p at.
    let old = c.args.self.now in
    let m = c.message_at-message.result.now in
    let same : posted m ≡ p = same_message old.sent.items c.args.index m p c.message_at-message.ensures at in
    let input : Receives m.from c.as_slice.result.now ≡ input_of_post p = ap (λ (l : List ℕ). Receives m.from l) c.as_slice.ensures ∙ ap input_of_post same in
    stopped_exact c.in_ok-outcome.outcome c.args.calls c.args.keep c.args.fill (Receives m.from c.as_slice.result.now) p input c.args.self.now.nodes.items c.stop_at.new.nodes.items
    c.place_of-place.result _ c.place_of-place.ensures.value c.in_ok-outcome.ensures
