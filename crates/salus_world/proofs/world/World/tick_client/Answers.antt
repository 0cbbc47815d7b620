use Rattle.std.proofs.Common.{◌∙◌, refl}
use Rattle.salus_types.specs.declared.names.Sender.TheVariants as sender
use Rattle.salus_world.specs.declared.world.World.{World}
use Rattle.salus_world.proofs.Acting.{Posts, tick_kept}
use Rattle.salus_world.proofs.world.World.tick_client.Goals as goal

pub returns-clause-steps : goal.returns-clause-steps
returns-clause-steps g c = λ origin volume all b n course kept.
    let old = c.args.self.now in
    let outs = c.into_vec.result.items in
    let now : World _ _ _ = record { geometry = old.geometry; client = old.client; nodes = old.nodes; sent = c.post.new.sent; lowest = old.lowest; lines = old.lines } in
    let added : Posts sender.Client outs old.sent.items old now = record { sent = c.in_ok-post.ensures; posts = refl; lowest = refl; geometry = refl } in
    tick_kept origin volume all b n old now course kept outs added refl refl refl (λ d is. c.into_vec.ensures ∙ c.in_ok-outs.ensures volume d is)
