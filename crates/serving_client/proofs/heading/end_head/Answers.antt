use Rattle.std.proofs.Common.{ap}
use Rattle.pruned_volume.specs.Trees.{KeptTrees}
use Rattle.serving_client.proofs.Rooms.{headless_ended}
use Rattle.serving_client.proofs.heading.end_head.Goals as goal

pub leave-requires : goal.leave-requires
leave-requires c =
    headless_ended c.args.core.now c.take_head.result c.take_head.new.self c.forget.new.self c.take_head.ensures c.requires.head c.requires.headless (ap (λ (t : KeptTrees). t.shape) c.forget.ensures.value)
