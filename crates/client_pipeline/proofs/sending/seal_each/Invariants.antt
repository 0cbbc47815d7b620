use Rattle.std.proofs.Common.{◌≡◌, ◌++◌, map, take, drop}
use Rattle.client_tag.specs.Tags.{sealed}
use Rattle.client_pipeline.proofs.sending.seal_each.Given as goal

abbrev pub invariant-parts : goal.invariant-parts
invariant-parts l = l.parts ≡ map (sealed l.key) (take l.part-index l.fn.parts) ++ drop l.part-index l.fn.parts
