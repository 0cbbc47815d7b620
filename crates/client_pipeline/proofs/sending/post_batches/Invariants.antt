use Rattle.std.proofs.Common.{◌≡◌, ◌++◌, map, take}
use Rattle.client_rules.specs.Submitting.{part_letters}
use Rattle.posting.specs.Letters.{out_of_letter}
use Rattle.client_pipeline.specs.Pipeline.{all_parts}
use Rattle.client_pipeline.proofs.sending.post_batches.Given as goal

abbrev pub invariant-batches : goal.invariant-batches
invariant-batches l = l.outs.items ≡ l.fn.outs.items ++ map out_of_letter (part_letters l.geometry (all_parts (take l.parts-index l.batches)))
