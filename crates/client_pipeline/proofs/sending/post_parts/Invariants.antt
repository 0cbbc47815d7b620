use Rattle.std.proofs.Common.{◌≡◌, ◌++◌, map, take}
use Rattle.client_rules.specs.Submitting.{part_letters}
use Rattle.posting.specs.Letters.{out_of_letter}
use Rattle.client_pipeline.proofs.sending.post_parts.Given as goal

abbrev pub invariant-parts : goal.invariant-parts
invariant-parts l = l.outs.items ≡ l.fn.outs.items ++ map out_of_letter (part_letters l.geometry (take l.part-index l.parts))
