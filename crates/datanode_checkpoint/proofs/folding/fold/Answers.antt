use Rattle.std.proofs.Common.{◌∙◌, ◌++◌}
use Rattle.datanode_checkpoint.proofs.folding.fold.Goals as goal

pub returns-clause-bases : goal.returns-clause-bases
returns-clause-bases c = λ shape. c.in-Ok-append.ensures.ok ∙ (λ i. c.in-Ok.ensures shape i ++ c.in-Ok-copy_later.ensures i)
