use Rattle.datanode_checkpoint.proofs.Folded.{folded_is, folded_kept, folded_led, some_shape}
use Rattle.datanode_checkpoint.proofs.checkpoint.prepare_fold.Goals as goal

pub spell-requires-clause-ranges : goal.spell-requires-clause-ranges
spell-requires-clause-ranges c = let made = c.in-Ok.ensures in folded_kept some_shape c.args.held.now c.in-Ok.folded c.args.seq c.requires.ranges c.requires.foldable (made.bases some_shape) made.parts

pub spell-requires-clause-led : goal.spell-requires-clause-led
spell-requires-clause-led c = let made = c.in-Ok.ensures in folded_led some_shape c.args.held.now c.in-Ok.folded c.args.seq c.requires.foldable made.session (made.bases some_shape)

pub returns-in-Ok-spell-clause-folded : goal.returns-in-Ok-spell-clause-folded
returns-in-Ok-spell-clause-folded c = λ shape. let made = c.in-Ok.ensures in folded_is shape c.args.held.now c.in-Ok.folded c.args.seq c.requires.some made.session (made.bases shape) made.parts

pub returns-in-Ok-spell-clause-ranges : goal.returns-in-Ok-spell-clause-ranges
returns-in-Ok-spell-clause-ranges c = let made = c.in-Ok.ensures in folded_kept some_shape c.args.held.now c.in-Ok.folded c.args.seq c.requires.ranges c.requires.foldable (made.bases some_shape) made.parts
