use Rattle.text_words.proofs.Granted.{ok-found, ok-only}
use Rattle.text_words.proofs.Hexed.{block-settles}
use Rattle.text_words.proofs.spelled.block_of.Goals as goal

pub returns-clause-found : goal.returns-clause-found
returns-clause-found c = ok-found _ _ _ c.read_block.ensures (block-settles c.args.size c.args.word.now)

pub returns-clause-only : goal.returns-clause-only
returns-clause-only c = ok-only _ _ _ c.read_block.ensures (block-settles c.args.size c.args.word.now)
