use Rattle.text_words.proofs.Granted.{ok-found, ok-only}
use Rattle.text_words.proofs.Hexed.{key-settles}
use Rattle.text_words.proofs.spelled.key_of.Goals as goal

pub returns-clause-found : goal.returns-clause-found
returns-clause-found c = ok-found _ _ _ c.read_key.ensures (key-settles c.args.word.now)

pub returns-clause-only : goal.returns-clause-only
returns-clause-only c = ok-only _ _ _ c.read_key.ensures (key-settles c.args.word.now)
