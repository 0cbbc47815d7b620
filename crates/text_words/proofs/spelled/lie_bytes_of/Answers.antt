use Rattle.text_words.proofs.Granted.{ok-found, ok-only}
use Rattle.text_words.proofs.Hexed.{lie_bytes-settles}
use Rattle.text_words.proofs.spelled.lie_bytes_of.Goals as goal

pub returns-clause-found : goal.returns-clause-found
returns-clause-found c = ok-found _ _ _ c.read_lie_bytes.ensures (lie_bytes-settles c.args.word.now)

pub returns-clause-only : goal.returns-clause-only
returns-clause-only c = ok-only _ _ _ c.read_lie_bytes.ensures (lie_bytes-settles c.args.word.now)
