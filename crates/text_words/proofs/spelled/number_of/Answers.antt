use Rattle.text_words.proofs.Granted.{some-found, some-only}
use Rattle.text_words.proofs.Numerals.{number-settles}
use Rattle.text_words.proofs.spelled.number_of.Goals as goal

pub returns-clause-found : goal.returns-clause-found
returns-clause-found c = some-found _ _ _ c.read_number.ensures (number-settles c.args.word.now)

pub returns-clause-only : goal.returns-clause-only
returns-clause-only c = some-only _ _ _ c.read_number.ensures (number-settles c.args.word.now)
