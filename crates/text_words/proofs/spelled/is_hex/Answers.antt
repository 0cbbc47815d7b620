use Rattle.text_words.proofs.Granted.{hex-spelled}
use Rattle.text_words.proofs.spelled.is_hex.Goals as goal

pub returns-clause-spelled : goal.returns-clause-spelled
returns-clause-spelled c = hex-spelled c.args.word.now _ c.reads_as_hex.ensures
