use Rattle.std.proofs.Common.{arith}
use Rattle.text_words.proofs.Worded.{spaces_and_one}
use Rattle.text_words.proofs.words.count_words.Goals as goal

pub returns : goal.returns
returns c = spaces_and_one c.args.line.now c.bytes.spaces c.bytes.byte-index c.bytes.invariant.0 (omega arith)
