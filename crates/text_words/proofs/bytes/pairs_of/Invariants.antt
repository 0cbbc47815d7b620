use Rattle.std.proofs.Common.{◌≡◌, length}
use Rattle.text_words.specs.Reading.{prefixed, pairs_of}
use Rattle.text_words.proofs.bytes.pairs_of.Given as goal

abbrev pub invariant-loop-rest : goal.invariant-loop-rest
invariant-loop-rest l = prefixed l.bytes.items (pairs_of l.rest) ≡ pairs_of l.fn.word

abbrev pub decreases-loop-rest : goal.decreases-loop-rest
decreases-loop-rest l = length l.rest
