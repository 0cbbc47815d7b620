use Rattle.std.proofs.Common.{◌≡◌, length}
use Rattle.text_words.specs.Reading.{with_digits}
use Rattle.text_words.proofs.number.digits_of.Given as goal

abbrev pub invariant-loop-rest : goal.invariant-loop-rest
invariant-loop-rest l = with_digits l.number l.rest ≡ with_digits 0 l.fn.word

abbrev pub decreases-loop-rest : goal.decreases-loop-rest
decreases-loop-rest l = length l.rest
