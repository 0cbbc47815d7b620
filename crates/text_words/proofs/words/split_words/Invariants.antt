use Rattle.std.proofs.Common.{◌≡◌, ◌≤◌, ◌++◌, length, map}
use Rattle.text_words.specs.Reading.{words_of}
use Rattle.text_words.proofs.words.split_words.Given as goal

abbrev pub invariant-words : goal.invariant-words
invariant-words l = (map (λ word. word.now) l.words.items ++ words_of l.rest ≡ words_of l.fn.line) × (length l.rest ≤ length l.fn.line)

abbrev pub decreases-words : goal.decreases-words
decreases-words l = length l.rest
