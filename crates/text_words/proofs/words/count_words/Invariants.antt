use Rattle.std.proofs.Common.{◌≡◌, ◌≤◌, eqb, take}
use Rattle.std.specs.List.{count_by}
use Rattle.text_words.proofs.words.count_words.Given as goal

abbrev pub invariant-bytes : goal.invariant-bytes
invariant-bytes l = (l.spaces ≡ count_by (λ b. eqb b 32) (take l.byte-index l.line)) × (l.spaces ≤ l.byte-index)
