use Rattle.std.proofs.Common.{◌≡◌, ◌++◌, take}
use Rattle.std.specs.List.{flat_map}
use Rattle.schedule_text.specs.Grammar.{pair_values}
use Rattle.schedule_text.specs.Printing.{spaced}
use Rattle.schedule_text.proofs.printing.put_batch.Given as goal

abbrev pub invariant-writes : goal.invariant-writes
invariant-writes l = l.out.items ≡ l.initial.out.items ++ flat_map (λ w. flat_map spaced (pair_values w)) (take l.write-index l.write-items)
