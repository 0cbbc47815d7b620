use Rattle.std.proofs.Common.{◌≡◌, ◌++◌, take}
use Rattle.std.specs.List.{flat_map}
use Rattle.run_summary.specs.Counting.{count_of, kind_word, count_line}
use Rattle.run_summary.proofs.counting.put_counts.Given as goal

abbrev pub invariant-kinds : goal.invariant-kinds
invariant-kinds l = l.out.items ≡ l.initial.out.items ++ flat_map (λ k. count_line (kind_word k) (count_of k l.fn.lines)) (take l.kind-index l.kinds)
