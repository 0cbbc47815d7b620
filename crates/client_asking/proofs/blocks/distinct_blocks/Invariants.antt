use Rattle.std.proofs.Common.{◌≡◌, ◌==◌, map}
use Rattle.std.specs.Prelude.{filter}
use Rattle.std.specs.List.{list_any, range_with_len}
use Rattle.salus_types.specs.declared.records.Write.{Write}
use Rattle.client_asking.proofs.blocks.distinct_blocks.Given as goal

abbrev pub invariant-numbers : goal.invariant-numbers
invariant-numbers l = l.written.items ≡ filter (λ b. list_any (λ (w : Write). w.block == b) l.batch) (map (λ b. b) (range_with_len 0 l.block))
