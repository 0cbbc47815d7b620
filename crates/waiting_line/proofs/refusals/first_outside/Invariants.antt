use Rattle.std.proofs.Common.{◌≡◌, drop, map, nat_le}
use Rattle.std.specs.Prelude.{find}
use Rattle.salus_types.specs.declared.records.Write.{Write}
use Rattle.waiting_line.proofs.refusals.first_outside.Given as goal

abbrev pub invariant-writes : goal.invariant-writes
invariant-writes l = find (λ n. nat_le l.bound n) (map (λ (w : Write). w.block) (drop l.write-index l.writes)) ≡ find (λ n. nat_le l.bound n) (map (λ (w : Write). w.block) l.writes)
