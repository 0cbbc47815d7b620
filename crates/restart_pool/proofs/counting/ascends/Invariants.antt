use Rattle.std.proofs.Common.{◌≡◌, map, drop}
use Rattle.salus_types.specs.declared.records.PlaceWrite.{PlaceWrite}
use Rattle.holding_model.specs.Fitting.{ascends_from}
use Rattle.restart_pool.proofs.counting.ascends.Given as goal

abbrev pub invariant-writes : goal.invariant-writes
invariant-writes l =
    ascends_from l.low (map (λ (w : PlaceWrite). w.place) (drop l.write-index l.writes)) ≡ ascends_from 0 (map (λ (w : PlaceWrite). w.place) l.writes)
