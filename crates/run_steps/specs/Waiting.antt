-- Marks at the messages that were sent: which of them `settle` passes over.
use Rattle.std.specs.Prelude.{◌≡◌, ℕ, ◌+◌, ◌<◌, ◌≤◌, Bool, true, false, not, List, length, slice_get, Some}
use Rattle.salus_model.specs.declared.trace.TraceStep.{TraceStep}
use Rattle.salus_model.specs.Following.{is_waiting}

-- A message is marked where it was handed over or dropped. Of the first `lowest` messages none waits.
pub record AreMarked (earlier : List TraceStep) (dropped : List ℕ) (lowest : ℕ) (marks : List Bool) : Type 0 where
  pub each : (k : ℕ) (mark : Bool) → slice_get marks k ≡ Some mark → is_waiting earlier dropped (k + 1) ≡ not mark
  pub later : (k : ℕ) → length marks < k → is_waiting earlier dropped k ≡ true
  pub passed : (k : ℕ) → 1 ≤ k → k ≤ lowest → is_waiting earlier dropped k ≡ false
