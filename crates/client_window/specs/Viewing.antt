-- The barriers of a window as those of the rules.
use Rattle.std.specs.Prelude.{List, map}
use Rattle.client_rules.specs.State.{Waiter}
use Rattle.client_window.specs.declared.barrier.Barrier.{Barrier}

abbrev pub waiters : List Barrier → List Waiter
waiters barriers = map (λ (b : Barrier). record { event = b.event; front = b.front }) barriers
