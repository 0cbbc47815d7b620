use Rattle.std.proofs.Common.{◌≡◌, ◌-◌, ◌++◌, take, drop, map}
use Rattle.salus_io.proofs.memory.count_down.Given as goal

abbrev pub invariant-loop-call : goal.invariant-loop-call
invariant-loop-call l = l.failing ≡ map (λ call. call - 1) (take l.call-index l.initial.failing) ++ drop l.call-index l.initial.failing
