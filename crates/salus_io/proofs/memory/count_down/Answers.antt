use Rattle.std.proofs.Common.{◌-◌, ℕ, arith}
use Rattle.std.proofs.lemmas.List.{get_or_default}
use Rattle.std.proofs.lemmas.List.Edits.{map_over_more}
use Rattle.salus_io.proofs.memory.count_down.Goals as goal

pub loop-call-preserved : goal.loop-call-preserved
loop-call-preserved c =
    let calls = c.loop-call.failing in
    let i = c.loop-call.call-index in
    rw c.saturating_sub.ensures (map_over_more (λ (call : ℕ). call - 1) c.args.failing.now calls i _ (omega arith) c.loop-call.invariant (get_or_default calls i 0 _ (omega arith)))
