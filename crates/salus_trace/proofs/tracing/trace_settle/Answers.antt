use Rattle.salus_trace.proofs.tracing.trace_settle.Goals as goal

pub deliveries-init : goal.deliveries-init
deliveries-init c = λ volume all before. before

pub trace_next-requires : goal.trace_next-requires
trace_next-requires c = let k = c.requires in (k.0, k.1, c.deliveries.invariant k.0 k.1 k.2)
