use Rattle.std.proofs.Common.{length}
use Rattle.client_asking.specs.Underway.{IsLeaving}
use Rattle.client_asking.proofs.leaving.leave_all.Given as goal

abbrev pub invariant-line : goal.invariant-line
invariant-line l = IsLeaving l.fn.pipeline l.fn.reads l.fn.line l.fn.step l.pipeline l.reads l.line l.step

abbrev pub decreases-line : goal.decreases-line
decreases-line l = length l.line
