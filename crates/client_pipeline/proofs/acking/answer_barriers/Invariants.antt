use Rattle.std.proofs.Common.{length}
use Rattle.client_pipeline.proofs.Underway.{AreAnswered}
use Rattle.client_pipeline.proofs.acking.answer_barriers.Given as goal

abbrev pub invariant-due : goal.invariant-due
invariant-due l = AreAnswered l.fn.window l.fn.lines.items l.window l.lines.items

abbrev pub decreases-due : goal.decreases-due
decreases-due l = length l.window.barriers
