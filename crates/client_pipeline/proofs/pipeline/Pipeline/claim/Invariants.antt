use Rattle.std.proofs.Common.{length}
use Rattle.client_pipeline.proofs.Underway.{IsUnderway}
use Rattle.client_pipeline.proofs.pipeline.Pipeline.claim.Given as goal

abbrev pub invariant-acks : goal.invariant-acks
invariant-acks l = IsUnderway l.fn.self l.fn.node l.fn.front l.fn.lines.items (record { window = l.self-inside.window; parts = l.self-inside.parts.items; key = l.self-inside.key }) l.lines.items

abbrev pub decreases-acks : goal.decreases-acks
decreases-acks l = length l.self-inside.window.leaders
