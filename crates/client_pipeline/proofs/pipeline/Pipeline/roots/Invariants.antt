use Rattle.std.proofs.Common.{◌≡◌, length, take}
use Rattle.client_pipeline.proofs.pipeline.Pipeline.roots.Given as goal

abbrev pub invariant-regions : goal.invariant-regions
invariant-regions l = (l.roots ≡ take l.region l.self-inside.window.roots) × (length l.roots ≡ l.region)
