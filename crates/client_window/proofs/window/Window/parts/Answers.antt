use Rattle.std.proofs.Common.{ap}
use Rattle.salus_types.specs.Volume.{regions}
use Rattle.client_window.specs.Window.{KeptWindow}
use Rattle.client_window.proofs.Rooted.{touched_within}
use Rattle.client_window.proofs.window.Window.parts.Goals as goal

pub parts_for-requires-clause-touched : goal.parts_for-requires-clause-touched
parts_for-requires-clause-touched c =
    touched_within c.args.self.now.shape c.args.batch.now c.args.shared.now.touched (regions c.self.inside.geometry) c.requires.touched (ap (λ (w : KeptWindow). regions w.shape) c.self.view_is)
