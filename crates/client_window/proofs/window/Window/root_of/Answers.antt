use Rattle.std.proofs.Common.{◌∙◌, ap, sym}
use Rattle.std.specs.Prelude.{slice_get}
use Rattle.client_window.specs.Window.{KeptWindow}
use Rattle.client_window.proofs.Rooted.{root_found}
use Rattle.client_window.proofs.window.Window.root_of.Goals as goal

pub returns-clause-stands : goal.returns-clause-stands
returns-clause-stands c = λ s stands.
    root_found c.args.self.now.shape s.contents c.args.self.now.roots c.args.region c.root_of.result stands.roots c.requires
    (ap (λ (w : KeptWindow). slice_get w.roots c.args.region) (sym c.self.view_is) ∙ c.root_of.ensures)
