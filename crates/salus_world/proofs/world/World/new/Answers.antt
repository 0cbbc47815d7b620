use Rattle.std.proofs.Common.{◌∙◌, List, ℕ, refl, sym, subst}
use Rattle.salus_types.specs.Volume.{nodes}
use Rattle.salus_world.specs.Places.{AreFormatted}
use Rattle.salus_world.proofs.Finishing.{first_kept}
use Rattle.salus_world.proofs.world.World.new.Goals as goal

pub returns-in-Ok-format-clause-kept : goal.returns-in-Ok-format-clause-kept
returns-in-Ok-format-clause-kept g c = λ origin all begins.
    let volume = c.args.volume.now in
    let key = c.new-key.ensures ∙ c.as_slice.ensures in
    first_kept origin volume all _ c.requires.limits (subst (λ (k : List ℕ). AreFormatted volume.geometry k (nodes volume.geometry) c.in-Ok.nodes.items) key c.in-Ok.ensures.formatted) begins
    (c.in-Ok-format.ensures.client volume refl (sym key)) c.in-Ok-format.ensures.shape c.in-Ok-format.ensures.newest c.new.ensures.items refl c.new-in-Ok-format.ensures.items refl

pub returns-in-Ok-format-clause-formatted : goal.returns-in-Ok-format-clause-formatted
returns-in-Ok-format-clause-formatted g c =
    let volume = c.args.volume.now in
    let key = c.new-key.ensures ∙ c.as_slice.ensures in
    subst (λ (k : List ℕ). AreFormatted volume.geometry k (nodes volume.geometry) c.in-Ok.nodes.items) key c.in-Ok.ensures.formatted
