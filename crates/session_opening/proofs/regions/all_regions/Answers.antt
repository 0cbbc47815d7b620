use Rattle.std.proofs.Common.{◌∙◌, ◌++◌, ◌∷◌, [], ap, sym}
use Rattle.session_opening.proofs.Nodes.{range_more}
use Rattle.session_opening.proofs.regions.all_regions.Goals as goal

pub regions-preserved : goal.regions-preserved
regions-preserved c = c.in_ok-push.ensures.ok ∙ ap (λ l. l ++ c.regions.region ∷ []) c.regions.invariant ∙ sym (range_more c.regions.region)
