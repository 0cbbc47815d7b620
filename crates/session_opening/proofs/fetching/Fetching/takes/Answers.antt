use Rattle.std.proofs.Common.{◌≡◌, ◌∙◌, ◌==◌, ◌&&◌, bytes_eq, get_or, sym, ap}
use Rattle.merkle_region.specs.Tree.{root_of}
use Rattle.holding_model.specs.Fitting.{has_shape}
use Rattle.region_reassign.specs.Wanted.{Wanted}
use Rattle.session_opening.proofs.Fetches.{asked_for, not_asked}
use Rattle.session_opening.proofs.fetching.Fetching.takes.Goals as goal

pub returns-then-is_asked : goal.returns-then-is_asked
returns-then-is_asked c = λ f stands.
    let kept = c.args.self.now in
    let m = c.args.reply.now in
    let root = c.index-as_slice-self.result in
    let at : root ≡ get_or kept.served.roots kept.region root = c.index-as_slice-self.is ∙ ap (λ l. get_or l kept.region root) c.as_slice.ensures in
    c.take.ensures.exact
    ∙ ap (λ (w : Wanted). (c.args.from.region == w.region) && has_shape w.shape m.blocks && bytes_eq (root_of w.shape.height m.blocks) w.root) c.new.ensures
    ∙ asked_for kept c.requires f stands c.args.from m root at (sym c.is_asked.ensures ∙ c.if-is_asked.true)

pub returns-else-is_asked : goal.returns-else-is_asked
returns-else-is_asked c = λ f stands.
    let kept = c.args.self.now in
    let root = c.index-as_slice-self.result in
    let at : root ≡ get_or kept.served.roots kept.region root = c.index-as_slice-self.is ∙ ap (λ l. get_or l kept.region root) c.as_slice.ensures in
    c.if-is_asked.false ∙ not_asked kept c.requires f stands c.args.from c.args.reply.now root at (sym c.is_asked.ensures ∙ c.if-is_asked.false)
