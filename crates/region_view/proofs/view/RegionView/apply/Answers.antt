use Rattle.std.proofs.Common.{◌≡◌, ◌∙◌, true, ap, sym, subst}
use Rattle.holding_model.specs.Fitting.{record_fits, blocks_written}
use Rattle.region_view.specs.Kept.{KeptView}
use Rattle.region_view.proofs.Trying.{IsTried, put-tried, tried-kept, tried-refused, tried-accepted, seen_as}
use Rattle.region_view.proofs.view.RegionView.apply.Goals as goal

pub returns-then-ne-clause-refused : goal.returns-then-ne-clause-refused
returns-then-ne-clause-refused c =
    let t = c.self.inside in
    let tried : IsTried t.geometry t.tree.blocks c.args.rec.now c.put_all.new.tree
    = put-tried t.geometry t.tree c.args.rec.now c.in_ok-changes.changes.items c.put_all.new.tree c.self.invariant c.in_ok-changes.ensures.blocks c.put_all.ensures.height
    (c.put_all.ensures.blocks ∙ ap (blocks_written t.tree.blocks) c.as_mut_slice.ensures.value) in
    rw (← c.self.view_is)
    (tried-refused (seen_as t.geometry t.number t.tree) c.args.rec.now c.put_all.new.tree tried c.root-got.result c.root-got.ensures (sym c.ne.ensures ∙ c.if-ne.true))

pub invariant_of-self-2 : goal.invariant_of-self-2
invariant_of-self-2 c =
    let t = c.self.inside in
    let tried : IsTried t.geometry t.tree.blocks c.args.rec.now c.put_all.new.tree
    = put-tried t.geometry t.tree c.args.rec.now c.in_ok-changes.changes.items c.put_all.new.tree c.self.invariant c.in_ok-changes.ensures.blocks c.put_all.ensures.height
    (c.put_all.ensures.blocks ∙ ap (blocks_written t.tree.blocks) c.as_mut_slice.ensures.value) in
    let fits : record_fits t.geometry c.args.rec.now ≡ true = subst (λ (v : KeptView). record_fits v.shape c.args.rec.now ≡ true) (sym c.self.view_is) c.requires in
    tried-kept t.geometry t.tree c.args.rec.now c.put_all.new.tree c.self.invariant fits tried

pub returns-clause-accepted : goal.returns-clause-accepted
returns-clause-accepted c =
    let t = c.self.inside in
    let tried : IsTried t.geometry t.tree.blocks c.args.rec.now c.put_all.new.tree
    = put-tried t.geometry t.tree c.args.rec.now c.in_ok-changes.changes.items c.put_all.new.tree c.self.invariant c.in_ok-changes.ensures.blocks c.put_all.ensures.height
    (c.put_all.ensures.blocks ∙ ap (blocks_written t.tree.blocks) c.as_mut_slice.ensures.value) in
    rw (← c.self.view_is)
    (tried-accepted (seen_as t.geometry t.number t.tree) c.args.rec.now c.put_all.new.tree tried c.root-got.result c.root-got.ensures (sym c.ne.ensures ∙ c.if-ne.false))

pub returns-clause-after : goal.returns-clause-after
returns-clause-after c =
    let t = c.self.inside in
    let tried : IsTried t.geometry t.tree.blocks c.args.rec.now c.put_all.new.tree
    = put-tried t.geometry t.tree c.args.rec.now c.in_ok-changes.changes.items c.put_all.new.tree c.self.invariant c.in_ok-changes.ensures.blocks c.put_all.ensures.height
    (c.put_all.ensures.blocks ∙ ap (blocks_written t.tree.blocks) c.as_mut_slice.ensures.value) in
    rw (← c.self.view_is)
    (ap (λ blocks. let seen : KeptView = record { shape = t.geometry; view = record { number = c.args.rec.now.header.seq; blocks = blocks } } in seen) tried.blocks_are)
