use Rattle.std.proofs.Common.{◌≡◌, ◌∙◌, ◌+◌, ◌≤◌, ap, sym, subst, arith}
use Rattle.std.specs.Vec.{vec_capacity, vec_len}
use Rattle.salus_types.specs.Volume.{regions}
use Rattle.volume_model.specs.Parts.{touches}
use Rattle.pruned_volume.specs.Trees.{root_at}
use Rattle.pruned_volume.proofs.Renewing.{root_more, root_none, roots_all, roots_seen}
use Rattle.pruned_volume.proofs.volume.PrunedVolume.put_roots.Goals as goal
use Rattle.pruned_volume.proofs.volume.PrunedVolume.put_roots.Goals.{then-touches, else-touches}

pub regions-preserved : goal.regions-preserved
regions-preserved c =
    let few = c.regions.invariant.few in
    let room = c.regions.invariant.room in
    let test : touches c.args.self.now.shape c.args.batch.now c.regions.region ≡ c.touches.result = ap (λ k. touches k.shape c.args.batch.now c.regions.region) (sym c.self.view_is) ∙ sym c.touches.ensures in
    elim c.if-touches.branch [
      | then-touches w ↦ record {
        items = ap (λ v. v.items) w.roots-is
            ∙ root_more (λ g. root_at c.args.self.now g) (λ g. touches c.args.self.now.shape c.args.batch.now g) c.regions.region c.regions.roots.items w.put_root.new.roots.items
            (test ∙ w.if-touches.true) c.regions.invariant.items w.put_root.ensures.items;
        few = let more = w.put_root.ensures.len in subst (λ v. vec_len v ≤ c.regions.region + 1) (sym w.roots-is) (omega (arith, few, more));
        room = let more = w.put_root.ensures.capacity in subst (λ v. regions c.args.self.now.shape ≤ vec_capacity v) (sym w.roots-is) (omega (arith, room, more));
      }
      | else-touches w ↦ record {
        items = ap (λ v. v.items) w.roots-is
            ∙ root_none (λ g. root_at c.args.self.now g) (λ g. touches c.args.self.now.shape c.args.batch.now g) c.regions.region c.regions.roots.items
            (test ∙ w.if-touches.false) c.regions.invariant.items;
        few = subst (λ v. vec_len v ≤ c.regions.region + 1) (sym w.roots-is) (omega (arith, few));
        room = subst (λ v. regions c.args.self.now.shape ≤ vec_capacity v) (sym w.roots-is) room;
      }
    ]

pub returns-clause-stands : goal.returns-clause-stands
returns-clause-stands c = λ contents a.
    let stop : c.regions.region ≡ regions c.self.inside.geometry = omega (arith, c.regions-test.false, c.regions.auto.region-end, c.regions-region-end.ensures.value) in
    sym (roots_all (λ g. root_at c.args.self.now g) (λ g. touches c.args.self.now.shape c.args.batch.now g) c.regions.region (regions c.args.self.now.shape) c.regions.roots.items
    (stop ∙ ap (λ k. regions k.shape) c.self.view_is) c.regions.invariant.items
    ∙ roots_seen c.self.inside.geometry c.self.inside.trees.items c.self.invariant c.args.self.now c.self.view_is c.args.batch.now contents a)
