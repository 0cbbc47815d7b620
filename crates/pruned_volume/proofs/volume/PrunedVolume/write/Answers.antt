use Rattle.std.proofs.Common.{◌≡◌, ◌∙◌, map, ap, sym, subst}
use Rattle.volume_model.specs.Contents.{apply, region_root}
use Rattle.volume_model.specs.Parts.{touched_by}
use Rattle.pruned_volume.specs.Trees.{all_pruned, AgreesAll}
use Rattle.pruned_volume.proofs.Renewing.{pruned_twice}
use Rattle.pruned_volume.proofs.volume.PrunedVolume.write.Goals as goal

pub returns-clause-closed : goal.returns-clause-closed
returns-clause-closed c =
    ap all_pruned c.forget.ensures.value
    ∙ (ap (λ ts. record { shape = c.put_leaves.new.self.shape; trees = ts }) (pruned_twice c.put_leaves.new.self.trees) ∙ sym c.forget.ensures.value)

pub returns-clause-stands : goal.returns-clause-stands
returns-clause-stands c = λ contents a.
    let agreed : AgreesAll c.forget.new.self (apply contents c.args.batch.now)
    = subst (λ b. AgreesAll c.forget.new.self (apply contents b)) c.as_slice.ensures (c.forget.ensures.agrees (apply contents c.as_slice.result.now) (c.put_leaves.ensures.agrees contents a)) in
    subst (λ s. map (λ g. region_root s (apply contents c.args.batch.now) g) (touched_by s c.args.batch.now) ≡ c.from_vec.result) (ap (λ k. k.shape) c.forget.ensures.value ∙ c.put_leaves.ensures.shape)
    (subst (λ b. map (λ g. region_root c.forget.new.self.shape (apply contents c.args.batch.now) g) (touched_by c.forget.new.self.shape b) ≡ c.from_vec.result) c.as_slice-2.ensures
    (c.put_roots.ensures.stands (apply contents c.args.batch.now) agreed ∙ sym c.from_vec.ensures))
