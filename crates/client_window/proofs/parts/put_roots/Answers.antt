use Rattle.std.proofs.Common.{◌≡◌, ◌∙◌, length, true, ap, sym, subst}
use Rattle.std.specs.Prelude.{nat_lt}
use Rattle.std.specs.List.{list_all}
use Rattle.std.specs.Slice.Iter.{iter_rest}
use Rattle.std.specs.Iterator.Adapters.{zip_first, zip_second}
use Rattle.std.proofs.lemmas.List.{length-set}
use Rattle.std.proofs.lemmas.Slice.Zip.{Zip-more, either_empty_from_Zip}
use Rattle.client_window.specs.Untagged.{with_roots}
use Rattle.client_window.proofs.Stepped.{rest_within, roots_step, roots_end}
use Rattle.client_window.proofs.parts.put_roots.Goals as goal

pub regions-preserved : goal.regions-preserved
regions-preserved c =
    let next = Zip-more c.regions.region-iterator c.next.new.self c.next.result (c.in-Some.region, c.in-Some.root) c.in-Some.is c.next.ensures.steps in
    let long : length c.regions.tops ≡ length c.set_region.new.self = sym (ap length c.set_region.ensures ∙ length-set c.regions.tops c.in-Some.region.now c.in-Some.root.now) in (
      sym (roots_step _ _ _ _ c.regions.tops c.in-Some.region.now c.in-Some.root.now next.0 next.1 ∙ ap (with_roots (iter_rest (zip_first c.next.new.self)) (iter_rest (zip_second c.next.new.self))) (sym c.set_region.ensures)) ∙ c.regions.invariant.0,
      subst (λ n. list_all (λ g. nat_lt g n) (iter_rest (zip_first c.next.new.self)) ≡ true) long
          (rest_within (λ g. nat_lt g (length c.regions.tops)) (iter_rest (zip_first c.regions.region-iterator)) (iter_rest (zip_first c.next.new.self)) c.in-Some.region.now next.0 c.regions.invariant.1),
    )

pub returns : goal.returns
returns c =
    sym (roots_end (iter_rest (zip_first c.regions.region-iterator)) (iter_rest (zip_second c.regions.region-iterator)) c.regions.tops
    (either_empty_from_Zip c.regions.region-iterator c.next.new.self c.next.result c.in-None.is c.next.ensures.steps))
    ∙ c.regions.invariant.0
