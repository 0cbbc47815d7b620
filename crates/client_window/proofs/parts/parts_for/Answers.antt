use Rattle.std.proofs.Common.{◌≡◌, ◌∙◌, true, ap, sym}
use Rattle.std.specs.Prelude.{nat_lt, slice_index}
use Rattle.std.specs.Slice.Iter.{iter_rest}
use Rattle.std.specs.Iterator.Adapters.{zip_first, zip_second}
use Rattle.std.proofs.lemmas.Slice.Zip.{Zip-more, either_empty_from_Zip}
use Rattle.salus_types.specs.Volume.{regions}
use Rattle.client_window.specs.Parting.{header_for, part_for}
use Rattle.client_window.proofs.Stepped.{rest_within, parts_step, parts_end}
use Rattle.client_window.proofs.parts.parts_for.Goals as goal

pub regions-preserved : goal.regions-preserved
regions-preserved c =
    let next = Zip-more c.regions.region-iterator c.next.new.self c.next.result (c.in-Some.region, c.in-Some.root) c.in-Some.is c.next.ensures.steps in (
      λ batch leaves.
          parts_step c.args.geometry.now batch c.args.shared.now c.args.numbers.now c.regions.parts.items c.push.new.self.items _ c.in_ok-part_for.field-0 _ _ _ _ c.in-Some.region.now c.in-Some.root.now next.0 next.1
          c.in_ok-push.ensures.items
          (c.in_ok-part_for.ensures batch leaves
          ∙ ap (λ h. part_for c.args.geometry.now batch h) (c.in_ok-header.ensures ∙ ap (λ l. header_for c.args.shared.now c.in-Some.region.now (slice_index l c.in-Some.region.now) c.in-Some.root.now) c.as_slice-in-regions.ensures))
          (c.regions.invariant.0 batch leaves),
      rest_within (λ g. nat_lt g (regions c.args.geometry.now)) (iter_rest (zip_first c.regions.region-iterator)) (iter_rest (zip_first c.next.new.self)) c.in-Some.region.now next.0 c.regions.invariant.1,
    )

pub returns : goal.returns
returns c = λ batch leaves.
    parts_end c.args.geometry.now batch c.args.shared.now c.args.numbers.now c.regions.parts.items _
    (iter_rest (zip_first c.regions.region-iterator)) (iter_rest (zip_second c.regions.region-iterator))
    (either_empty_from_Zip c.regions.region-iterator c.next.new.self c.next.result c.in-None.is c.next.ensures.steps)
    (c.regions.invariant.0 batch leaves)
