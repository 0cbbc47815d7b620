use Rattle.std.proofs.Common.{◌≡◌, ◌∙◌, ℕ, None, Some, ap, sym, get_or}
use Rattle.std.specs.Prelude.{option_map, slice_get}
use Rattle.std.proofs.lemmas.Option.{IfSome_then}
use Rattle.volume_model.specs.Recovering.{End, base_end}
use Rattle.restart_pool.specs.Following.{along, after_found, follow, whole_at}
use Rattle.restart_pool.proofs.Ends.{replay-on, replay-stop, replay-done}
use Rattle.restart_pool.proofs.Single.{shape_length}
use Rattle.restart_pool.proofs.Walking.{among-got}
use Rattle.restart_pool.proofs.replay.replay.Goals as goal

pub build-requires-clause-count : goal.build-requires-clause-count
build-requires-clause-count c = rw (c.in_ok-blocks.ensures, c.height.ensures.value) (shape_length c.args.geometry.now c.args.base.now.blocks c.requires.shaped)

pub follow_part-requires-clause-plain : goal.follow_part-requires-clause-plain
follow_part-requires-clause-plain c = IfSome_then c.part_at.result (among-got c.args.parts.now (get_or c.args.later.now c.links.place-index 0) c.part_at.result c.part_at.ensures) (λ rec m. c.requires.plain rec.now m)

pub returns-in-None : goal.returns-in-None
returns-in-None c =
    let end : End = record { at = c.links.at; blocks = c.links.tree.blocks } in
    let f : ℕ → End = λ n. record { at = n; blocks = c.follow_part.new.tree.blocks } in
    let none : after_found c.args.geometry.now end (slice_get c.args.parts.now (get_or c.args.later.now c.links.place-index 0)) ≡ None
    = ap (after_found c.args.geometry.now end) (sym c.part_at.ensures) ∙ (sym c.in_ok-next.ensures.value ∙ ap (option_map f) c.in-None.is) in
    let stop = replay-stop c.args.geometry.now end c.args.parts.now c.args.later.now c.links.place-index c.links-test.true
    (follow c.args.geometry.now (base_end c.args.base.now) (along c.args.parts.now c.args.later.now)) c.links.invariant.1 none in
    sym (ap (option_map (whole_at c.args.geometry.now)) stop)

pub links-preserved : goal.links-preserved
links-preserved c =
    let end : End = record { at = c.links.at; blocks = c.links.tree.blocks } in
    let next : End = record { at = c.in-Some.next; blocks = c.follow_part.new.tree.blocks } in
    let f : ℕ → End = λ n. record { at = n; blocks = c.follow_part.new.tree.blocks } in
    let found : after_found c.args.geometry.now end (slice_get c.args.parts.now (get_or c.args.later.now c.links.place-index 0)) ≡ Some next
    = ap (after_found c.args.geometry.now end) (sym c.part_at.ensures) ∙ (sym c.in_ok-next.ensures.value ∙ ap (option_map f) c.in-Some.is) in (
      c.in_ok-next.ensures.height ∙ c.links.invariant.0,
      replay-on c.args.geometry.now end c.args.parts.now c.args.later.now c.links.place-index c.links-test.true
          (follow c.args.geometry.now (base_end c.args.base.now) (along c.args.parts.now c.args.later.now)) c.links.invariant.1 next found,
    )

pub returns : goal.returns
returns c =
    let end : End = record { at = c.links.at; blocks = c.links.tree.blocks } in
    let done = replay-done c.args.geometry.now end c.args.parts.now c.args.later.now c.links.place-index c.links-test.false
    (follow c.args.geometry.now (base_end c.args.base.now) (along c.args.parts.now c.args.later.now)) c.links.invariant.1 in
    rw (c.root.ensures, c.into_blocks.ensures, c.links.invariant.0) (sym (ap (option_map (whole_at c.args.geometry.now)) done))
