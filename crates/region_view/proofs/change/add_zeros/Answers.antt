use Rattle.std.proofs.Common.{◌∙◌, ◌++◌, List, ap, sym, append_assoc}
use Rattle.std.proofs.lemmas.List.{append-nil}
use Rattle.salus_types.specs.declared.records.PlaceWrite.{PlaceWrite}
use Rattle.region_view.proofs.Bringing.{zero_writes-none, zero_writes-more}
use Rattle.region_view.proofs.change.add_zeros.Goals as goal

pub places-init : goal.places-init
places-init c = sym (ap (λ (more : List PlaceWrite). c.reserve.new.self.items ++ more) (zero_writes-none c.args.run.place c.args.size) ∙ append-nil c.reserve.new.self.items)

pub places-preserved : goal.places-preserved
places-preserved c =
    let more = zero_writes-more c.args.run.place c.places.i c.args.size in
    rw (more, c.in_ok-push.ensures.items, c.places.invariant, c.in_ok-bytes.ensures) (append_assoc c.reserve.new.self.items _ _)
