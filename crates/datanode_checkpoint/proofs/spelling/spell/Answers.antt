use Rattle.std.proofs.Common.{◌≡◌, ◌∙◌, ◌++◌, List, Some, get_or, ap}
use Rattle.salus_types.specs.declared.records.Base.{Base}
use Rattle.datanode_log.specs.Entries.{entries_of}
use Rattle.holding_model.specs.Holding.{held_of, nothing_held}
use Rattle.datanode_checkpoint.proofs.Written.{none_held, rest_is, begun, led_held}
use Rattle.datanode_checkpoint.proofs.spelling.spell.Goals as goal

pub returns : goal.returns
returns c =
    let held = c.args.held.now in
    let led = c.requires.led in
    let none : held_of (entries_of c.in_ok-log.log.bytes.items) ≡ Some nothing_held = ap held_of c.in_ok-log.ensures ∙ none_held in
    let based = c.in_ok-push_bases.ensures _ (c.in_ok-push_switch.ensures _ (c.in_ok-push_base.ensures nothing_held none)) in
    let bases = c.as_slice-bases.ensures ∙ led.bases_are in
    let first : c.index-bases-0.result ≡ led.first = c.index-bases-0.is ∙ ap (λ (l : List Base). get_or l 0 c.index-bases-0.result) bases in
    let rest = rest_is c.as_slice-bases.result.now led.first led.more bases in
    c.in_ok-push_parts.ensures _ based
    ∙ (λ i. Some (record { session = held.session; bases = (begun held (first i)).bases ++ rest i; parts = c.as_slice.ensures i }))
    ∙ ap Some (led_held held led)
