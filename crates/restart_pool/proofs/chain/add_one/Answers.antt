use Rattle.std.proofs.Common.{◌≡◌, ◌∙◌, ◌&&◌, nat_lt, true, false, Some, ap, sym, subst, get_or, rules}
use Rattle.std.specs.Prelude.{slice_get, option_copied}
use Rattle.std.proofs.lemmas.Bool.{and_parts, ltb-true}
use Rattle.std.proofs.lemmas.Option.{slice_get-get_or, get_or_from_slice_get}
use Rattle.salus_types.specs.declared.records.Record.{Record}
use Rattle.holding_model.specs.Fitting.{has_content}
use Rattle.volume_model.specs.Recovering.{is_of}
use Rattle.restart_pool.specs.Following.{seen, AddsOne}
use Rattle.restart_pool.proofs.Taken.{item_among}
use Rattle.restart_pool.proofs.Lengthening.{adds-no_link, adds-tried, adds-one}
use Rattle.restart_pool.proofs.chain.add_one.Goals as goal

pub may_link-requires : goal.may_link-requires
may_link-requires c =
    let parts = c.args.lane.now.parts.now in
    let x = get_or parts c.args.place c.index-lane-place.result in
    c.requires.lane.plain x (item_among parts c.args.place x c.requires.within (ap (get_or parts c.args.place) c.index-lane-place.is))

pub returns-then-not-may_link : goal.returns-then-not-may_link
returns-then-not-may_link c = λ rec get.
    let parts = c.args.lane.now.parts.now in
    let x = get_or parts c.args.place c.index-lane-place.result in
    let same : x ≡ rec = get_or_from_slice_get parts c.args.place rec c.index-lane-place.result get in
    let bad : c.may_link.result ≡ false = search rules in
    let other : (is_of c.args.lane.now.session c.args.lane.now.region rec.header && nat_lt rec.header.previous rec.header.seq && has_content rec.writes rec.run) ≡ false
    = subst (λ (r : Record). (is_of c.args.lane.now.session c.args.lane.now.region r.header && nat_lt r.header.previous r.header.seq && has_content r.writes r.run) ≡ false) same (sym c.may_link.ensures ∙ bad) in
    adds-no_link (seen c.args.lane.now) c.args.way.now rec c.args.longer.now.items (option_copied c.args.tried) c.requires.tried other

pub returns-then-was_tried : goal.returns-then-was_tried
returns-then-was_tried c = λ rec get.
    let parts = c.args.lane.now.parts.now in
    let x = get_or parts c.args.place c.index-lane-place.result in
    let same : x ≡ rec = get_or_from_slice_get parts c.args.place rec c.index-lane-place.result get in
    let is : option_copied c.args.tried ≡ Some x = c.was_tried.ensures c.if-was_tried.true in
    adds-tried (seen c.args.lane.now) c.args.way.now rec c.args.longer.now.items (option_copied c.args.tried) c.requires.tried (is ∙ ap Some same)

pub returns : goal.returns
returns c = λ rec get.
    let parts = c.args.lane.now.parts.now in
    let x = get_or parts c.args.place c.index-lane-place.result in
    let same : x ≡ rec = get_or_from_slice_get parts c.args.place rec c.index-lane-place.result get in
    let get_x : slice_get parts c.args.place ≡ Some x = slice_get-get_or parts c.args.place c.index-lane-place.result c.requires.within in
    let good : c.may_link.result ≡ true = search rules in
    let both = and_parts (is_of c.args.lane.now.session c.args.lane.now.region x.header && nat_lt x.header.previous x.header.seq) (has_content x.writes x.run) (sym c.may_link.ensures ∙ good) in
    let two = and_parts (is_of c.args.lane.now.session c.args.lane.now.region x.header) (nat_lt x.header.previous x.header.seq) both.0 in
    let among = item_among parts c.args.place x c.requires.within (ap (get_or parts c.args.place) c.index-lane-place.is) in
    subst (λ (r : Record). AddsOne (seen c.args.lane.now) c.args.way.now r c.args.longer.now.items c.push.new.self.items (Some x)) same
    (adds-one (seen c.args.lane.now) c.args.way.now x c.args.longer.now.items c.args.place c.in_ok-longer_way.field-0 get_x c.in_ok-longer_way.ensures.0 c.in_ok-longer_way.ensures.1
    among two.0 (c.requires.here x get_x) (ltb-true x.header.previous x.header.seq two.1) c.push.new.self.items c.in_ok-push.ensures.items)
