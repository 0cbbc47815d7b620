use Rattle.std.proofs.Common.{◌≡◌, ◌∙◌, ◌<◌, true, false, [], List, length, vec_len, None, rules, arith, refl, sym, subst}
use Rattle.std.proofs.lemmas.Bool.{eqb-true, eqb-false}
use Rattle.std.proofs.lemmas.Option.{MatchOption-at_some, MatchOption-at_none}
use Rattle.restart_pool.specs.declared.chain.Way.{Way}
use Rattle.restart_pool.specs.Following.{seen, EachLeads, NoneIsWay, NoneFollows, NoneBegins, SomeBegins, AreLonger}
use Rattle.restart_pool.proofs.Rounds.{first-leads, first-covers, some-found, falls, none-left}
use Rattle.restart_pool.proofs.chain.chain_to.Goals as goal

pub down-init : goal.down-init
down-init c =
    let cs = seen c.args.lane.now in
    let way : Way = record { at = c.args.x; later = c.new.result } in
    subst (λ (ws : List Way). EachLeads cs c.args.x ws × (NoneIsWay cs ws → NoneFollows cs c.args.x [])) (sym c.in_ok-ways.ensures.items)
    (first-leads cs c.args.x way refl c.new.ensures.items, λ none. first-covers cs c.args.x way refl c.new.ensures.items none)

pub down-preserved : goal.down-preserved
down-preserved c =
    let cs = seen c.args.lane.now in
    let longer = subst (λ (ws : List Way). AreLonger cs ws c.in_ok-ways-2.ways.items) c.as_slice-in-down.ensures.value c.in_ok-ways-2.ensures in
    let none : c.in_ok-whole.field-0 ≡ None = search rules in
    let begins = subst (λ (ws : List Way). NoneBegins cs ws) c.as_slice.ensures.value (MatchOption-at_none _ _ none c.in_ok-whole.ensures) in
    (longer.leads c.args.x c.down.invariant.0, λ n. c.down.invariant.1 (longer.covers n begins))

pub down-smaller : goal.down-smaller
down-smaller c =
    let cs = seen c.args.lane.now in
    let longer = subst (λ (ws : List Way). AreLonger cs ws c.in_ok-ways-2.ways.items) c.as_slice-in-down.ensures.value c.in_ok-ways-2.ensures in
    let full : c.is_empty.result ≡ false = search rules in
    let some : 0 < length c.down.ways.items = omega (arith, eqb-false (vec_len c.down.ways) 0 (sym c.is_empty.ensures ∙ full), c.down.ways.ok) in
    falls cs c.down.ways.items c.in_ok-ways-2.ways.items some longer

pub returns-in-Some : goal.returns-in-Some
returns-in-Some c =
    let cs = seen c.args.lane.now in
    let begun = subst (λ (ws : List Way). SomeBegins cs ws c.in-Some.whole) c.as_slice.ensures.value (MatchOption-at_some _ _ c.in-Some.whole c.in-Some.is c.in_ok-whole.ensures) in
    some-found cs c.args.x c.down.ways.items c.in-Some.whole c.down.invariant.0 begun

pub returns : goal.returns
returns c =
    let cs = seen c.args.lane.now in
    let empty : c.is_empty.result ≡ true = search rules in
    let none : length c.down.ways.items ≡ 0 = omega (arith, eqb-true (vec_len c.down.ways) 0 (sym c.is_empty.ensures ∙ empty), c.down.ways.ok) in
    c.down.invariant.1 (none-left cs c.down.ways.items none)
