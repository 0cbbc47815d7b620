use Rattle.std.proofs.Common.{List, Some, None, subst}
use Rattle.std.specs.Prelude.{option_copied}
use Rattle.std.proofs.lemmas.Option.{MatchOption-at_none, MatchOption-at_some}
use Rattle.salus_types.specs.declared.records.Header.{Header}
use Rattle.volume_restart.specs.Choosing.{IsNext}
use Rattle.volume_restart.proofs.Chosen.{nothing-tried, tried-more, first-chosen, none-chosen}
use Rattle.volume_restart.proofs.Falling.{falls}
use Rattle.volume_restart.proofs.choice.choose.Goals as goal

pub greatest-init : goal.greatest-init
greatest-init c = λ single none. nothing-tried c.args.pool.now

pub greatest-preserved : goal.greatest-preserved
greatest-preserved c = λ single none.
    let tried = option_copied c.greatest.tried in
    let n = c.in-Some.header.now in
    let next = subst (λ (hs : List Header). IsNext hs tried (Some n)) c.headers-headers.ensures c.in-Some.ensures in
    tried-more c.args.pool.now tried n next (c.greatest.invariant single none) (MatchOption-at_none _ _ c.in_default-2.is (c.in_ok-choice.ensures.exact single none))

pub greatest-smaller : goal.greatest-smaller
greatest-smaller c = falls c.headers-headers.result.now (option_copied c.greatest.tried) c.in-Some.header.now c.in-Some.ensures

pub returns-clause-exact : goal.returns-clause-exact
returns-clause-exact c = λ single none.
    let tried = option_copied c.greatest.tried in
    let next = subst (λ (hs : List Header). IsNext hs tried None) c.headers-headers.ensures c.in_default.ensures in
    none-chosen c.args.pool.now tried next (c.greatest.invariant single none)

pub returns-in-Some-2-clause-exact : goal.returns-in-Some-2-clause-exact
returns-in-Some-2-clause-exact c = λ single none.
    let tried = option_copied c.greatest.tried in
    let n = c.in-Some.header.now in
    let next = subst (λ (hs : List Header). IsNext hs tried (Some n)) c.headers-headers.ensures c.in-Some.ensures in
    first-chosen c.args.pool.now tried n next (c.greatest.invariant single none) c.in-Some-2.choice
    (MatchOption-at_some _ _ c.in-Some-2.choice c.in-Some-2.is (c.in_ok-choice.ensures.exact single none))
