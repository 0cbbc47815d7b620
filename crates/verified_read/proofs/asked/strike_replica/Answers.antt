use Rattle.std.proofs.Common.{◌≡◌, ◌∙◌, Option, None, Some, sym, ap, slice_get}
use Rattle.salus_types.specs.declared.strike.Strike.{Strike}
use Rattle.verified_read.proofs.Places.{struck-free, struck-kept, struck-none}
use Rattle.verified_read.proofs.asked.strike_replica.Goals as goal

pub returns-in-Some-None : goal.returns-in-Some-None
returns-in-Some-None c =
    let at : Some None ≡ slice_get c.args.strikes.now c.args.replica = ap (λ (x : Option Strike). Some x) (sym c.in-Some-None.field-0-is) ∙ c.in-Some-None.ensures.value in
    c.set.ensures ∙ struck-free c.args.replica c.args.strike c.args.strikes.now at

pub returns-in-Some-Some : goal.returns-in-Some-Some
returns-in-Some-Some c =
    let at : Some (Some c.in-Some-Some.field-0-0) ≡ slice_get c.args.strikes.now c.args.replica =
    ap (λ (x : Option Strike). Some x) (sym c.in-Some-Some.field-0-is) ∙ c.in-Some-Some.ensures.value in
    struck-kept c.args.replica c.args.strike c.in-Some-Some.field-0-0 c.args.strikes.now at

pub returns-in-None : goal.returns-in-None
returns-in-None c = struck-none c.args.replica c.args.strike c.args.strikes.now c.in-None.ensures.value
