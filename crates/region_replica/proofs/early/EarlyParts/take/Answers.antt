use Rattle.std.proofs.Common.{◌<◌, ◌∙◌, length, sym, arith}
use Rattle.region_replica.proofs.Apart.{placed-none, taken-out, place-within}
use Rattle.region_replica.proofs.early.EarlyParts.take.Goals as goal

pub returns-in_err-place-clause-taken : goal.returns-in_err-place-clause-taken
returns-in_err-place-clause-taken c = c.from_residual.ensures ∙ sym (placed-none c.args.number c.args.self.now (sym c.in_err-place.ensures)).0

pub returns-in_err-place-clause-others : goal.returns-in_err-place-clause-others
returns-in_err-place-clause-others c = sym (placed-none c.args.number c.args.self.now (sym c.in_err-place.ensures)).1

pub remove-requires : goal.remove-requires
remove-requires c =
    let within : c.in_ok-place.place < length c.self.inside.parts.items = place-within c.args.number c.self.inside.parts.items c.args.self.now c.in_ok-place.place c.self.view_is c.in_ok-place.ensures in
    omega arith

pub invariant_of-self : goal.invariant_of-self
invariant_of-self c =
    (taken-out c.args.number c.self.inside.parts.items c.args.self.now c.remove.new.self.items c.in_ok-place.place c.remove.result c.self.invariant c.self.view_is c.in_ok-place.ensures c.remove.ensures.value c.remove.ensures.items).0

pub returns-clause-taken : goal.returns-clause-taken
returns-clause-taken c =
    (taken-out c.args.number c.self.inside.parts.items c.args.self.now c.remove.new.self.items c.in_ok-place.place c.remove.result c.self.invariant c.self.view_is c.in_ok-place.ensures c.remove.ensures.value c.remove.ensures.items).1

pub returns-clause-others : goal.returns-clause-others
returns-clause-others c =
    (taken-out c.args.number c.self.inside.parts.items c.args.self.now c.remove.new.self.items c.in_ok-place.place c.remove.result c.self.invariant c.self.view_is c.in_ok-place.ensures c.remove.ensures.value c.remove.ensures.items).2
