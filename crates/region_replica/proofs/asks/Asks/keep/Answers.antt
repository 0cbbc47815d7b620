use Rattle.std.proofs.Common.{◌<◌, ◌∙◌, length, sym, ap, subst, arith}
use Rattle.replica_rules.specs.Replicas.{with_ask}
use Rattle.region_replica.specs.Keeping.{IsRising}
use Rattle.region_replica.proofs.Rising.{set-kept, insert-kept, set-within, IsRising-with}
use Rattle.region_replica.proofs.asks.Asks.keep.Goals as goal

pub index_mut-requires : goal.index_mut-requires
index_mut-requires c =
    let within : c.place_of-place.result < length c.self.inside.asks.items =
    set-within c.self.inside.asks.items c.args.self.now c.as_slice.result.now c.args.ask c.place_of-place.result c.is_read_at.result c.self.view_is c.as_slice.ensures.value c.place_of-place.ensures.place c.is_read_at.ensures c.if-is_read_at.true in
    omega arith

pub invariant_of-self : goal.invariant_of-self
invariant_of-self c =
    subst (λ l. IsRising l)
    (ap (λ l. with_ask l c.args.ask) c.self.view_is
    ∙ sym (set-kept c.self.inside.asks.items c.args.self.now c.as_slice.result.now c.args.ask c.place_of-place.result c.is_read_at.result c.self.view_is c.as_slice.ensures.value c.place_of-place.ensures.place c.is_read_at.ensures c.if-is_read_at.true))
    (IsRising-with c.self.inside.asks.items c.args.ask c.self.invariant)

pub returns-then-is_read_at-clause-ok : goal.returns-then-is_read_at-clause-ok
returns-then-is_read_at-clause-ok c =
    set-kept c.self.inside.asks.items c.args.self.now c.as_slice.result.now c.args.ask c.place_of-place.result c.is_read_at.result c.self.view_is c.as_slice.ensures.value c.place_of-place.ensures.place c.is_read_at.ensures c.if-is_read_at.true

pub insert-requires : goal.insert-requires
insert-requires c = omega (arith, ap length c.self.view_is, c.place_of-place.ensures.within)

pub invariant_of-self-2 : goal.invariant_of-self-2
invariant_of-self-2 c =
    subst (λ l. IsRising l)
    (ap (λ l. with_ask l c.args.ask) c.self.view_is
    ∙ sym (c.in_ok-insert.ensures.items
    ∙ insert-kept c.self.inside.asks.items c.args.self.now c.as_slice.result.now c.args.ask c.place_of-place.result c.is_read_at.result c.self.view_is c.as_slice.ensures.value c.place_of-place.ensures.place c.is_read_at.ensures c.if-is_read_at.false))
    (IsRising-with c.self.inside.asks.items c.args.ask c.self.invariant)

pub returns-clause-ok : goal.returns-clause-ok
returns-clause-ok c =
    c.in_ok-insert.ensures.items
    ∙ insert-kept c.self.inside.asks.items c.args.self.now c.as_slice.result.now c.args.ask c.place_of-place.result c.is_read_at.result c.self.view_is c.as_slice.ensures.value c.place_of-place.ensures.place c.is_read_at.ensures c.if-is_read_at.false
