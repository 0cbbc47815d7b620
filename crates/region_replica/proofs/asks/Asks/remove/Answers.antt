use Rattle.std.proofs.Common.{◌≡◌, ◌==◌, not, sym, subst, rules}
use Rattle.std.specs.Prelude.{filter}
use Rattle.std.proofs.lemmas.Fn.{filter_same}
use Rattle.salus_message.specs.declared.small.Ask.{Ask}
use Rattle.region_replica.specs.Keeping.{IsRising}
use Rattle.region_replica.proofs.Rising.{IsRising-filter}
use Rattle.region_replica.proofs.asks.Asks.remove.Goals as goal

pub invariant_of-self : goal.invariant_of-self
invariant_of-self c =
    let left : c.retain.new.self.items ≡ filter (λ (a : Ask). not (a.read == c.args.read)) c.self.inside.asks.items =
    filter_same _ (λ (a : Ask). not (a.read == c.args.read)) _ (λ x b f' k. search rules) _ _ c.retain.ensures.filtered in
    subst (λ l. IsRising l) (sym left) (IsRising-filter (λ (a : Ask). not (a.read == c.args.read)) c.self.inside.asks.items c.self.invariant)

pub returns : goal.returns
returns c = rw (← c.self.view_is) (filter_same _ (λ (a : Ask). not (a.read == c.args.read)) _ (λ x b f' k. search rules) _ _ c.retain.ensures.filtered)
