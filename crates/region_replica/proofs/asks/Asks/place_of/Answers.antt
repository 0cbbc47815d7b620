use Rattle.std.proofs.Common.{◌≡◌, ◌∙◌, ◌≤◌, List, length, nat_lt, false, true, ap, rules}
use Rattle.std.specs.List.Sorted.{IsPartitionPoint}
use Rattle.std.proofs.lemmas.List.Sorted.{IsPartitionPoint-from_clause, IsPartitionedBy-ltb}
use Rattle.salus_message.specs.declared.small.Ask.{Ask}
use Rattle.region_replica.proofs.Rising.{place_in, point-place, rising-places}
use Rattle.region_replica.proofs.asks.Asks.place_of.Goals as goal

pub returns-clause-place : goal.returns-clause-place
returns-clause-place c =
    let asks : List Ask = c.self.inside.asks.items in
    let parted = IsPartitionedBy-ltb (λ (a : Ask). a.read) asks c.args.read (rising-places asks c.self.invariant) in
    let point : IsPartitionPoint (λ (a : Ask). nat_lt a.read c.args.read ≡ true) (λ (a : Ask). nat_lt a.read c.args.read ≡ false) asks c.partition_point.result =
    rw (← c.deref.ensures.value) (IsPartitionPoint-from_clause (λ (a : Ask). nat_lt a.read c.args.read) _ _ c.partition_point.ensures.partitioned (rw c.deref.ensures.value parted) (λ a r q k. search rules)) in
    let within : c.partition_point.result ≤ length asks = rw (← c.deref.ensures.value) c.partition_point.ensures.bound in
    point-place asks c.args.read c.partition_point.result within point ∙ ap (λ l. place_in l c.args.read) c.self.view_is
