-- Parts that lead from view to view, one after another.
use Rattle.std.proofs.Common.{◌≡◌, ◌<◌, ◌≤◌, List, [], ◌∷◌, ◌++◌, subst, ap, arith}
use Rattle.salus_types.specs.Volume.{Shape}
use Rattle.salus_types.specs.declared.records.Record.{Record}
use Rattle.replica_rules.specs.Views.{View, view_after}
use Rattle.region_replica.specs.Leading.{LeadTo}

-- what leads on from where others led leads from where they began
pub LeadTo-then : (shape : Shape) (before between after : View) (parts more : List Record) → LeadTo shape before parts between → LeadTo shape between more after → LeadTo shape before (parts ++ more) after
unfolding LeadTo
LeadTo-then shape before between after [] more first second = subst (λ v. LeadTo shape v more after) first second
LeadTo-then shape before between after (rec ∷ parts) more first second =
    (first.0, first.1, first.2, LeadTo-then shape (view_after shape before rec) between after parts more first.3 second)

-- no view stays where it is by parts that lead to a lower number
pub LeadTo-rises : (shape : Shape) (before after : View) (parts : List Record) → LeadTo shape before parts after → before.number ≤ after.number
unfolding LeadTo
LeadTo-rises shape before after [] leads = let same : after.number ≡ before.number = ap (λ (v : View). v.number) leads in omega arith
LeadTo-rises shape before after (rec ∷ parts) leads =
    let above : before.number < rec.header.seq = leads.1 in
    let rest : rec.header.seq ≤ after.number = LeadTo-rises shape (view_after shape before rec) after parts leads.3 in
    omega arith
