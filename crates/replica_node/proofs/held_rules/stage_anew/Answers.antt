use Rattle.std.proofs.Common.{◌≡◌, [], subst, rules}
use Rattle.std.specs.Prelude.{IfOk}
use Rattle.region_view.specs.Kept.{KeptView}
use Rattle.replica_rules.specs.Nodes.{Memory, NodeState}
use Rattle.replica_rules.specs.Rules.{staged_from}
use Rattle.replica_node.specs.Saying.{Says}
use Rattle.replica_node.proofs.Staging.{from_says}
use Rattle.replica_node.proofs.held_rules.stage_anew.Goals as goal

pub returns-in-Some-clause-says : goal.returns-in-Some-clause-says
returns-in-Some-clause-says c =
    let base = c.args.base in
    let none : base.blocks ≡ [] = search rules in
    from_says c.stage_from.result c.args.geometry.now base c.args.session.now c.in-Some.kept c.in-Some.is (c.requires.shape c.in-Some.kept c.in-Some.is) none
    (subst (λ (v : KeptView). (m : Memory) → m.replica.view ≡ v.view → IfOk c.stage_from.result (λ made. (node : NodeState) → Says node made (staged_from v.shape node base.rec m))) c.view.ensures c.stage_from.ensures.says)
