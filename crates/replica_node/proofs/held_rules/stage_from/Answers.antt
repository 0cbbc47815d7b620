use Rattle.std.proofs.Common.{◌≡◌, ◌∙◌, List, ℕ, ap, sym, rules}
use Rattle.replica_rules.specs.Views.{view_root}
use Rattle.replica_rules.specs.Rules.{staged, staged_from}
use Rattle.replica_node.proofs.Staging.{same_says, from_same}
use Rattle.replica_node.proofs.held_rules.stage_from.Goals as goal

pub returns-clause-says : goal.returns-clause-says
returns-clause-says c = λ m is.
    let shape = c.args.view.now.shape in
    let view = c.args.view.now.view in
    let rec = c.args.rec in
    let root : view_root shape view ≡ rec.header.root = search rules in
    same_says c.stage.result (λ node. node) (λ node. staged_from shape node rec m) (λ node. staged node rec c.in_ok-blocks.blocks)
    (λ node. from_same shape node rec m view is root ∙ ap (λ (l : List (List ℕ)). staged node rec l) (sym c.in_ok-blocks.ensures.same)) c.stage.ensures.says
