use Rattle.std.proofs.Common.{take, drop}
use Rattle.std.proofs.lemmas.List.{take-append-drop}
use Rattle.merkle_pruned.proofs.Climbing.{climb-parts}
use Rattle.merkle_pruned.proofs.node.Node.climbed.Goals as goal

pub returns-clause-digest : goal.returns-clause-digest
returns-clause-digest c =
    let parts = climb-parts c.args.i c.args.leaf.now (take c.stub_over-level.result.0 c.args.path.now) (drop c.stub_over-level.result.0 c.args.path.now) in
    let whole = take-append-drop c.stub_over-level.result.0 c.args.path.now in
    cc
