use Rattle.std.proofs.Common.{rules, ◌≡◌, ◌∙◌}
use Rattle.merkle_pruned.specs.Tree.{root_digest}
use Rattle.merkle_pruned.proofs.Lawful.{root_digest-agrees}
use Rattle.merkle_pruned.proofs.pruned.Pruned.root.Goals as goal

pub returns-in-Some-clause-agrees : goal.returns-in-Some-clause-agrees
returns-in-Some-clause-agrees c = λ blocks agrees.
    let whole : c.in-Some.root ≡ root_digest c.args.self.now = search rules in
    whole ∙ root_digest-agrees c.args.self.now blocks agrees

pub returns-in-None-clause-agrees : goal.returns-in-None-clause-agrees
returns-in-None-clause-agrees c = λ blocks agrees.
    let whole : c.digest.result ≡ root_digest c.args.self.now = search rules in
    whole ∙ root_digest-agrees c.args.self.now blocks agrees
