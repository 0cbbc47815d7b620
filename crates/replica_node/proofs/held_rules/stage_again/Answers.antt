use Rattle.std.proofs.Common.{sym, ◌∙◌}
use Rattle.replica_rules.specs.Rules.{says_staged, staged_again}
use Rattle.replica_node.proofs.Staging.{same_says, again_same}
use Rattle.replica_node.proofs.held_rules.stage_again.Goals as goal

pub returns-then-is_same_record-clause-says : goal.returns-then-is_same_record-clause-says
returns-then-is_same_record-clause-says c =
    let rec = c.args.rec.now in
    let old = c.args.old.now in
    same_says c.say_staged.result (λ node. node) (λ node. staged_again node rec old) (λ node. says_staged node rec.header.session) (λ node. again_same node rec old (sym c.is_same_record.ensures ∙ c.if-is_same_record.true)) c.say_staged.ensures.says
