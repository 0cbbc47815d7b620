use Rattle.std.proofs.Common.{◌≡◌, ◌==◌, ◌&&◌, nat_lt, true, false, None, Some, sym, rules}
use Rattle.std.proofs.lemmas.Bool.{ltb-true}
use Rattle.list_lemmas.proofs.Tests.{and_left}
use Rattle.replica_rules.specs.Rules.{by_stage, staged_again, staged_anew}
use Rattle.replica_node.specs.Standing.{StandsIn}
use Rattle.replica_node.specs.Planning.{node_with}
use Rattle.replica_node.proofs.Staging.{held_says, stage_here, stage_not_here, under_nothing, under_says}
use Rattle.replica_node.proofs.held_rules.plan_stage.Goals as goal

pub returns-then-not-is_staged_here-clause-says : goal.returns-then-not-is_staged_here-clause-says
returns-then-not-is_staged_here-clause-says c =
    let held = c.args.held.now in
    let base = c.args.base in
    let off : (nat_lt held.session base.rec.header.session && (base.rec.header.region == c.args.region)) ≡ false = search rules in
    under_nothing c.ignored.result (λ memory. node_with held memory) (λ memory. StandsIn c.args.session.now memory) (λ node. by_stage c.args.geometry.now c.args.region node base)
    (λ memory stands. stage_not_here c.args.geometry.now c.args.region (node_with held memory) base off) c.ignored.ensures

pub returns-in-Some-clause-says : goal.returns-in-Some-clause-says
returns-in-Some-clause-says c =
    let held = c.args.held.now in
    let base = c.args.base in
    let on : (nat_lt held.session base.rec.header.session && (base.rec.header.region == c.args.region)) ≡ true = search rules in
    under_says c.stage_again.result (λ memory. node_with held memory) (λ memory. StandsIn c.args.session.now memory) (λ node. by_stage c.args.geometry.now c.args.region node base) (λ node. staged_again node base.rec c.in-Some.old.now)
    (λ memory stands. stage_here c.args.geometry.now c.args.region (node_with held memory) base (Some c.in-Some.old.now) on (sym c.in-Some.ensures)) c.stage_again.ensures.says

pub returns-in-Some-clause-only : goal.returns-in-Some-clause-only
returns-in-Some-clause-only c = c.stage_again.ensures.only c.args.held.now.session

pub returns-in-None-clause-says : goal.returns-in-None-clause-says
returns-in-None-clause-says c =
    let held = c.args.held.now in
    let base = c.args.base in
    let on : (nat_lt held.session base.rec.header.session && (base.rec.header.region == c.args.region)) ≡ true = search rules in
    held_says c.stage_anew.result held c.args.session.now (λ node. by_stage c.args.geometry.now c.args.region node base) (λ node. staged_anew c.args.geometry.now node base)
    (λ memory. stage_here c.args.geometry.now c.args.region (node_with held memory) base None on (sym c.in-None.ensures)) c.stage_anew.ensures.says

pub returns-in-None-clause-only : goal.returns-in-None-clause-only
returns-in-None-clause-only c =
    let held = c.args.held.now in
    let base = c.args.base in
    let on : (nat_lt held.session base.rec.header.session && (base.rec.header.region == c.args.region)) ≡ true = search rules in
    c.stage_anew.ensures.only held.session (ltb-true held.session base.rec.header.session (and_left (nat_lt held.session base.rec.header.session) (base.rec.header.region == c.args.region) on))
