use Rattle.std.proofs.Common.{◌≡◌, ◌<◌, sym, arith}
use Rattle.replica_rules.specs.Rules.{by_switch, says_switched, switched}
use Rattle.replica_node.specs.Planning.{node_with}
use Rattle.replica_node.proofs.Saying.{says_way, ignored_way, planned_same, switch_same, switch_below, switch_none, switch_some}
use Rattle.replica_node.proofs.opening.plan_switch.Goals as goal

pub returns-then-number-held : goal.returns-then-number-held
returns-then-number-held c =
    let shape = c.args.geometry.now in
    let g = c.args.name.region in
    let held = c.args.held.now in
    let e = c.args.number in
    let same : e ≡ held.session = omega arith in
    says_way c.say_switched.result shape g held c.args.session.now (λ node. by_switch shape g node e) (λ node. says_switched node e) c.requires (λ memory. switch_same shape g (node_with held memory) e same) c.say_switched.ensures.says (c.say_switched.ensures.only held.session)

pub returns-then-number-held-2 : goal.returns-then-number-held-2
returns-then-number-held-2 c =
    let shape = c.args.geometry.now in
    let g = c.args.name.region in
    let held = c.args.held.now in
    let e = c.args.number in
    let less : e < held.session = omega arith in
    ignored_way c.ignored.result shape g held c.args.session.now (λ node. by_switch shape g node e) c.requires (λ memory. switch_below shape g (node_with held memory) e less) c.ignored.ensures

pub returns-in-None : goal.returns-in-None
returns-in-None c =
    let shape = c.args.geometry.now in
    let g = c.args.name.region in
    let held = c.args.held.now in
    let e = c.args.number in
    let above : held.session < e = omega arith in
    ignored_way c.ignored-in-None.result shape g held c.args.session.now (λ node. by_switch shape g node e) c.requires (λ memory. switch_none shape g (node_with held memory) e above (sym c.in-None.ensures)) c.ignored-in-None.ensures

pub returns-in-Some : goal.returns-in-Some
returns-in-Some c =
    let shape = c.args.geometry.now in
    let g = c.args.name.region in
    let held = c.args.held.now in
    let e = c.args.number in
    let above : held.session < e = omega arith in
    planned_same c.switch.result shape g held c.args.session.now c.switch.new.session (λ node. switched shape g node e) (λ node. by_switch shape g node e)
    (λ memory. switch_some shape g (node_with held memory) e c.in-Some.field-0.now above (sym c.in-Some.ensures)) c.switch.ensures
