use Rattle.std.proofs.Common.{◌<◌, ◌≤◌, ◌∙◌, ◌∷◌, [], List, ℕ, ap, sym, subst, length, arith}
use Rattle.salus_types.specs.declared.names.Sender.TheVariants as sender
use Rattle.salus_message.specs.declared.wire.Message.TheVariants as message
use Rattle.posting.specs.Posting.{bytes_to}
use Rattle.replica_rules.specs.Rules.{Plan, by_gather}
use Rattle.replica_node.specs.declared.planned.Planned.TheVariants as planned
use Rattle.replica_node.specs.Planning.{node_with}
use Rattle.replica_node.specs.Saying.{Says}
use Rattle.replica_node.proofs.Staging.{nothing_says, told_says, gather_told, gather_bases, gather_parts}
use Rattle.replica_node.proofs.held_rules.plan_gather.Goals as goal

pub returns-then-len-gt-MOST-clause-says : goal.returns-then-len-gt-MOST-clause-says
returns-then-len-gt-MOST-clause-says c =
    let many : 1048576 < length c.args.held.now.bases = omega arith in
    nothing_says c.ignored.result (λ memory. node_with c.args.held.now memory) (λ node. by_gather node c.args.session) (λ memory. gather_bases (node_with c.args.held.now memory) c.args.session many) c.ignored.ensures

pub returns-then-len-gt-MOST-2-clause-says : goal.returns-then-len-gt-MOST-2-clause-says
returns-then-len-gt-MOST-2-clause-says c =
    let many : 1048576 < length c.args.held.now.parts = omega arith in
    nothing_says c.ignored-then-len-gt-MOST-2.result (λ memory. node_with c.args.held.now memory) (λ node. by_gather node c.args.session) (λ memory. gather_parts (node_with c.args.held.now memory) c.args.session many) c.ignored-then-len-gt-MOST-2.ensures

pub returns-clause-says : goal.returns-clause-says
returns-clause-says c = λ memory.
    let held = c.args.held.now in
    let bases : length held.bases ≤ 1048576 = omega arith in
    let parts : length held.parts ≤ 1048576 = omega arith in
    let told = c.in_ok-outs.ensures ∙ ap (λ (b : List ℕ). bytes_to b sender.Client ∷ []) c.in_ok-bytes.ensures in
    subst (λ (p : Plan). Says (node_with held memory) (planned.Told c.in_ok-outs.outs) p) (sym (gather_told (node_with held memory) c.args.session bases parts))
    (told_says (node_with held memory) (message.Gathered (record { session = c.args.session; held = held })) c.in_ok-outs.outs told)
