use Rattle.std.proofs.Common.{ap}
use Rattle.replica_rules.specs.Rules.{Receives}
use Rattle.replica_node.specs.declared.node.ReplicaNode.{ReplicaNode}
use Rattle.disk_node.specs.Knowing.{Hands, seen_of}
use Rattle.disk_node.proofs.Answering.{answered, moments_pass, stays_loadable}
use Rattle.disk_node.proofs.handling.receive.Goals as goal

pub returns-in-Ok-clause-answered : goal.returns-in-Ok-clause-answered
returns-in-Ok-clause-answered g c = λ shape name known fits.
    let e = c.handle-given.ensures in
    let old = seen_of c.args.node.now in
    let new = seen_of c.handle-given.new.self in
    let hands : Hands (Receives c.args.from c.args.bytes.now) c.handle-given.result old new = record { rules = e.rules; any_moment = e.any_moment; durable = e.durable; silent = e.silent; quiet = λ is. (ap (λ (n : ReplicaNode _ _ _). seen_of n) (e.quiet is).0, (e.quiet is).1); place = e.place } in
    answered shape name known (Receives c.args.from c.args.bytes.now) old new fits c.handle-given.result c.in-Ok.outcome hands c.in-Ok.ensures

pub returns-in-Ok-clause-any_moment : goal.returns-in-Ok-clause-any_moment
returns-in-Ok-clause-any_moment g c = λ shape name known fits.
    let e = c.handle-given.ensures in
    let old = seen_of c.args.node.now in
    let new = seen_of c.handle-given.new.self in
    let hands : Hands (Receives c.args.from c.args.bytes.now) c.handle-given.result old new = record { rules = e.rules; any_moment = e.any_moment; durable = e.durable; silent = e.silent; quiet = λ is. (ap (λ (n : ReplicaNode _ _ _). seen_of n) (e.quiet is).0, (e.quiet is).1); place = e.place } in
    moments_pass shape name known (Receives c.args.from c.args.bytes.now) old new fits c.handle-given.result hands

pub returns-in-Ok-clause-loadable : goal.returns-in-Ok-clause-loadable
returns-in-Ok-clause-loadable g c = λ can.
    let e = c.handle-given.ensures in
    let old = seen_of c.args.node.now in
    let new = seen_of c.handle-given.new.self in
    let hands : Hands (Receives c.args.from c.args.bytes.now) c.handle-given.result old new = record { rules = e.rules; any_moment = e.any_moment; durable = e.durable; silent = e.silent; quiet = λ is. (ap (λ (n : ReplicaNode _ _ _). seen_of n) (e.quiet is).0, (e.quiet is).1); place = e.place } in
    stays_loadable (Receives c.args.from c.args.bytes.now) c.handle-given.result old new hands can

pub returns-in-Err-clause-any_moment : goal.returns-in-Err-clause-any_moment
returns-in-Err-clause-any_moment g c = λ shape name known fits.
    let e = c.handle-given.ensures in
    let old = seen_of c.args.node.now in
    let new = seen_of c.handle-given.new.self in
    let hands : Hands (Receives c.args.from c.args.bytes.now) c.handle-given.result old new = record { rules = e.rules; any_moment = e.any_moment; durable = e.durable; silent = e.silent; quiet = λ is. (ap (λ (n : ReplicaNode _ _ _). seen_of n) (e.quiet is).0, (e.quiet is).1); place = e.place } in
    moments_pass shape name known (Receives c.args.from c.args.bytes.now) old new fits c.handle-given.result hands

pub returns-in-Err-clause-loadable : goal.returns-in-Err-clause-loadable
returns-in-Err-clause-loadable g c = λ can.
    let e = c.handle-given.ensures in
    let old = seen_of c.args.node.now in
    let new = seen_of c.handle-given.new.self in
    let hands : Hands (Receives c.args.from c.args.bytes.now) c.handle-given.result old new = record { rules = e.rules; any_moment = e.any_moment; durable = e.durable; silent = e.silent; quiet = λ is. (ap (λ (n : ReplicaNode _ _ _). seen_of n) (e.quiet is).0, (e.quiet is).1); place = e.place } in
    stays_loadable (Receives c.args.from c.args.bytes.now) c.handle-given.result old new hands can
