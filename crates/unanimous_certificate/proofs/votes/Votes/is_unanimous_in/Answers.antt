use Rattle.std.proofs.Common.{◌≡◌, ◌∙◌, ◌≤◌, ap, sym, arith}
use Rattle.replica_rules.specs.Voting.{root_in}
use Rattle.unanimous_certificate.specs.Kept.{KeptVotes, votes_in}
use Rattle.unanimous_certificate.proofs.Grouped.{group_has_root, group_has_none}
use Rattle.unanimous_certificate.proofs.votes.Votes.is_unanimous_in.Goals as goal

pub returns-in-Some : goal.returns-in-Some
returns-in-Some c =
    let count : c.self.inside.geometry.replicas ≡ c.args.self.now.shape.replicas = ap (λ (k : KeptVotes). k.shape.replicas) c.self.view_is in
    let some : 1 ≤ c.args.self.now.shape.replicas = omega (arith, c.replicas-replicas.ensures.bound, c.replicas-replicas.ensures.value) in
    c.all_with_root.ensures
    ∙ sym (group_has_root (λ name. root_in c.args.seq (votes_in c.args.self.now name c.args.seq)) c.args.self.now.shape c.args.region c.in-Some.root some (sym c.in-Some.ensures))

pub returns-in-None : goal.returns-in-None
returns-in-None c =
    let count : c.self.inside.geometry.replicas ≡ c.args.self.now.shape.replicas = ap (λ (k : KeptVotes). k.shape.replicas) c.self.view_is in
    let some : 1 ≤ c.args.self.now.shape.replicas = omega (arith, c.replicas-replicas.ensures.bound, c.replicas-replicas.ensures.value) in
    sym (group_has_none (λ name. root_in c.args.seq (votes_in c.args.self.now name c.args.seq)) c.args.self.now.shape c.args.region some (sym c.in-None.ensures))
