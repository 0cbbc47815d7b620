use Rattle.std.proofs.Common.{◌≡◌, ◌∙◌, ◌<◌, ℕ, false, ap, sym, arith}
use Rattle.replica_rules.specs.Voting.{root_in, is_root}
use Rattle.unanimous_certificate.specs.Kept.{KeptVotes, votes_in}
use Rattle.unanimous_certificate.proofs.Grouped.{replica_of, group_passes, group_fails}
use Rattle.unanimous_certificate.proofs.votes.Votes.all_with_root.Goals as goal

pub returns-then-not-is_root : goal.returns-then-not-is_root
returns-then-not-is_root c =
    let count : c.self.inside.geometry.replicas ≡ c.args.self.now.shape.replicas = ap (λ (k : KeptVotes). k.shape.replicas) c.self.view_is in
    let few = c.replicas-replicas.ensures.value in
    let there : c.replicas.replica < c.args.self.now.shape.replicas = omega arith in
    let fails : is_root c.args.root.now (root_in c.args.seq (votes_in c.args.self.now (replica_of c.args.region c.replicas.replica) c.args.seq)) ≡ false =
    ap (λ o. is_root c.args.root.now o) (sym c.root_of.ensures) ∙ sym c.is_root.ensures ∙ c.if-not-is_root.true in
    sym (group_fails (λ name. is_root c.args.root.now (root_in c.args.seq (votes_in c.args.self.now name c.args.seq))) c.args.self.now.shape c.args.region c.replicas.replica there fails)

pub returns : goal.returns
returns c =
    let count : c.self.inside.geometry.replicas ≡ c.args.self.now.shape.replicas = ap (λ (k : KeptVotes). k.shape.replicas) c.self.view_is in
    let few = c.replicas-replicas.ensures.value in
    sym (group_passes (λ name. is_root c.args.root.now (root_in c.args.seq (votes_in c.args.self.now name c.args.seq))) c.args.self.now.shape c.args.region
    (λ (r : ℕ) (short : r < c.args.self.now.shape.replicas). let passed : r < c.replicas.replica = omega arith in c.replicas.invariant r passed))
