use Rattle.std.proofs.Common.{◌≡◌, ◌<◌, ℕ, false, nat_le, ap, sym, arith}
use Rattle.std.proofs.lemmas.Bool.{lt-leb}
use Rattle.unanimous_certificate.specs.Kept.{KeptClaims, claims_in}
use Rattle.unanimous_certificate.proofs.Grouped.{replica_of, group_passes, group_fails}
use Rattle.unanimous_certificate.proofs.claims.Claims.all_claim.Goals as goal

pub returns-then-front_of-seq : goal.returns-then-front_of-seq
returns-then-front_of-seq c =
    let count : c.self.inside.geometry.replicas ≡ c.args.self.now.shape.replicas = ap (λ (k : KeptClaims). k.shape.replicas) c.self.view_is in
    let few = c.replicas-replicas.ensures.value in
    let there : c.replicas.replica < c.args.self.now.shape.replicas = omega arith in
    let less : claims_in c.args.self.now (replica_of c.args.region c.replicas.replica) < c.args.seq = omega (arith, c.front_of.ensures) in
    let fails : nat_le c.args.seq (claims_in c.args.self.now (replica_of c.args.region c.replicas.replica)) ≡ false = lt-leb c.args.seq (claims_in c.args.self.now (replica_of c.args.region c.replicas.replica)) less in
    sym (group_fails (λ name. nat_le c.args.seq (claims_in c.args.self.now name)) c.args.self.now.shape c.args.region c.replicas.replica there fails)

pub returns : goal.returns
returns c =
    let count : c.self.inside.geometry.replicas ≡ c.args.self.now.shape.replicas = ap (λ (k : KeptClaims). k.shape.replicas) c.self.view_is in
    let few = c.replicas-replicas.ensures.value in
    sym (group_passes (λ name. nat_le c.args.seq (claims_in c.args.self.now name)) c.args.self.now.shape c.args.region
    (λ (r : ℕ) (short : r < c.args.self.now.shape.replicas). let passed : r < c.replicas.replica = omega arith in c.replicas.invariant r passed))
