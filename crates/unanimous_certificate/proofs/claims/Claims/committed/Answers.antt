use Rattle.std.proofs.Common.{◌≡◌, ◌∙◌, ℕ, map, ap, sym, arith}
use Rattle.salus_types.specs.Volume.{regions}
use Rattle.volume_model.specs.Groups.{group_of}
use Rattle.replica_rules.specs.Voting.{greater, least_of}
use Rattle.unanimous_certificate.specs.Kept.{KeptClaims, claims_in}
use Rattle.unanimous_certificate.proofs.Grouped.{greatest_of_first, greatest_of_first-none, greatest_of_first-more, greatest_of_first-all}
use Rattle.unanimous_certificate.proofs.claims.Claims.committed.Goals as goal

abbrev claimed_by : KeptClaims → ℕ → ℕ
claimed_by kept g = least_of (map (claims_in kept) (group_of kept.shape g))

pub returns : goal.returns
returns c =
    let count : regions c.self.inside.geometry ≡ regions c.args.self.now.shape = ap (λ (k : KeptClaims). regions k.shape) c.self.view_is in
    let few = c.regions-regions.ensures.value in
    let all : c.regions.region ≡ regions c.args.self.now.shape = omega arith in
    c.regions.invariant ∙ ap (λ n. greatest_of_first (claimed_by c.args.self.now) n) all ∙ greatest_of_first-all (claimed_by c.args.self.now) c.args.self.now.shape

pub regions-preserved : goal.regions-preserved
regions-preserved c =
    c.greater-greatest.ensures ∙ ap (λ n. greater n c.least_in.result) c.regions.invariant
    ∙ ap (λ n. greater (greatest_of_first (claimed_by c.args.self.now) c.regions.region) n) c.least_in.ensures
    ∙ sym (greatest_of_first-more (claimed_by c.args.self.now) c.regions.region)

pub regions-init : goal.regions-init
regions-init c = sym (greatest_of_first-none (claimed_by c.args.self.now))
