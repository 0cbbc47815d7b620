use Rattle.std.proofs.Common.{◌≡◌, rules}
use Rattle.std.proofs.lemmas.Slice.Eq.{slice_eq-Decides}
use Rattle.std.proofs.lemmas.Bool.Decides.{Decides-eqb}
use Rattle.merkle_region.specs.Tree.{climb}
use Rattle.salus_hash.specs.Hash.{leaf}
use Rattle.merkle_region.proofs.Carried.{Verifies-Carries}
use Rattle.merkle_region.proofs.path.verifies.Goals as goal

pub returns-then-len-height-clause-carries : goal.returns-then-len-height-clause-carries
returns-then-len-height-clause-carries c = λ equal.
    let reached : c.fold_path.result ≡ c.args.root.now = (slice_eq-Decides Decides-eqb c.fold_path.result c.args.root.now c.eq.result c.eq.ensures).0 equal in
    let climbs : climb c.args.i (leaf c.args.block.now) c.args.path.now ≡ c.args.root.now = cc in
    Verifies-Carries c.args.root.now c.args.height c.args.i c.args.block.now c.args.path.now
    (record { levels = search rules; climbs = climbs })
