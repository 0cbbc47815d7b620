use Rattle.std.proofs.Common.{◌≡◌, ◌-◌, ◌*◌, ◌^◌, ◌<◌, ◌∙◌, [], length, take, arith}
use Rattle.std.proofs.lemmas.List.{get_or_default}
use Rattle.merkle_volume.specs.Top.{top_of}
use Rattle.merkle_volume.proofs.Topped.{kept_top}
use Rattle.merkle_volume.proofs.kept.Tops.top.Goals as goal

pub returns : goal.returns
returns c = λ k count.
    let t = c.self.inside in
    let roots : take t.count t.digests ≡ c.args.self.now = c.self.view_is in
    let within : 2 * t.count - 2 < length t.digests = omega (arith, c.self.invariant.some, c.self.invariant.raised.room) in
    get_or_default t.digests (2 * t.count - 2) c.index-self-self.result [] within
    ∙ (rw (← roots) (kept_top t.count t.digests c.self.invariant k (rw (← roots) at count)))
