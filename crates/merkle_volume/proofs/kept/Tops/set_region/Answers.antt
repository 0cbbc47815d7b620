use Rattle.std.proofs.Common.{◌≡◌, ◌≤◌, ◌<◌, ◌∙◌, length, take, set, ap, arith}
use Rattle.std.proofs.lemmas.List.{length-take-le}
use Rattle.merkle_volume.proofs.Topped.{roots-put}
use Rattle.merkle_volume.proofs.kept.Tops.set_region.Goals as goal

pub invariant_of-self : goal.invariant_of-self
invariant_of-self c = record { some = c.self.invariant.some; few = c.self.invariant.few; raised = c.put_root.ensures.raised }

pub returns : goal.returns
returns c =
    let t = c.self.inside in
    let before : t.count ≤ length t.digests = omega (arith, c.self.invariant.some, c.self.invariant.raised.room) in
    let after : t.count ≤ length c.put_root.new.digests = omega (arith, c.self.invariant.some, c.put_root.ensures.raised.room) in
    let roots : take t.count t.digests ≡ c.args.self.now = c.self.view_is in
    let within : c.args.g < t.count = omega (arith, c.requires, ap length roots, length-take-le t.count t.digests before) in
    roots-put t.count c.args.g c.args.root.now t.digests c.put_root.new.digests before after within c.put_root.ensures.root c.put_root.ensures.others
    ∙ ap (λ list. set list c.args.g c.args.root.now) roots
