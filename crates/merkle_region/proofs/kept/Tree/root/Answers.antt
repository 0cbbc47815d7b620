use Rattle.std.proofs.Common.{◌≡◌, ◌∙◌, ◌+◌, ◌*◌, ◌-◌, ◌^◌, ◌<◌, [], length, arith}
use Rattle.std.proofs.lemmas.List.{get_or_read}
use Rattle.merkle_region.specs.Raised.{digest_at}
use Rattle.merkle_region.specs.Tree.{root_of}
use Rattle.merkle_region.proofs.KeptRoots.{kept_root, room_for_all, some_blocks}
use Rattle.merkle_region.proofs.kept.Tree.root.Goals as goal

pub index-requires : goal.index-requires
index-requires c =
    let t = c.self.inside in
    let room = room_for_all t.height t.blocks.items t.digests.items c.self.invariant in
    let some = some_blocks t.height t.blocks.items t.digests.items c.self.invariant in
    omega (arith, room, some, t.blocks.ok, t.digests.ok)

pub returns : goal.returns
returns c =
    let t = c.self.inside in
    let room = room_for_all t.height t.blocks.items t.digests.items c.self.invariant in
    let some = some_blocks t.height t.blocks.items t.digests.items c.self.invariant in
    let top = 2 * c.len.result - 2 in
    let last : top + 2 ≡ 2 * 2 ^ t.height = omega (arith, c.len.ensures, t.blocks.ok, c.self.invariant.count) in
    let within : top < length t.digests.items = omega (arith, room, last) in
    let read : c.index.result.now ≡ digest_at t.digests.items top = get_or_read t.digests.items top c.index.result.now within c.index.ensures [] in
    let root = kept_root t.height t.blocks.items t.digests.items c.self.invariant top last in
    rw (← c.self.view_is) (read ∙ root)
