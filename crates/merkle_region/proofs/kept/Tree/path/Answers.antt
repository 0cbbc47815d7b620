use Rattle.std.proofs.Common.{◌≡◌, ◌∙◌, ◌+◌, ◌*◌, ◌-◌, ◌/◌, ◌^◌, ◌<◌, ◌≤◌, [], ◌∷◌, ◌++◌, length, sym, subst, arith}
use Rattle.std.proofs.lemmas.List.{get_or_read}
use Rattle.merkle_region.specs.Raised.{digest_at}
use Rattle.merkle_region.specs.Tree.{path_from, root_of, block_at, Verifies}
use Rattle.merkle_region.proofs.Reached.{path_from-Verifies}
use Rattle.merkle_region.proofs.Beneath.{beside}
use Rattle.merkle_region.proofs.KeptRoots.{few_blocks, room_for_all}
use Rattle.merkle_region.proofs.Gathering.{IsGathered, sibling_within, gathered-more, gathered-all}
use Rattle.merkle_region.proofs.kept.Tree.path.Goals as goal

pub sibling-requires : goal.sibling-requires
sibling-requires c =
    let t = c.self.inside in
    let few = few_blocks t.height t.blocks.items t.digests.items c.self.invariant in
    let more : length c.levels.path.items < t.height = omega (arith, c.levels.path.ok) in
    let beside = sibling_within t.height t.blocks.items t.digests.items c.self.invariant c.args.i c.levels.place c.levels.path.items c.levels.invariant more in
    omega (arith, few, c.self.invariant.count, beside)

pub index-requires : goal.index-requires
index-requires c =
    let t = c.self.inside in
    let room = room_for_all t.height t.blocks.items t.digests.items c.self.invariant in
    let more : length c.levels.path.items < t.height = omega (arith, c.levels.path.ok) in
    let beside = sibling_within t.height t.blocks.items t.digests.items c.self.invariant c.args.i c.levels.place c.levels.path.items c.levels.invariant more in
    omega (arith, room, t.digests.ok, beside, c.sibling.ensures)

pub levels-preserved : goal.levels-preserved
levels-preserved c =
    let t = c.self.inside in
    let room = room_for_all t.height t.blocks.items t.digests.items c.self.invariant in
    let more : length c.levels.path.items < t.height = omega (arith, c.levels.path.ok) in
    let there = sibling_within t.height t.blocks.items t.digests.items c.self.invariant c.args.i c.levels.place c.levels.path.items c.levels.invariant more in
    let within : c.sibling.result < length t.digests.items = omega (arith, room, there, c.sibling.ensures) in
    let read : c.index.result.now ≡ digest_at t.digests.items c.sibling.result
    = get_or_read t.digests.items c.sibling.result c.index.result.now within c.index.ensures [] in
    let here : c.index.result.now ≡ digest_at t.digests.items (beside c.levels.place) = rw (← c.sibling.ensures) read in
    let width : c.len-width.result ≡ 2 ^ t.height = omega (arith, t.blocks.ok, c.self.invariant.count) in
    let grown : c.push.new.self.items ≡ c.levels.path.items ++ c.index.result.now ∷ [] = c.in_ok-push.ensures.items in
    rw (grown, width)
    (gathered-more t.height t.blocks.items t.digests.items c.self.invariant c.args.i c.levels.place c.levels.path.items c.levels.invariant more c.index.result.now here)

pub returns-clause-path : goal.returns-clause-path
returns-clause-path c =
    let t = c.self.inside in
    let all : t.height ≤ length c.levels.path.items = omega (arith, c.levels.path.ok) in
    rw (← c.self.view_is) (c.from_vec.ensures ∙ gathered-all t.height t.blocks.items c.args.i c.levels.place c.levels.path.items c.levels.invariant all)

pub returns-clause-verifies : goal.returns-clause-verifies
returns-clause-verifies c =
    let t = c.self.inside in
    let all : t.height ≤ length c.levels.path.items = omega (arith, c.levels.path.ok) in
    let path : c.from_vec.result ≡ path_from t.height t.blocks.items c.args.i
    = c.from_vec.ensures ∙ gathered-all t.height t.blocks.items c.args.i c.levels.place c.levels.path.items c.levels.invariant all in
    rw (← c.self.view_is, path) (path_from-Verifies t.height t.blocks.items c.args.i c.self.invariant.count c.levels.invariant.within)
