use Rattle.std.proofs.Common.{◌≡◌, ◌∙◌, ◌*◌, ◌/◌, ◌+◌, ◌<◌, [], length, arith}
use Rattle.std.proofs.lemmas.List.{get_or_read}
use Rattle.salus_hash.specs.Hash.{inner}
use Rattle.merkle_region.specs.Raised.{digest_at}
use Rattle.merkle_region.proofs.Raising.{raised_but-first, raised_but-up, raised_but-all}
use Rattle.merkle_region.proofs.raised.put_leaf.Goals as goal

pub levels-init : goal.levels-init
levels-init c = raised_but-first inner c.args.width c.args.i c.args.leaf c.args.digests.now.items c.requires.raised c.requires.within

pub index-requires : goal.index-requires
index-requires c = omega (arith, c.levels.digests.ok, c.levels.invariant.room, c.levels.invariant.there)

pub index-requires-in-levels : goal.index-requires-in-levels
index-requires-in-levels c = omega (arith, c.levels.digests.ok, c.levels.invariant.room, c.levels.invariant.there)

pub index_mut-requires-in-levels : goal.index_mut-requires-in-levels
index_mut-requires-in-levels c = omega (arith, c.levels.digests.ok, c.levels.invariant.room, c.levels.invariant.there)

pub levels-preserved : goal.levels-preserved
levels-preserved c =
    let pair = c.levels.place / 2 in
    let first : 2 * pair < length c.levels.digests.items = omega (arith, c.levels.invariant.room, c.levels.invariant.there) in
    let second : 2 * pair + 1 < length c.levels.digests.items = omega (arith, c.levels.invariant.room, c.levels.invariant.there) in
    let left : c.index.result.now ≡ digest_at c.levels.digests.items (2 * pair)
    = get_or_read c.levels.digests.items (2 * pair) c.index.result.now first c.index.ensures [] in
    let right : c.index-in-levels.result.now ≡ digest_at c.levels.digests.items (2 * pair + 1)
    = get_or_read c.levels.digests.items (2 * pair + 1) c.index-in-levels.result.now second c.index-in-levels.ensures [] in
    let hashed : c.node_digest-parent.result ≡ inner (digest_at c.levels.digests.items (2 * pair)) (digest_at c.levels.digests.items (2 * pair + 1)) = cc in
    raised_but-up inner c.args.width c.levels.place c.args.i c.args.leaf c.args.digests.now.items c.levels.digests.items c.node_digest-parent.result
    c.levels.invariant c.levels-test.true c.requires.within hashed

pub returns-clause-raised : goal.returns-clause-raised
returns-clause-raised c =
    raised_but-all inner c.args.width c.levels.place c.args.i c.args.leaf c.args.digests.now.items c.levels.digests.items c.levels.invariant
    (omega arith)
