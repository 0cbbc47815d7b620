use Rattle.std.proofs.Common.{◌<◌, arith}
use Rattle.merkle_region.proofs.Halves.{half_lengths, first_read, root_of-leaf, root_of-split}
use Rattle.merkle_region.proofs.tree.+root.Goals as goal

pub returns-then-height-eq0 : goal.returns-then-height-eq0
returns-then-height-eq0 t c =
    let first = first_read c.args.height c.args.blocks.now c.index-blocks-0.result c.requires c.index-blocks-0.is in
    let tree = root_of-leaf c.args.height c.args.blocks.now c.if-height-eq0.true in
    cc

pub root-left_root-requires : goal.root-left_root-requires
root-left_root-requires t c =
    let above : 0 < c.args.height = omega arith in
    let lengths = half_lengths c.args.height c.args.blocks.now c.split_at.result.0.now c.split_at.result.1.now c.requires above
    c.split_at.ensures.front_len c.split_at.ensures.back_len in
    (omega arith, cc)

pub root-right_root-requires : goal.root-right_root-requires
root-right_root-requires t c =
    let above : 0 < c.args.height = omega arith in
    let lengths = half_lengths c.args.height c.args.blocks.now c.split_at.result.0.now c.split_at.result.1.now c.requires above
    c.split_at.ensures.front_len c.split_at.ensures.back_len in
    (omega arith, cc)

pub returns : goal.returns
returns t c =
    let above : 0 < c.args.height = omega arith in
    let tree = root_of-split c.args.height c.args.blocks.now c.split_at.result.0.now c.split_at.result.1.now c.requires above
    c.split_at.ensures.front c.split_at.ensures.back in
    cc
