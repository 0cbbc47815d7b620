use Rattle.std.proofs.Common.{◌<◌, ◌∙◌, sym, arith}
use Rattle.merkle_region.proofs.Halves.{half_lengths}
use Rattle.merkle_region.proofs.Beside.{path_from-none, path_from-left, path_from-right, below_back_half}
use Rattle.merkle_region.proofs.tree.+siblings.Goals as goal

pub returns-then-height-eq0 : goal.returns-then-height-eq0
returns-then-height-eq0 t c = c.new.ensures ∙ sym (path_from-none c.args.height c.args.blocks.now c.args.i c.if-height-eq0.true)

pub siblings-requires : goal.siblings-requires
siblings-requires t c =
    let above : 0 < c.args.height = omega arith in
    let lengths = half_lengths c.args.height c.args.blocks.now c.split_at.result.0.now c.split_at.result.1.now c.requires.len above
    c.split_at.ensures.front_len c.split_at.ensures.back_len in
    (omega arith, (cc, omega arith))

pub root-requires : goal.root-requires
root-requires t c =
    let above : 0 < c.args.height = omega arith in
    let lengths = half_lengths c.args.height c.args.blocks.now c.split_at.result.0.now c.split_at.result.1.now c.requires.len above
    c.split_at.ensures.front_len c.split_at.ensures.back_len in
    cc

pub siblings-requires-else-i-left : goal.siblings-requires-else-i-left
siblings-requires-else-i-left t c =
    let above : 0 < c.args.height = omega arith in
    let lengths = half_lengths c.args.height c.args.blocks.now c.split_at.result.0.now c.split_at.result.1.now c.requires.len above
    c.split_at.ensures.front_len c.split_at.ensures.back_len in (
      omega arith,
      (
        cc,
        below_back_half c.args.height c.args.blocks.now c.split_at.result.0.now c.split_at.result.1.now c.args.i c.requires.len above
            c.split_at.ensures.front c.split_at.ensures.back c.split_at.ensures.front_len c.requires.within c.if-i-left.false,
      ),
    )

pub root-requires-else-i-left : goal.root-requires-else-i-left
root-requires-else-i-left t c =
    let above : 0 < c.args.height = omega arith in
    let lengths = half_lengths c.args.height c.args.blocks.now c.split_at.result.0.now c.split_at.result.1.now c.requires.len above
    c.split_at.ensures.front_len c.split_at.ensures.back_len in
    cc

pub returns-in_ok-push : goal.returns-in_ok-push
returns-in_ok-push t c =
    let above : 0 < c.args.height = omega arith in
    let path = path_from-left c.args.height c.args.blocks.now c.split_at.result.0.now c.split_at.result.1.now c.args.i c.requires.len above
    c.split_at.ensures.front c.split_at.ensures.back c.split_at.ensures.front_len c.if-i-left.true in
    cc (c.in_ok-push.ensures.ok, c.in_ok-path.ensures)

pub returns-in_ok-push-2 : goal.returns-in_ok-push-2
returns-in_ok-push-2 t c =
    let above : 0 < c.args.height = omega arith in
    let path = path_from-right c.args.height c.args.blocks.now c.split_at.result.0.now c.split_at.result.1.now c.args.i c.requires.len above
    c.split_at.ensures.front c.split_at.ensures.back c.split_at.ensures.front_len c.if-i-left.false in
    cc (c.in_ok-push-2.ensures.ok, c.in_ok-path-2.ensures)
