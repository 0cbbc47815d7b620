use Rattle.std.proofs.Common.{◌≡◌, ◌≢◌, ◌-◌, ◌/◌, ◌^◌, ◌<◌, ◌∙◌, [], length, arith}
use Rattle.std.proofs.lemmas.List.{get_or_read}
use Rattle.merkle_volume.specs.Top.{top_of}
use Rattle.merkle_volume.proofs.Split.{top_of-one, top_of-halves, half_count}
use Rattle.merkle_volume.proofs.plain.+top.Goals as goal

pub returns-then-roots-eq1 : goal.returns-then-roots-eq1
returns-then-roots-eq1 t c = λ k count.
    let within : 0 < length c.args.roots.now = omega arith in
    get_or_read c.args.roots.now 0 c.index-roots-0.result within c.index-roots-0.is [] ∙ top_of-one k c.args.roots.now c.if-roots-eq1.true count

pub returns : goal.returns
returns t c = λ k count.
    let roots = c.args.roots.now in
    let front = c.split_at.result.0.now in
    let back = c.split_at.result.1.now in
    let many : length roots ≢ 1 = omega arith in
    let halves = half_count k roots front back many count c.split_at.ensures.front c.split_at.ensures.back c.split_at.ensures.front_len c.split_at.ensures.back_len in
    let left = c.top-left_top.ensures (k - 1) halves.0 in
    let right = c.top-right_top.ensures (k - 1) halves.1 in
    let whole = top_of-halves k roots front back many count c.split_at.ensures.front c.split_at.ensures.back in
    cc
