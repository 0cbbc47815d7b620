use Rattle.std.proofs.Common.{◌≡◌, ◌∙◌, length, sym}
use Rattle.std.proofs.lemmas.Bool.{eqb-true}
use Rattle.restart_pool.proofs.Ends.{whole-alone}
use Rattle.restart_pool.proofs.replay.whole_after.Goals as goal

pub returns-then-is_empty : goal.returns-then-is_empty
returns-then-is_empty c =
    let none : length c.args.later.now ≡ 0 = eqb-true (length c.args.later.now) 0 (sym c.is_empty.ensures ∙ c.if-is_empty.true) in
    whole-alone c.args.geometry.now c.args.base.now c.args.parts.now c.args.later.now c.in_ok-whole_of.field-0 none c.requires.rooted.1 c.in_ok-whole_of.ensures.0 c.in_ok-whole_of.ensures.1
