use Rattle.std.proofs.Common.{◌∙◌, ◌++◌, ap}
use Rattle.volume_restart.specs.Restarting.{shape_of}
use Rattle.session_opening.specs.Answered.{is_waited_for}
use Rattle.session_opening.proofs.Beginnings.{base_posted}
use Rattle.session_opening.proofs.beginning.post_base.Goals as goal

pub returns : goal.returns
returns c =
    c.in_ok-post_to_group.ensures
    ∙ ap (λ l. c.args.outs.now.items ++ l)
    (base_posted c.as_slice.result.now (shape_of c.args.progress.now) (is_waited_for c.args.progress.now) c.args.rec.now c.args.blocks.now (c.as_slice.ensures.value ∙ c.in_ok-bytes.ensures))
