use Rattle.std.proofs.Common.{◌∙◌, ◌++◌, ap}
use Rattle.std.specs.Prelude.{filter}
use Rattle.salus_message.specs.declared.wire.Message.TheVariants as message
use Rattle.volume_model.specs.Groups.{all_nodes}
use Rattle.volume_restart.specs.Restarting.{shape_of}
use Rattle.session_opening.specs.Answered.{is_waited_for}
use Rattle.session_opening.proofs.Based.{letters_are}
use Rattle.session_opening.proofs.beginning.Beginning.tell_to_switch.Goals as goal

pub returns : goal.returns
returns c =
    let r = c.args.self.now.progress in
    c.in_ok-post_to_all.ensures
    ∙ ap (λ l. c.args.outs.now.items ++ l)
    (letters_are c.as_slice.result.now (message.Switch (record { session = c.args.self.now.session })) (filter (is_waited_for r) (all_nodes (shape_of r))) (c.as_slice.ensures.value ∙ c.in_ok-bytes.ensures))
