use Rattle.std.proofs.Common.{◌∙◌, ◌++◌, map, ap, ap₂}
use Rattle.std.specs.Prelude.{filter}
use Rattle.salus_message.specs.declared.wire.Message.TheVariants as message
use Rattle.volume_model.specs.Groups.{all_nodes}
use Rattle.posting.specs.Letters.{out_of_letter}
use Rattle.volume_restart.specs.declared.restart.Phase.TheVariants as phase
use Rattle.volume_restart.specs.Restarting.{shape_of}
use Rattle.client_rules.specs.State.{to_all}
use Rattle.session_opening.specs.Answered.{is_waited_for}
use Rattle.session_opening.proofs.Based.{letters_are}
use Rattle.session_opening.proofs.Tabled.{waited_all, waited_in}
use Rattle.session_opening.proofs.gathering.Gathering.ask.Goals as goal

pub returns : goal.returns
returns c = λ g stands.
    let r = c.args.self.now.restart in
    c.in_ok-post_to_all.ensures
    ∙ ap (λ l. c.args.outs.now.items ++ l)
    (letters_are c.as_slice.result.now (message.Gather (record { session = c.args.self.now.session })) (filter (is_waited_for r) (all_nodes (shape_of r))) (c.as_slice.ensures.value ∙ c.in_ok-bytes.ensures)
    ∙ ap₂ (λ names e. map out_of_letter (to_all names (message.Gather (record { session = e })))) (waited_all r g.answered stands.answered (λ n. waited_in r n phase.Gathering c.requires.phase)) stands.session)
