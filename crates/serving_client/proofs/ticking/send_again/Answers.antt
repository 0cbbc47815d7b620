use Rattle.serving_client.proofs.Ticked.{all_again}
use Rattle.serving_client.proofs.ticking.send_again.Goals as goal

pub returns : goal.returns
returns c = λ volume client stands.
    all_again volume c.args.core.now client stands c.args.outs.now.items c.tick.new.outs.items c.ask_again.new.outs.items c.ask_again-2.new.outs.items (c.in_ok-tick.ensures.stands client stands.pipeline)
    (c.in_ok-ask_again.ensures client stands.pipeline) (c.in_ok-ask_again-2.ensures client stands.pipeline)
