use Rattle.std.proofs.Common.{◌∙◌, ◌++◌, ap}
use Rattle.salus_message.specs.declared.wire.Message.TheVariants as message
use Rattle.volume_model.specs.Groups.{group_of}
use Rattle.session_opening.proofs.Based.{posted_are}
use Rattle.session_opening.proofs.fetching.Fetching.ask.Goals as goal

pub returns : goal.returns
returns c =
    c.in_ok-post_to_group.ensures
    ∙ ap (λ l. c.args.outs.now.items ++ l) (posted_are (message.Dump (record { session = c.args.self.now.served.session; region = c.args.self.now.region })) (group_of c.args.self.now.geometry c.args.self.now.region))
