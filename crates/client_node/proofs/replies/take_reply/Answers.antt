use Rattle.std.proofs.Common.{rules}
use Rattle.client_node.proofs.Away.{IsNoReply}
use Rattle.client_node.proofs.Opened.{goes_as_before, goes_on_itself}
use Rattle.client_node.proofs.replies.take_reply.Goals as goal

pub returns : goal.returns
returns c =
    let none : IsNoReply c.args.message = search rules in
    record { told = λ volume client stands apart. goes_as_before volume c.args.opening c.args.step.now c.args.from c.args.message none client stands; follows = goes_on_itself c.args.opening }
