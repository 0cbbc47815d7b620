use Rattle.std.proofs.Common.{◌∙◌, true, sym}
use Rattle.salus_world.specs.Growing.{marks_of}
use Rattle.salus_world.proofs.Mailing.{passed_more, mark_at}
use Rattle.salus_world.proofs.mail.pass_marked.Goals as goal

pub messages-preserved : goal.messages-preserved
messages-preserved c =
    passed_more (marks_of c.args.sent.now.items) c.args.from c.messages.index c.messages.invariant
    (mark_at c.args.sent.now.items c.messages.index c.message_at.result.now true c.message_at.ensures (sym c.is_marked.ensures ∙ c.if-not-is_marked.false))
