use Rattle.std.proofs.Common.{◌∙◌}
use Rattle.client_rules.specs.Tables.{closed_at}
use Rattle.open_reads.proofs.Kept.{keeps_same, keeps_on, keeps_closed}
use Rattle.open_reads.proofs.Told.{ends_faulted}
use Rattle.open_reads.proofs.ending.end_faulted.Goals as goal

pub returns-clause-ended : goal.returns-clause-ended
returns-clause-ended c =
    ends_faulted c.args.question.now (record { event = c.question.inside.event; number = c.question.inside.number; block = c.question.inside.block })
    c.args.reads.now.asked c.close.new.self.asked c.args.lines.now.items c.push.new.self.items c.in-Some.strikes.now c.in_ok-strikes-in-Some.strikes
    c.question.view_is (c.in_ok-strikes-in-Some.ensures ∙ c.as_slice.ensures) c.in-Some.ensures.strikes c.close.ensures.asked c.in_ok-push.ensures.items

pub returns-clause-keeps : goal.returns-clause-keeps
returns-clause-keeps c =
    keeps_on c.args.reads.now.asked (closed_at c.question.inside.number c.args.reads.now.asked) c.close.new.self.asked (keeps_closed c.question.inside.number c.args.reads.now.asked)
    (keeps_same (closed_at c.question.inside.number c.args.reads.now.asked) c.close.new.self.asked c.close.ensures.asked)
