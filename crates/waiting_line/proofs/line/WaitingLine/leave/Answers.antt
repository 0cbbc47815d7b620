use Rattle.std.proofs.Common.{◌∙◌, refl, sym}
use Rattle.waiting_line.proofs.Leaving.{held-left, held-line, free-left, free-line, free-head}
use Rattle.waiting_line.proofs.line.WaitingLine.leave.Goals as goal

pub returns-then-is_held_up-clause-left : goal.returns-then-is_held_up-clause-left
returns-then-is_held_up-clause-left c = (held-left c.args.self.now (sym c.is_held_up.ensures ∙ c.if-is_held_up.true), refl)

pub returns-then-is_held_up-clause-head : goal.returns-then-is_held_up-clause-head
returns-then-is_held_up-clause-head c = held-line c.args.self.now (sym c.is_held_up.ensures ∙ c.if-is_held_up.true)

pub returns-clause-left : goal.returns-clause-left
returns-clause-left c =
    free-left c.self.inside.requests.items c.args.self.now c.pop_front.new.self.items c.pop_front.result c.self.view_is (c.pop_front.ensures.items, c.pop_front.ensures.rest)
    (sym c.is_held_up.ensures ∙ c.if-is_held_up.false)

pub returns-clause-line : goal.returns-clause-line
returns-clause-line c =
    free-line c.self.inside.requests.items c.args.self.now c.pop_front.new.self.items c.pop_front.result c.self.view_is (c.pop_front.ensures.items, c.pop_front.ensures.rest)
    (sym c.is_held_up.ensures ∙ c.if-is_held_up.false)

pub returns-clause-head : goal.returns-clause-head
returns-clause-head c = free-head c.self.inside.requests.items c.pop_front.new.self.items c.pop_front.result (c.pop_front.ensures.items, c.pop_front.ensures.rest)
