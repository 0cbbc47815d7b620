use Rattle.std.proofs.Common.{◌≡◌, ◌∙◌, sym, subst, arith}
use Rattle.serving_client.specs.Keeping.{IsHeadless, IsKept}
use Rattle.serving_client.proofs.Rooms.{headless_joined, kept_joined, none_waits, some_wait}
use Rattle.serving_client.proofs.requests.enter.Goals as goal

pub returns-then-not-empty-clause-kept : goal.returns-then-not-empty-clause-kept
returns-then-not-empty-clause-kept c =
    subst (λ n. IsKept (record c.args.core.now { line = c.join.new.self; newest = n })) (sym c.event-core.ensures)
    (kept_joined c.args.core.now c.args.taken c.requires.kept.lined c.requires.later c.requires.low c.requires.place c.join.new.self c.in_ok-join.ensures.joined (some_wait c.args.core.now.line c.if-not-empty.ensures)
    c.requires.kept.headed)

pub leave-requires : goal.leave-requires
leave-requires c =
    subst (λ n. IsHeadless (record c.args.core.now { line = c.join.new.self; newest = n })) (sym c.event-core.ensures)
    (headless_joined c.args.core.now c.args.taken c.requires.kept.lined c.requires.later c.requires.low c.requires.place c.join.new.self c.in_ok-join.ensures.joined (none_waits c.args.core.now.line c.if-not-empty.ensures)
    c.requires.kept.headed)
