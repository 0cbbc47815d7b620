use Rattle.std.proofs.Common.{◌≡◌, ◌++◌}
use Rattle.salus_world.specs.Growing.{new_messages}
use Rattle.salus_world.proofs.mail.post.Given as goal

abbrev pub invariant-outs : goal.invariant-outs
invariant-outs l = l.sent.items ≡ l.fn.sent.items ++ new_messages l.geometry l.from l.yielded
