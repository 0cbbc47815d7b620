use Rattle.std.proofs.Common.{◌≡◌, ◌≤◌, ◌<◌, ℕ, true, slice_get, Some}
use Rattle.salus_world.specs.Growing.{marks_of}
use Rattle.salus_world.proofs.mail.pass_marked.Given as goal

abbrev pub invariant-messages : goal.invariant-messages
invariant-messages l = (k : ℕ) → l.from ≤ k → k < l.index → slice_get (marks_of l.sent.items) k ≡ Some true
