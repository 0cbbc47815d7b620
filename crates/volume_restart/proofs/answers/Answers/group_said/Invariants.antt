use Rattle.std.proofs.Common.{◌≡◌, ℕ, ◌<◌, true}
use Rattle.volume_restart.specs.Answers.{has_said}
use Rattle.volume_restart.proofs.answers.Answers.group_said.Given as goal

abbrev pub invariant-replicas : goal.invariant-replicas
invariant-replicas l = (r : ℕ) → r < l.replica → has_said l.self (record { region = l.region; replica = r }) ≡ true
