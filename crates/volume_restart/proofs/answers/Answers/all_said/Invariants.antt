use Rattle.std.proofs.Common.{◌≡◌, ℕ, ◌<◌, true}
use Rattle.std.specs.List.{list_all}
use Rattle.volume_model.specs.Groups.{group_of}
use Rattle.volume_restart.specs.Answers.{has_said}
use Rattle.volume_restart.proofs.answers.Answers.all_said.Given as goal

abbrev pub invariant-regions : goal.invariant-regions
invariant-regions l = (g : ℕ) → g < l.region → list_all (λ name. has_said l.self name) (group_of l.self.shape g) ≡ true
