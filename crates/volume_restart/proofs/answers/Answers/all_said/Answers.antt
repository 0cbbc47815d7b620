use Rattle.std.proofs.Common.{◌≡◌, ◌∙◌, ◌+◌, ◌<◌, ◌≤◌, false, sym, arith, rules}
use Rattle.std.specs.List.{list_all}
use Rattle.salus_types.specs.Volume.{regions}
use Rattle.volume_model.specs.Groups.{group_of}
use Rattle.volume_restart.specs.Answers.{has_said}
use Rattle.volume_restart.proofs.Tables.{all-groups, none-groups}
use Rattle.volume_restart.proofs.answers.Answers.all_said.Goals as goal

pub returns-then-not-group_said : goal.returns-then-not-group_said
returns-then-not-group_said c =
    let t = c.args.self.now in
    let no_answer : c.group_said.result ≡ false = search rules in
    let bad : list_all (λ n. has_said t n) (group_of t.shape c.regions.region) ≡ false = sym c.group_said.ensures ∙ no_answer in
    let shape : regions t.shape ≡ regions c.self.inside.geometry = rw (← c.self.view_is) (search rules) in
    let within : c.regions.region < 0 + regions t.shape = omega (arith, c.regions-test.true, c.regions-region-end.ensures.value, shape) in
    sym (none-groups (λ n. has_said t n) (λ g. group_of t.shape g) 0 (regions t.shape) c.regions.region (omega arith) within bad)

pub returns : goal.returns
returns c =
    let t = c.args.self.now in
    let shape : regions t.shape ≡ regions c.self.inside.geometry = rw (← c.self.view_is) (search rules) in
    let all : regions t.shape ≤ c.regions.region = omega (arith, c.regions-test.false, c.regions-region-end.ensures.value, shape) in
    sym (all-groups (λ n. has_said t n) (λ g. group_of t.shape g) 0 (regions t.shape) (λ g le lt. c.regions.invariant g (omega (arith, lt, all))))
