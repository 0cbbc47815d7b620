use Rattle.std.proofs.Common.{◌≡◌, ◌∙◌, ◌+◌, ◌<◌, ◌≤◌, ℕ, true, false, sym, arith, rules}
use Rattle.salus_types.specs.declared.names.NodeName.{NodeName}
use Rattle.volume_restart.specs.Answers.{has_said}
use Rattle.volume_restart.proofs.Tables.{all-range, none-range}
use Rattle.volume_restart.proofs.answers.Answers.group_said.Goals as goal

pub returns-then-not-has_said : goal.returns-then-not-has_said
returns-then-not-has_said c =
    let t = c.args.self.now in
    let name : ℕ → NodeName = λ r. record { region = c.args.region; replica = r } in
    let no_answer : c.has_said.result ≡ false = search rules in
    let bad : has_said t (name c.replicas.replica) ≡ false = sym c.has_said.ensures ∙ no_answer in
    let shape : t.shape.replicas ≡ c.self.inside.geometry.replicas = rw (← c.self.view_is) (search rules) in
    let within : c.replicas.replica < 0 + t.shape.replicas = omega (arith, c.replicas-test.true, c.replicas-replica-end.ensures.value, shape) in
    sym (none-range (λ n. has_said t n) name 0 t.shape.replicas c.replicas.replica (omega arith) within bad)

pub returns : goal.returns
returns c =
    let t = c.args.self.now in
    let name : ℕ → NodeName = λ r. record { region = c.args.region; replica = r } in
    let shape : t.shape.replicas ≡ c.self.inside.geometry.replicas = rw (← c.self.view_is) (search rules) in
    let all : t.shape.replicas ≤ c.replicas.replica = omega (arith, c.replicas-test.false, c.replicas-replica-end.ensures.value, shape) in
    sym (all-range (λ n. has_said t n) name 0 t.shape.replicas (λ r le lt. c.replicas.invariant r (omega (arith, lt, all))))
