use Rattle.std.proofs.Common.{◌≡◌, ℕ, filter, nat_lt, length, ap, ◌∙◌, rules, arith}
use Rattle.std.proofs.lemmas.Fn.{filter_same}
use Rattle.std.proofs.lemmas.List.{take_at}
use Rattle.salus_io.specs.Faults.{after_call}
use Rattle.salus_io.proofs.memory.falls_due.Goals as goal

pub returns-clause-later : goal.returns-clause-later
returns-clause-later c =
    let calls = c.count_down.new.failing in
    let same : length calls ≡ c.args.failing.now.len = omega (arith, c.args.failing.now.ok.0) in
    filter_same _ (λ (call : ℕ). nat_lt 0 call) _ (λ x b f' t. search rules) _ _ c.retain.ensures.filtered
    ∙ ap (filter (λ (call : ℕ). nat_lt 0 call)) (take_at calls _ _ same ∙ c.count_down.ensures)
    ∙ ap after_call c.deref_mut.ensures.value
