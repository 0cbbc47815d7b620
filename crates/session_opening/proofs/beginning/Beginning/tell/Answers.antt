use Rattle.std.proofs.Common.{◌∙◌, ◌++◌, List, map, sym, ap}
use Rattle.std.specs.Prelude.{filter}
use Rattle.salus_types.specs.declared.records.Record.{Record}
use Rattle.posting.specs.Letters.{out_of_letter}
use Rattle.volume_restart.specs.Restarting.{shape_of}
use Rattle.session_opening.specs.Answered.{is_waited_for}
use Rattle.session_opening.specs.Basing.{all_letters}
use Rattle.session_opening.proofs.Beginnings.{bases_again, no_gathering, not_done, switch_again}
use Rattle.session_opening.proofs.beginning.Beginning.tell.Goals as goal

pub returns-in_ok-post_bases-in-Staging : goal.returns-in_ok-post_bases-in-Staging
returns-in_ok-post_bases-in-Staging c = λ client at.
    let kept = c.args.self.now in
    bases_again kept c.requires _ _ client at (sym c.phase.ensures ∙ c.in-Staging.is)
    (c.in_ok-post_bases-in-Staging.ensures
    ∙ ap (λ (rs : List Record). c.args.outs.now.items ++ map out_of_letter (filter (λ l. is_waited_for kept.progress l.to) (all_letters (shape_of kept.progress) kept.carried rs))) c.as_slice-records.ensures)

pub returns-in_ok-tell_to_switch-in-Switching : goal.returns-in_ok-tell_to_switch-in-Switching
returns-in_ok-tell_to_switch-in-Switching c = λ client at. switch_again c.args.self.now c.requires _ _ client at (sym c.phase.ensures ∙ c.in-Switching.is) c.in_ok-tell_to_switch-in-Switching.ensures

pub returns-in-Gathering : goal.returns-in-Gathering
returns-in-Gathering c = λ client at. absurd (no_gathering c.args.self.now c.requires c.args.outs.now.items c.args.outs.now.items client at (sym c.phase.ensures ∙ c.in-Gathering.is))

pub returns-in-Done : goal.returns-in-Done
returns-in-Done c = λ client at. absurd (not_done c.args.self.now c.requires c.args.outs.now.items c.args.outs.now.items client at (sym c.phase.ensures ∙ c.in-Done.is))
