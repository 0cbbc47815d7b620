use Rattle.law_phases.proofs.Countable.{lines_countable, start_countable}
use Rattle.law_phases.proofs.Keeping.{opened_as, choice_kept, never_lost}
use Rattle.law_phases.proofs.Whole.{step_moved}
use Rattle.law_phases.proofs.Rooms.{told_roomy, new_roomy}
use Rattle.law_phases.proofs.Going.{client_on}
use Rattle.law_phases.proofs.Letters.{told_tell, ticked_tell}
use Rattle.law_phases.proofs.Counts.{counts_then, fresh_then}
use Rattle.law_phases.proofs.client_steps_are_abstract.Goals as goal

pub returns : goal.returns
returns c = record {
  moves = λ volume events history step news w limits before. step_moved volume events limits limits.volume.small_groups.0 history step w before.countable news before;
  keeps = λ volume events history v news w limits before fronts. λ e h at all is.
      choice_kept volume events limits.volume.small_groups.0 history v news w before e at (opened_as volume events history v news w before e at) all fronts h is;
  never_lost = λ volume events history v news w e limits before at all.
      never_lost volume events limits.volume.small_groups.0 history v news w before e at (opened_as volume events history v news w before e at) all;
  begins = λ volume events limits. start_countable volume events limits;
  goes_on = λ volume events lines judge limits legal all. lines_countable volume events limits lines judge legal all;
  onward = λ volume events history p c d before after at legal many more. client_on volume.geometry events history p c d before after at legal many more;
  first = λ shape. new_roomy shape;
  counting = λ shape events history p r ordered stays. (counts_then shape events history p ordered r stays, fresh_then shape events history p ordered r stays);
  letters = λ volume c v news keeps. (told_tell volume c v news keeps, ticked_tell volume c keeps);
  room = λ volume c v news roomy. told_roomy volume c v news roomy;
}
