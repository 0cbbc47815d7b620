use Rattle.law_history.proofs.Continued.{legal}
use Rattle.law_history.proofs.Steps.{steps_of_all}
use Rattle.law_history.proofs.Concluded.{concluded}
use Rattle.law_history.proofs.lines_are_legal.Goals as goal

pub returns : goal.returns
returns c = record {
  law = λ volume events posts trace limits follows none tagged. (legal volume events posts trace limits.rising follows (steps_of_all volume events posts trace none) tagged).0;
  whole = λ volume events posts trace limits follows none unforged shows tags.
      concluded volume events posts trace limits.rising follows (steps_of_all volume events posts trace none) unforged shows tags;
  recovers = λ volume events posts trace limits follows none tagged. (legal volume events posts trace limits.rising follows (steps_of_all volume events posts trace none) tagged).1;
  keeps = λ volume events posts trace limits follows none tagged.
      (legal volume events posts trace limits.rising follows (steps_of_all volume events posts trace none) tagged).2;
}
