use Rattle.client_rules.specs.Rules.{new_client}
use Rattle.client_premises.proofs.Along.{lines_apart, steps_apart}
use Rattle.law_apart.proofs.Along.{runs_apart, lines_exact}
use Rattle.law_apart.proofs.runs_are_apart.Goals as goal

pub returns : goal.returns
returns c = record {
  apart = runs_apart;
  due = lines_exact;
  steps = λ volume events posts trace limits unasked follows none behind.
      steps_apart volume posts (new_client volume.geometry) 0 trace behind (runs_apart volume events posts trace limits unasked follows none);
  lines = λ volume events posts trace ls limits unasked follows none behind.
      lines_apart volume posts (new_client volume.geometry) trace ls behind (runs_apart volume events posts trace limits unasked follows none);
}
