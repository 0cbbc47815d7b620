use Rattle.client_rules.specs.Rules.{new_client}
use Rattle.client_premises.proofs.Along.{lines_apart, steps_apart}
use Rattle.law_gathered.proofs.Along.{all_apart, all_due}
use Rattle.law_gathered.proofs.every_run_is_apart.Goals as goal

pub returns : goal.returns
returns c = record {
  apart = all_apart;
  steps = λ volume events posts trace limits follows none unforged nodes behind.
      steps_apart volume posts (new_client volume.geometry) 0 trace behind (all_apart volume events posts trace limits follows none unforged nodes behind);
  lines = λ volume events posts trace ls limits follows none unforged nodes behind lines.
      lines_apart volume posts (new_client volume.geometry) trace ls lines (all_apart volume events posts trace limits follows none unforged nodes behind);
  due = all_due;
}
