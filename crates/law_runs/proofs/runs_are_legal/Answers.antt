use Rattle.law_shown.proofs.Along.{nodes_show}
use Rattle.law_runs.proofs.Seams.{lines_are_legal}
use Rattle.law_runs.proofs.runs_are_legal.Goals as goal

pub returns : goal.returns
returns c = record {
  seams = lines_are_legal;
  nodes = λ volume events posts trace limits follows none unforged bytes addressed rules tags.
      lines_are_legal volume events posts trace limits follows none unforged (nodes_show volume events posts trace limits.volume follows bytes addressed rules) tags;
}
