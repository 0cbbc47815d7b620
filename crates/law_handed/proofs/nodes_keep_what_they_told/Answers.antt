use Rattle.law_handed.proofs.Standing.{told_stands}
use Rattle.law_handed.proofs.Granted.{messages_licensed, messages_backed_anyhow}
use Rattle.law_handed.proofs.FirstHeld.{formatted_begins}
use Rattle.law_handed.proofs.nodes_keep_what_they_told.Goals as goal

pub returns : goal.returns
returns c = record {
  stands = told_stands;
  licensed = λ shape posts name first steps right formatted begun what failed. messages_licensed shape posts name first steps right begun.parts formatted what failed begun.bases;
  formatted = formatted_begins;
  backed = λ shape posts name first steps right none formatted what failed. messages_backed_anyhow shape posts name first steps right none formatted what failed;
}
