use Rattle.law_records.proofs.Numbers.{number_as}
use Rattle.law_records.proofs.Leaders.{leader_as}
use Rattle.law_records.proofs.Own.{part_is, part-seq}
use Rattle.law_records.proofs.Recovered.{sized_of}
use Rattle.law_records.proofs.Choosing.{is_choice, is_found}
use Rattle.law_records.proofs.records_are_as_abstract.Goals as goal

pub returns : goal.returns
returns c = record {
  parts = λ shape key known g rec can part. (part_is shape key known g (sized_of shape known can) rec part, part-seq shape key known g rec part);
  numbers = λ shape known s g can inside above within. number_as shape known (sized_of shape known can) g inside s above within;
  leaders = λ shape known i within. leader_as shape known.list i within;
  choice = λ volume events judge news e w all told same sound h choice. is_choice volume events judge news e told w all same sound h choice;
  found = λ volume events judge news e w all told same sound f s some is. is_found volume events judge news e told w all same sound f s some is;
}
