use Rattle.law_lines.proofs.Scripted.{lines_follow}
use Rattle.law_lines.proofs.lines_are_as_due.Goals as goal

pub returns : goal.returns
returns c volume events posts trace many small rise follows choices = lines_follow volume events posts trace many small rise follows choices
