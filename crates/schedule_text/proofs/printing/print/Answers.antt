use Rattle.std.proofs.Common.{rules}
use Rattle.schedule_text.specs.Printing.{printed}
use Rattle.schedule_text.proofs.Printed.{text-means}
use Rattle.schedule_text.proofs.printing.print.Goals as goal

pub returns-clause-means : goal.returns-clause-means
unfolding printed
returns-clause-means c = text-means c.args.schedule.now c.put_events.new.out.items (search rules) c.requires
