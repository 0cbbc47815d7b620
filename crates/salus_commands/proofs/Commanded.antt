-- A replay alone is refused, and only where its text is.
use Rattle.std.proofs.Common.{ℕ, List, Option}
use Rattle.salus_commands.specs.declared.report.Report.{Report}
use Rattle.salus_commands.specs.declared.words.Command.{Command}
use Rattle.salus_commands.specs.declared.words.Command.TheVariants as command
use Rattle.salus_commands.specs.Statuses.{HasRefused, WroteRefusal}
use Rattle.salus_commands.specs.Doing.{HasDone, HasInput, IsReplay}
use Rattle.salus_commands.proofs.Complete.{never_refused, never_ran}

pub never_refuses : (c : Command) (old new held_old held_new : Option (List ℕ)) → HasInput c old → IsReplay c → WroteRefusal old new held_old held_new → ⊥
never_refuses command.Replay old new held_old held_new has is wrote = never_refused old new held_old held_new has wrote
never_refuses (command.Generate seed rounds) old new held_old held_new has is wrote = is
never_refuses (command.Trial seed rounds) old new held_old held_new has is wrote = is

pub never_done : (c : Command) (old new : Option (List ℕ)) (report : Report) (held_old held_new : Option (List ℕ)) → IsReplay c → HasRefused old → HasDone c old new report held_old held_new → ⊥
never_done command.Replay old new report held_old held_new is has done = never_ran old report has done.ran
never_done (command.Generate seed rounds) old new report held_old held_new is has done = is
never_done (command.Trial seed rounds) old new report held_old held_new is has done = is
