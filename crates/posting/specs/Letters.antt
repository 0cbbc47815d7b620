-- What a client sends by its rules, as it is posted.
use Rattle.salus_types.specs.declared.names.Sender.TheVariants as sender
use Rattle.salus_types.specs.declared.records.Out.{Out}
use Rattle.client_rules.specs.State.{Letter}
use Rattle.posting.specs.Posting.{out_to}

abbrev pub out_of_letter : Letter → Out
out_of_letter letter = out_to (sender.Node letter.to) letter.message
