-- What a node sends by its rules, as it is posted.
use Rattle.salus_types.specs.declared.records.Out.{Out}
use Rattle.replica_rules.specs.Rules.{Sending}
use Rattle.posting.specs.Posting.{out_to}

abbrev pub out_of_sending : Sending → Out
out_of_sending sending = out_to sending.to sending.message
