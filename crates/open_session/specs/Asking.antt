-- What a session tells a client that asks for the region's blocks.
use Rattle.std.specs.Prelude.{ℕ}
use Rattle.salus_types.specs.declared.names.Sender.TheVariants as sender
use Rattle.salus_types.specs.declared.records.Out.{Out}
use Rattle.salus_message.specs.declared.wire.Message.TheVariants as message
use Rattle.replica_rules.specs.Views.{View}
use Rattle.posting.specs.Posting.{out_to}

abbrev pub dump_out : ℕ → ℕ → View → Out
dump_out e g view = out_to sender.Client (message.Dumped (record { session = e; region = g; at = view.number; blocks = view.blocks }))
