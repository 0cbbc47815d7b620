-- A message on its way: to whom it goes, and its bytes.
use Rattle.std.specs.Prelude.{ℕ, List}
use Rattle.salus_types.specs.declared.names.Sender.{Sender}
use Rattle.salus_types.specs.declared.records.Out.{Out}
use Rattle.salus_message.specs.declared.wire.Message.{Message}
use Rattle.salus_message.specs.Spelling.{message_bytes}

abbrev pub bytes_to : List ℕ → Sender → Out
bytes_to bytes to = record { to = to; bytes = bytes }

-- that message, in its one spelling
abbrev pub out_to : Sender → Message → Out
out_to to m = bytes_to (message_bytes m) to
