-- The messages of a world, with those that are added and the marks at them.
use Rattle.std.specs.Prelude.{Bool, false, ◌||◌, List, map, filter}
use Rattle.salus_types.specs.Volume.{Shape}
use Rattle.salus_types.specs.declared.names.Sender.{Sender}
use Rattle.salus_types.specs.declared.records.Out.{Out}
use Rattle.salus_model.specs.declared.sending.Sent.{Sent}
use Rattle.run_steps.specs.Parties.{is_party}

abbrev pub new_message : Sender → Out → Sent
new_message from out = record { from = from; to = out.to; bytes = out.bytes; delivered = false; dropped = false }

-- those to parties of the volume
abbrev pub new_messages : Shape → Sender → List Out → List Sent
new_messages shape from outs = map (λ out. new_message from out) (filter (λ out. is_party shape out.to) outs)

-- it was handed over, or dropped
abbrev pub mark_of : Sent → Bool
mark_of message = message.delivered || message.dropped

abbrev pub marks_of : List Sent → List Bool
marks_of messages = map (λ message. mark_of message) messages
