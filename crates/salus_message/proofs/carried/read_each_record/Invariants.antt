use Rattle.std.proofs.Common.{◌≡◌, ◌-◌}
use Rattle.salus_codec.specs.Formats.{times}
use Rattle.salus_codec.proofs.Stepwise.{with_front}
use Rattle.client_tag.specs.Reading.{record_at}
use Rattle.salus_message.proofs.carried.read_each_record.Given as goal

abbrev pub invariant-each : goal.invariant-each
invariant-each l = with_front l.records (times record_at (l.count - l.counter) l.fields) ≡ times record_at l.count l.fn.fields
