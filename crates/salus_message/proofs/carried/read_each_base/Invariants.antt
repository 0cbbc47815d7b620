use Rattle.std.proofs.Common.{◌≡◌, ◌-◌}
use Rattle.salus_codec.specs.Formats.{times}
use Rattle.salus_codec.proofs.Stepwise.{with_front}
use Rattle.client_tag.specs.Reading.{base_at}
use Rattle.salus_message.proofs.carried.read_each_base.Given as goal

abbrev pub invariant-each : goal.invariant-each
invariant-each l = with_front l.bases (times base_at (l.count - l.counter) l.fields) ≡ times base_at l.count l.fn.fields
