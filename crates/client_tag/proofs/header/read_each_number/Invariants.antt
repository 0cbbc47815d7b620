use Rattle.std.proofs.Common.{◌≡◌, ◌-◌}
use Rattle.salus_codec.specs.Reading.{u64_at}
use Rattle.salus_codec.specs.Formats.{times}
use Rattle.salus_codec.proofs.Stepwise.{with_front}
use Rattle.client_tag.proofs.header.read_each_number.Given as goal

abbrev pub invariant-each : goal.invariant-each
invariant-each l = with_front l.numbers (times u64_at (l.count - l.counter) l.fields) ≡ times u64_at l.count l.fn.fields
