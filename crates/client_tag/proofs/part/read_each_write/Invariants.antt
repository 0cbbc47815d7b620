use Rattle.std.proofs.Common.{◌≡◌, ◌-◌}
use Rattle.salus_codec.specs.Formats.{times}
use Rattle.salus_codec.proofs.Stepwise.{with_front}
use Rattle.client_tag.specs.Reading.{write_at}
use Rattle.client_tag.proofs.part.read_each_write.Given as goal

abbrev pub invariant-each : goal.invariant-each
invariant-each l = with_front l.writes (times write_at (l.count - l.counter) l.fields) ≡ times write_at l.count l.fn.fields
