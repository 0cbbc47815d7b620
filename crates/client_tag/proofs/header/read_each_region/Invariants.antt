use Rattle.std.proofs.Common.{◌≡◌, ◌-◌}
use Rattle.salus_codec.specs.Reading.{u16_at}
use Rattle.salus_codec.specs.Formats.{times}
use Rattle.salus_codec.proofs.Stepwise.{with_front}
use Rattle.client_tag.proofs.header.read_each_region.Given as goal

abbrev pub invariant-each : goal.invariant-each
invariant-each l = with_front l.regions (times u16_at (l.count - l.counter) l.fields) ≡ times u16_at l.count l.fn.fields
