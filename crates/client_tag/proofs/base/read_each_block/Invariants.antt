use Rattle.std.proofs.Common.{◌≡◌, ◌-◌}
use Rattle.salus_codec.specs.Reading.{bytes_at}
use Rattle.salus_codec.specs.Formats.{times}
use Rattle.salus_codec.proofs.Stepwise.{with_front}
use Rattle.client_tag.proofs.base.read_each_block.Given as goal

abbrev pub invariant-each : goal.invariant-each
invariant-each l = with_front l.blocks (times (bytes_at l.size) (l.count - l.counter) l.fields) ≡ times (bytes_at l.size) l.count l.fn.fields
