use Rattle.std.proofs.Common.{◌≡◌, ◌-◌}
use Rattle.salus_codec.specs.Formats.{times}
use Rattle.salus_codec.proofs.Stepwise.{with_front}
use Rattle.salus_codec.specs.Reading.{bytes_at}
use Rattle.salus_message.proofs.replies.read_each_digest.Given as goal

abbrev pub invariant-each : goal.invariant-each
invariant-each l = with_front l.path (times (bytes_at 32) (l.count - l.counter) l.fields) ≡ times (bytes_at 32) l.count l.fn.fields
