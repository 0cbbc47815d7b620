use Rattle.std.proofs.Common.{◌≡◌, get_or, arith}
use Rattle.byteorder.specs.Endian.{big_number}
use Rattle.salus_codec.proofs.OneSpelling.{again_1}
use Rattle.salus_codec.proofs.reader.Fields.u8.Goals as goal

pub returns-clause-again : goal.returns-clause-again
returns-clause-again c =
    let number : get_or c.in_ok-head.head.now 0 0 ≡ big_number 1 c.in_ok-head.head.now = omega arith in
    λ n after. again_1 c.in_ok-head.head.now c.bytes.new.self after c.args.self.now (get_or c.in_ok-head.head.now 0 0) n c.in_ok-head.ensures.len number c.in_ok-head.ensures.ok
