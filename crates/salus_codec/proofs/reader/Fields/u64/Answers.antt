use Rattle.salus_codec.proofs.OneSpelling.{again_8}
use Rattle.salus_codec.proofs.reader.Fields.u64.Goals as goal

pub returns-clause-again : goal.returns-clause-again
returns-clause-again c = λ n after. again_8 c.in_ok-head.head.now c.bytes.new.self after c.args.self.now c.number_8.result n c.in_ok-head.ensures.len c.number_8.ensures.number c.in_ok-head.ensures.ok
