use Rattle.salus_codec.proofs.OneSpelling.{again_2}
use Rattle.salus_codec.proofs.reader.Fields.u16.Goals as goal

pub returns-clause-again : goal.returns-clause-again
returns-clause-again c = λ n after. again_2 c.in_ok-head.head.now c.bytes.new.self after c.args.self.now c.number_2.result n c.in_ok-head.ensures.len c.number_2.ensures.number c.in_ok-head.ensures.ok
