use Rattle.salus_codec.proofs.OneSpelling.{same_bytes_4}
use Rattle.salus_codec.proofs.reader.number_4.Goals as goal

pub returns-clause-same : goal.returns-clause-same
returns-clause-same c = same_bytes_4 c.args.bytes.now c.read_u32.result c.requires (λ i. (c.type_inv.bytes i).fits) c.read_u32.ensures
