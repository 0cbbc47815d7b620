use Rattle.salus_codec.proofs.OneSpelling.{same_bytes_8}
use Rattle.salus_codec.proofs.reader.number_8.Goals as goal

pub returns-clause-same : goal.returns-clause-same
returns-clause-same c = same_bytes_8 c.args.bytes.now c.read_u64.result c.requires (λ i. (c.type_inv.bytes i).fits) c.read_u64.ensures
