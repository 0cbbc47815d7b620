use Rattle.std.proofs.lemmas.List.{drop-replicate}
use Rattle.salus_hash.proofs.keyed_hash.padded.Goals as goal

pub returns : goal.returns
returns c = rw (c.copy_from_slice.ensures.after, drop-replicate)
