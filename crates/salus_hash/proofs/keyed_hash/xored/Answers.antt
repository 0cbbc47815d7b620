use Rattle.std.proofs.Common.{◌<◌, length, bit_xor, arith, rules}
use Rattle.std.proofs.lemmas.List.{get_or_default}
use Rattle.std.proofs.lemmas.List.Edits.{map_over_more}
use Rattle.salus_hash.proofs.keyed_hash.xored.Goals as goal

pub bytes-preserved : goal.bytes-preserved
bytes-preserved c =
    let inside : c.bytes.byte-index < length c.bytes.byte-items = omega arith in (
      search rules,
      map_over_more (λ b. bit_xor b c.args.pad) c.args.block.now c.bytes.byte-items c.bytes.byte-index _ (omega arith) c.bytes.invariant.1 (get_or_default c.bytes.byte-items c.bytes.byte-index 0 _ inside),
    )
