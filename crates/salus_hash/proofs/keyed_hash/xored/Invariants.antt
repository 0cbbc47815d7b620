use Rattle.std.proofs.Common.{◌≡◌, ◌++◌, length, map, take, drop, bit_xor}
use Rattle.salus_hash.proofs.keyed_hash.xored.Given as goal

-- the bytes so far are xored, the others are as they were
abbrev pub invariant-bytes : goal.invariant-bytes
invariant-bytes l = (length l.byte-items ≡ 64)
    × (l.byte-items ≡ map (λ b. bit_xor b l.pad) (take l.byte-index l.block) ++ drop l.byte-index l.block)
