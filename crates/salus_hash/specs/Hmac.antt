-- HMAC with SHA-256, as RFC 2104, section 2, has it, for keys of at most 64 bytes, which is a block of SHA-256.
use Rattle.std.specs.Prelude.{ℕ, ◌-◌, List, ◌++◌, map, length, replicate, bit_xor}
use Rattle.sha2.specs.Sha256.{sha256}

-- the key with zero bytes up to a block, each byte xor the same one
abbrev pub keyed : ℕ → List ℕ → List ℕ
keyed pad key = map (λ byte. bit_xor byte pad) (key ++ replicate (64 - length key) 0)

-- opad is the byte 5c, ipad the byte 36
unfoldable pub hmac : List ℕ → List ℕ → List ℕ
hmac key text = sha256 (keyed 0x5c key ++ sha256 (keyed 0x36 key ++ text))
