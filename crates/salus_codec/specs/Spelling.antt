-- How a number is spelled: in a fixed number of bytes, the highest first.
use Rattle.std.specs.Prelude.{ℕ, ◌<◌, List, get_or}
use Rattle.byteorder.specs.Endian.{big_bytes}

-- one byte
unfoldable pub be1 : ℕ → List ℕ
be1 x = big_bytes 1 x

-- two bytes
unfoldable pub be2 : ℕ → List ℕ
be2 x = big_bytes 2 x

-- four bytes
unfoldable pub be4 : ℕ → List ℕ
be4 x = big_bytes 4 x

-- eight bytes
unfoldable pub be8 : ℕ → List ℕ
be8 x = big_bytes 8 x

-- each is a byte
abbrev pub IsBytes : List ℕ → Type 0
IsBytes bytes = (i : ℕ) → get_or bytes i 0 < 256
