-- How bytes and blocks are written.
use Rattle.std.specs.Prelude.{ℕ, ◌/◌, ◌%◌, Bool, ◌==◌, ◌&&◌, nat_lt, if◌then◌else◌, List, [], ◌∷◌, length, codes, slice_index}
use Rattle.std.specs.List.{flat_map, list_all}

-- the digit of a value below 16
abbrev pub hex_digit : ℕ → ℕ
hex_digit value = slice_index (codes "0123456789abcdef") value

-- a byte as two digits, the high four bits first
abbrev pub pair_text : ℕ → List ℕ
pair_text byte = hex_digit (byte / 16) ∷ hex_digit (byte % 16) ∷ []

-- bytes as hex in lower case
unfoldable pub hex_text : List ℕ → List ℕ
hex_text bytes = flat_map pair_text bytes

-- there is a byte, and all bytes are equal to the first
abbrev pub is_uniform : List ℕ → Bool
is_uniform bytes = nat_lt 0 (length bytes) && list_all (λ byte. byte == slice_index bytes 0) bytes

-- a block of equal bytes is * and the pair of that byte, any other its hex; an empty one has no text
unfoldable pub block_text : List ℕ → List ℕ
block_text bytes = if is_uniform bytes then 42 ∷ pair_text (slice_index bytes 0) else hex_text bytes
