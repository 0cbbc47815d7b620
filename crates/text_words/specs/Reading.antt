-- How lines and words are read, from the left: one function for each rule.
use Rattle.std.specs.Prelude.{ℕ, ◌+◌, ◌-◌, ◌*◌, ◌^◌, Bool, true, false, not, ◌==◌, ◌&&◌, nat_eq, nat_lt, nat_le, if◌then◌else◌, List, [], ◌∷◌, ◌++◌, length, drop, replicate, codes, Option, None, Some, is_some, option_and_then}
use Rattle.std.specs.List.{starts_with, slice_split}
use Rattle.std.specs.Str.{bytes_eq}

-- ---- lines and words

-- the bytes before the first such byte, or all where there is none
unfoldable pub front : ℕ → List ℕ → List ℕ
front separator [] = []
front separator (b ∷ bytes) = if b == separator then [] else b ∷ front separator bytes

-- the bytes after the first such byte
unfoldable pub past : ℕ → List ℕ → List ℕ
past separator [] = []
past separator (b ∷ bytes) = if b == separator then bytes else past separator bytes

-- the first line has one more byte
abbrev pub onto_first_line : ℕ → List (List ℕ) → List (List ℕ)
onto_first_line b [] = (b ∷ []) ∷ []
onto_first_line b (line ∷ lines) = (b ∷ line) ∷ lines

-- the lines that a text still has; at its end it has none
unfoldable pub lines_left : List ℕ → List (List ℕ)
lines_left [] = []
lines_left (b ∷ bytes) = if b == 10 then [] ∷ lines_left bytes else onto_first_line b (lines_left bytes)

-- the words of a line: it is cut at each space
unfoldable pub words_of : List ℕ → List (List ℕ)
words_of line = slice_split (λ b. b == 32) line

-- the text begins so
abbrev pub begins : List ℕ → List ℕ → Bool
begins prefix text = starts_with nat_eq text prefix

-- ---- numbers

-- the number with one more digit
abbrev pub with_digit : ℕ → ℕ → Option ℕ
with_digit number digit =
    if nat_lt digit 48 then None
    else if nat_lt 57 digit then None
    else if nat_lt (number * 10 + (digit - 48)) (2 ^ 64) then Some (number * 10 + (digit - 48)) else None

-- the number that goes on with these digits
unfoldable pub with_digits : ℕ → List ℕ → Option ℕ
with_digits number [] = Some number
with_digits number (digit ∷ digits) = option_and_then (λ longer. with_digits longer digits) (with_digit number digit)

-- a zero stands at the front only by itself
abbrev pub starts_number : List ℕ → Bool
starts_number [] = false
starts_number (d ∷ []) = true
starts_number (d ∷ e ∷ digits) = not (d == 48)

-- the number of a decimal word
unfoldable pub number_of : List ℕ → Option ℕ
number_of word = if starts_number word then with_digits 0 word else None

-- ---- bytes

-- a hexadecimal digit of either case
abbrev pub hex_digit : ℕ → Option ℕ
hex_digit c =
    if nat_le 48 c && nat_le c 57 then Some (c - 48)
    else if nat_le 97 c && nat_le c 102 then Some (c - 87)
    else if nat_le 65 c && nat_le c 70 then Some (c - 55)
    else None

-- the byte of two digits
abbrev pub joined_digits : Option ℕ → Option ℕ → Option ℕ
joined_digits None low = None
joined_digits (Some high) None = None
joined_digits (Some high) (Some low) = Some (high * 16 + low)

-- the byte of two hexadecimal digits
unfoldable pub pair_of : ℕ → ℕ → Option ℕ
pair_of high low = joined_digits (hex_digit high) (hex_digit low)

-- what is read is more of these bytes
abbrev pub prefixed : {X : Type 0} → List X → Option (List X) → Option (List X)
prefixed bytes None = None
prefixed bytes (Some more) = Some (bytes ++ more)

-- one more byte in front, if both are there
abbrev pub onto : Option ℕ → Option (List ℕ) → Option (List ℕ)
onto None bytes = None
onto (Some b) bytes = prefixed (b ∷ []) bytes

-- the bytes of pairs of digits
unfoldable pub pairs_of : List ℕ → Option (List ℕ)
pairs_of [] = Some []
pairs_of (high ∷ []) = None
pairs_of (high ∷ low ∷ more) = onto (pair_of high low) (pairs_of more)

-- the bytes of one or more pairs
unfoldable pub hex_of : List ℕ → Option (List ℕ)
hex_of word = if length word == 0 then None else pairs_of word

-- whether the word is one or more pairs
abbrev pub is_hex : List ℕ → Bool
is_hex word = is_some (hex_of word)

-- one pair and no more
abbrev pub byte_of : List ℕ → Option ℕ
byte_of [] = None
byte_of (high ∷ []) = None
byte_of (high ∷ low ∷ []) = pair_of high low
byte_of (high ∷ low ∷ c ∷ more) = None

-- a block of one byte throughout
abbrev pub filled : ℕ → Option ℕ → Option (List ℕ)
filled size None = None
filled size (Some b) = Some (replicate size b)

-- the bytes of a word that is as long as a block
abbrev pub sized : ℕ → List ℕ → Option (List ℕ)
sized size word = if length word == 2 * size then hex_of word else None

-- a block of that many bytes
unfoldable pub block_of : ℕ → List ℕ → Option (List ℕ)
block_of size word = if begins (codes "*") word then filled size (byte_of (drop 1 word)) else sized size word

-- the bytes of a lie
unfoldable pub lie_bytes_of : List ℕ → Option (List ℕ)
lie_bytes_of word = if bytes_eq word (codes "-") then Some [] else hex_of word

-- 1 to 64 bytes
abbrev pub key_of : List ℕ → Option (List ℕ)
key_of word = if nat_le (length word) 128 then hex_of word else None
