-- What the lines of a text are, the words of a line, and the words of each kind: numbers, hexadecimal, blocks.
use Rattle.std.specs.Prelude.{◌≡◌, ◌≢◌, ℕ, ◌+◌, ◌*◌, ◌^◌, ◌<◌, ◌≤◌, ◌⊎◌, Bool, false, ◌==◌, if◌then◌else◌, List, [], ◌∷◌, ◌++◌, length, replicate, codes, decimal, flat_map}
use Rattle.std.specs.List.{AllByRecursion, join_with_byte}

-- ---- lines and words

-- the byte is nowhere in these
abbrev pub Lacks : ℕ → List ℕ → Type 0
Lacks b bytes = AllByRecursion (λ c. c ≢ b) bytes

-- the text's last byte is a line end
abbrev pub ends_line : List ℕ → Bool
ends_line [] = false
ends_line (b ∷ []) = b == 10
ends_line (b ∷ c ∷ bytes) = ends_line (c ∷ bytes)

-- the text with the end of its last line, which may be left out
abbrev pub completed : List ℕ → List ℕ
completed text = if ends_line text then text else text ++ 10 ∷ []

-- a line with its end
abbrev pub ended : List ℕ → List ℕ
ended line = line ++ 10 ∷ []

-- no line has a line end in it, and the text is the lines, each with its end
pub record IsLines (text : List ℕ) (lines : List (List ℕ)) : Type 0 where
  pub each : AllByRecursion (Lacks 10) lines
  pub joined : flat_map ended lines ≡ completed text

-- no word has a space in it, and the line is the words with one space between each two
pub record IsWords (line : List ℕ) (words : List (List ℕ)) : Type 0 where
  pub each : AllByRecursion (Lacks 32) words
  pub joined : join_with_byte 32 words ≡ line

-- ---- words of each kind

-- the decimal number n, below 2 ^ 64
pub record IsNumber (word : List ℕ) (n : ℕ) : Type 0 where
  pub spelled : word ≡ decimal n
  pub fits : n < 2 ^ 64

-- the digits from `0` on are 48 + x, those from `a` on 87 + x, those from `A` on 55 + x
abbrev pub IsHexDigit : ℕ → ℕ → Type 0
IsHexDigit c x = ((x < 10) × (c ≡ 48 + x)) ⊎ ((10 ≤ x) × (x < 16) × ((c ≡ 87 + x) ⊎ (c ≡ 55 + x)))

-- the two digits are the byte in base 16
pub record IsPair (first second b : ℕ) : Type 0 where
  pub high : ℕ
  pub low : ℕ
  pub is_high : IsHexDigit first high
  pub is_low : IsHexDigit second low
  pub value : b ≡ high * 16 + low

-- pairs of digits, one for each byte
abbrev pub IsPairs : List ℕ → List ℕ → Type 0
IsPairs [] [] = Unit {0}
IsPairs [] (b ∷ bytes) = ⊥
IsPairs (first ∷ []) bytes = ⊥
IsPairs (first ∷ second ∷ word) [] = ⊥
IsPairs (first ∷ second ∷ word) (b ∷ bytes) = IsPair first second b × IsPairs word bytes

-- one pair and no more
pub record IsByte (word : List ℕ) (b : ℕ) : Type 0 where
  pub first : ℕ
  pub second : ℕ
  pub spelled : word ≡ first ∷ second ∷ []
  pub pair : IsPair first second b

-- one or more pairs
pub record IsHex (word bytes : List ℕ) : Type 0 where
  pub some : 0 < length bytes
  pub pairs : IsPairs word bytes

-- a star and one pair, for a block of that byte throughout
pub record IsFill (size : ℕ) (word bytes : List ℕ) : Type 0 where
  pub first : ℕ
  pub second : ℕ
  pub b : ℕ
  pub spelled : word ≡ 42 ∷ first ∷ second ∷ []
  pub pair : IsPair first second b
  pub throughout : bytes ≡ replicate size b

-- the hex of a block's bytes, all of them
pub record IsWholeBlock (size : ℕ) (word bytes : List ℕ) : Type 0 where
  pub hex : IsHex word bytes
  pub whole : length bytes ≡ size

-- a block of that size
abbrev pub IsBlock : ℕ → List ℕ → List ℕ → Type 0
IsBlock size word bytes = IsWholeBlock size word bytes ⊎ IsFill size word bytes

-- a dash, for no bytes
pub record IsDash (word bytes : List ℕ) : Type 0 where
  pub spelled : word ≡ codes "-"
  pub empty : bytes ≡ []

-- the bytes of a lie
abbrev pub IsLieBytes : List ℕ → List ℕ → Type 0
IsLieBytes word bytes = IsHex word bytes ⊎ IsDash word bytes

-- the hex of a key, at most 64 bytes
abbrev pub IsKey : List ℕ → List ℕ → Type 0
IsKey word key = IsHex word key × (length key ≤ 64)
