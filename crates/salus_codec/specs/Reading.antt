-- Reading from left to right: a field at the front of the bytes is its value and the bytes after it, or the fault.
use Rattle.std.specs.Prelude.{ℕ, List, length, take, drop, Option, None, Some, Result, Ok, Err, nat_lt, if◌then◌else◌}
use Rattle.byteorder.specs.Endian.{big_number}
use Rattle.salus_codec.specs.declared.errors.FieldError.{FieldError}
use Rattle.salus_codec.specs.declared.errors.FieldError.TheVariants as error

-- a value and the bytes after it, or the first fault
abbrev pub Field : Type 0 → Type 0
Field A = Result (A × List ℕ) FieldError

-- the fields after those that were read; a fault ends the reading
infixl 10 ◌>>=◌
abbrev pub ◌>>=◌ : {A B : Type 0} → Result A FieldError → (A → Result B FieldError) → Result B FieldError
(Ok x) >>= f = f x
(Err e) >>= f = Err e

-- so many bytes, whatever they are
unfoldable pub bytes_at : ℕ → List ℕ → Field (List ℕ)
bytes_at count bytes = if nat_lt (length bytes) count then Err error.Short else Ok (take count bytes, drop count bytes)

-- so many bytes as a number, the highest first
abbrev pub number_at : ℕ → List ℕ → Field ℕ
number_at width bytes = bytes_at width bytes >>= λ x. Ok (big_number width x.0, x.1)

unfoldable pub u8_at : List ℕ → Field ℕ
u8_at bytes = number_at 1 bytes

unfoldable pub u16_at : List ℕ → Field ℕ
u16_at bytes = number_at 2 bytes

unfoldable pub u32_at : List ℕ → Field ℕ
u32_at bytes = number_at 4 bytes

unfoldable pub u64_at : List ℕ → Field ℕ
u64_at bytes = number_at 8 bytes

-- the fault that reading ends with where a reader of the code answers this error; want of memory is none
abbrev pub field_fault : {Y : Type 0} → FieldError → Option (Result Y FieldError)
field_fault error.Short = Some (Err error.Short)
field_fault error.Count = Some (Err error.Count)
field_fault error.NoMemory = None
