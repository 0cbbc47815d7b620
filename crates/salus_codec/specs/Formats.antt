-- Formats put together: a field after another, a number in its range, and as many items as a count says.
use Rattle.std.specs.Prelude.{ℕ, zero, suc, List, [], ◌∷◌, Ok, Err, nat_lt, if◌then◌else◌}
use Rattle.salus_codec.specs.declared.errors.FieldError.TheVariants as error
use Rattle.salus_codec.specs.Reading.{Field, ◌>>=◌, bytes_at}

-- one field after the other
abbrev pub both : {A B : Type 0} → (List ℕ → Field A) → (List ℕ → Field B) → List ℕ → Field (A × B)
both first second bytes = first bytes >>= λ a. second a.1 >>= λ b. Ok ((a.0, b.0), b.1)

-- what was read, as another value
abbrev pub made : {A B : Type 0} → (A → B) → (List ℕ → Field A) → List ℕ → Field B
made value field bytes = field bytes >>= λ a. Ok (value a.0, a.1)

-- a number in its range
abbrev pub within : ℕ → ℕ → (List ℕ → Field ℕ) → List ℕ → Field ℕ
within low high number bytes = number bytes >>= λ n. if nat_lt n.0 low then Err error.Count else if nat_lt high n.0 then Err error.Count else Ok n

-- as many bytes as the number before them says
abbrev pub sized : (List ℕ → Field ℕ) → List ℕ → Field (List ℕ)
sized number bytes = number bytes >>= λ n. bytes_at n.0 n.1

-- so many items, one after the other
unfoldable pub times : {A : Type 0} → (List ℕ → Field A) → ℕ → List ℕ → Field (List A)
times item zero bytes = Ok ([], bytes)
times item (suc n) bytes = item bytes >>= λ x. times item n x.1 >>= λ xs. Ok (x.0 ∷ xs.0, xs.1)

-- as many items as the number before them says
abbrev pub counted : {A : Type 0} → (List ℕ → Field ℕ) → (List ℕ → Field A) → List ℕ → Field (List A)
counted number item bytes = number bytes >>= λ n. times item n.0 n.1
