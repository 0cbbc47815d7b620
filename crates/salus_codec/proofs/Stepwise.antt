-- Items read one after the other, as a loop reads them.
use Rattle.std.proofs.Common.{◌≡◌, ℕ, suc, ◌-◌, ◌+◌, ◌≤◌, ◌<◌, List, [], ◌∷◌, ◌++◌, IfSome, Result, Ok, Err, refl, sym, ap, subst, ◌∙◌, append_assoc, append-nil, arith}
use Rattle.salus_codec.specs.declared.errors.FieldError.{FieldError}
use Rattle.salus_codec.specs.declared.errors.FieldError.TheVariants as error
use Rattle.salus_types.specs.Outcome.{Gives}
use Rattle.salus_codec.specs.Reading.{Field, ◌>>=◌, field_fault}
use Rattle.salus_codec.specs.Formats.{times}

-- what was read before, and what is still read
abbrev pub with_front : {A : Type 0} → List A → Field (List A) → Field (List A)
with_front front read = read >>= λ x. Ok (front ++ x.0, x.1)

regroup : {A : Type 0} (front : List A) (n : A) (read : Field (List A)) → with_front front (read >>= λ x. Ok (n ∷ x.0, x.1)) ≡ with_front (front ++ n ∷ []) read
regroup {A} front n (Ok x) = ap (λ (ns : List A). Ok (ns, x.1)) (simp append_assoc)
regroup front n (Err f) = refl

pub goes_on : {A : Type 0} (item : List ℕ → Field A) (front : List A) (count i : ℕ) (bytes : List ℕ) (n : A) (after : List ℕ) (total : Field (List A)) → i < count → item bytes ≡ Ok (n, after)
    → with_front front (times item (count - i) bytes) ≡ total → with_front (front ++ n ∷ []) (times item (count - (i + 1)) after) ≡ total
unfolding times
goes_on item front count i bytes n after total lt h so_far =
    let k : count - i ≡ suc (count - (i + 1)) = omega arith in
    let one : with_front front (times item (count - i) bytes) ≡ with_front (front ++ n ∷ []) (times item (count - (i + 1)) after) = rw (k, h) (regroup front n (times item (count - (i + 1)) after)) in
    sym one ∙ so_far

stops : {A : Type 0} (item : List ℕ → Field A) (f : FieldError) (front : List A) (count i : ℕ) (bytes : List ℕ) (total : Field (List A)) → i < count → item bytes ≡ Err f
    → with_front front (times item (count - i) bytes) ≡ total → total ≡ Err f
unfolding times
stops item f front count i bytes total lt h so_far =
    let k : count - i ≡ suc (count - (i + 1)) = omega arith in
    let one : with_front front (times item (count - i) bytes) ≡ Err f = rw (k, h) refl in
    sym so_far ∙ one

pub ends : {A : Type 0} (item : List ℕ → Field A) (e : FieldError) (front : List A) (count i : ℕ) (bytes : List ℕ) (total : Field (List A)) → i < count → IfSome (field_fault e) (λ refused. item bytes ≡ refused)
    → with_front front (times item (count - i) bytes) ≡ total → IfSome (field_fault e) (λ refused. total ≡ refused)
ends item error.NoMemory front count i bytes total lt h so_far = tt
ends item error.Short front count i bytes total lt h so_far = stops item error.Short front count i bytes total lt h so_far
ends item error.Count front count i bytes total lt h so_far = stops item error.Count front count i bytes total lt h so_far

pub is_done : {A : Type 0} (item : List ℕ → Field A) (front : List A) (count i : ℕ) (bytes : List ℕ) (total : Field (List A)) → count ≤ i → with_front front (times item (count - i) bytes) ≡ total → total ≡ Ok (front, bytes)
unfolding times
is_done {A} item front count i bytes total le so_far =
    let k : count - i ≡ 0 = omega arith in
    let one : with_front front (times item (count - i) bytes) ≡ Ok (front, bytes) = rw k (ap (λ (ns : List A). Ok (ns, bytes)) (append-nil front)) in
    sym so_far ∙ one

nothing_before : {A : Type 0} (read : Field (List A)) → with_front [] read ≡ read
nothing_before (Ok x) = refl
nothing_before (Err f) = refl

pub starts : {A : Type 0} (item : List ℕ → Field A) (count : ℕ) (bytes : List ℕ) → with_front [] (times item (count - 0) bytes) ≡ times item count bytes
starts item count bytes = let k : count - 0 ≡ count = omega arith in rw k (nothing_before (times item count bytes))

-- an error that a reader hands on
pub hands_on : {X Y : Type 0} (view : X → Result Y FieldError) (r : Result X FieldError) (e f : FieldError) (reading : Result Y FieldError) → r ≡ Err e → e ≡ f → IfSome (field_fault f) (λ refused. reading ≡ refused) → Gives view field_fault r reading
hands_on {X} view r e f reading is same h = subst (λ (s : Result X FieldError). Gives view field_fault s reading) (sym (is ∙ ap Err same)) h
