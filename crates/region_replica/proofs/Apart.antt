-- Parts with previous numbers of their own.
use Rattle.std.proofs.Common.{◌≡◌, ◌∙◌, ℕ, suc, ◌+◌, ◌<◌, ◌≤◌, ◌==◌, Bool, false, not, cond, if◌then◌else◌, nat_lt, List, [], ◌∷◌, ◌++◌, length, None, Some, refl, sym, ap, subst, arith}
use Rattle.std.specs.Prelude.{filter, find, remove, slice_get}
use Rattle.std.specs.List.{position, position_or_len}
use Rattle.std.proofs.Common.{get_or, length-append}
use Rattle.std.proofs.lemmas.Bool.{or_parts, or_from, eqb-true, eqb-false, ne_eqb, ltb-true, ltb-false}
use Rattle.std.proofs.lemmas.Option.{cond_some, slice_get_past, slice_get_read}
use Rattle.std.proofs.lemmas.List.Folds.{find_at}
use Rattle.salus_types.specs.declared.records.Record.{Record}
use Rattle.replica_rules.specs.Replicas.{has_early}
use Rattle.region_replica.specs.Keeping.{IsApart, IsKept}
use Rattle.list_lemmas.proofs.Tests.{by_bool, way_with}

-- ---- the part that goes on from a number

abbrev pub goes_on : ℕ → Record → Bool
goes_on number rec = rec.header.previous == number

abbrev pub others : ℕ → List Record → List Record
others number parts = filter (λ rec. not (rec.header.previous == number)) parts

-- where no part goes on from the number, none is taken
pub none-others : (number : ℕ) (parts : List Record) → has_early parts number ≡ false → others number parts ≡ parts
none-others number [] none = refl
none-others number (rec ∷ parts) none =
    let both = or_parts (goes_on number rec) (has_early parts number) none in
    ap (λ b. if not b then rec ∷ others number parts else others number parts) both.0 ∙ ap (λ l. rec ∷ l) (none-others number parts both.1)

pub none-found : (number : ℕ) (parts : List Record) → has_early parts number ≡ false → find (goes_on number) parts ≡ None
none-found number [] none = refl
none-found number (rec ∷ parts) none =
    let both = or_parts (goes_on number rec) (has_early parts number) none in
    ap (λ b. if b then Some rec else find (goes_on number) parts) both.0 ∙ none-found number parts both.1

-- the first that goes on from it is the only one
pub remove-others : (number : ℕ) (parts : List Record) → IsApart parts → remove parts (position_or_len (goes_on number) parts) ≡ others number parts
unfolding IsApart
remove-others number [] apart = refl
remove-others number (rec ∷ parts) apart =
    by_bool (goes_on number rec) (remove (rec ∷ parts) (position_or_len (goes_on number) (rec ∷ parts)) ≡ others number (rec ∷ parts))
    (λ pass.
    let at : rec.header.previous ≡ number = eqb-true rec.header.previous number pass in
    let none : has_early parts number ≡ false = subst (λ n. has_early parts n ≡ false) at apart.0 in
    ap (λ b. remove (rec ∷ parts) (cond (not b) (1 + position_or_len (goes_on number) parts) 0)) pass
    ∙ sym (none-others number parts none)
    ∙ sym (ap (λ b. if not b then rec ∷ others number parts else others number parts) pass))
    (λ fail.
    let n : ℕ = position_or_len (goes_on number) parts in
    let next : 1 + n ≡ suc n = omega arith in
    ap (λ b. remove (rec ∷ parts) (cond (not b) (1 + n) 0)) fail
    ∙ ap (λ k. remove (rec ∷ parts) k) next
    ∙ ap (λ l. rec ∷ l) (remove-others number parts apart.1)
    ∙ sym (ap (λ b. if not b then rec ∷ others number parts else others number parts) fail))

-- ---- what stays apart

any_kept : (test : Record → Bool) (number : ℕ) (parts : List Record) → has_early parts number ≡ false → has_early (filter test parts) number ≡ false
any_kept test number [] none = refl
any_kept test number (rec ∷ parts) none =
    let both = or_parts (goes_on number rec) (has_early parts number) none in
    let rest : has_early (filter test parts) number ≡ false = any_kept test number parts both.1 in
    way_with (test rec) (rec ∷ filter test parts) (filter test parts) (λ l. has_early l number ≡ false)
    (λ pass. or_from (goes_on number rec) (has_early (filter test parts) number) both.0 rest) (λ fail. rest)

pub IsApart-filter : (test : Record → Bool) (parts : List Record) → IsApart parts → IsApart (filter test parts)
unfolding IsApart
IsApart-filter test [] apart = tt
IsApart-filter test (rec ∷ parts) apart =
    let rest : IsApart (filter test parts) = IsApart-filter test parts apart.1 in
    way_with (test rec) (rec ∷ filter test parts) (filter test parts) (λ l. IsApart l)
    (λ pass. (any_kept test rec.header.previous parts apart.0, rest)) (λ fail. rest)

other_way : (a b : ℕ) → (a == b) ≡ false → (b == a) ≡ false
other_way a b apart = ne_eqb b a (λ same. eqb-false a b apart (sym same))

any_more : (parts : List Record) (rec : Record) (number : ℕ) → has_early parts number ≡ false → (rec.header.previous == number) ≡ false → has_early (parts ++ rec ∷ []) number ≡ false
any_more [] rec number none apart = or_from (rec.header.previous == number) false apart refl
any_more (other ∷ parts) rec number none apart =
    let both = or_parts (goes_on number other) (has_early parts number) none in
    or_from (goes_on number other) (has_early (parts ++ rec ∷ []) number) both.0 (any_more parts rec number both.1 apart)

pub IsApart-push : (parts : List Record) (rec : Record) → IsApart parts → has_early parts rec.header.previous ≡ false → IsApart (parts ++ rec ∷ [])
unfolding IsApart
IsApart-push [] rec apart none = (refl, tt)
IsApart-push (other ∷ parts) rec apart none =
    let both = or_parts (goes_on rec.header.previous other) (has_early parts rec.header.previous) none in
    (any_more parts rec other.header.previous apart.0 (other_way other.header.previous rec.header.previous both.0), IsApart-push parts rec apart.1 both.1)

pub IsKept-push : (parts : List Record) (rec : Record) → IsKept parts → has_early parts rec.header.previous ≡ false → length parts < 16 → IsKept (parts ++ rec ∷ [])
IsKept-push parts rec kept none room = record { few = omega (arith, length-append parts (rec ∷ [])); apart = IsApart-push parts rec kept.apart none }

fewer_others : (number : ℕ) (parts : List Record) → length (others number parts) ≤ length parts
fewer_others number [] = omega arith
fewer_others number (rec ∷ parts) =
    let rest : length (others number parts) ≤ length parts = fewer_others number parts in
    way_with (not (goes_on number rec)) (rec ∷ others number parts) (others number parts) (λ l. length l ≤ suc (length parts)) (λ pass. omega arith) (λ fail. omega arith)

pub IsKept-others : (number : ℕ) (parts : List Record) → IsKept parts → IsKept (others number parts)
IsKept-others number parts kept =
    record { few = omega (arith, fewer_others number parts, kept.few); apart = IsApart-filter (λ rec. not (goes_on number rec)) parts kept.apart }

-- ---- its place

any_none : (number : ℕ) (parts : List Record) → find (goes_on number) parts ≡ None → has_early parts number ≡ false
any_none number [] none = refl
any_none number (rec ∷ parts) none =
    by_bool (goes_on number rec) (has_early (rec ∷ parts) number ≡ false)
    (λ pass. let found : Some rec ≡ None = sym (ap (λ b. if b then Some rec else find (goes_on number) parts) pass) ∙ none in cc)
    (λ fail. or_from (goes_on number rec) (has_early parts number) fail (any_none number parts (sym (ap (λ b. if b then Some rec else find (goes_on number) parts) fail) ∙ none)))

-- with no place no part is taken
pub placed-none : (number : ℕ) (parts : List Record) → position (goes_on number) parts ≡ None → (find (goes_on number) parts ≡ None) × (others number parts ≡ parts)
placed-none number parts none =
    let n : ℕ = position_or_len (goes_on number) parts in
    let past : find (goes_on number) parts ≡ None =
    by_bool (nat_lt n (length parts)) (find (goes_on number) parts ≡ None)
    (λ less. let some : Some n ≡ None = sym (ap (λ b. cond b (Some n) None) less) ∙ none in cc)
    (λ more. find_at (goes_on number) parts ∙ slice_get_past parts n (ltb-false n (length parts) more)) in
    (past, none-others number parts (any_none number parts past))

-- at its place stands the part that is taken
pub placed-some : (number : ℕ) (parts : List Record) (i : ℕ) (rec : Record) → IsApart parts → position (goes_on number) parts ≡ Some i → rec ≡ get_or parts i rec
    → (i < length parts) × (remove parts i ≡ others number parts) × (Some rec ≡ find (goes_on number) parts)
placed-some number parts i rec apart is read =
    let n : ℕ = position_or_len (goes_on number) parts in
    let both = cond_some (nat_lt n (length parts)) n i is in
    let within : n < length parts = ltb-true n (length parts) both.0 in
    let inside : i < length parts = subst (λ k. k < length parts) both.1 within in
    let stands : slice_get parts i ≡ Some rec = slice_get_read parts (length parts) i rec refl inside read in
    (inside, ap (λ k. remove parts k) (sym both.1) ∙ remove-others number parts apart, sym (find_at (goes_on number) parts ∙ ap (λ k. slice_get parts k) both.1 ∙ stands))

-- what the program takes at the place that it has found
pub taken-out : (number : ℕ) (parts now left : List Record) (i : ℕ) (rec : Record) → IsKept parts → parts ≡ now → Some i ≡ position (goes_on number) now → rec ≡ get_or parts i rec → left ≡ remove parts i
    → IsKept left × (Some rec ≡ find (goes_on number) now) × (left ≡ others number now)
taken-out number parts now left i rec kept same at read is =
    let here : position (goes_on number) parts ≡ Some i = ap (λ l. position (goes_on number) l) same ∙ sym at in
    let all = placed-some number parts i rec kept.apart here read in (
      subst (λ l. IsKept l) (sym (is ∙ all.1)) (IsKept-others number parts kept),
      all.2 ∙ ap (λ l. find (goes_on number) l) same,
      is ∙ all.1 ∙ ap (λ l. others number l) same,
    )

pub place-within : (number : ℕ) (parts now : List Record) (i : ℕ) → parts ≡ now → Some i ≡ position (goes_on number) now → i < length parts
place-within number parts now i same at =
    let n : ℕ = position_or_len (goes_on number) parts in
    let here : position (goes_on number) parts ≡ Some i = ap (λ l. position (goes_on number) l) same ∙ sym at in
    let both = cond_some (nat_lt n (length parts)) n i here in
    subst (λ k. k < length parts) both.1 (ltb-true n (length parts) both.0)
