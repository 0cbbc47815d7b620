-- The entries of a map with numbers of their own, as open questions.
use Rattle.std.proofs.Common.{◌≡◌, ◌∙◌, ℕ, zero, suc, ◌==◌, nat_eq, Bool, true, false, not, ◌&&◌, if◌then◌else◌, List, [], ◌∷◌, ◌++◌, length, slice_get, unwrap_or, Option, Some, None, is_some, refl, sym, ap, subst, true≢false, inl, inr}
use Rattle.std.proofs.lemmas.Bool.{cases_Bool, cond-true, cond-false, eqb-true, eqb-false, eq-eqb, ne_eqb}
use Rattle.std.specs.Prelude.{map, find, filter}
use Rattle.std.specs.List.{AllByRecursion, IsDistinct}
use Rattle.std.specs.Map.{keys_of, lookup, remove_entry, set_value}
use Rattle.std.specs.Option.{option_and_then, option_map, option_map_or}
use Rattle.salus_types.specs.Volume.{Shape}
use Rattle.salus_types.specs.declared.strike.Strike.{Strike}
use Rattle.salus_message.specs.declared.replies.Answer.{Answer}
use Rattle.client_rules.specs.State.{Open}
use Rattle.client_rules.specs.Tables.{answers, struck, struck_from, struck_at, closed_at, open_at}
use Rattle.verified_read.specs.declared.asked.Asked.{Asked}
use Rattle.verified_read.specs.Entries.{open_of, open_in, struck_entry}
use Rattle.verified_read.specs.Table.{HavePlaces, fault_of, fault_at, question_at, questions_in}

-- no entry has that number
abbrev IsFree : ℕ → List (ℕ × Asked) → Type 0
IsFree n es = AllByRecursion (λ m. nat_eq n m ≡ false) (keys_of es)

turned : (m n : ℕ) → nat_eq n m ≡ false → nat_eq m n ≡ false
turned m n e = ne_eqb m n (λ same. true≢false (sym (eq-eqb n m (sym same)) ∙ e))

-- ---- a number that is free

free_none : (n : ℕ) (es : List (ℕ × Asked)) → lookup (nat_eq n) es ≡ None → IsFree n es
free_none n [] e = tt
free_none n (x ∷ es) e = elim (cases_Bool (nat_eq n x.0)) [
  | inl hit ↦ absurd (true≢false (ap is_some (sym (cond-true _ _ _ hit) ∙ e)))
  | inr miss ↦ (miss, free_none n es (sym (cond-false _ _ _ miss) ∙ e))
]

free_closed : (n : ℕ) (es : List (ℕ × Asked)) → IsFree n es → closed_at n (open_in es) ≡ open_in es
free_closed n [] free = refl
free_closed n (x ∷ es) free =
    ap (λ b. if not b then open_of x ∷ closed_at n (open_in es) else closed_at n (open_in es)) (turned x.0 n free.0)
    ∙ ap (λ l. open_of x ∷ l) (free_closed n es free.1)

free_struck : (a : Answer) (by : ℕ) (s : Strike) (es : List (ℕ × Asked)) → IsFree a.read es → struck_at a by s (open_in es) ≡ open_in es
free_struck a by s [] free = refl
free_struck a by s (x ∷ es) free =
    λ j. (if free.0 j && (a.block == x.1.block) then struck by s (open_of x) else open_of x) ∷ free_struck a by s es free.1 j

free_open : (a : Answer) (es : List (ℕ × Asked)) → IsFree a.read es → open_at a (open_in es) ≡ None
free_open a [] free = refl
free_open a (x ∷ es) free =
    ap (λ b. if b && (a.block == x.1.block) then Some (open_of x) else open_at a (open_in es)) free.0 ∙ free_open a es free.1

-- ---- numbers

pub numbers-open : (es : List (ℕ × Asked)) → map (λ (o : Open). o.question.number) (open_in es) ≡ keys_of es
numbers-open [] = refl
numbers-open (x ∷ es) = ap (λ l. x.0 ∷ l) (numbers-open es)

-- ---- what a look-up finds

pub question-lookup : (n : ℕ) (es : List (ℕ × Asked)) → question_at n (open_in es) ≡ option_map (λ v. open_of (n, v)) (lookup (nat_eq n) es)
question-lookup n [] = refl
question-lookup n (x ∷ es) = elim (cases_Bool (nat_eq n x.0)) [
  | inl hit ↦
      cond-true _ _ _ hit ∙ ap (λ k. Some (open_of (k, x.1))) (sym (eqb-true n x.0 hit))
      ∙ ap (option_map (λ v. open_of (n, v))) (sym (cond-true _ _ _ hit))
  | inr miss ↦ cond-false _ _ _ miss ∙ question-lookup n es ∙ ap (option_map (λ v. open_of (n, v))) (sym (cond-false _ _ _ miss))
]

is_test : {A : Type 0} (b : Bool) (x : A) → is_some (if b then Some x else None) ≡ b
is_test true x = refl
is_test false x = refl

-- what is read of it
map_map : {A B C : Type 0} (g : B → C) (f : A → B) (o : Option A) → option_map g (option_map f o) ≡ option_map (λ x. g (f x)) o
map_map g f None = refl
map_map g f (Some x) = refl

pub asked-lookup : (n : ℕ) (es : List (ℕ × Asked)) → option_map (λ (o : Open). o.question) (question_at n (open_in es)) ≡ option_map (λ v. (open_of (n, v)).question) (lookup (nat_eq n) es)
asked-lookup n es = ap (option_map (λ (o : Open). o.question)) (question-lookup n es) ∙ map_map (λ (o : Open). o.question) (λ v. open_of (n, v)) (lookup (nat_eq n) es)

then_map : {A B C : Type 0} (g : B → Option C) (f : A → B) (o : Option A) → option_and_then g (option_map f o) ≡ option_and_then (λ x. g (f x)) o
then_map g f None = refl
then_map g f (Some x) = refl

pub fault-lookup : (n : ℕ) (es : List (ℕ × Asked)) → fault_at n (open_in es) ≡ option_and_then (λ (v : Asked). fault_of v.strikes) (lookup (nat_eq n) es)
fault-lookup n es = ap (option_and_then (λ (o : Open). fault_of o.strikes)) (question-lookup n es) ∙ then_map (λ (o : Open). fault_of o.strikes) (λ v. open_of (n, v)) (lookup (nat_eq n) es)

pub open-lookup : (a : Answer) (es : List (ℕ × Asked)) → IsDistinct nat_eq (keys_of es)
    → is_some (open_at a (open_in es)) ≡ option_map_or (λ (v : Asked). a.block == v.block) (lookup (nat_eq a.read) es) false
unfolding IsDistinct
open-lookup a [] distinct = refl
open-lookup a (x ∷ es) distinct = elim (cases_Bool (nat_eq a.read x.0)) [
  | inl hit ↦
      let rest : open_at a (open_in es) ≡ None = free_open a es (subst (λ k. IsFree k es) (sym (eqb-true a.read x.0 hit)) distinct.0) in
      (λ j. is_some (if hit j && (a.block == x.1.block) then Some (open_of x) else rest j))
      ∙ is_test (a.block == x.1.block) (open_of x) ∙ ap (λ o. option_map_or (λ (v : Asked). a.block == v.block) o false) (sym (cond-true _ _ _ hit))
  | inr miss ↦
      ap (λ b. is_some (if b && (a.block == x.1.block) then Some (open_of x) else open_at a (open_in es))) miss
      ∙ open-lookup a es distinct.1 ∙ ap (λ o. option_map_or (λ (v : Asked). a.block == v.block) o false) (sym (cond-false _ _ _ miss))
]

-- ---- an entry less

pub open-removed : (n : ℕ) (es : List (ℕ × Asked)) → IsDistinct nat_eq (keys_of es) → open_in (remove_entry (nat_eq n) es) ≡ closed_at n (open_in es)
unfolding IsDistinct
open-removed n [] distinct = refl
open-removed n (x ∷ es) distinct = elim (cases_Bool (nat_eq n x.0)) [
  | inl hit ↦
      let same : n ≡ x.0 = eqb-true n x.0 hit in
      ap open_in (cond-true _ _ _ hit) ∙ sym (free_closed n es (subst (λ k. IsFree k es) (sym same) distinct.0))
      ∙ ap (λ b. if not b then open_of x ∷ closed_at n (open_in es) else closed_at n (open_in es)) (sym (eq-eqb x.0 n (sym same)))
  | inr miss ↦
      ap open_in (cond-false _ _ _ miss) ∙ ap (λ l. open_of x ∷ l) (open-removed n es distinct.1)
      ∙ ap (λ b. if not b then open_of x ∷ closed_at n (open_in es) else closed_at n (open_in es)) (sym (turned x.0 n miss))
]

-- ---- an entry that is struck

struck_one : (a : Answer) (by : ℕ) (s : Strike) (x : ℕ × Asked) (hit : Bool) → nat_eq a.read x.0 ≡ hit → hit ≡ true
    → open_of (x.0, struck_entry a.block by s x.1) ≡ (if (a.read == x.0) && (a.block == x.1.block) then struck by s (open_of x) else open_of x)
struck_one a by s x hit e is =
    one (a.block == x.1.block) ∙ ap (λ b. if b && (a.block == x.1.block) then struck by s (open_of x) else open_of x) (sym (e ∙ is))
  where
    one : (b : Bool) → open_of (x.0, (if b then record x.1 { strikes = struck_from 0 by s x.1.strikes } else x.1)) ≡ (if b then struck by s (open_of x) else open_of x)
    one true = refl
    one false = refl

pub open-struck : (a : Answer) (by : ℕ) (s : Strike) (v w : Asked) (es : List (ℕ × Asked)) → IsDistinct nat_eq (keys_of es) → lookup (nat_eq a.read) es ≡ Some v
    → w ≡ struck_entry a.block by s v → open_in (set_value (nat_eq a.read) es w) ≡ struck_at a by s (open_in es)
unfolding IsDistinct
open-struck a by s v w [] distinct found is = absurd (true≢false (ap is_some (sym found)))
open-struck a by s v w (x ∷ es) distinct found is = elim (cases_Bool (nat_eq a.read x.0)) [
  | inl hit ↦
      let same : a.read ≡ x.0 = eqb-true a.read x.0 hit in
      let value : Some v ≡ Some x.1 = sym found ∙ cond-true _ _ _ hit in
      let now : w ≡ struck_entry a.block by s x.1 = is ∙ ap (λ o. struck_entry a.block by s (unwrap_or o v)) value in
      ap open_in (cond-true _ _ _ hit)
      ∙ (λ j. open_of (x.0, now j) ∷ sym (free_struck a by s es (subst (λ k. IsFree k es) (sym same) distinct.0)) j)
      ∙ ap (λ o. o ∷ struck_at a by s (open_in es)) (struck_one a by s x true hit refl)
  | inr miss ↦
      ap open_in (cond-false _ _ _ miss) ∙ ap (λ l. open_of x ∷ l) (open-struck a by s v w es distinct.1 (sym (cond-false _ _ _ miss) ∙ found) is)
      ∙ ap (λ b. (if b && (a.block == x.1.block) then struck by s (open_of x) else open_of x) ∷ struck_at a by s (open_in es)) (sym miss)
]

-- where there is no such entry
pub none-struck : (a : Answer) (by : ℕ) (s : Strike) (es : List (ℕ × Asked)) → lookup (nat_eq a.read) es ≡ None → open_in es ≡ struck_at a by s (open_in es)
none-struck a by s es none = sym (free_struck a by s es (free_none a.read es none))

-- ---- an entry more, and the entry at a place

pub open-push : (es : List (ℕ × Asked)) (x : ℕ × Asked) → open_in (es ++ x ∷ []) ≡ open_in es ++ open_of x ∷ []
open-push [] x = refl
open-push (y ∷ es) x = ap (λ l. open_of y ∷ l) (open-push es x)

pub open-length : (es : List (ℕ × Asked)) → length (open_in es) ≡ length es
open-length [] = refl
open-length (y ∷ es) = ap suc (open-length es)

pub none_asked : (n : ℕ) (es : List (ℕ × Asked)) → question_at n (open_in es) ≡ None → lookup (nat_eq n) es ≡ None
none_asked n es none = none_of (lookup (nat_eq n) es) (sym (question-lookup n es) ∙ none) where
  none_of : (o : Option Asked) → option_map (λ v. open_of (n, v)) o ≡ None → o ≡ None
  none_of None e = refl
  none_of (Some v) e = absurd (true≢false (ap is_some e))

pub question-place : (es : List (ℕ × Asked)) (i : ℕ) → slice_get (questions_in (open_in es)) i ≡ option_map (λ x. (open_of x).question) (slice_get es i)
question-place [] i = refl
question-place (x ∷ es) zero = refl
question-place (x ∷ es) (suc i) = question-place es i

pub places-at : (shape : Shape) (n : ℕ) (v : Asked) (es : List (ℕ × Asked)) → HavePlaces shape (open_in es) → lookup (nat_eq n) es ≡ Some v → length v.strikes ≡ shape.replicas
places-at shape n v [] all found = absurd (true≢false (ap is_some (sym found)))
places-at shape n v (x ∷ es) all found = elim (cases_Bool (nat_eq n x.0)) [
  | inl hit ↦ ap (λ o. length (unwrap_or o v).strikes) (sym found ∙ cond-true _ _ _ hit) ∙ all.0
  | inr miss ↦ places-at shape n v es all.1 (sym (cond-false _ _ _ miss) ∙ found)
]
