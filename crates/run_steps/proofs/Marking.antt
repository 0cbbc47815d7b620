-- Marks at messages, with one step more, one message more, and one that is dropped; and the message that is next.
use Rattle.std.proofs.Common.{◌≡◌, ◌∙◌, ◌⊎◌, inl, inr, ℕ, zero, suc, ◌+◌, ◌-◌, ◌<◌, ◌≤◌, ◌==◌, Bool, true, false, ◌||◌, not, nat_lt, if◌then◌else◌, cond, List, [], ◌∷◌, ◌++◌, length, slice_get, slice_set, None, Some, Option, refl, sym, ap, subst, length-append, arith}
use Rattle.std.specs.Prelude.{find}
use Rattle.std.specs.List.{AllByRecursion, list_any, range_with_len}
use Rattle.std.proofs.lemmas.Bool.{eqb-true, eq-eqb, eqb-false, ltb-true, ltb-false}
use Rattle.std.proofs.lemmas.Option.{none-some, same_Some}
use Rattle.salus_model.specs.declared.trace.TraceStep.{TraceStep}
use Rattle.salus_model.specs.Following.{sent_by, hands, was_handed, is_waiting, next_waiting}
use Rattle.list_lemmas.proofs.Tests.{by_bool}
use Rattle.run_steps.specs.Waiting.{AreMarked}

-- ---- lists

pub get_set_here : {A : Type 0} (xs : List A) (i : ℕ) (y z : A) → slice_get (slice_set xs i y) i ≡ Some z → z ≡ y
get_set_here [] i y z at = absurd (none-some z at)
get_set_here (x ∷ xs) zero y z at = sym (same_Some y z at)
get_set_here (x ∷ xs) (suc i) y z at = get_set_here xs i y z at

pub get_set_other : {A : Type 0} (xs : List A) (i j : ℕ) (y : A) → (i ≡ j → ⊥) → slice_get (slice_set xs i y) j ≡ slice_get xs j
get_set_other [] i j y differs = refl
get_set_other (x ∷ xs) zero zero y differs = absurd (differs refl)
get_set_other (x ∷ xs) zero (suc j) y differs = refl
get_set_other (x ∷ xs) (suc i) zero y differs = refl
get_set_other (x ∷ xs) (suc i) (suc j) y differs = get_set_other xs i j y (λ same. differs (ap suc same))

pub length_set : {A : Type 0} (xs : List A) (i : ℕ) (y : A) → length (slice_set xs i y) ≡ length xs
length_set [] i y = refl
length_set (x ∷ xs) zero y = refl
length_set (x ∷ xs) (suc i) y = ap suc (length_set xs i y)

got_new : {A : Type 0} (xs new : List A) (P : A → Type 0) (k : ℕ) (y : A) → slice_get (xs ++ new) k ≡ Some y → AllByRecursion P new → (slice_get xs k ≡ Some y) ⊎ ((length xs ≤ k) × P y)
got_new [] [] P k y at all = absurd (none-some y at)
got_new [] (x ∷ new) P zero y at all = inr (omega arith, subst P (same_Some x y at) all.0)
got_new [] (x ∷ new) P (suc k) y at all = elim (got_new [] new P k y at all.1) [ inl none ↦ absurd (none-some y none) | inr is ↦ inr (omega arith, is.1) ]
got_new (x ∷ xs) new P zero y at all = inl at
got_new (x ∷ xs) new P (suc k) y at all = elim (got_new xs new P k y at all) [ inl is ↦ inl is | inr is ↦ inr (let far = is.0 in omega (arith, far), is.1) ]

-- ---- marks

pub none_marked : AreMarked [] [] 0 []
none_marked = record {
  each = λ k mark at. absurd (none-some mark at);
  later = λ k far. refl;
  passed = λ k some low. absurd (omega (arith, some, low));
}

module _ (earlier : List TraceStep) (dropped : List ℕ) (lowest : ℕ) (marks : List Bool) (marked : AreMarked earlier dropped lowest marks) where
  abbrev is_dropped : ℕ → Bool
  is_dropped k = list_any (λ d. d == k) dropped

  -- a step that hands no message over
  pub marks_still : (step : TraceStep) → ((k : ℕ) → hands k step.handed ≡ false) → AreMarked (step ∷ earlier) dropped lowest marks
  marks_still step none = record {
    each = λ k mark at. still (k + 1) ∙ marked.each k mark at;
    later = λ k far. still k ∙ marked.later k far;
    passed = λ k some low. still k ∙ marked.passed k some low;
  } where
    still : (k : ℕ) → is_waiting (step ∷ earlier) dropped k ≡ is_waiting earlier dropped k
    still k = ap (λ (b : Bool). not ((b || was_handed earlier k) || is_dropped k)) (none k)

  -- new messages wait
  pub marks_more : (new : List Bool) → AllByRecursion (λ b. b ≡ false) new → AreMarked earlier dropped lowest (marks ++ new)
  marks_more new all = record {
    each = λ k mark at. elim (got_new marks new (λ b. b ≡ false) k mark at all) [
      | inl old ↦ marked.each k mark old
      | inr is ↦ marked.later (k + 1) (let far = is.0 in omega (arith, far)) ∙ sym (ap not is.1)
    ];
    later = λ k far. marked.later k (let long = length-append marks new in omega (arith, far, long));
    passed = marked.passed;
  }

  -- a test that finds number i + 1, which is one of the messages, changes the others not
  by_number : (waits : ℕ → Bool) (i : ℕ) → i < length marks → ((k : ℕ) → (i + 1 == k) ≡ true → waits k ≡ false) → ((k : ℕ) → (i + 1 == k) ≡ false → waits k ≡ is_waiting earlier dropped k)
      → ((k : ℕ) (mark : Bool) → slice_get (slice_set marks i true) k ≡ Some mark → waits (k + 1) ≡ not mark)
      × ((k : ℕ) → length (slice_set marks i true) < k → waits k ≡ true)
      × ((k : ℕ) → 1 ≤ k → k ≤ lowest → waits k ≡ false)
  by_number waits i inside here other = (each, far, passed) where
    each : (k : ℕ) (mark : Bool) → slice_get (slice_set marks i true) k ≡ Some mark → waits (k + 1) ≡ not mark
    each k mark at =
        by_bool (i + 1 == k + 1) (waits (k + 1) ≡ not mark)
        (λ e.
        let same : i ≡ k = (let both : i + 1 ≡ k + 1 = eqb-true (i + 1) (k + 1) e in omega (arith, both)) in
        here (k + 1) e ∙ sym (ap not (get_set_here marks k true mark (subst (λ (j : ℕ). slice_get (slice_set marks j true) k ≡ Some mark) same at))))
        (λ e.
        let differs : i ≡ k → ⊥ = λ same. eqb-false (i + 1) (k + 1) e (ap (λ (j : ℕ). j + 1) same) in
        other (k + 1) e ∙ marked.each k mark (sym (get_set_other marks i k true differs) ∙ at))

    far : (k : ℕ) → length (slice_set marks i true) < k → waits k ≡ true
    far k past =
        let long : length (slice_set marks i true) ≡ length marks = length_set marks i true in
        let beyond : length marks < k = omega (arith, past, long) in
        by_bool (i + 1 == k) (waits k ≡ true)
        (λ e. let same : i + 1 ≡ k = eqb-true (i + 1) k e in absurd (omega (arith, same, beyond, inside)))
        (λ e. other k e ∙ marked.later k beyond)

    passed : (k : ℕ) → 1 ≤ k → k ≤ lowest → waits k ≡ false
    passed k some low = by_bool (i + 1 == k) (waits k ≡ false) (λ e. here k e) (λ e. other k e ∙ marked.passed k some low)

  -- the message of number i + 1 is handed over
  pub marks_handed : (step : TraceStep) (i : ℕ) → i < length marks → ((k : ℕ) → hands k step.handed ≡ (i + 1 == k)) → AreMarked (step ∷ earlier) dropped lowest (slice_set marks i true)
  marks_handed step i inside hands_it =
      let with : (k : ℕ) (b : Bool) → hands k step.handed ≡ b → is_waiting (step ∷ earlier) dropped k ≡ not ((b || was_handed earlier k) || is_dropped k) =
      λ k b e. ap (λ (t : Bool). not ((t || was_handed earlier k) || is_dropped k)) e in
      let all = by_number (λ k. is_waiting (step ∷ earlier) dropped k) i inside (λ k e. with k true (hands_it k ∙ e)) (λ k e. with k false (hands_it k ∙ e)) in
      record { each = all.0; later = all.1; passed = all.2 }

  -- it is dropped
  pub marks_dropped : (i : ℕ) → i < length marks → AreMarked earlier ((i + 1) ∷ dropped) lowest (slice_set marks i true)
  marks_dropped i inside =
      let all = by_number (λ k. is_waiting earlier ((i + 1) ∷ dropped) k) i inside
      (λ k e. ap (λ (t : Bool). not (was_handed earlier k || (t || is_dropped k))) e ∙ ap not (or_yes (was_handed earlier k)))
      (λ k e. ap (λ (t : Bool). not (was_handed earlier k || (t || is_dropped k))) e) in
      record { each = all.0; later = all.1; passed = all.2 }
    where
      or_yes : (b : Bool) → (b || true) ≡ true
      or_yes true = refl
      or_yes false = refl

  -- ---- which message is next

  -- those from the first on that isn't passed are marked: they are passed too
  pub passed_on : (low : ℕ) → ((k : ℕ) → lowest ≤ k → k < low → slice_get marks k ≡ Some true) → AreMarked earlier dropped low marks
  passed_on low all = record {
    each = marked.each;
    later = marked.later;
    passed = λ k some below. by_bool (nat_lt lowest k) (is_waiting earlier dropped k ≡ false)
        (λ e. let up : lowest < k = ltb-true lowest k e in at_number k (k - 1) (omega (arith, some)) (marked.each (k - 1) true (all (k - 1) (omega (arith, up)) (omega (arith, some, below)))))
        (λ e. let down : k ≤ lowest = ltb-false lowest k e in marked.passed k some down);
  } where
    at_number : (k j : ℕ) → j + 1 ≡ k → is_waiting earlier dropped (j + 1) ≡ false → is_waiting earlier dropped k ≡ false
    at_number k j same passed = subst (λ (i : ℕ). is_waiting earlier dropped i ≡ false) same passed

  found_at : (test : ℕ → Bool) (n a low : ℕ) → a ≤ low → low < a + n → ((k : ℕ) → a ≤ k → k < low → test k ≡ false) → test low ≡ true → find test (range_with_len a n) ≡ Some low
  found_at test zero a low up inside none is = absurd (omega (arith, up, inside))
  found_at test (suc n) a low up inside none is =
      by_bool (a == low) (cond (test a) (Some a) (find test (range_with_len (a + 1) n)) ≡ Some low)
      (λ e.
      let same : a ≡ low = eqb-true a low e in
      ap (λ (b : Bool). cond b (Some a) (find test (range_with_len (a + 1) n))) (ap test same ∙ is) ∙ ap Some same)
      (λ e.
      let differs = eqb-false a low e in
      let less : a < low = by_bool (nat_lt a low) (a < low) (λ t. ltb-true a low t) (λ t. let more : low ≤ a = ltb-false a low t in absurd (differs (omega (arith, up, more)))) in
      ap (λ (b : Bool). cond b (Some a) (find test (range_with_len (a + 1) n))) (none a (omega arith) less)
      ∙ found_at test n (a + 1) low (omega (arith, less)) (omega (arith, inside)) (λ k from below. none k (omega (arith, from)) below) is)

  found_none : (test : ℕ → Bool) (n a : ℕ) → ((k : ℕ) → a ≤ k → k < a + n → test k ≡ false) → find test (range_with_len a n) ≡ None
  found_none test zero a none = refl
  found_none test (suc n) a none =
      ap (λ (b : Bool). cond b (Some a) (find test (range_with_len (a + 1) n))) (none a (omega arith) (omega arith))
      ∙ found_none test n (a + 1) (λ k from below. none k (omega (arith, from)) (omega (arith, below)))

  -- it isn't marked: it is next
  pub next_is : sent_by earlier ≡ length marks → lowest < length marks → slice_get marks lowest ≡ Some false → next_waiting earlier dropped ≡ Some (lowest + 1)
  next_is count inside at =
      ap (λ (n : ℕ). find (λ k. is_waiting earlier dropped k) (range_with_len 1 n)) count
      ∙ found_at (λ k. is_waiting earlier dropped k) (length marks) 1 (lowest + 1) (omega arith) (omega (arith, inside)) (λ k some low. marked.passed k some (omega (arith, low))) (marked.each lowest false at)

  -- all are passed: none is left
  pub next_none : sent_by earlier ≡ length marks → length marks ≤ lowest → next_waiting earlier dropped ≡ None
  next_none count all =
      ap (λ (n : ℕ). find (λ k. is_waiting earlier dropped k) (range_with_len 1 n)) count
      ∙ found_none (λ k. is_waiting earlier dropped k) (length marks) 1 (λ k some low. marked.passed k some (omega (arith, low, all)))
