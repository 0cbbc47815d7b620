-- A decimal word is read as the number that it spells.
use Rattle.std.proofs.Common.{lit<, ◌≡◌, ◌⊎◌, ℕ, ◌+◌, ◌-◌, ◌*◌, ◌^◌, ◌<◌, ◌≤◌, true, not, ltb, List, [], ◌∷◌, length, get_or, refl, sym, ap, subst, ◌∙◌, arith, inl, inr}
use Rattle.std.specs.Prelude.{Some, option_and_then, decimal}
use Rattle.std.proofs.lemmas.Bool.{ltb-true, ltb-false, lt-ltb, le-ltb, ne_eqb, eq-eqb, cases_eq}
use Rattle.std.proofs.lemmas.Option.{same_Some, none-some, option_and_then_some}
use Rattle.std.proofs.lemmas.Str.Parse.{IsDigitsTest, FoldsDigits, IsNumeralModel, numerals_by_fold}
use Rattle.std.proofs.lemmas.Fmt.{digits_decimal, digits_value-decimal, decimal-digits_value, decimal_nonempty, first_decimal, decimal_digit}
use Rattle.text_words.specs.Reading.{with_digit, with_digits, starts_number, number_of}
use Rattle.text_words.specs.Grammar.{Lacks, IsNumber}
use Rattle.text_words.proofs.Settled.{Settles, pick_true, pick_false, chosen, le_lt}

-- ---- digits and their value

abbrev AreDigits : List ℕ → Type 0
AreDigits [] = Unit {0}
AreDigits (d ∷ ds) = (48 ≤ d) × (d ≤ 57) × AreDigits ds

abbrev value_on : ℕ → List ℕ → ℕ
value_on n [] = n
value_on n (d ∷ ds) = value_on (n * 10 + (d - 48)) ds

are_tests : IsDigitsTest AreDigits
are_tests = record { empty = tt; parts = λ c cs h. ((h.0, h.1), h.2); more = λ c cs r h. (r.0, r.1, h) }

value_folds : FoldsDigits value_on
value_folds = record { empty = λ n. refl; more = λ n c cs r. refl }

own : IsNumeralModel AreDigits (value_on 0)
own = numerals_by_fold AreDigits are_tests value_on value_folds

value-ge : (n : ℕ) (ds : List ℕ) → n ≤ value_on n ds
value-ge n [] = omega arith
value-ge n (d ∷ ds) = let more = value-ge (n * 10 + (d - 48)) ds in omega (arith, more)

-- ---- one digit more

digit-parts : (n d x : ℕ) → with_digit n d ≡ Some x → (48 ≤ d) × (d ≤ 57) × (n * 10 + (d - 48) ≡ x) × (x < 2 ^ 64)
digit-parts n d x h = elim (chosen (ltb d 48) _ _ _ h) [
  | inl w ↦ absurd (none-some x w.1)
  | inr w ↦ elim (chosen (ltb 57 d) _ _ _ w.1) [
    | inl v ↦ absurd (none-some x v.1)
    | inr v ↦ elim (chosen (ltb (n * 10 + (d - 48)) (2 ^ 64)) _ _ _ v.1) [
      | inl u ↦
          let is = same_Some _ _ u.1 in
          (ltb-false d 48 w.0, ltb-false 57 d v.0, is, subst (λ m. m < 2 ^ 64) is (ltb-true _ _ u.0))
      | inr u ↦ absurd (none-some x u.1)
    ]
  ]
]

digit-more : (n d : ℕ) → 48 ≤ d → d ≤ 57 → n * 10 + (d - 48) < 2 ^ 64 → with_digit n d ≡ Some (n * 10 + (d - 48))
digit-more n d low high fits =
    pick_false (ltb d 48) _ _ (le-ltb d 48 low)
    ∙ (pick_false (ltb 57 d) _ _ (le-ltb 57 d high) ∙ pick_true (ltb (n * 10 + (d - 48)) (2 ^ 64)) _ _ (lt-ltb _ _ fits))

digits-sound : (n : ℕ) (ds : List ℕ) (m : ℕ) → n < 2 ^ 64 → with_digits n ds ≡ Some m → AreDigits ds × (value_on n ds ≡ m) × (m < 2 ^ 64)
unfolding with_digits
digits-sound n [] m fits h = let is = same_Some n m h in (tt, is, subst (λ k. k < 2 ^ 64) is fits)
digits-sound n (d ∷ ds) m fits h =
    option_and_then_some (λ longer. with_digits longer ds) (with_digit n d) m h (λ x one rest.
    let p = digit-parts n d x one in
    let q = digits-sound x ds m p.3 rest in
    ((p.0, p.1, q.0), ap (λ k. value_on k ds) p.2 ∙ q.1, q.2))

digits-only : (n : ℕ) (ds : List ℕ) → AreDigits ds → value_on n ds < 2 ^ 64 → with_digits n ds ≡ Some (value_on n ds)
unfolding with_digits
digits-only n [] w fits = refl
digits-only n (d ∷ ds) w fits =
    ap (option_and_then (λ longer. with_digits longer ds)) (digit-more n d w.0 w.1 (le_lt _ _ _ (value-ge (n * 10 + (d - 48)) ds) fits))
    ∙ digits-only (n * 10 + (d - 48)) ds w.2 fits

-- ---- the whole word

starts-sound : (word : List ℕ) → starts_number word ≡ true → (0 < length word) × (get_or word 0 0 ≡ 48 → length word ≡ 1)
starts-sound [] h = absurd (cc)
starts-sound (d ∷ []) h = (omega arith, λ _. refl)
starts-sound (d ∷ e ∷ ds) h = (omega arith, λ zero_first. absurd (cc (ap not (eq-eqb d 48 zero_first))))

starts-only : (word : List ℕ) → 0 < length word → (48 < get_or word 0 0) ⊎ (length word ≡ 1) → starts_number word ≡ true
starts-only [] there w = absurd (omega (arith, there))
starts-only (d ∷ []) there w = refl
starts-only (d ∷ e ∷ ds) there (inl w) = ap not (ne_eqb d 48 (λ is. omega (arith, w, is)))
starts-only (d ∷ e ∷ ds) there (inr w) = absurd (omega (arith, w))

decimal_starts : (n : ℕ) → n < 2 ^ 64 → (48 < get_or (decimal n) 0 0) ⊎ (length (decimal n) ≡ 1)
decimal_starts n fits = elim (cases_eq n 0) [
  | inl is ↦ inr (ap (λ k. length (decimal k)) is ∙ ap length (decimal_digit 0 (omega arith)))
  | inr is_not ↦ inl (first_decimal n (omega (arith, is_not)) fits)
]

number-sound : (word : List ℕ) (n : ℕ) → number_of word ≡ Some n → IsNumber word n
unfolding number_of
number-sound word n h = elim (chosen (starts_number word) _ _ _ h) [
  | inl w ↦
      let s = starts-sound word w.0 in
      let d = digits-sound 0 word n (lit< tt) w.1 in
      record {
        spelled = sym (ap decimal (sym d.1) ∙ decimal-digits_value own word d.0 s.0 s.1 (subst (λ k. k < 2 ^ 64) (sym d.1) d.2));
        fits = d.2;
      }
  | inr w ↦ absurd (none-some n w.1)
]

number-spelled : (n : ℕ) → n < 2 ^ 64 → number_of (decimal n) ≡ Some n
unfolding number_of
number-spelled n fits =
    let is = digits_value-decimal own n fits in
    pick_true (starts_number (decimal n)) _ _ (starts-only (decimal n) (decimal_nonempty n fits) (decimal_starts n fits))
    ∙ (digits-only 0 (decimal n) (digits_decimal own n fits) (subst (λ k. k < 2 ^ 64) (sym is) fits) ∙ ap Some is)

pub number-settles : (word : List ℕ) → Settles (number_of word) (IsNumber word)
number-settles word = record { sound = number-sound word; only = λ n w. ap number_of w.spelled ∙ number-spelled n w.fits }

-- ---- no space in it, and nothing else below its digits

digits_lack : (b : ℕ) (ds : List ℕ) → b < 48 → AreDigits ds → Lacks b ds
digits_lack b [] below w = tt
digits_lack b (d ∷ ds) below w = let low = w.0 in ((λ e. absurd (omega (arith, below, low, e))), digits_lack b ds below w.2)

pub number_lacks_low : (b : ℕ) (word : List ℕ) (n : ℕ) → b < 48 → IsNumber word n → Lacks b word
number_lacks_low b word n below w = subst (Lacks b) (sym w.spelled) (digits_lack b (decimal n) below (digits_decimal own n w.fits))

pub number_lacks : (word : List ℕ) (n : ℕ) → IsNumber word n → Lacks 32 word
number_lacks word n w = number_lacks_low 32 word n (lit< tt) w

pub number_there : (word : List ℕ) (n : ℕ) → IsNumber word n → 0 < length word
number_there word n w = rw w.spelled (decimal_nonempty n w.fits)
