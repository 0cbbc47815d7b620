-- What is written spells what it was written from, and has no space and no line end in it.
use Rattle.std.proofs.Common.{◌≡◌, ℕ, ◌/◌, ◌%◌, ◌<◌, ◌≤◌, Bool, true, false, cond, eqb, ltb, List, [], ◌∷◌, ◌++◌, length, replicate, zero, suc, refl, sym, ap, subst, ◌∙◌, arith, inl, inr, append-nil}
use Rattle.std.specs.Prelude.{codes, decimal, slice_index}
use Rattle.std.specs.List.{AllByRecursion, flat_map, list_all}
use Rattle.std.proofs.lemmas.Bool.{and_parts, eqb-true, ltb-true}
use Rattle.std.proofs.lemmas.Nat.{div-add-mod', div_below}
use Rattle.std.proofs.lemmas.Str.Parse.{IsDigitsTest, numerals_by_value}
use Rattle.std.proofs.lemmas.Fmt.{digits_decimal}
use Rattle.text_words.specs.Grammar.{Lacks, ends_line, ended, IsLines, IsNumber, IsHexDigit, IsPair, IsPairs, IsHex, IsBlock, IsLieBytes}
use Rattle.text_words.specs.Writing.{hex_digit, pair_text, hex_text, is_uniform, block_text}
use Rattle.text_words.proofs.Settled.{pick_true}

-- ---- a pair

digit-written : (v : ℕ) → v < 16 → IsHexDigit (hex_digit v) v
digit-written zero l = inl (omega arith, refl)
digit-written (suc zero) l = inl (omega arith, refl)
digit-written (suc (suc zero)) l = inl (omega arith, refl)
digit-written (suc (suc (suc zero))) l = inl (omega arith, refl)
digit-written (suc (suc (suc (suc zero)))) l = inl (omega arith, refl)
digit-written (suc (suc (suc (suc (suc zero))))) l = inl (omega arith, refl)
digit-written (suc (suc (suc (suc (suc (suc zero)))))) l = inl (omega arith, refl)
digit-written (suc (suc (suc (suc (suc (suc (suc zero))))))) l = inl (omega arith, refl)
digit-written (suc (suc (suc (suc (suc (suc (suc (suc zero)))))))) l = inl (omega arith, refl)
digit-written (suc (suc (suc (suc (suc (suc (suc (suc (suc zero))))))))) l = inl (omega arith, refl)
digit-written (suc (suc (suc (suc (suc (suc (suc (suc (suc (suc zero)))))))))) l = inr (omega arith, omega arith, inl refl)
digit-written (suc (suc (suc (suc (suc (suc (suc (suc (suc (suc (suc zero))))))))))) l = inr (omega arith, omega arith, inl refl)
digit-written (suc (suc (suc (suc (suc (suc (suc (suc (suc (suc (suc (suc zero)))))))))))) l = inr (omega arith, omega arith, inl refl)
digit-written (suc (suc (suc (suc (suc (suc (suc (suc (suc (suc (suc (suc (suc zero))))))))))))) l = inr (omega arith, omega arith, inl refl)
digit-written (suc (suc (suc (suc (suc (suc (suc (suc (suc (suc (suc (suc (suc (suc zero)))))))))))))) l = inr (omega arith, omega arith, inl refl)
digit-written (suc (suc (suc (suc (suc (suc (suc (suc (suc (suc (suc (suc (suc (suc (suc zero))))))))))))))) l = inr (omega arith, omega arith, inl refl)
digit-written (suc (suc (suc (suc (suc (suc (suc (suc (suc (suc (suc (suc (suc (suc (suc (suc v)))))))))))))))) l = absurd (omega (arith, l))

pub pair-written : (b : ℕ) → b < 256 → IsPair (hex_digit (b / 16)) (hex_digit (b % 16)) b
pair-written b l = record {
  high = b / 16;
  low = b % 16;
  is_high = digit-written (b / 16) (div_below b 16 16 (omega arith) (omega (arith, l)));
  is_low = digit-written (b % 16) (omega arith);
  value = sym (div-add-mod' b 16);
}

-- ---- hex and blocks

abbrev AreBytes : List ℕ → Type 0
AreBytes bytes = AllByRecursion (λ b. b < 256) bytes

pairs-written : (bytes : List ℕ) → AreBytes bytes → IsPairs (flat_map pair_text bytes) bytes
pairs-written [] w = tt
pairs-written (b ∷ bytes) w = (pair-written b w.0, pairs-written bytes w.1)

pub hex-written : (bytes : List ℕ) → 0 < length bytes → AllByRecursion (λ b. b < 256) bytes → IsHex (hex_text bytes) bytes
unfolding hex_text
hex-written bytes there w = record { some = there; pairs = pairs-written bytes w }

all_same : (b : ℕ) (bytes : List ℕ) → list_all (λ c. eqb c b) bytes ≡ true → bytes ≡ replicate (length bytes) b
all_same b [] h = refl
all_same b (c ∷ bytes) h =
    let p = and_parts (eqb c b) (list_all (λ d. eqb d b) bytes) h in
    ap (λ d. d ∷ bytes) (eqb-true c b p.0) ∙ ap (λ l. b ∷ l) (all_same b bytes p.1)

first_small : (bytes : List ℕ) → AreBytes bytes → slice_index bytes 0 < 256
first_small [] w = omega arith
first_small (b ∷ bytes) w = w.0

block_by : (size : ℕ) (bytes : List ℕ) (t : Bool) → is_uniform bytes ≡ t → 0 < length bytes → length bytes ≡ size → AreBytes bytes
    → IsBlock size (cond t (42 ∷ pair_text (slice_index bytes 0)) (hex_text bytes)) bytes
block_by size bytes true e there long w =
    let p = and_parts (ltb 0 (length bytes)) (list_all (λ c. eqb c (slice_index bytes 0)) bytes) e in
    inr (record {
      first = hex_digit (slice_index bytes 0 / 16);
      second = hex_digit (slice_index bytes 0 % 16);
      b = slice_index bytes 0;
      spelled = refl;
      pair = pair-written (slice_index bytes 0) (first_small bytes w);
      throughout = all_same (slice_index bytes 0) bytes p.1 ∙ ap (λ n. replicate n (slice_index bytes 0)) long;
    })
block_by size bytes false e there long w = inl (record { hex = hex-written bytes there w; whole = long })

pub block-written : (size : ℕ) (bytes : List ℕ) → 0 < length bytes → length bytes ≡ size → AllByRecursion (λ b. b < 256) bytes → IsBlock size (block_text bytes) bytes
unfolding block_text
block-written size bytes there long w = block_by size bytes (is_uniform bytes) refl there long w

-- ---- lines

ends_more : (before text : List ℕ) → ends_line text ≡ true → ends_line (before ++ text) ≡ true
ends_more [] text h = h
ends_more (b ∷ []) [] h = absurd (cc)
ends_more (b ∷ []) (c ∷ text) h = h
ends_more (b ∷ c ∷ before) text h = ends_more (c ∷ before) text h

ends_last : (line : List ℕ) (lines : List (List ℕ)) → ends_line (flat_map ended (line ∷ lines)) ≡ true
ends_last line [] = ap ends_line (append-nil (line ++ 10 ∷ [])) ∙ ends_more line (10 ∷ []) refl
ends_last line (next ∷ lines) = ends_more (ended line) (flat_map ended (next ∷ lines)) (ends_last next lines)

pub lines-written : (line : List ℕ) (lines : List (List ℕ)) → AllByRecursion (Lacks 10) (line ∷ lines) → IsLines (flat_map ended (line ∷ lines)) (line ∷ lines)
lines-written line lines w = record { each = w; joined = sym (pick_true _ _ _ (ends_last line lines)) }

-- ---- no space and no line end

-- each byte is above that one
abbrev pub Above : ℕ → List ℕ → Type 0
Above m bytes = AllByRecursion (λ c. m < c) bytes

pub above_lacks : (b m : ℕ) (bytes : List ℕ) → b ≤ m → Above m bytes → Lacks b bytes
above_lacks b m [] l w = tt
above_lacks b m (c ∷ bytes) l w = let more = w.0 in ((λ e. absurd (omega (arith, l, more, e))), above_lacks b m bytes l w.1)

pub above_append : (m : ℕ) (bytes more : List ℕ) → Above m bytes → Above m more → Above m (bytes ++ more)
above_append m [] more w v = v
above_append m (b ∷ bytes) more w v = (w.0, above_append m bytes more w.1 v)

pub above_lower : (m n : ℕ) (bytes : List ℕ) → m ≤ n → Above n bytes → Above m bytes
above_lower m n [] l w = tt
above_lower m n (b ∷ bytes) l w = let more = w.0 in (omega (arith, l, more), above_lower m n bytes l w.1)

pub above_by : (m : ℕ) (bytes : List ℕ) → list_all (λ c. ltb m c) bytes ≡ true → Above m bytes
above_by m [] h = tt
above_by m (b ∷ bytes) h =
    let p = and_parts (ltb m b) (list_all (λ c. ltb m c) bytes) h in
    (ltb-true m b p.0, above_by m bytes p.1)

abbrev AreDigits : List ℕ → Type 0
AreDigits ds = AllByRecursion (λ d. (48 ≤ d) × (d ≤ 57)) ds

are_tests : IsDigitsTest AreDigits
are_tests = record { empty = tt; parts = λ c cs h. h; more = λ c cs r h. (r, h) }

digits_above : (ds : List ℕ) → AreDigits ds → Above 32 ds
digits_above [] w = tt
digits_above (d ∷ ds) w = let low = w.0.0 in (omega (arith, low), digits_above ds w.1)

pub number_above : (word : List ℕ) (n : ℕ) → IsNumber word n → Above 32 word
number_above word n w =
    subst (Above 32) (sym w.spelled) (digits_above (decimal n) (digits_decimal (numerals_by_value AreDigits are_tests) n w.fits))

digit_above : (c x : ℕ) → IsHexDigit c x → 32 < c
digit_above c x (inl w) = let is = w.1 in omega (arith, is)
digit_above c x (inr (from, below, inl is)) = omega (arith, is)
digit_above c x (inr (from, below, inr is)) = omega (arith, is)

pub pair_above : (first second b : ℕ) → IsPair first second b → Above 32 (first ∷ second ∷ [])
pair_above first second b w = (digit_above first w.high w.is_high, (digit_above second w.low w.is_low, tt))

pairs_above : (word bytes : List ℕ) → IsPairs word bytes → Above 32 word
pairs_above [] [] w = tt
pairs_above [] (b ∷ bytes) w = absurd w
pairs_above (first ∷ []) bytes w = absurd w
pairs_above (first ∷ second ∷ word) [] w = absurd w
pairs_above (first ∷ second ∷ word) (b ∷ bytes) w =
    let p = pair_above first second b w.0 in (p.0, (p.1.0, pairs_above word bytes w.1))

pub hex_above : (word bytes : List ℕ) → IsHex word bytes → Above 32 word
hex_above word bytes w = pairs_above word bytes w.pairs

pub block_above : (size : ℕ) (word bytes : List ℕ) → IsBlock size word bytes → Above 32 word
block_above size word bytes (inl w) = hex_above word bytes w.hex
block_above size word bytes (inr w) = subst (Above 32) (sym w.spelled) (omega arith, pair_above w.first w.second w.b w.pair)

pub lie_above : (word bytes : List ℕ) → IsLieBytes word bytes → Above 32 word
lie_above word bytes (inl w) = hex_above word bytes w
lie_above word bytes (inr w) = subst (Above 32) (sym w.spelled) (above_by 32 (codes "-") refl)
