-- A format: what is read is spelled so, and what is spelled so is read. What is put together of formats is one.
use Rattle.std.proofs.Common.{◌≡◌, ℕ, zero, suc, ◌+◌, ◌^◌, ◌<◌, ◌≤◌, Bool, true, false, cond, ltb, List, [], ◌∷◌, ◌++◌, length, get_or, take, drop, Result, Ok, Err, refl, sym, ap, subst, ◌∙◌, append_assoc, append-nil, arith, inl, inr}
use Rattle.std.specs.List.{flat_map, AllByRecursion}
use Rattle.std.proofs.lemmas.Bool.{cases_lt, ltb-false, le-ltb}
use Rattle.std.proofs.lemmas.List.{take_at, drop_at, take-append-drop, length-append, length-take, get_or-drop, get_or-take, get_or_past}
use Rattle.std.proofs.lemmas.List.Concat.{flat_map-cons}
use Rattle.byteorder.specs.Endian.{big_number}
use Rattle.byteorder.specs.Numbers.{length-bytes_high_first}
use Rattle.salus_codec.specs.declared.errors.FieldError.{FieldError}
use Rattle.salus_codec.specs.declared.errors.FieldError.TheVariants as error
use Rattle.salus_codec.specs.Spelling.{IsBytes, be1, be2, be4, be8}
use Rattle.salus_codec.specs.Reading.{Field, ◌>>=◌, bytes_at, number_at, u8_at, u16_at, u32_at, u64_at}
use Rattle.salus_codec.specs.Formats.{both, made, within, sized, times, counted}
use Rattle.salus_codec.proofs.OneSpelling.{number_of_bytes, same_bytes_1, same_bytes_2, same_bytes_4, same_bytes_8}

pub record IsFormat {A : Type 0} (spell : A → List ℕ) (Fits : A → Type 0) (reads : List ℕ → Field A) : Type 0 where
  pub takes : (bytes : List ℕ) (x : A) (rest : List ℕ) → IsBytes bytes → reads bytes ≡ Ok (x, rest) → (bytes ≡ spell x ++ rest) × Fits x
  pub again : (x : A) (rest : List ℕ) → Fits x → reads (spell x ++ rest) ≡ Ok (x, rest)

-- ---- tools

pub rest_fits : (bytes text rest : List ℕ) → bytes ≡ text ++ rest → IsBytes bytes → IsBytes rest
rest_fits bytes text rest e fits i =
    let d : drop (length text) bytes ≡ rest = ap (drop (length text)) e ∙ drop_at text rest (length text) refl in
    let h : get_or (drop (length text) bytes) i 0 < 256 = rw get_or-drop (fits (length text + i)) in
    subst (λ (l : List ℕ). get_or l i 0 < 256) d h

pub front_fits : (bytes text rest : List ℕ) → bytes ≡ text ++ rest → IsBytes bytes → IsBytes text
front_fits bytes text rest e fits i =
    let d : take (length text) bytes ≡ text = ap (take (length text)) e ∙ take_at text rest (length text) refl in
    let h : get_or (take (length text) bytes) i 0 < 256 =
    elim (cases_lt i (length text)) [
      | inl lt ↦ rw (get_or-take (length text) bytes i 0 lt) (fits i)
      | inr le ↦ rw (get_or_past (take (length text) bytes) i 0 (omega (arith, length-take (length text) bytes))) (omega arith)
    ] in
    subst (λ (l : List ℕ). get_or l i 0 < 256) d h

-- the value of a step that did not fail
pub bind_ok : {A B : Type 0} (r : Result A FieldError) (f : A → Result B FieldError) (y : B) → (r >>= f) ≡ Ok y → (x : A) × (r ≡ Ok x) × (f x ≡ Ok y)
bind_ok (Ok x) f y e = (x, refl, e)
bind_ok (Err d) f y e = absurd cc

-- a test that did not fail
guard_ok : {A : Type 0} (b : Bool) (d : FieldError) (x : Result A FieldError) (y : A) → cond b (Err d) x ≡ Ok y → (b ≡ false) × (x ≡ Ok y)
guard_ok true d x y e = absurd cc
guard_ok false d x y e = (refl, e)

abbrev done : {A : Type 0} → A → Result A FieldError
done x = Ok x

pub ok_is : {A : Type 0} (x y : A) → done x ≡ done y → x ≡ y
ok_is x y e = cc

-- no spelling is a proper prefix of another
pub no_prefix : {A : Type 0} {spell : A → List ℕ} {Fits : A → Type 0} {reads : List ℕ → Field A} → IsFormat spell Fits reads → (x y : A) (rest : List ℕ) → Fits x → Fits y → spell x ++ rest ≡ spell y → (x ≡ y) × (rest ≡ [])
no_prefix {spell} {Fits} {reads} p x y rest fx fy e =
    let same : reads (spell x ++ rest) ≡ reads (spell y ++ []) = ap reads (e ∙ sym (append-nil (spell y))) in
    let k = ok_is (x, rest) (y, []) (sym (p.again x rest fx) ∙ same ∙ p.again y [] fy) in
    (ap (λ q. q.0) k, ap (λ q. q.1) k)

-- ---- bytes and numbers

pub is_bytes : (count : ℕ) → IsFormat (λ (x : List ℕ). x) (λ x. length x ≡ count) (bytes_at count)
unfolding bytes_at
is_bytes count = record {
  takes = λ bytes x rest fits e.
      let g = guard_ok (ltb (length bytes) count) error.Short (Ok (take count bytes, drop count bytes)) (x, rest) e in
      let long : count ≤ length bytes = ltb-false _ _ g.0 in
      let k = ok_is (take count bytes, drop count bytes) (x, rest) g.1 in
      subst (λ (y : List ℕ × List ℕ). (bytes ≡ y.0 ++ y.1) × (length y.0 ≡ count)) k (sym (take-append-drop count bytes), omega (arith, length-take count bytes));
  again = λ x rest len.
      let long : ltb (length (x ++ rest)) count ≡ false = le-ltb _ _ (omega (arith, length-append x rest)) in
      rw (long, take_at x rest count len, drop_at x rest count len) refl;
}

-- a number in so many bytes
record IsWide (width limit : ℕ) (spell : ℕ → List ℕ) : Type 0 where
  pub same : (bytes : List ℕ) → length bytes ≡ width → IsBytes bytes → spell (big_number width bytes) ≡ bytes
  pub number : (n : ℕ) → n < limit → big_number width (spell n) ≡ n
  pub len : (n : ℕ) → length (spell n) ≡ width
  pub below : (bytes : List ℕ) → IsBytes bytes → big_number width bytes < limit

is_number : (width limit : ℕ) (spell : ℕ → List ℕ) → IsWide width limit spell → IsFormat spell (λ n. n < limit) (number_at width)
is_number width limit spell w = record {
  takes = λ bytes x rest fits e.
      let a = bind_ok (bytes_at width bytes) (λ b. Ok (big_number width b.0, b.1)) (x, rest) e in
      let t = (is_bytes width).takes bytes a.0.0 a.0.1 fits a.1 in
      let k = ok_is (big_number width a.0.0, a.0.1) (x, rest) a.2 in
      let head_fits : IsBytes a.0.0 = front_fits bytes a.0.0 a.0.1 t.0 fits in
      subst (λ (y : ℕ × List ℕ). (bytes ≡ spell y.0 ++ y.1) × (y.0 < limit)) k (t.0 ∙ ap (λ (l : List ℕ). l ++ a.0.1) (sym (w.same a.0.0 t.1 head_fits)), w.below a.0.0 head_fits);
  again = λ x rest lt. rw ((is_bytes width).again (spell x) rest (w.len x), w.number x lt) refl;
}

pub is_u8 : IsFormat be1 (λ n. n < 2 ^ 8) u8_at
unfolding be1 u8_at
is_u8 = is_number 1 (2 ^ 8) be1 (record {
  same = λ bytes len fits. same_bytes_1 bytes len fits;
  number = λ n lt. number_of_bytes 1 n lt;
  len = λ n. length-bytes_high_first 1 n;
  below = λ bytes fits. omega (arith, fits 0);
})

pub is_u16 : IsFormat be2 (λ n. n < 2 ^ 16) u16_at
unfolding be2 u16_at
is_u16 = is_number 2 (2 ^ 16) be2 (record {
  same = λ bytes len fits. same_bytes_2 bytes (big_number 2 bytes) len fits refl;
  number = λ n lt. number_of_bytes 2 n lt;
  len = λ n. length-bytes_high_first 2 n;
  below = λ bytes fits. omega (arith, fits 0, fits 1);
})

pub is_u32 : IsFormat be4 (λ n. n < 2 ^ 32) u32_at
unfolding be4 u32_at
is_u32 = is_number 4 (2 ^ 32) be4 (record {
  same = λ bytes len fits. same_bytes_4 bytes (big_number 4 bytes) len fits refl;
  number = λ n lt. number_of_bytes 4 n lt;
  len = λ n. length-bytes_high_first 4 n;
  below = λ bytes fits. omega (arith, fits 0, fits 1, fits 2, fits 3);
})

pub is_u64 : IsFormat be8 (λ n. n < 2 ^ 64) u64_at
unfolding be8 u64_at
is_u64 = is_number 8 (2 ^ 64) be8 (record {
  same = λ bytes len fits. same_bytes_8 bytes (big_number 8 bytes) len fits refl;
  number = λ n lt. number_of_bytes 8 n lt;
  len = λ n. length-bytes_high_first 8 n;
  below = λ bytes fits. omega (arith, fits 0, fits 1, fits 2, fits 3, fits 4, fits 5, fits 6, fits 7);
})

-- ---- put together

pub is_both : {A B : Type 0} {f : A → List ℕ} {F : A → Type 0} {r : List ℕ → Field A} {g : B → List ℕ} {G : B → Type 0} {s : List ℕ → Field B}
    → IsFormat f F r → IsFormat g G s → IsFormat (λ (x : A × B). f x.0 ++ g x.1) (λ x. F x.0 × G x.1) (both r s)
is_both {A} {B} {f} {F} {r} {g} {G} {s} p q = record {
  takes = λ bytes x rest fits e.
      let a = bind_ok (r bytes) (λ a. s a.1 >>= λ b. Ok ((a.0, b.0), b.1)) (x, rest) e in
      let b = bind_ok (s a.0.1) (λ b. Ok ((a.0.0, b.0), b.1)) (x, rest) a.2 in
      let ta = p.takes bytes a.0.0 a.0.1 fits a.1 in
      let tb = q.takes a.0.1 b.0.0 b.0.1 (rest_fits bytes (f a.0.0) a.0.1 ta.0 fits) b.1 in
      let k = ok_is ((a.0.0, b.0.0), b.0.1) (x, rest) b.2 in
      let whole : bytes ≡ (f a.0.0 ++ g b.0.0) ++ b.0.1 = ta.0 ∙ ap (λ (l : List ℕ). f a.0.0 ++ l) tb.0 ∙ sym (append_assoc (f a.0.0) (g b.0.0) b.0.1) in
      subst (λ (y : (A × B) × List ℕ). (bytes ≡ (f y.0.0 ++ g y.0.1) ++ y.1) × (F y.0.0 × G y.0.1)) k (whole, (ta.1, tb.1));
  again = λ x rest fits.
      ap (both r s) (append_assoc (f x.0) (g x.1) rest) ∙ rw (p.again x.0 (g x.1 ++ rest) fits.0, q.again x.1 rest fits.1) refl;
}

pub is_made : {A B : Type 0} {f : A → List ℕ} {F : A → Type 0} {r : List ℕ → Field A} → IsFormat f F r → (value : A → B) (parts : B → A) (spell : B → List ℕ) (Fits : B → Type 0)
    → ((a : A) → F a → (f a ≡ spell (value a)) × Fits (value a)) → ((b : B) → Fits b → (spell b ≡ f (parts b)) × F (parts b) × (value (parts b) ≡ b)) → IsFormat spell Fits (made value r)
is_made {A} {B} {f} {F} {r} p value parts spell Fits there back = record {
  takes = λ bytes x rest fits e.
      let a = bind_ok (r bytes) (λ a. Ok (value a.0, a.1)) (x, rest) e in
      let t = p.takes bytes a.0.0 a.0.1 fits a.1 in
      let k = ok_is (value a.0.0, a.0.1) (x, rest) a.2 in
      let h = there a.0.0 t.1 in
      subst (λ (y : B × List ℕ). (bytes ≡ spell y.0 ++ y.1) × Fits y.0) k (t.0 ∙ ap (λ (l : List ℕ). l ++ a.0.1) h.0, h.1);
  again = λ x rest fits.
      let h = back x fits in
      ap (λ (l : List ℕ). made value r (l ++ rest)) h.0 ∙ rw (p.again (parts x) rest h.1, h.2) refl;
}

pub is_within : {f : ℕ → List ℕ} {F : ℕ → Type 0} {r : List ℕ → Field ℕ} (low high : ℕ) → IsFormat f F r → IsFormat f (λ n. F n × (low ≤ n) × (n ≤ high)) (within low high r)
is_within {f} {F} {r} low high p = record {
  takes = λ bytes x rest fits e.
      let a = bind_ok (r bytes) (λ n. cond (ltb n.0 low) (Err error.Count) (cond (ltb high n.0) (Err error.Count) (Ok n))) (x, rest) e in
      let t = p.takes bytes a.0.0 a.0.1 fits a.1 in
      let g = guard_ok (ltb a.0.0 low) error.Count (cond (ltb high a.0.0) (Err error.Count) (Ok a.0)) (x, rest) a.2 in
      let h = guard_ok (ltb high a.0.0) error.Count (Ok a.0) (x, rest) g.1 in
      let k = ok_is a.0 (x, rest) h.1 in
      subst (λ (y : ℕ × List ℕ). (bytes ≡ f y.0 ++ y.1) × (F y.0 × (low ≤ y.0) × (y.0 ≤ high))) k (t.0, (t.1, ltb-false _ _ g.0, ltb-false _ _ h.0));
  again = λ x rest fits.
      let l : ltb x low ≡ false = le-ltb _ _ fits.1 in
      let h : ltb high x ≡ false = le-ltb _ _ fits.2 in
      rw (p.again x rest fits.0, l, h) refl;
}

pub is_sized : {f : ℕ → List ℕ} {F : ℕ → Type 0} {r : List ℕ → Field ℕ} → IsFormat f F r → IsFormat (λ (x : List ℕ). f (length x) ++ x) (λ x. F (length x)) (sized r)
is_sized {f} {F} {r} p = record {
  takes = λ bytes x rest fits e.
      let a = bind_ok (r bytes) (λ n. bytes_at n.0 n.1) (x, rest) e in
      let t = p.takes bytes a.0.0 a.0.1 fits a.1 in
      let u = (is_bytes a.0.0).takes a.0.1 x rest (rest_fits bytes (f a.0.0) a.0.1 t.0 fits) a.2 in
      (subst (λ (n : ℕ). bytes ≡ (f n ++ x) ++ rest) (sym u.1) (t.0 ∙ ap (λ (l : List ℕ). f a.0.0 ++ l) u.0 ∙ sym (append_assoc (f a.0.0) x rest)), subst F (sym u.1) t.1);
  again = λ x rest fits.
      ap (sized r) (append_assoc (f (length x)) x rest) ∙ rw (p.again (length x) (x ++ rest) fits, (is_bytes (length x)).again x rest refl) refl;
}

pub times_takes : {A : Type 0} {f : A → List ℕ} {F : A → Type 0} {r : List ℕ → Field A} → IsFormat f F r → (n : ℕ) (bytes : List ℕ) (x : List A × List ℕ) → IsBytes bytes → times r n bytes ≡ Ok x
    → (bytes ≡ flat_map f x.0 ++ x.1) × (length x.0 ≡ n) × AllByRecursion F x.0
unfolding times
times_takes {A} {f} {F} {r} p zero bytes x fits e = subst (λ (y : List A × List ℕ). (bytes ≡ flat_map f y.0 ++ y.1) × (length y.0 ≡ 0) × AllByRecursion F y.0) (ok_is ([], bytes) x e) (refl, refl, tt)
times_takes {A} {f} {F} {r} p (suc n) bytes x fits e =
    let a = bind_ok (r bytes) (λ a. times r n a.1 >>= λ b. Ok (a.0 ∷ b.0, b.1)) x e in
    let b = bind_ok (times r n a.0.1) (λ b. Ok (a.0.0 ∷ b.0, b.1)) x a.2 in
    let t = p.takes bytes a.0.0 a.0.1 fits a.1 in
    let u = times_takes p n a.0.1 b.0 (rest_fits bytes (f a.0.0) a.0.1 t.0 fits) b.1 in
    let whole : bytes ≡ (f a.0.0 ++ flat_map f b.0.0) ++ b.0.1 = t.0 ∙ ap (λ (l : List ℕ). f a.0.0 ++ l) u.0 ∙ sym (append_assoc (f a.0.0) (flat_map f b.0.0) b.0.1) in
    subst (λ (y : List A × List ℕ). (bytes ≡ flat_map f y.0 ++ y.1) × (length y.0 ≡ suc n) × AllByRecursion F y.0) (ok_is (a.0.0 ∷ b.0.0, b.0.1) x b.2) (rw flat_map-cons whole, ap suc u.1, (t.1, u.2))

pub times_again : {A : Type 0} {f : A → List ℕ} {F : A → Type 0} {r : List ℕ → Field A} → IsFormat f F r → (xs : List A) (rest : List ℕ) → AllByRecursion F xs → times r (length xs) (flat_map f xs ++ rest) ≡ Ok (xs, rest)
unfolding times
times_again p [] rest fits = refl
times_again {A} {f} {F} {r} p (x ∷ xs) rest fits =
    let regrouped : flat_map f (x ∷ xs) ++ rest ≡ f x ++ (flat_map f xs ++ rest) = ap (λ (l : List ℕ). l ++ rest) (flat_map-cons f x xs) ∙ append_assoc (f x) (flat_map f xs) rest in
    ap (times r (suc (length xs))) regrouped ∙ rw (p.again x (flat_map f xs ++ rest) fits.0, times_again p xs rest fits.1) refl

pub is_counted : {A : Type 0} {f : ℕ → List ℕ} {F : ℕ → Type 0} {r : List ℕ → Field ℕ} {g : A → List ℕ} {G : A → Type 0} {s : List ℕ → Field A}
    → IsFormat f F r → IsFormat g G s → IsFormat (λ (x : List A). f (length x) ++ flat_map g x) (λ x. F (length x) × AllByRecursion G x) (counted r s)
is_counted {A} {f} {F} {r} {g} {G} {s} p q = record {
  takes = λ bytes x rest fits e.
      let a = bind_ok (r bytes) (λ n. times s n.0 n.1) (x, rest) e in
      let t = p.takes bytes a.0.0 a.0.1 fits a.1 in
      let u = times_takes q a.0.0 a.0.1 (x, rest) (rest_fits bytes (f a.0.0) a.0.1 t.0 fits) a.2 in
      (subst (λ (n : ℕ). bytes ≡ (f n ++ flat_map g x) ++ rest) (sym u.1) (t.0 ∙ ap (λ (l : List ℕ). f a.0.0 ++ l) u.0 ∙ sym (append_assoc (f a.0.0) (flat_map g x) rest)), (subst F (sym u.1) t.1, u.2));
  again = λ x rest fits.
      ap (counted r s) (append_assoc (f (length x)) (flat_map g x) rest) ∙ rw (p.again (length x) (flat_map g x ++ rest) fits.0, times_again q x rest fits.1) refl;
}
