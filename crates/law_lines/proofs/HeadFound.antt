-- The question of the head that an answer is to.
use Rattle.std.proofs.Common.{◌≡◌, ℕ, zero, suc, ◌+◌, ◌*◌, ◌^◌, ◌<◌, ◌≤◌, Bool, true, false, not, cond, ◌&&◌, ◌||◌, ◌==◌, ◌∙◌, nat_lt, if◌then◌else◌, List, [], ◌∷◌, ◌++◌, None, Some, refl, ap, ap₂, sym, subst, arith, eqb-true, eq-eqb, lt-ltb}
use Rattle.std.specs.Prelude.{filter, find}
use Rattle.std.specs.List.{list_any, list_all, range_with_len}
use Rattle.std.proofs.lemmas.List.Elements.{filter-append}
use Rattle.std.proofs.lemmas.Bool.{and_parts, or_parts}
use Rattle.salus_types.specs.Volume.{Shape, blocks}
use Rattle.salus_message.specs.declared.replies.Answer.{Answer}
use Rattle.volume_model.specs.Contents.{Batch}
use Rattle.volume_model.specs.Parts.{blocks_of}
use Rattle.salus_model.specs.Waiting.{Question, questions_from}
use Rattle.list_lemmas.proofs.Tests.{by_test, unequal, unequal_up, or_true}
use Rattle.law_lines.proofs.Hitting.{hits}
use Rattle.law_lines.proofs.Finding.{find-back}

-- the number of a question is q's
abbrev pub is_at : ℕ → Question → Bool
is_at number o = o.number == number

-- One question of the head has the answer's number.
pub record FoundHead (a : Answer) (v : ℕ) (inside : ℕ → Bool) (qs : List Question) (q : Question) : Type 0 where
  pub front : List Question
  pub behind : List Question
  pub whole : qs ≡ front ++ q ∷ behind
  pub event : q.event ≡ v
  pub asked : a.read ≡ q.number
  pub block : a.block ≡ q.block
  pub within : inside q.block ≡ true
  pub front_off : list_any (is_at q.number) front ≡ false
  pub behind_off : list_any (is_at q.number) behind ≡ false

-- the numbers rise
later-off : (v k j : ℕ) (bs : List ℕ) → k < j → list_any (is_at (2 ^ 32 * k + v)) (questions_from v j bs) ≡ false
unfolding questions_from
later-off v k j [] less = refl
later-off v k j (b ∷ bs) less = ap₂ (λ x y. x || y) (unequal (2 ^ 32 * k + v) (2 ^ 32 * j + v) (omega (arith, less))) (later-off v k (j + 1) bs (omega (arith, less)))

later-number : (a : Answer) (v k j : ℕ) (bs : List ℕ) (q : Question) → k < j → find (hits a) (questions_from v j bs) ≡ Some q → 2 ^ 32 * k + v < q.number
unfolding questions_from
later-number a v k j [] q less = λ is. absurd (cc)
later-number a v k j (b ∷ bs) q less =
    by_test (λ t. cond t (Some (record { event = v; number = 2 ^ 32 * j + v; block = b })) (find (hits a) (questions_from v (j + 1) bs)) ≡ Some q → 2 ^ 32 * k + v < q.number)
    (hits a (record { event = v; number = 2 ^ 32 * j + v; block = b }))
    (λ _ is.
    let same : record { event = v; number = 2 ^ 32 * j + v; block = b } ≡ q = cc in
    let number : 2 ^ 32 * j + v ≡ q.number = ap (λ x. x.number) same in omega (arith, number, less))
    (λ _ is. later-number a v k (j + 1) bs q (omega (arith, less)) is)

pub found-head : (a : Answer) (v : ℕ) (inside : ℕ → Bool) (bs : List ℕ) (j : ℕ) (q : Question) → list_all inside bs ≡ true
    → find (hits a) (questions_from v j bs) ≡ Some q → FoundHead a v inside (questions_from v j bs) q
unfolding questions_from
found-head a v inside [] j q all = λ is. absurd (cc)
found-head a v inside (b ∷ bs) j q all =
    let here : Question = record { event = v; number = 2 ^ 32 * j + v; block = b } in
    let rest : List Question = questions_from v (j + 1) bs in
    let ins = and_parts (inside b) (list_all inside bs) all in
    by_test (λ t. hits a here ≡ t → cond t (Some here) (find (hits a) rest) ≡ Some q → FoundHead a v inside (here ∷ rest) q) (hits a here)
    (λ _ hit is.
    let same : here ≡ q = cc in
    let s = and_parts (a.read == here.number) (a.block == b) hit in
    subst (λ x. FoundHead a v inside (here ∷ rest) x) same
    (record {
      front = [];
      behind = rest;
      whole = refl;
      event = refl;
      asked = eqb-true a.read here.number s.0;
      block = eqb-true a.block b s.1;
      within = ins.0;
      front_off = refl;
      behind_off = later-off v j (j + 1) bs (omega arith);
    }))
    (λ _ off is.
    let f = found-head a v inside bs (j + 1) q ins.1 is in
    let up = later-number a v j (j + 1) bs q (omega arith) is in
    record {
      front = here ∷ f.front;
      behind = f.behind;
      whole = ap (λ l. here ∷ l) f.whole;
      event = f.event;
      asked = f.asked;
      block = f.block;
      within = f.within;
      front_off = ap₂ (λ x y. x || y) (unequal_up here.number q.number up) f.front_off;
      behind_off = f.behind_off;
    }) refl

-- ---- the blocks of a write are blocks of the volume

in_range : (p : ℕ → Bool) (a n m : ℕ) → a + n ≤ m → list_all (λ b. nat_lt b m) (filter p (range_with_len a n)) ≡ true
in_range p a zero m up = refl
in_range p a (suc n) m up =
    by_test (λ t. list_all (λ b. nat_lt b m) (cond t (a ∷ filter p (range_with_len (a + 1) n)) (filter p (range_with_len (a + 1) n))) ≡ true) (p a)
    (λ _. ap₂ (λ x y. x && y) (lt-ltb a m (omega (arith, up))) (in_range p (a + 1) n m (omega (arith, up))))
    (λ _. in_range p (a + 1) n m (omega (arith, up)))

pub blocks-inside : (shape : Shape) (batch : Batch) → list_all (λ b. nat_lt b (blocks shape)) (blocks_of shape batch) ≡ true
blocks-inside shape batch = in_range _ 0 (blocks shape) (blocks shape) (omega arith)

-- ---- filters around it

pub filter-off : (number : ℕ) (qs : List Question) → list_any (is_at number) qs ≡ false → filter (λ o. not (is_at number o)) qs ≡ qs
filter-off number [] off = refl
filter-off number (o ∷ qs) off =
    let s = or_parts (is_at number o) _ off in
    ap (λ t. cond (not t) (o ∷ filter (λ x. not (is_at number x)) qs) (filter (λ x. not (is_at number x)) qs)) s.0 ∙ ap (λ l. o ∷ l) (filter-off number qs s.1)

pub any-filter : (p u : Question → Bool) (qs : List Question) → list_any p qs ≡ false → list_any p (filter u qs) ≡ false
any-filter p u [] off = refl
any-filter p u (o ∷ qs) off =
    let s = or_parts (p o) _ off in
    by_test (λ t. list_any p (cond t (o ∷ filter u qs) (filter u qs)) ≡ false) (u o) (λ _. ap₂ (λ x y. x || y) s.0 (any-filter p u qs s.1)) (λ _. any-filter p u qs s.1)

pub off-hits : (a : Answer) (number : ℕ) (qs : List Question) → a.read ≡ number → list_any (is_at number) qs ≡ false → list_any (hits a) qs ≡ false
off-hits a number [] same off = refl
off-hits a number (o ∷ qs) same off =
    let s = or_parts (is_at number o) _ off in
    ap₂ (λ x y. x || y) (ap (λ t. t && (a.block == o.block)) (turned o s.0)) (off-hits a number qs same s.1)
  where
    turned : (x : Question) → is_at number x ≡ false → (a.read == x.number) ≡ false
    turned x apart =
        by_test (λ t. (a.read == x.number) ≡ t → t ≡ false) (a.read == x.number)
        (λ _ at. let eq : a.read ≡ x.number = eqb-true a.read x.number at in
        let back : (x.number == number) ≡ true = eq-eqb x.number number (sym eq ∙ same) in absurd (cc (back, apart))) (λ _ _. refl) refl

-- without it
pub closed-parts : (u : Question → Bool) (q : Question) (front behind : List Question) → list_any (is_at q.number) front ≡ false → list_any (is_at q.number) behind ≡ false
    → filter (λ o. not (is_at q.number o)) (filter u (front ++ q ∷ behind)) ≡ filter u front ++ filter u behind
closed-parts u q front behind off later =
    ap (filter (λ o. not (is_at q.number o))) (filter-append u front (q ∷ behind))
    ∙ filter-append (λ o. not (is_at q.number o)) (filter u front) (filter u (q ∷ behind))
    ∙ ap₂ (λ x y. x ++ y) (filter-off q.number (filter u front) (any-filter (is_at q.number) u front off)) (one (u q))
  where
    one : (t : Bool) → filter (λ o. not (is_at q.number o)) (cond t (q ∷ filter u behind) (filter u behind)) ≡ filter u behind
    one true =
        ap (λ t. cond (not t) (q ∷ filter (λ o. not (is_at q.number o)) (filter u behind)) (filter (λ o. not (is_at q.number o)) (filter u behind))) (eq-eqb q.number q.number refl)
        ∙ filter-off q.number (filter u behind) (any-filter (is_at q.number) u behind later)
    one false = filter-off q.number (filter u behind) (any-filter (is_at q.number) u behind later)

pub find-off : (p : Question → Bool) (qs : List Question) → list_any p qs ≡ false → find p qs ≡ None
find-off p [] off = refl
find-off p (o ∷ qs) off = let s = or_parts (p o) _ off in rw s.0 (find-off p qs s.1)

-- what the client finds among those that aren't known
pub find-filter : (a : Answer) (u : Question → Bool) (q : Question) (front behind : List Question) → list_any (hits a) front ≡ false → list_any (hits a) behind ≡ false → hits a q ≡ true
    → find (hits a) (filter u (front ++ q ∷ behind)) ≡ (if u q then Some q else None)
find-filter a u q front behind off later hit =
    ap (find (hits a)) (filter-append u front (q ∷ behind))
    ∙ find-back (hits a) (filter u front) (filter u (q ∷ behind)) (any-filter (hits a) u front off)
    ∙ one (u q)
  where
    one : (t : Bool) → find (hits a) (cond t (q ∷ filter u behind) (filter u behind)) ≡ (if t then Some q else None)
    one true = ap (λ t. cond t (Some q) (find (hits a) (filter u behind))) hit
    one false = find-off (hits a) (filter u behind) (any-filter (hits a) u behind later)

-- every other question is known exactly where the client waits for none
abbrev pub is_nil : List Question → Bool
is_nil [] = true
is_nil (o ∷ qs) = false

pub all-known : (m k : Question → Bool) (qs : List Question) → list_all (λ o. m o || k o) qs ≡ is_nil (filter (λ o. not (m o)) (filter (λ o. not (k o)) qs))
all-known m k [] = refl
all-known m k (o ∷ qs) =
    by_test (λ t. k o ≡ t → ((m o || t) && list_all (λ x. m x || k x) qs) ≡ is_nil (filter (λ x. not (m x)) (cond (not t) (o ∷ filter (λ x. not (k x)) qs) (filter (λ x. not (k x)) qs)))) (k o)
    (λ _ _. ap (λ t. t && list_all (λ x. m x || k x) qs) (or_true (m o)) ∙ all-known m k qs)
    (λ _ _. by_test (λ t. m o ≡ t → ((t || false) && list_all (λ x. m x || k x) qs) ≡ is_nil (cond (not t) (o ∷ filter (λ x. not (m x)) (filter (λ x. not (k x)) qs)) (filter (λ x. not (m x)) (filter (λ x. not (k x)) qs)))) (m o)
    (λ _ _. all-known m k qs) (λ _ _. refl) refl) refl
