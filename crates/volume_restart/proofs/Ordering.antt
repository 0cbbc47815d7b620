-- The order of headers: by session, and then by number.
use Rattle.std.proofs.Common.{◌≡◌, ◌<◌, ◌∙◌, ◌⊎◌, true, false, ◌==◌, ◌&&◌, nat_lt, Some, inl, inr, sym, arith}
use Rattle.std.proofs.lemmas.Bool.{ltb-true, eqb-true, eq-eqb, lt-ltb, and_parts, and_from, or_cases, or_left, or_right, false≢true, false_from_ne_true, cases_order}
use Rattle.salus_types.specs.declared.records.Header.{Header}
use Rattle.volume_model.specs.Recovering.{is_above}
use Rattle.volume_restart.specs.Choosing.{is_like}

-- a above b
abbrev pub Above : Header → Header → Type 0
Above a b = (b.session < a.session) ⊎ ((b.session ≡ a.session) × (b.seq < a.seq))

pub above-is : (a b : Header) → is_above a (Some b) ≡ true → Above a b
above-is a b e = elim (or_cases (nat_lt b.session a.session) ((b.session == a.session) && nat_lt b.seq a.seq) e) [
  | inl l ↦ inl (ltb-true b.session a.session l)
  | inr r ↦ let parts = and_parts (b.session == a.session) (nat_lt b.seq a.seq) r in inr (eqb-true b.session a.session parts.0, ltb-true b.seq a.seq parts.1)
]

pub is-above : (a b : Header) → Above a b → is_above a (Some b) ≡ true
is-above a b (inl l) = or_left (nat_lt b.session a.session) ((b.session == a.session) && nat_lt b.seq a.seq) (lt-ltb b.session a.session l)
is-above a b (inr r) =
    or_right (nat_lt b.session a.session) ((b.session == a.session) && nat_lt b.seq a.seq) (and_from (b.session == a.session) (nat_lt b.seq a.seq) (eq-eqb b.session a.session r.0) (lt-ltb b.seq a.seq r.1))

pub not-above : (a b : Header) → (Above a b → ⊥) → is_above a (Some b) ≡ false
not-above a b no_way = false_from_ne_true (is_above a (Some b)) (λ e. no_way (above-is a b e))

pub above-not : (a b : Header) → is_above a (Some b) ≡ false → Above a b → ⊥
above-not a b e up = false≢true (sym e ∙ is-above a b up)

above_through : (x b h : Header) → Above x b → (Above h b → ⊥) → Above h x → ⊥
above_through x b h (inl l) not (inl k) = not (inl (omega arith))
above_through x b h (inl l) not (inr k) = not (inl (omega (arith, k.0)))
above_through x b h (inr r) not (inl k) = not (inl (omega (arith, r.0)))
above_through x b h (inr r) not (inr k) = not (inr (r.0 ∙ k.0, omega (arith, r.1, k.1)))

-- what isn't above the lower one isn't above the higher one
pub through : (x b h : Header) → is_above x (Some b) ≡ true → is_above h (Some b) ≡ false → is_above h (Some x) ≡ false
through x b h up down = not-above h x (above_through x b h (above-is x b up) (above-not h b down))

irreflexive : (x : Header) → Above x x → ⊥
irreflexive x (inl l) = omega arith
irreflexive x (inr r) = omega (arith, r.1)

pub itself : (x : Header) → is_above x (Some x) ≡ false
itself x = not-above x x (irreflexive x)

-- of two headers one is above, or they are alike
like_by : (a b : Header) → (Above a b → ⊥) → (Above b a → ⊥) → (a.session ≡ b.session) × (a.seq ≡ b.seq)
like_by a b down up = elim (cases_order a.session b.session) [
  | inl e ↦ elim (cases_order a.seq b.seq) [
    | inl f ↦ (e, f)
    | inr (inl less) ↦ absurd (up (inr (e, less)))
    | inr (inr more) ↦ absurd (down (inr (sym e, more)))
  ]
  | inr (inl less) ↦ absurd (up (inl less))
  | inr (inr more) ↦ absurd (down (inl more))
]

pub alike : (a b : Header) → is_above a (Some b) ≡ false → is_above b (Some a) ≡ false → is_like a b ≡ true
alike a b down up =
    let same = like_by a b (above-not a b down) (above-not b a up) in
    and_from (a.session == b.session) (a.seq == b.seq) (eq-eqb a.session b.session same.0) (eq-eqb a.seq b.seq same.1)

above_like : (h n x : Header) → (h.session ≡ n.session) × (h.seq ≡ n.seq) → Above x h → Above x n
above_like h n x same (inl l) = inl (omega (arith, same.0))
above_like h n x same (inr r) = inr (sym same.0 ∙ r.0, omega (arith, same.1, r.1))

like_parts : (h n : Header) → is_like h n ≡ true → (h.session ≡ n.session) × (h.seq ≡ n.seq)
like_parts h n e = let parts = and_parts (h.session == n.session) (h.seq == n.seq) e in (eqb-true h.session n.session parts.0, eqb-true h.seq n.seq parts.1)

-- what is above one of two that are alike is above the other
pub above-like : (h n x : Header) → is_like h n ≡ true → is_above x (Some h) ≡ true → is_above x (Some n) ≡ true
above-like h n x like up = is-above x n (above_like h n x (like_parts h n like) (above-is x h up))

above_by : (h n x : Header) → (h.session ≡ n.session) × (h.seq ≡ n.seq) → Above h x → Above n x
above_by h n x same (inl l) = inl (omega (arith, same.0))
above_by h n x same (inr r) = inr (r.0 ∙ same.0, omega (arith, same.1, r.1))

pub above-by : (h n x : Header) → is_like h n ≡ true → is_above h (Some x) ≡ true → is_above n (Some x) ≡ true
above-by h n x like up = is-above n x (above_by h n x (like_parts h n like) (above-is h x up))

pub like-sym : (a b : Header) → is_like a b ≡ true → is_like b a ≡ true
like-sym a b e =
    let same = like_parts a b e in
    and_from (b.session == a.session) (b.seq == a.seq) (eq-eqb b.session a.session (sym same.0)) (eq-eqb b.seq a.seq (sym same.1))

above_trans : (a b d : Header) → Above a b → Above b d → Above a d
above_trans a b d (inl l) (inl k) = inl (omega arith)
above_trans a b d (inl l) (inr k) = inl (omega (arith, k.0))
above_trans a b d (inr r) (inl k) = inl (omega (arith, r.0))
above_trans a b d (inr r) (inr k) = inr (k.0 ∙ r.0, omega (arith, r.1, k.1))

pub above-trans : (a b d : Header) → is_above a (Some b) ≡ true → is_above b (Some d) ≡ true → is_above a (Some d) ≡ true
above-trans a b d x y = is-above a d (above_trans a b d (above-is a b x) (above-is b d y))
