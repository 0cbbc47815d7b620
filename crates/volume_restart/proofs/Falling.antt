-- The search from the greatest downwards ends: fewer headers are below at each step.
use Rattle.std.proofs.Common.{◌≡◌, ℕ, ◌<◌, ◌≤◌, ◌∙◌, Bool, true, false, cond, List, [], ◌∷◌, length, None, Some, Option, inl, inr, refl, sym, subst, arith}
use Rattle.std.specs.Prelude.{filter}
use Rattle.std.proofs.lemmas.Bool.{false≢true}
use Rattle.salus_types.specs.declared.records.Header.{Header}
use Rattle.merkle_region.specs.Tree.{IsAmong}
use Rattle.volume_restart.specs.Choosing.{is_below, IsNext}
use Rattle.volume_restart.proofs.Ordering.{above-trans, itself}

-- how many of the headers are below
abbrev pub left_below : List Header → Option Header → ℕ
left_below headers tried = length (filter (λ h. is_below h tried) headers)

module _ {A : Type 0} (p q : A → Bool) (fewer : (x : A) → q x ≡ true → p x ≡ true) where
  one_le : (x : A) (ps qs : List A) (s t : Bool) → p x ≡ s → q x ≡ t → length qs ≤ length ps → length (cond t (x ∷ qs) qs) ≤ length (cond s (x ∷ ps) ps)
  one_le x ps qs true true a b le = omega arith
  one_le x ps qs true false a b le = omega arith
  one_le x ps qs false true a b le = absurd (false≢true (sym a ∙ fewer x b))
  one_le x ps qs false false a b le = le

  all_le : (xs : List A) → length (filter q xs) ≤ length (filter p xs)
  all_le [] = omega arith
  all_le (x ∷ xs) = one_le x (filter p xs) (filter q xs) (p x) (q x) refl refl (all_le xs)

  one_lt : (x : A) (ps qs : List A) (s t : Bool) → p x ≡ s → q x ≡ t → length qs < length ps → length (cond t (x ∷ qs) qs) < length (cond s (x ∷ ps) ps)
  one_lt x ps qs true true a b lt = omega arith
  one_lt x ps qs true false a b lt = omega arith
  one_lt x ps qs false true a b lt = absurd (false≢true (sym a ∙ fewer x b))
  one_lt x ps qs false false a b lt = lt

  here_lt : (x : A) (ps qs : List A) (s t : Bool) → s ≡ true → t ≡ false → length qs ≤ length ps → length (cond t (x ∷ qs) qs) < length (cond s (x ∷ ps) ps)
  here_lt x ps qs true true a b le = absurd (false≢true (sym b))
  here_lt x ps qs true false a b le = omega arith
  here_lt x ps qs false t a b le = absurd (false≢true a)

  pub fewer-pass : (n : A) (xs : List A) → IsAmong n xs → p n ≡ true → q n ≡ false → length (filter q xs) < length (filter p xs)
  fewer-pass n [] m a b = absurd m
  fewer-pass n (x ∷ xs) (inl e) a b =
      here_lt x (filter p xs) (filter q xs) (p x) (q x) (subst (λ y. p y ≡ true) e a) (subst (λ y. q y ≡ false) e b) (all_le xs)
  fewer-pass n (x ∷ xs) (inr m) a b = one_lt x (filter p xs) (filter q xs) (p x) (q x) refl refl (fewer-pass n xs m a b)

below_both : (tried : Option Header) (n h : Header) → is_below n tried ≡ true → is_below h (Some n) ≡ true → is_below h tried ≡ true
below_both None n h a b = refl
below_both (Some t) n h a b = above-trans t n h a b

pub falls : (headers : List Header) (tried : Option Header) (n : Header) → IsNext headers tried (Some n) → left_below headers (Some n) < left_below headers tried
falls headers tried n next =
    fewer-pass (λ h. is_below h tried) (λ h. is_below h (Some n)) (λ h b. below_both tried n h next.1 b) n headers next.0 next.1 (itself n)
