-- One of each list: which picks there are, and where there is at most one.
use Rattle.std.proofs.Common.{◌≡◌, ℕ, zero, suc, ◌<◌, ◌∙◌, Bool, true, false, cond, List, [], ◌∷◌, ◌++◌, length, map, get_or, None, Some, inl, inr, refl, ap, subst, sym, arith}
use Rattle.std.specs.Prelude.{find, flat_map}
use Rattle.std.proofs.lemmas.Bool.{false≢true}
use Rattle.merkle_region.specs.Tree.{IsAmong}
use Rattle.volume_model.specs.Recovering.{picks}
use Rattle.list_lemmas.proofs.Members.{among_map, among_map-in, among_flat_map, among_flat_map-in}

module _ {A : Type 0} where
  pub pick-in : (d : A) (e : List A) (choices : List (List A)) (pick : List A) → length pick ≡ length choices
      → ((g : ℕ) → g < length choices → IsAmong (get_or pick g d) (get_or choices g e)) → IsAmong pick (picks choices)
  unfolding picks
  pick-in d e [] [] n each = inl refl
  pick-in d e [] (x ∷ pick) n each = absurd (omega arith)
  pick-in d e (xs ∷ choices) [] n each = absurd (omega arith)
  pick-in d e (xs ∷ choices) (x ∷ pick) n each =
      let first : IsAmong x xs = each 0 (omega arith) in
      let others = pick-in d e choices pick (omega arith) (λ g lt. each (suc g) (omega arith)) in
      among_flat_map-in (λ y. map (λ rest. y ∷ rest) (picks choices)) x (x ∷ pick) xs first (among_map-in (λ (rest : List A). x ∷ rest) (picks choices) pick others)

  -- a list of which nothing can be picked
  none_of : (choices : List (List A)) (xs : List A) → picks choices ≡ [] → flat_map (λ x. map (λ rest. x ∷ rest) (picks choices)) xs ≡ []
  none_of choices [] e = refl
  none_of choices (x ∷ xs) e = ap (λ (ps : List (List A)). map (λ rest. x ∷ rest) ps ++ flat_map (λ y. map (λ rest. y ∷ rest) (picks choices)) xs) e ∙ none_of choices xs e

  pub no-pick : (e : List A) (choices : List (List A)) (g : ℕ) → g < length choices → get_or choices g e ≡ [] → picks choices ≡ []
  unfolding picks
  no-pick e [] g lt is = absurd (omega arith)
  no-pick e (xs ∷ choices) zero lt is = ap (λ (ys : List A). flat_map (λ x. map (λ rest. x ∷ rest) (picks choices)) ys) is
  no-pick e (xs ∷ choices) (suc g) lt is = none_of choices xs (no-pick e choices g (omega arith) is)

  -- all that can be picked of each list is one thing
  abbrev pub IsOne : List A → Type 0
  IsOne xs = (x y : A) → IsAmong x xs → IsAmong y xs → x ≡ y

  pub one-pick : (choices : List (List A)) → ((xs : List A) → IsAmong xs choices → IsOne xs) → (p q : List A) → IsAmong p (picks choices) → IsAmong q (picks choices) → p ≡ q
  unfolding picks
  one-pick [] one p q (inl e) (inl f) = e ∙ sym f
  one-pick [] one p q (inl e) (inr n) = absurd n
  one-pick [] one p q (inr m) n = absurd m
  one-pick (xs ∷ choices) one p q m n =
      let a = among_flat_map (λ x. map (λ rest. x ∷ rest) (picks choices)) p xs m in
      let b = among_flat_map (λ x. map (λ rest. x ∷ rest) (picks choices)) q xs n in
      let c = among_map (λ (rest : List A). a.0 ∷ rest) p (picks choices) a.2 in
      let d = among_map (λ (rest : List A). b.0 ∷ rest) q (picks choices) b.2 in
      let first : a.0 ≡ b.0 = one xs (inl refl) a.0 b.0 a.1 b.1 in
      let others : c.0 ≡ d.0 = one-pick choices (λ ys k. one ys (inr k)) c.0 d.0 c.1 d.1 in
      c.2 ∙ (ap (λ (x : A). x ∷ c.0) first ∙ (ap (λ (rest : List A). b.0 ∷ rest) others ∙ sym d.2))

  find_one : (test : A → Bool) (x y : A) (xs : List A) (t : Bool) → test y ≡ t → test x ≡ true → x ≡ y → cond t (Some y) (find test xs) ≡ Some x
  find_one test x y xs true is good same = ap Some (sym same)
  find_one test x y xs false is good same = absurd (false≢true (sym is ∙ (sym (ap test same) ∙ good)))

  -- the only one passes the test
  pub find-one : (test : A → Bool) (x : A) (xs : List A) → IsOne xs → IsAmong x xs → test x ≡ true → find test xs ≡ Some x
  find-one test x [] one m good = absurd m
  find-one test x (y ∷ xs) one m good = find_one test x y xs (test y) refl good (one x y m (inl refl))

  find_none : (test : A → Bool) (y : A) (xs : List A) (t : Bool) → test y ≡ t → test y ≡ false → find test xs ≡ None → cond t (Some y) (find test xs) ≡ None
  find_none test y xs true is bad rest = absurd (false≢true (sym bad ∙ is))
  find_none test y xs false is bad rest = rest

  pub find-none : (test : A → Bool) (xs : List A) → ((x : A) → IsAmong x xs → test x ≡ false) → find test xs ≡ None
  find-none test [] bad = refl
  find-none test (y ∷ xs) bad = find_none test y xs (test y) refl (bad y (inl refl)) (find-none test xs (λ x m. bad x (inr m)))

  -- the only one fails the test
  pub find-not : (test : A → Bool) (x : A) (xs : List A) → IsOne xs → IsAmong x xs → test x ≡ false → find test xs ≡ None
  find-not test x xs one m bad = find-none test xs (λ y n. subst (λ z. test z ≡ false) (one x y m n) bad)
