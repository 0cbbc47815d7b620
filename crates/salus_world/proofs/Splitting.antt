-- Disks that are taken one by one, of a list that is turned round.
use Rattle.std.proofs.Common.{◌≡◌, ◌∙◌, ℕ, zero, suc, ◌+◌, ◌<◌, List, [], ◌∷◌, ◌++◌, length, reverse, slice_get, Some, refl, sym, ap, subst, append_assoc, append-nil, length-append, arith}
use Rattle.std.specs.List.{AllByRecursion}
use Rattle.std.proofs.lemmas.List.{reverse-append, length_push}
use Rattle.std.proofs.lemmas.Option.{none-some, same_Some}
use Rattle.list_lemmas.proofs.Each.{all_split}
use Rattle.list_lemmas.proofs.Lists.{get_after}

-- so many are taken, and the others are left, the last one first
pub record AreSplit {A : Type 0} (all left : List A) (count : ℕ) : Type 0 where
  pub taken : List A
  pub whole : all ≡ taken ++ reverse left
  pub long : length taken ≡ count

module _ {A : Type 0} where
  twice : (xs : List A) → reverse (reverse xs) ≡ xs
  twice [] = refl
  twice (x ∷ xs) = ap (λ (l : List A). reverse l) (reverse-append (x ∷ []) xs) ∙ reverse-append (reverse xs) (x ∷ []) ∙ ap (λ (l : List A). x ∷ l) (twice xs)

  pub none_taken : (all left : List A) → left ≡ reverse all → AreSplit all left 0
  none_taken all left is = record { taken = []; whole = sym (twice all) ∙ ap (λ (l : List A). reverse l) (sym is); long = refl }

  module _ (all left front : List A) (count : ℕ) (x : A) (split : AreSplit all left count) (last : left ≡ front ++ x ∷ []) where
    here : all ≡ split.taken ++ x ∷ reverse front
    here = split.whole ∙ ap (λ (l : List A). split.taken ++ l) (ap (λ (l : List A). reverse l) last ∙ reverse-append front (x ∷ []))

    pub one_taken : AreSplit all front (count + 1)
    one_taken = record {
      taken = split.taken ++ x ∷ [];
      whole = here ∙ sym (append_assoc split.taken (x ∷ []) (reverse front));
      long = length_push split.taken x ∙ ap (λ (k : ℕ). k + 1) split.long;
    }

    pub taken_at : slice_get all count ≡ Some x
    taken_at = subst (λ (k : ℕ). slice_get all k ≡ Some x) split.long (subst (λ (l : List A). slice_get l (length split.taken) ≡ Some x) (sym here) (get_after split.taken (reverse front) x))

    pub taken_of : (P : A → Type 0) → AllByRecursion P all → P x
    taken_of P every = (all_split P split.taken (x ∷ reverse front) (subst (λ (l : List A). AllByRecursion P l) here every)).1.0

    pub taken_inside : count < length all
    taken_inside = let long = ap length here in let both = length-append split.taken (x ∷ reverse front) in let same = split.long in omega (arith, long, both, same)

  pub all_taken : (all left : List A) (count : ℕ) → AreSplit all left count → left ≡ [] → count ≡ length all
  all_taken all left count split none =
      sym split.long ∙ ap length (sym (split.whole ∙ ap (λ (l : List A). split.taken ++ reverse l) none ∙ append-nil split.taken))

  pub get_between : (before rest : List A) (x : A) (n : ℕ) → length before ≡ n → slice_get ((before ++ x ∷ []) ++ rest) n ≡ Some x
  get_between before rest x n long =
      subst (λ (k : ℕ). slice_get ((before ++ x ∷ []) ++ rest) k ≡ Some x) long
      (subst (λ (l : List A). slice_get l (length before) ≡ Some x) (sym (append_assoc before (x ∷ []) rest)) (get_after before rest x))

  pub all_each : (P : A → Type 0) (xs : List A) → ((i : ℕ) (x : A) → slice_get xs i ≡ Some x → P x) → AllByRecursion P xs
  all_each P [] every = tt
  all_each P (x ∷ xs) every = (every 0 x refl, all_each P xs (λ i y at. every (suc i) y at))

  pub all_at : (P : A → Type 0) (xs : List A) (i : ℕ) (x : A) → AllByRecursion P xs → slice_get xs i ≡ Some x → P x
  all_at P [] i x every at = absurd (none-some x at)
  all_at P (y ∷ xs) zero x every at = subst P (same_Some y x at) every.0
  all_at P (y ∷ xs) (suc i) x every at = all_at P xs i x every.1 at
