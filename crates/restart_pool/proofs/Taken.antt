-- What holds of each element that a loop has passed.
use Rattle.std.proofs.Common.{◌≡◌, ◌⊎◌, ℕ, zero, suc, ◌+◌, ◌<◌, ◌≤◌, ◌∙◌, List, [], ◌∷◌, length, get_or, take, inl, inr, refl, sym, subst, arith}
use Rattle.merkle_region.specs.Tree.{IsAmong}

pub item_among : {A : Type 0} (xs : List A) (i : ℕ) (x : A) → i < length xs → x ≡ get_or xs i x → IsAmong x xs
item_among [] i x lt is = absurd (omega arith)
item_among (y ∷ xs) zero x lt is = inl is
item_among (y ∷ xs) (suc i) x lt is = inr (item_among xs i x (omega arith) is)

module _ {A : Type 0} (P : A → Type 0) where
  each_suc : (xs : List A) (i : ℕ) (x : A) → i < length xs → x ≡ get_or xs i x → ((b : A) → IsAmong b (take i xs) → P b) → P x → (b : A) → IsAmong b (take (suc i) xs) → P b
  each_suc [] i x lt is h p b m = absurd m
  each_suc (y ∷ xs) zero x lt is h p b (inl e) = subst P (is ∙ sym e) p
  each_suc (y ∷ xs) zero x lt is h p b (inr m) = absurd m
  each_suc (y ∷ xs) (suc i) x lt is h p b (inl e) = h b (inl e)
  each_suc (y ∷ xs) (suc i) x lt is h p b (inr m) = each_suc xs i x (omega arith) is (λ a k. h a (inr k)) p b m

  pub each_more : (xs : List A) (i : ℕ) (x : A) → i < length xs → x ≡ get_or xs i x → ((b : A) → IsAmong b (take i xs) → P b) → P x → (b : A) → IsAmong b (take (i + 1) xs) → P b
  each_more xs i x lt is h p = subst (λ n. (b : A) → IsAmong b (take n xs) → P b) (let e : suc i ≡ i + 1 = omega arith in e) (each_suc xs i x lt is h p)

  pub each_all : (xs : List A) (i : ℕ) → length xs ≤ i → ((b : A) → IsAmong b (take i xs) → P b) → (b : A) → IsAmong b xs → P b
  each_all [] i le h b m = absurd m
  each_all (y ∷ xs) zero le h b m = absurd (omega arith)
  each_all (y ∷ xs) (suc i) le h b (inl e) = h b (inl e)
  each_all (y ∷ xs) (suc i) le h b (inr m) = each_all xs i (omega arith) (λ a k. h a (inr k)) b m

module _ {A : Type 0} (xs : List A) (i : ℕ) (x : A) (lt : i < length xs) (is : x ≡ get_or xs i x) where
  -- what stands before the next element, or is it
  pub among_next : (b : A) → IsAmong b (take (i + 1) xs) → IsAmong b (take i xs) ⊎ (b ≡ x)
  among_next = each_more (λ b. IsAmong b (take i xs) ⊎ (b ≡ x)) xs i x lt is (λ b m. inl m) (inr refl)

taken_suc : {A : Type 0} (xs : List A) (i : ℕ) (b : A) → IsAmong b (take i xs) → IsAmong b (take (suc i) xs)
taken_suc [] zero b m = absurd m
taken_suc [] (suc i) b m = absurd m
taken_suc (y ∷ xs) zero b m = absurd m
taken_suc (y ∷ xs) (suc i) b (inl e) = inl e
taken_suc (y ∷ xs) (suc i) b (inr m) = inr (taken_suc xs i b m)

pub taken_more : {A : Type 0} (xs : List A) (i : ℕ) (b : A) → IsAmong b (take i xs) → IsAmong b (take (i + 1) xs)
taken_more xs i b m = subst (λ n. IsAmong b (take n xs)) (let e : suc i ≡ i + 1 = omega arith in e) (taken_suc xs i b m)

item_suc : {A : Type 0} (xs : List A) (i : ℕ) (x : A) → i < length xs → x ≡ get_or xs i x → IsAmong x (take (suc i) xs)
item_suc [] i x lt is = absurd (omega arith)
item_suc (y ∷ xs) zero x lt is = inl is
item_suc (y ∷ xs) (suc i) x lt is = inr (item_suc xs i x (omega arith) is)

pub item_taken : {A : Type 0} (xs : List A) (i : ℕ) (x : A) → i < length xs → x ≡ get_or xs i x → IsAmong x (take (i + 1) xs)
item_taken xs i x lt is = subst (λ n. IsAmong x (take n xs)) (let e : suc i ≡ i + 1 = omega arith in e) (item_suc xs i x lt is)
