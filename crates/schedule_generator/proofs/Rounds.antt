-- One round more.
use Rattle.std.proofs.Common.{◌≡◌, ◌∙◌, ℕ, zero, suc, ◌+◌, List, [], ◌∷◌, ◌++◌, sym, ap, arith, add-one, append-nil}
use Rattle.std.specs.List.{flat_map, range_with_len}
use Rattle.std.proofs.lemmas.List.Concat.{flat_map-append}
use Rattle.schedule_generator.specs.Generator.{next_state, state_of}

range_suc : (a n : ℕ) → range_with_len a (suc n) ≡ range_with_len a n ++ (a + n) ∷ []
range_suc a zero = let same : a ≡ a + 0 = omega arith in ap (λ (x : ℕ). x ∷ []) same
range_suc a (suc n) =
    let same : (a + 1) + n ≡ a + suc n = omega arith in
    ap (λ (l : List ℕ). a ∷ l) (range_suc (a + 1) n ∙ ap (λ (x : ℕ). range_with_len (a + 1) n ++ x ∷ []) same)

range_more : (a n j : ℕ) → a + n ≡ j → range_with_len a (n + 1) ≡ range_with_len a n ++ j ∷ []
range_more a n j is =
    ap (range_with_len a) (add-one n) ∙ (range_suc a n ∙ ap (λ (x : ℕ). range_with_len a n ++ x ∷ []) is)

pub rounds_more : {A : Type 0} (f : ℕ → List A) (n : ℕ) → flat_map f (range_with_len 1 (n + 1)) ≡ flat_map f (range_with_len 1 n) ++ f (n + 1)
rounds_more f n =
    ap (flat_map f) (range_more 1 n (n + 1) (omega arith))
    ∙ (flat_map-append f (range_with_len 1 n) ((n + 1) ∷ []) ∙ ap (λ l. flat_map f (range_with_len 1 n) ++ l) (append-nil (f (n + 1))))

pub state_more : (seed n : ℕ) → state_of seed (n + 1) ≡ next_state (state_of seed n)
unfolding state_of
state_more seed n = ap (state_of seed) (add-one n)
