-- A batch writes no more blocks than it has writes, and none outside the volume.
use Rattle.std.proofs.Common.{◌≡◌, ◌∙◌, ℕ, zero, suc, ◌+◌, ◌<◌, ◌≤◌, ◌==◌, ◌||◌, Bool, true, false, if◌then◌else◌, List, [], ◌∷◌, length, refl, sym, ap, subst, arith}
use Rattle.std.specs.Prelude.{filter}
use Rattle.std.specs.List.{AllByRecursion, list_any, range_with_len}
use Rattle.std.proofs.lemmas.Bool.{eqb-true}
use Rattle.list_lemmas.proofs.Each.{all_filter, each_below}
use Rattle.list_lemmas.proofs.Tests.{unequal_up}
use Rattle.salus_types.specs.Volume.{Shape, blocks}
use Rattle.salus_types.specs.declared.records.Write.{Write}
use Rattle.volume_model.specs.Contents.{Batch}
use Rattle.volume_model.specs.Parts.{blocks_of}

none_pass : (xs : List ℕ) → length (filter (λ b. false) xs) ≡ 0
none_pass [] = refl
none_pass (x ∷ xs) = none_pass xs

either_pass : (p q : ℕ → Bool) (xs : List ℕ) → length (filter (λ b. p b || q b) xs) ≤ length (filter p xs) + length (filter q xs)
either_pass p q [] = omega arith
either_pass p q (x ∷ xs) = here (p x) (q x) (either_pass p q xs)
  where
    here : (a b : Bool) → length (filter (λ y. p y || q y) xs) ≤ length (filter p xs) + length (filter q xs)
        → length (if a || b then x ∷ filter (λ y. p y || q y) xs else filter (λ y. p y || q y) xs) ≤ length (if a then x ∷ filter p xs else filter p xs) + length (if b then x ∷ filter q xs else filter q xs)
    here true true rest = omega arith
    here true false rest = omega arith
    here false true rest = omega arith
    here false false rest = rest

none_above : (k lo n : ℕ) → k < lo → length (filter (λ b. k == b) (range_with_len lo n)) ≡ 0
none_above k lo zero above = refl
none_above k lo (suc n) above =
    ap (λ t. length (if t then lo ∷ filter (λ b. k == b) (range_with_len (lo + 1) n) else filter (λ b. k == b) (range_with_len (lo + 1) n))) (unequal_up k lo above)
    ∙ none_above k (lo + 1) n (omega arith)

one_passes : (k lo n : ℕ) → length (filter (λ b. k == b) (range_with_len lo n)) ≤ 1
one_passes k lo zero = omega arith
one_passes k lo (suc n) = here (k == lo) refl (one_passes k (lo + 1) n)
  where
    here : (t : Bool) → (k == lo) ≡ t → length (filter (λ b. k == b) (range_with_len (lo + 1) n)) ≤ 1
        → length (if t then lo ∷ filter (λ b. k == b) (range_with_len (lo + 1) n) else filter (λ b. k == b) (range_with_len (lo + 1) n)) ≤ 1
    here true is rest = let none = none_above k (lo + 1) n (let same : k ≡ lo = eqb-true k lo is in omega arith) in omega arith
    here false is rest = rest

few_pass : (batch : Batch) (lo n : ℕ) → length (filter (λ b. list_any (λ (w : Write). w.block == b) batch) (range_with_len lo n)) ≤ length batch
few_pass [] lo n = let none = none_pass (range_with_len lo n) in omega arith
few_pass (w ∷ batch) lo n =
    let both = either_pass (λ b. w.block == b) (λ b. list_any (λ (x : Write). x.block == b) batch) (range_with_len lo n) in
    let one = one_passes w.block lo n in
    let rest = few_pass batch lo n in
    omega arith

pub few_blocks : (shape : Shape) (batch : Batch) → length (blocks_of shape batch) ≤ length batch
few_blocks shape batch = few_pass batch 0 (blocks shape)

pub blocks_within : (shape : Shape) (batch : Batch) → AllByRecursion (λ b. b < blocks shape) (blocks_of shape batch)
blocks_within shape batch =
    all_filter (λ b. b < blocks shape) (λ b. list_any (λ (w : Write). w.block == b) batch) (range_with_len 0 (blocks shape)) (each_below (blocks shape) 0 (blocks shape) (omega arith))
