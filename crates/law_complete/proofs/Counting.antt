-- Parts whose numbers lie in a stretch of fifteen, and of which no two go on from one number, are at most fifteen.
use Rattle.std.proofs.Common.{◌≡◌, ℕ, ◌+◌, ◌-◌, ◌<◌, ◌≤◌, ◌==◌, false, true, nat_eq, List, [], ◌∷◌, length, map, arith, eqb-true}
use Rattle.std.specs.List.{AllByRecursion, IsDistinct, list_any}
use Rattle.std.proofs.lemmas.Bool.{eq-eqb, ne_eqb}
use Rattle.std.proofs.lemmas.List.{length-map}
use Rattle.std.proofs.lemmas.Map.Steps.{length-le_from_distinct_below}
use Rattle.salus_types.specs.declared.records.Record.{Record}
use Rattle.list_lemmas.proofs.Each.{all_map, all_then, all_zip}
use Rattle.list_lemmas.proofs.Members.{any_among, among_all}
use Rattle.list_lemmas.proofs.Tests.{not_both}
use Rattle.law_complete.proofs.Apart.{AreApart}

-- the part's number is behind the next one after x, by at most 15
pub record IsNear (x : ℕ) (rec : Record) : Type 0 where
  pub above : x < rec.header.seq - 1
  pub within : rec.header.seq - 1 < x + 16

module _ (x : ℕ) (P : Record → Type 0) (near : (rec : Record) → P rec → IsNear x rec)
    (link : (a b : Record) → P a → P b → a.header.seq - 1 ≡ b.header.seq - 1 → a.header.previous ≡ b.header.previous) where
  abbrev place : Record → ℕ
  place rec = rec.header.seq - 1 - (x + 1)

  differ : (a b : Record) → P a → P b → (a.header.previous == b.header.previous) ≡ false → (place a == place b) ≡ false
  differ a b p q apart =
      ne_eqb (place a) (place b)
      (λ same.
      let up : x < a.header.seq - 1 = (near a p).above in
      let over : x < b.header.seq - 1 = (near b q).above in
      let one : a.header.seq - 1 ≡ b.header.seq - 1 = omega (arith, same, up, over) in
      not_both (a.header.previous == b.header.previous) (eq-eqb a.header.previous b.header.previous (link a b p q one)) apart)

  distinct : (early : List Record) → AreApart early → AllByRecursion P early → IsDistinct nat_eq (map (λ (rec : Record). place rec) early)
  unfolding AreApart IsDistinct
  distinct [] apart all = tt
  distinct (rec ∷ early) apart all = (
    all_map (λ y. (place rec == y) ≡ false) (λ (other : Record). place other) early
        (all_then (λ (other : Record). ((rec.header.previous == other.header.previous) ≡ false) × P other) (λ (other : Record). (place rec == place other) ≡ false) (λ other both. differ rec other all.0 both.1 both.0) early
        (all_zip (λ (other : Record). (rec.header.previous == other.header.previous) ≡ false) P early apart.0 all.1)),
    distinct early apart.1 all.1,
  )

  below : (q : ℕ) (xs : List ℕ) → AllByRecursion (λ y. y < 15) xs → list_any (λ y. q == y) xs ≡ true → q < 15
  below q xs all found =
      let at = any_among (λ y. q == y) xs found in
      let same : q ≡ at.0 = eqb-true q at.0 at.2 in
      let low : at.0 < 15 = among_all (λ y. y < 15) xs at.0 at.1 all in
      omega (arith, same, low)

  pub few : (early : List Record) → AreApart early → AllByRecursion P early → length early ≤ 15
  few early apart all =
      let places : List ℕ = map (λ (rec : Record). place rec) early in
      let short : AllByRecursion (λ y. y < 15) places =
      all_map (λ y. y < 15) (λ (rec : Record). place rec) early
      (all_then P (λ (rec : Record). place rec < 15) (λ rec p. let up : x < rec.header.seq - 1 = (near rec p).above in let low : rec.header.seq - 1 < x + 16 = (near rec p).within in omega (arith, up, low)) early all) in
      let most : length places ≤ 15 = length-le_from_distinct_below places 15 (distinct early apart all) (λ q found. below q places short found) in
      let same : length places ≡ length early = length-map early (λ (rec : Record). place rec) in
      omega (arith, most, same)
