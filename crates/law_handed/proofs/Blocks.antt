-- The blocks of a region keep its shape by a part that fits.
use Rattle.std.proofs.Common.{◌≡◌, ◌∙◌, ℕ, zero, suc, ◌==◌, ◌&&◌, nat_lt, Bool, true, false, List, [], ◌∷◌, length, map, Option, None, refl, sym, ap, subst}
use Rattle.std.specs.Prelude.{slice_set}
use Rattle.std.specs.List.{list_all}
use Rattle.std.proofs.lemmas.List.{length-set}
use Rattle.salus_types.specs.Volume.{Shape, region_blocks}
use Rattle.salus_types.specs.declared.records.Trim.{Trim}
use Rattle.salus_types.specs.declared.records.PlaceWrite.{PlaceWrite}
use Rattle.salus_types.specs.declared.records.Record.{Record}
use Rattle.holding_model.specs.Fitting.{ascends_from, writes_fit, run_fits, record_fits, blocks_written, blocks_zeroed, blocks_after, has_shape}
use Rattle.list_lemmas.proofs.Tests.{and_left, and_right}
use Rattle.law_handed.specs.Fitting.{IsSpelled, IsClosed, IsShaped}

and_both : (a b : Bool) → a ≡ true → b ≡ true → (a && b) ≡ true
and_both true b e f = f
and_both false b e f = absurd (cc)

module _ (shape : Shape) where
  set_all : (test : List ℕ → Bool) (blocks : List (List ℕ)) (i : ℕ) (x : List ℕ) → list_all test blocks ≡ true → test x ≡ true → list_all test (slice_set blocks i x) ≡ true
  set_all test [] i x all one = refl
  set_all test (y ∷ blocks) zero x all one = and_both (test x) (list_all test blocks) one (and_right (test y) (list_all test blocks) all)
  set_all test (y ∷ blocks) (suc i) x all one =
      and_both (test y) (list_all test (slice_set blocks i x)) (and_left (test y) (list_all test blocks) all) (set_all test blocks i x (and_right (test y) (list_all test blocks) all) one)

  set_shaped : (blocks : List (List ℕ)) (i : ℕ) (x : List ℕ) → has_shape shape blocks ≡ true → (length x == shape.block) ≡ true → has_shape shape (slice_set blocks i x) ≡ true
  unfolding has_shape
  set_shaped blocks i x shaped one =
      let long : (length (slice_set blocks i x) == region_blocks shape) ≡ true = ap (λ n. n == region_blocks shape) (length-set blocks i x) ∙ and_left (length blocks == region_blocks shape) (list_all (λ y. length y == shape.block) blocks) shaped in
      and_both (length (slice_set blocks i x) == region_blocks shape) (list_all (λ y. length y == shape.block) (slice_set blocks i x)) long
      (set_all (λ y. length y == shape.block) blocks i x (and_right (length blocks == region_blocks shape) (list_all (λ y. length y == shape.block) blocks) shaped) one)

  written_shaped : (writes : List PlaceWrite) (blocks : List (List ℕ)) → has_shape shape blocks ≡ true
      → list_all (λ w. nat_lt w.place (region_blocks shape) && (length w.bytes == shape.block)) writes ≡ true → has_shape shape (blocks_written blocks writes) ≡ true
  unfolding blocks_written
  written_shaped [] blocks shaped all = shaped
  written_shaped (w ∷ writes) blocks shaped all =
      let first : (nat_lt w.place (region_blocks shape) && (length w.bytes == shape.block)) ≡ true = and_left _ (list_all (λ v. nat_lt v.place (region_blocks shape) && (length v.bytes == shape.block)) writes) all in
      written_shaped writes (slice_set blocks w.place w.bytes) (set_shaped blocks w.place w.bytes shaped (and_right (nat_lt w.place (region_blocks shape)) (length w.bytes == shape.block) first))
      (and_right (nat_lt w.place (region_blocks shape) && (length w.bytes == shape.block)) _ all)

  pub after_shaped : (blocks : List (List ℕ)) (rec : Record) → has_shape shape blocks ≡ true → record_fits shape rec ≡ true → rec.run ≡ None → has_shape shape (blocks_after shape blocks rec) ≡ true
  unfolding record_fits
  after_shaped blocks rec shaped inside none =
      let writes : writes_fit shape rec.writes ≡ true = and_left (writes_fit shape rec.writes) (run_fits shape rec.run) inside in
      let all : list_all (λ w. nat_lt w.place (region_blocks shape) && (length w.bytes == shape.block)) rec.writes ≡ true = and_right (ascends_from 0 (map (λ w. w.place) rec.writes)) _ writes in
      subst (λ (o : Option Trim). has_shape shape (blocks_zeroed shape (blocks_written blocks rec.writes) o) ≡ true) (sym none) (written_shaped rec.writes blocks shaped all)

  pub spelled_closed : IsClosed shape IsSpelled IsSpelled (IsShaped shape)
  spelled_closed = record { folds = λ rec spelled. spelled; after = λ blocks rec shaped fits. after_shaped blocks rec shaped fits.inside fits.given.counts.no_run; shaped = λ blocks shaped. shaped }
