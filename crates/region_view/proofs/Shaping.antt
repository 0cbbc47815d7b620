-- A region's blocks keep its shape by a record that fits.
use Rattle.std.proofs.Common.{◌≡◌, ◌∙◌, ℕ, zero, suc, ◌+◌, ◌^◌, ◌==◌, true, List, [], ◌∷◌, ◌++◌, length, replicate, set, get_or, Option, None, Some, refl, subst, arith}
use Rattle.std.specs.List.{list_all}
use Rattle.std.specs.Prelude.{All, slice_get}
use Rattle.std.proofs.lemmas.Option.{slice_get_within, get_or_from_slice_get}
use Rattle.std.proofs.lemmas.List.{length-replicate}
use Rattle.std.proofs.lemmas.List.Elements.{All-nil, All-push, All-append, All-head, All-tail, All-set, All-weaker}
use Rattle.std.proofs.lemmas.List.Sums.{AllPass-from_list_all, list_all-from_AllPass}
use Rattle.std.proofs.lemmas.Bool.{and_parts, and_from, eqb-true, eq-eqb}
use Rattle.salus_types.specs.Volume.{Shape, region_blocks}
use Rattle.salus_types.specs.declared.records.PlaceWrite.{PlaceWrite}
use Rattle.salus_types.specs.declared.records.Trim.{Trim}
use Rattle.salus_types.specs.declared.records.Record.{Record}
use Rattle.holding_model.specs.Fitting.{record_fits, blocks_written, blocks_after, has_shape}
use Rattle.region_view.specs.Changes.{zero_writes}
use Rattle.region_view.proofs.Written.{length-blocks_written}
use Rattle.region_view.proofs.Bringing.{RunIsInside, writes-sized, run-inside, after-writes, after-run}

-- one block for each place, each of the volume's length
pub record IsShaped (shape : Shape) (blocks : List (List ℕ)) : Type 0 where
  pub count : length blocks ≡ 2 ^ shape.height
  pub sized : All (λ x. length x ≡ shape.block) blocks

pub shape-parts : (shape : Shape) (blocks : List (List ℕ)) → has_shape shape blocks ≡ true → IsShaped shape blocks
unfolding has_shape
shape-parts shape blocks has =
    let both = and_parts (length blocks == region_blocks shape) (list_all (λ x. length x == shape.block) blocks) has in
    record {
      count = eqb-true (length blocks) (region_blocks shape) both.0;
      sized =
          All-weaker (λ (x : List ℕ). (length x == shape.block) ≡ true) (λ (x : List ℕ). length x ≡ shape.block) (λ x same. eqb-true (length x) shape.block same)
          blocks (AllPass-from_list_all (λ x. length x == shape.block) blocks both.1);
    }

pub shape-from : (shape : Shape) (blocks : List (List ℕ)) → IsShaped shape blocks → has_shape shape blocks ≡ true
unfolding has_shape
shape-from shape blocks is =
    and_from (length blocks == region_blocks shape) (list_all (λ x. length x == shape.block) blocks) (eq-eqb (length blocks) (region_blocks shape) is.count)
    (list_all-from_AllPass (λ x. length x == shape.block) blocks
    (All-weaker (λ (x : List ℕ). length x ≡ shape.block) (λ (x : List ℕ). (length x == shape.block) ≡ true) (λ x same. eq-eqb (length x) shape.block same) blocks is.sized))

-- blocks of one length stay so by writes of that length
written-sized : (size : ℕ) (writes : List PlaceWrite) (blocks : List (List ℕ)) → All (λ w. length w.bytes ≡ size) writes → All (λ x. length x ≡ size) blocks
    → All (λ x. length x ≡ size) (blocks_written blocks writes)
unfolding blocks_written
written-sized size [] blocks writes all = all
written-sized size (w ∷ writes) blocks each all =
    written-sized size writes (set blocks w.place w.bytes) (All-tail (λ (v : PlaceWrite). length v.bytes ≡ size) w writes each)
    (All-set (λ (x : List ℕ). length x ≡ size) blocks w.place w.bytes (All-head (λ (v : PlaceWrite). length v.bytes ≡ size) w writes each) all)

zeros-sized : (place n size : ℕ) → All (λ w. length w.bytes ≡ size) (zero_writes place n size)
unfolding zero_writes
zeros-sized place zero size = All-nil (λ (w : PlaceWrite). length w.bytes ≡ size)
zeros-sized place (suc n) size =
    All-push (λ (w : PlaceWrite). length w.bytes ≡ size) (zero_writes place n size) (record { place = place + n; bytes = replicate size 0 }) (zeros-sized place n size) (length-replicate size 0)

module _ (shape : Shape) (blocks : List (List ℕ)) (rec : Record) (is : IsShaped shape blocks) (fits : record_fits shape rec ≡ true) where
  shaped-by : (writes : List PlaceWrite) → All (λ w. length w.bytes ≡ shape.block) writes → blocks_written blocks writes ≡ blocks_after shape blocks rec → IsShaped shape (blocks_after shape blocks rec)
  shaped-by writes each same =
      subst (IsShaped shape) same (record { count = length-blocks_written blocks writes ∙ is.count; sized = written-sized shape.block writes blocks each is.sized })

  shaped-run : (o : Option Trim) → rec.run ≡ o → IsShaped shape (blocks_after shape blocks rec)
  shaped-run None none = shaped-by rec.writes (writes-sized shape rec fits) (after-writes shape blocks rec none)
  shaped-run (Some t) some =
      let run : RunIsInside shape t = run-inside shape rec t fits some in
      shaped-by (rec.writes ++ zero_writes t.place (2 ^ t.log) shape.block)
      (All-append (λ (w : PlaceWrite). length w.bytes ≡ shape.block) rec.writes (zero_writes t.place (2 ^ t.log) shape.block) (writes-sized shape rec fits) (zeros-sized t.place (2 ^ t.log) shape.block))
      (after-run shape blocks rec t some (omega (arith, run.inside, is.count)))

  pub shaped-after : IsShaped shape (blocks_after shape blocks rec)
  shaped-after = shaped-run rec.run refl

pub sized-at : (shape : Shape) (blocks : List (List ℕ)) → IsShaped shape blocks → (place : ℕ) (block : List ℕ) → slice_get blocks place ≡ Some block → length block ≡ shape.block
sized-at shape blocks is place block there =
    let read : get_or blocks place [] ≡ block = get_or_from_slice_get blocks place block [] there in
    subst (λ (x : List ℕ). length x ≡ shape.block) read (is.sized place [] (slice_get_within blocks place block there))
