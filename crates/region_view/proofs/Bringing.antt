-- The blocks that a record brings: where they go, and what they leave.
use Rattle.std.proofs.Common.{◌≡◌, ◌∙◌, ℕ, zero, suc, ◌+◌, ◌-◌, ◌*◌, ◌%◌, ◌/◌, ◌^◌, ◌<◌, ◌≤◌, ◌==◌, ◌&&◌, nat_lt, nat_le, true, List, [], ◌∷◌, ◌++◌, length, map, take, drop, replicate, set, Option, None, Some, refl, sym, ap, subst, arith, add-one}
use Rattle.std.specs.List.{list_all}
use Rattle.std.specs.Prelude.{All}
use Rattle.std.proofs.Math.Nat.{div-add-mod, lt_of_mul-lt-mul_left, mul-le-mul_left, mul-add}
use Rattle.std.proofs.lemmas.Nat.{pow-add}
use Rattle.std.proofs.lemmas.List.{take-replicate}
use Rattle.std.proofs.Math.Seq.{paste}
use Rattle.std.proofs.lemmas.List.Edits.{paste_none, fill_from_more}
use Rattle.std.proofs.lemmas.List.Elements.{All-nil, All-push, All-append, All-weaker}
use Rattle.std.proofs.lemmas.List.Sums.{AllPass-from_list_all}
use Rattle.std.proofs.lemmas.Bool.{and_parts, eqb-true, leb-true, ltb-true}
use Rattle.salus_types.specs.Volume.{Shape, region_blocks}
use Rattle.salus_types.specs.declared.records.PlaceWrite.{PlaceWrite}
use Rattle.salus_types.specs.declared.records.Trim.{Trim}
use Rattle.salus_types.specs.declared.records.Record.{Record}
use Rattle.holding_model.specs.Fitting.{ascends_from, writes_fit, run_fits, record_fits, blocks_written, blocks_zeroed, blocks_after}
use Rattle.region_view.specs.Changes.{AreWithin, zero_writes}
use Rattle.region_view.proofs.Written.{blocks_written-append, length-blocks_written}

-- ---- zero blocks

pub zero_writes-none : (place size : ℕ) → zero_writes place 0 size ≡ []
unfolding zero_writes
zero_writes-none place size = refl

pub zero_writes-more : (place i size : ℕ) → zero_writes place (i + 1) size ≡ zero_writes place i size ++ (record { place = place + i; bytes = replicate size 0 }) ∷ []
unfolding zero_writes
zero_writes-more place i size = rw add-one refl

pub zeros-within : (m place n size : ℕ) → place + n ≤ m → AreWithin m (zero_writes place n size)
unfolding zero_writes
zeros-within m place zero size inside = All-nil (λ (w : PlaceWrite). w.place < m)
zeros-within m place (suc n) size inside =
    All-push (λ (w : PlaceWrite). w.place < m) (zero_writes place n size) (record { place = place + n; bytes = replicate size 0 }) (zeros-within m place n size (omega arith)) (omega arith)

zeros-pasted : (blocks : List (List ℕ)) (place n size : ℕ) → place + n ≤ length blocks
    → blocks_written blocks (zero_writes place n size) ≡ paste blocks place (replicate n (replicate size 0)) n
unfolding zero_writes blocks_written
zeros-pasted blocks place zero size inside = paste_none blocks place (replicate 0 (replicate size 0))
zeros-pasted blocks place (suc n) size inside =
    let one : PlaceWrite = record { place = place + n; bytes = replicate size 0 } in
    let before : blocks_written blocks (zero_writes place n size) ≡ paste blocks place (replicate n (replicate size 0)) n = zeros-pasted blocks place n size (omega arith) in
    let more : set (paste blocks place (replicate n (replicate size 0)) n) (place + n) (replicate size 0) ≡ paste blocks place (replicate (n + 1) (replicate size 0)) (n + 1)
    = fill_from_more blocks place n (replicate size 0) (omega arith) in
    blocks_written-append blocks (zero_writes place n size) (one ∷ [])
    ∙ (ap (λ left. set left (place + n) (replicate size 0)) before ∙ (more ∙ ap (λ k. paste blocks place (replicate k (replicate size 0)) k) (add-one n)))

zeros-zeroed : (shape : Shape) (blocks : List (List ℕ)) (t : Trim) → t.place + 2 ^ t.log ≤ length blocks
    → blocks_written blocks (zero_writes t.place (2 ^ t.log) shape.block) ≡ blocks_zeroed shape blocks (Some t)
zeros-zeroed shape blocks t inside =
    zeros-pasted blocks t.place (2 ^ t.log) shape.block inside
    ∙ ap (λ zeros. take t.place blocks ++ zeros ++ drop (t.place + 2 ^ t.log) blocks) (take-replicate (2 ^ t.log) (2 ^ t.log) (replicate shape.block 0) (omega arith))

-- ---- records that fit

-- a run at a multiple of its length ends within the region that it begins in
run_inside : (place log height : ℕ) → log ≤ height → place < 2 ^ height → place % 2 ^ log ≡ 0 → place + 2 ^ log ≤ 2 ^ height
run_inside place log height low begins multiple =
    let run = 2 ^ log in
    let runs = 2 ^ (height - log) in
    let whole : 2 ^ height ≡ run * runs = ap (λ n. 2 ^ n) (omega arith) ∙ pow-add 2 log (height - log) in
    let here : run * (place / run) ≡ place = omega (arith, div-add-mod place run) in
    let before : place / run < runs = lt_of_mul-lt-mul_left run (omega arith) in
    let next : run * (place / run + 1) ≤ run * runs = mul-le-mul_left run (omega arith) in
    omega (arith, mul-add run (place / run) 1)

-- the writes of a record that fits go to places of the region
pub writes-within : (shape : Shape) (rec : Record) → record_fits shape rec ≡ true → AreWithin (2 ^ shape.height) rec.writes
unfolding record_fits
writes-within shape rec fits =
    let writes = and_parts (writes_fit shape rec.writes) (run_fits shape rec.run) fits in
    let each = and_parts (ascends_from 0 (map (λ w. w.place) rec.writes)) (list_all (λ w. nat_lt w.place (region_blocks shape) && (length w.bytes == shape.block)) rec.writes) writes.0 in
    All-weaker (λ (w : PlaceWrite). (nat_lt w.place (region_blocks shape) && (length w.bytes == shape.block)) ≡ true) (λ (w : PlaceWrite). w.place < 2 ^ shape.height)
    (λ w both. ltb-true w.place (2 ^ shape.height) (and_parts (nat_lt w.place (region_blocks shape)) (length w.bytes == shape.block) both).0)
    rec.writes (AllPass-from_list_all (λ w. nat_lt w.place (region_blocks shape) && (length w.bytes == shape.block)) rec.writes each.1)

-- and have its blocks' length
pub writes-sized : (shape : Shape) (rec : Record) → record_fits shape rec ≡ true → All (λ w. length w.bytes ≡ shape.block) rec.writes
unfolding record_fits
writes-sized shape rec fits =
    let writes = and_parts (writes_fit shape rec.writes) (run_fits shape rec.run) fits in
    let each = and_parts (ascends_from 0 (map (λ w. w.place) rec.writes)) (list_all (λ w. nat_lt w.place (region_blocks shape) && (length w.bytes == shape.block)) rec.writes) writes.0 in
    All-weaker (λ (w : PlaceWrite). (nat_lt w.place (region_blocks shape) && (length w.bytes == shape.block)) ≡ true) (λ (w : PlaceWrite). length w.bytes ≡ shape.block)
    (λ w both. eqb-true (length w.bytes) shape.block (and_parts (nat_lt w.place (region_blocks shape)) (length w.bytes == shape.block) both).1)
    rec.writes (AllPass-from_list_all (λ w. nat_lt w.place (region_blocks shape) && (length w.bytes == shape.block)) rec.writes each.1)

-- a run of such a record lies in the region
pub record RunIsInside (shape : Shape) (t : Trim) : Type 0 where
  pub low : t.log ≤ shape.height
  pub inside : t.place + 2 ^ t.log ≤ 2 ^ shape.height

pub run-inside : (shape : Shape) (rec : Record) (t : Trim) → record_fits shape rec ≡ true → rec.run ≡ Some t → RunIsInside shape t
unfolding record_fits
run-inside shape rec t fits is =
    let both = and_parts (writes_fit shape rec.writes) (run_fits shape rec.run) fits in
    let here : run_fits shape (Some t) ≡ true = subst (λ (o : Option Trim). run_fits shape o ≡ true) is both.1 in
    let front = and_parts (nat_le t.log shape.height && nat_lt t.place (region_blocks shape)) (t.place % 2 ^ t.log == 0) here in
    let two = and_parts (nat_le t.log shape.height) (nat_lt t.place (region_blocks shape)) front.0 in
    let low : t.log ≤ shape.height = leb-true t.log shape.height two.0 in
    record { low = low; inside = run_inside t.place t.log shape.height low (ltb-true t.place (2 ^ shape.height) two.1) (eqb-true (t.place % 2 ^ t.log) 0 front.1) }

-- ---- what they leave

pub after-writes : (shape : Shape) (blocks : List (List ℕ)) (rec : Record) → rec.run ≡ None → blocks_written blocks rec.writes ≡ blocks_after shape blocks rec
after-writes shape blocks rec none = ap (λ (o : Option Trim). blocks_zeroed shape (blocks_written blocks rec.writes) o) (sym none)

pub after-run : (shape : Shape) (blocks : List (List ℕ)) (rec : Record) (t : Trim) → rec.run ≡ Some t → t.place + 2 ^ t.log ≤ length blocks
    → blocks_written blocks (rec.writes ++ zero_writes t.place (2 ^ t.log) shape.block) ≡ blocks_after shape blocks rec
after-run shape blocks rec t some inside =
    let long : length (blocks_written blocks rec.writes) ≡ length blocks = length-blocks_written blocks rec.writes in
    blocks_written-append blocks rec.writes (zero_writes t.place (2 ^ t.log) shape.block)
    ∙ (zeros-zeroed shape (blocks_written blocks rec.writes) t (omega arith) ∙ ap (λ (o : Option Trim). blocks_zeroed shape (blocks_written blocks rec.writes) o) (sym some))

pub all-within : (shape : Shape) (rec : Record) (t : Trim) → record_fits shape rec ≡ true → rec.run ≡ Some t → AreWithin (2 ^ shape.height) (rec.writes ++ zero_writes t.place (2 ^ t.log) shape.block)
all-within shape rec t fits some =
    let run : RunIsInside shape t = run-inside shape rec t fits some in
    All-append (λ (w : PlaceWrite). w.place < 2 ^ shape.height) rec.writes (zero_writes t.place (2 ^ t.log) shape.block) (writes-within shape rec fits)
    (zeros-within (2 ^ shape.height) t.place (2 ^ t.log) shape.block run.inside)
