-- A region has as many blocks after a part that fits as before it.
use Rattle.std.proofs.Common.{◌≡◌, ◌∙◌, ℕ, zero, suc, ◌+◌, ◌-◌, ◌*◌, ◌/◌, ◌%◌, ◌^◌, ◌<◌, ◌≤◌, ◌==◌, ◌&&◌, nat_lt, nat_le, true, List, [], ◌∷◌, ◌++◌, length, take, drop, replicate, Option, None, Some, refl, sym, ap, arith}
use Rattle.std.specs.Prelude.{slice_set}
use Rattle.std.proofs.Math.Nat.{mul-suc, div-add-mod, lt_of_mul-lt-mul_left}
use Rattle.std.proofs.lemmas.Nat.{pow-add}
use Rattle.std.proofs.lemmas.Bool.{eqb-true, ltb-true, leb-true}
use Rattle.std.proofs.lemmas.List.{length-set, length-append, length-take-le, length-drop, length-replicate}
use Rattle.salus_types.specs.Volume.{Shape, region_blocks}
use Rattle.salus_types.specs.declared.records.PlaceWrite.{PlaceWrite}
use Rattle.salus_types.specs.declared.records.Trim.{Trim}
use Rattle.salus_types.specs.declared.records.Record.{Record}
use Rattle.holding_model.specs.Fitting.{writes_fit, run_fits, record_fits, blocks_written, blocks_zeroed, blocks_after}
use Rattle.list_lemmas.proofs.Tests.{and_left, and_right}

-- one block for each place
abbrev pub IsCounted : Shape → List (List ℕ) → Type 0
IsCounted shape blocks = length blocks ≡ region_blocks shape

written_many : (writes : List PlaceWrite) (blocks : List (List ℕ)) → length (blocks_written blocks writes) ≡ length blocks
unfolding blocks_written
written_many [] blocks = refl
written_many (w ∷ writes) blocks = written_many writes (slice_set blocks w.place w.bytes) ∙ length-set blocks w.place w.bytes

-- a multiple of d that is less than another has room for d more below it
has_room : (d q m : ℕ) → q < m → d * q + d ≤ d * m
has_room d q zero less = absurd (omega arith)
has_room d zero (suc m) less = let e : d * suc m ≡ d * m + d = mul-suc d m in let z : d * 0 ≡ 0 = omega arith in omega arith
has_room d (suc q) (suc m) less =
    let e : d * suc m ≡ d * m + d = mul-suc d m in
    let f : d * suc q ≡ d * q + d = mul-suc d q in
    let rest : d * q + d ≤ d * m = has_room d q m (omega arith) in
    omega arith

-- a run at a multiple of its length ends in the region
run_ends : (height log place : ℕ) → log ≤ height → place < 2 ^ height → place % 2 ^ log ≡ 0 → place + 2 ^ log ≤ 2 ^ height
run_ends height log place few within starts =
    let up : log + (height - log) ≡ height = omega arith in
    let whole : 2 ^ height ≡ 2 ^ log * 2 ^ (height - log) = ap (λ n. 2 ^ n) (sym up) ∙ pow-add 2 log (height - log) in
    let parts : 2 ^ log * (place / 2 ^ log) + place % 2 ^ log ≡ place = div-add-mod place (2 ^ log) in
    let below : 2 ^ log * (place / 2 ^ log) < 2 ^ log * 2 ^ (height - log) = omega arith in
    let room : 2 ^ log * (place / 2 ^ log) + 2 ^ log ≤ 2 ^ log * 2 ^ (height - log) = has_room (2 ^ log) (place / 2 ^ log) (2 ^ (height - log)) (lt_of_mul-lt-mul_left (2 ^ log) below) in
    omega arith

zeroed_many : (shape : Shape) (blocks : List (List ℕ)) (run : Option Trim) → run_fits shape run ≡ true → IsCounted shape blocks → IsCounted shape (blocks_zeroed shape blocks run)
zeroed_many shape blocks None fits many = many
zeroed_many shape blocks (Some t) fits many =
    let most : (nat_le t.log shape.height && nat_lt t.place (region_blocks shape)) ≡ true = and_left (nat_le t.log shape.height && nat_lt t.place (region_blocks shape)) (t.place % 2 ^ t.log == 0) fits in
    let few : t.log ≤ shape.height = leb-true t.log shape.height (and_left (nat_le t.log shape.height) (nat_lt t.place (region_blocks shape)) most) in
    let within : t.place < 2 ^ shape.height = ltb-true t.place (region_blocks shape) (and_right (nat_le t.log shape.height) (nat_lt t.place (region_blocks shape)) most) in
    let starts : t.place % 2 ^ t.log ≡ 0 = eqb-true (t.place % 2 ^ t.log) 0 (and_right (nat_le t.log shape.height && nat_lt t.place (region_blocks shape)) (t.place % 2 ^ t.log == 0) fits) in
    let ends : t.place + 2 ^ t.log ≤ 2 ^ shape.height = run_ends shape.height t.log t.place few within starts in
    let inside : t.place ≤ length blocks = omega arith in
    let zeros : List (List ℕ) = replicate (2 ^ t.log) (replicate shape.block 0) in
    let front : length (take t.place blocks) ≡ t.place = length-take-le t.place blocks inside in
    let middle : length zeros ≡ 2 ^ t.log = length-replicate (2 ^ t.log) (replicate shape.block 0) in
    let back : length (drop (t.place + 2 ^ t.log) blocks) ≡ length blocks - (t.place + 2 ^ t.log) = length-drop (t.place + 2 ^ t.log) blocks in
    let one : length (take t.place blocks ++ zeros ++ drop (t.place + 2 ^ t.log) blocks) ≡ length (take t.place blocks ++ zeros) + length (drop (t.place + 2 ^ t.log) blocks) = length-append (take t.place blocks ++ zeros) (drop (t.place + 2 ^ t.log) blocks) in
    let two : length (take t.place blocks ++ zeros) ≡ length (take t.place blocks) + length zeros = length-append (take t.place blocks) zeros in
    omega arith

pub after_counted : (shape : Shape) (blocks : List (List ℕ)) (rec : Record) → IsCounted shape blocks → record_fits shape rec ≡ true → IsCounted shape (blocks_after shape blocks rec)
unfolding record_fits
after_counted shape blocks rec many inside =
    zeroed_many shape (blocks_written blocks rec.writes) rec.run (and_right (writes_fit shape rec.writes) (run_fits shape rec.run) inside) (written_many rec.writes blocks ∙ many)
