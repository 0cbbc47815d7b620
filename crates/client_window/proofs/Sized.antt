-- The untagged parts have a spelling: few enough writes, each of a block's length.
use Rattle.std.proofs.Common.{◌≡◌, ◌≢◌, ℕ, zero, suc, ◌+◌, ◌*◌, ◌^◌, ◌<◌, ◌≤◌, ◌∙◌, Bool, true, false, ◌==◌, cond, if◌then◌else◌, List, [], ◌∷◌, map, length, Option, Some, None, refl, ap, ap₂, sym, subst, arith, eqb-true}
use Rattle.std.specs.Prelude.{filter_map, All}
use Rattle.std.specs.List.{range_with_len, cons_option}
use Rattle.std.specs.Option.{option_or, IfSome}
use Rattle.std.proofs.lemmas.List.Elements.{All-nil, All-cons, All-head, All-tail}
use Rattle.salus_types.specs.Volume.{Shape, region_blocks}
use Rattle.salus_types.specs.declared.records.Write.{Write}
use Rattle.salus_types.specs.declared.records.PlaceWrite.{PlaceWrite}
use Rattle.volume_model.specs.Contents.{Batch}
use Rattle.volume_model.specs.Parts.{bytes_left, placed, writes_in}
use Rattle.client_tag.specs.Ranges.{IsWrite, IsBetween}
use Rattle.client_window.specs.Window.{IsWriteOf}

abbrev Left : Type 0
Left = ℕ → Option (List ℕ)

-- what is left in n blocks from `from + k` on
abbrev writes_of : Left → ℕ → ℕ → ℕ → List PlaceWrite
writes_of f from k n = filter_map (λ i. placed i (f (from + i))) (range_with_len k n)

-- a block with other bytes
abbrev with_one : Left → ℕ → List ℕ → Left
with_one f b bytes x = option_or (f x) (if b == x then Some bytes else None)

or_none : {A : Type 0} (o : Option A) → option_or o None ≡ o
or_none None = refl
or_none (Some x) = refl

unlike : (f : Left) (b x : ℕ) (bytes : List ℕ) → (b == x) ≡ false → with_one f b bytes x ≡ f x
unlike f b x bytes apart = ap (λ t. option_or (f x) (if t then Some bytes else None)) apart ∙ or_none (f x)

below_is : (b x : ℕ) → b < x → (b == x) ≡ false
below_is b x less = by_eq (b == x) refl where
  by_eq : (t : Bool) → (b == x) ≡ t → t ≡ false
  by_eq true is = absurd (let same : b ≡ x = eqb-true b x is in omega arith)
  by_eq false is = refl

-- a block before all of them changes nothing
same_past : (f : Left) (b : ℕ) (bytes : List ℕ) (from n k : ℕ) → b < from + k → writes_of (with_one f b bytes) from k n ≡ writes_of f from k n
same_past f b bytes from zero k less = refl
same_past f b bytes from (suc n) k less =
    ap₂ (λ o ws. cons_option (placed k o) ws) (unlike f b (from + k) bytes (below_is b (from + k) less)) (same_past f b bytes from n (k + 1) (omega arith))

more_by_one : (o : Option (List ℕ)) (bytes : List ℕ) (k : ℕ) (ws : List PlaceWrite) → length (cons_option (placed k (option_or o (Some bytes))) ws) ≤ length (cons_option (placed k o) ws) + 1
more_by_one None bytes k ws = omega arith
more_by_one (Some x) bytes k ws = omega arith

longer : (o : Option (List ℕ)) (k : ℕ) (vs ws : List PlaceWrite) → length vs ≤ length ws + 1 → length (cons_option (placed k o) vs) ≤ length (cons_option (placed k o) ws) + 1
longer None k vs ws up = up
longer (Some x) k vs ws up = let more : length vs + 1 ≤ length ws + 1 + 1 = omega arith in omega arith

-- one block more is at most one write more
one_more : (f : Left) (b : ℕ) (bytes : List ℕ) (from n k : ℕ) → length (writes_of (with_one f b bytes) from k n) ≤ length (writes_of f from k n) + 1
one_more f b bytes from zero k = omega arith
one_more f b bytes from (suc n) k =
    here (b == from + k) refl (one_more f b bytes from n (k + 1))
  where
    here : (t : Bool) → (b == from + k) ≡ t → length (writes_of (with_one f b bytes) from (k + 1) n) ≤ length (writes_of f from (k + 1) n) + 1
        → length (writes_of (with_one f b bytes) from k (suc n)) ≤ length (writes_of f from k (suc n)) + 1
    here true is up =
        let same : b ≡ from + k = eqb-true b (from + k) is in
        let rest : writes_of (with_one f b bytes) from (k + 1) n ≡ writes_of f from (k + 1) n = same_past f b bytes from n (k + 1) (omega arith) in
        let first : with_one f b bytes (from + k) ≡ option_or (f (from + k)) (Some bytes) = ap (λ t. option_or (f (from + k)) (if t then Some bytes else None)) is in
        subst (λ l. l ≤ length (writes_of f from k (suc n)) + 1) (sym (ap₂ (λ o ws. length (cons_option (placed k o) ws)) first rest))
        (more_by_one (f (from + k)) bytes k (writes_of f from (k + 1) n))
    here false is up =
        subst (λ o. length (cons_option (placed k o) (writes_of (with_one f b bytes) from (k + 1) n)) ≤ length (writes_of f from k (suc n)) + 1)
        (sym (unlike f b (from + k) bytes is))
        (longer (f (from + k)) k (writes_of (with_one f b bytes) from (k + 1) n) (writes_of f from (k + 1) n) up)

none_written : (from n k : ℕ) → writes_of (bytes_left []) from k n ≡ []
unfolding bytes_left
none_written from zero k = refl
none_written from (suc n) k = none_written from n (k + 1)

few_written : (batch : Batch) (from n : ℕ) → length (writes_of (bytes_left batch) from 0 n) ≤ length batch
unfolding bytes_left
few_written [] from n = subst (λ l. length l ≤ 0) (sym (none_written from n 0)) (omega arith)
few_written (w ∷ batch) from n =
    let rest = few_written batch from n in
    let one = one_more (bytes_left batch) w.block w.bytes from n 0 in
    let long : length (w ∷ batch) ≡ length batch + 1 = omega arith in
    omega arith

pub few_writes : (shape : Shape) (batch : Batch) (g : ℕ) → length (writes_in shape batch g) ≤ length batch
few_writes shape batch g = few_written batch (g * region_blocks shape) (region_blocks shape)

-- ---- their lengths

abbrev IsSized : Shape → List ℕ → Type 0
IsSized shape bytes = length bytes ≡ shape.block

left_sized : (shape : Shape) (batch : Batch) (b : ℕ) (bytes : List ℕ) → All (IsWriteOf shape) batch → bytes_left batch b ≡ Some bytes → IsSized shape bytes
unfolding bytes_left
left_sized shape [] b bytes all is = absurd (cc)
left_sized shape (w ∷ batch) b bytes all is =
    of_either (bytes_left batch b) (w.block == b) (λ at. left_sized shape batch b bytes (All-tail (IsWriteOf shape) w batch all) at) is
  where
    of_either : (o : Option (List ℕ)) (t : Bool) → (o ≡ Some bytes → IsSized shape bytes) → option_or o (if t then Some w.bytes else None) ≡ Some bytes → IsSized shape bytes
    of_either (Some x) t rest at = rest at
    of_either None true rest at = let same : w.bytes ≡ bytes = cc in subst (IsSized shape) same (All-head (IsWriteOf shape) w batch all).long
    of_either None false rest at = absurd (cc)

each_sized : (shape : Shape) (f : Left) (from n k : ℕ) → IsBetween 1 4096 shape.block → ((b : ℕ) (bytes : List ℕ) → f b ≡ Some bytes → IsSized shape bytes)
    → All IsWrite (writes_of f from k n)
each_sized shape f from zero k block sized = All-nil IsWrite
each_sized shape f from (suc n) k block sized =
    by_left (f (from + k)) (λ bytes at. sized (from + k) bytes at) (each_sized shape f from n (k + 1) block sized)
  where
    by_left : (o : Option (List ℕ)) → ((bytes : List ℕ) → o ≡ Some bytes → IsSized shape bytes) → All IsWrite (writes_of f from (k + 1) n)
        → All IsWrite (cons_option (placed k o) (writes_of f from (k + 1) n))
    by_left None is rest = rest
    by_left (Some bytes) is rest =
        All-cons IsWrite (record { place = k; bytes = bytes }) (writes_of f from (k + 1) n)
        (subst (λ l. IsBetween 1 4096 l) (sym (is bytes refl)) block) rest

pub small_writes : (shape : Shape) (batch : Batch) (g : ℕ) → IsBetween 1 4096 shape.block → All (IsWriteOf shape) batch → All IsWrite (writes_in shape batch g)
small_writes shape batch g block all =
    each_sized shape (bytes_left batch) (g * region_blocks shape) (region_blocks shape) 0 block (λ b bytes is. left_sized shape batch b bytes all is)
