-- Images of a lane and of its file: each of the one is of the other.
use Rattle.std.proofs.Common.{◌≡◌, ◌⊎◌, inl, inr, ⊎_elim, ℕ, ◌+◌, ◌-◌, ◌≤◌, ◌<◌, min, max, Bool, true, false, cond, ◌==◌, nat_lt, List, [], ◌∷◌, length, map, get_or, refl, sym, ◌∙◌, ap, subst, arith}
use Rattle.std.specs.List.{range_with_len, AllByRecursion}
use Rattle.std.proofs.lemmas.List.FromFn.{get_or-map-range_with_len, length-map-range_with_len}
use Rattle.std.proofs.lemmas.Bool.{cases_eq, cases_lt, cond-true, cond-false, eq-eqb, ne_eqb, lt-ltb, le-ltb}
use Rattle.disk_model.specs.Disk.{Moment, History, Now, Goes, Through, EachImage, IsImage, is_dirty}
use Rattle.disk_lane.specs.Lanes.{place, count, lane_bytes, lane_moment, lane_history}
use Rattle.disk_lane.specs.Places.{place_below, below_count, place_grows, count_grows, count_at_place}
use Rattle.disk_lane.specs.Images.{length-lane, get_or-lane, lane_is, place_past, dirty-lane, count_max, image_of_lane}

-- a file with these bytes of the lane, and what was synced elsewhere
file_byte : ℕ → Moment → List ℕ → ℕ → ℕ
file_byte lane moment bytes i = cond (place lane (count lane i) == i) (get_or bytes (count lane i) 0) (cond (nat_lt i (length moment.synced)) (get_or moment.synced i 0) 0)

byte_in : (lane : ℕ) (moment : Moment) (bytes : List ℕ) (i : ℕ) → place lane (count lane i) ≡ i → file_byte lane moment bytes i ≡ get_or bytes (count lane i) 0
unfolding file_byte
byte_in lane moment bytes i is = cond-true (place lane (count lane i) == i) _ _ (eq-eqb (place lane (count lane i)) i is)

byte_out : (lane : ℕ) (moment : Moment) (bytes : List ℕ) (i : ℕ) → (place lane (count lane i) ≡ i → ⊥) → i < length moment.synced → file_byte lane moment bytes i ≡ get_or moment.synced i 0
unfolding file_byte
byte_out lane moment bytes i out there = cond-false (place lane (count lane i) == i) _ _ (ne_eqb (place lane (count lane i)) i out) ∙ cond-true (nat_lt i (length moment.synced)) _ _ (lt-ltb i (length moment.synced) there)

pub record FromLane (lane : ℕ) (moment : Moment) (bytes : List ℕ) : Type 0 where
  pub file : List ℕ
  pub is : IsImage moment file
  pub bytes_are : bytes ≡ lane_bytes lane file

count_min : (lane m n : ℕ) → count lane (min m n) ≡ min (count lane m) (count lane n)
count_min lane m n = ⊎_elim (λ (below : m < n). let e : min m n ≡ m = omega arith in ap (λ (k : ℕ). count lane k) e ∙ omega (arith, count_grows lane m n (omega arith))) (λ (above : n ≤ m). let e : min m n ≡ n = omega arith in ap (λ (k : ℕ). count lane k) e ∙ omega (arith, count_grows lane n m above)) (cases_lt m n)

-- how long the file is
count_size : (lane k most : ℕ) → k ≤ count lane most → count lane (min (place lane k) most) ≡ k
count_size lane k most le = count_min lane (place lane k) most ∙ omega (arith, count_at_place lane k)

-- Each image of a lane is that of an image of the file.
pub image_from_lane : (lane : ℕ) (moment : Moment) (bytes : List ℕ) → IsImage (lane_moment lane moment) bytes → FromLane lane moment bytes
image_from_lane lane moment bytes is =
    let k = length bytes in
    let most = max (length moment.synced) (length moment.seen) in
    let least = min (length moment.synced) (length moment.seen) in
    let size = min (place lane k) most in
    let file = map (λ i. file_byte lane moment bytes i) (range_with_len 0 size) in
    let long : length file ≡ size = length-map-range_with_len (λ i. file_byte lane moment bytes i) 0 size in
    let seen = length-lane lane moment.seen in
    let synced = length-lane lane moment.synced in
    let high : k ≤ count lane most = omega (arith, is.no_longer, seen, synced, count_max lane (length moment.synced) (length moment.seen)) in
    let low : count lane least ≤ k = omega (arith, is.no_shorter, seen, synced, count_min lane (length moment.synced) (length moment.seen)) in
    let counted : count lane size ≡ k = count_size lane k most high in
    record {
      file = file;
      is = record {
        no_shorter = omega (arith, long, place_past lane k least low);
        no_longer = omega (arith, long);
        kept = λ i there was clear.
            get_or-map-range_with_len (λ j. file_byte lane moment bytes j) 0 size i i 0 (omega (arith, long)) (omega arith)
            ∙ kept_byte lane moment bytes is i (omega (arith, long)) was clear;
      };
      bytes_are = lane_is lane file bytes (sym counted ∙ ap (λ (n : ℕ). count lane n) (sym long)) (λ j there.
          let inside : place lane j < size = place_below lane j size (omega (arith, counted)) in
          sym (get_or-map-range_with_len (λ i. file_byte lane moment bytes i) 0 size (place lane j) (place lane j) 0 inside (omega arith)
          ∙ byte_in lane moment bytes (place lane j) (ap (λ (n : ℕ). place lane n) (count_at_place lane j))
          ∙ ap (λ (n : ℕ). get_or bytes n 0) (count_at_place lane j)));
    }
  where
    kept_byte : (lane : ℕ) (moment : Moment) (bytes : List ℕ) → IsImage (lane_moment lane moment) bytes → (i : ℕ) → i < place lane (length bytes) → i < length moment.synced → is_dirty moment.dirty i ≡ false → file_byte lane moment bytes i ≡ get_or moment.synced i 0
    kept_byte lane moment bytes is i below was clear = elim (cases_eq (place lane (count lane i)) i) [
      | inl here ↦
          let j = count lane i in
          let inside : j < length bytes = ⊎_elim (λ (in_it : j < length bytes). in_it) (λ (past : length bytes ≤ j). ⊎_elim (λ (under : length bytes < j). absurd (omega (arith, here, place_grows lane (length bytes) j under))) (λ (over : j ≤ length bytes). let same : j ≡ length bytes = omega arith in absurd (omega (arith, here, ap (λ (n : ℕ). place lane n) same))) (cases_lt (length bytes) j)) (cases_lt j (length bytes)) in
          let before : j < count lane (length moment.synced) = below_count lane j (length moment.synced) (omega (arith, here)) in
          byte_in lane moment bytes i here
          ∙ is.kept j inside (omega (arith, before, length-lane lane moment.synced)) (dirty-lane lane moment.dirty j ∙ ap (λ (n : ℕ). is_dirty moment.dirty n) here ∙ clear)
          ∙ get_or-lane lane moment.synced j before
          ∙ ap (λ (n : ℕ). get_or moment.synced n 0) here
      | inr out ↦ byte_out lane moment bytes i out was
    ]

-- so what each image of the one has, each of the other has
pub each_in_file : (lane : ℕ) (moment : Moment) (P : List ℕ → Type 0) → EachImage (lane_moment lane moment) P → EachImage moment (λ file. P (lane_bytes lane file))
each_in_file lane moment P each file is = each (lane_bytes lane file) (image_of_lane lane moment file is)

pub each_in_lane : (lane : ℕ) (moment : Moment) (P : List ℕ → Type 0) → EachImage moment (λ file. P (lane_bytes lane file)) → EachImage (lane_moment lane moment) P
each_in_lane lane moment P each bytes is = let b = image_from_lane lane moment bytes is in subst P (sym b.bytes_are) (each b.file b.is)
