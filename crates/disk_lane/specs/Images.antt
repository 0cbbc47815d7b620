-- The bytes of a lane, and what a crash may leave of them.
use Rattle.std.proofs.Common.{◌≡◌, ◌⊎◌, inl, inr, ⊎_elim, ℕ, ◌+◌, ◌-◌, ◌≤◌, ◌<◌, min, max, Bool, true, false, ◌&&◌, ◌||◌, nat_le, nat_lt, List, [], ◌∷◌, ◌++◌, length, map, take, drop, get_or, refl, sym, ◌∙◌, ap, subst, arith, length-append}
use Rattle.std.proofs.lemmas.List.{ext_get_or, get_or-take, get_or-drop, get_or_append_left, get_or-append_right, length-take-le, length-drop}
use Rattle.std.proofs.lemmas.List.FromFn.{get_or-map-range_with_len, length-map-range_with_len}
use Rattle.std.proofs.lemmas.Bool.{cases_lt, lt-ltb, le-ltb, le-leb, lt-leb}
use Rattle.disk_model.specs.Disk.{Moment, History, Now, IsImage, IsPart, IsWriting, DirtyWithin, is_dirty, written, clean}
use Rattle.disk_lane.specs.Lanes.{place, count, page_rest, lane_bytes, lane_range, lane_moment, lane_history}
use Rattle.disk_lane.specs.Places.{place_below, below_count, place_grows, place_in_page, count_in_page, count_grows, count_at_place}

pub length-lane : (lane : ℕ) (file : List ℕ) → length (lane_bytes lane file) ≡ count lane (length file)
unfolding lane_bytes
length-lane lane file = length-map-range_with_len (λ i. get_or file (place lane i) 0) 0 (count lane (length file))

pub get_or-lane : (lane : ℕ) (file : List ℕ) (i : ℕ) → i < count lane (length file) → get_or (lane_bytes lane file) i 0 ≡ get_or file (place lane i) 0
unfolding lane_bytes
get_or-lane lane file i there = get_or-map-range_with_len (λ j. get_or file (place lane j) 0) 0 (count lane (length file)) i i 0 there (omega arith)

-- a lane is what stands at its places
pub lane_is : (lane : ℕ) (file bytes : List ℕ) → length bytes ≡ count lane (length file) → ((i : ℕ) → i < length bytes → get_or bytes i 0 ≡ get_or file (place lane i) 0) → bytes ≡ lane_bytes lane file
lane_is lane file bytes long same = ext_get_or 0 bytes (lane_bytes lane file) (long ∙ sym (length-lane lane file)) (λ i there. same i there ∙ sym (get_or-lane lane file i (omega (arith, there, long))))

lt_same : (lane i n : ℕ) → nat_lt i (count lane n) ≡ nat_lt (place lane i) n
lt_same lane i n = ⊎_elim (λ (below : i < count lane n). lt-ltb i (count lane n) below ∙ sym (lt-ltb (place lane i) n (place_below lane i n below))) (λ (above : count lane n ≤ i). le-ltb i (count lane n) above ∙ sym (le-ltb (place lane i) n (past lane i n above))) (cases_lt i (count lane n))
  where
    past : (lane i n : ℕ) → count lane n ≤ i → n ≤ place lane i
    past lane i n above = ⊎_elim (λ (below : place lane i < n). absurd (omega (arith, below_count lane i n below))) (λ (is : n ≤ place lane i). is) (cases_lt (place lane i) n)

pub place_past : (lane i n : ℕ) → count lane n ≤ i → n ≤ place lane i
place_past lane i n above = ⊎_elim (λ (below : place lane i < n). absurd (omega (arith, below_count lane i n below))) (λ (is : n ≤ place lane i). is) (cases_lt (place lane i) n)

le_same : (lane i n : ℕ) → nat_le (count lane n) i ≡ nat_le n (place lane i)
le_same lane i n = ⊎_elim (λ (below : i < count lane n). lt-leb (count lane n) i below ∙ sym (lt-leb n (place lane i) (place_below lane i n below))) (λ (above : count lane n ≤ i). le-leb (count lane n) i above ∙ sym (le-leb n (place lane i) (place_past lane i n above))) (cases_lt i (count lane n))

-- a byte of a lane is dirty where its place is
pub dirty-lane : (lane : ℕ) (ranges : List (ℕ × ℕ)) (i : ℕ) → is_dirty (map (lane_range lane) ranges) i ≡ is_dirty ranges (place lane i)
dirty-lane lane [] i = refl
dirty-lane lane (range ∷ ranges) i = λ k. (le_same lane i range.0 k && lt_same lane i range.1 k) || dirty-lane lane ranges i k

pub count_max : (lane m n : ℕ) → count lane (max m n) ≡ max (count lane m) (count lane n)
count_max lane m n = ⊎_elim (λ (below : m < n). ap (λ (k : ℕ). count lane k) (bigger m n below) ∙ omega (arith, count_grows lane m n (omega arith))) (λ (above : n ≤ m). ap (λ (k : ℕ). count lane k) (smaller m n above) ∙ omega (arith, count_grows lane n m above)) (cases_lt m n)
  where
    bigger : (m n : ℕ) → m < n → max m n ≡ n
    bigger m n below = omega arith

    smaller : (m n : ℕ) → n ≤ m → max m n ≡ m
    smaller m n above = omega arith

-- Each image of the file has an image of the lane.
pub image_of_lane : (lane : ℕ) (moment : Moment) (image : List ℕ) → IsImage moment image → IsImage (lane_moment lane moment) (lane_bytes lane image)
image_of_lane lane moment image is =
    let seen = length-lane lane moment.seen in
    let synced = length-lane lane moment.synced in
    let here = length-lane lane image in
    let low : count lane (min (length moment.synced) (length moment.seen)) ≤ count lane (length image) = count_grows lane _ _ is.no_shorter in
    let high : count lane (length image) ≤ count lane (max (length moment.synced) (length moment.seen)) = count_grows lane _ _ is.no_longer in
    record {
      no_shorter = ⊎_elim (λ (below : length moment.synced < length moment.seen). omega (arith, low, seen, synced, here, least lane (length moment.synced) (length moment.seen) below)) (λ (above : length moment.seen ≤ length moment.synced). omega (arith, low, seen, synced, here, least_right lane (length moment.synced) (length moment.seen) above)) (cases_lt (length moment.synced) (length moment.seen));
      no_longer = omega (arith, high, seen, synced, here, count_max lane (length moment.synced) (length moment.seen));
      kept = λ i there was clear.
          let inside : i < count lane (length image) = omega (arith, here) in
          let before : i < count lane (length moment.synced) = omega (arith, synced) in
          get_or-lane lane image i inside
          ∙ is.kept (place lane i) (place_below lane i _ inside) (place_below lane i _ before) (sym (dirty-lane lane moment.dirty i) ∙ clear)
          ∙ sym (get_or-lane lane moment.synced i before);
    }
  where
    least : (lane m n : ℕ) → m < n → count lane (min m n) ≡ count lane m
    least lane m n below = let e : min m n ≡ m = omega arith in ap (λ (k : ℕ). count lane k) e

    least_right : (lane m n : ℕ) → n ≤ m → count lane (min m n) ≡ count lane n
    least_right lane m n above = let e : min m n ≡ n = omega arith in ap (λ (k : ℕ). count lane k) e

-- what a read of a lane gives is one of its images
pub reads_of_lane : (lane : ℕ) (h : History) → Now h (λ m. IsImage m m.seen) → Now (lane_history lane h) (λ m. IsImage m m.seen)
reads_of_lane lane [] is = tt
reads_of_lane lane (m ∷ past) is = image_of_lane lane m m.seen is
