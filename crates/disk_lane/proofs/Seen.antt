-- What a write to the file is to a lane.
use Rattle.std.proofs.Common.{◌≡◌, ◌⊎◌, inl, inr, ⊎_elim, ℕ, ◌+◌, ◌-◌, ◌≤◌, ◌<◌, min, max, Bool, true, false, ◌&&◌, ◌||◌, nat_le, nat_lt, List, [], ◌∷◌, ◌++◌, length, map, take, drop, get_or, refl, sym, ◌∙◌, ap, subst, arith, length-append}
use Rattle.std.proofs.lemmas.List.{ext_get_or, get_or-take, get_or-drop, get_or_append_left, get_or-append_right, length-take-le, length-drop}
use Rattle.std.proofs.lemmas.List.FromFn.{get_or-map-range_with_len, length-map-range_with_len}
use Rattle.std.proofs.lemmas.Bool.{cases_lt, lt-ltb, le-ltb, le-leb, lt-leb}
use Rattle.disk_model.specs.Disk.{Moment, IsImage, IsPart, IsWriting, DirtyWithin, is_dirty, written, clean}
use Rattle.disk_model.proofs.Tracked.{length-written, written_before, written_after}
use Rattle.disk_lane.specs.Lanes.{place, count, page_rest, lane_bytes, lane_range, lane_moment}
use Rattle.disk_lane.specs.Places.{place_below, below_count, place_grows, place_in_page, count_in_page, count_grows, count_at_place}
use Rattle.disk_lane.specs.Images.{length-lane, get_or-lane, lane_is, place_past, dirty-lane, count_max}

-- A write to the file is a write to the lane, of those of its bytes that are in the range.
pub writing_of_lane : (lane at n i k : ℕ) (old now : Moment) → count lane at ≡ i → count lane (at + n) ≡ i + k → IsWriting at n old now → IsWriting i k (lane_moment lane old) (lane_moment lane now)
writing_of_lane lane at n i k old now begins ends writing =
    let was = length-lane lane old.seen in
    let is = length-lane lane now.seen in
    let low : count lane (length old.seen) ≤ count lane (length now.seen) = count_grows lane _ _ writing.part.no_shorter in
    let high : count lane (length now.seen) ≤ count lane (max (length old.seen) (at + n)) = count_grows lane _ _ writing.part.no_longer in
    record {
      synced = ap (λ (l : List ℕ). lane_bytes lane l) writing.synced;
      part = record {
        no_shorter = omega (arith, was, is, low);
        no_longer = omega (arith, was, is, high, count_max lane (length old.seen) (at + n), ends);
        before = λ j new there below.
            let inside : j < count lane (length now.seen) = omega (arith, is) in
            let before : j < count lane (length old.seen) = omega (arith, was) in
            get_or-lane lane now.seen j inside
            ∙ writing.part.before (place lane j) (place_below lane j _ inside) (place_below lane j _ before) (place_below lane j at (omega (arith, begins)))
            ∙ sym (get_or-lane lane old.seen j before);
        after = λ j new there above.
            let inside : j < count lane (length now.seen) = omega (arith, is) in
            let before : j < count lane (length old.seen) = omega (arith, was) in
            get_or-lane lane now.seen j inside
            ∙ writing.part.after (place lane j) (place_below lane j _ inside) (place_below lane j _ before) (place_past lane j (at + n) (omega (arith, ends)))
            ∙ sym (get_or-lane lane old.seen j before);
      };
      dirty = λ j dirty. ⊎_elim (λ (was : is_dirty old.dirty (place lane j) ≡ true). inl (dirty-lane lane old.dirty j ∙ was)) (λ (range : (at ≤ place lane j) × (place lane j < at + n)). inr (
        ⊎_elim (λ (below : j < i). absurd (omega (arith, range.0, place_below lane j at (omega (arith, begins, below))))) (λ (is : i ≤ j). is) (cases_lt j i),
        omega (arith, ends, below_count lane j (at + n) range.1),
      )) (writing.dirty (place lane j) (sym (dirty-lane lane now.dirty j) ∙ dirty));
    }

-- ---- what a read gives after a write

pub written_inside : (at : ℕ) (bytes file : List ℕ) (j : ℕ) → at ≤ length file → j < length bytes → get_or (written at bytes file) (at + j) 0 ≡ get_or bytes j 0
written_inside at bytes file j le inside =
    let front = length-take-le at file le in
    let both = length-append (take at file) bytes in
    get_or_append_left (take at file ++ bytes) (drop (at + length bytes) file) 0 (at + j) (omega arith)
    ∙ get_or-append_right (take at file) bytes at (at + j) 0 front (omega arith)
    ∙ ap (λ (k : ℕ). get_or bytes k 0) (back at j)
  where
    back : (at j : ℕ) → at + j - at ≡ j
    back at j = omega arith

-- a write at a place within a page
pub written_in_page : (lane i : ℕ) (bytes file : List ℕ) → place lane i ≤ length file → length bytes ≤ page_rest i → lane_bytes lane (written (place lane i) bytes file) ≡ written i bytes (lane_bytes lane file)
written_in_page lane i bytes file le fits =
    let at = place lane i in
    let n = length bytes in
    let long = length-written at bytes file le in
    let was = length-lane lane file in
    let begins = count_at_place lane i in
    let ends = count_in_page lane i n fits in
    let there : i ≤ length (lane_bytes lane file) = omega (arith, was, begins, count_grows lane at (length file) le) in
    let size : length (written i bytes (lane_bytes lane file)) ≡ count lane (length (written at bytes file)) =
    length-written i bytes (lane_bytes lane file) there ∙ omega (arith, was, ends, count_max lane (length file) (at + n)) ∙ sym (ap (λ (k : ℕ). count lane k) long) in
    sym (lane_is lane (written at bytes file) (written i bytes (lane_bytes lane file)) size (λ j inside. byte lane i bytes file j le fits there (omega (arith, inside, length-written i bytes (lane_bytes lane file) there, was))))
  where
    byte : (lane i : ℕ) (bytes file : List ℕ) (j : ℕ) → place lane i ≤ length file → length bytes ≤ page_rest i → i ≤ length (lane_bytes lane file) → j < max (count lane (length file)) (i + length bytes) → get_or (written i bytes (lane_bytes lane file)) j 0 ≡ get_or (written (place lane i) bytes file) (place lane j) 0
    byte lane i bytes file j le fits there inside =
        let at = place lane i in
        let n = length bytes in
        elim (cases_lt j i) [
          | inl below ↦ written_before i bytes (lane_bytes lane file) j there below ∙ get_or-lane lane file j (omega (arith, there, length-lane lane file)) ∙ sym (written_before at bytes file (place lane j) le (place_grows lane j i below))
          | inr above ↦ elim (cases_lt j (i + n)) [
            | inl below ↦
                let k = j - i in
                let at_k : i + k ≡ j = omega arith in
                let place_k : place lane (i + k) ≡ at + k = place_in_page lane i k (omega arith) in
                ap (λ (m : ℕ). get_or (written i bytes (lane_bytes lane file)) m 0) (sym at_k)
                ∙ written_inside i bytes (lane_bytes lane file) k there (omega arith)
                ∙ sym (ap (λ (m : ℕ). get_or (written at bytes file) (place lane m) 0) (sym at_k) ∙ ap (λ (m : ℕ). get_or (written at bytes file) m 0) place_k ∙ written_inside at bytes file k le (omega arith))
            | inr past ↦
                let before : j < count lane (length file) = omega (arith, inside) in
                written_after i bytes (lane_bytes lane file) j there past ∙ get_or-lane lane file j before
                ∙ sym (written_after at bytes file (place lane j) le (place_past lane j (at + n) (omega (arith, count_in_page lane i n fits))))
          ]
        ]

-- bytes up to the page of the lane's next byte change nothing of the lane
pub filled_up : (lane i : ℕ) (bytes file : List ℕ) → count lane (length file) ≡ i → length file + length bytes ≡ place lane i → lane_bytes lane (written (length file) bytes file) ≡ lane_bytes lane file
filled_up lane i bytes file at_end up =
    let long = length-written (length file) bytes file (omega arith) in
    let was = length-lane lane file in
    let whole : length (written (length file) bytes file) ≡ place lane i = omega (arith, long, up) in
    let size : length (lane_bytes lane file) ≡ count lane (length (written (length file) bytes file)) = was ∙ at_end ∙ sym (ap (λ (k : ℕ). count lane k) whole ∙ count_at_place lane i) in
    sym (lane_is lane (written (length file) bytes file) (lane_bytes lane file) size (λ j inside.
    let before : j < count lane (length file) = omega (arith, was) in
    get_or-lane lane file j before ∙ sym (written_before (length file) bytes file (place lane j) (omega arith) (place_below lane j (length file) before))))

-- a read within a page
pub read_in_page : (lane i k : ℕ) (file : List ℕ) (j : ℕ) → k ≤ page_rest i → place lane i + k ≤ length file → j < k → get_or (take k (drop (place lane i) file)) j 0 ≡ get_or (lane_bytes lane file) (i + j) 0
read_in_page lane i k file j fits there inside =
    let at = place_in_page lane i j (omega arith) in
    get_or-take k (drop (place lane i) file) j 0 inside
    ∙ get_or-drop (place lane i) file j 0
    ∙ ap (λ (m : ℕ). get_or file m 0) (sym at)
    ∙ sym (get_or-lane lane file (i + j) (below_count lane (i + j) (length file) (omega (arith, at))))

-- bytes of a lane are inside of the file
pub page_inside : (lane i k n : ℕ) → k ≤ page_rest i → 0 < k → i + k ≤ count lane n → place lane i + k ≤ n
page_inside lane i k n fits some inside = omega (arith, place_below lane (i + (k - 1)) n (omega arith), place_in_page lane i (k - 1) (omega arith))
