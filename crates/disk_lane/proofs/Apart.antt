-- The head and the other lane, in what a write through a lane keeps, and the lanes in what a write of the selector keeps.
use Rattle.std.proofs.Common.{◌≡◌, ◌⊎◌, inl, inr, ⊎_elim, ℕ, ◌+◌, ◌-◌, ◌≤◌, ◌<◌, max, List, [], ◌∷◌, length, take, get_or, refl, sym, ◌∙◌, ap, subst, arith}
use Rattle.std.proofs.lemmas.List.{ext_get_or, get_or-take, length-take-le}
use Rattle.std.proofs.lemmas.Bool.{cases_lt}
use Rattle.disk_model.specs.Disk.{Moment, History, Now, Goes, EachImage, IsImage, IsPart, written}
use Rattle.disk_model.proofs.Tracked.{length-written, written_before, written_after}
use Rattle.disk_model.proofs.Torn.{part_written}
use Rattle.disk_lane.specs.Lanes.{place, count, lane_bytes}
use Rattle.disk_lane.specs.Places.{place_below, head_before, other_apart, count_grows}
use Rattle.disk_lane.specs.Images.{length-lane, get_or-lane, lane_is}
use Rattle.disk_lane.specs.Beside.{IsOutside, IsKept}
use Rattle.disk_lane.specs.Heads.{IsLonger}

-- the other lane begins with what it was
pub other_kept : (lane : ℕ) (earlier image : List ℕ) → lane < 2 → IsKept (1 - lane) earlier image → IsLonger (lane_bytes lane earlier) (lane_bytes lane image)
other_kept lane earlier image is kept =
    let was = length-lane lane earlier in
    let now = length-lane lane image in
    let grows = count_grows lane (length earlier) (length image) kept.reaches in
    record {
      reaches = omega (arith, was, now, grows);
      same = λ i there.
          let before : i < count lane (length earlier) = omega (arith, was) in
          get_or-lane lane image i (omega (arith, grows, before))
          ∙ kept.same (place lane i) (place_below lane i (length earlier) before) (λ k same. other_apart lane i k is same)
          ∙ sym (get_or-lane lane earlier i before);
    }

-- and so do the first bytes of the file
pub head_kept : (lane : ℕ) (earlier image : List ℕ) (i : ℕ) → IsKept lane earlier image → i < 16 → 16 ≤ length earlier → get_or image i 0 ≡ get_or earlier i 0
head_kept lane earlier image i kept below long = kept.same i (omega arith) (λ k same. omega (arith, head_before lane k, same))

pub mark_kept : (lane : ℕ) (earlier image : List ℕ) → IsKept lane earlier image → 16 ≤ length earlier → take 8 image ≡ take 8 earlier
mark_kept lane earlier image kept long =
    let a = length-take-le 8 image (omega (arith, kept.reaches)) in
    let b = length-take-le 8 earlier (omega arith) in
    ext_get_or 0 (take 8 image) (take 8 earlier) (a ∙ sym b) (λ i there.
    let below : i < 8 = omega (arith, a) in
    get_or-take 8 image i 0 below ∙ head_kept lane earlier image i kept (omega arith) long ∙ sym (get_or-take 8 earlier i 0 below))

-- ---- the selector

-- a file that differs at the selector alone
pub record IsTurned (file image : List ℕ) : Type 0 where
  pub long : length image ≡ length file
  pub same : (i : ℕ) → i < length file → (i < 8) ⊎ (9 ≤ i) → get_or image i 0 ≡ get_or file i 0

pub part_turned : (file image : List ℕ) → 16 ≤ length file → IsPart 8 9 (length file) (max (length file) 9) file image → IsTurned file image
part_turned file image long part =
    let size : length image ≡ length file = omega (arith, part.no_shorter, part.no_longer) in
    record {
      long = size;
      same = λ i there out. ⊎_elim (λ (below : i < 8). part.before i (omega (arith, size)) there below) (λ (above : 9 ≤ i). part.after i (omega (arith, size)) there above) out;
    }

-- no lane changes
pub lanes_turned : (lane : ℕ) (file image : List ℕ) → IsTurned file image → lane_bytes lane file ≡ lane_bytes lane image
lanes_turned lane file image turned =
    let was = length-lane lane file in
    lane_is lane image (lane_bytes lane file) (was ∙ ap (λ (n : ℕ). count lane n) (sym turned.long)) (λ i there.
    let before : i < count lane (length file) = omega (arith, was) in
    get_or-lane lane file i before ∙ sym (turned.same (place lane i) (place_below lane i (length file) before) (inr (omega (arith, head_before lane i)))))

pub mark_turned : (file image : List ℕ) → 16 ≤ length file → IsTurned file image → take 8 image ≡ take 8 file
mark_turned file image long turned =
    let a = length-take-le 8 image (omega (arith, turned.long)) in
    let b = length-take-le 8 file (omega arith) in
    ext_get_or 0 (take 8 image) (take 8 file) (a ∙ sym b) (λ i there.
    let below : i < 8 = omega (arith, a) in
    get_or-take 8 image i 0 below ∙ turned.same i (omega arith) (inl below) ∙ sym (get_or-take 8 file i 0 below))
