-- What a lane knows of its file.
use Rattle.std.proofs.Common.{◌≡◌, ◌⊎◌, ⊎_elim, ℕ, ◌+◌, ◌≤◌, ◌<◌, Bool, true, List, [], ◌∷◌, length, refl, sym, ◌∙◌, ap, subst, arith}
use Rattle.disk_model.specs.Disk.{Moment, History, Now, Goes, IsSynced, clean}
use Rattle.disk_model.proofs.Passing.{now_map, goes_now}
use Rattle.disk_lane.specs.Lanes.{count, lane_bytes, lane_moment, lane_history}
use Rattle.disk_lane.specs.Images.{length-lane}
use Rattle.disk_lane.proofs.Passed.{goes_mapped, now_lane}

pub synced_lane : (lane : ℕ) (old new : History) → Goes IsSynced old new → Goes IsSynced (lane_history lane old) (lane_history lane new)
synced_lane lane old new went = goes_mapped (lane_moment lane) IsSynced IsSynced old new (each old) went
  where
    each : (h : History) → Now h (λ start. (now : Moment) → IsSynced start now → IsSynced (lane_moment lane start) (lane_moment lane now))
    each [] = tt
    each (start ∷ past) = λ now is. ap (λ (m : Moment). lane_moment lane m) is

pub len_lane : (lane n end : ℕ) (h : History) → n ≡ count lane end → Now h (λ m. end ≡ length m.seen) → Now (lane_history lane h) (λ m. n ≡ length m.seen)
len_lane lane n end h is known = now_lane lane h (λ m. n ≡ length m.seen) (now_map (λ m. end ≡ length m.seen) (λ m. n ≡ length (lane_bytes lane m.seen)) (λ m same. is ∙ ap (λ (k : ℕ). count lane k) same ∙ sym (length-lane lane m.seen)) h known)

-- a read that isn't inside of the lane isn't asked for
pub read_nowhere : (lane at n end : ℕ) (h : History) (P : Moment → Type 0) → Now h (λ m. end ≡ length m.seen) → Now (lane_history lane h) (λ m. at + n ≤ length m.seen) → count lane end < at + n → Now h P
read_nowhere lane at n end [] P known there past = tt
read_nowhere lane at n end (m ∷ before) P known there past = absurd (omega (arith, there, length-lane lane m.seen, ap (λ (k : ℕ). count lane k) known))
