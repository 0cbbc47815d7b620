-- The head of a file of two lanes, the lane that it names, and what a crash leaves while the other lane is written and named.
use Rattle.std.specs.Prelude.{◌≡◌, ◌≢◌, ◌⊎◌, ℕ, ◌+◌, ◌-◌, ◌≤◌, ◌<◌, ◌==◌, if◌then◌else◌, List, length, take, codes, slice_index}
use Rattle.disk_model.specs.Disk.{Moment, History, EachImage, IsImage}
use Rattle.disk_lane.specs.Lanes.{lane_bytes}

abbrev pub file_mark : List ℕ
file_mark = codes "SALUSCK1"

-- lane 1 is live exactly where the selector is 1
abbrev pub live_lane : List ℕ → ℕ
live_lane file = if slice_index file 8 == 1 then 1 else 0

abbrev pub live_bytes : List ℕ → List ℕ
live_bytes file = lane_bytes (live_lane file) file

-- a file of two lanes, of which this one is live
pub record IsHead (lane : ℕ) (file : List ℕ) : Type 0 where
  pub long : 16 ≤ length file
  pub marked : take 8 file ≡ file_mark
  pub live : live_lane file ≡ lane

-- these bytes begin with those
pub record IsLonger (earlier bytes : List ℕ) : Type 0 where
  pub reaches : length earlier ≤ length bytes
  pub same : (i : ℕ) → i < length earlier → slice_index bytes i ≡ slice_index earlier i

-- the lane has what it had in one of the images from before, and perhaps more behind
pub record IsHeld (lane : ℕ) (start : Moment) (image : List ℕ) : Type 0 where
  pub earlier : List ℕ
  pub is : IsImage start earlier
  pub longer : IsLonger (lane_bytes lane earlier) (lane_bytes lane image)

-- the other lane is live, and begins with these bytes
pub record IsReplaced (lane : ℕ) (bytes image : List ℕ) : Type 0 where
  pub head : IsHead (1 - lane) image
  pub begins : take (length bytes) (lane_bytes (1 - lane) image) ≡ bytes

abbrev pub IsEither : ℕ → List ℕ → List ℕ → Type 0
IsEither lane bytes image = IsHead lane image ⊎ IsReplaced lane bytes image

-- each image has the lane as before, and it is the live one
abbrev pub IsHolding : ℕ → Moment → Moment → Type 0
IsHolding lane start now = EachImage now (λ image. IsHeld lane start image × IsHead lane image)

-- each image has the lane as before; it is the live one, or the other one is, with these bytes
abbrev pub IsReplacing : ℕ → List ℕ → Moment → Moment → Type 0
IsReplacing lane bytes start now = EachImage now (λ image. IsHeld lane start image × IsEither lane bytes image)

-- too short for a file of two lanes, or with another mark
abbrev pub IsUnmarked : List ℕ → Type 0
IsUnmarked file = (length file < 16) ⊎ (take 8 file ≢ file_mark)
