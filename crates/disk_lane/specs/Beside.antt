-- What a call on one lane leaves of the rest of the file.
use Rattle.std.proofs.Common.{◌≡◌, ℕ, ◌≤◌, ◌<◌, List, length, get_or, refl, sym, ◌∙◌, subst, arith}
use Rattle.disk_model.specs.Disk.{Moment, History, Now, Goes, EachImage, IsImage, IsWriting, IsSynced}
use Rattle.disk_model.proofs.Passing.{goes_none, goes_trans}
use Rattle.disk_lane.specs.Lanes.{place}

-- the byte at this place isn't the lane's: it is the head's, or the other lane's
abbrev pub IsOutside : ℕ → ℕ → Type 0
IsOutside lane i = (k : ℕ) → place lane k ≡ i → ⊥

-- each byte that isn't the lane's still stands there; behind them there may be more
pub record IsKept (lane : ℕ) (earlier image : List ℕ) : Type 0 where
  pub reaches : length earlier ≤ length image
  pub same : (i : ℕ) → i < length earlier → IsOutside lane i → get_or image i 0 ≡ get_or earlier i 0

-- an image that keeps what isn't the lane's of one from before
pub record HasKept (lane : ℕ) (old : Moment) (image : List ℕ) : Type 0 where
  pub earlier : List ℕ
  pub is : IsImage old earlier
  pub kept : IsKept lane earlier image

abbrev pub IsBeside : ℕ → Moment → Moment → Type 0
IsBeside lane old now = EachImage now (HasKept lane old)

-- the lane is the same, and at each moment each image keeps what isn't the lane's
pub record StaysBeside (lane now : ℕ) (old new : History) : Type 0 where
  pub lane_is : now ≡ lane
  pub went : Goes (IsBeside lane) old new

pub beside_trans : (lane : ℕ) (a b c : Moment) → IsBeside lane a b → IsBeside lane b c → IsBeside lane a c
beside_trans lane a b c first second image is =
    let late = second image is in
    let early = first late.earlier late.is in
    record {
      earlier = early.earlier;
      is = early.is;
      kept = record {
        reaches = omega (arith, early.kept.reaches, late.kept.reaches);
        same = λ i there out. late.kept.same i (omega (arith, early.kept.reaches)) out ∙ early.kept.same i there out;
      };
    }

pub stays_none : (lane : ℕ) (h : History) → StaysBeside lane lane h h
stays_none lane h = record { lane_is = refl; went = goes_none (IsBeside lane) h }

pub stays_trans : (a b c : ℕ) (old mid new : History) → StaysBeside a b old mid → StaysBeside b c mid new → StaysBeside a c old new
stays_trans a b c old mid new first second = record {
  lane_is = second.lane_is ∙ first.lane_is;
  went = goes_trans (IsBeside a) (beside_trans a) old mid new first.went (subst (λ (l : ℕ). Goes (IsBeside l) mid new) first.lane_is second.went);
}

-- a write of the selector, or a part of it, and then perhaps a sync
pub record IsTurning (old new : History) : Type 0 where
  pub mid : History
  pub writes : Goes (IsWriting 8 1) old mid
  pub reads : Now mid (λ now. IsImage now now.seen)
  pub syncs : Goes IsSynced mid new
