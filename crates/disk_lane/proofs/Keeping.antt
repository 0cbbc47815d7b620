-- A write through a lane keeps the head, and the other lane as far as it reaches.
use Rattle.std.proofs.Common.{◌≡◌, ◌⊎◌, inl, inr, ⊎_elim, ℕ, ◌+◌, ◌-◌, ◌≤◌, ◌<◌, List, [], ◌∷◌, length, get_or, refl, sym, ◌∙◌, ap, subst, arith}
use Rattle.std.specs.List.{AllByRecursion}
use Rattle.std.proofs.lemmas.Bool.{cases_lt}
use Rattle.disk_model.specs.Disk.{Moment, History, Now, Goes, EachImage, IsImage, IsWriting, IsSynced, clean}
use Rattle.disk_model.proofs.Passing.{goes_none, goes_trans, goes_wider, image_of_clean}
use Rattle.disk_model.proofs.Earlier.{image_before}
use Rattle.disk_lane.specs.Lanes.{place, count, page_rest}
use Rattle.disk_lane.specs.Places.{place_in_page}
use Rattle.disk_lane.specs.Beside.{IsOutside, IsKept, HasKept, IsBeside, StaysBeside, beside_trans, stays_none}

all_if : (P Q : Moment → Type 0) → ((m : Moment) → P m → Q m) → (moments : List Moment) → AllByRecursion P moments → AllByRecursion Q moments
all_if P Q f [] all = tt
all_if P Q f (m ∷ moments) all = (f m all.0, all_if P Q f moments all.1)

pub goes_if : (step wider : Moment → Moment → Type 0) (old new : History) → Now old (λ start. (now : Moment) → step start now → wider start now) → Goes step old new → Goes wider old new
goes_if step wider [] new each went = record { later = went.later; is = went.is; untold = went.untold; each = tt }
goes_if step wider (start ∷ past) new each went = record { later = went.later; is = went.is; untold = went.untold; each = all_if (step start) (wider start) each went.later went.each }

beside_page : (lane a n : ℕ) (old now : Moment) → n ≤ page_rest a → IsWriting (place lane a) n old now → IsBeside lane old now
beside_page lane a n old now fits writing image is =
    let at = place lane a in
    let b = image_before at n old now image writing is in
    record {
      earlier = b.earlier;
      is = b.is;
      kept = record {
        reaches = b.short;
        same = λ i there out. b.same i there (⊎_elim (λ (below : i < at). inl below) (λ (above : at ≤ i). ⊎_elim (λ (in_it : i < at + n). absurd (out (a + (i - at)) (place_in_page lane a (i - at) (omega arith) ∙ back at i above))) (λ (past : at + n ≤ i). inr past) (cases_lt i (at + n))) (cases_lt i at));
      };
    }
  where
    back : (at i : ℕ) → at ≤ i → at + (i - at) ≡ i
    back at i above = omega arith

beside_fill : (lane at n : ℕ) (old now : Moment) → at ≡ length old.seen → IsWriting at n old now → IsBeside lane old now
beside_fill lane at n old now end writing image is =
    let b = image_before at n old now image writing is in
    record {
      earlier = b.earlier;
      is = b.is;
      kept = record { reaches = b.short; same = λ i there out. b.same i there (inl (omega (arith, b.seen))) };
    }

beside_sync : (lane : ℕ) (old now : Moment) → IsImage old old.seen → IsSynced old now → IsBeside lane old now
beside_sync lane old now reads synced image is =
    let same : image ≡ old.seen = image_of_clean old.seen image (subst (λ (m : Moment). IsImage m image) synced is) in
    record {
      earlier = old.seen;
      is = reads;
      kept = record { reaches = omega (arith, ap length same); same = λ i there out. ap (λ (l : List ℕ). get_or l i 0) same };
    }

pub page_beside : (lane a n : ℕ) (old new : History) → n ≤ page_rest a → Goes (IsWriting (place lane a) n) old new → Goes (IsBeside lane) old new
page_beside lane a n old new fits went = goes_wider (IsWriting (place lane a) n) (IsBeside lane) (λ start now is. beside_page lane a n start now fits is) old new went

pub fill_beside : (lane at n : ℕ) (old new : History) → Now old (λ m. at ≡ length m.seen) → Goes (IsWriting at n) old new → Goes (IsBeside lane) old new
fill_beside lane at n [] new end went = goes_if (IsWriting at n) (IsBeside lane) [] new tt went
fill_beside lane at n (start ∷ past) new end went = goes_if (IsWriting at n) (IsBeside lane) (start ∷ past) new (λ now is. beside_fill lane at n start now end is) went

pub sync_beside : (lane : ℕ) (old new : History) → Now old (λ m. IsImage m m.seen) → Goes IsSynced old new → Goes (IsBeside lane) old new
sync_beside lane [] new reads went = goes_if IsSynced (IsBeside lane) [] new tt went
sync_beside lane (start ∷ past) new reads went = goes_if IsSynced (IsBeside lane) (start ∷ past) new (λ now is. beside_sync lane start now reads is) went

pub beside_more : (lane : ℕ) (old mid new : History) → Goes (IsBeside lane) old mid → Goes (IsBeside lane) mid new → Goes (IsBeside lane) old new
beside_more lane old mid new first second = goes_trans (IsBeside lane) (beside_trans lane) old mid new first second

pub beside_none : (lane : ℕ) (h : History) → Goes (IsBeside lane) h h
beside_none lane h = goes_none (IsBeside lane) h

-- where nothing was changed
pub stays_same : (lane now : ℕ) (old new : History) → now ≡ lane → new ≡ old → StaysBeside lane now old new
stays_same lane now old new lane_is same = record { lane_is = lane_is; went = subst (λ (h : History). Goes (IsBeside lane) old h) (sym same) (goes_none (IsBeside lane) old) }

pub stays_moved : (lane now : ℕ) (old mid new : History) → now ≡ lane → mid ≡ old → Goes (IsBeside now) mid new → StaysBeside lane now old new
stays_moved lane now old mid new lane_is same went = record { lane_is = lane_is; went = subst (λ (h : History). Goes (IsBeside lane) h new) same (subst (λ (l : ℕ). Goes (IsBeside l) mid new) lane_is went) }
