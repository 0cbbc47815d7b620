-- The moments of a lane, from those of its file.
use Rattle.std.proofs.Common.{◌≡◌, ℕ, ◌+◌, ◌-◌, ◌≤◌, ◌<◌, List, [], ◌∷◌, ◌++◌, length, map, refl, sym, ◌∙◌, ap, subst, arith}
use Rattle.std.specs.List.{AllByRecursion}
use Rattle.disk_model.specs.Disk.{Moment, History, Now, Goes, IsImage, IsSynced, IsWriting, EachImage, Through, written, clean}
use Rattle.disk_lane.specs.Lanes.{place, count, page_rest, lane_bytes, lane_moment, lane_history}

pub map_append : {A B : Type 0} (f : A → B) (xs ys : List A) → map f (xs ++ ys) ≡ map f xs ++ map f ys
map_append f [] ys = refl
map_append f (x ∷ xs) ys = ap (λ (l : List _). f x ∷ l) (map_append f xs ys)

all_mapped : (f : Moment → Moment) (P Q : Moment → Type 0) → ((m : Moment) → P m → Q (f m)) → (moments : List Moment) → AllByRecursion P moments → AllByRecursion Q (map f moments)
all_mapped f P Q g [] all = tt
all_mapped f P Q g (m ∷ moments) all = (g m all.0, all_mapped f P Q g moments all.1)

-- steps of a disk are steps of a disk over it
pub goes_mapped : (f : Moment → Moment) (step mapped : Moment → Moment → Type 0) (old new : History) → Now old (λ start. (now : Moment) → step start now → mapped (f start) (f now)) → Goes step old new → Goes mapped (map f old) (map f new)
goes_mapped f step mapped [] new each went = record { later = map f went.later; is = ap (λ (h : History). map f h) went.is ∙ map_append f went.later []; untold = λ none. ap (λ (h : History). map f h) (went.untold refl); each = tt }
goes_mapped f step mapped (start ∷ past) new each went = record {
  later = map f went.later;
  is = ap (λ (h : History). map f h) went.is ∙ map_append f went.later (start ∷ past);
  untold = λ none. cc;
  each = all_mapped f (step start) (mapped (f start)) each went.later went.each;
}

-- what is so of a lane now
pub now_lane : (lane : ℕ) (history : History) (P : Moment → Type 0) → Now history (λ m. P (lane_moment lane m)) → Now (lane_history lane history) P
now_lane lane [] P is = tt
now_lane lane (m ∷ past) P is = is

pub lane_now : (lane : ℕ) (history : History) (P : Moment → Type 0) → Now (lane_history lane history) P → Now history (λ m. P (lane_moment lane m))
lane_now lane [] P is = tt
lane_now lane (m ∷ past) P is = is
