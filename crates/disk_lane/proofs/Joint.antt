-- From what holds at each moment of a lane to what holds at each moment of its file.
use Rattle.std.proofs.Common.{◌≡◌, ℕ, ◌+◌, ◌≤◌, List, [], ◌∷◌, ◌++◌, length, map, take, refl, sym, ◌∙◌, ap, subst, arith, length-append}
use Rattle.std.specs.List.{AllByRecursion}
use Rattle.std.proofs.lemmas.List.{take_at}
use Rattle.disk_model.specs.Disk.{Moment, History, Now, Goes, Through, EachImage, IsImage}
use Rattle.disk_model.proofs.Passing.{through_none, now_map}
use Rattle.disk_lane.specs.Lanes.{lane_bytes, lane_moment, lane_history}
use Rattle.disk_lane.specs.Images.{image_of_lane}
use Rattle.disk_lane.specs.Beside.{IsBeside}
use Rattle.disk_lane.specs.Heads.{IsHead}
use Rattle.disk_lane.proofs.Passed.{map_append}
use Rattle.disk_lane.proofs.Replacing.{head_stays, now_from}

same_front : (xs ys zs : List Moment) → xs ++ zs ≡ ys ++ zs → xs ≡ ys
same_front xs ys zs same =
    let long : length ys ≡ length xs = omega (arith, ap length same, length-append xs zs, length-append ys zs) in
    sym (take_at xs zs (length xs) refl) ∙ ap (λ (l : List Moment). take (length xs) l) same ∙ take_at ys zs (length xs) long

-- the lane's moments are those of the file's
mapped_all : (lane : ℕ) (start : Moment) (P : List ℕ → Type 0) → EachImage start (IsHead lane) → (later : List Moment) → AllByRecursion (IsBeside lane start) later → AllByRecursion (λ m. EachImage m P) (map (lane_moment lane) later)
    → AllByRecursion (λ m. EachImage m (λ file. IsHead lane file × P (lane_bytes lane file))) later
mapped_all lane start P head [] beside all = tt
mapped_all lane start P head (m ∷ later) beside all = (
  λ file is. let b = beside.0 file is in (head_stays lane lane b.earlier file b.kept (head b.earlier b.is), all.0 (lane_bytes lane file) (image_of_lane lane m file is)),
  mapped_all lane start P head later beside.1 all.1,
)

pub through_lane : (lane : ℕ) (old new : History) (P : List ℕ → Type 0) → Goes (IsBeside lane) old new → Through (lane_history lane old) (lane_history lane new) P → Now old (λ m. EachImage m (IsHead lane))
    → Through old new (λ file. IsHead lane file × P (lane_bytes lane file))
through_lane lane [] new P went passed head = subst (λ (h : History). Through [] h (λ file. IsHead lane file × P (lane_bytes lane file))) (sym (went.untold refl)) (through_none (λ file. IsHead lane file × P (lane_bytes lane file)))
through_lane lane (start ∷ past) new P went passed head =
    let f = lane_moment lane in
    let mapped : map f went.later ++ map f (start ∷ past) ≡ passed.later ++ map f (start ∷ past) = sym (ap (λ (h : History). map f h) went.is ∙ map_append f went.later (start ∷ past)) ∙ passed.is in
    let same : passed.later ≡ map f went.later = sym (same_front (map f went.later) passed.later (map f (start ∷ past)) mapped) in
    let all = subst (λ (l : List Moment). AllByRecursion (λ m. EachImage m P) l) same passed.each in
    record {
      later = went.later;
      is = went.is;
      untold = went.untold;
      start = λ file is. (head file is, passed.start (lane_bytes lane file) (image_of_lane lane start file is));
      each = mapped_all lane start P head went.later went.each all;
    }

pub head_beside : (lane : ℕ) (old new : History) → Now old (λ m. EachImage m (IsHead lane)) → Goes (IsBeside lane) old new → Now new (λ m. EachImage m (IsHead lane))
head_beside lane [] new head went = subst (λ (h : History). Now h (λ m. EachImage m (IsHead lane))) (sym (went.untold refl)) tt
head_beside lane (start ∷ past) new head went =
    subst (λ (h : History). Now h (λ m. EachImage m (IsHead lane))) (sym went.is) (newest went.later went.each)
  where
    newest : (later : List Moment) → AllByRecursion (IsBeside lane start) later → Now (later ++ (start ∷ past)) (λ m. EachImage m (IsHead lane))
    newest [] all = head
    newest (m ∷ later) all = λ file is. let b = all.0 file is in head_stays lane lane b.earlier file b.kept (head b.earlier b.is)
