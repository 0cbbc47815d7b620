-- What the file of a checkpoint means, from what its live lane does.
use Rattle.std.proofs.Common.{◌≡◌, ◌⊎◌, inl, inr, ⊎_elim, ℕ, ◌<◌, Bool, false, List, length, [], ◌∷◌, ◌++◌, Result, Ok, Err, OnOk, refl, sym, ap, subst, arith}
use Rattle.salus_types.specs.declared.records.Held.{Held}
use Rattle.disk_model.specs.Disk.{Moment, History, Now, EachImage, IsImage, Through, Goes, IsSynced, clean}
use Rattle.disk_model.proofs.Passing.{through_weaker, through_trans, through_now, sync_through, now_map}
use Rattle.disk_lane.specs.Lanes.{lane_bytes, lane_moment, lane_history}
use Rattle.disk_lane.specs.Images.{reads_of_lane}
use Rattle.disk_lane.specs.Heads.{live_bytes, IsHead, IsUnmarked}
use Rattle.disk_lane.specs.Beside.{StaysBeside}
use Rattle.disk_lane.proofs.Lifting.{each_in_file, each_in_lane}
use Rattle.disk_lane.proofs.Joint.{through_lane, head_beside}
use Rattle.datanode_store.specs.declared.error.StoreError.{StoreError}
use Rattle.datanode_store.specs.declared.error.StoreError.TheVariants.{Foreign, Damaged, BadRecord, Device, NoMemory}
use Rattle.datanode_store.specs.Causes.{IsOutside, RefusesFile}
use Rattle.datanode_store.specs.Meaning.{Means, MeansEither}
use Rattle.datanode_store.specs.Live.{MeansLive, MeansLiveEither, MeansOneLive}
use Rattle.datanode_store.proofs.Kept.{means_outside}
use Rattle.datanode_store.proofs.Lanes.{live_in}
use Rattle.datanode_checkpoint.specs.Files.{IsMarked, RefusesLane, RefusesLive}

pub on_ok : {T E : Type 0} (result : Result T E) (P Q : Type 0) → (P → Q) → OnOk result P → OnOk result Q
on_ok (Ok value) P Q f is = f is
on_ok (Err error) P Q f is = is

-- ---- the head

-- this lane is live in every image, if the disk tells what it holds and no call has failed
abbrev pub HeadAt : History → Bool → ℕ → Type 0
HeadAt h failed lane = (now : Moment) (past : List Moment) → h ≡ now ∷ past → failed ≡ false → EachImage now (IsHead lane)

pub head_now : (h : History) (failed : Bool) (lane : ℕ) → failed ≡ false → HeadAt h failed lane → Now h (λ m. EachImage m (IsHead lane))
head_now [] failed lane works head = tt
head_now (m ∷ past) failed lane works head = head m past refl works

pub head_from : (h : History) (failed : Bool) (lane : ℕ) → (failed ≡ false → Now h (λ m. EachImage m (IsHead lane))) → HeadAt h failed lane
head_from h failed lane head = λ now past at works. subst (λ (x : History). Now x (λ m. EachImage m (IsHead lane))) at (head works)

pub head_stays : (lane other : ℕ) (old new : History) → StaysBeside lane other old new → Now old (λ m. EachImage m (IsHead lane)) → Now new (λ m. EachImage m (IsHead other))
head_stays lane other old new stays head = subst (λ (l : ℕ). Now new (λ m. EachImage m (IsHead l))) (sym stays.lane_is) (head_beside lane old new head stays.went)

-- ---- from the lane to the file

pub live_through : (lane other : ℕ) (old new : History) (held after : Held) → StaysBeside lane other old new → Through (lane_history lane old) (lane_history other new) (MeansEither held after) → Now old (λ m. EachImage m (IsHead lane)) → Through old new (MeansLiveEither held after)
live_through lane other old new held after stays passed head =
    let there = subst (λ (l : ℕ). Through (lane_history lane old) (lane_history l new) (MeansEither held after)) stays.lane_is passed in
    through_weaker old new (λ file. IsHead lane file × MeansEither held after (lane_bytes lane file)) (MeansLiveEither held after)
    (λ file both. ⊎_elim (λ (means : Means held (lane_bytes lane file)). inl (live_in lane file held both.0 means)) (λ (means : Means after (lane_bytes lane file)). inr (live_in lane file after both.0 means)) both.1)
    (through_lane lane old new (MeansEither held after) stays.went there head)

pub live_each : (lane : ℕ) (h : History) (held : Held) → Now h (λ m. EachImage m (IsHead lane)) → Now (lane_history lane h) (λ m. EachImage m (Means held)) → Now h (λ m. EachImage m (MeansLive held))
live_each lane [] held head means = tt
live_each lane (m ∷ past) held head means = λ file there. live_in lane file held (head file there) (each_in_file lane m (Means held) means file there)

-- ---- a load

append_none : {A : Type 0} (later : List A) (x : A) (xs : List A) → [] ≡ later ++ x ∷ xs → ⊥
append_none [] x xs e = cc
append_none (y ∷ later) x xs e = cc

-- what a read gives after a sync stood there before it
seen_before : (P : List ℕ → Type 0) (old new : History) → Goes IsSynced old new → Now old (λ was. Now new (λ now. now ≡ clean was.seen)) → Now new (λ now. P now.seen) → Now old (λ was. P was.seen)
seen_before P [] new went synced is = tt
seen_before P (was ∷ before) [] went synced is = absurd (append_none went.later was before went.is)
seen_before P (was ∷ before) (now ∷ past) went synced is = subst P (ap (λ (m : Moment). m.seen) synced) is

marked_head : (lane : ℕ) (file : List ℕ) → IsHead lane file → IsMarked file
marked_head lane file head = record { long = head.long; marked = head.marked }

pub loaded_means : (lane : ℕ) (old new : History) (held : Held) → Goes IsSynced old new → Now old (λ was. Now new (λ now. now ≡ clean was.seen)) → Now new (λ m. EachImage m (IsHead lane)) → Now new (λ m. IsImage m m.seen)
    → Now (lane_history lane new) (λ m. Means held m.seen) → Now old (λ was. MeansLive held was.seen)
loaded_means lane old new held went synced head reads means = seen_before (MeansLive held) old new went synced (here new head reads means)
  where
    here : (h : History) → Now h (λ m. EachImage m (IsHead lane)) → Now h (λ m. IsImage m m.seen) → Now (lane_history lane h) (λ m. Means held m.seen) → Now h (λ m. MeansLive held m.seen)
    here [] head reads means = tt
    here (m ∷ past) head reads means = live_in lane m.seen held (head m.seen reads) means

refuses_live : (error : StoreError) (file : List ℕ) → IsMarked file → RefusesFile error (live_bytes file) → RefusesLive error file
refuses_live Foreign file marked lane = inr (record { marked = marked; lane = lane })
refuses_live (Damaged at) file marked lane = record { marked = marked; lane = lane }
refuses_live (BadRecord at) file marked lane = record { marked = marked; lane = lane }
refuses_live Device file marked lane = tt
refuses_live NoMemory file marked lane = tt

pub loaded_refused : (lane : ℕ) (old new : History) (error : StoreError) → Goes IsSynced old new → Now old (λ was. Now new (λ now. now ≡ clean was.seen)) → Now new (λ m. EachImage m (IsHead lane)) → Now new (λ m. IsImage m m.seen)
    → Now (lane_history lane new) (λ m. RefusesFile error m.seen) → Now old (λ was. RefusesLive error was.seen)
loaded_refused lane old new error went synced head reads refuses = seen_before (RefusesLive error) old new went synced (here new head reads refuses)
  where
    here : (h : History) → Now h (λ m. EachImage m (IsHead lane)) → Now h (λ m. IsImage m m.seen) → Now (lane_history lane h) (λ m. RefusesFile error m.seen) → Now h (λ m. RefusesLive error m.seen)
    here [] head reads refuses = tt
    here (m ∷ past) head reads refuses =
        let is = head m.seen reads in
        refuses_live error m.seen (marked_head lane m.seen is) (subst (λ (l : ℕ). RefusesFile error (lane_bytes l m.seen)) (sym is.live) refuses)

pub unmarked_refused : (old new : History) → Goes IsSynced old new → Now old (λ was. Now new (λ now. now ≡ clean was.seen)) → Now new (λ m. IsUnmarked m.seen) → Now old (λ was. RefusesLive Foreign was.seen)
unmarked_refused old new went synced unmarked = now_map (λ was. IsUnmarked was.seen) (λ was. RefusesLive Foreign was.seen) (λ was is. inl is) old (seen_before IsUnmarked old new went synced unmarked)

-- where the file means something, it is refused only by the device, or for want of memory
live_outside : (error : StoreError) (file : List ℕ) (held : Held) → MeansLive held file → RefusesLive error file → IsOutside error
live_outside Foreign file held means refuses =
    ⊎_elim (λ (unmarked : IsUnmarked file). ⊎_elim (λ (short : length file < 16). absurd (omega (arith, short, means.long))) (λ other. absurd (other means.marked)) unmarked) (λ (lane : RefusesLane Foreign file). means_outside Foreign (live_bytes file) held means.live lane.lane) refuses
live_outside (Damaged at) file held means refuses = means_outside (Damaged at) (live_bytes file) held means.live refuses.lane
live_outside (BadRecord at) file held means refuses = means_outside (BadRecord at) (live_bytes file) held means.live refuses.lane
live_outside Device file held means refuses = tt
live_outside NoMemory file held means refuses = tt

pub written_live : (old : History) (error : StoreError) → Now old (λ was. RefusesLive error was.seen) → Now old (λ was. (held : Held) → MeansLive held was.seen → IsOutside error)
written_live old error refused = now_map (λ was. RefusesLive error was.seen) (λ was. (held : Held) → MeansLive held was.seen → IsOutside error) (λ was refuses held means. live_outside error was.seen held means refuses) old refused

-- ---- the moments of a load

-- the lane means one of these
abbrev MeansOne : List Held → List ℕ → Type 0
MeansOne [] bytes = ⊥
MeansOne (held ∷ contents) bytes = Means held bytes ⊎ MeansOne contents bytes

one_in_lane : (lane : ℕ) (file : List ℕ) (contents : List Held) → IsHead lane file → MeansOneLive contents file → MeansOne contents (lane_bytes lane file)
one_in_lane lane file [] head means = means
one_in_lane lane file (held ∷ contents) head means =
    ⊎_elim (λ (here : MeansLive held file). inl (subst (λ (l : ℕ). Means held (lane_bytes l file)) head.live here.live)) (λ (other : MeansOneLive contents file). inr (one_in_lane lane file contents head other)) means

one_in_file : (lane : ℕ) (file : List ℕ) (contents : List Held) → IsHead lane file → MeansOne contents (lane_bytes lane file) → MeansOneLive contents file
one_in_file lane file [] head means = means
one_in_file lane file (held ∷ contents) head means =
    ⊎_elim (λ (here : Means held (lane_bytes lane file)). inl (live_in lane file held head here)) (λ (other : MeansOne contents (lane_bytes lane file)). inr (one_in_file lane file contents head other)) means

one_now : (lane : ℕ) (h : History) (contents : List Held) → Now h (λ m. EachImage m (IsHead lane)) → Now h (λ m. EachImage m (MeansOneLive contents)) → Now (lane_history lane h) (λ m. EachImage m (MeansOne contents))
one_now lane [] contents head means = tt
one_now lane (m ∷ past) contents head means = each_in_lane lane m (MeansOne contents) (λ file is. one_in_lane lane file contents (head file is) (means file is))

-- the lane is synced and read
lane_through : (lane other : ℕ) (old new : History) (contents : List Held) → StaysBeside lane other old new → Goes IsSynced (lane_history lane old) (lane_history other new) → Now old (λ m. IsImage m m.seen) → Now old (λ m. EachImage m (IsHead lane)) → Now old (λ m. EachImage m (MeansOneLive contents))
    → Through old new (MeansOneLive contents)
lane_through lane other old new contents stays synced reads head means =
    let went = subst (λ (l : ℕ). Goes IsSynced (lane_history lane old) (lane_history l new)) stays.lane_is synced in
    through_weaker old new (λ file. IsHead lane file × MeansOne contents (lane_bytes lane file)) (MeansOneLive contents) (λ file here. one_in_file lane file contents here.0 here.1)
    (through_lane lane old new (MeansOne contents) stays.went (sync_through (lane_history lane old) (lane_history lane new) (MeansOne contents) went (reads_of_lane lane old reads) (one_now lane old contents head means)) head)

pub load_through : (lane other : ℕ) (old mid new : History) (contents : List Held) → Goes IsSynced old mid → Now old (λ m. IsImage m m.seen) → Now mid (λ m. IsImage m m.seen) → Now mid (λ m. EachImage m (IsHead lane))
    → StaysBeside lane other mid new → Goes IsSynced (lane_history lane mid) (lane_history other new) → Now old (λ m. EachImage m (MeansOneLive contents)) → Through old new (MeansOneLive contents)
load_through lane other old mid new contents went before reads head stays synced means =
    let first = sync_through old mid (MeansOneLive contents) went before means in
    through_trans old mid new (MeansOneLive contents) first (lane_through lane other mid new contents stays synced reads head (through_now old mid (MeansOneLive contents) first))
