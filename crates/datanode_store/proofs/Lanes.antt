-- What the live lane of a file holds, as its log is written anew.
use Rattle.std.proofs.Common.{◌≡◌, inl, inr, ⊎_elim, ℕ, Bool, false, Some, List, [], ◌∷◌, refl, sym, ap, subst}
use Rattle.salus_types.specs.declared.records.Held.{Held}
use Rattle.disk_model.specs.Disk.{Moment, History, Now, EachImage, IsImage, Through}
use Rattle.disk_model.proofs.Passing.{through_none, through_same, through_weaker, now_map}
use Rattle.disk_lane.specs.Lanes.{lane_bytes, lane_moment, lane_history}
use Rattle.disk_lane.specs.Images.{image_of_lane, reads_of_lane}
use Rattle.disk_lane.specs.Heads.{live_bytes, IsHead}
use Rattle.disk_lane.proofs.Lifting.{each_in_file, each_in_lane}
use Rattle.datanode_log.specs.Entries.{entries_of}
use Rattle.datanode_log.specs.Logs.{IsLiveLog, IsLiveEither, entries_now}
use Rattle.datanode_log.specs.Known.{SoundAt}
use Rattle.holding_model.specs.Holding.{held_of}
use Rattle.datanode_store.specs.Meaning.{Means}
use Rattle.datanode_store.specs.Live.{MeansLive, MeansLiveEither}
use Rattle.datanode_store.proofs.Kept.{HoldsAt, means_log, resting_holds, kept_means}

pub live_in : (lane : ℕ) (file : List ℕ) (held : Held) → IsHead lane file → Means held (lane_bytes lane file) → MeansLive held file
live_in lane file held head means = record { long = head.long; marked = head.marked; live = subst (λ (l : ℕ). Means held (lane_bytes l file)) (sym head.live) means }

live_log : (file : List ℕ) (entries : List (List ℕ)) (held : Held) → held_of entries ≡ Some held → IsLiveLog entries file → MeansLive held file
live_log file entries held is log = record { long = log.long; marked = log.marked; live = means_log (live_bytes file) entries held is log.log }

-- each image of a file whose lane holds this, and is the live one
pub live_now : (lane : ℕ) (h : History) (failed : Bool) (held : Held) → failed ≡ false → HoldsAt (lane_history lane h) failed held → Now h (λ m. EachImage m (IsHead lane)) → Now h (λ m. EachImage m (MeansLive held))
live_now lane [] failed held works holds head = tt
live_now lane (m ∷ past) failed held works holds head = λ file there.
    live_in lane file held (head file there) (each_in_file lane m (Means held) (holds (lane_moment lane m) (lane_history lane past) refl works) file there)

-- nothing was done
pub same_live : (lane : ℕ) (h : History) (failed : Bool) (held new : Held) → failed ≡ false → HoldsAt (lane_history lane h) failed held → Now h (λ m. EachImage m (IsHead lane)) → Through h h (MeansLiveEither held new)
same_live lane h failed held new works holds head =
    through_same h (MeansLiveEither held new) (now_map (λ m. EachImage m (MeansLive held)) (λ m. EachImage m (MeansLiveEither held new)) (λ m each image is. inl (each image is)) h (live_now lane h failed held works holds head))

pub folded_through : (lane : ℕ) (old new : History) (failed : Bool) (held fold : Held) (entries : List (List ℕ)) → failed ≡ false → HoldsAt (lane_history lane old) failed held → Now old (λ m. IsImage m m.seen) → held_of entries ≡ Some fold
    → Through old new (IsLiveEither (entries_now (lane_history lane old)) entries) → Through old new (MeansLiveEither held fold)
folded_through lane [] new failed held fold entries works holds reads is passed =
    subst (λ (h : History). Through [] h (MeansLiveEither held fold)) (sym (passed.untold refl)) (through_none (MeansLiveEither held fold))
folded_through lane (start ∷ past) new failed held fold entries works holds reads is passed =
    let before = entries_of (lane_bytes lane start.seen) in
    let was = (holds (lane_moment lane start) (lane_history lane past) refl works (lane_bytes lane start.seen) (image_of_lane lane start start.seen reads)).holds in
    through_weaker (start ∷ past) new (IsLiveEither before entries) (MeansLiveEither held fold) (λ file either. ⊎_elim (λ (log : IsLiveLog before file). inl (live_log file before held was log)) (λ (log : IsLiveLog entries file). inr (live_log file entries fold is log)) either) passed

pub folded_durable : (h : History) (fold : Held) (entries : List (List ℕ)) → held_of entries ≡ Some fold → Now h (λ m. EachImage m (IsLiveLog entries)) → Now h (λ m. EachImage m (MeansLive fold))
folded_durable h fold entries is logs = now_map (λ m. EachImage m (IsLiveLog entries)) (λ m. EachImage m (MeansLive fold)) (λ m each file there. live_log file entries fold is (each file there)) h logs

-- the lane of a log that was just written anew
pub folded_holds : (lane : ℕ) (h : History) (failed : Bool) (fold : Held) (entries : List (List ℕ)) → held_of entries ≡ Some fold → Now h (λ m. EachImage m (IsLiveLog entries)) → (failed ≡ false → Now h (λ m. EachImage m (IsHead lane))) → HoldsAt (lane_history lane h) failed fold
folded_holds lane [] failed fold entries is logs head = λ now past none. cc
folded_holds lane (m ∷ before) failed fold entries is logs head = λ now past same works.
    let at : lane_moment lane m ≡ now = cc in
    let each : EachImage m (λ file. Means fold (lane_bytes lane file)) =
    λ file there. subst (λ (l : ℕ). Means fold (lane_bytes l file)) (head works file there).live (live_log file entries fold is (logs file there)).live in
    subst (λ (x : Moment). EachImage x (Means fold)) at (each_in_lane lane m (Means fold) each)

untold_lane : (lane other : ℕ) (old new : History) → (old ≡ [] → new ≡ []) → lane_history lane old ≡ [] → lane_history other new ≡ []
untold_lane lane other [] new untold none = ap (λ (h : History). lane_history other h) (untold refl)
untold_lane lane other (m ∷ past) new untold none = cc

-- the lane of a log that wasn't
pub unfolded_holds : (lane other : ℕ) (old new : History) (was failed : Bool) (held : Held) (gate : ℕ) (spans : List (ℕ × ℕ)) → was ≡ false → HoldsAt (lane_history lane old) was held → Now old (λ m. IsImage m m.seen) → (old ≡ [] → new ≡ [])
    → SoundAt (lane_history other new) gate spans failed → (failed ≡ false → entries_now (lane_history other new) ≡ entries_now (lane_history lane old)) → HoldsAt (lane_history other new) failed held
unfolded_holds lane other old new was failed held gate spans worked holds reads untold sound same =
    resting_holds (lane_history other new) gate spans failed held sound (λ works. kept_means (lane_history lane old) (lane_history other new) was held worked holds (reads_of_lane lane old reads) (untold_lane lane other old new untold) (same works))
