-- A log in the live lane of a file, while it is written anew into the other.
use Rattle.std.proofs.Common.{◌≡◌, ◌≢◌, ◌⊎◌, inl, inr, ⊎_elim, ℕ, zero, suc, ◌+◌, ◌-◌, ◌≤◌, ◌<◌, max, Bool, true, false, List, [], ◌∷◌, ◌++◌, length, take, drop, set, get_or, refl, sym, ◌∙◌, ap, subst, arith, append_assoc, length-append, take-append-drop}
use Rattle.std.specs.List.{AllByRecursion}
use Rattle.std.proofs.lemmas.Bool.{true≢false}
use Rattle.disk_model.specs.Disk.{Moment, History, Now, Goes, EachImage, IsImage, Through, clean}
use Rattle.disk_model.proofs.Passing.{now_map, goes_now, goes_through, each_clean}
use Rattle.disk_lane.specs.Lanes.{lane_bytes, lane_moment, lane_history}
use Rattle.disk_lane.specs.Images.{image_of_lane}
use Rattle.disk_lane.specs.Heads.{live_lane, live_bytes, file_mark, IsHead, IsLonger, IsHeld, IsReplaced, IsEither, IsHolding, IsReplacing}
use Rattle.disk_lane.proofs.Lifting.{each_in_lane, each_in_file}
use Rattle.datanode_log.specs.Entries.{mark, entries_of, log_of, framed, end_of, spans_from, spelled, Fits}
use Rattle.datanode_log.specs.Logs.{IsLog, IsLiveLog, IsLiveEither, entries_now}
use Rattle.datanode_log.specs.Known.{IsSpelled, IsSound, SoundAt, IsPut}
use Rattle.datanode_log.proofs.Spelling.{IsShut, shut_log, spelled_shut}
use Rattle.datanode_log.proofs.Torn.{opened, opened_is, behind_gate, spans_push, length-spans, fits_push}
use Rattle.datanode_log.proofs.Stages.{RestsAt, rests, sound_shut, each_rested, known_all}

-- ---- a log put together in memory

set_end : (front : List ℕ) (a b : ℕ) → set (front ++ a ∷ []) (length front) b ≡ front ++ b ∷ []
set_end [] a b = refl
set_end (x ∷ front) a b = ap (λ (l : List ℕ). x ∷ l) (set_end front a b)

pub put_shut : (file : List ℕ) (spans : List (ℕ × ℕ)) → IsPut file spans → IsShut file (entries_of file)
put_shut file spans put = record { gate = 0; rest = []; is = put.whole; shut = λ one. cc; fits = put.fits }

pub put_long : (file : List ℕ) (spans : List (ℕ × ℕ)) → IsPut file spans → length file ≡ end_of (entries_of file) + 1
put_long file spans put = ap length put.whole ∙ length-append (log_of (entries_of file)) (0 ∷ [])

entry_put : (entries : List (List ℕ)) (entry file : List ℕ) → file ≡ log_of entries ++ 0 ∷ [] → set file (length file - 1) 1 ++ framed entry ≡ log_of (entries ++ entry ∷ []) ++ 0 ∷ []
entry_put entries entry file is =
    let front = log_of entries in
    let at : length file - 1 ≡ length front = omega (arith, ap length is, length-append front (0 ∷ [])) in
    let opened_gate : set file (length file - 1) 1 ≡ front ++ 1 ∷ [] = ap (λ (n : ℕ). set file n 1) at ∙ ap (λ (l : List ℕ). set l (length front) 1) is ∙ set_end front 0 1 in
    ap (λ (l : List ℕ). l ++ framed entry) opened_gate
    ∙ append_assoc front (1 ∷ []) (framed entry)
    ∙ ap (λ (l : List ℕ). front ++ 1 ∷ l) (nothing (framed entry))
    ∙ opened_is entries entry []
  where
    nothing : (l : List ℕ) → l ≡ l ++ []
    nothing [] = refl
    nothing (x ∷ l) = ap (λ (t : List ℕ). x ∷ t) (nothing l)

-- with one more entry
pub record IsPutMore (file new : List ℕ) (spans : List (ℕ × ℕ)) (entry : List ℕ) : Type 0 where
  pub put : IsPut new spans
  pub entries_are : entries_of new ≡ entries_of file ++ entry ∷ []

pub put_more : (file new : List ℕ) (spans later : List (ℕ × ℕ)) (entry : List ℕ) → IsPut file spans → Fits entry → new ≡ set file (length file - 1) 1 ++ framed entry → later ≡ spans ++ (length file + 4, length entry) ∷ [] → IsPutMore file new later entry
put_more file new spans later entry put fits is pushed =
    let entries = entries_of file in
    let all = entries ++ entry ∷ [] in
    let whole : new ≡ log_of all ++ 0 ∷ [] = is ∙ entry_put entries entry file put.whole in
    let all_fit = fits_push entries entry put.fits fits in
    let shut : IsShut new all = record { gate = 0; rest = []; is = whole; shut = λ one. cc; fits = all_fit } in
    let same : entries_of new ≡ all = (shut_log new all shut).entries_are in
    let at : length file + 4 ≡ end_of entries + 5 = omega (arith, put_long file spans put) in
    record {
      put = record {
        whole = whole ∙ ap (λ (es : List (List ℕ)). log_of es ++ 0 ∷ []) (sym same);
        fits = subst (λ (es : List (List ℕ)). AllByRecursion Fits es) (sym same) all_fit;
        spans_are = pushed ∙ (λ i. put.spans_are i ++ (at i, length entry) ∷ []) ∙ sym (spans_push entries entry) ∙ ap (λ (es : List (List ℕ)). spans_from 8 es) (sym same);
      };
      entries_are = same;
    }

-- ---- the log in a lane

shut_longer : (entries : List (List ℕ)) (earlier bytes : List ℕ) → IsShut earlier entries → IsLonger earlier bytes → IsShut bytes entries
shut_longer entries earlier bytes shut longer =
    behind_gate (length bytes) earlier bytes entries shut record {
      no_shorter = longer.reaches;
      no_longer = omega arith;
      before = λ i new was below. longer.same i was;
      after = λ i new was above. absurd (omega arith);
    }

live_log : (lane : ℕ) (file : List ℕ) (entries : List (List ℕ)) → IsHead lane file → IsShut (lane_bytes lane file) entries → IsLiveLog entries file
live_log lane file entries head shut = record {
  long = head.long;
  marked = head.marked;
  log = subst (λ (l : ℕ). IsLog (lane_bytes l file) entries) (sym head.live) (shut_log (lane_bytes lane file) entries shut);
}

-- the new log in the other lane
replaced_shut : (lane : ℕ) (bytes file : List ℕ) (spans : List (ℕ × ℕ)) → IsPut bytes spans → IsReplaced lane bytes file → IsShut (lane_bytes (1 - lane) file) (entries_of bytes)
replaced_shut lane bytes file spans put replaced =
    let all = lane_bytes (1 - lane) file in
    let entries = entries_of bytes in
    let rest = drop (length bytes) all in
    record {
      gate = 0;
      rest = rest;
      is = sym (take-append-drop (length bytes) all) ∙ ap (λ (l : List ℕ). l ++ rest) (replaced.begins ∙ put.whole) ∙ append_assoc (log_of entries) (0 ∷ []) rest;
      shut = λ one. cc;
      fits = put.fits;
    }

-- the lane's log in each image, from before the call
held_shut : (lane gate : ℕ) (spans : List (ℕ × ℕ)) (start : Moment) (image : List ℕ) → IsSound (lane_moment lane start) gate spans false → IsHeld lane start image → IsShut (lane_bytes lane image) (entries_of (lane_bytes lane start.seen))
held_shut lane gate spans start image sound held =
    let r = rests (lane_moment lane start) gate spans sound in
    shut_longer (entries_of (lane_bytes lane start.seen)) (lane_bytes lane held.earlier) (lane_bytes lane image) (r.each (lane_bytes lane held.earlier) (image_of_lane lane start held.earlier held.is)) held.longer

-- a log that was just written
pub sound_replaced : (lane : ℕ) (bytes : List ℕ) (spans : List (ℕ × ℕ)) (gate : ℕ) (h : History) → IsPut bytes spans → gate ≡ length bytes - 1 → Now h (λ now. (now ≡ clean now.seen) × IsReplaced lane bytes now.seen) → RestsAt (lane_history (1 - lane) h) gate spans
sound_replaced lane bytes spans gate [] put is here = λ now past none. cc
sound_replaced lane bytes spans gate (m ∷ before) put is here = λ now past same.
    let at : lane_moment (1 - lane) m ≡ now = cc in
    let entries = entries_of bytes in
    let shut = replaced_shut lane bytes m.seen spans put here.1 in
    let rested : lane_moment (1 - lane) m ≡ clean (lane_bytes (1 - lane) m.seen) = ap (λ (x : Moment). lane_moment (1 - lane) x) here.0 in
    subst (λ (x : Moment). IsSound x gate spans false) at (sound_shut (lane_moment (1 - lane) m) gate spans false entries shut (known_all spans entries put.spans_are) (λ works. (each_rested (lane_moment (1 - lane) m) (λ image. IsShut image entries) rested shut, omega (arith, is, put_long bytes spans put), ap length put.spans_are ∙ length-spans 8 entries)))

-- a log that was held
pub sound_held : (lane gate : ℕ) (spans : List (ℕ × ℕ)) (old new : History) → RestsAt (lane_history lane old) gate spans → Goes (IsHolding lane) old new → Now new (λ m. IsImage m m.seen) → RestsAt (lane_history lane new) gate spans
sound_held lane gate spans [] new sound went reads = λ now past some. let none = ap (λ (h : History). lane_history lane h) (went.untold refl) in cc
sound_held lane gate spans (start ∷ before) [] sound went reads = λ now past none. cc
sound_held lane gate spans (start ∷ before) (m ∷ past) sound went reads = λ now later same.
    let at : lane_moment lane m ≡ now = cc in
    let was = sound (lane_moment lane start) (lane_history lane before) refl in
    let entries = entries_of (lane_bytes lane start.seen) in
    let r = rests (lane_moment lane start) gate spans was in
    let each : EachImage m (λ image. IsShut (lane_bytes lane image) entries) =
    ⊎_elim (λ (is : m ≡ start). subst (λ (x : Moment). EachImage x (λ image. IsShut (lane_bytes lane image) entries)) (sym is) (each_in_file lane start (λ image. IsShut image entries) r.each)) (λ (is : IsHolding lane start m). λ image there. held_shut lane gate spans start image was (is image there).0) (goes_now (IsHolding lane) (start ∷ before) (m ∷ past) went) in
    subst (λ (x : Moment). IsSound x gate spans false) at (sound_shut (lane_moment lane m) gate spans false entries (each m.seen reads) (known_all spans entries r.spans_are) (λ works. (each_in_lane lane m (λ image. IsShut image entries) each, r.gate_is, ap length r.spans_are ∙ length-spans 8 entries)))

append_some : (later : List Moment) (m : Moment) (past : List Moment) → [] ≡ later ++ (m ∷ past) → ⊥
append_some [] m past never = cc
append_some (x ∷ later) m past never = cc

pub entries_held : (lane gate : ℕ) (spans : List (ℕ × ℕ)) (old new : History) → RestsAt (lane_history lane old) gate spans → Goes (IsHolding lane) old new → Now new (λ m. IsImage m m.seen) → entries_now (lane_history lane new) ≡ entries_now (lane_history lane old)
entries_held lane gate spans [] new sound went reads = ap (λ (h : History). entries_now (lane_history lane h)) (went.untold refl)
entries_held lane gate spans (start ∷ before) [] sound went reads = absurd (append_some went.later start before went.is)
entries_held lane gate spans (start ∷ before) (m ∷ past) sound went reads =
    let was = sound (lane_moment lane start) (lane_history lane before) refl in
    let entries = entries_of (lane_bytes lane start.seen) in
    ⊎_elim (λ (is : m ≡ start). ap (λ (x : Moment). entries_of (lane_bytes lane x.seen)) is) (λ (is : IsHolding lane start m). (shut_log (lane_bytes lane m.seen) entries (held_shut lane gate spans start m.seen was (is m.seen reads).0)).entries_are) (goes_now (IsHolding lane) (start ∷ before) (m ∷ past) went)

-- a log that failed while it was written anew
pub sound_lost : (lane : ℕ) (bytes : List ℕ) (gate : ℕ) (spans : List (ℕ × ℕ)) (old new : History) → RestsAt (lane_history lane old) gate spans → Goes (IsReplacing lane bytes) old new → Now new (λ m. IsImage m m.seen) → SoundAt (lane_history lane new) gate spans true
sound_lost lane bytes gate spans [] new sound went reads = λ now past some. let none = ap (λ (h : History). lane_history lane h) (went.untold refl) in cc
sound_lost lane bytes gate spans (start ∷ before) [] sound went reads = λ now past none. cc
sound_lost lane bytes gate spans (start ∷ before) (m ∷ past) sound went reads = λ now later same.
    let at : lane_moment lane m ≡ now = cc in
    let was = sound (lane_moment lane start) (lane_history lane before) refl in
    let entries = entries_of (lane_bytes lane start.seen) in
    let r = rests (lane_moment lane start) gate spans was in
    let shut : IsShut (lane_bytes lane m.seen) entries =
    ⊎_elim (λ (is : m ≡ start). subst (λ (x : Moment). IsShut (lane_bytes lane x.seen) entries) (sym is) r.shut) (λ (is : IsReplacing lane bytes start m). held_shut lane gate spans start m.seen was (is m.seen reads).0) (goes_now (IsReplacing lane bytes) (start ∷ before) (m ∷ past) went) in
    subst (λ (x : Moment). IsSound x gate spans true) at (sound_shut (lane_moment lane m) gate spans true entries shut (known_all spans entries r.spans_are) (λ (works : true ≡ false). absurd (true≢false works)))

-- at each moment the old log or the new one is live
pub passes_rewrite : (lane : ℕ) (bytes : List ℕ) (put_spans : List (ℕ × ℕ)) (gate : ℕ) (spans : List (ℕ × ℕ)) (old new : History) → IsPut bytes put_spans → RestsAt (lane_history lane old) gate spans → Now old (λ m. EachImage m (IsHead lane)) → Goes (IsReplacing lane bytes) old new
    → Through old new (IsLiveEither (entries_now (lane_history lane old)) (entries_of bytes))
passes_rewrite lane bytes put_spans gate spans [] new put sound head went = goes_through (IsReplacing lane bytes) [] new (IsLiveEither [] (entries_of bytes)) went tt
passes_rewrite lane bytes put_spans gate spans (start ∷ before) new put sound head went =
    let was = sound (lane_moment lane start) (lane_history lane before) refl in
    let r = rests (lane_moment lane start) gate spans was in
    let entries = entries_of (lane_bytes lane start.seen) in
    let P = IsLiveEither entries (entries_of bytes) in
    goes_through (IsReplacing lane bytes) (start ∷ before) new P went (
      λ image is. inl (live_log lane image entries (head image is) (r.each (lane_bytes lane image) (image_of_lane lane start image is))),
      λ now replacing image is.
          let both = replacing image is in
          ⊎_elim (λ (same : IsHead lane image). inl (live_log lane image entries same (held_shut lane gate spans start image was both.0))) (λ (other : IsReplaced lane bytes image). inr (live_log (1 - lane) image (entries_of bytes) other.head (replaced_shut lane bytes image put_spans put other))) both.1,
    )

pub live_replaced : (lane : ℕ) (bytes : List ℕ) (spans : List (ℕ × ℕ)) (h : History) → IsPut bytes spans → Now h (λ now. (now ≡ clean now.seen) × IsReplaced lane bytes now.seen) → Now h (λ now. EachImage now (IsLiveLog (entries_of bytes)))
live_replaced lane bytes spans h put here =
    now_map (λ now. (now ≡ clean now.seen) × IsReplaced lane bytes now.seen) (λ now. EachImage now (IsLiveLog (entries_of bytes))) (λ now is. each_rested now (IsLiveLog (entries_of bytes)) is.0 (live_log (1 - lane) now.seen (entries_of bytes) is.1.head (replaced_shut lane bytes now.seen spans put is.1))) h here

pub head_replaced : (lane : ℕ) (bytes : List ℕ) (h : History) → Now h (λ now. (now ≡ clean now.seen) × IsReplaced lane bytes now.seen) → Now h (λ now. EachImage now (IsHead (1 - lane)))
head_replaced lane bytes h here =
    now_map (λ now. (now ≡ clean now.seen) × IsReplaced lane bytes now.seen) (λ now. EachImage now (IsHead (1 - lane))) (λ now is. each_rested now (IsHead (1 - lane)) is.0 is.1.head) h here
