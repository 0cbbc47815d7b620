-- The other lane is written, and then named.
use Rattle.std.proofs.Common.{◌≡◌, ◌≢◌, ◌⊎◌, inl, inr, ⊎_elim, ℕ, ◌+◌, ◌-◌, ◌≤◌, ◌<◌, max, Bool, true, false, cond, ◌==◌, List, [], ◌∷◌, ◌++◌, length, take, drop, get_or, refl, sym, ◌∙◌, ap, subst, arith, length-append}
use Rattle.std.specs.List.{AllByRecursion}
use Rattle.std.proofs.lemmas.List.{ext_get_or, get_or-take, length-take-le, take_at}
use Rattle.std.proofs.lemmas.Bool.{cases_eq, cases_lt, cond-true, cond-false, eq-eqb, ne_eqb}
use Rattle.disk_model.specs.Disk.{Moment, History, Now, Goes, EachImage, IsImage, IsPart, IsWriting, IsSynced, clean, written}
use Rattle.disk_model.proofs.Passing.{goes_trans, goes_none, goes_now, now_map, image_of_clean, each_clean}
use Rattle.disk_model.proofs.Torn.{image_of_writing, part_written}
use Rattle.disk_lane.specs.Lanes.{place, count, lane_bytes, lane_history}
use Rattle.disk_lane.specs.Beside.{IsKept, HasKept, IsBeside, IsTurning}
use Rattle.disk_lane.specs.Heads.{live_lane, file_mark, IsHead, IsLonger, IsHeld, IsReplaced, IsEither, IsHolding, IsReplacing}
use Rattle.disk_lane.proofs.Apart.{other_kept, head_kept, mark_kept, IsTurned, part_turned, lanes_turned, mark_turned}
use Rattle.disk_lane.specs.Wrote.{Wrote}
use Rattle.disk_lane.proofs.Seen.{written_inside}
use Rattle.disk_lane.proofs.Filling.{now_after}
use Rattle.disk_lane.proofs.Keeping.{goes_if}

longer_same : (a b : List ℕ) → a ≡ b → IsLonger a b
longer_same a b same = record { reaches = omega (arith, ap length same); same = λ i there. ap (λ (l : List ℕ). get_or l i 0) (sym same) }

longer_trans : (a b c : List ℕ) → IsLonger a b → IsLonger b c → IsLonger a c
longer_trans a b c first second = record { reaches = omega (arith, first.reaches, second.reaches); same = λ i there. second.same i (omega (arith, first.reaches)) ∙ first.same i there }

held_trans : (lane : ℕ) (a b : Moment) (image : List ℕ) (second : IsHeld lane b image) → IsHeld lane a second.earlier → IsHeld lane a image
held_trans lane a b image second first = record { earlier = first.earlier; is = first.is; longer = longer_trans _ _ _ first.longer second.longer }

pub replacing_trans : (lane : ℕ) (bytes : List ℕ) (a b c : Moment) → IsReplacing lane bytes a b → IsReplacing lane bytes b c → IsReplacing lane bytes a c
replacing_trans lane bytes a b c first second image is =
    let late = second image is in
    (held_trans lane a b image late.0 (first late.0.earlier late.0.is).0, late.1)

pub holding_trans : (lane : ℕ) (a b c : Moment) → IsHolding lane a b → IsHolding lane b c → IsHolding lane a c
holding_trans lane a b c first second image is =
    let late = second image is in
    (held_trans lane a b image late.0 (first late.0.earlier late.0.is).0, late.1)

-- ---- the other lane is written

pub head_stays : (lane o : ℕ) (earlier image : List ℕ) → IsKept o earlier image → IsHead lane earlier → IsHead lane image
head_stays lane o earlier image kept head = record {
  long = omega (arith, kept.reaches, head.long);
  marked = mark_kept o earlier image kept head.long ∙ head.marked;
  live = ap (λ (n : ℕ). cond (n == 1) 1 0) (head_kept o earlier image 8 kept (omega arith) head.long) ∙ head.live;
}

holding_beside : (lane : ℕ) (start now : Moment) → lane < 2 → EachImage start (IsHead lane) → IsBeside (1 - lane) start now → IsHolding lane start now
holding_beside lane start now is_lane head beside image is =
    let b = beside image is in
    (record { earlier = b.earlier; is = b.is; longer = other_kept lane b.earlier image is_lane b.kept }, head_stays lane (1 - lane) b.earlier image b.kept (head b.earlier b.is))

pub other_holding : (lane : ℕ) (old new : History) → lane < 2 → Now old (λ m. EachImage m (IsHead lane)) → Goes (IsBeside (1 - lane)) old new → Goes (IsHolding lane) old new
other_holding lane [] new is_lane head went = goes_if (IsBeside (1 - lane)) (IsHolding lane) [] new tt went
other_holding lane (start ∷ past) new is_lane head went = goes_if (IsBeside (1 - lane)) (IsHolding lane) (start ∷ past) new (λ now beside. holding_beside lane start now is_lane head beside) went

-- ---- a sync

holding_synced : (lane : ℕ) (start now : Moment) → EachImage start (IsHead lane) → IsImage start start.seen → IsSynced start now → IsHolding lane start now
holding_synced lane start now head reads synced image is =
    let same : image ≡ start.seen = image_of_clean start.seen image (subst (λ (m : Moment). IsImage m image) synced is) in
    (record { earlier = start.seen; is = reads; longer = longer_same _ _ (ap (λ (l : List ℕ). lane_bytes lane l) (sym same)) }, subst (λ (l : List ℕ). IsHead lane l) (sym same) (head start.seen reads))

pub sync_holding : (lane : ℕ) (old new : History) → Now old (λ m. EachImage m (IsHead lane)) → Now old (λ m. IsImage m m.seen) → Goes IsSynced old new → Goes (IsHolding lane) old new
sync_holding lane [] new head reads went = goes_if IsSynced (IsHolding lane) [] new tt went
sync_holding lane (start ∷ past) new head reads went = goes_if IsSynced (IsHolding lane) (start ∷ past) new (λ now is. holding_synced lane start now head reads is) went

replacing_synced : (lane : ℕ) (bytes : List ℕ) (start now : Moment) → EachImage start (IsEither lane bytes) → IsImage start start.seen → IsSynced start now → IsReplacing lane bytes start now
replacing_synced lane bytes start now either reads synced image is =
    let same : image ≡ start.seen = image_of_clean start.seen image (subst (λ (m : Moment). IsImage m image) synced is) in
    (record { earlier = start.seen; is = reads; longer = longer_same _ _ (ap (λ (l : List ℕ). lane_bytes lane l) (sym same)) }, subst (λ (l : List ℕ). IsEither lane bytes l) (sym same) (either start.seen reads))

sync_replacing : (lane : ℕ) (bytes : List ℕ) (old new : History) → Now old (λ m. EachImage m (IsEither lane bytes)) → Now old (λ m. IsImage m m.seen) → Goes IsSynced old new → Goes (IsReplacing lane bytes) old new
sync_replacing lane bytes [] new either reads went = goes_if IsSynced (IsReplacing lane bytes) [] new tt went
sync_replacing lane bytes (start ∷ past) new either reads went = goes_if IsSynced (IsReplacing lane bytes) (start ∷ past) new (λ now is. replacing_synced lane bytes start now either reads is) went

-- ---- what is so after a call

pub now_from : (step : Moment → Moment → Type 0) (H : Moment → Type 0) (old new : History) → ((start now : Moment) → step start now → H now) → Now old H → Goes step old new → Now new H
now_from step H [] new f here went = subst (λ (h : History). Now h H) (sym (went.untold refl)) tt
now_from step H (start ∷ past) new f here went =
    now_map (λ now. (now ≡ start) ⊎ step start now) H (λ now either. ⊎_elim (λ (same : now ≡ start). subst H (sym same) here) (λ (is : step start now). f start now is) either) new (goes_now step (start ∷ past) new went)

pub head_holding : (lane : ℕ) (old new : History) → Now old (λ m. EachImage m (IsHead lane)) → Goes (IsHolding lane) old new → Now new (λ m. EachImage m (IsHead lane))
head_holding lane old new head went = now_from (IsHolding lane) (λ m. EachImage m (IsHead lane)) old new (λ start now is image there. (is image there).1) head went

-- ---- the selector

live_either : (lane : ℕ) (image : List ℕ) → lane < 2 → (live_lane image ≡ lane) ⊎ (live_lane image ≡ 1 - lane)
live_either lane image is = elim (cases_eq (get_or image 8 0) 1) [
  | inl one ↦
      let at : live_lane image ≡ 1 = cond-true (get_or image 8 0 == 1) 1 0 (eq-eqb (get_or image 8 0) 1 one) in
      elim (cases_eq lane 1) [
        | inl here ↦ inl (at ∙ sym here)
        | inr unlike ↦ inr (at ∙ omega (arith, unlike))
      ]
  | inr differs ↦
      let at : live_lane image ≡ 0 = cond-false (get_or image 8 0 == 1) 1 0 (ne_eqb (get_or image 8 0) 1 differs) in
      elim (cases_eq lane 0) [
        | inl here ↦ inl (at ∙ sym here)
        | inr unlike ↦ inr (at ∙ omega (arith, unlike))
      ]
]

head_turned : (lane l : ℕ) (file image : List ℕ) → IsHead lane file → IsTurned file image → live_lane image ≡ l → IsHead l image
head_turned lane l file image head turned live = record { long = omega (arith, turned.long, head.long); marked = mark_turned file image head.long turned ∙ head.marked; live = live }

either_turned : (lane : ℕ) (bytes file image : List ℕ) → lane < 2 → IsHead lane file → take (length bytes) (lane_bytes (1 - lane) file) ≡ bytes → IsTurned file image → IsEither lane bytes image
either_turned lane bytes file image is head begins turned =
    ⊎_elim (λ (here : live_lane image ≡ lane). inl (head_turned lane lane file image head turned here)) (λ (there : live_lane image ≡ 1 - lane). inr record { head = head_turned lane (1 - lane) file image head turned there; begins = ap (λ (l : List ℕ). take (length bytes) l) (sym (lanes_turned (1 - lane) file image turned)) ∙ begins }) (live_either lane image is)

-- what has to be so before the selector is written
pub record IsReady (lane : ℕ) (bytes : List ℕ) (m : Moment) : Type 0 where
  pub rests : m ≡ clean m.seen
  pub head : IsHead lane m.seen
  pub begins : take (length bytes) (lane_bytes (1 - lane) m.seen) ≡ bytes

turning_step : (lane : ℕ) (bytes : List ℕ) (start now : Moment) → lane < 2 → IsReady lane bytes start → IsWriting 8 1 start now → IsReplacing lane bytes start now
turning_step lane bytes start now is_lane ready writing image is =
    let f = start.seen in
    let from = subst (λ (m : Moment). IsWriting 8 1 m now) ready.rests writing in
    let turned = part_turned f image ready.head.long (image_of_writing 8 1 f image now from is) in
    (record { earlier = f; is = subst (λ (m : Moment). IsImage m f) (sym ready.rests) record { no_shorter = omega arith; no_longer = omega arith; kept = λ i a b c. refl }; longer = longer_same _ _ (lanes_turned lane f image turned) }, either_turned lane bytes f image is_lane ready.head ready.begins turned)

writes_turning : (lane : ℕ) (bytes : List ℕ) (old new : History) → lane < 2 → Now old (IsReady lane bytes) → Goes (IsWriting 8 1) old new → Goes (IsReplacing lane bytes) old new
writes_turning lane bytes [] new is_lane ready went = goes_if (IsWriting 8 1) (IsReplacing lane bytes) [] new tt went
writes_turning lane bytes (start ∷ past) new is_lane ready went = goes_if (IsWriting 8 1) (IsReplacing lane bytes) (start ∷ past) new (λ now is. turning_step lane bytes start now is_lane ready is) went

pub ready_either : (lane : ℕ) (bytes : List ℕ) (m : Moment) → IsReady lane bytes m → EachImage m (IsEither lane bytes)
ready_either lane bytes m ready = subst (λ (x : Moment). EachImage x (IsEither lane bytes)) (sym ready.rests) (each_clean m.seen (IsEither lane bytes) (inl ready.head))

pub turning_replacing : (lane : ℕ) (bytes : List ℕ) (old new : History) → lane < 2 → Now old (IsReady lane bytes) → IsTurning old new → Goes (IsReplacing lane bytes) old new
turning_replacing lane bytes old new is_lane ready turning =
    let first = writes_turning lane bytes old turning.mid is_lane ready turning.writes in
    let either = now_map (IsReady lane bytes) (λ m. EachImage m (IsEither lane bytes)) (ready_either lane bytes) old ready in
    let then = now_from (IsReplacing lane bytes) (λ m. EachImage m (IsEither lane bytes)) old turning.mid (λ start now is image there. (is image there).1) either first in
    goes_trans (IsReplacing lane bytes) (replacing_trans lane bytes) old turning.mid new first (sync_replacing lane bytes turning.mid new then turning.reads turning.syncs)

-- where nothing of the selector was written
none_step : (lane : ℕ) (bytes : List ℕ) (start now : Moment) → IsReady lane bytes start → IsWriting 8 0 start now → IsHolding lane start now
none_step lane bytes start now ready writing image is =
    let f = start.seen in
    let from = subst (λ (m : Moment). IsWriting 8 0 m now) ready.rests writing in
    let part = image_of_writing 8 0 f image now from is in
    let long = ready.head.long in
    let size : length image ≡ length f = omega (arith, part.no_shorter, part.no_longer, long) in
    let same : image ≡ f = ext_get_or 0 image f size (λ i there. ⊎_elim (λ (below : i < 8). part.before i there (omega (arith, size)) below) (λ (above : 8 ≤ i). part.after i there (omega (arith, size)) above) (cases_lt i 8)) in
    (record { earlier = f; is = subst (λ (m : Moment). IsImage m f) (sym ready.rests) record { no_shorter = omega arith; no_longer = omega arith; kept = λ i a b c. refl }; longer = longer_same _ _ (ap (λ (l : List ℕ). lane_bytes lane l) (sym same)) }, subst (λ (l : List ℕ). IsHead lane l) (sym same) ready.head)

pub none_holding : (lane : ℕ) (bytes : List ℕ) (old new : History) → Now old (IsReady lane bytes) → Goes (IsWriting 8 0) old new → Goes (IsHolding lane) old new
none_holding lane bytes [] new ready went = goes_if (IsWriting 8 0) (IsHolding lane) [] new tt went
none_holding lane bytes (start ∷ past) new ready went = goes_if (IsWriting 8 0) (IsHolding lane) (start ∷ past) new (λ now is. none_step lane bytes start now ready is) went

pub holding_replacing : (lane : ℕ) (bytes : List ℕ) (old new : History) → Goes (IsHolding lane) old new → Goes (IsReplacing lane bytes) old new
holding_replacing lane bytes [] new went = goes_if (IsHolding lane) (IsReplacing lane bytes) [] new tt went
holding_replacing lane bytes (start ∷ past) new went = goes_if (IsHolding lane) (IsReplacing lane bytes) (start ∷ past) new (λ now is image there. let h = is image there in (h.0, inl h.1)) went

pub holding_more : (lane : ℕ) (old mid new : History) → Goes (IsHolding lane) old mid → Goes (IsHolding lane) mid new → Goes (IsHolding lane) old new
holding_more lane old mid new first second = goes_trans (IsHolding lane) (holding_trans lane) old mid new first second

pub replacing_more : (lane : ℕ) (bytes : List ℕ) (old mid new : History) → Goes (IsHolding lane) old mid → Goes (IsReplacing lane bytes) mid new → Goes (IsReplacing lane bytes) old new
replacing_more lane bytes old mid new first second = goes_trans (IsReplacing lane bytes) (replacing_trans lane bytes) old mid new (holding_replacing lane bytes old mid first) second

-- ---- the whole

pub nothing_before : (h : History) → Now h (λ m. 0 ≤ length m.seen)
nothing_before [] = tt
nothing_before (m ∷ past) = omega arith

begins_written : (bytes file : List ℕ) → take (length bytes) (written 0 bytes file) ≡ bytes
begins_written bytes file = take_at bytes (drop (0 + length bytes) file) (length bytes) refl

other_begins : (bytes : List ℕ) (old new : History) → Wrote 0 bytes old new → Now new (λ m. take (length bytes) m.seen ≡ bytes)
other_begins bytes old new wrote =
    now_after old new (λ was now. now.seen ≡ written 0 bytes was.seen) (λ now. take (length bytes) now.seen ≡ bytes) wrote.went.untold wrote.seen
    (now_map (λ was. 0 ≤ length was.seen) (λ was. (now : Moment) → now.seen ≡ written 0 bytes was.seen → take (length bytes) now.seen ≡ bytes) (λ was fits now same. ap (λ (l : List ℕ). take (length bytes) l) same ∙ begins_written bytes was.seen) old wrote.fits)

ready_synced : (lane : ℕ) (bytes : List ℕ) (m now : Moment) → EachImage m (IsHead lane) → IsImage m m.seen → take (length bytes) (lane_bytes (1 - lane) m.seen) ≡ bytes → now ≡ clean m.seen → IsReady lane bytes now
ready_synced lane bytes m now head reads begins synced =
    let seen : now.seen ≡ m.seen = ap (λ (x : Moment). x.seen) synced in
    record {
      rests = synced ∙ ap clean (sym seen);
      head = subst (λ (l : List ℕ). IsHead lane l) (sym seen) (head m.seen reads);
      begins = ap (λ (l : List ℕ). take (length bytes) (lane_bytes (1 - lane) l)) seen ∙ begins;
    }

pub ready : (lane : ℕ) (bytes : List ℕ) (old mid new : History) → Wrote 0 bytes (lane_history (1 - lane) old) (lane_history (1 - lane) mid) → Now mid (λ m. EachImage m (IsHead lane)) → Now mid (λ m. IsImage m m.seen) → (mid ≡ [] → new ≡ []) → Now mid (λ was. Now new (λ now. now ≡ clean was.seen)) → Now new (IsReady lane bytes)
ready lane bytes old [] new wrote head reads none synced = subst (λ (h : History). Now h (IsReady lane bytes)) (sym (none refl)) tt
ready lane bytes old (m ∷ past) new wrote head reads none synced =
    now_map (λ now. now ≡ clean m.seen) (IsReady lane bytes) (λ now is. ready_synced lane bytes m now head reads (other_begins bytes (lane_history (1 - lane) old) (lane_history (1 - lane) (m ∷ past)) wrote) is) new synced

pub ready_long : (lane : ℕ) (bytes : List ℕ) (h : History) → Now h (IsReady lane bytes) → Now h (λ m. 16 ≤ length m.seen)
ready_long lane bytes h is = now_map (IsReady lane bytes) (λ m. 16 ≤ length m.seen) (λ m r. r.head.long) h is

named : (lane : ℕ) (file : List ℕ) → lane < 2 → 16 ≤ length file → live_lane (written 8 ((1 - lane) ∷ []) file) ≡ 1 - lane
named lane file is long =
    ap (λ (n : ℕ). cond (n == 1) 1 0) (written_inside 8 ((1 - lane) ∷ []) file 0 (omega arith) (omega arith)) ∙ number (1 - lane) (omega arith)
  where
    number : (x : ℕ) → x < 2 → cond (x == 1) 1 0 ≡ x
    number x small = elim (cases_eq x 1) [
      | inl one ↦ cond-true (x == 1) 1 0 (eq-eqb x 1 one) ∙ sym one
      | inr differs ↦ cond-false (x == 1) 1 0 (ne_eqb x 1 differs) ∙ omega (arith, differs)
    ]

turned_step : (lane : ℕ) (bytes : List ℕ) (m now : Moment) → lane < 2 → IsReady lane bytes m → now ≡ clean (written 8 ((1 - lane) ∷ []) m.seen) → (now ≡ clean now.seen) × IsReplaced lane bytes now.seen
turned_step lane bytes m now is_lane r turned =
    let f = m.seen in
    let file = written 8 ((1 - lane) ∷ []) f in
    let seen : now.seen ≡ file = ap (λ (x : Moment). x.seen) turned in
    let is = part_turned f file r.head.long (part_written 8 ((1 - lane) ∷ []) f (omega (arith, r.head.long))) in
    let begins : take (length bytes) (lane_bytes (1 - lane) file) ≡ bytes = ap (λ (l : List ℕ). take (length bytes) l) (sym (lanes_turned (1 - lane) f file is)) ∙ r.begins in
    let replaced : IsReplaced lane bytes file = record { head = head_turned lane (1 - lane) f file r.head is (named lane f is_lane r.head.long); begins = begins } in
    (turned ∙ ap clean (sym seen), subst (λ (l : List ℕ). IsReplaced lane bytes l) (sym seen) replaced)

pub turned_now : (lane : ℕ) (bytes : List ℕ) (old new : History) → lane < 2 → (old ≡ [] → new ≡ []) → Now old (IsReady lane bytes) → Now old (λ was. Now new (λ now. now ≡ clean (written 8 ((1 - lane) ∷ []) was.seen))) → Now new (λ now. (now ≡ clean now.seen) × IsReplaced lane bytes now.seen)
turned_now lane bytes old new is_lane none is turned =
    now_after old new (λ was now. now ≡ clean (written 8 ((1 - lane) ∷ []) was.seen)) (λ now. (now ≡ clean now.seen) × IsReplaced lane bytes now.seen) none turned
    (now_map (IsReady lane bytes) (λ was. (now : Moment) → now ≡ clean (written 8 ((1 - lane) ∷ []) was.seen) → (now ≡ clean now.seen) × IsReplaced lane bytes now.seen) (λ was r now same. turned_step lane bytes was now is_lane r same) old is)

pub turning_untold : (old new : History) → IsTurning old new → old ≡ [] → new ≡ []
turning_untold old new turning none = turning.syncs.untold (turning.writes.untold none)
