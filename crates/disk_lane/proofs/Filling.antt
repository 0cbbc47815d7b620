-- The writes of one page of a lane.
use Rattle.std.proofs.Common.{◌≡◌, ⊎_elim, ℕ, ◌+◌, ◌-◌, ◌≤◌, ◌<◌, max, List, [], ◌∷◌, ◌++◌, length, take, drop, refl, sym, ◌∙◌, ap, subst, arith}
use Rattle.std.proofs.lemmas.Bool.{cases_lt}
use Rattle.disk_model.specs.Disk.{Moment, History, Now, Goes, IsWriting, written}
use Rattle.disk_model.proofs.Passing.{now_map}
use Rattle.disk_model.proofs.Tracked.{length-written}
use Rattle.disk_lane.specs.Lanes.{place, count, page_rest, lane_bytes, lane_moment, lane_history}
use Rattle.disk_lane.specs.Wrote.{Wrote}
use Rattle.disk_lane.specs.Places.{place_below, count_at_place, count_in_page, count_grows}
use Rattle.disk_lane.specs.Images.{length-lane}
use Rattle.disk_lane.proofs.Seen.{writing_of_lane, written_in_page, filled_up}
use Rattle.disk_lane.proofs.Stretches.{written_none, wrote_none, wrote_more, goes_more, goes_writing_wider}
use Rattle.disk_lane.proofs.Passed.{goes_mapped, now_lane}

-- a fact about what a call left, where it may have told nothing
pub now_after : (old new : History) (P : Moment → Moment → Type 0) (Q : Moment → Type 0) → (old ≡ [] → new ≡ []) → Now old (λ was. Now new (P was)) → Now old (λ was. (now : Moment) → P was now → Q now) → Now new Q
now_after [] new P Q none is each = subst (λ (h : History). Now h Q) (sym (none refl)) tt
now_after (was ∷ past) new P Q none is each = now_map (P was) Q each new is

pub now_both : (P Q : Moment → Type 0) (h : History) → Now h P → Now h Q → Now h (λ m. P m × Q m)
now_both P Q [] p q = tt
now_both P Q (m ∷ past) p q = (p, q)

-- how long a file is after a write
pub end_written : (at end : ℕ) (bytes : List ℕ) (old new : History) → (old ≡ [] → new ≡ []) → Now old (λ was. end ≡ length was.seen) → Now old (λ was. at ≤ length was.seen) → Now old (λ was. Now new (λ now. now.seen ≡ written at bytes was.seen)) → Now new (λ now. max end (at + length bytes) ≡ length now.seen)
end_written at end bytes old new none is fits done =
    now_after old new (λ was now. now.seen ≡ written at bytes was.seen) (λ now. max end (at + length bytes) ≡ length now.seen) none done
    (now_map (λ was. (end ≡ length was.seen) × (at ≤ length was.seen)) (λ was. (now : Moment) → now.seen ≡ written at bytes was.seen → max end (at + length bytes) ≡ length now.seen) (λ was both now same. omega (arith, both.0, ap length same, length-written at bytes was.seen both.1)) old (now_both (λ was. end ≡ length was.seen) (λ was. at ≤ length was.seen) old is fits))

pub lane_there : (lane at : ℕ) (h : History) → Now h (λ m. at ≤ count lane (length m.seen)) → Now (lane_history lane h) (λ m. at ≤ length m.seen)
lane_there lane at h there = now_lane lane h (λ m. at ≤ length m.seen) (now_map (λ m. at ≤ count lane (length m.seen)) (λ m. at ≤ length (lane_bytes lane m.seen)) (λ m is. omega (arith, is, length-lane lane m.seen)) h there)

pub file_there : (lane at : ℕ) (h : History) → Now (lane_history lane h) (λ m. at ≤ length m.seen) → Now h (λ m. at ≤ count lane (length m.seen))
file_there lane at [] there = tt
file_there lane at (m ∷ past) there = omega (arith, there, length-lane lane m.seen)

pub reach_nothing : (lane at : ℕ) (h : History) → Now h (λ m. at ≤ count lane (length m.seen)) → Wrote at [] (lane_history lane h) (lane_history lane h)
reach_nothing lane at h there = wrote_none at (lane_history lane h) (lane_there lane at h there)

at_end : (lane at end n : ℕ) → end ≡ n → at ≤ count lane n → end < place lane at → count lane n ≡ at
at_end lane at end n is there short = ⊎_elim (λ (below : at < count lane n). absurd (omega (arith, place_below lane at n below))) (λ (above : count lane n ≤ at). omega arith) (cases_lt at (count lane n))

-- what is filled up isn't the lane's
pub fill_moments : (lane at end n : ℕ) (old new : History) → Now old (λ m. end ≡ length m.seen) → Now old (λ m. at ≤ count lane (length m.seen)) → end < place lane at → end + n ≡ place lane at → Goes (IsWriting end n) old new → Goes (IsWriting at 0) (lane_history lane old) (lane_history lane new)
fill_moments lane at end n [] new is there short up went = goes_mapped (lane_moment lane) (IsWriting end n) (IsWriting at 0) [] new tt went
fill_moments lane at end n (was ∷ past) new is there short up went =
    goes_mapped (lane_moment lane) (IsWriting end n) (IsWriting at 0) (was ∷ past) new (λ now writing. writing_of_lane lane end n at 0 was now (ap (λ (k : ℕ). count lane k) is ∙ at_end lane at end (length was.seen) is there short) (ap (λ (k : ℕ). count lane k) up ∙ count_at_place lane at ∙ plus at) writing) went
  where
    plus : (k : ℕ) → k ≡ k + 0
    plus k = omega arith

filled_seen : (lane at end : ℕ) (zeros : List ℕ) (was now : Moment) → end ≡ length was.seen → at ≤ count lane (length was.seen) → end < place lane at → end + length zeros ≡ place lane at → now.seen ≡ written end zeros was.seen → lane_bytes lane now.seen ≡ written at [] (lane_bytes lane was.seen)
filled_seen lane at end zeros was now is there short up done =
    let ends = at_end lane at end (length was.seen) is there short in
    ap (λ (l : List ℕ). lane_bytes lane l) (done ∙ ap (λ (k : ℕ). written k zeros was.seen) is)
    ∙ filled_up lane at zeros was.seen ends (omega arith)
    ∙ written_none at (lane_bytes lane was.seen)

pub fill_wrote : (lane at end : ℕ) (zeros : List ℕ) (old new : History) → Now old (λ m. end ≡ length m.seen) → Now old (λ m. at ≤ count lane (length m.seen)) → end < place lane at → end + length zeros ≡ place lane at → Goes (IsWriting end (length zeros)) old new
    → Now old (λ was. Now new (λ now. now.seen ≡ written end zeros was.seen)) → Wrote at [] (lane_history lane old) (lane_history lane new)
fill_wrote lane at end zeros old new is there short up went done = record {
  fits = lane_there lane at old there;
  went = fill_moments lane at end (length zeros) old new is there short up went;
  seen = seen old new is there done;
}
  where
    seen : (old new : History) → Now old (λ m. end ≡ length m.seen) → Now old (λ m. at ≤ count lane (length m.seen)) → Now old (λ was. Now new (λ now. now.seen ≡ written end zeros was.seen))
        → Now (lane_history lane old) (λ was. Now (lane_history lane new) (λ now. now.seen ≡ written at [] was.seen))
    seen [] new is there done = tt
    seen (was ∷ past) new is there done =
        now_lane lane new (λ now. now.seen ≡ written at [] (lane_bytes lane was.seen)) (now_map (λ now. now.seen ≡ written end zeros was.seen) (λ now. lane_bytes lane now.seen ≡ written at [] (lane_bytes lane was.seen)) (λ now same. filled_seen lane at end zeros was now is there short up same) new done)

-- a write within a page
pub page_moments : (lane at n : ℕ) (old new : History) → n ≤ page_rest at → Goes (IsWriting (place lane at) n) old new → Goes (IsWriting at n) (lane_history lane old) (lane_history lane new)
page_moments lane at n old new fits went = goes_mapped (lane_moment lane) (IsWriting (place lane at) n) (IsWriting at n) old new (each old) went
  where
    each : (h : History) → Now h (λ start. (now : Moment) → IsWriting (place lane at) n start now → IsWriting at n (lane_moment lane start) (lane_moment lane now))
    each [] = tt
    each (was ∷ past) = λ now writing. writing_of_lane lane (place lane at) n at n was now (count_at_place lane at) (count_in_page lane at n fits) writing

pub page_wrote : (lane at : ℕ) (bytes : List ℕ) (old new : History) → length bytes ≤ page_rest at → Now old (λ m. place lane at ≤ length m.seen) → Goes (IsWriting (place lane at) (length bytes)) old new
    → Now old (λ was. Now new (λ now. now.seen ≡ written (place lane at) bytes was.seen)) → Wrote at bytes (lane_history lane old) (lane_history lane new)
page_wrote lane at bytes old new fits there went done = record {
  fits = lane_there lane at old (now_map (λ m. place lane at ≤ length m.seen) (λ m. at ≤ count lane (length m.seen)) (λ m is. omega (arith, count_grows lane (place lane at) (length m.seen) is, count_at_place lane at)) old there);
  went = page_moments lane at (length bytes) old new fits went;
  seen = seen old new there done;
}
  where
    seen : (old new : History) → Now old (λ m. place lane at ≤ length m.seen) → Now old (λ was. Now new (λ now. now.seen ≡ written (place lane at) bytes was.seen))
        → Now (lane_history lane old) (λ was. Now (lane_history lane new) (λ now. now.seen ≡ written at bytes was.seen))
    seen [] new there done = tt
    seen (was ∷ past) new there done =
        now_lane lane new (λ now. now.seen ≡ written at bytes (lane_bytes lane was.seen)) (now_map (λ now. now.seen ≡ written (place lane at) bytes was.seen) (λ now. lane_bytes lane now.seen ≡ written at bytes (lane_bytes lane was.seen)) (λ now same. ap (λ (l : List ℕ). lane_bytes lane l) same ∙ written_in_page lane at bytes was.seen there fits) new done)

-- first filled up, and then written
pub wrote_after : (at : ℕ) (bytes : List ℕ) (old mid new : History) → Wrote at [] old mid → Wrote at bytes mid new → Wrote at bytes old new
wrote_after at bytes old mid new first second = wrote_more at [] bytes old mid new first (subst (λ (k : ℕ). Wrote k bytes mid new) (plus at) second)
  where
    plus : (k : ℕ) → k ≡ k + 0
    plus k = omega arith

pub goes_after : (at n : ℕ) (old mid new : History) → Goes (IsWriting at 0) old mid → Goes (IsWriting at n) mid new → Goes (IsWriting at n) old new
goes_after at n old mid new first second = goes_more at 0 at n n old mid new (omega arith) (omega arith) (omega arith) first second

pub goes_only : (at n : ℕ) (old new : History) → Goes (IsWriting at 0) old new → Goes (IsWriting at n) old new
goes_only at n old new went = goes_writing_wider at 0 at n old new (omega arith) (omega arith) went
