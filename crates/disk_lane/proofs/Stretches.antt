-- Writes one behind the other.
use Rattle.std.proofs.Common.{◌≡◌, ℕ, ◌+◌, ◌≤◌, max, List, [], ◌∷◌, ◌++◌, length, take, drop, refl, sym, ◌∙◌, ap, subst, arith, append_assoc, length-append, take-append-drop}
use Rattle.std.proofs.lemmas.List.{take_at, drop_at, drop-drop, length-take-le}
use Rattle.disk_model.specs.Disk.{Moment, History, Now, Goes, IsWriting, written}
use Rattle.disk_model.proofs.Passing.{now_map, goes_trans, goes_wider, goes_none}
use Rattle.disk_model.proofs.Torn.{writing_wider, writing_trans}
use Rattle.disk_model.proofs.Tracked.{length-written}
use Rattle.disk_lane.specs.Wrote.{Wrote}

pub written_none : (at : ℕ) (file : List ℕ) → file ≡ written at [] file
written_none at file = sym (take-append-drop at file) ∙ λ i. nothing (take at file) i ++ drop (end at i) file
  where
    nothing : (l : List ℕ) → l ≡ l ++ []
    nothing [] = refl
    nothing (x ∷ l) = ap (λ (t : List ℕ). x ∷ t) (nothing l)

    end : (at : ℕ) → at ≡ at + 0
    end at = omega arith

pub written_more : (at : ℕ) (first second file : List ℕ) → at ≤ length file → written (at + length first) second (written at first file) ≡ written at (first ++ second) file
written_more at first second file le =
    let mid = at + length first in
    let n = length second in
    let front = take at file ++ first in
    let rest = drop mid file in
    let long : length front ≡ mid = omega (arith, length-take-le at file le, length-append (take at file) first) in
    let tail : drop (mid + n) (front ++ rest) ≡ drop (at + length (first ++ second)) file =
    sym (drop-drop n mid (front ++ rest)) ∙ ap (λ (l : List ℕ). drop n l) (drop_at front rest mid long) ∙ drop-drop n mid file ∙ ap (λ (k : ℕ). drop k file) (whole at first second) in
    (λ i. take_at front rest mid long i ++ second ++ tail i) ∙ ap (λ (l : List ℕ). l ++ drop (at + length (first ++ second)) file) (append_assoc (take at file) first second)
  where
    whole : (at : ℕ) (first second : List ℕ) → at + length first + length second ≡ at + length (first ++ second)
    whole at first second = omega (arith, length-append first second)

pub goes_writing_wider : (at n from size : ℕ) (old new : History) → from ≤ at → at + n ≤ from + size → Goes (IsWriting at n) old new → Goes (IsWriting from size) old new
goes_writing_wider at n from size old new low high went = goes_wider (IsWriting at n) (IsWriting from size) (λ start now is. writing_wider at n from size low high start now is) old new went

-- a write, and then one behind it, are one
pub goes_more : (at n from size k : ℕ) (old mid new : History) → at + n ≤ from → n ≤ k → from + size ≤ at + k → Goes (IsWriting at n) old mid → Goes (IsWriting from size) mid new → Goes (IsWriting at k) old new
goes_more at n from size k old mid new low narrow high first second =
    goes_trans (IsWriting at k) (λ a b c is more. writing_trans at k a b c is more) old mid new (goes_writing_wider at n at k old mid (omega arith) (omega arith) first) (goes_writing_wider from size at k mid new (omega arith) high second)

pub wrote_none : (at : ℕ) (history : History) → Now history (λ now. at ≤ length now.seen) → Wrote at [] history history
wrote_none at history fits = record { fits = fits; went = goes_none (IsWriting at 0) history; seen = same history }
  where
    same : (h : History) → Now h (λ was. Now h (λ now. now.seen ≡ written at [] was.seen))
    same [] = tt
    same (now ∷ past) = written_none at now.seen

seen_more : (at : ℕ) (first second : List ℕ) (old mid new : History) → (old ≡ [] → mid ≡ []) → ((was : Moment) (past : List Moment) → old ≡ was ∷ past → mid ≡ [] → ⊥) → Now old (λ was. at ≤ length was.seen) → Now old (λ was. Now mid (λ now. now.seen ≡ written at first was.seen)) → Now mid (λ was. Now new (λ now. now.seen ≡ written (at + length first) second was.seen))
    → Now old (λ was. Now new (λ now. now.seen ≡ written at (first ++ second) was.seen))
seen_more at first second [] mid new none told fits early late = tt
seen_more at first second (was ∷ past) [] new none told fits early late = absurd (told was past refl refl)
seen_more at first second (was ∷ past) (now ∷ later) new none told fits early late =
    now_map (λ m. m.seen ≡ written (at + length first) second now.seen) (λ m. m.seen ≡ written at (first ++ second) was.seen) (λ m is. is ∙ ap (λ (l : List ℕ). written (at + length first) second l) early ∙ written_more at first second was.seen fits) new late

-- a call never forgets what a disk held
pub goes_told : (step : Moment → Moment → Type 0) (old new : History) → Goes step old new → (was : Moment) (past : List Moment) → old ≡ was ∷ past → new ≡ [] → ⊥
goes_told step old new went was past is none = some went.later (sym (subst (λ (h : History). new ≡ went.later ++ h) is went.is) ∙ none)
  where
    some : (later : List Moment) → later ++ (was ∷ past) ≡ [] → ⊥
    some [] never = cc
    some (m ∷ later) never = cc

pub wrote_more : (at : ℕ) (first second : List ℕ) (old mid new : History) → Wrote at first old mid → Wrote (at + length first) second mid new → Wrote at (first ++ second) old new
wrote_more at first second old mid new early late = record {
  fits = early.fits;
  went = goes_more at (length first) (at + length first) (length second) (length (first ++ second)) old mid new (omega arith) (omega (arith, length-append first second)) (omega (arith, length-append first second)) early.went late.went;
  seen = seen_more at first second old mid new early.went.untold (goes_told (IsWriting at (length first)) old mid early.went) early.fits early.seen late.seen;
}
