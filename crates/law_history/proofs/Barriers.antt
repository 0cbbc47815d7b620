-- The barriers that are due, also behind other lines, are fair.
use Rattle.std.proofs.Common.{◌≡◌, ℕ, ◌<◌, ◌∙◌, false, ◌==◌, nat_le, not, List, [], ◌∷◌, ◌++◌, inl, inr, refl, ap, arith}
use Rattle.std.specs.Prelude.{flat_map}
use Rattle.std.proofs.lemmas.Bool.{cond_both, leb-true, or_from, ne_eqb, not-true}
use Rattle.salus_types.specs.Volume.{Shape}
use Rattle.merkle_region.specs.Tree.{IsAmong}
use Rattle.schedule_text.specs.declared.schedule.Event.{Event}
use Rattle.printed_lines.specs.declared.line.Line.{Line}
use Rattle.printed_lines.specs.declared.line.Line.TheVariants as line
use Rattle.salus_model.specs.declared.trace.Request.{Request}
use Rattle.salus_model.specs.declared.trace.Request.TheVariants as request
use Rattle.salus_model.specs.Judge.{Judge, is_among, front_of, judged_all, AlongLines}
use Rattle.salus_model.specs.Waiting.{Taken, has_ended, unended, left_of}
use Rattle.salus_model.specs.Due.{barrier_due, barriers_due, with_barriers}
use Rattle.list_lemmas.proofs.Members.{among_filter}
use Rattle.law_lemmas.proofs.Judged.{judged_all-append}
use Rattle.law_history.proofs.Fairly.{IsRequested, IsFair, AreFair, along_joined, unended_parts}
use Rattle.law_history.proofs.Joined.{Ascends, AreGood, ascends_later, good_filter, good_left, among_left_of}

module _ (shape : Shape) (events : List Event) (all : List Taken) (m : ℕ) (judge : Judge) where
  abbrev answering : List ℕ → Judge
  answering us = record judge { answered = us }

  abbrev due : List Taken → List Line
  due rs = flat_map (λ r. barrier_due judge r.event r.request) rs

  fair_one : (v : ℕ) (r : Request) (us : List ℕ) (rest : List Line) → IsRequested shape events v r → v < m → is_among v us ≡ false
      → AreFair shape events all m (answering us) rest → AreFair shape events all m (answering (v ∷ us)) rest
      → AreFair shape events all m (answering us) (barrier_due judge v r ++ rest)
  unfolding AlongLines
  fair_one v (request.Write batch) us rest asked low once without with' = without
  fair_one v (request.Read b) us rest asked low once without with' = without
  fair_one v request.Barrier us rest asked low once without with' =
      cond_both {A = List Line} (nat_le (front_of judge v) judge.acked) (line.Barrier v (front_of judge v) ∷ []) []
      (λ lines. AreFair shape events all m (answering us) (lines ++ rest))
      (λ t. ((record { asked = asked; once = once; front = refl; acknowledged = leb-true (front_of judge v) judge.acked t }, low), with'))
      (λ t. without)
  fair_one v (request.Restart e) us rest asked low once without with' = without
  fair_one v (request.Reassign e g) us rest asked low once without with' = without

  abbrev AreOpen : List Taken → List ℕ → Type 0
  AreOpen rs us = (r : Taken) → IsAmong r rs → is_among r.event us ≡ false

  still_open : (r : Taken) (rs : List Taken) (us : List ℕ) → Ascends r.event rs → AreOpen (r ∷ rs) us → AreOpen rs (r.event ∷ us)
  still_open r rs us up opens = λ x among.
      let later = ascends_later rs r.event x up among in
      or_from (r.event == x.event) (is_among x.event us) (ne_eqb r.event x.event (λ e. absurd (omega arith))) (opens x (inr among))

  fair_due : (rs : List Taken) (low : ℕ) (us : List ℕ) → ((r : Taken) → IsAmong r rs → IsRequested shape events r.event r.request × (r.event < m))
      → Ascends low rs → AreOpen rs us → AreFair shape events all m (answering us) (due rs)
  unfolding AlongLines
  fair_due [] low us good up opens = tt
  fair_due (r ∷ rs) low us good up opens =
      fair_one r.event r.request us (due rs) (good r (inl refl)).0 (good r (inl refl)).1 (opens r (inl refl))
      (fair_due rs r.event us (λ x among. good x (inr among)) up.1 (λ x among. opens x (inr among)))
      (fair_due rs r.event (r.event ∷ us) (λ x among. good x (inr among)) up.1 (still_open r rs us up.1 opens))

  pub barriers-fair : (rs : List Taken) → AreGood shape events m rs → ((r : Taken) → IsAmong r rs → is_among r.event judge.answered ≡ false)
      → AreFair shape events all m judge (barriers_due judge rs)
  barriers-fair rs good opens =
      let left = good_left shape events m rs good in
      fair_due (left_of rs) 0 judge.answered (λ r among. (left.each r among, left.below r among)) left.ascends
      (λ r among. opens r (among_left_of rs r among))

  -- after them the judge has more answers alone
  one_answered : (v : ℕ) (r : Request) (us : List ℕ) → (more : List ℕ) × (judged_all events (answering us) (barrier_due judge v r) ≡ answering more)
  unfolding judged_all
  one_answered v (request.Write batch) us = (us, refl)
  one_answered v (request.Read b) us = (us, refl)
  one_answered v request.Barrier us =
      cond_both {A = List Line} (nat_le (front_of judge v) judge.acked) (line.Barrier v (front_of judge v) ∷ []) []
      (λ lines. (more : List ℕ) × (judged_all events (answering us) lines ≡ answering more))
      (λ t. (v ∷ us, refl)) (λ t. (us, refl))
  one_answered v (request.Restart e) us = (us, refl)
  one_answered v (request.Reassign e g) us = (us, refl)

  all_answered : (rs : List Taken) (us : List ℕ) → (more : List ℕ) × (judged_all events (answering us) (due rs) ≡ answering more)
  unfolding judged_all
  all_answered [] us = (us, refl)
  all_answered (r ∷ rs) us =
      let first = one_answered r.event r.request us in
      let rest = all_answered rs first.0 in
      (rest.0, judged_all-append events (answering us) (barrier_due judge r.event r.request) (due rs) ∙ (ap (λ j. judged_all events j (due rs)) first.1 ∙ rest.1))

  pub barriers-judged : (rs : List Taken) → (more : List ℕ) × (judged_all events judge (barriers_due judge rs) ≡ answering more)
  barriers-judged rs = all_answered (left_of rs) judge.answered

  -- requests that no line has ended aren't answered
  pub unended_open : (rs : List Taken) (r : Taken) → IsAmong r (unended judge rs) → is_among r.event judge.answered ≡ false
  unended_open rs r among =
      let kept = among_filter (λ x. not (has_ended judge x.event)) r rs among in
      (unended_parts judge r.event (not-true (has_ended judge r.event) kept.1)).1

pub with_barriers-fair : (shape : Shape) (events : List Event) (all : List Taken) (m : ℕ) (judge : Judge) (requests : List Taken) (lines : List Line)
    → AreGood shape events m requests → AreFair shape events all m judge lines → AreFair shape events all m judge (with_barriers events judge requests lines)
with_barriers-fair shape events all m judge requests lines good fair =
    let after : Judge = judged_all events judge lines in
    along_joined (IsFair shape events all m) events judge lines (barriers_due after (unended after requests)) fair
    (barriers-fair shape events all m after (unended after requests) (good_filter shape events m (λ x. not (has_ended after x.event)) requests good)
    (λ r among. unended_open shape events all m after requests r among))
