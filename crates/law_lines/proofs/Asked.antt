-- Any request to a serving client.
use Rattle.std.proofs.Common.{◌≡◌, ℕ, ◌+◌, ◌<◌, ◌≤◌, true, nat_lt, nat_le, List, [], ◌∷◌, Option, None, Some, length, cond, refl, arith, lt-ltb, leb-false}
use Rattle.std.specs.Option.{option_or, option_map}
use Rattle.salus_types.specs.Volume.{Shape, blocks}
use Rattle.schedule_text.specs.declared.schedule.Volume.{Volume}
use Rattle.schedule_text.specs.declared.schedule.Event.{Event}
use Rattle.printed_lines.specs.declared.line.Line.{Line}
use Rattle.printed_lines.specs.declared.line.RequestRefusal.{RequestRefusal}
use Rattle.printed_lines.specs.declared.line.RequestRefusal.TheVariants as refusal
use Rattle.salus_model.specs.declared.trace.Request.{Request}
use Rattle.salus_model.specs.declared.trace.Request.TheVariants as request
use Rattle.salus_model.specs.declared.trace.TraceStep.{TraceStep}
use Rattle.salus_model.specs.Judge.{Judge, judged_all}
use Rattle.salus_model.specs.Hearing.{Asks, Past, phase_of}
use Rattle.salus_model.specs.Waiting.{live, reads_among, range_refusal, full_refusal, refusal_of}
use Rattle.salus_model.specs.Due.{due_request}
use Rattle.client_rules.specs.State as state
use Rattle.client_rules.specs.Serving.{refusal_here, decided, fetches, requested_here}
use Rattle.list_lemmas.proofs.Tests.{by_test}
use Rattle.law_lines.specs.Mirrors.{IsYoung, Holds, AsDue}
use Rattle.law_lines.proofs.Histories.{past, agree-quiet, untouched-agree}
use Rattle.law_lines.proofs.Counting.{same-refusal}
use Rattle.law_lines.proofs.Requests.{refused_as_due, joined_as_due}

-- ---- a later session

young-up : (judge : Judge) (m later : ℕ) (c : state.Client) → m ≤ later → IsYoung judge m c → IsYoung judge later c
young-up judge m later state.Closed up y = omega (arith, up, y)
young-up judge m later (state.Serves c) up y = omega (arith, up, y)
young-up judge m later (state.Gathers g) up y = (y.0, let h = y.1 in omega (arith, up, h))
young-up judge m later (state.Fetches f) up y = (y.0, let h = y.1 in omega (arith, up, h))
young-up judge m later (state.Stages b) up y = (y.0, let h = y.1 in omega (arith, up, h))
young-up judge m later (state.Switches b) up y = (y.0, let h = y.1 in omega (arith, up, h))

pub due-up : (volume : Volume) (next : List Past) (judge : Judge) (n m later : ℕ) (due : List Line) (told : state.Told) → m ≤ later
    → AsDue volume next judge n m due told → AsDue volume next judge n later due told
due-up volume next judge n m later due told up a = record {
  same = a.same;
  holds = record { before = a.holds.before; young = young-up judge m later told.client up a.holds.young; mirrors = a.holds.mirrors };
}

-- sessions that are asked for rise: from m on, and below `later`
abbrev pub OpensIn : ℕ → ℕ → Request → Type 0
OpensIn m later (request.Restart e) = (m ≤ e) × (e < later)
OpensIn m later (request.Reassign e g) = (m ≤ e) × (e < later)
OpensIn m later other = m ≤ later

pub opens-up : (m later : ℕ) (r : Request) → OpensIn m later r → m ≤ later
opens-up m later (request.Write batch) o = o
opens-up m later (request.Read b) o = o
opens-up m later request.Barrier o = o
opens-up m later (request.Restart e) o = let h = o.0 in let t = o.1 in omega (arith, h, t)
opens-up m later (request.Reassign e g) o = let h = o.0 in let t = o.1 in omega (arith, h, t)

-- a read that is not refused is of a block of the volume
inside_range : (shape : Shape) (b : ℕ) (o : Option RequestRefusal) → option_or (range_refusal (blocks shape) (b ∷ [])) o ≡ None → nat_lt b (blocks shape) ≡ true
inside_range shape b o =
    by_test (λ t. nat_le (blocks shape) b ≡ t → option_or (option_map (λ n. refusal.Range n) (cond t (Some b) None)) o ≡ None → nat_lt b (blocks shape) ≡ true)
    (nat_le (blocks shape) b)
    (λ _ _ none. absurd (cc)) (λ _ below _. lt-ltb b (blocks shape) (leb-false (blocks shape) b below)) refl

module _ (volume : Volume) (events : List Event) (history : List Past) (judge : Judge) (n m later : ℕ) (c : state.Serving) (step : TraceStep)
    (h : Holds volume history judge n m (state.Serves c)) (up : n ≤ step.event) where
  abbrev Row : Request → List Line → state.Told → Type 0
  Row r due told = AsDue volume (past step (Asks r) judge due ∷ history) (judged_all events judge due) (step.event + 1) later due told

  fetched_as_due : (e g : ℕ) → OpensIn m later (request.Reassign e g) → Row (request.Reassign e g) [] (fetches volume.geometry c e g)
  unfolding judged_all phase_of
  fetched_as_due e g o =
      let latest = h.before.latest in
      let young = h.young in
      let from = o.0 in
      record {
        same = refl;
        holds = record {
          before = record {
            ended = λ v is. let b = h.before.ended v is in omega (arith, b, up);
            untouched = λ q after. untouched-agree volume.geometry q (past step (Asks (request.Reassign e g)) judge [] ∷ history) history
                (agree-quiet volume.geometry history (past step (Asks (request.Reassign e g)) judge []) (λ q. refl) q)
                (h.before.untouched q (omega (arith, after, up)));
            latest = omega (arith, latest, up);
          };
          young = (omega (arith, young, from), o.1);
          mirrors = record { phase = refl; served = h.mirrors.counts.session; last = h.mirrors.counts.last; contents = h.mirrors.counts.contents };
        };
      }

  decided_as_due : (r : Request) (o : Option RequestRefusal) → OpensIn m later r → refusal_here volume.geometry c r ≡ o
      → Row r (due_request events judge (live history judge) step.event r o) (decided volume.geometry c step.event r o)
  decided_as_due r (Some cause) o is = due-up volume _ _ _ m later _ _ (opens-up m later r o) (refused_as_due volume events history judge n m c step h up r cause)
  decided_as_due (request.Write batch) None o is =
      due-up volume _ _ _ m later _ _ o (joined_as_due volume events history judge n m c step h up (request.Write batch) refl (λ p. refl) refl c.line refl)
  decided_as_due (request.Read b) None o is =
      due-up volume _ _ _ m later _ _ o (joined_as_due volume events history judge n m c step h up (request.Read b) refl (λ p. refl)
      (inside_range volume.geometry b (full_refusal 64 (length c.reads + reads_among c.line)) is) c.line refl)
  decided_as_due request.Barrier None o is =
      due-up volume _ _ _ m later _ _ o (joined_as_due volume events history judge n m c step h up request.Barrier refl (λ p. refl) refl c.line refl)
  decided_as_due (request.Restart e) None o is = absurd (cc)
  decided_as_due (request.Reassign e g) None o is = fetched_as_due e g o

  -- any request
  pub asked_as_due : (r : Request) → OpensIn m later r
      → Row r (due_request events judge (live history judge) step.event r (refusal_of volume.geometry (phase_of history) judge (live history judge) r))
      (requested_here volume.geometry c step.event r)
  unfolding requested_here
  asked_as_due r o =
      rw (h.mirrors.serves, ← same-refusal volume.geometry history judge (live history judge) c h.mirrors.counts h.mirrors.table h.mirrors.order.inside r)
      (decided_as_due r (refusal_here volume.geometry c r) o refl)
