-- What an event makes of the course of a run: one step, no step, or the steps of a `settle`.
use Rattle.std.proofs.Common.{◌≡◌, ◌∙◌, ◌⊎◌, inl, inr, ℕ, ◌+◌, ◌-◌, ◌<◌, ◌≤◌, Bool, true, false, if◌then◌else◌, List, [], ◌∷◌, ◌++◌, length, reverse, None, refl, sym, ap, subst, append_assoc, append-nil, arith}
use Rattle.std.specs.Prelude.{flat_map}
use Rattle.std.specs.List.{AllByRecursion}
use Rattle.std.proofs.lemmas.List.{reverse-append, length_push}
use Rattle.schedule_text.specs.declared.schedule.Event.{Event}
use Rattle.schedule_text.specs.declared.schedule.Event.TheVariants as event
use Rattle.printed_lines.specs.declared.line.Line.{Line}
use Rattle.salus_types.specs.declared.names.Sender.{Sender}
use Rattle.salus_model.specs.declared.trace.Handed.{Handed}
use Rattle.salus_model.specs.declared.trace.TraceStep.{TraceStep}
use Rattle.salus_model.specs.Following.{Posted, is_skipped, dropped_after, next_waiting, IsStep, IsOneStep, IsNextDelivery, IsSettling, AreStepsOf, IsEventDone}
use Rattle.salus_model.specs.Due.{skip_line}
use Rattle.run_course.specs.Course.{Course, IsEvent, sent_so_far, event_lines}
use Rattle.run_steps.specs.Settling.{AreNext, Settled}
use Rattle.run_steps.specs.Steps.{with_step}
use Rattle.run_steps.proofs.Stepping.{turned}

-- the lines of an event that isn't skipped
said_lines : (posts : List Posted) (n : ℕ) (e : Event) (was : Course) (said : List (List Line)) → is_skipped posts (sent_so_far was) e ≡ false → event_lines posts n e was said ≡ flat_map (λ l. l) said
said_lines posts n e was said goes = ap (λ (b : Bool). if b then skip_line n e else flat_map (λ l. l) said) goes

event_done : (posts : List Posted) (n : ℕ) (e : Event) (was : Course) (here : List TraceStep) → is_skipped posts (sent_so_far was) e ≡ false → AreStepsOf posts (reverse was.trace) was.dropped n e here
    → IsEventDone (is_skipped posts (sent_so_far was) e) posts (reverse was.trace) was.dropped n e here
event_done posts n e was here goes are = subst (λ (b : Bool). IsEventDone b posts (reverse was.trace) was.dropped n e here) (sym goes) are

pub one_event : (posts : List Posted) (n : ℕ) (e : Event) (was : Course) (step : TraceStep) (said : List Line) → is_skipped posts (sent_so_far was) e ≡ false → step.event ≡ n
    → AreStepsOf posts (reverse was.trace) was.dropped n e (step ∷ []) → dropped_after (sent_so_far was) was.dropped e ≡ was.dropped → IsEvent posts n e was (with_step was step said)
one_event posts n e was step said goes number are same = record {
  here = step ∷ [];
  said = said ∷ [];
  trace = refl;
  told = refl;
  each = refl;
  numbered = (number, tt);
  done = event_done posts n e was (step ∷ []) goes are;
  dropped = sym same;
  lines = ap (λ (l : List Line). was.lines ++ l) (sym (said_lines posts n e was (said ∷ []) goes ∙ append-nil said));
}

pub no_step : (posts : List Posted) (n : ℕ) (e : Event) (was : Course) (dropped : List ℕ) → is_skipped posts (sent_so_far was) e ≡ false → AreStepsOf posts (reverse was.trace) was.dropped n e [] → dropped ≡ dropped_after (sent_so_far was) was.dropped e
    → IsEvent posts n e was (record { trace = was.trace; dropped = dropped; told = was.told; lines = was.lines })
no_step posts n e was dropped goes are same = record {
  here = [];
  said = [];
  trace = sym (append-nil was.trace);
  told = sym (append-nil was.told);
  each = refl;
  numbered = tt;
  done = event_done posts n e was [] goes are;
  dropped = same;
  lines = sym (ap (λ (l : List Line). was.lines ++ l) (said_lines posts n e was [] goes) ∙ append-nil was.lines);
}

pub skipped_event : (posts : List Posted) (n : ℕ) (e : Event) (was : Course) → is_skipped posts (sent_so_far was) e ≡ true → dropped_after (sent_so_far was) was.dropped e ≡ was.dropped
    → IsEvent posts n e was (record { trace = was.trace; dropped = was.dropped; told = was.told; lines = was.lines ++ skip_line n e })
skipped_event posts n e was skips same = record {
  here = [];
  said = [];
  trace = sym (append-nil was.trace);
  told = sym (append-nil was.told);
  each = refl;
  numbered = tt;
  done = subst (λ (b : Bool). IsEventDone b posts (reverse was.trace) was.dropped n e []) (sym skips) refl;
  dropped = sym same;
  lines = ap (λ (l : List Line). was.lines ++ l) (sym (ap (λ (b : Bool). if b then skip_line n e else []) skips));
}

-- ---- settling

next_push : (posts : List Posted) (dropped : List ℕ) (n : ℕ) (earlier steps : List TraceStep) (step : TraceStep) → AreNext posts dropped n earlier steps → IsNextDelivery posts (reverse steps ++ earlier) dropped n step
    → AreNext posts dropped n earlier (steps ++ step ∷ [])
unfolding AreNext
next_push posts dropped n earlier [] step all new = (new, tt)
next_push posts dropped n earlier (first ∷ steps) step all new =
    (all.0, next_push posts dropped n (first ∷ earlier) steps step all.1 (subst (λ (l : List TraceStep). IsNextDelivery posts l dropped n step) (sym (turned first steps earlier)) new))

next_settling : (posts : List Posted) (dropped : List ℕ) (n count : ℕ) (earlier steps : List TraceStep) → AreNext posts dropped n earlier steps → length steps ≤ count
    → (length steps ≡ count) ⊎ (next_waiting (reverse steps ++ earlier) dropped ≡ None) → IsSettling posts dropped n count earlier steps
unfolding AreNext IsSettling
next_settling posts dropped n count earlier [] all few end = elim end [ inl same ↦ inl (sym same) | inr none ↦ inr none ]
next_settling posts dropped n count earlier (step ∷ steps) all few end = (
  omega (arith, few),
  all.0,
  next_settling posts dropped n (count - 1) (step ∷ earlier) steps all.1 (omega (arith, few)) (elim end [
    | inl same ↦ inl (omega (arith, same))
    | inr none ↦ inr (subst (λ (l : List TraceStep). next_waiting l dropped ≡ None) (sym (turned step steps earlier)) none)
  ]),
)

pub none_settled : (posts : List Posted) (n : ℕ) (was : Course) → Settled posts n 0 was was
unfolding AreNext
none_settled posts n was = record {
  here = [];
  said = [];
  trace = sym (append-nil was.trace);
  told = sym (append-nil was.told);
  lines = sym (append-nil was.lines);
  dropped = refl;
  each = refl;
  count = refl;
  numbered = tt;
  next = tt;
}

numbered_push : (n : ℕ) (steps : List TraceStep) (step : TraceStep) → AllByRecursion (λ s. s.event ≡ n) steps → step.event ≡ n → AllByRecursion (λ s. s.event ≡ n) (steps ++ step ∷ [])
numbered_push n [] step all number = (number, tt)
numbered_push n (first ∷ steps) step all number = (all.0, numbered_push n steps step all.1 number)

flat_push : (ls : List (List Line)) (l : List Line) → flat_map (λ x. x) (ls ++ l ∷ []) ≡ flat_map (λ x. x) ls ++ l
flat_push [] l = append-nil l
flat_push (x ∷ ls) l = ap (λ (r : List Line). x ++ r) (flat_push ls l) ∙ sym (append_assoc x (flat_map (λ y. y) ls) l)

-- the steps so far, with the newest first
settled_back : (posts : List Posted) (n done : ℕ) (was now : Course) (s : Settled posts n done was now) → reverse now.trace ≡ reverse s.here ++ reverse was.trace
settled_back posts n done was now s = ap reverse s.trace ∙ reverse-append was.trace s.here

pub settled_push : (posts : List Posted) (n done : ℕ) (was now : Course) (step : TraceStep) (said : List Line) → Settled posts n done was now → step.event ≡ n → IsNextDelivery posts (reverse now.trace) now.dropped n step
    → Settled posts n (done + 1) was (with_step now step said)
settled_push posts n done was now step said s number next = record {
  here = s.here ++ step ∷ [];
  said = s.said ++ said ∷ [];
  trace = ap (λ (l : List TraceStep). l ++ step ∷ []) s.trace ∙ append_assoc was.trace s.here (step ∷ []);
  told = ap (λ (l : List (List Line)). l ++ said ∷ []) s.told ∙ append_assoc was.told s.said (said ∷ []);
  lines = ap (λ (l : List Line). l ++ said) s.lines ∙ (append_assoc was.lines (flat_map (λ l. l) s.said) said ∙ ap (λ (l : List Line). was.lines ++ l) (sym (flat_push s.said said)));
  dropped = s.dropped;
  each = length_push s.said said ∙ (ap (λ (k : ℕ). k + 1) s.each ∙ sym (length_push s.here step));
  count = length_push s.here step ∙ ap (λ (k : ℕ). k + 1) s.count;
  numbered = numbered_push n s.here step s.numbered number;
  next = next_push posts was.dropped n (reverse was.trace) s.here step s.next
      (subst (λ (d : List ℕ). IsNextDelivery posts (reverse s.here ++ reverse was.trace) d n step) s.dropped
      (subst (λ (l : List TraceStep). IsNextDelivery posts l now.dropped n step) (settled_back posts n done was now s) next));
}

pub settled_event : (posts : List Posted) (n count done : ℕ) (was now : Course) → Settled posts n done was now → done ≤ count → (done ≡ count) ⊎ (next_waiting (reverse now.trace) now.dropped ≡ None)
    → IsEvent posts n (event.Settle count) was now
settled_event posts n count done was now s few end = record {
  here = s.here;
  said = s.said;
  trace = s.trace;
  told = s.told;
  each = s.each;
  numbered = s.numbered;
  done = next_settling posts was.dropped n count (reverse was.trace) s.here s.next (let long = s.count in omega (arith, few, long)) (elim end [
    | inl same ↦ inl (s.count ∙ same)
    | inr none ↦ inr (subst (λ (d : List ℕ). next_waiting (reverse s.here ++ reverse was.trace) d ≡ None) s.dropped
        (subst (λ (l : List TraceStep). next_waiting l now.dropped ≡ None) (settled_back posts n done was now s) none))
  ]);
  dropped = s.dropped;
  lines = s.lines;
}
