-- The lines that are due for a request are fair: it is refused, or it joins, and barriers are answered.
use Rattle.std.proofs.Common.{◌≡◌, ℕ, ◌+◌, ◌<◌, Bool, true, false, nat_le, not, cond, List, [], ◌∷◌, ◌++◌, map, Option, None, Some, inl, inr, refl, ap, sym, arith}
use Rattle.std.specs.Prelude.{find}
use Rattle.std.specs.List.{AllByRecursion}
use Rattle.std.specs.Option.{option_or, option_map}
use Rattle.std.proofs.lemmas.Bool.{cond_both, leb-false, cases_Bool}
use Rattle.std.proofs.lemmas.Option.{none-some}
use Rattle.salus_types.specs.Volume.{Shape, blocks}
use Rattle.salus_types.specs.declared.records.Write.{Write}
use Rattle.merkle_region.proofs.Membership.{among_either}
use Rattle.schedule_text.specs.declared.schedule.Event.{Event}
use Rattle.schedule_text.specs.declared.schedule.Event.TheVariants as event
use Rattle.printed_lines.specs.declared.line.Line.{Line}
use Rattle.printed_lines.specs.declared.line.RequestRefusal.{RequestRefusal}
use Rattle.printed_lines.specs.declared.line.RequestRefusal.TheVariants as refusal
use Rattle.salus_model.specs.declared.trace.Request.{Request}
use Rattle.salus_model.specs.declared.trace.Request.TheVariants as request
use Rattle.salus_model.specs.Judge.{Judge, event_at, is_among, AlongLines}
use Rattle.salus_model.specs.Hearing.{Asks, Phase, Serving, Closed, Gathering, Fetching, Staged}
use Rattle.salus_model.specs.Waiting.{Taken, joins, joining, has_ended, unended, range_refusal, refusal_serving, refusal_away, refusal_of}
use Rattle.salus_model.specs.Due.{barriers_due, due_request}
use Rattle.law_history.proofs.Fairly.{IsRequested, AreFair}
use Rattle.law_history.proofs.Joined.{AreGood, good_filter, good_push}
use Rattle.law_history.proofs.Barriers.{barriers-fair, unended_open}

-- the event of a request
abbrev pub asked_event : Request → Event
asked_event (request.Write batch) = event.Write batch
asked_event (request.Read b) = event.Read b
asked_event request.Barrier = event.Barrier
asked_event (request.Restart e) = event.Restart e
asked_event (request.Reassign e g) = event.Reassign e g

-- ---- what isn't refused lies in the volume

none_first : {A : Type 0} (a b : Option A) → option_or a b ≡ None → a ≡ None
none_first None b e = refl
none_first (Some x) b e = e

unmapped : {A B : Type 0} (f : A → B) (o : Option A) → option_map f o ≡ None → o ≡ None
unmapped f None e = refl
unmapped f (Some x) e = absurd (none-some (f x) (sym e))

below_cons : (bound n : ℕ) (ns : List ℕ) (t : Bool) → nat_le bound n ≡ t → cond t (Some n) (find (λ k. nat_le bound k) ns) ≡ None
    → (n < bound) × (find (λ k. nat_le bound k) ns ≡ None)
below_cons bound n ns true is e = absurd (none-some n (sym e))
below_cons bound n ns false is e = (leb-false bound n is, e)

below_all : (bound : ℕ) (batch : List Write) → find (λ k. nat_le bound k) (map (λ (w : Write). w.block) batch) ≡ None → AllByRecursion (λ w. w.block < bound) batch
below_all bound [] e = tt
below_all bound (w ∷ batch) e =
    let parts = below_cons bound w.block (map (λ (x : Write). x.block) batch) (nat_le bound w.block) refl e in (parts.0, below_all bound batch parts.1)

serving_inside : (shape : Shape) (events : List Event) (judge : Judge) (requests : List Taken) (v : ℕ) (r : Request) → event_at events v ≡ Some (asked_event r)
    → joins r ≡ true → refusal_serving shape judge requests r ≡ None → IsRequested shape events v r
serving_inside shape events judge requests v (request.Write batch) asked joining none =
    (asked, below_all (blocks shape) batch (unmapped (λ n. refusal.Range n) _ (none_first (range_refusal (blocks shape) (map (λ (w : Write). w.block) batch)) _ none)))
serving_inside shape events judge requests v (request.Read b) asked joining none =
    (asked, (below_cons (blocks shape) b [] (nat_le (blocks shape) b) refl (unmapped (λ n. refusal.Range n) _ (none_first (range_refusal (blocks shape) (b ∷ [])) _ none))).0)
serving_inside shape events judge requests v request.Barrier asked joining none = asked
serving_inside shape events judge requests v (request.Restart e) asked joining none = tt
serving_inside shape events judge requests v (request.Reassign e g) asked joining none = tt

away_joins : (shape : Shape) (events : List Event) (v : ℕ) (r : Request) → joins r ≡ true → refusal_away r ≡ None → IsRequested shape events v r
away_joins shape events v (request.Write batch) joining none = absurd (none-some _ (sym none))
away_joins shape events v (request.Read b) joining none = absurd (none-some _ (sym none))
away_joins shape events v request.Barrier joining none = absurd (none-some _ (sym none))
away_joins shape events v (request.Restart e) joining none = tt
away_joins shape events v (request.Reassign e g) joining none = tt

pub requested : (shape : Shape) (events : List Event) (phase : Phase) (judge : Judge) (requests : List Taken) (v : ℕ) (r : Request) → event_at events v ≡ Some (asked_event r)
    → joins r ≡ true → refusal_of shape phase judge requests r ≡ None → IsRequested shape events v r
requested shape events Serving judge requests v r asked joining none = serving_inside shape events judge requests v r asked joining none
requested shape events Closed judge requests v r asked joining none = away_joins shape events v r joining none
requested shape events (Gathering e) judge requests v r asked joining none = away_joins shape events v r joining none
requested shape events (Fetching e g) judge requests v r asked joining none = away_joins shape events v r joining none
requested shape events (Staged e) judge requests v r asked joining none = away_joins shape events v r joining none

-- ---- its lines

joined_as : (v : ℕ) (r : Request) → joins r ≡ true → joining v (Asks r) ≡ record { event = v; request = r } ∷ []
joined_as v r e = rw e refl

module _ (shape : Shape) (events : List Event) (n : ℕ) (positive : 0 < n) (judge : Judge) (over all : List Taken) (good : AreGood shape events n all)
    (answered : (v : ℕ) → is_among v judge.answered ≡ true → v < n) where
  fair_joined : (r : Request) → IsRequested shape events n r → joins r ≡ true
      → AreFair shape events over (n + 1) judge (barriers_due judge (unended judge all ++ joining n (Asks r)))
  fair_joined r asked joined =
      rw (joined_as n r joined)
      (barriers-fair shape events over (n + 1) judge (unended judge all ++ record { event = n; request = r } ∷ [])
      (good_push shape events n (unended judge all) (record { event = n; request = r }) (good_filter shape events n (λ x. not (has_ended judge x.event)) all good) positive refl asked)
      (λ x among. elim (among_either x (unended judge all) (record { event = n; request = r } ∷ []) among) [
        | inl old ↦ unended_open shape events over n judge all x old
        | inr (inl e) ↦ elim (cases_Bool (is_among x.event judge.answered)) [
          | inl is ↦ (let low = answered x.event is in let same : x.event ≡ n = ap (λ y. y.event) e in absurd (omega arith))
          | inr isnt ↦ isnt
        ]
        | inr (inr m) ↦ absurd m
      ]))

  pub request-fair : (phase : Phase) (r : Request) → event_at events n ≡ Some (asked_event r) → (o : Option RequestRefusal)
      → refusal_of shape phase judge (unended judge all) r ≡ o → AreFair shape events over (n + 1) judge (due_request events judge (unended judge all) n r o)
  unfolding AlongLines
  request-fair phase r asked (Some cause) is = (tt, tt)
  request-fair phase r asked None is =
      cond_both {A = List Line} (joins r) (barriers_due judge (unended judge all ++ joining n (Asks r))) [] (AreFair shape events over (n + 1) judge)
      (λ t. fair_joined r (requested shape events phase judge (unended judge all) n r asked t is) t)
      (λ t. tt)
