-- In a trace that follows its schedule a message is sent before it is handed over.
use Rattle.std.proofs.Common.{◌≡◌, ℕ, ◌+◌, ◌-◌, ◌<◌, ◌≤◌, ◌∙◌, Bool, true, false, ◌==◌, not, nat_lt, nat_le, List, [], ◌∷◌, ◌++◌, reverse, Some, refl, ap, sym, subst, arith, append_assoc}
use Rattle.std.specs.List.{range_with_len}
use Rattle.std.proofs.lemmas.Bool.{and_parts, or_parts, ltb-true, leb-true, eqb-true, not-false, false≢true}
use Rattle.std.proofs.lemmas.List.{reverse-append}
use Rattle.salus_types.specs.declared.names.Sender.{Sender}
use Rattle.salus_types.specs.declared.names.Sender.TheVariants as sender
use Rattle.schedule_text.specs.declared.schedule.Event.{Event}
use Rattle.schedule_text.specs.declared.schedule.Event.TheVariants as event
use Rattle.salus_model.specs.declared.trace.Request.TheVariants as request
use Rattle.salus_model.specs.declared.trace.Handed.{Handed}
use Rattle.salus_model.specs.declared.trace.Handed.TheVariants as handed
use Rattle.salus_model.specs.declared.trace.TraceStep.{TraceStep}
use Rattle.salus_model.specs.Following.{Posted, posted_at, is_sent, goes_to_client, sent_by, hands, is_waiting, next_waiting, is_skipped, dropped_after, AddsOwn, IsStep, IsOneStep, IsSettling, AreStepsOf, IsEventDone, FollowsFrom}
use Rattle.list_lemmas.proofs.Members.{find_among, among_range}

-- a step that adds its own messages, and hands over one of those sent before
pub record IsWellSent (posts : List Posted) (earlier : List TraceStep) (t : TraceStep) : Type 0 where
  pub more : sent_by earlier ≤ t.sent
  pub own : AddsOwn posts (sent_by earlier) t
  pub before : (k : ℕ) → hands k t.handed ≡ true → (0 < k) × (k ≤ sent_by earlier)

unfoldable pub AreWellSent : List Posted → List TraceStep → List TraceStep → Type 0
AreWellSent posts earlier [] = Unit {0}
AreWellSent posts earlier (t ∷ steps) = IsWellSent posts earlier t × AreWellSent posts (t ∷ earlier) steps

module _ (posts : List Posted) where
  well_append : (here rest earlier : List TraceStep) → AreWellSent posts earlier here → AreWellSent posts (reverse here ++ earlier) rest → AreWellSent posts earlier (here ++ rest)
  unfolding AreWellSent
  well_append [] rest earlier front back = back
  well_append (t ∷ here) rest earlier front back =
      let same : reverse (t ∷ here) ++ earlier ≡ reverse here ++ (t ∷ earlier) =
      ap (λ l. l ++ earlier) (reverse-append (t ∷ []) here) ∙ append_assoc (reverse here) (t ∷ []) earlier in
      (front.0, well_append here rest (t ∷ earlier) front.1 (subst (λ l. AreWellSent posts l rest) same back))

  abbrev Before : List TraceStep → Handed → Type 0
  Before earlier what = (k : ℕ) → hands k what ≡ true → (0 < k) × (k ≤ sent_by earlier)

  well_step : (earlier : List TraceStep) (n : ℕ) (party : Sender) (what : Handed) (t : TraceStep) → Before earlier what → IsStep posts earlier n party what t → IsWellSent posts earlier t
  well_step earlier n party what t before is = record {
    more = is.more;
    own = is.own;
    before = subst (Before earlier) (sym is.hands_it) before;
  }

  well_one : (earlier : List TraceStep) (n : ℕ) (party : Sender) (what : Handed) (steps : List TraceStep) → Before earlier what → IsOneStep posts earlier n party what steps
      → AreWellSent posts earlier steps
  unfolding AreWellSent
  well_one earlier n party what steps before one =
      subst (AreWellSent posts earlier) (sym one.only) (well_step earlier n party what one.step before one.is_step, tt)

  -- nothing is handed over but by a delivery or a stop
  none_handed : (earlier : List TraceStep) (what : Handed) → ((k : ℕ) → hands k what ≡ false) → Before earlier what
  none_handed earlier what none = λ k is. absurd (false≢true (sym (none k) ∙ is))

  number_before : (earlier : List TraceStep) (k : ℕ) → is_sent (sent_by earlier) k ≡ true → (0 < k) × (k ≤ sent_by earlier)
  number_before earlier k sent =
      let parts = and_parts (nat_lt 0 k) (nat_le k (sent_by earlier)) sent in (ltb-true 0 k parts.0, leb-true k (sent_by earlier) parts.1)

  -- what hands over k alone
  before_of : (earlier : List TraceStep) (k : ℕ) → (0 < k) × (k ≤ sent_by earlier) → (j : ℕ) → (k == j) ≡ true → (0 < j) × (j ≤ sent_by earlier)
  before_of earlier k low j same = subst (λ i. (0 < i) × (i ≤ sent_by earlier)) (eqb-true k j same) low

  next_before : (earlier : List TraceStep) (dropped : List ℕ) (k : ℕ) → next_waiting earlier dropped ≡ Some k → (0 < k) × (k ≤ sent_by earlier)
  next_before earlier dropped k next =
      let from = find_among (λ i. is_waiting earlier dropped i) k (range_with_len 1 (sent_by earlier)) next in
      let range = among_range (sent_by earlier) 1 k from.0 in
      (omega arith, omega arith)

  well_settling : (steps : List TraceStep) (dropped : List ℕ) (n count : ℕ) (earlier : List TraceStep) → IsSettling posts dropped n count earlier steps → AreWellSent posts earlier steps
  unfolding IsSettling AreWellSent
  well_settling [] dropped n count earlier settling = tt
  well_settling (t ∷ steps) dropped n count earlier settling =
      let next = settling.1 in (
        well_step earlier n next.message.to (handed.Deliver next.k) t (λ j same. before_of earlier next.k (next_before earlier dropped next.k next.lowest) j same) next.is_step,
        well_settling steps dropped n (count - 1) (t ∷ earlier) settling.2,
      )

  well_none : (earlier steps : List TraceStep) → steps ≡ [] → AreWellSent posts earlier steps
  unfolding AreWellSent
  well_none earlier steps e = subst (AreWellSent posts earlier) (sym e) tt

  well_of : (earlier : List TraceStep) (dropped : List ℕ) (n : ℕ) (e : Event) (steps : List TraceStep) → is_skipped posts (sent_by earlier) e ≡ false
      → AreStepsOf posts earlier dropped n e steps → AreWellSent posts earlier steps
  well_of earlier dropped n (event.Write batch) steps goes are = well_one earlier n sender.Client _ steps (none_handed earlier (handed.Asked (request.Write batch)) (λ k. refl)) are
  well_of earlier dropped n (event.Read block) steps goes are = well_one earlier n sender.Client _ steps (none_handed earlier (handed.Asked (request.Read block)) (λ k. refl)) are
  well_of earlier dropped n event.Barrier steps goes are = well_one earlier n sender.Client _ steps (none_handed earlier (handed.Asked request.Barrier) (λ k. refl)) are
  well_of earlier dropped n (event.Restart session) steps goes are = well_one earlier n sender.Client _ steps (none_handed earlier (handed.Asked (request.Restart session)) (λ k. refl)) are
  well_of earlier dropped n (event.Reassign session region) steps goes are =
      well_one earlier n sender.Client _ steps (none_handed earlier (handed.Asked (request.Reassign session region)) (λ k. refl)) are
  well_of earlier dropped n (event.Deliver k) steps goes are =
      well_one earlier n are.message.to (handed.Deliver k) steps (λ j same. before_of earlier k (number_before earlier k (not-false (is_sent (sent_by earlier) k) goes)) j same) are.one
  well_of earlier dropped n (event.Stop k calls keep fill) steps goes are =
      let sent = not-false (is_sent (sent_by earlier) k) (or_parts (not (is_sent (sent_by earlier) k)) (goes_to_client (posted_at posts k)) goes).0 in
      well_one earlier n are.message.to (handed.Stop k) steps (λ j same. before_of earlier k (number_before earlier k sent) j same) are.one
  well_of earlier dropped n (event.Settle count) steps goes are = well_settling steps dropped n count earlier are
  well_of earlier dropped n (event.Drop k) steps goes are = well_none earlier steps are
  well_of earlier dropped n (event.Fail node call) steps goes are = well_none earlier steps are
  well_of earlier dropped n (event.Lie from to bytes) steps goes are = well_one earlier n to (handed.Lie from bytes) steps (none_handed earlier (handed.Lie from bytes) (λ k. refl)) are
  well_of earlier dropped n (event.Crash node keep fill) steps goes are = well_one earlier n (sender.Node node) handed.Crash steps (none_handed earlier handed.Crash (λ k. refl)) are
  well_of earlier dropped n (event.Replace node) steps goes are = well_one earlier n (sender.Node node) handed.Replace steps (none_handed earlier handed.Replace (λ k. refl)) are
  well_of earlier dropped n event.ClientCrash steps goes are = well_one earlier n sender.Client handed.ClientCrash steps (none_handed earlier handed.ClientCrash (λ k. refl)) are
  well_of earlier dropped n (event.Tick party) steps goes are = well_one earlier n party handed.Tick steps (none_handed earlier handed.Tick (λ k. refl)) are

  well_done : (skips : Bool) (earlier : List TraceStep) (dropped : List ℕ) (n : ℕ) (e : Event) (steps : List TraceStep) → is_skipped posts (sent_by earlier) e ≡ skips
      → IsEventDone skips posts earlier dropped n e steps → AreWellSent posts earlier steps
  well_done true earlier dropped n e steps is done = well_none earlier steps done
  well_done false earlier dropped n e steps is done = well_of earlier dropped n e steps is done

  pub well_sent : (events : List Event) (earlier : List TraceStep) (dropped : List ℕ) (n : ℕ) (steps : List TraceStep) → FollowsFrom posts earlier dropped n events steps
      → AreWellSent posts earlier steps
  unfolding FollowsFrom
  well_sent [] earlier dropped n steps follows = well_none earlier steps follows.0
  well_sent (e ∷ events) earlier dropped n steps follows =
      subst (AreWellSent posts earlier) (sym follows.2)
      (well_append follows.0 follows.1 earlier (well_done (is_skipped posts (sent_by earlier) e) earlier dropped n e follows.0 refl follows.3)
      (well_sent events (reverse follows.0 ++ earlier) (dropped_after (sent_by earlier) dropped e) (n + 1) follows.1 follows.4))
