-- What a trace that follows a schedule in its limits hands over, step by step.
use Rattle.std.proofs.Common.{◌≡◌, ℕ, ◌+◌, ◌-◌, ◌^◌, ◌<◌, ◌≤◌, Bool, true, false, List, [], ◌∷◌, ◌++◌, length, Some, refl, sym, subst, arith}
use Rattle.std.specs.Prelude.{reverse, flat_map}
use Rattle.std.specs.List.{AllByRecursion}
use Rattle.salus_types.specs.Volume.{Shape}
use Rattle.salus_types.specs.declared.names.Sender.{Sender}
use Rattle.salus_types.specs.declared.names.Sender.TheVariants as sender
use Rattle.salus_types.specs.declared.records.Write.{Write}
use Rattle.schedule_text.specs.Grammar.{pair_values}
use Rattle.schedule_text.specs.Limits.{IsPartyOfVolume, IsWithin, IsEventWithin}
use Rattle.schedule_text.specs.declared.schedule.Event.{Event}
use Rattle.schedule_text.specs.declared.schedule.Event.TheVariants as event
use Rattle.volume_model.specs.Contents.{Batch}
use Rattle.salus_model.specs.declared.trace.Handed.{Handed}
use Rattle.salus_model.specs.declared.trace.Handed.TheVariants as handed
use Rattle.salus_model.specs.declared.trace.Request.TheVariants as request
use Rattle.salus_model.specs.declared.trace.TraceStep.{TraceStep}
use Rattle.salus_model.specs.Following.{Posted, posted_at, is_skipped, dropped_after, sent_by, IsStep, IsOneStep, IsSettling, AreStepsOf, IsEventDone, FollowsFrom, Follows}
use Rattle.law_ranged.proofs.Sized.{BatchSized}
use Rattle.law_ranged.proofs.Bounded.{RequestFits}

front : {A B : Type 0} → A × B → A
front p = p.0

back : {A B : Type 0} → A × B → B
back p = p.1

module _ (shape : Shape) (posts : List Posted) where
  -- message k goes to that party
  pub record IsReceiver (k : ℕ) (party : Sender) : Type 0 where
    pub message : Posted
    pub known : posted_at posts k ≡ Some message
    pub is : party ≡ message.to

  -- a request comes at an event from b on, below 2^32; what else is handed over keeps to the volume
  abbrev pub HandsWithin : ℕ → ℕ → Sender → Handed → Type 0
  HandsWithin b v party (handed.Asked r) = (party ≡ sender.Client) × (b ≤ v) × (v < 2 ^ 32) × RequestFits shape r
  HandsWithin b v party (handed.Deliver k) = IsReceiver k party
  HandsWithin b v party (handed.Stop k) = IsReceiver k party
  HandsWithin b v party (handed.Lie from bytes) = IsPartyOfVolume shape from × IsPartyOfVolume shape party × AllByRecursion (λ x. x < 256) bytes
  HandsWithin b v party other = IsPartyOfVolume shape party

  -- the next event at which may be asked
  abbrev pub bound_after : ℕ → ℕ → Handed → ℕ
  bound_after b v (handed.Asked r) = v + 1
  bound_after b v other = b

  unfoldable pub AllWithin : ℕ → List TraceStep → Type 0
  AllWithin b [] = Unit {0}
  AllWithin b (t ∷ steps) = HandsWithin b t.event t.party t.handed × AllWithin (bound_after b t.event t.handed) steps

  step_within : (earlier : List TraceStep) (n b : ℕ) (party : Sender) (what : Handed) (t : TraceStep) (rest : List TraceStep) → IsStep posts earlier n party what t
      → HandsWithin b n party what → AllWithin (bound_after b n what) rest → AllWithin b (t ∷ rest)
  unfolding AllWithin
  step_within earlier n b party what t rest is here more = (
    subst (λ (v : ℕ). HandsWithin b v t.party t.handed) (sym is.number)
        (subst (λ (p : Sender). HandsWithin b n p t.handed) (sym is.addressed) (subst (λ (h : Handed). HandsWithin b n party h) (sym is.hands_it) here)),
    subst (λ (v : ℕ). AllWithin (bound_after b v t.handed) rest) (sym is.number) (subst (λ (h : Handed). AllWithin (bound_after b n h) rest) (sym is.hands_it) more),
  )

  one_within : (earlier : List TraceStep) (n b : ℕ) (party : Sender) (what : Handed) (here rest : List TraceStep) → IsOneStep posts earlier n party what here
      → HandsWithin b n party what → AllWithin (bound_after b n what) rest → AllWithin b (here ++ rest)
  one_within earlier n b party what here rest one fits more =
      subst (λ (l : List TraceStep). AllWithin b (l ++ rest)) (sym one.only) (step_within earlier n b party what one.step rest one.is_step fits more)

  none_within : (b : ℕ) (here rest : List TraceStep) → here ≡ [] → AllWithin b rest → AllWithin b (here ++ rest)
  none_within b here rest none more = subst (λ (l : List TraceStep). AllWithin b (l ++ rest)) (sym none) more

  settled_within : (here : List TraceStep) (dropped : List ℕ) (n b count : ℕ) (earlier rest : List TraceStep) → IsSettling posts dropped n count earlier here → AllWithin b rest → AllWithin b (here ++ rest)
  unfolding IsSettling
  settled_within [] dropped n b count earlier rest settling more = more
  settled_within (t ∷ here) dropped n b count earlier rest settling more =
      let next = settling.1 in
      step_within earlier n b next.message.to (handed.Deliver next.k) t (here ++ rest) next.is_step (record { message = next.message; known = next.known; is = refl })
      (settled_within here dropped n b (count - 1) (t ∷ earlier) rest settling.2 more)

  batch_sized : (batch : Batch) → AllByRecursion (IsWithin shape) (flat_map pair_values batch) → BatchSized shape batch
  batch_sized [] all = tt
  batch_sized (w ∷ batch) all = (front (back all), batch_sized batch (back (back all)))

  -- the steps of an event, and those behind it
  event_within : (e : Event) (earlier : List TraceStep) (dropped : List ℕ) (n b : ℕ) (here rest : List TraceStep) → b ≤ n → n < 2 ^ 32 → IsEventWithin shape e
      → AreStepsOf posts earlier dropped n e here → ((c : ℕ) → c ≤ n + 1 → AllWithin c rest) → AllWithin b (here ++ rest)
  event_within (event.Write batch) earlier dropped n b here rest up low fits done after =
      one_within earlier n b sender.Client (handed.Asked (request.Write batch)) here rest done (refl, up, low, (back (back fits), batch_sized batch (front fits))) (after (n + 1) (omega arith))
  event_within (event.Read block) earlier dropped n b here rest up low fits done after =
      one_within earlier n b sender.Client (handed.Asked (request.Read block)) here rest done (refl, up, low, tt) (after (n + 1) (omega arith))
  event_within event.Barrier earlier dropped n b here rest up low fits done after =
      one_within earlier n b sender.Client (handed.Asked request.Barrier) here rest done (refl, up, low, tt) (after (n + 1) (omega arith))
  event_within (event.Restart e) earlier dropped n b here rest up low fits done after =
      one_within earlier n b sender.Client (handed.Asked (request.Restart e)) here rest done (refl, up, low, front (front fits)) (after (n + 1) (omega arith))
  event_within (event.Reassign e g) earlier dropped n b here rest up low fits done after =
      one_within earlier n b sender.Client (handed.Asked (request.Reassign e g)) here rest done (refl, up, low, front (front fits)) (after (n + 1) (omega arith))
  event_within (event.Deliver k) earlier dropped n b here rest up low fits done after =
      one_within earlier n b done.message.to (handed.Deliver k) here rest done.one (record { message = done.message; known = done.known; is = refl }) (after b (omega (arith, up)))
  event_within (event.Stop k calls keep fill) earlier dropped n b here rest up low fits done after =
      one_within earlier n b done.message.to (handed.Stop k) here rest done.one (record { message = done.message; known = done.known; is = refl }) (after b (omega (arith, up)))
  event_within (event.Settle count) earlier dropped n b here rest up low fits done after = settled_within here dropped n b count earlier rest done (after b (omega (arith, up)))
  event_within (event.Drop k) earlier dropped n b here rest up low fits done after = none_within b here rest done (after b (omega (arith, up)))
  event_within (event.Fail node call) earlier dropped n b here rest up low fits done after = none_within b here rest done (after b (omega (arith, up)))
  event_within (event.Lie from to bytes) earlier dropped n b here rest up low fits done after =
      one_within earlier n b to (handed.Lie from bytes) here rest done (front (front fits), front (back (front fits)), front (back (back (front fits)))) (after b (omega (arith, up)))
  event_within (event.Crash node keep fill) earlier dropped n b here rest up low fits done after = one_within earlier n b (sender.Node node) handed.Crash here rest done (front (front fits)) (after b (omega (arith, up)))
  event_within (event.Replace node) earlier dropped n b here rest up low fits done after = one_within earlier n b (sender.Node node) handed.Replace here rest done (front (front fits)) (after b (omega (arith, up)))
  event_within event.ClientCrash earlier dropped n b here rest up low fits done after = one_within earlier n b sender.Client handed.ClientCrash here rest done tt (after b (omega (arith, up)))
  event_within (event.Tick party) earlier dropped n b here rest up low fits done after = one_within earlier n b party handed.Tick here rest done (front (front fits)) (after b (omega (arith, up)))

  done_within : (skips : Bool) (e : Event) (earlier : List TraceStep) (dropped : List ℕ) (n b : ℕ) (here rest : List TraceStep) → b ≤ n → n < 2 ^ 32 → IsEventWithin shape e
      → IsEventDone skips posts earlier dropped n e here → ((c : ℕ) → c ≤ n + 1 → AllWithin c rest) → AllWithin b (here ++ rest)
  done_within true e earlier dropped n b here rest up low fits done after = none_within b here rest done (after b (omega (arith, up)))
  done_within false e earlier dropped n b here rest up low fits done after = event_within e earlier dropped n b here rest up low fits done after

  no_steps : (b : ℕ) → AllWithin b []
  unfolding AllWithin
  no_steps b = tt

  events_within : (events : List Event) (earlier : List TraceStep) (dropped : List ℕ) (n b : ℕ) (steps : List TraceStep) → b ≤ n → n + length events < 2 ^ 32 → AllByRecursion (IsEventWithin shape) events
      → FollowsFrom posts earlier dropped n events steps → AllWithin b steps
  unfolding FollowsFrom
  events_within [] earlier dropped n b steps up few all follows = subst (AllWithin b) (sym follows.0) (no_steps b)
  events_within (e ∷ events) earlier dropped n b steps up few all follows =
      subst (AllWithin b) (sym follows.2)
      (done_within (is_skipped posts (sent_by earlier) e) e earlier dropped n b follows.0 follows.1 up (omega (arith, few)) all.0 follows.3
      (λ c low. events_within events (reverse follows.0 ++ earlier) (dropped_after (sent_by earlier) dropped e) (n + 1) c follows.1 low (omega (arith, few)) all.1 follows.4))

  pub schedule_within : (events : List Event) (trace : List TraceStep) → length events ≤ 65536 → AllByRecursion (IsEventWithin shape) events → Follows events posts trace → AllWithin 1 trace
  schedule_within events trace few all follows = events_within events [] [] 1 1 trace (omega arith) (omega (arith, few)) all follows
