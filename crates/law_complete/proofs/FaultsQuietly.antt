-- Quiet runs: no one is lied for, and every server is sound.
use Rattle.std.proofs.Common.{◌≡◌, ◌∙◌, ℕ, ◌+◌, ◌-◌, ◌&&◌, not, Bool, true, false, List, [], ◌∷◌, ◌++◌, reverse, refl, sym, ap, ap₂, subst}
use Rattle.std.specs.List.{AllByRecursion, list_any, list_all}
use Rattle.std.proofs.lemmas.Bool.{true≢false}
use Rattle.salus_types.specs.declared.names.NodeName.{NodeName}
use Rattle.salus_types.specs.declared.names.Sender.{Sender}
use Rattle.salus_types.specs.declared.names.Sender.TheVariants as sender
use Rattle.schedule_text.specs.declared.schedule.Event.{Event}
use Rattle.schedule_text.specs.declared.schedule.Event.TheVariants as event
use Rattle.volume_model.specs.Groups.{same_party}
use Rattle.salus_model.specs.declared.trace.Request.TheVariants as request
use Rattle.salus_model.specs.declared.trace.Handed.{Handed}
use Rattle.salus_model.specs.declared.trace.Handed.TheVariants as handed
use Rattle.salus_model.specs.declared.trace.TraceStep.{TraceStep}
use Rattle.salus_model.specs.Following.{Posted, sent_by, is_skipped, dropped_after, IsOneStep, IsSettling, AreStepsOf, IsEventDone, FollowsFrom, Follows}
use Rattle.salus_model.specs.Guarding.{lies_for, is_lied_for, names_replaced}
use Rattle.salus_model.specs.Complete.{names_harmed, is_stop, IsSound}
use Rattle.salus_model.specs.Quiet.{is_quiet}
use Rattle.list_lemmas.proofs.Each.{all_both, all_then}
use Rattle.list_lemmas.proofs.Tests.{and_left, and_right}
use Rattle.law_reads.proofs.Relay.{both_false}

-- ---- events

none_any : {A : Type 0} (test : A → Bool) (xs : List A) → AllByRecursion (λ x. test x ≡ false) xs → list_any test xs ≡ false
none_any test [] all = refl
none_any test (x ∷ xs) all = both_false (test x) (list_any test xs) all.0 (none_any test xs all.1)

none_quiet : (test : Event → Bool) → ((e : Event) → is_quiet e ≡ true → test e ≡ false) → (events : List Event) → list_all is_quiet events ≡ true → list_any test events ≡ false
none_quiet test fails [] quiet = refl
none_quiet test fails (e ∷ events) quiet =
    both_false (test e) (list_any test events) (fails e (and_left (is_quiet e) (list_all is_quiet events) quiet)) (none_quiet test fails events (and_right (is_quiet e) (list_all is_quiet events) quiet))

quiet_lie : (who : Sender) (e : Event) → is_quiet e ≡ true → lies_for who e ≡ false
quiet_lie who (event.Lie from to bytes) quiet = absurd (true≢false (sym quiet))
quiet_lie who other quiet = refl

quiet_replaced : (name : NodeName) (e : Event) → is_quiet e ≡ true → names_replaced name e ≡ false
quiet_replaced name (event.Replace node) quiet = absurd (true≢false (sym quiet))
quiet_replaced name other quiet = refl

quiet_harmed : (name : NodeName) (e : Event) → is_quiet e ≡ true → names_harmed name e ≡ false
quiet_harmed name (event.Crash node keep fill) quiet = absurd (true≢false (sym quiet))
quiet_harmed name (event.Fail node call) quiet = absurd (true≢false (sym quiet))
quiet_harmed name other quiet = refl

-- ---- no step stops a node

abbrev pub IsUnstopped : TraceStep → Type 0
IsUnstopped t = is_stop t.handed ≡ false

module _ (posts : List Posted) where
  unstopped_one : (earlier : List TraceStep) (n : ℕ) (party : Sender) (what : Handed) (steps : List TraceStep) → is_stop what ≡ false → IsOneStep posts earlier n party what steps → AllByRecursion IsUnstopped steps
  unstopped_one earlier n party what steps runs one = subst (AllByRecursion IsUnstopped) (sym one.only) (ap is_stop one.is_step.hands_it ∙ runs, tt)

  unstopped_settling : (steps : List TraceStep) (dropped : List ℕ) (n count : ℕ) (earlier : List TraceStep) → IsSettling posts dropped n count earlier steps → AllByRecursion IsUnstopped steps
  unfolding IsSettling
  unstopped_settling [] dropped n count earlier settling = tt
  unstopped_settling (t ∷ steps) dropped n count earlier settling = (ap is_stop settling.1.is_step.hands_it, unstopped_settling steps dropped n (count - 1) (t ∷ earlier) settling.2)

  unstopped_none : (steps : List TraceStep) → steps ≡ [] → AllByRecursion IsUnstopped steps
  unstopped_none steps none = subst (AllByRecursion IsUnstopped) (sym none) tt

  unstopped_of : (earlier : List TraceStep) (dropped : List ℕ) (n : ℕ) (e : Event) (steps : List TraceStep) → is_quiet e ≡ true → AreStepsOf posts earlier dropped n e steps → AllByRecursion IsUnstopped steps
  unstopped_of earlier dropped n (event.Write batch) steps quiet are = unstopped_one earlier n sender.Client (handed.Asked (request.Write batch)) steps refl are
  unstopped_of earlier dropped n (event.Read block) steps quiet are = unstopped_one earlier n sender.Client (handed.Asked (request.Read block)) steps refl are
  unstopped_of earlier dropped n event.Barrier steps quiet are = unstopped_one earlier n sender.Client (handed.Asked request.Barrier) steps refl are
  unstopped_of earlier dropped n (event.Restart session) steps quiet are = unstopped_one earlier n sender.Client (handed.Asked (request.Restart session)) steps refl are
  unstopped_of earlier dropped n (event.Reassign session region) steps quiet are = unstopped_one earlier n sender.Client (handed.Asked (request.Reassign session region)) steps refl are
  unstopped_of earlier dropped n (event.Deliver k) steps quiet are = unstopped_one earlier n are.message.to (handed.Deliver k) steps refl are.one
  unstopped_of earlier dropped n (event.Stop k calls keep fill) steps quiet are = absurd (true≢false (sym quiet))
  unstopped_of earlier dropped n (event.Settle count) steps quiet are = unstopped_settling steps dropped n count earlier are
  unstopped_of earlier dropped n (event.Drop k) steps quiet are = unstopped_none steps are
  unstopped_of earlier dropped n (event.Fail node call) steps quiet are = unstopped_none steps are
  unstopped_of earlier dropped n (event.Lie from to bytes) steps quiet are = unstopped_one earlier n to (handed.Lie from bytes) steps refl are
  unstopped_of earlier dropped n (event.Crash node keep fill) steps quiet are = unstopped_one earlier n (sender.Node node) handed.Crash steps refl are
  unstopped_of earlier dropped n (event.Replace node) steps quiet are = unstopped_one earlier n (sender.Node node) handed.Replace steps refl are
  unstopped_of earlier dropped n event.ClientCrash steps quiet are = unstopped_one earlier n sender.Client handed.ClientCrash steps refl are
  unstopped_of earlier dropped n (event.Tick party) steps quiet are = unstopped_one earlier n party handed.Tick steps refl are

  unstopped_done : (skips : Bool) (earlier : List TraceStep) (dropped : List ℕ) (n : ℕ) (e : Event) (steps : List TraceStep) → is_quiet e ≡ true → IsEventDone skips posts earlier dropped n e steps
      → AllByRecursion IsUnstopped steps
  unstopped_done true earlier dropped n e steps quiet done = unstopped_none steps done
  unstopped_done false earlier dropped n e steps quiet done = unstopped_of earlier dropped n e steps quiet done

  pub unstopped_from : (events : List Event) (earlier : List TraceStep) (dropped : List ℕ) (n : ℕ) (steps : List TraceStep) → list_all is_quiet events ≡ true → FollowsFrom posts earlier dropped n events steps
      → AllByRecursion IsUnstopped steps
  unfolding FollowsFrom
  unstopped_from [] earlier dropped n steps quiet follows = unstopped_none steps follows.0
  unstopped_from (e ∷ events) earlier dropped n steps quiet follows =
      subst (AllByRecursion IsUnstopped) (sym follows.2)
      (all_both IsUnstopped follows.0 follows.1
      (unstopped_done (is_skipped posts (sent_by earlier) e) earlier dropped n e follows.0 (and_left (is_quiet e) (list_all is_quiet events) quiet) follows.3)
      (unstopped_from events (reverse follows.0 ++ earlier) (dropped_after (sent_by earlier) dropped e) (n + 1) follows.1 (and_right (is_quiet e) (list_all is_quiet events) quiet) follows.4))

-- ---- every node is sound

module _ (events : List Event) (quiet : list_all is_quiet events ≡ true) where
  pub none_lied : (who : Sender) → is_lied_for events who ≡ false
  none_lied who = none_quiet (lies_for who) (quiet_lie who) events quiet

  pub quiet_sound : (posts : List Posted) (trace : List TraceStep) → Follows events posts trace → (name : NodeName) → IsSound events trace name
  quiet_sound posts trace follows name = record {
    right = ap₂ (λ (a b : Bool). not a && not b) (none_lied (sender.Node name)) (none_quiet (names_replaced name) (quiet_replaced name) events quiet);
    unharmed = none_quiet (names_harmed name) (quiet_harmed name) events quiet;
    unstopped = none_any (λ (step : TraceStep). is_stop step.handed && same_party step.party (sender.Node name)) trace
        (all_then IsUnstopped (λ (t : TraceStep). (is_stop t.handed && same_party t.party (sender.Node name)) ≡ false) (λ t runs. ap (λ (b : Bool). b && same_party t.party (sender.Node name)) runs) trace
        (unstopped_from posts events [] [] 1 trace quiet follows));
  }
