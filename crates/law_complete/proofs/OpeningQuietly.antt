-- Quiet runs: every server is sound, every node counts, and no step replaces or stops one.
use Rattle.std.proofs.Common.{◌≡◌, ◌∙◌, ℕ, ◌+◌, ◌-◌, ◌<◌, ◌&&◌, ◌||◌, not, Bool, true, false, List, [], ◌∷◌, ◌++◌, reverse, refl, sym, ap, ap₂, subst, arith}
use Rattle.std.specs.List.{AllByRecursion, list_any, list_all}
use Rattle.std.proofs.lemmas.Bool.{true≢false}
use Rattle.salus_types.specs.declared.names.NodeName.{NodeName}
use Rattle.salus_types.specs.declared.names.Sender.{Sender}
use Rattle.salus_types.specs.declared.names.Sender.TheVariants as sender
use Rattle.schedule_text.specs.declared.schedule.Event.{Event}
use Rattle.schedule_text.specs.declared.schedule.Event.TheVariants as event
use Rattle.schedule_text.specs.declared.schedule.Volume.{Volume}
use Rattle.volume_model.specs.Contents.{all_regions}
use Rattle.volume_model.specs.Groups.{same_party, group_of}
use Rattle.salus_model.specs.declared.trace.Request.TheVariants as request
use Rattle.salus_model.specs.declared.trace.Handed.{Handed}
use Rattle.salus_model.specs.declared.trace.Handed.TheVariants as handed
use Rattle.salus_model.specs.declared.trace.TraceStep.{TraceStep}
use Rattle.salus_model.specs.Following.{Posted, sent_by, is_skipped, dropped_after, IsOneStep, IsSettling, AreStepsOf, IsEventDone, FollowsFrom, Follows}
use Rattle.salus_model.specs.Guarding.{lies_for, is_lied_for, names_replaced, is_replacement, replaces, has_opened, counts, all_guarded, GuardedThroughout, Guarded}
use Rattle.salus_model.specs.Hearing.{Past, since}
use Rattle.salus_model.specs.Due.{past_of, history_from}
use Rattle.salus_model.specs.Complete.{names_harmed, is_stop, IsSound}
use Rattle.salus_model.specs.Quiet.{is_quiet}
use Rattle.list_lemmas.proofs.Each.{all_both, all_then}
use Rattle.list_lemmas.proofs.Members.{among_map-in, among_range-in, any_from}
use Rattle.list_lemmas.proofs.Tests.{and_left, and_right}
use Rattle.law_records.proofs.Counted.{all_members}
use Rattle.law_reads.proofs.Relay.{both_false}
use Rattle.law_reads.proofs.Events.{OfHanded, Of, of_events}

-- ---- events

none_any : {A : Type 0} (test : A → Bool) (xs : List A) → AllByRecursion (λ x. test x ≡ false) xs → list_any test xs ≡ false
none_any test [] all = refl
none_any test (x ∷ xs) all = both_false (test x) (list_any test xs) all.0 (none_any test xs all.1)

none_quiet : (test : Event → Bool) → ((e : Event) → is_quiet e ≡ true → test e ≡ false) → (events : List Event) → list_all is_quiet events ≡ true → list_any test events ≡ false
none_quiet test fails [] quiet = refl
none_quiet test fails (e ∷ events) quiet =
    both_false (test e) (list_any test events) (fails e (and_left (is_quiet e) (list_all is_quiet events) quiet)) (none_quiet test fails events (and_right (is_quiet e) (list_all is_quiet events) quiet))

quiet_lie : (who : Sender) (e : Event) → is_quiet e ≡ true → lies_for who e ≡ false
quiet_lie who (event.Lie from to bytes) quiet = absurd (true≢false (sym quiet))
quiet_lie who other quiet = refl

quiet_replaced : (name : NodeName) (e : Event) → is_quiet e ≡ true → names_replaced name e ≡ false
quiet_replaced name (event.Replace node) quiet = absurd (true≢false (sym quiet))
quiet_replaced name other quiet = refl

quiet_harmed : (name : NodeName) (e : Event) → is_quiet e ≡ true → names_harmed name e ≡ false
quiet_harmed name (event.Crash node keep fill) quiet = absurd (true≢false (sym quiet))
quiet_harmed name (event.Fail node call) quiet = absurd (true≢false (sym quiet))
quiet_harmed name other quiet = refl

-- ---- no step stops a node

abbrev pub IsUnstopped : TraceStep → Type 0
IsUnstopped t = is_stop t.handed ≡ false

module _ (posts : List Posted) where
  unstopped_one : (earlier : List TraceStep) (n : ℕ) (party : Sender) (what : Handed) (steps : List TraceStep) → is_stop what ≡ false → IsOneStep posts earlier n party what steps → AllByRecursion IsUnstopped steps
  unstopped_one earlier n party what steps runs one = subst (AllByRecursion IsUnstopped) (sym one.only) (ap is_stop one.is_step.hands_it ∙ runs, tt)

  unstopped_settling : (steps : List TraceStep) (dropped : List ℕ) (n count : ℕ) (earlier : List TraceStep) → IsSettling posts dropped n count earlier steps → AllByRecursion IsUnstopped steps
  unfolding IsSettling
  unstopped_settling [] dropped n count earlier settling = tt
  unstopped_settling (t ∷ steps) dropped n count earlier settling = (ap is_stop settling.1.is_step.hands_it, unstopped_settling steps dropped n (count - 1) (t ∷ earlier) settling.2)

  unstopped_none : (steps : List TraceStep) → steps ≡ [] → AllByRecursion IsUnstopped steps
  unstopped_none steps none = subst (AllByRecursion IsUnstopped) (sym none) tt

  unstopped_of : (earlier : List TraceStep) (dropped : List ℕ) (n : ℕ) (e : Event) (steps : List TraceStep) → is_quiet e ≡ true → AreStepsOf posts earlier dropped n e steps → AllByRecursion IsUnstopped steps
  unstopped_of earlier dropped n (event.Write batch) steps quiet are = unstopped_one earlier n sender.Client (handed.Asked (request.Write batch)) steps refl are
  unstopped_of earlier dropped n (event.Read block) steps quiet are = unstopped_one earlier n sender.Client (handed.Asked (request.Read block)) steps refl are
  unstopped_of earlier dropped n event.Barrier steps quiet are = unstopped_one earlier n sender.Client (handed.Asked request.Barrier) steps refl are
  unstopped_of earlier dropped n (event.Restart session) steps quiet are = unstopped_one earlier n sender.Client (handed.Asked (request.Restart session)) steps refl are
  unstopped_of earlier dropped n (event.Reassign session region) steps quiet are = unstopped_one earlier n sender.Client (handed.Asked (request.Reassign session region)) steps refl are
  unstopped_of earlier dropped n (event.Deliver k) steps quiet are = unstopped_one earlier n are.message.to (handed.Deliver k) steps refl are.one
  unstopped_of earlier dropped n (event.Stop k calls keep fill) steps quiet are = absurd (true≢false (sym quiet))
  unstopped_of earlier dropped n (event.Settle count) steps quiet are = unstopped_settling steps dropped n count earlier are
  unstopped_of earlier dropped n (event.Drop k) steps quiet are = unstopped_none steps are
  unstopped_of earlier dropped n (event.Fail node call) steps quiet are = unstopped_none steps are
  unstopped_of earlier dropped n (event.Lie from to bytes) steps quiet are = unstopped_one earlier n to (handed.Lie from bytes) steps refl are
  unstopped_of earlier dropped n (event.Crash node keep fill) steps quiet are = unstopped_one earlier n (sender.Node node) handed.Crash steps refl are
  unstopped_of earlier dropped n (event.Replace node) steps quiet are = unstopped_one earlier n (sender.Node node) handed.Replace steps refl are
  unstopped_of earlier dropped n event.ClientCrash steps quiet are = unstopped_one earlier n sender.Client handed.ClientCrash steps refl are
  unstopped_of earlier dropped n (event.Tick party) steps quiet are = unstopped_one earlier n party handed.Tick steps refl are

  unstopped_done : (skips : Bool) (earlier : List TraceStep) (dropped : List ℕ) (n : ℕ) (e : Event) (steps : List TraceStep) → is_quiet e ≡ true → IsEventDone skips posts earlier dropped n e steps
      → AllByRecursion IsUnstopped steps
  unstopped_done true earlier dropped n e steps quiet done = unstopped_none steps done
  unstopped_done false earlier dropped n e steps quiet done = unstopped_of earlier dropped n e steps quiet done

  pub unstopped_from : (events : List Event) (earlier : List TraceStep) (dropped : List ℕ) (n : ℕ) (steps : List TraceStep) → list_all is_quiet events ≡ true → FollowsFrom posts earlier dropped n events steps
      → AllByRecursion IsUnstopped steps
  unfolding FollowsFrom
  unstopped_from [] earlier dropped n steps quiet follows = unstopped_none steps follows.0
  unstopped_from (e ∷ events) earlier dropped n steps quiet follows =
      subst (AllByRecursion IsUnstopped) (sym follows.2)
      (all_both IsUnstopped follows.0 follows.1
      (unstopped_done (is_skipped posts (sent_by earlier) e) earlier dropped n e follows.0 (and_left (is_quiet e) (list_all is_quiet events) quiet) follows.3)
      (unstopped_from events (reverse follows.0 ++ earlier) (dropped_after (sent_by earlier) dropped e) (n + 1) follows.1 (and_right (is_quiet e) (list_all is_quiet events) quiet) follows.4))

-- ---- every node counts

abbrev pub IsUnreplaced : Past → Type 0
IsUnreplaced p = is_replacement p.step.handed ≡ false

module _ (events : List Event) (quiet : list_all is_quiet events ≡ true) where
  pub none_lied : (who : Sender) → is_lied_for events who ≡ false
  none_lied who = none_quiet (lies_for who) (quiet_lie who) events quiet

  unreplaced_by : (posts : List Posted) (party : Sender) (what : Handed) → OfHanded events posts party what → is_replacement what ≡ false
  unreplaced_by posts party handed.Replace of = absurd (true≢false (sym of.2 ∙ none_quiet (names_replaced of.0) (quiet_replaced of.0) events quiet))
  unreplaced_by posts party (handed.Asked r) of = refl
  unreplaced_by posts party (handed.Deliver k) of = refl
  unreplaced_by posts party (handed.Stop k) of = refl
  unreplaced_by posts party (handed.Lie from bytes) of = refl
  unreplaced_by posts party handed.Tick of = refl
  unreplaced_by posts party handed.Crash of = refl
  unreplaced_by posts party handed.ClientCrash of = refl

  pub unreplaced_step : (posts : List Posted) (t : TraceStep) → Of events posts t → is_replacement t.handed ≡ false
  unreplaced_step posts t of = unreplaced_by posts t.party t.handed of

  pub quiet_sound : (posts : List Posted) (trace : List TraceStep) → Follows events posts trace → (name : NodeName) → IsSound events trace name
  quiet_sound posts trace follows name = record {
    right = ap₂ (λ (a b : Bool). not a && not b) (none_lied (sender.Node name)) (none_quiet (names_replaced name) (quiet_replaced name) events quiet);
    unharmed = none_quiet (names_harmed name) (quiet_harmed name) events quiet;
    unstopped = none_any (λ (step : TraceStep). is_stop step.handed && same_party step.party (sender.Node name)) trace
        (all_then IsUnstopped (λ (t : TraceStep). (is_stop t.handed && same_party t.party (sender.Node name)) ≡ false) (λ t runs. ap (λ (b : Bool). b && same_party t.party (sender.Node name)) runs) trace
        (unstopped_from posts events [] [] 1 trace quiet follows));
  }

  pub counts_quiet : (history : List Past) → AllByRecursion IsUnreplaced history → (name : NodeName) → counts events history name ≡ true
  unfolding counts
  counts_quiet history all name =
      ap₂ (λ (a b : Bool). not a && (not b || has_opened (since (λ p. replaces name p) history))) (none_lied (sender.Node name))
      (none_any (λ p. replaces name p) history
      (all_then IsUnreplaced (λ (p : Past). replaces name p ≡ false) (λ p stays. ap (λ (b : Bool). b && same_party p.step.party (sender.Node name)) stays) history all))

  module _ (volume : Volume) (many : 0 < volume.geometry.replicas) where
    guarded_here : (history : List Past) → AllByRecursion IsUnreplaced history → all_guarded volume.geometry events history ≡ true
    guarded_here history all =
        all_members (λ g. list_any (λ name. counts events history name) (group_of volume.geometry g)) (all_regions volume.geometry)
        (λ g among. any_from (λ name. counts events history name) (record { region = g; replica = 0 }) (group_of volume.geometry g)
        (among_map-in (λ (r : ℕ). record { region = g; replica = r }) _ 0 (among_range-in volume.geometry.replicas 0 0 (omega arith) (omega (arith, many))))
        (counts_quiet history all (record { region = g; replica = 0 })))

    guarded_through : (history : List Past) → AllByRecursion IsUnreplaced history → GuardedThroughout volume.geometry events history
    unfolding GuardedThroughout
    guarded_through [] all = guarded_here [] all
    guarded_through (p ∷ history) all = (guarded_here (p ∷ history) all, guarded_through history all.1)

    history_unreplaced : (posts : List Posted) (steps : List TraceStep) (history : List Past) → AllByRecursion IsUnreplaced history → AllByRecursion (Of events posts) steps
        → AllByRecursion IsUnreplaced (history_from volume events posts history steps)
    unfolding history_from
    history_unreplaced posts [] history all of = all
    history_unreplaced posts (t ∷ steps) history all of = history_unreplaced posts steps (past_of volume events posts history t ∷ history) (unreplaced_step posts t of.0, all) of.1

    pub quiet_guarded : (posts : List Posted) (trace : List TraceStep) → Follows events posts trace → Guarded volume events posts trace
    quiet_guarded posts trace follows = record {
      client = none_lied sender.Client;
      groups = guarded_through (history_from volume events posts [] trace) (history_unreplaced posts trace [] tt (of_events events posts events (λ e among. among) [] [] 1 trace follows));
    }
