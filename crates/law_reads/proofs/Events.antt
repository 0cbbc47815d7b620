-- What a step hands over comes from its event: a message to its party, a lie in a name for which the schedule lies, a crash or
-- a replacement that the schedule names.
use Rattle.std.proofs.Common.{◌≡◌, ◌∙◌, inl, inr, ℕ, ◌+◌, ◌-◌, Bool, true, false, ◌==◌, not, List, [], ◌∷◌, ◌++◌, reverse, Option, Some, refl, sym, ap, subst}
use Rattle.std.specs.Prelude.{IfSome}
use Rattle.std.specs.List.{AllByRecursion, list_any}
use Rattle.std.proofs.lemmas.Bool.{or_parts, eqb-true}
use Rattle.salus_types.specs.declared.names.NodeName.{NodeName}
use Rattle.salus_types.specs.declared.names.Sender.{Sender}
use Rattle.salus_types.specs.declared.names.Sender.TheVariants as sender
use Rattle.schedule_text.specs.declared.schedule.Event.{Event}
use Rattle.schedule_text.specs.declared.schedule.Event.TheVariants as event
use Rattle.merkle_region.specs.Tree.{IsAmong}
use Rattle.volume_model.specs.Groups.{is_client, same_party}
use Rattle.salus_model.specs.declared.trace.Request.TheVariants as request
use Rattle.salus_model.specs.declared.trace.Handed.{Handed}
use Rattle.salus_model.specs.declared.trace.Handed.TheVariants as handed
use Rattle.salus_model.specs.declared.trace.TraceStep.{TraceStep}
use Rattle.salus_model.specs.Following.{Posted, posted_at, hands, is_sent, goes_to_client, sent_by, is_skipped, dropped_after, IsStep, IsOneStep, IsSettling, AreStepsOf, IsEventDone, FollowsFrom}
use Rattle.salus_model.specs.Guarding.{lies_for, is_lied_for, names_replaced}
use Rattle.salus_model.specs.Complete.{names_harmed, is_stop}
use Rattle.list_lemmas.proofs.Each.{all_both}
use Rattle.list_lemmas.proofs.Members.{any_from}
use Rattle.law_lemmas.proofs.Named.{node-itself}
use Rattle.law_reads.proofs.Served.{HandsOwn}

party_itself : (a : Sender) → same_party a a ≡ true
party_itself sender.Client = refl
party_itself (sender.Node name) = node-itself name

-- the message goes to the party
pub record IsTo (posts : List Posted) (k : ℕ) (party : Sender) : Type 0 where
  pub m : Posted
  pub at : posted_at posts k ≡ Some m
  pub to : m.to ≡ party

abbrev pub OfHanded : List Event → List Posted → Sender → Handed → Type 0
OfHanded events posts party (handed.Deliver k) = IsTo posts k party
OfHanded events posts party (handed.Stop k) = IsTo posts k party × (is_client party ≡ false)
OfHanded events posts party (handed.Lie from bytes) = is_lied_for events from ≡ true
OfHanded events posts party handed.Crash = (node : NodeName) × (party ≡ sender.Node node) × (list_any (names_harmed node) events ≡ true)
OfHanded events posts party handed.Replace = (node : NodeName) × (party ≡ sender.Node node) × (list_any (λ e. names_replaced node e) events ≡ true)
OfHanded events posts party (handed.Asked r) = party ≡ sender.Client
OfHanded events posts party handed.ClientCrash = party ≡ sender.Client
OfHanded events posts party handed.Tick = Unit {0}

module _ (all : List Event) (posts : List Posted) where
  abbrev pub Of : TraceStep → Type 0
  Of t = OfHanded all posts t.party t.handed

  of_step : (earlier : List TraceStep) (n : ℕ) (party : Sender) (what : Handed) (t : TraceStep) → OfHanded all posts party what → IsStep posts earlier n party what t → Of t
  of_step earlier n party what t of is =
      subst (λ (w : Handed). OfHanded all posts t.party w) (sym is.hands_it) (subst (λ (p : Sender). OfHanded all posts p what) (sym is.addressed) of)

  of_one : (earlier : List TraceStep) (n : ℕ) (party : Sender) (what : Handed) (steps : List TraceStep) → OfHanded all posts party what → IsOneStep posts earlier n party what steps → AllByRecursion Of steps
  of_one earlier n party what steps of one = subst (AllByRecursion Of) (sym one.only) (of_step earlier n party what one.step of one.is_step, tt)

  of_none : (steps : List TraceStep) → steps ≡ [] → AllByRecursion Of steps
  of_none steps is = subst (AllByRecursion Of) (sym is) tt

  of_settling : (steps : List TraceStep) (dropped : List ℕ) (n count : ℕ) (earlier : List TraceStep) → IsSettling posts dropped n count earlier steps → AllByRecursion Of steps
  unfolding IsSettling
  of_settling [] dropped n count earlier settling = tt
  of_settling (t ∷ steps) dropped n count earlier settling =
      let next = settling.1 in (
        of_step earlier n next.message.to (handed.Deliver next.k) t (record { m = next.message; at = next.known; to = refl }) next.is_step,
        of_settling steps dropped n (count - 1) (t ∷ earlier) settling.2,
      )

  not_to_client : (k : ℕ) (m : Posted) → posted_at posts k ≡ Some m → goes_to_client (posted_at posts k) ≡ false → is_client m.to ≡ false
  not_to_client k m at off = ap goes_to_client (sym at) ∙ off

  of_of : (earlier : List TraceStep) (dropped : List ℕ) (n : ℕ) (e : Event) (steps : List TraceStep) → IsAmong e all → is_skipped posts (sent_by earlier) e ≡ false
      → AreStepsOf posts earlier dropped n e steps → AllByRecursion Of steps
  of_of earlier dropped n (event.Write batch) steps among goes are = of_one earlier n sender.Client (handed.Asked (request.Write batch)) steps refl are
  of_of earlier dropped n (event.Read block) steps among goes are = of_one earlier n sender.Client (handed.Asked (request.Read block)) steps refl are
  of_of earlier dropped n event.Barrier steps among goes are = of_one earlier n sender.Client (handed.Asked request.Barrier) steps refl are
  of_of earlier dropped n (event.Restart session) steps among goes are = of_one earlier n sender.Client (handed.Asked (request.Restart session)) steps refl are
  of_of earlier dropped n (event.Reassign session region) steps among goes are = of_one earlier n sender.Client (handed.Asked (request.Reassign session region)) steps refl are
  of_of earlier dropped n (event.Deliver k) steps among goes are = of_one earlier n are.message.to (handed.Deliver k) steps (record { m = are.message; at = are.known; to = refl }) are.one
  of_of earlier dropped n (event.Stop k calls keep fill) steps among goes are =
      of_one earlier n are.message.to (handed.Stop k) steps
      (record { m = are.message; at = are.known; to = refl }, not_to_client k are.message are.known (or_parts (not (is_sent (sent_by earlier) k)) (goes_to_client (posted_at posts k)) goes).1) are.one
  of_of earlier dropped n (event.Settle count) steps among goes are = of_settling steps dropped n count earlier are
  of_of earlier dropped n (event.Drop k) steps among goes are = of_none steps are
  of_of earlier dropped n (event.Fail node call) steps among goes are = of_none steps are
  of_of earlier dropped n (event.Lie from to bytes) steps among goes are =
      of_one earlier n to (handed.Lie from bytes) steps (any_from (λ e. lies_for from e) (event.Lie from to bytes) all among (party_itself from)) are
  of_of earlier dropped n (event.Crash node keep fill) steps among goes are =
      of_one earlier n (sender.Node node) handed.Crash steps (node, refl, any_from (names_harmed node) (event.Crash node keep fill) all among (node-itself node)) are
  of_of earlier dropped n (event.Replace node) steps among goes are =
      of_one earlier n (sender.Node node) handed.Replace steps (node, refl, any_from (λ e. names_replaced node e) (event.Replace node) all among (node-itself node)) are
  of_of earlier dropped n event.ClientCrash steps among goes are = of_one earlier n sender.Client handed.ClientCrash steps refl are
  of_of earlier dropped n (event.Tick party) steps among goes are = of_one earlier n party handed.Tick steps tt are

  of_done : (skips : Bool) (earlier : List TraceStep) (dropped : List ℕ) (n : ℕ) (e : Event) (steps : List TraceStep) → IsAmong e all → is_skipped posts (sent_by earlier) e ≡ skips
      → IsEventDone skips posts earlier dropped n e steps → AllByRecursion Of steps
  of_done true earlier dropped n e steps among is done = of_none steps done
  of_done false earlier dropped n e steps among is done = of_of earlier dropped n e steps among is done

  pub of_events : (events : List Event) → ((e : Event) → IsAmong e events → IsAmong e all) → (earlier : List TraceStep) (dropped : List ℕ) (n : ℕ) (steps : List TraceStep)
      → FollowsFrom posts earlier dropped n events steps → AllByRecursion Of steps
  unfolding FollowsFrom
  of_events [] within earlier dropped n steps follows = of_none steps follows.0
  of_events (e ∷ events) within earlier dropped n steps follows =
      subst (AllByRecursion Of) (sym follows.2)
      (all_both Of follows.0 follows.1 (of_done (is_skipped posts (sent_by earlier) e) earlier dropped n e follows.0 (within e (inl refl)) refl follows.3)
      (of_events events (λ d among. within d (inr among)) (reverse follows.0 ++ earlier) (dropped_after (sent_by earlier) dropped e) (n + 1) follows.1 follows.4))

-- ---- what follows for a step

one_handed : (posts : List Posted) (party : Sender) (j k : ℕ) → IsTo posts j party → (j == k) ≡ true → IfSome (posted_at posts k) (λ m. m.to ≡ party)
one_handed posts party j k to same =
    subst (λ (n : ℕ). IfSome (posted_at posts n) (λ m. m.to ≡ party)) (eqb-true j k same) (subst (λ (o : Option Posted). IfSome o (λ m. m.to ≡ party)) (sym to.at) to.to)

own_handed : (events : List Event) (posts : List Posted) (party : Sender) (what : Handed) → OfHanded events posts party what → (k : ℕ) → hands k what ≡ true → IfSome (posted_at posts k) (λ m. m.to ≡ party)
own_handed events posts party (handed.Deliver j) of k hit = one_handed posts party j k of hit
own_handed events posts party (handed.Stop j) of k hit = one_handed posts party j k of.0 hit
own_handed events posts party (handed.Asked r) of k hit = absurd (cc)
own_handed events posts party (handed.Lie from bytes) of k hit = absurd (cc)
own_handed events posts party handed.Tick of k hit = absurd (cc)
own_handed events posts party handed.Crash of k hit = absurd (cc)
own_handed events posts party handed.Replace of k hit = absurd (cc)
own_handed events posts party handed.ClientCrash of k hit = absurd (cc)

-- what a step hands over goes to its party
pub hands_own : (events : List Event) (posts : List Posted) (t : TraceStep) → OfHanded events posts t.party t.handed → HandsOwn posts t
hands_own events posts t of = own_handed events posts t.party t.handed of

-- no stop hands a message to the client
pub runs_for : (events : List Event) (posts : List Posted) (party : Sender) (what : Handed) → OfHanded events posts party what → is_client party ≡ true → is_stop what ≡ false
runs_for events posts party (handed.Stop k) of mine = absurd (true_false (sym mine ∙ of.1)) where
  true_false : true ≡ false → ⊥
  true_false e = cc
runs_for events posts party (handed.Deliver j) of mine = refl
runs_for events posts party (handed.Asked r) of mine = refl
runs_for events posts party (handed.Lie from bytes) of mine = refl
runs_for events posts party handed.Tick of mine = refl
runs_for events posts party handed.Crash of mine = refl
runs_for events posts party handed.Replace of mine = refl
runs_for events posts party handed.ClientCrash of mine = refl
