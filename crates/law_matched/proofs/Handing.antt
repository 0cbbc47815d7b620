-- In a trace that follows its schedule, what is handed over was sent before, or is a lie of the schedule.
use Rattle.std.proofs.Common.{◌≡◌, inl, inr, ℕ, ◌+◌, ◌-◌, ◌==◌, Bool, true, false, List, [], ◌∷◌, ◌++◌, reverse, refl, sym, subst}
use Rattle.std.specs.List.{AllByRecursion}
use Rattle.std.proofs.lemmas.Bool.{eq-eqb}
use Rattle.salus_types.specs.declared.names.Sender.{Sender}
use Rattle.salus_types.specs.declared.names.Sender.TheVariants as sender
use Rattle.schedule_text.specs.declared.schedule.Event.{Event}
use Rattle.schedule_text.specs.declared.schedule.Event.TheVariants as event
use Rattle.merkle_region.specs.Tree.{IsAmong}
use Rattle.salus_model.specs.declared.trace.Request.TheVariants as request
use Rattle.salus_model.specs.declared.trace.Handed.{Handed}
use Rattle.salus_model.specs.declared.trace.Handed.TheVariants as handed
use Rattle.salus_model.specs.declared.trace.TraceStep.{TraceStep}
use Rattle.salus_model.specs.Following.{Posted, sent_by, hands, is_skipped, dropped_after, IsOneStep, IsSettling, AreStepsOf, IsEventDone, FollowsFrom, Follows}
use Rattle.salus_model.specs.Guarding.{lies_for, is_lied_for}
use Rattle.volume_model.specs.Groups.{same_party}
use Rattle.list_lemmas.proofs.Each.{all_both}
use Rattle.list_lemmas.proofs.Members.{any_from}
use Rattle.law_lemmas.proofs.WellSent.{IsWellSent, AreWellSent, well_sent}
use Rattle.law_refined.proofs.Listed.{and_both}
use Rattle.law_matched.specs.Silent.{IsHandedRight, AreHandedRight}

-- a lie that is handed over is one of the schedule
abbrev IsListed : List Event → Handed → Type 0
IsListed all (handed.Lie from bytes) = is_lied_for all from ≡ true
IsListed all (handed.Asked r) = Unit {0}
IsListed all (handed.Deliver k) = Unit {0}
IsListed all (handed.Stop k) = Unit {0}
IsListed all handed.Tick = Unit {0}
IsListed all handed.Crash = Unit {0}
IsListed all handed.Replace = Unit {0}
IsListed all handed.ClientCrash = Unit {0}

abbrev AllListed : List Event → List TraceStep → Type 0
AllListed all steps = AllByRecursion (λ t. IsListed all t.handed) steps

own_party : (who : Sender) → same_party who who ≡ true
own_party sender.Client = refl
own_party (sender.Node n) = and_both (n.region == n.region) (n.replica == n.replica) (eq-eqb n.region n.region refl) (eq-eqb n.replica n.replica refl)

module _ (posts : List Posted) (all : List Event) where
  listed_one : (earlier : List TraceStep) (n : ℕ) (party : Sender) (what : Handed) (steps : List TraceStep) → IsListed all what → IsOneStep posts earlier n party what steps → AllListed all steps
  listed_one earlier n party what steps listed one =
      subst (AllListed all) (sym one.only) (subst (IsListed all) (sym one.is_step.hands_it) listed, tt)

  listed_settling : (steps : List TraceStep) (dropped : List ℕ) (n count : ℕ) (earlier : List TraceStep) → IsSettling posts dropped n count earlier steps → AllListed all steps
  unfolding IsSettling
  listed_settling [] dropped n count earlier settling = tt
  listed_settling (t ∷ steps) dropped n count earlier settling =
      (subst (IsListed all) (sym settling.1.is_step.hands_it) tt, listed_settling steps dropped n (count - 1) (t ∷ earlier) settling.2)

  listed_none : (steps : List TraceStep) → steps ≡ [] → AllListed all steps
  listed_none steps none = subst (AllListed all) (sym none) tt

  listed_of : (earlier : List TraceStep) (dropped : List ℕ) (n : ℕ) (e : Event) (steps : List TraceStep) → IsAmong e all → AreStepsOf posts earlier dropped n e steps → AllListed all steps
  listed_of earlier dropped n (event.Write batch) steps among are = listed_one earlier n sender.Client (handed.Asked (request.Write batch)) steps tt are
  listed_of earlier dropped n (event.Read block) steps among are = listed_one earlier n sender.Client (handed.Asked (request.Read block)) steps tt are
  listed_of earlier dropped n event.Barrier steps among are = listed_one earlier n sender.Client (handed.Asked request.Barrier) steps tt are
  listed_of earlier dropped n (event.Restart session) steps among are = listed_one earlier n sender.Client (handed.Asked (request.Restart session)) steps tt are
  listed_of earlier dropped n (event.Reassign session region) steps among are = listed_one earlier n sender.Client (handed.Asked (request.Reassign session region)) steps tt are
  listed_of earlier dropped n (event.Deliver k) steps among are = listed_one earlier n are.message.to (handed.Deliver k) steps tt are.one
  listed_of earlier dropped n (event.Stop k calls keep fill) steps among are = listed_one earlier n are.message.to (handed.Stop k) steps tt are.one
  listed_of earlier dropped n (event.Settle count) steps among are = listed_settling steps dropped n count earlier are
  listed_of earlier dropped n (event.Drop k) steps among are = listed_none steps are
  listed_of earlier dropped n (event.Fail node call) steps among are = listed_none steps are
  listed_of earlier dropped n (event.Lie from to bytes) steps among are =
      listed_one earlier n to (handed.Lie from bytes) steps (any_from (λ e. lies_for from e) (event.Lie from to bytes) all among (own_party from)) are
  listed_of earlier dropped n (event.Crash node keep fill) steps among are = listed_one earlier n (sender.Node node) handed.Crash steps tt are
  listed_of earlier dropped n (event.Replace node) steps among are = listed_one earlier n (sender.Node node) handed.Replace steps tt are
  listed_of earlier dropped n event.ClientCrash steps among are = listed_one earlier n sender.Client handed.ClientCrash steps tt are
  listed_of earlier dropped n (event.Tick party) steps among are = listed_one earlier n party handed.Tick steps tt are

  listed_done : (skips : Bool) (earlier : List TraceStep) (dropped : List ℕ) (n : ℕ) (e : Event) (steps : List TraceStep) → IsAmong e all → IsEventDone skips posts earlier dropped n e steps → AllListed all steps
  listed_done true earlier dropped n e steps among done = listed_none steps done
  listed_done false earlier dropped n e steps among done = listed_of earlier dropped n e steps among done

  listed_from : (events : List Event) (earlier : List TraceStep) (dropped : List ℕ) (n : ℕ) (steps : List TraceStep) → ((e : Event) → IsAmong e events → IsAmong e all) → FollowsFrom posts earlier dropped n events steps
      → AllListed all steps
  unfolding FollowsFrom
  listed_from [] earlier dropped n steps inside follows = listed_none steps follows.0
  listed_from (e ∷ events) earlier dropped n steps inside follows =
      subst (AllListed all) (sym follows.2)
      (all_both (λ t. IsListed all t.handed) follows.0 follows.1 (listed_done (is_skipped posts (sent_by earlier) e) earlier dropped n e follows.0 (inside e (inl refl)) follows.3)
      (listed_from events (reverse follows.0 ++ earlier) (dropped_after (sent_by earlier) dropped e) (n + 1) follows.1 (λ k among. inside k (inr among)) follows.4))

  right_of : (earlier : List TraceStep) (t : TraceStep) → IsWellSent posts earlier t → IsListed all t.handed → (what : Handed) → t.handed ≡ what → IsHandedRight all (sent_by earlier) what
  right_of earlier t well listed (handed.Deliver k) is = well.before k (subst (λ (h : Handed). hands k h ≡ true) (sym is) (eq-eqb k k refl))
  right_of earlier t well listed (handed.Stop k) is = well.before k (subst (λ (h : Handed). hands k h ≡ true) (sym is) (eq-eqb k k refl))
  right_of earlier t well listed (handed.Lie from bytes) is = subst (IsListed all) is listed
  right_of earlier t well listed handed.Tick is = tt
  right_of earlier t well listed handed.Crash is = tt
  right_of earlier t well listed handed.Replace is = tt
  right_of earlier t well listed (handed.Asked r) is = tt
  right_of earlier t well listed handed.ClientCrash is = tt

  right_from : (earlier steps : List TraceStep) → AreWellSent posts earlier steps → AllListed all steps → AreHandedRight all earlier steps
  unfolding AreWellSent AreHandedRight
  right_from earlier [] well listed = tt
  right_from earlier (t ∷ steps) well listed = (right_of earlier t well.0 listed.0 t.handed refl, right_from (t ∷ earlier) steps well.1 listed.1)

pub handed_right : (events : List Event) (posts : List Posted) (trace : List TraceStep) → Follows events posts trace → AreHandedRight events [] trace
handed_right events posts trace follows =
    right_from posts events [] trace (well_sent posts events [] [] 1 trace follows) (listed_from posts events events [] [] 1 trace (λ e among. among) follows)
