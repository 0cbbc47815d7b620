-- Where a sound server always has room, a message that was handed over was taken; so reads end once everything was handed over.
use Rattle.std.proofs.Common.{◌≡◌, ◌∙◌, inl, inr, ℕ, ◌&&◌, ◌||◌, not, Bool, true, false, List, [], ◌∷◌, ◌++◌, reverse, Option, None, Some, refl, sym, ap, ap₂, subst, append_assoc}
use Rattle.std.specs.Prelude.{IfSome}
use Rattle.std.specs.List.{AllByRecursion}
use Rattle.std.proofs.lemmas.Bool.{false≢true, eqb-true}
use Rattle.std.proofs.lemmas.List.{reverse-append, reverse-reverse}
use Rattle.std.proofs.lemmas.Option.{same_Some}
use Rattle.salus_types.specs.declared.names.NodeName.{NodeName}
use Rattle.salus_types.specs.declared.names.Sender.{Sender}
use Rattle.salus_types.specs.declared.names.Sender.TheVariants as sender
use Rattle.schedule_text.specs.Limits.{IsWithinLimits}
use Rattle.schedule_text.specs.declared.schedule.Volume.{Volume}
use Rattle.schedule_text.specs.declared.schedule.Event.{Event}
use Rattle.merkle_region.specs.Tree.{IsAmong}
use Rattle.volume_model.specs.Groups.{is_client, same_node, same_party}
use Rattle.salus_model.specs.declared.trace.Handed.{Handed}
use Rattle.salus_model.specs.declared.trace.Handed.TheVariants as handed
use Rattle.salus_model.specs.declared.trace.TraceStep.{TraceStep}
use Rattle.salus_model.specs.Complete.{Rooms, is_between, was_taken, AllTaken, ReadsBesideLies}
use Rattle.salus_model.specs.Following.{Posted, posted_at, hands, Follows}
use Rattle.salus_model.specs.Forgery.{NoForgery}
use Rattle.salus_model.specs.Guarding.{Guarded}
use Rattle.salus_model.specs.Seen.{NoCollision}
use Rattle.run_rules.specs.Calm.{Calm}
use Rattle.run_rules.specs.Rooms.{finds_no_room, rooms_of}
use Rattle.run_rules.specs.Run.{IsByRules, formatted_first}
use Rattle.run_rules.specs.Running.{formatted}
use Rattle.list_lemmas.proofs.Members.{among_all}
use Rattle.list_lemmas.proofs.Tests.{by_bool, or_true}
use Rattle.law_lemmas.proofs.Named.{one-node}
use Rattle.law_reads.proofs.Events.{OfHanded, Of, of_events}
use Rattle.law_complete.specs.Room.{AlwaysHasRoom}
use Rattle.law_complete.proofs.RoomsLaw.{guarded_room}
use Rattle.law_served.proofs.Law.{reads_end}

-- no step finds no room
abbrev pub ample : Rooms
ample earlier step = false

-- the message that a step hands over goes to the step's party
to_party : (events : List Event) (posts : List Posted) (k : ℕ) (m : Posted) → posted_at posts k ≡ Some m → (party : Sender) (what : Handed) → OfHanded events posts party what → hands k what ≡ true → m.to ≡ party
to_party events posts k m at party (handed.Deliver j) of hit =
    ap (λ (p : Posted). p.to) (same_Some m of.m (sym at ∙ (ap (posted_at posts) (sym (eqb-true j k hit)) ∙ of.at))) ∙ of.to
to_party events posts k m at party (handed.Stop j) of hit =
    ap (λ (p : Posted). p.to) (same_Some m of.0.m (sym at ∙ (ap (posted_at posts) (sym (eqb-true j k hit)) ∙ of.0.at))) ∙ of.0.to
to_party events posts k m at party (handed.Asked r) of hit = absurd (false≢true hit)
to_party events posts k m at party (handed.Lie from bytes) of hit = absurd (false≢true hit)
to_party events posts k m at party handed.Tick of hit = absurd (false≢true hit)
to_party events posts k m at party handed.Crash of hit = absurd (false≢true hit)
to_party events posts k m at party handed.Replace of hit = absurd (false≢true hit)
to_party events posts k m at party handed.ClientCrash of hit = absurd (false≢true hit)

-- a message between the client and the server that goes to a server goes to that one
between_to : (name : NodeName) (from : Sender) (other : NodeName) → ((is_client from && same_party (sender.Node other) (sender.Node name)) || (same_party from (sender.Node name) && false)) ≡ true → other ≡ name
between_to name sender.Client other between = one-node other name (by_bool (same_node other name) (same_node other name ≡ true) (λ hit. hit) (λ miss. absurd (false≢true (sym (ap (λ (b : Bool). b || false) miss) ∙ between))))
between_to name (sender.Node n) other between = by_bool (same_node n name) (other ≡ name) (λ hit. absurd (false≢true (sym (ap (λ (b : Bool). b && false) hit) ∙ between))) (λ miss. absurd (false≢true (sym (ap (λ (b : Bool). b && false) miss) ∙ between)))

module _ (volume : Volume) (events : List Event) (posts : List Posted) (trace : List TraceStep) (name : NodeName) (room : AlwaysHasRoom volume posts trace name) (of : AllByRecursion (Of events posts) trace) where
  abbrev rooms : Rooms
  rooms = rooms_of volume.geometry posts (formatted volume)

  module _ (k : ℕ) (m : Posted) (at : posted_at posts k ≡ Some m) (between : is_between name m ≡ true) where
    -- a step of the trace that hands it over has room
    roomy_by : (l rest : List TraceStep) (t : TraceStep) → trace ≡ reverse l ++ t ∷ rest → (who : Sender) → t.party ≡ who → m.to ≡ who → finds_no_room volume.geometry posts (formatted volume) l t.party t.handed ≡ false
    roomy_by l rest t whole sender.Client party to = ap (λ (p : Sender). finds_no_room volume.geometry posts (formatted volume) l p t.handed) party
    roomy_by l rest t whole (sender.Node other) party to =
        let same : other ≡ name = between_to name m.from other (sym (ap (λ (s : Sender). (is_client m.from && same_party s (sender.Node name)) || (same_party m.from (sender.Node name) && is_client s)) to) ∙ between) in
        subst (λ (e : List TraceStep). finds_no_room volume.geometry posts (formatted volume) e t.party t.handed ≡ false) (reverse-reverse l)
        (room (reverse l) rest t whole (party ∙ ap (λ (n : NodeName). sender.Node n) same))

    among_trace : (front rest : List TraceStep) (t : TraceStep) → IsAmong t (front ++ t ∷ rest)
    among_trace [] rest t = inl refl
    among_trace (u ∷ front) rest t = inr (among_trace front rest t)

    turned : (l rest : List TraceStep) (t : TraceStep) → trace ≡ reverse (t ∷ l) ++ rest → trace ≡ reverse l ++ t ∷ rest
    turned l rest t whole = whole ∙ (ap (λ (e : List TraceStep). e ++ rest) (reverse-append (t ∷ []) l) ∙ append_assoc (reverse l) (t ∷ []) rest)

    taken_too : (l rest : List TraceStep) → trace ≡ reverse l ++ rest → was_taken ample l k ≡ true → was_taken rooms l k ≡ true
    unfolding was_taken
    taken_too [] rest whole taken = absurd (false≢true taken)
    taken_too (t ∷ l) rest whole taken =
        let split : trace ≡ reverse l ++ t ∷ rest = turned l rest t whole in
        by_bool (hands k t.handed) (was_taken rooms (t ∷ l) k ≡ true)
        (λ hit.
        let given : OfHanded events posts t.party t.handed = among_all (Of events posts) trace t (subst (λ (e : List TraceStep). IsAmong t e) (sym split) (among_trace (reverse l) rest t)) of in
        ap₂ (λ (a b : Bool). (a && not b) || was_taken rooms l k) hit (roomy_by l rest t split t.party refl (to_party events posts k m at t.party t.handed given hit)))
        (λ miss.
        let before : was_taken ample l k ≡ true = sym (ap (λ (b : Bool). (b && true) || was_taken ample l k) miss) ∙ taken in
        ap (λ (b : Bool). (hands k t.handed && not (rooms l t)) || b) (taken_too l (t ∷ rest) split before) ∙ or_true (hands k t.handed && not (rooms l t)))

  pub taken_roomy : (done rest : List TraceStep) → trace ≡ done ++ rest → AllTaken posts ample done name → AllTaken posts rooms done name
  taken_roomy done rest whole taken k = by_post (posted_at posts k) refl where
    by_post : (o : Option Posted) → posted_at posts k ≡ o → IfSome o (λ m. is_between name m ≡ true → was_taken rooms (reverse done) k ≡ true)
    by_post None at = tt
    by_post (Some m) at = λ between.
        taken_too k m at between (reverse done) rest (whole ∙ ap (λ (e : List TraceStep). e ++ rest) (sym (reverse-reverse done)))
        ((subst (λ (o : Option Posted). IfSome o (λ p. is_between name p ≡ true → was_taken ample (reverse done) k ≡ true)) at (taken k)) between)

-- THE LAW, of reads where each group always has a node that counts.
pub reads_with_room : (volume : Volume) (events : List Event) (posts : List Posted) (trace : List TraceStep) → IsWithinLimits (record { volume = volume; events = events })
    → Follows events posts trace → NoCollision volume events posts trace → NoForgery volume events posts trace → Calm events trace → IsByRules volume (formatted_first volume) posts trace
    → Guarded volume events posts trace → ReadsBesideLies volume events posts (λ earlier step. false) trace
reads_with_room volume events posts trace limits follows apart unforged calm by guarded unlied done rest whole v b name member sound taken asked =
    reads_end volume events posts trace limits follows apart unforged calm by unlied done rest whole v b name member sound
    (taken_roomy volume events posts trace name (guarded_room volume events posts trace limits follows apart unforged calm by guarded name sound) (of_events events posts events (λ e among. among) [] [] 1 trace follows) done rest whole taken)
    asked
