-- Where a schedule asks to open no session, no step of its trace does.
use Rattle.std.proofs.Common.{◌≡◌, ◌⊎◌, ℕ, ◌+◌, false, List, [], ◌∷◌, ◌++◌, reverse, inl, inr, refl, ap, subst, ◌∙◌}
use Rattle.std.specs.Prelude.{option_to_list}
use Rattle.merkle_region.specs.Tree.{IsAmong}
use Rattle.merkle_region.proofs.Membership.{among_either}
use Rattle.schedule_text.specs.Grammar.{session_of, sessions_of}
use Rattle.schedule_text.specs.declared.schedule.Event.{Event}
use Rattle.schedule_text.specs.declared.schedule.Event.TheVariants as event
use Rattle.salus_model.specs.declared.trace.Request.{Request}
use Rattle.salus_model.specs.declared.trace.Request.TheVariants as request
use Rattle.salus_model.specs.declared.trace.TraceStep.{TraceStep}
use Rattle.salus_model.specs.Following.{Posted, sent_by, is_skipped, dropped_after, FollowsFrom}
use Rattle.salus_model.specs.Hearing.{News, Asks, Says, Crashes, Silence, news_of, asks_to_open}
use Rattle.law_lemmas.proofs.Quiet.{IsQuiet}
use Rattle.law_lines.specs.Scheduled.{SessionsRise}
use Rattle.law_history.proofs.Asked.{asked_event}
use Rattle.law_history.proofs.Events.{ArePlain, IsAskedStep, done_steps}

none_before : (xs ys : List ℕ) → xs ++ ys ≡ [] → xs ≡ []
none_before [] ys none = refl
none_before (x ∷ xs) ys none = absurd (cc)

none_behind : (xs ys : List ℕ) → xs ++ ys ≡ [] → ys ≡ []
none_behind [] ys none = none
none_behind (x ∷ xs) ys none = absurd (cc)

quiet_opens : (x : News) → IsQuiet x → asks_to_open x ≡ false
quiet_opens (Asks r) quiet = absurd quiet
quiet_opens (Says name m) quiet = refl
quiet_opens Crashes quiet = refl
quiet_opens Silence quiet = refl

asked_opens : (r : Request) → option_to_list (session_of (asked_event r)) ≡ [] → asks_to_open (Asks r) ≡ false
asked_opens (request.Write batch) none = refl
asked_opens (request.Read b) none = refl
asked_opens request.Barrier none = refl
asked_opens (request.Restart e) none = absurd (cc)
asked_opens (request.Reassign e g) none = absurd (cc)

module _ (posts : List Posted) where
  event_opens : (n : ℕ) (e : Event) (here : List TraceStep) → option_to_list (session_of e) ≡ [] → IsAskedStep posts n e here ⊎ ArePlain posts n here
      → (t : TraceStep) → IsAmong t here → asks_to_open (news_of posts t) ≡ false
  event_opens n e here none (inl asked) t among = elim (subst (IsAmong t) asked.only among) [
    | inl same ↦
        ap (λ x. asks_to_open (news_of posts x)) same ∙ (ap asks_to_open asked.news ∙ asked_opens asked.r (subst (λ x. option_to_list (session_of x) ≡ []) asked.of none))
    | inr nowhere ↦ absurd nowhere
  ]
  event_opens n e here none (inr plain) t among = quiet_opens (news_of posts t) (plain t among).1

  pub none_opens : (es : List Event) (earlier : List TraceStep) (dropped : List ℕ) (n : ℕ) (steps : List TraceStep) → sessions_of es ≡ [] → FollowsFrom posts earlier dropped n es steps
      → (t : TraceStep) → IsAmong t steps → asks_to_open (news_of posts t) ≡ false
  unfolding FollowsFrom
  none_opens [] earlier dropped n steps none follows t among = absurd (subst (IsAmong t) follows.0 among)
  none_opens (e ∷ es) earlier dropped n steps none follows t among =
      elim (among_either t follows.0 follows.1 (subst (IsAmong t) follows.2 among)) [
        | inl here ↦
            event_opens n e follows.0 (none_before (option_to_list (session_of e)) (sessions_of es) none)
            (done_steps posts (is_skipped posts (sent_by earlier) e) earlier dropped n e follows.0 follows.3) t here
        | inr later ↦
            none_opens es (reverse follows.0 ++ earlier) (dropped_after (sent_by earlier) dropped e) (n + 1) follows.1 (none_behind (option_to_list (session_of e)) (sessions_of es) none) follows.4 t later
      ]

-- none rise
pub none_rise : (es : List Event) (m : ℕ) → sessions_of es ≡ [] → SessionsRise m es
unfolding SessionsRise
none_rise [] m none = tt
none_rise (event.Restart e ∷ es) m none = absurd (cc)
none_rise (event.Reassign e g ∷ es) m none = absurd (cc)
none_rise (event.Write batch ∷ es) m none = none_rise es m none
none_rise (event.Read block ∷ es) m none = none_rise es m none
none_rise (event.Barrier ∷ es) m none = none_rise es m none
none_rise (event.Deliver k ∷ es) m none = none_rise es m none
none_rise (event.Settle count ∷ es) m none = none_rise es m none
none_rise (event.Drop k ∷ es) m none = none_rise es m none
none_rise (event.Lie from to bytes ∷ es) m none = none_rise es m none
none_rise (event.Stop k calls keep fill ∷ es) m none = none_rise es m none
none_rise (event.Crash node keep fill ∷ es) m none = none_rise es m none
none_rise (event.Fail node call ∷ es) m none = none_rise es m none
none_rise (event.Replace node ∷ es) m none = none_rise es m none
none_rise (event.ClientCrash ∷ es) m none = none_rise es m none
none_rise (event.Tick party ∷ es) m none = none_rise es m none
