-- The steps of an event: one that hands a request to the client, or steps that ask for nothing.
use Rattle.std.proofs.Common.{◌≡◌, ◌⊎◌, ℕ, ◌+◌, ◌-◌, ◌≤◌, ◌∙◌, Bool, true, false, if◌then◌else◌, List, [], ◌∷◌, ◌++◌, reverse, inl, inr, refl, ap, sym, subst, arith, append_assoc}
use Rattle.std.proofs.lemmas.List.{reverse-append}
use Rattle.salus_types.specs.declared.names.Sender.{Sender}
use Rattle.salus_types.specs.declared.names.Sender.TheVariants as sender
use Rattle.merkle_region.specs.Tree.{IsAmong}
use Rattle.merkle_region.proofs.Membership.{among_either}
use Rattle.schedule_text.specs.declared.schedule.Event.{Event}
use Rattle.schedule_text.specs.declared.schedule.Event.TheVariants as event
use Rattle.salus_model.specs.declared.trace.Request.{Request}
use Rattle.salus_model.specs.declared.trace.Request.TheVariants as request
use Rattle.salus_model.specs.declared.trace.Handed.{Handed}
use Rattle.salus_model.specs.declared.trace.Handed.TheVariants as handed
use Rattle.salus_model.specs.declared.trace.TraceStep.{TraceStep}
use Rattle.salus_model.specs.Following.{Posted, posted_at, sent_by, is_skipped, IsStep, IsOneStep, IsSettling, AreStepsOf, IsEventDone, dropped_after, FollowsFrom}
use Rattle.volume_model.specs.Groups.{is_client}
use Rattle.salus_model.specs.Hearing.{Asks, Silence, news_in, news_of}
use Rattle.law_lemmas.proofs.Quiet.{IsQuiet, quiet_from, quiet_post, quiet_if}
use Rattle.law_history.proofs.Asked.{asked_event}

module _ (posts : List Posted) where
  -- steps of event n that ask for nothing
  abbrev pub ArePlain : ℕ → List TraceStep → Type 0
  ArePlain n steps = (t : TraceStep) → IsAmong t steps → (t.event ≡ n) × IsQuiet (news_of posts t)

  -- the step of a request
  pub record IsAskedStep (n : ℕ) (e : Event) (steps : List TraceStep) : Type 0 where
    pub r : Request
    pub of : e ≡ asked_event r
    pub step : TraceStep
    pub only : steps ≡ step ∷ []
    pub number : step.event ≡ n
    pub news : news_of posts step ≡ Asks r

  plain_step : (earlier : List TraceStep) (n : ℕ) (party : Sender) (what : Handed) (t : TraceStep) → IsQuiet (news_in posts what) → IsStep posts earlier n party what t
      → (t.event ≡ n) × IsQuiet (news_of posts t)
  plain_step earlier n party what t quiet is =
      (is.number, quiet_if (is_client t.party) (news_in posts t.handed) (subst (λ h. IsQuiet (news_in posts h)) (sym is.hands_it) quiet))

  plain_one : (earlier : List TraceStep) (n : ℕ) (party : Sender) (what : Handed) (steps : List TraceStep) → IsQuiet (news_in posts what) → IsOneStep posts earlier n party what steps
      → ArePlain n steps
  plain_one earlier n party what steps quiet one = λ t among.
      elim (subst (IsAmong t) one.only among) [
        | inl same ↦ plain_step earlier n party what t quiet (subst (IsStep posts earlier n party what) (sym same) one.is_step)
        | inr none ↦ absurd none
      ]

  plain_settling : (steps : List TraceStep) (dropped : List ℕ) (n count : ℕ) (earlier : List TraceStep) → IsSettling posts dropped n count earlier steps → ArePlain n steps
  unfolding IsSettling
  plain_settling [] dropped n count earlier settling = λ t among. absurd among
  plain_settling (step ∷ steps) dropped n count earlier settling = λ t among. elim among [
    | inl same ↦
        let next = settling.1 in
        subst (λ x. (x.event ≡ n) × IsQuiet (news_of posts x)) (sym same)
        (plain_step earlier n next.message.to (handed.Deliver next.k) step (quiet_post (posted_at posts next.k)) next.is_step)
    | inr later ↦ plain_settling steps dropped n (count - 1) (step ∷ earlier) settling.2 t later
  ]

  asked_one : (earlier : List TraceStep) (n : ℕ) (r : Request) (e : Event) (steps : List TraceStep) → e ≡ asked_event r
      → IsOneStep posts earlier n sender.Client (handed.Asked r) steps → IsAskedStep n e steps
  asked_one earlier n r e steps of one = record {
    r = r;
    of = of;
    step = one.step;
    only = one.only;
    number = one.is_step.number;
    news = ap (λ who. if is_client who then news_in posts one.step.handed else Silence) one.is_step.addressed ∙ ap (news_in posts) one.is_step.hands_it;
  }

  none_plain : (n : ℕ) (steps : List TraceStep) → steps ≡ [] → ArePlain n steps
  none_plain n steps e = λ t among. absurd (subst (IsAmong t) e among)

  steps_of : (earlier : List TraceStep) (dropped : List ℕ) (n : ℕ) (e : Event) (steps : List TraceStep) → AreStepsOf posts earlier dropped n e steps
      → IsAskedStep n e steps ⊎ ArePlain n steps
  steps_of earlier dropped n (event.Write batch) steps are = inl (asked_one earlier n (request.Write batch) _ steps refl are)
  steps_of earlier dropped n (event.Read block) steps are = inl (asked_one earlier n (request.Read block) _ steps refl are)
  steps_of earlier dropped n event.Barrier steps are = inl (asked_one earlier n request.Barrier _ steps refl are)
  steps_of earlier dropped n (event.Restart session) steps are = inl (asked_one earlier n (request.Restart session) _ steps refl are)
  steps_of earlier dropped n (event.Reassign session region) steps are = inl (asked_one earlier n (request.Reassign session region) _ steps refl are)
  steps_of earlier dropped n (event.Deliver k) steps are = inr (plain_one earlier n are.message.to (handed.Deliver k) steps (quiet_post (posted_at posts k)) are.one)
  steps_of earlier dropped n (event.Stop k calls keep fill) steps are = inr (plain_one earlier n are.message.to (handed.Stop k) steps tt are.one)
  steps_of earlier dropped n (event.Settle count) steps are = inr (plain_settling steps dropped n count earlier are)
  steps_of earlier dropped n (event.Drop k) steps are = inr (none_plain n steps are)
  steps_of earlier dropped n (event.Fail node call) steps are = inr (none_plain n steps are)
  steps_of earlier dropped n (event.Lie from to bytes) steps are = inr (plain_one earlier n to (handed.Lie from bytes) steps (quiet_from from bytes) are)
  steps_of earlier dropped n (event.Crash node keep fill) steps are = inr (plain_one earlier n (sender.Node node) handed.Crash steps tt are)
  steps_of earlier dropped n (event.Replace node) steps are = inr (plain_one earlier n (sender.Node node) handed.Replace steps tt are)
  steps_of earlier dropped n event.ClientCrash steps are = inr (plain_one earlier n sender.Client handed.ClientCrash steps tt are)
  steps_of earlier dropped n (event.Tick party) steps are = inr (plain_one earlier n party handed.Tick steps tt are)

  pub done_steps : (skips : Bool) (earlier : List TraceStep) (dropped : List ℕ) (n : ℕ) (e : Event) (steps : List TraceStep)
      → IsEventDone skips posts earlier dropped n e steps → IsAskedStep n e steps ⊎ ArePlain n steps
  done_steps true earlier dropped n e steps done = inr (none_plain n steps done)
  done_steps false earlier dropped n e steps done = steps_of earlier dropped n e steps done

  -- they are all of that event
  pub at_event : (n : ℕ) (e : Event) (steps : List TraceStep) → IsAskedStep n e steps ⊎ ArePlain n steps → (t : TraceStep) → IsAmong t steps → t.event ≡ n
  at_event n e steps (inl asked) t among = elim (subst (IsAmong t) asked.only among) [
    | inl same ↦ ap (λ x. x.event) same ∙ asked.number
    | inr none ↦ absurd none
  ]
  at_event n e steps (inr plain) t among = (plain t among).0

  -- and those of the events from n on have numbers from n on
  pub from_event : (events : List Event) (earlier : List TraceStep) (dropped : List ℕ) (n : ℕ) (steps : List TraceStep) → FollowsFrom posts earlier dropped n events steps
      → (t : TraceStep) → IsAmong t steps → n ≤ t.event
  unfolding FollowsFrom
  from_event [] earlier dropped n steps follows t among = absurd (subst (IsAmong t) follows.0 among)
  from_event (e ∷ events) earlier dropped n steps follows t among =
      elim (among_either t follows.0 follows.1 (subst (IsAmong t) follows.2 among)) [
        | inl here ↦
            let same = at_event n e follows.0 (done_steps (is_skipped posts (sent_by earlier) e) earlier dropped n e follows.0 follows.3) t here in
            omega arith
        | inr later ↦
            let above = from_event events (reverse follows.0 ++ earlier) (dropped_after (sent_by earlier) dropped e) (n + 1) follows.1 follows.4 t later in
            omega arith
      ]

  -- how many messages were sent after them
  pub sent-reverse : (steps earlier : List TraceStep) (t : TraceStep) → sent_by (reverse (t ∷ steps) ++ earlier) ≡ sent_by (reverse steps ++ (t ∷ earlier))
  sent-reverse steps earlier t =
      ap (λ l. sent_by (l ++ earlier)) (reverse-append (t ∷ []) steps) ∙ ap sent_by (append_assoc (reverse steps) (t ∷ []) earlier)
