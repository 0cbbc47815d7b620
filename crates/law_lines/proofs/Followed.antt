-- What a trace asks of the client, step by step, and the steps of one event.
use Rattle.std.proofs.Common.{◌≡◌, ℕ, ◌+◌, ◌-◌, if◌then◌else◌, List, [], ◌∷◌, ◌++◌, refl, ap₂, sym, subst}
use Rattle.salus_types.specs.declared.names.Sender.{Sender}
use Rattle.salus_types.specs.declared.names.Sender.TheVariants as sender
use Rattle.schedule_text.specs.declared.schedule.Event.{Event}
use Rattle.salus_model.specs.declared.trace.Request.{Request}
use Rattle.salus_model.specs.declared.trace.Handed.{Handed}
use Rattle.salus_model.specs.declared.trace.Handed.TheVariants as handed
use Rattle.salus_model.specs.declared.trace.TraceStep.{TraceStep}
use Rattle.salus_model.specs.Following.{Posted, IsOneStep, IsSettling}
use Rattle.volume_model.specs.Groups.{is_client}
use Rattle.salus_model.specs.Hearing.{News, Asks, Says, Crashes, Silence, news_of, news_in}
use Rattle.law_lemmas.proofs.Quiet.{IsQuiet, IsNotAsked, quiet_news}
use Rattle.law_lines.specs.Ready.{AsksFit, event_after, session_after}

-- it changes no bound
quiet_fits : (events : List Event) (n m v : ℕ) (x : News) → IsQuiet x → AsksFit events n m v x × (event_after n v x ≡ n) × (session_after m x ≡ m)
quiet_fits events n m v (Asks r) none = absurd none
quiet_fits events n m v (Says name msg) none = (tt, refl, refl)
quiet_fits events n m v Crashes none = (tt, refl, refl)
quiet_fits events n m v Silence none = (tt, refl, refl)

unfoldable pub AllQuiet : List TraceStep → Type 0
AllQuiet [] = Unit {0}
AllQuiet (step ∷ steps) = IsNotAsked step.handed × AllQuiet steps

-- from event n and session m on
unfoldable pub AreFit : List Event → List Posted → ℕ → ℕ → List TraceStep → Type 0
AreFit events posts n m [] = Unit {0}
AreFit events posts n m (step ∷ steps) =
    AsksFit events n m step.event (news_of posts step) × AreFit events posts (event_after n step.event (news_of posts step)) (session_after m (news_of posts step)) steps

module _ (events : List Event) (posts : List Posted) where
  abbrev Rest : ℕ → ℕ → List TraceStep → Type 0
  Rest n m rest = AreFit events posts n m rest

  pub ready_quiet : (here rest : List TraceStep) (n m : ℕ) → AllQuiet here → Rest n m rest → Rest n m (here ++ rest)
  unfolding AllQuiet AreFit
  ready_quiet [] rest n m quiet more = more
  ready_quiet (step ∷ here) rest n m quiet more =
      let f = quiet_fits events n m step.event (news_of posts step) (quiet_news posts step quiet.0) in (
        f.0,
        subst (λ k. AreFit events posts k (session_after m (news_of posts step)) (here ++ rest)) (sym f.1)
            (subst (λ k. AreFit events posts n k (here ++ rest)) (sym f.2) (ready_quiet here rest n m quiet.1 more)),
      )

  ready_asks : (step : TraceStep) (rest : List TraceStep) (n m : ℕ) (r : Request) → step.party ≡ sender.Client → step.handed ≡ handed.Asked r → AsksFit events n m step.event (Asks r)
      → Rest (step.event + 1) (session_after m (Asks r)) rest → Rest n m (step ∷ rest)
  unfolding AreFit
  ready_asks step rest n m r party asked fits more =
      let news : news_of posts step ≡ Asks r = ap₂ (λ p h. if is_client p then news_in posts h else Silence) party asked in (
        subst (AsksFit events n m step.event) (sym news) fits,
        subst (λ x. AreFit events posts (event_after n step.event x) (session_after m x) rest) (sym news) more,
      )

  -- ---- the steps of one event

  pub one_quiet : (earlier : List TraceStep) (k : ℕ) (party : Sender) (what : Handed) (here : List TraceStep) → IsNotAsked what → IsOneStep posts earlier k party what here → AllQuiet here
  unfolding AllQuiet
  one_quiet earlier k party what here none one = subst AllQuiet (sym one.only) (subst IsNotAsked (sym one.is_step.hands_it) none, tt)

  pub settle_quiet : (here : List TraceStep) (dropped : List ℕ) (k count : ℕ) (earlier : List TraceStep) → IsSettling posts dropped k count earlier here → AllQuiet here
  unfolding AllQuiet IsSettling
  settle_quiet [] dropped k count earlier s = tt
  settle_quiet (step ∷ here) dropped k count earlier s = (subst IsNotAsked (sym s.1.is_step.hands_it) tt, settle_quiet here dropped k (count - 1) (step ∷ earlier) s.2)

  pub none_quiet : (here : List TraceStep) → here ≡ [] → AllQuiet here
  unfolding AllQuiet
  none_quiet here none = subst AllQuiet (sym none) tt

  pub one_asks : (earlier : List TraceStep) (k : ℕ) (r : Request) (here rest : List TraceStep) (n m : ℕ) → IsOneStep posts earlier k sender.Client (handed.Asked r) here
      → AsksFit events n m k (Asks r) → Rest (k + 1) (session_after m (Asks r)) rest → Rest n m (here ++ rest)
  one_asks earlier k r here rest n m one fits more =
      subst (λ l. Rest n m (l ++ rest)) (sym one.only)
      (ready_asks one.step rest n m r one.is_step.addressed one.is_step.hands_it (subst (λ v. AsksFit events n m v (Asks r)) (sym one.is_step.number) fits)
      (subst (λ v. Rest (v + 1) (session_after m (Asks r)) rest) (sym one.is_step.number) more))
