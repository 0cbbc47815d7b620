-- The events that are left stand in the schedule from a number on, and the sessions that they ask for rise.
use Rattle.std.proofs.Common.{◌≡◌, ℕ, suc, ◌+◌, ◌-◌, ◌≤◌, ◌∙◌, List, ◌∷◌, ◌++◌, slice_get, nat_lt, true, Option, None, Some, refl, ap, sym, arith}
use Rattle.std.specs.Prelude.{option_to_list}
use Rattle.std.proofs.lemmas.Bool.{cond-true, lt-ltb}
use Rattle.schedule_text.specs.declared.schedule.Event.{Event}
use Rattle.schedule_text.specs.Grammar.{RisesFrom, session_of, sessions_of}
use Rattle.salus_model.specs.declared.trace.Request.{Request}
use Rattle.salus_model.specs.declared.trace.Request.TheVariants as request
use Rattle.salus_model.specs.Judge.{event_at}
use Rattle.schedule_text.specs.declared.schedule.Volume.{Volume}
use Rattle.law_history.proofs.Asked.{asked_event}
use Rattle.law_history.proofs.Stepped.{IsRising}

-- the events from number n on are these
abbrev pub StandsFrom : List Event → ℕ → List Event → Type 0
StandsFrom events n rest = (k : ℕ) → event_at events (n + k) ≡ slice_get rest k

pub stands_first : (events : List Event) → StandsFrom events 1 events
stands_first events = λ k.
    let within : nat_lt 0 (1 + k) ≡ true = lt-ltb 0 (1 + k) (omega arith) in
    let place : 1 + k - 1 ≡ k = omega arith in
    cond-true (nat_lt 0 (1 + k)) (slice_get events (1 + k - 1)) None within ∙ ap (λ i. slice_get events i) place

pub stands_here : (events : List Event) (n : ℕ) (e : Event) (rest : List Event) → StandsFrom events n (e ∷ rest) → event_at events n ≡ Some e
stands_here events n e rest stands =
    let place : n + 0 ≡ n = omega arith in sym (ap (λ v. event_at events v) place) ∙ stands 0

pub stands_rest : (events : List Event) (n : ℕ) (e : Event) (rest : List Event) → StandsFrom events n (e ∷ rest) → StandsFrom events (n + 1) rest
stands_rest events n e rest stands = λ k.
    let place : n + suc k ≡ n + 1 + k = omega arith in sym (ap (λ v. event_at events v) place) ∙ stands (suc k)

rises_option : (top : ℕ) (o : Option ℕ) (rest : List ℕ) → RisesFrom top (option_to_list o ++ rest) → (more : ℕ) × (top ≤ more) × RisesFrom more rest
rises_option top None rest rises = (top, omega arith, rises)
rises_option top (Some s) rest rises = let above = rises.0 in (s, omega arith, rises.1)

pub rises_any : (top : ℕ) (e : Event) (es : List Event) → RisesFrom top (sessions_of (e ∷ es)) → (more : ℕ) × (top ≤ more) × RisesFrom more (sessions_of es)
rises_any top e es rises = rises_option top (session_of e) (sessions_of es) rises

pub rises_asked : (volume : Volume) (events : List Event) (strings : List (List ℕ)) (top : ℕ) (r : Request) (es : List Event) → RisesFrom top (sessions_of (asked_event r ∷ es))
    → (more : ℕ) × IsRising volume events strings top more r × RisesFrom more (sessions_of es)
rises_asked volume events strings top (request.Write batch) es rises = (top, refl, rises)
rises_asked volume events strings top (request.Read b) es rises = (top, refl, rises)
rises_asked volume events strings top request.Barrier es rises = (top, refl, rises)
rises_asked volume events strings top (request.Restart e) es rises = (e, (rises.0, refl), rises.1)
rises_asked volume events strings top (request.Reassign e g) es rises = (e, (rises.0, refl), rises.1)
