-- A front part of a run's steps: what is given of all steps is given of it, and of one step more that sends nothing.
use Rattle.std.proofs.Common.{◌≡◌, ℕ, List, [], ◌∷◌, ◌++◌, refl, arith}
use Rattle.std.specs.List.{AllByRecursion}
use Rattle.salus_types.specs.declared.names.NodeName.{NodeName}
use Rattle.schedule_text.specs.declared.schedule.Volume.{Volume}
use Rattle.schedule_text.specs.declared.schedule.Event.{Event}
use Rattle.salus_model.specs.declared.trace.TraceStep.{TraceStep}
use Rattle.salus_model.specs.Following.{Posted, sent_by}
use Rattle.salus_model.specs.Hearing.{Past, news_of}
use Rattle.salus_model.specs.Due.{past_of, pasts_from}
use Rattle.salus_model.specs.Forgery.{IsUnforged, records_told}
use Rattle.client_rules.specs.State.{Client}
use Rattle.run_rules.specs.Knowing.{KnownNode}
use Rattle.run_rules.specs.Running.{after, AllSteps}
use Rattle.run_rules.specs.Serving.{client_of}
use Rattle.client_premises.specs.Premises.{IsApart}
use Rattle.client_premises.specs.Behind.{AreApart, ClientStepsBehind}
use Rattle.client_premises.proofs.Along.{next, sent_after}
use Rattle.law_lemmas.proofs.WellSent.{AreWellSent}
use Rattle.law_lines.specs.Ready.{event_after, session_after}
use Rattle.law_lines.proofs.Followed.{AreFit}
use Rattle.law_history.specs.Handing.{NodesShowHanded, ClientPostsTagged, steps_in}
use Rattle.law_ranged.proofs.Scheduled.{AllWithin, bound_after}

-- the same step, but that only so many messages were sent after it
abbrev pub silent : ℕ → TraceStep → TraceStep
silent count t = record t { sent = count }

module _ (volume : Volume) (events : List Event) (posts : List Posted) where
  -- ---- what is given of all steps

  pub fit_front : (xs ys : List TraceStep) (n m : ℕ) → AreFit events posts n m (xs ++ ys) → AreFit events posts n m xs
  unfolding AreFit
  fit_front [] ys n m fit = tt
  fit_front (x ∷ xs) ys n m fit = (fit.0, fit_front xs ys (event_after n x.event (news_of posts x)) (session_after m (news_of posts x)) fit.1)

  pub well_front : (xs ys earlier : List TraceStep) → AreWellSent posts earlier (xs ++ ys) → AreWellSent posts earlier xs
  unfolding AreWellSent
  well_front [] ys earlier well = tt
  well_front (x ∷ xs) ys earlier well = (well.0, well_front xs ys (x ∷ earlier) well.1)

  pub within_front : (xs ys : List TraceStep) (b : ℕ) → AllWithin volume.geometry posts b (xs ++ ys) → AllWithin volume.geometry posts b xs
  unfolding AllWithin
  within_front [] ys b within = tt
  within_front (x ∷ xs) ys b within = (within.0, within_front xs ys (bound_after volume.geometry posts b x.event x.handed) within.1)

  pub steps_front : (name : NodeName) (known : KnownNode) (before : ℕ) (xs ys : List TraceStep) → AllSteps volume.geometry posts name known before (xs ++ ys) → AllSteps volume.geometry posts name known before xs
  unfolding AllSteps
  steps_front name known before [] ys right = tt
  steps_front name known before (x ∷ xs) ys right = (right.0, steps_front name (after volume.geometry posts name known x) x.sent xs ys right.1)

  pub behind_front : (c : Client) (before : ℕ) (xs ys : List TraceStep) → ClientStepsBehind volume posts c before (xs ++ ys) → ClientStepsBehind volume posts c before xs
  unfolding ClientStepsBehind
  behind_front c before [] ys behind = tt
  behind_front c before (x ∷ xs) ys behind = λ apart. ((behind apart).0, behind_front (next volume posts c x) x.sent xs ys (behind apart).1)

  -- ---- one step more

  pub apart_more : (c : Client) (xs : List TraceStep) (t : TraceStep) → AreApart volume posts c xs → IsApart volume (client_of volume posts c xs) (news_of posts t) → AreApart volume posts c (xs ++ t ∷ [])
  unfolding AreApart client_of
  apart_more c [] t apart here = (here, tt)
  apart_more c (x ∷ xs) t apart here = (apart.0, apart_more (next volume posts c x) xs t apart.1 here)

  pub client_more : (c : Client) (xs : List TraceStep) (t : TraceStep) → client_of volume posts c (xs ++ t ∷ []) ≡ next volume posts (client_of volume posts c xs) t
  unfolding client_of
  client_more c [] t = refl
  client_more c (x ∷ xs) t = client_more (next volume posts c x) xs t

  -- ---- one that sends nothing

  pub well_silent : (xs ys earlier : List TraceStep) (t : TraceStep) → AreWellSent posts earlier (xs ++ t ∷ ys) → AreWellSent posts earlier (xs ++ silent (sent_after volume posts (sent_by earlier) xs) t ∷ [])
  unfolding AreWellSent sent_after
  well_silent [] ys earlier t well = (record { more = omega arith; own = λ k low high. absurd (omega (arith, low, high)); before = well.0.before }, tt)
  well_silent (x ∷ xs) ys earlier t well = (well.0, well_silent xs ys (x ∷ earlier) t well.1)

  pub shows_silent : (xs earlier : List TraceStep) (t : TraceStep) → NodesShowHanded volume posts earlier xs → NodesShowHanded volume posts earlier (xs ++ silent (sent_after volume posts (sent_by earlier) xs) t ∷ [])
  unfolding NodesShowHanded sent_after
  shows_silent [] earlier t shows = (λ k rec low high. absurd (omega (arith, low, high)), tt)
  shows_silent (x ∷ xs) earlier t shows = (shows.0, shows_silent xs (x ∷ earlier) t shows.1)

  pub tags_silent : (xs : List TraceStep) (history : List Past) (t : TraceStep) → ClientPostsTagged volume events posts history xs
      → ClientPostsTagged volume events posts history (xs ++ silent (sent_after volume posts (sent_by (steps_in history)) xs) t ∷ [])
  unfolding ClientPostsTagged sent_after
  tags_silent [] history t tags = (λ chose k rec low high. absurd (omega (arith, low, high)), tt)
  tags_silent (x ∷ xs) history t tags = (tags.0, tags_silent xs (past_of volume events posts history x ∷ history) t tags.1)

  -- the genuine records that lies bring in these steps were tagged before
  abbrev pub LiesTagged : List Past → List TraceStep → Type 0
  LiesTagged history steps =
      AllByRecursion (λ p. AllByRecursion (λ rec. IsUnforged volume p.before rec) (records_told p.step.handed)) (pasts_from volume events posts history steps)

  pub lies_silent : (xs ys : List TraceStep) (history : List Past) (t : TraceStep) (count : ℕ) → LiesTagged history (xs ++ t ∷ ys) → LiesTagged history (xs ++ silent count t ∷ [])
  unfolding pasts_from
  lies_silent [] ys history t count lies = (lies.0, tt)
  lies_silent (x ∷ xs) ys history t count lies = (lies.0, lies_silent xs ys (past_of volume events posts history x ∷ history) t count lies.1)
