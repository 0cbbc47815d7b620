-- What holds behind the premises of a run's steps: where all premises hold, and with one step more.
use Rattle.std.proofs.Common.{◌≡◌, ℕ, List, [], ◌∷◌, ◌++◌, refl, ap₂}
use Rattle.schedule_text.specs.declared.schedule.Volume.{Volume}
use Rattle.printed_lines.specs.declared.line.Line.{Line}
use Rattle.salus_model.specs.declared.trace.TraceStep.{TraceStep}
use Rattle.volume_model.specs.Groups.{is_client}
use Rattle.salus_model.specs.Following.{Posted}
use Rattle.salus_model.specs.Hearing.{news_of}
use Rattle.client_rules.specs.State.{Client}
use Rattle.client_rules.specs.Rules.{client_step, client_lines}
use Rattle.run_rules.specs.Serving.{IsStepOf, ClientSteps, client_of}
use Rattle.client_premises.specs.Premises.{IsApart}
use Rattle.client_premises.specs.Behind.{AreApart, Behind, ClientStepsBehind, LinesBehind}

module _ (volume : Volume) (posts : List Posted) where
  -- the client after one step
  abbrev pub next : Client → TraceStep → Client
  next c step = (client_step volume posts c step).client

  -- ---- where all premises hold

  pub behind_apart : (c : Client) (steps : List TraceStep) (P : Client → Type 0) → Behind volume posts c steps P → AreApart volume posts c steps → P (client_of volume posts c steps)
  unfolding Behind AreApart client_of
  behind_apart c [] P holds apart = holds
  behind_apart c (step ∷ steps) P holds apart = behind_apart (next c step) steps P (holds apart.0) apart.1

  -- what holds where the premises hold, holds behind them
  pub apart_behind : (c : Client) (steps : List TraceStep) (P : Client → Type 0) → (AreApart volume posts c steps → P (client_of volume posts c steps)) → Behind volume posts c steps P
  unfolding Behind AreApart client_of
  apart_behind c [] P holds = holds tt
  apart_behind c (step ∷ steps) P holds = λ here. apart_behind (next c step) steps P (λ later. holds (here, later))

  pub steps_apart : (c : Client) (before : ℕ) (steps : List TraceStep) → ClientStepsBehind volume posts c before steps → AreApart volume posts c steps → ClientSteps volume posts c before steps
  unfolding ClientStepsBehind AreApart ClientSteps
  steps_apart c before [] holds apart = tt
  steps_apart c before (step ∷ steps) holds apart = ((holds apart.0).0, steps_apart (next c step) step.sent steps (holds apart.0).1 apart.1)

  pub lines_apart : (c : Client) (steps : List TraceStep) (ls : List (List Line)) → LinesBehind volume posts c steps ls → AreApart volume posts c steps → ls ≡ client_lines volume posts c steps
  unfolding LinesBehind AreApart client_lines
  lines_apart c [] ls holds apart = holds
  lines_apart c (step ∷ steps) [] holds apart = absurd holds
  lines_apart c (step ∷ steps) (l ∷ ls) holds apart = ap₂ (λ x xs. x ∷ xs) (holds apart.0).0 (lines_apart (next c step) steps ls (holds apart.0).1 apart.1)

  -- ---- one step more

  -- the number of messages that were sent up to the last of these steps, before which there were so many
  unfoldable pub sent_after : ℕ → List TraceStep → ℕ
  sent_after before [] = before
  sent_after before (step ∷ steps) = sent_after step.sent steps

  pub one_behind : (c : Client) (steps : List TraceStep) (step : TraceStep) (P : Client → Type 0)
      → Behind volume posts c steps (λ d. IsApart volume d (news_of posts step) → P (next d step)) → Behind volume posts c (steps ++ step ∷ []) P
  unfolding Behind
  one_behind c [] step P holds = holds
  one_behind c (s ∷ steps) step P holds = λ here. one_behind (next c s) steps step P (holds here)

  pub one_step : (c : Client) (before : ℕ) (steps : List TraceStep) (step : TraceStep) → ClientStepsBehind volume posts c before steps
      → Behind volume posts c steps (λ d. IsApart volume d (news_of posts step) → IsStepOf (is_client step.party) volume posts d (sent_after before steps) step)
      → ClientStepsBehind volume posts c before (steps ++ step ∷ [])
  unfolding Behind ClientStepsBehind sent_after
  one_step c before [] step holds new = λ here. (new here, tt)
  one_step c before (s ∷ steps) step holds new = λ here. ((holds here).0, one_step (next c s) s.sent steps step (holds here).1 (new here))

  pub one_line : (c : Client) (steps : List TraceStep) (step : TraceStep) (ls : List (List Line)) (l : List Line) → LinesBehind volume posts c steps ls
      → Behind volume posts c steps (λ d. IsApart volume d (news_of posts step) → l ≡ (client_step volume posts d step).lines)
      → LinesBehind volume posts c (steps ++ step ∷ []) (ls ++ l ∷ [])
  unfolding Behind LinesBehind
  one_line c [] step [] l holds new = λ here. (new here, refl)
  one_line c [] step (l' ∷ ls) l holds new = absurd (cc)
  one_line c (s ∷ steps) step [] l holds new = absurd holds
  one_line c (s ∷ steps) step (l' ∷ ls) l holds new = λ here. ((holds here).0, one_line (next c s) steps step ls l (holds here).1 (new here))

  -- ---- from one fact to another

  pub behind_map : (c : Client) (steps : List TraceStep) (P Q : Client → Type 0) → ((d : Client) → P d → Q d) → Behind volume posts c steps P → Behind volume posts c steps Q
  unfolding Behind
  behind_map c [] P Q f holds = f c holds
  behind_map c (s ∷ steps) P Q f holds = λ here. behind_map (next c s) steps P Q f (holds here)

  pub behind_both : (c : Client) (steps : List TraceStep) (P Q : Client → Type 0) → Behind volume posts c steps P → Behind volume posts c steps Q → Behind volume posts c steps (λ d. P d × Q d)
  unfolding Behind
  behind_both c [] P Q p q = (p, q)
  behind_both c (s ∷ steps) P Q p q = λ here. behind_both (next c s) steps P Q (p here) (q here)
