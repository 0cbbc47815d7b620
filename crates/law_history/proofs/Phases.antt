-- What the phase keeps to.
use Rattle.std.proofs.Common.{◌≡◌, ◌∙◌, ℕ, ◌≤◌, false, List, Some, ap, arith}
use Rattle.schedule_text.specs.declared.schedule.Event.{Event}
use Rattle.salus_model.specs.Judge.{Judge, event_at, is_among, AsksToOpen}
use Rattle.salus_model.specs.Hearing.{Phase, Serving, Closed, Gathering, Fetching, Staged}
use Rattle.law_lemmas.proofs.Growing.{IsGoing}
use Rattle.law_lemmas.proofs.Settled.{IsBelow, going-below}

-- session e is about to be staged, or to be opened; sessions up to top were asked for
pub record IsOpening (events : List Event) (judge : Judge) (top e : ℕ) : Type 0 where
  pub event : ℕ
  pub asked : AsksToOpen e (event_at events event)
  pub below : IsBelow judge e
  pub within : e ≤ top

pub record IsToOpen (judge : Judge) (top e : ℕ) : Type 0 where
  pub last : judge.staged ≡ Some e
  pub once : is_among e judge.opened ≡ false
  pub within : e ≤ top

abbrev pub PhaseFits : List Event → Judge → ℕ → Phase → Type 0
PhaseFits events judge top Serving = Unit {0}
PhaseFits events judge top Closed = Unit {0}
PhaseFits events judge top (Gathering e) = IsOpening events judge top e
PhaseFits events judge top (Fetching e g) = IsOpening events judge top e
PhaseFits events judge top (Staged e) = IsToOpen judge top e

module _ (before after : Judge) (going : IsGoing before after) where
  pub going-phase : (events : List Event) (top : ℕ) (phase : Phase) → PhaseFits events before top phase → PhaseFits events after top phase
  going-phase events top Serving fits = tt
  going-phase events top Closed fits = tt
  going-phase events top (Gathering e) fits = record { event = fits.event; asked = fits.asked; below = going-below before after going e fits.below; within = fits.within }
  going-phase events top (Fetching e g) fits = record { event = fits.event; asked = fits.asked; below = going-below before after going e fits.below; within = fits.within }
  going-phase events top (Staged e) fits = record {
    last = going.staged ∙ fits.last;
    once = ap (is_among e) going.opened ∙ fits.once;
    within = fits.within;
  }

pub phase-wider : (events : List Event) (judge : Judge) (top more : ℕ) (phase : Phase) → top ≤ more → PhaseFits events judge top phase → PhaseFits events judge more phase
phase-wider events judge top more Serving h fits = tt
phase-wider events judge top more Closed h fits = tt
phase-wider events judge top more (Gathering e) h fits =
    let low = fits.within in record { event = fits.event; asked = fits.asked; below = fits.below; within = omega arith }
phase-wider events judge top more (Fetching e g) h fits =
    let low = fits.within in record { event = fits.event; asked = fits.asked; below = fits.below; within = omega arith }
phase-wider events judge top more (Staged e) h fits = let low = fits.within in record { last = fits.last; once = fits.once; within = omega arith }
