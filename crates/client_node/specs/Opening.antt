-- What a client keeps while it opens a session, and what may come of a message.
use Rattle.std.specs.Prelude.{◌≡◌, ℕ, ◌+◌, ◌^◌, ◌<◌, ◌≤◌, length}
use Rattle.salus_types.specs.Volume.{Shape, regions}
use Rattle.session_opening.specs.Kept.{KeptOpening}
use Rattle.session_opening.specs.Standing.{shape_of, IsUpTo}
use Rattle.session_opening.specs.declared.opening.Outcome.{Outcome}
use Rattle.session_opening.specs.declared.opening.Outcome.TheVariants as outcome

-- what opens the session, and the event of the newest request
pub record KeptClient : Type 0 where
  pub opening : KeptOpening
  pub newest : ℕ

-- Its events are low, and the session will start with at most as many batches as there can be above a base that is low: one
-- a request.
pub record IsLow (kept : KeptClient) : Type 0 where
  pub event : kept.newest < 2 ^ 32
  pub up_to : IsUpTo (2 ^ 63 + kept.newest) kept.opening

-- What came of a message, in a volume of this shape with this newest request: the session is opened on, or there are roots
-- of all regions to serve from, and as few batches.
abbrev pub OutcomeFits : Shape → ℕ → Outcome → Type 0
OutcomeFits shape newest (outcome.Opens kept) = (shape_of kept ≡ shape) × IsUpTo (2 ^ 63 + newest) kept
OutcomeFits shape newest (outcome.Closes key) = Unit {0}
OutcomeFits shape newest (outcome.Serves served key) = (length served.roots ≡ regions shape) × (served.number ≤ 2 ^ 63 + newest)
