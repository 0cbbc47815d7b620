-- The deliveries of a `settle`, while it goes on.
use Rattle.std.specs.Prelude.{◌≡◌, ℕ, List, [], ◌∷◌, ◌++◌, length, reverse, flat_map}
use Rattle.std.specs.List.{AllByRecursion}
use Rattle.printed_lines.specs.declared.line.Line.{Line}
use Rattle.run_course.specs.Course.{Course}
use Rattle.salus_model.specs.declared.trace.TraceStep.{TraceStep}
use Rattle.salus_model.specs.Following.{Posted, IsNextDelivery}

-- each of these steps, after those that are given with the newest first, hands over the lowest message that waits
unfoldable pub AreNext : List Posted → List ℕ → ℕ → List TraceStep → List TraceStep → Type 0
AreNext posts dropped n earlier [] = Unit {0}
AreNext posts dropped n earlier (step ∷ steps) = IsNextDelivery posts earlier dropped n step × AreNext posts dropped n (step ∷ earlier) steps

-- so many deliveries of event n so far, from a course on
pub record Settled (posts : List Posted) (n done : ℕ) (was now : Course) : Type 0 where
  pub here : List TraceStep
  pub said : List (List Line)
  pub trace : now.trace ≡ was.trace ++ here
  pub told : now.told ≡ was.told ++ said
  pub lines : now.lines ≡ was.lines ++ flat_map (λ l. l) said
  pub dropped : now.dropped ≡ was.dropped
  pub each : length said ≡ length here
  pub count : length here ≡ done
  pub numbered : AllByRecursion (λ step. step.event ≡ n) here
  pub next : AreNext posts was.dropped n (reverse was.trace) here
