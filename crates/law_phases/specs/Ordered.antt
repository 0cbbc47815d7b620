-- What the steps so far, and one step more, must keep to so that it is plain who counts: a session that the client begins to
-- open is later than each that was opened, and one that is opened is the one that was begun last.
use Rattle.std.specs.Prelude.{◌≡◌, ℕ, ◌<◌, ◌≤◌, true, false, List, [], ◌∷◌, Some}
use Rattle.printed_lines.specs.declared.line.Line.TheVariants as line
use Rattle.merkle_region.specs.Tree.{IsAmong}
use Rattle.salus_model.specs.Hearing.{Past, opens, begins}
use Rattle.salus_model.specs.Guarding.{is_replacement}
use Rattle.salus_model.specs.Complete.{session_asked, last_begun}
use Rattle.kept_model.specs.Phases.{asked_of}

-- the step opens the session that was begun last, and does nothing else
pub record OpensLast (history : List Past) (p : Past) : Type 0 where
  pub e : ℕ
  pub only : p.lines ≡ line.Open e ∷ []
  pub last : last_begun history ≡ Some e
  pub unbegun : begins p ≡ false

pub record IsOrdered (history : List Past) (p : Past) : Type 0 where
  -- no step both begins to open a session and replaces a node
  pub apart : (q : Past) → IsAmong q (p ∷ history) → begins q ≡ true → is_replacement q.step.handed ≡ false
  pub low : (q : Past) (e : ℕ) → IsAmong q history → IsAmong (line.Open e) q.lines → e ≤ asked_of history
  pub later : (e : ℕ) → begins p ≡ true → session_asked p.news ≡ Some e → asked_of history < e
  pub last : opens p ≡ true → OpensLast history p
