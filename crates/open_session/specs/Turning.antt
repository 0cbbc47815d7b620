-- What a turn of a session sends, and which changes of what is held it asks for.
use Rattle.std.specs.Prelude.{◌≡◌, ℕ, ◌-◌, ◌≤◌, List, [], ◌∷◌, ◌++◌, map, drop, length, Option, None, Some}
use Rattle.std.specs.List.{AllByRecursion}
use Rattle.salus_types.specs.Volume.{Shape}
use Rattle.salus_types.specs.declared.records.Record.{Record}
use Rattle.holding_model.specs.Changing.{Change, AddsPart, FoldsTo}
use Rattle.replica_rules.specs.Nodes.{Memory}
use Rattle.replica_rules.specs.Replicas.{take_part}
use Rattle.replica_rules.specs.Rules.{Turn as RuleTurn, part_answered}
use Rattle.posting.specs.Sendings.{out_of_sending}
use Rattle.open_session.specs.declared.turn.Turn.{Turn}
use Rattle.open_session.specs.Kept.{KeptSession, serving_of}
use Rattle.open_session.specs.Standing.{StandsFor}
use Rattle.open_session.specs.Applying.{CanBeTaken}

-- the parts that the turn has added, which are the newest ones of the session
abbrev pub added_in : KeptSession → Turn → List Record
added_in after turn = drop (length after.parts - turn.added) after.parts

abbrev pub fold_of : Option ℕ → List Change
fold_of None = []
fold_of (Some n) = FoldsTo n ∷ []

-- first the parts that are added, then the fold
abbrev pub changes_in : KeptSession → Turn → List Change
changes_in after turn = map (λ rec. AddsPart rec) (added_in after turn) ++ fold_of turn.fold

-- the session after it, its messages and its changes are those of the rules' turn
pub record HasTurned (after : KeptSession) (turn : Turn) (rules : RuleTurn) : Type 0 where
  pub memory : StandsFor after rules.memory
  pub outs : turn.outs ≡ map out_of_sending rules.outs
  pub changes : changes_in after turn ≡ rules.changes

-- by that rule, whatever memory the session stood for
abbrev pub IsTurn : (Memory → RuleTurn) → KeptSession → KeptSession → Turn → Type 0
IsTurn rule before after turn = (m : Memory) → StandsFor before m → HasTurned after turn (rule m)

-- the part can be spelled, is of the session and the region, and of the right shape
abbrev pub CanBeAdded : KeptSession → Record → Type 0
CanBeAdded kept rec = CanBeTaken (serving_of kept) rec

-- each part that is added is one of the session's, and can be stored
pub record AddsItsOwn (after : KeptSession) (turn : Turn) : Type 0 where
  pub within : turn.added ≤ length after.parts
  pub added : AllByRecursion (CanBeAdded after) (added_in after turn)

-- by what the replica answers to a part, before the asks that are due are answered
unfoldable pub by_answer : Shape → ℕ → Record → Memory → RuleTurn
by_answer shape g rec m = part_answered shape g m rec (take_part shape g m.replica rec).replica (take_part shape g m.replica rec).answer
