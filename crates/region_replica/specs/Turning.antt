-- What a replica does with a kept part whose turn has come.
use Rattle.std.specs.Prelude.{◌≡◌, ◌<◌, ◌≤◌, IsTrue, List, [], ◌∷◌, length, Option, None, Some, MatchOption}
use Rattle.salus_types.specs.declared.records.Record.{Record}
use Rattle.merkle_region.specs.Tree.{IsAmong}
use Rattle.replica_rules.specs.Views.{is_accepted}
use Rattle.replica_rules.specs.Replicas.{take_kept, all_kept_in_turn, after_part, no_more}
use Rattle.region_replica.specs.Serving.{Serving, IsFor, now_as}
use Rattle.region_replica.specs.Leading.{LeadTo}

-- a kept part that goes on from the view's number, and whose root is right
pub record IsUp (before : Serving) (rec : Record) : Type 0 where
  pub kept : IsAmong rec before.replica.early
  pub own : IsFor before rec
  pub next : rec.header.previous ≡ before.replica.view.number
  pub accepted : IsTrue (is_accepted before.shape before.replica.view rec)

-- Of all kept parts in their turn it is the first, and the others are those of the replica after it, which keeps fewer. So a
-- loop that takes kept parts until there is none has taken all in their turn.
pub record IsTurn (before after : Serving) (rec : Record) : Type 0 where
  pub up : IsUp before rec
  pub first : all_kept_in_turn before.shape before.replica ≡ after_part rec (all_kept_in_turn after.shape after.replica)
  pub fewer : length after.replica.early < length before.replica.early

-- there is none, and none follows
pub record IsNoTurn (before after : Serving) : Type 0 where
  pub none : (rec : Record) → IsUp before rec → ⊥
  pub last : all_kept_in_turn before.shape before.replica ≡ no_more after.replica

abbrev pub some_part : Option Record → List Record
some_part None = []
some_part (Some rec) = rec ∷ []

-- The part, and what the replica has become, are those of the rules. A part comes exactly where one is up. It leads from the
-- old view to the new one, whose number doesn't fall.
pub record IsKeptTaken (before after : Serving) (given : Option Record) : Type 0 where
  pub part : given ≡ (take_kept before.shape before.replica).part
  pub state : after ≡ now_as before (take_kept before.shape before.replica).replica
  pub turn : MatchOption given (IsNoTurn before after) (IsTurn before after)
  pub applied : LeadTo before.shape before.replica.view (some_part given) after.replica.view
  pub rises : before.replica.view.number ≤ after.replica.view.number
