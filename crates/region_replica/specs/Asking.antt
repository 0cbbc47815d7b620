-- What a replica answers to asks.
use Rattle.std.specs.Prelude.{◌≡◌, ◌==◌, ◌↔◌, ◌<◌, ◌≤◌, IsTrue, IsSome, [], ◌∷◌, filter, length, not, Option}
use Rattle.salus_message.specs.declared.small.Ask.{Ask}
use Rattle.salus_message.specs.declared.replies.Answer.{Answer}
use Rattle.merkle_region.specs.Tree.{IsAmong}
use Rattle.replica_rules.specs.Replicas.{Replica, answer_to, is_asked_here, take_ask, due_answers, without_due}
use Rattle.region_replica.specs.Serving.{Serving, now_as}

-- The answer, and what the replica has become, are those of the rules. An answer comes at once exactly where the ask is of the
-- replica's session and region, and the view has reached the number as of which it asks.
pub record IsAskTaken (before : Serving) (ask : Ask) (after : Serving) (given : Option Answer) : Type 0 where
  pub answer : given ≡ (take_ask before.shape before.region before.replica ask).answer
  pub state : after ≡ now_as before (take_ask before.shape before.region before.replica ask).replica
  pub at_once : IsSome given ↔ (IsTrue (is_asked_here before.shape before.region before.replica ask) × (ask.at ≤ before.replica.view.number))

-- a kept ask whose number the view has reached
pub record IsDueAsk (before : Serving) (ask : Ask) : Type 0 where
  pub kept : IsAmong ask before.replica.asks
  pub reached : ask.at ≤ before.replica.view.number

abbrev pub without_ask : Replica → Ask → Replica
without_ask r ask = record r { asks = filter (λ other. not (other.read == ask.read)) r.asks }

-- The answer is to the ask of the least read number of those that are due, which is taken out. Of all that are due it is the
-- first, and the others are those of the replica after it, of which the same asks wait. So a loop that asks for answers until
-- there is none has given all that are due, and leaves those that aren't.
pub record IsFirstDue (before after : Serving) (given : Answer) : Type 0 where
  pub ask : Ask
  pub due : IsDueAsk before ask
  pub least : (other : Ask) → IsDueAsk before other → ask.read ≤ other.read
  pub answer : given ≡ answer_to before.shape before.replica.view ask
  pub state : after ≡ now_as before (without_ask before.replica ask)
  pub first : due_answers before.shape before.replica ≡ given ∷ due_answers after.shape after.replica
  pub waiting : without_due after.replica ≡ without_due before.replica
  pub fewer : length after.replica.asks < length before.replica.asks

-- no ask is due, and nothing is changed
pub record IsNoneDue (before after : Serving) : Type 0 where
  pub none : (ask : Ask) → IsDueAsk before ask → ⊥
  pub state : after ≡ before
  pub last : due_answers before.shape before.replica ≡ []
  pub waiting : without_due before.replica ≡ before.replica
