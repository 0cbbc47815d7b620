-- A session before and after a call.
use Rattle.std.proofs.Common.{◌≡◌, ◌∙◌, ℕ, Bool, List, Option, Result, Ok, Err, IfOk, sym, subst}
use Rattle.salus_types.specs.Volume.{Shape}
use Rattle.salus_types.specs.declared.memory.NoMemory.{NoMemory}
use Rattle.salus_types.specs.declared.records.Record.{Record}
use Rattle.replica_rules.specs.Nodes.{Memory}
use Rattle.replica_rules.specs.Rules.{Turn as RuleTurn}
use Rattle.region_replica.specs.Serving.{Serving}
use Rattle.pipelined_commit.specs.Standing.{KeptLeader, SamePlace}
use Rattle.open_session.specs.declared.turn.Turn.{Turn}
use Rattle.open_session.specs.Kept.{KeptSession, kept_of, serving_of, IsSession, KeepsRecords, SameSession, StaysOwn}
use Rattle.open_session.specs.Applying.{AreNewest}
use Rattle.open_session.specs.Turning.{IsTurn, AddsItsOwn}
use Rattle.open_session.proofs.Adding.{newest-after, none-newest}

-- it is still one of that volume, region and session
pub session-after : (shape : Shape) (region session : ℕ) (s t : Serving) (led leads : KeptLeader) (old new : List Record) (begun : Option ℕ) (whole : Bool) → IsSession shape region session (kept_of s led old begun whole)
    → StaysOwn s t → SamePlace led leads → IsSession shape region session (kept_of t leads new begun whole)
session-after shape region session s t led leads old new begun whole is stays place = record {
  shape_is = stays.shape ∙ is.shape_is;
  region_is = stays.region ∙ is.region_is;
  session_is = stays.session ∙ is.session_is;
  led_shape = place.0 ∙ is.led_shape;
  led_region = place.1 ∙ is.led_region;
  records = stays.records is.records;
}

pub same-after : (kept now after : KeptSession) → kept ≡ now → StaysOwn (serving_of kept) (serving_of after) → SameSession now after
same-after kept now after is stays = subst (λ (k : KeptSession). SameSession k after) is (record { shape = stays.shape; region = stays.region; session = stays.session })

pub turn-after : (kept now after : KeptSession) (shape : Shape) (rule : Shape → ℕ → Memory → RuleTurn) (result : Result Turn NoMemory) → kept ≡ now → kept.shape ≡ shape → IfOk result (IsTurn (rule shape kept.region) kept after)
    → IfOk result (IsTurn (rule now.shape now.region) now after)
turn-after kept now after shape rule result is at turned =
    subst (λ (k : KeptSession). IfOk result (IsTurn (rule k.shape k.region) k after)) is (subst (λ sh. IfOk result (IsTurn (rule sh kept.region) kept after)) (sym at) turned)

pub turned-after : (kept now after : KeptSession) (shape : Shape) (rule : Shape → ℕ → Memory → RuleTurn) (turn : Turn) → kept ≡ now → kept.shape ≡ shape → IsTurn (rule shape kept.region) kept after turn
    → IsTurn (rule now.shape now.region) now after turn
turned-after kept now after shape rule turn is at turned =
    subst (λ (k : KeptSession). IsTurn (rule k.shape k.region) k after turn) is (subst (λ sh. IsTurn (rule sh kept.region) kept after turn) (sym at) turned)

-- where nothing changes
pub turned-here : (kept now : KeptSession) (shape : Shape) (rule : Shape → ℕ → Memory → RuleTurn) (turn : Turn) → kept ≡ now → kept.shape ≡ shape → IsTurn (rule shape kept.region) kept kept turn
    → IsTurn (rule now.shape now.region) now now turn
turned-here kept now shape rule turn is at turned =
    subst (λ (k : KeptSession). IsTurn (rule k.shape k.region) k k turn) is (subst (λ sh. IsTurn (rule sh kept.region) kept kept turn) (sym at) turned)

-- what is added is its own
adds : (after : KeptSession) (turn : Turn) → AreNewest (serving_of after) after.parts turn.added → AddsItsOwn after turn
adds after turn newest = record { within = newest.within; added = newest.own }

pub adds-after : (s t : Serving) (leads : KeptLeader) (new : List Record) (begun : Option ℕ) (whole : Bool) (result : Result Turn NoMemory) → StaysOwn s t → KeepsRecords s
    → IfOk result (λ turn. AreNewest s new turn.added) → IfOk result (AddsItsOwn (kept_of t leads new begun whole))
adds-after s t leads new begun whole (Ok turn) stays records newest = adds (kept_of t leads new begun whole) turn (newest-after s t new turn.added stays records newest)
adds-after s t leads new begun whole (Err e) stays records newest = tt

pub adds-none : (after : KeptSession) (turn : Turn) → turn.added ≡ 0 → AddsItsOwn after turn
adds-none after turn none = adds after turn (none-newest (serving_of after) after.parts turn.added none)
