-- The changes that a turn of the session asks for can be stored.
use Rattle.std.proofs.Common.{◌≡◌, ◌∙◌, ℕ, ◌==◌, ◌&&◌, Bool, true, List, [], ◌∷◌, ◌++◌, map, Option, None, Some, refl, sym, ap, subst}
use Rattle.std.specs.List.{AllByRecursion}
use Rattle.std.proofs.lemmas.Option.{same_Some}
use Rattle.salus_types.specs.Volume.{Shape}
use Rattle.salus_types.specs.declared.records.Record.{Record}
use Rattle.salus_types.specs.declared.records.Held.{Held}
use Rattle.client_tag.specs.Ranges.{IsRecord}
use Rattle.holding_model.specs.Changing.{Change, AddsPart, FoldsTo, changed, after_changes}
use Rattle.datanode_store.specs.Meaning.{CanBeKept}
use Rattle.replica_rules.specs.Views.{has_right_shape}
use Rattle.replica_rules.specs.Nodes.{Memory}
use Rattle.replica_rules.specs.Rules.{Turn as RuleTurn, in_session}
use Rattle.list_lemmas.proofs.Each.{all_then, all_both}
use Rattle.list_lemmas.proofs.Tests.{and_right}
use Rattle.open_session.specs.declared.turn.Turn.{Turn}
use Rattle.open_session.specs.Kept.{KeptSession, SameSession}
use Rattle.open_session.specs.Standing.{StandsFor}
use Rattle.open_session.specs.Turning.{added_in, fold_of, changes_in, HasTurned, IsTurn, CanBeAdded, AddsItsOwn}
use Rattle.replica_node.specs.declared.planned.Planned.TheVariants as planned
use Rattle.replica_node.specs.Standing.{StandsIn}
use Rattle.replica_node.specs.Serving.{WritesSized, FoldsWell, Serves}
use Rattle.replica_node.specs.Planning.{IsPlan, IsReady, node_with, IsPlanned}
use Rattle.replica_node.proofs.Holding.{NoRuns, kept_no_runs, can_fold, right_sized, part_well, fold_well}
use Rattle.replica_node.proofs.Keeping.{MayFold, Keeps}
use Rattle.replica_node.proofs.Witness.{memory_for, memory_stands}

-- a part that can be spelled, and whose blocks have the volume's length
pub record IsSizedPart (n : ℕ) (rec : Record) : Type 0 where
  pub spelled : IsRecord rec
  pub sized : WritesSized n rec

own_sized : (kept : KeptSession) (rec : Record) → CanBeAdded kept rec → IsSizedPart kept.shape.block rec
own_sized kept rec own =
    let right : has_right_shape kept.shape kept.region rec ≡ true = and_right ((rec.header.session == kept.replica.session) && (rec.header.region == kept.region)) (has_right_shape kept.shape kept.region rec) own.1 in
    record { spelled = own.0; sized = right_sized kept.shape kept.region rec right }

module _ (shape : Shape) (g : ℕ) (kept : KeptSession) where
  abbrev pub Ready : Held → List Change → Type 0
  Ready held changes = IsReady shape g held (Some kept) changes

  pub nothing_ready : (held : Held) → Serves shape g held (Some kept) → Ready held []
  unfolding after_changes
  nothing_ready held serves = record { each = tt; after = serves }

  -- what holds where all of the session counts
  well_of : (held : Held) → Serves shape g held (Some kept) → kept.whole ≡ true → FoldsWell shape.block held
  well_of held serves whole = serves.folds kept refl whole

  serves_with : (held next : Held) → Serves shape g held (Some kept) → (FoldsWell shape.block held → FoldsWell shape.block next) → Serves shape g next (Some kept)
  serves_with held next serves step = record { placed = serves.placed; folds = λ other is whole. step (serves.folds other is whole) }

  fold_ready : (held : Held) (fold : Option ℕ) → NoRuns held → Serves shape g held (Some kept) → AllByRecursion (MayFold kept.whole) (fold_of fold) → Ready held (fold_of fold)
  unfolding after_changes
  fold_ready held None none serves may = nothing_ready held serves
  fold_ready held (Some n) none serves may = record {
    each = (can_fold shape.block held (well_of held serves may.0), tt);
    after = serves_with held (changed shape held (FoldsTo n)) serves (λ well. fold_well shape shape.block n held none well);
  }

  pub turn_ready : (held : Held) (parts : List Record) (fold : Option ℕ) → NoRuns held → Serves shape g held (Some kept) → AllByRecursion (IsSizedPart shape.block) parts
      → AllByRecursion (MayFold kept.whole) (map (λ rec. AddsPart rec) parts ++ fold_of fold) → Ready held (map (λ rec. AddsPart rec) parts ++ fold_of fold)
  unfolding after_changes changed
  turn_ready held [] fold none serves own may = fold_ready held fold none serves may
  turn_ready held (rec ∷ parts) fold none serves own may =
      let next : Held = changed shape held (AddsPart rec) in
      let more : Ready next (map (λ r. AddsPart r) parts ++ fold_of fold) =
      turn_ready next parts fold (all_both (λ r. r.run ≡ None) held.parts (rec ∷ []) none (own.0.spelled.no_run, tt))
      (serves_with held next serves (λ well. part_well shape shape.block held rec well own.0.sized)) own.1 may.1 in
      record { each = (own.0.spelled, more.each); after = more.after }

-- the session after a turn serves what is held before it
serves_same : (shape : Shape) (g : ℕ) (held : Held) (old new : KeptSession) → SameSession old new → new.whole ≡ old.whole → Serves shape g held (Some old) → Serves shape g held (Some new)
serves_same shape g held old new same whole serves =
    let place : (old.shape ≡ shape) × (old.region ≡ g) = serves.placed old refl in
    record {
      placed = λ other is. let e : new ≡ other = same_Some new other is in subst (λ (k : KeptSession). (k.shape ≡ shape) × (k.region ≡ g)) e (same.shape ∙ place.0, same.region ∙ place.1);
      folds = λ other is yes. let e : new ≡ other = same_Some new other is in serves.folds old refl (sym whole ∙ ap (λ (k : KeptSession). k.whole) e ∙ yes);
    }

-- A turn by a rule of the session that keeps whether all of it counts.
pub turned_ready : (shape : Shape) (g : ℕ) (held : Held) (old new : KeptSession) (turn : Turn) (rule : Memory → RuleTurn) → NoRuns held → Serves shape g held (Some old)
    → SameSession old new → IsTurn rule old new turn → AddsItsOwn new turn → ((m : Memory) → Keeps m (rule m)) → IsReady shape g held (Some new) (changes_in new turn)
turned_ready shape g held old new turn rule none serves same by own keeps =
    let m : Memory = memory_for old in
    let stands : StandsFor old m = memory_stands old in
    let turned : HasTurned new turn (rule m) = by m stands in
    let k : Keeps m (rule m) = keeps m in
    let stays : new.whole ≡ m.whole = turned.memory.whole ∙ k.whole in
    let whole : new.whole ≡ old.whole = stays ∙ sym stands.whole in
    let after : Serves shape g held (Some new) = serves_same shape g held old new same whole serves in
    let at : new.shape ≡ shape = (after.placed new refl).0 in
    let may : AllByRecursion (MayFold new.whole) (changes_in new turn) = subst (λ (w : Bool). AllByRecursion (MayFold w) (changes_in new turn)) (sym stays) (subst (λ (l : List Change). AllByRecursion (MayFold m.whole) l) (sym turned.changes) k.folds) in
    let sized : AllByRecursion (IsSizedPart shape.block) (added_in new turn) =
    subst (λ (s : Shape). AllByRecursion (IsSizedPart s.block) (added_in new turn)) at (all_then (CanBeAdded new) (IsSizedPart new.shape.block) (λ rec o. own_sized new rec o) (added_in new turn) own.added) in
    turn_ready shape g new held (added_in new turn) turn.fold none after sized may

-- ---- plans

some_plan : (held : Held) (old new : KeptSession) (turn : Turn) (rule : Memory → RuleTurn) → IsTurn rule old new turn → (memory : Option Memory) → StandsIn (Some old) memory → IsPlan (Some new) (planned.Turned turn) (in_session (node_with held memory) rule)
some_plan held old new turn rule by None stands = absurd stands
some_plan held old new turn rule by (Some m) stands = let turned : HasTurned new turn (rule m) = by m stands in record { memory = turned.memory; outs = turned.outs; changes = turned.changes }

pub some_planned : (shape : Shape) (g : ℕ) (held : Held) (old new : KeptSession) (turn : Turn) (rule : Memory → RuleTurn) → NoRuns held → Serves shape g held (Some old)
    → SameSession old new → IsTurn rule old new turn → AddsItsOwn new turn → ((m : Memory) → Keeps m (rule m)) → IsPlanned shape g held (Some old) (Some new) (λ node. in_session node rule) (planned.Turned turn)
some_planned shape g held old new turn rule none serves same by own keeps = record { plan = some_plan held old new turn rule by; ready = turned_ready shape g held old new turn rule none serves same by own keeps }

-- By a rule of the session at its own place, where the session is there.
pub turned_planned : (shape : Shape) (g : ℕ) (held : Held) (session : Option KeptSession) (old new : KeptSession) (turn : Turn) (rule : Shape → ℕ → Memory → RuleTurn) → session ≡ Some old → CanBeKept held
    → Serves shape g held session → SameSession old new → IsTurn (rule old.shape old.region) old new turn → AddsItsOwn new turn → ((m : Memory) → Keeps m (rule shape g m))
    → IsPlanned shape g held session (Some new) (λ node. in_session node (rule shape g)) (planned.Turned turn)
turned_planned shape g held session old new turn rule is kept serves same by own keeps =
    let there : Serves shape g held (Some old) = subst (λ (o : Option KeptSession). Serves shape g held o) is serves in
    let place : (old.shape ≡ shape) × (old.region ≡ g) = there.placed old refl in
    let here : IsTurn (rule shape g) old new turn =
    subst (λ (r : ℕ). IsTurn (rule shape r) old new turn) place.1 (subst (λ (s : Shape). IsTurn (rule s old.region) old new turn) place.0 by) in
    subst (λ (o : Option KeptSession). IsPlanned shape g held o (Some new) (λ node. in_session node (rule shape g)) (planned.Turned turn)) (sym is)
    (some_planned shape g held old new turn (rule shape g) (kept_no_runs held kept) there same here own keeps)

pub same_session : (kept : KeptSession) → SameSession kept kept
same_session kept = record { shape = refl; region = refl; session = refl }

-- The same of a rule that leaves the session as it is.
pub lent_planned : (shape : Shape) (g : ℕ) (held : Held) (session : Option KeptSession) (old : KeptSession) (turn : Turn) (rule : Shape → ℕ → Memory → RuleTurn) → session ≡ Some old → CanBeKept held
    → Serves shape g held session → IsTurn (rule old.shape old.region) old old turn → AddsItsOwn old turn → ((m : Memory) → Keeps m (rule shape g m))
    → IsPlanned shape g held session session (λ node. in_session node (rule shape g)) (planned.Turned turn)
lent_planned shape g held session old turn rule is kept serves by own keeps =
    subst (λ (o : Option KeptSession). IsPlanned shape g held session o (λ node. in_session node (rule shape g)) (planned.Turned turn)) (sym is)
    (turned_planned shape g held session old old turn rule is kept serves (same_session old) by own keeps)
