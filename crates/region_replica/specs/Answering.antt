-- What a replica answers to a part, and where.
use Rattle.std.specs.Prelude.{◌≡◌, ◌≢◌, ◌⊎◌, ◌<◌, ◌≤◌, false, IsTrue, List, [], ◌∷◌, length}
use Rattle.salus_types.specs.declared.records.Record.{Record}
use Rattle.replica_rules.specs.Views.{view_after, view_root, is_accepted}
use Rattle.replica_rules.specs.Replicas.{PartAnswer as RuleAnswer, Foreign as IsForeign, Known as IsKnown, Early as IsEarly, Full as IsFull, Differs as RootDiffers, Next as IsApplied, has_early, is_for, take_part}
use Rattle.region_replica.specs.Serving.{Serving, IsFor, now_as}
use Rattle.region_replica.specs.Leading.{LeadTo}
use Rattle.region_replica.specs.declared.answer.PartAnswer.{PartAnswer}
use Rattle.region_replica.specs.declared.answer.PartAnswer.TheVariants.{Foreign, Known, Early, Full, Differs, Next}

-- the answer of the rules; a part that is applied is handed back
abbrev pub told_as : RuleAnswer → Record → PartAnswer
told_as IsForeign rec = Foreign
told_as IsKnown rec = Known
told_as IsEarly rec = Early
told_as IsFull rec = Full
told_as (RootDiffers held got) rec = Differs held got
told_as IsApplied rec = Next rec

-- the parts that were applied
abbrev pub applied_by : PartAnswer → List Record
applied_by (Next rec) = rec ∷ []
applied_by Foreign = []
applied_by Known = []
applied_by Early = []
applied_by Full = []
applied_by (Differs held got) = []

-- ---- where each answer comes

-- it is for the replica, its number is above the view's, and it goes on from the view's number
pub record IsNext (before : Serving) (rec : Record) : Type 0 where
  pub own : IsFor before rec
  pub above : before.replica.view.number < rec.header.seq
  pub next : rec.header.previous ≡ before.replica.view.number

-- it is for the replica, its number is above the view's, and it goes on from another number
pub record IsAhead (before : Serving) (rec : Record) : Type 0 where
  pub own : IsFor before rec
  pub above : before.replica.view.number < rec.header.seq
  pub later : rec.header.previous ≢ before.replica.view.number

abbrev pub Tells : Serving → Record → PartAnswer → Type 0
Tells before rec Foreign = is_for before.shape before.region before.replica rec ≡ false
Tells before rec Known = IsFor before rec × (rec.header.seq ≤ before.replica.view.number)
Tells before rec Early = IsAhead before rec × (IsTrue (has_early before.replica.early rec.header.previous) ⊎ (length before.replica.early < 16))
Tells before rec Full = IsAhead before rec × (has_early before.replica.early rec.header.previous ≡ false) × (16 ≤ length before.replica.early)
Tells before rec (Differs held got) =
    IsNext before rec × (held ≡ rec.header.root) × (got ≡ view_root before.shape (view_after before.shape before.replica.view rec)) × (held ≢ got)
Tells before rec (Next given) = IsNext before rec × IsTrue (is_accepted before.shape before.replica.view rec) × (given ≡ rec)

-- ---- what has become of a part

-- The answer, and what the replica has become, are those of the rules. Each answer comes exactly where its condition holds.
-- A part that is applied leads from the old view to the new one, whose number doesn't fall.
pub record IsTaken (before : Serving) (rec : Record) (after : Serving) (given : PartAnswer) : Type 0 where
  pub answer : given ≡ told_as (take_part before.shape before.region before.replica rec).answer rec
  pub state : after ≡ now_as before (take_part before.shape before.region before.replica rec).replica
  pub told : Tells before rec given
  pub only : (other : PartAnswer) → Tells before rec other → given ≡ other
  pub applied : LeadTo before.shape before.replica.view (applied_by given) after.replica.view
  pub rises : before.replica.view.number ≤ after.replica.view.number
