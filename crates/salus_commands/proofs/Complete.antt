-- A replay ends with no other status than it should.
use Rattle.std.proofs.Common.{◌≡◌, ◌⊎◌, ℕ, List, [], ◌∷◌, Option, IfSome, inl, inr, subst}
use Rattle.merkle_region.specs.Tree.{IsAmong}
use Rattle.salus_commands.specs.declared.report.Report.{Report}
use Rattle.salus_commands.specs.Refusing.{IsRefused}
use Rattle.salus_commands.specs.Replaying.{RanSchedule}
use Rattle.salus_commands.specs.Statuses.{HasSchedule, HasRefused, WroteRefusal}

-- the statuses that are left
pub done_or_memory : (status : ℕ) → IsAmong status (0 ∷ 3 ∷ 4 ∷ 5 ∷ 6 ∷ []) → (status ≡ 3 → ⊥) → (status ≡ 4 → ⊥) → (status ≡ 5 → ⊥) → (status ≡ 0) ⊎ (status ≡ 6)
done_or_memory status (inl done) refused source sink = inl done
done_or_memory status (inr (inl three)) refused source sink = absurd (refused three)
done_or_memory status (inr (inr (inl four))) refused source sink = absurd (source four)
done_or_memory status (inr (inr (inr (inl five)))) refused source sink = absurd (sink five)
done_or_memory status (inr (inr (inr (inr (inl six))))) refused source sink = inr six
done_or_memory status (inr (inr (inr (inr (inr none))))) refused source sink = absurd none

pub refused_or_memory : (status : ℕ) → IsAmong status (0 ∷ 3 ∷ 4 ∷ 5 ∷ 6 ∷ []) → (status ≡ 0 → ⊥) → (status ≡ 4 → ⊥) → (status ≡ 5 → ⊥) → (status ≡ 3) ⊎ (status ≡ 6)
refused_or_memory status (inl done) ran source sink = absurd (ran done)
refused_or_memory status (inr (inl three)) ran source sink = inl three
refused_or_memory status (inr (inr (inl four))) ran source sink = absurd (source four)
refused_or_memory status (inr (inr (inr (inl five)))) ran source sink = absurd (sink five)
refused_or_memory status (inr (inr (inr (inr (inl six))))) ran source sink = inr six
refused_or_memory status (inr (inr (inr (inr (inr none))))) ran source sink = absurd none

pub never_refused : (old new held_old held_new : Option (List ℕ)) → HasSchedule old → WroteRefusal old new held_old held_new → ⊥
never_refused old new held_old held_new has wrote =
    (subst (λ (left : Option (List ℕ)). IfSome left (λ text. IsRefused text wrote.why)) has.told wrote.refused.refused).1 has.schedule has.means

pub never_ran : (old : Option (List ℕ)) (report : Report) → HasRefused old → RanSchedule old report → ⊥
never_ran old report has ran =
    let same : has.text ≡ ran.text = subst (λ (left : Option (List ℕ)). IfSome left (λ bytes. bytes ≡ ran.text)) has.told ran.told in
    (subst (λ (text : List ℕ). IsRefused text has.why) same has.refused).1 ran.ran.schedule ran.ran.means
