-- The requests that were taken: each is one of the schedule, and they ascend.
use Rattle.std.proofs.Common.{◌≡◌, ℕ, ◌+◌, ◌<◌, ◌≤◌, Bool, true, false, if◌then◌else◌, cond, List, [], ◌∷◌, ◌++◌, inl, inr, refl, ap, sym, subst, arith}
use Rattle.std.specs.Prelude.{filter}
use Rattle.salus_types.specs.Volume.{Shape}
use Rattle.merkle_region.specs.Tree.{IsAmong}
use Rattle.merkle_region.proofs.Membership.{among_either}
use Rattle.schedule_text.specs.declared.schedule.Event.{Event}
use Rattle.salus_model.specs.Waiting.{Taken, is_write, left_of}
use Rattle.list_lemmas.proofs.Members.{among_filter}
use Rattle.law_history.proofs.Fairly.{IsRequested}

-- each was asked later than those before it
abbrev pub Ascends : ℕ → List Taken → Type 0
Ascends low [] = Unit {0}
Ascends low (r ∷ rs) = (low < r.event) × Ascends r.event rs

pub ascends_wider : (rs : List Taken) (low lower : ℕ) → lower ≤ low → Ascends low rs → Ascends lower rs
ascends_wider [] low lower h up = tt
ascends_wider (r ∷ rs) low lower h up = let first = up.0 in (omega arith, up.1)

pub ascends_later : (rs : List Taken) (low : ℕ) (r : Taken) → Ascends low rs → IsAmong r rs → low < r.event
ascends_later [] low r up m = absurd m
ascends_later (x ∷ rs) low r up (inl e) = subst (λ y. low < y.event) (sym e) up.0
ascends_later (x ∷ rs) low r up (inr m) = let first = up.0 in let later = ascends_later rs x.event r up.1 m in omega arith

ascends_kept : (test : Taken → Bool) (r : Taken) (rs : List Taken) (low : ℕ) (t : Bool) → low < r.event → Ascends r.event (filter test rs)
    → Ascends low (cond t (r ∷ filter test rs) (filter test rs))
ascends_kept test r rs low true first rest = (first, rest)
ascends_kept test r rs low false first rest = ascends_wider (filter test rs) r.event low (omega arith) rest

ascends_filter : (test : Taken → Bool) (rs : List Taken) (low : ℕ) → Ascends low rs → Ascends low (filter test rs)
ascends_filter test [] low up = tt
ascends_filter test (r ∷ rs) low up = ascends_kept test r rs low (test r) up.0 (ascends_filter test rs r.event up.1)

ascends_left_step : (r : Taken) (rs : List Taken) (low : ℕ) (t : Bool) → low < r.event → Ascends r.event (left_of rs) → Ascends low (if t then [] else r ∷ left_of rs)
ascends_left_step r rs low true first rest = tt
ascends_left_step r rs low false first rest = (first, rest)

ascends_left : (rs : List Taken) (low : ℕ) → Ascends low rs → Ascends low (left_of rs)
unfolding left_of
ascends_left [] low up = tt
ascends_left (r ∷ rs) low up = ascends_left_step r rs low (is_write r.request) up.0 (ascends_left rs r.event up.1)

left_step : (r x : Taken) (rs : List Taken) (t : Bool) → is_write r.request ≡ t → (IsAmong x (left_of rs) → IsAmong x rs)
    → IsAmong x (if t then [] else r ∷ left_of rs) → IsAmong x (r ∷ rs)
left_step r x rs true is rest m = absurd m
left_step r x rs false is rest (inl e) = inl e
left_step r x rs false is rest (inr m) = inr (rest m)

pub among_left_of : (rs : List Taken) (x : Taken) → IsAmong x (left_of rs) → IsAmong x rs
unfolding left_of
among_left_of [] x m = m
among_left_of (r ∷ rs) x m = left_step r x rs (is_write r.request) refl (among_left_of rs x) m

ascends_push : (rs : List Taken) (low : ℕ) (r : Taken) → Ascends low rs → low < r.event → ((x : Taken) → IsAmong x rs → x.event < r.event) → Ascends low (rs ++ r ∷ [])
ascends_push [] low r up first later = (first, tt)
ascends_push (x ∷ rs) low r up first later = (up.0, ascends_push rs x.event r up.1 (later x (inl refl)) (λ y m. later y (inr m)))

-- requests of events below m
pub record AreGood (shape : Shape) (events : List Event) (m : ℕ) (requests : List Taken) : Type 0 where
  pub each : (r : Taken) → IsAmong r requests → IsRequested shape events r.event r.request
  pub below : (r : Taken) → IsAmong r requests → r.event < m
  pub ascends : Ascends 0 requests

module _ (shape : Shape) (events : List Event) where
  pub good_none : (m : ℕ) → AreGood shape events m []
  good_none m = record { each = λ r m. absurd m; below = λ r m. absurd m; ascends = tt }

  pub good_wider : (m more : ℕ) (rs : List Taken) → m ≤ more → AreGood shape events m rs → AreGood shape events more rs
  good_wider m more rs h good = record { each = good.each; below = λ r among. (let low = good.below r among in omega arith); ascends = good.ascends }

  pub good_filter : (m : ℕ) (test : Taken → Bool) (rs : List Taken) → AreGood shape events m rs → AreGood shape events m (filter test rs)
  good_filter m test rs good = record {
    each = λ r among. good.each r (among_filter test r rs among).0;
    below = λ r among. good.below r (among_filter test r rs among).0;
    ascends = ascends_filter test rs 0 good.ascends;
  }

  pub good_left : (m : ℕ) (rs : List Taken) → AreGood shape events m rs → AreGood shape events m (left_of rs)
  good_left m rs good = record {
    each = λ r among. good.each r (among_left_of rs r among);
    below = λ r among. good.below r (among_left_of rs r among);
    ascends = ascends_left rs 0 good.ascends;
  }

  pub good_push : (n : ℕ) (rs : List Taken) (r : Taken) → AreGood shape events n rs → 0 < n → r.event ≡ n → IsRequested shape events r.event r.request
      → AreGood shape events (n + 1) (rs ++ r ∷ [])
  good_push n rs r good positive here asked = record {
    each = λ x among. elim (among_either x rs (r ∷ []) among) [
      | inl old ↦ good.each x old
      | inr (inl e) ↦ subst (λ y. IsRequested shape events y.event y.request) (sym e) asked
      | inr (inr m) ↦ absurd m
    ];
    below = λ x among. elim (among_either x rs (r ∷ []) among) [
      | inl old ↦ (let low = good.below x old in omega arith)
      | inr (inl e) ↦ (let same : x.event ≡ r.event = ap (λ y. y.event) e in omega arith)
      | inr (inr m) ↦ absurd m
    ];
    ascends = ascends_push rs 0 r good.ascends (omega arith) (λ x among. (let low = good.below x among in omega arith));
  }
