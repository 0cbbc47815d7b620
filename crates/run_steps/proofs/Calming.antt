-- When a call of a node's disk may fail, with one step and one event more.
use Rattle.std.proofs.Common.{◌≡◌, ◌∙◌, ◌⊎◌, inl, inr, ℕ, zero, suc, ◌+◌, ◌-◌, ◌<◌, ◌≤◌, Bool, true, false, ◌&&◌, ◌||◌, not, nat_lt, List, [], ◌∷◌, ◌++◌, reverse, None, Some, Option, refl, sym, ap, subst, arith}
use Rattle.std.specs.List.{AllByRecursion, list_any, range_with_len}
use Rattle.std.proofs.lemmas.Bool.{ltb-true}
use Rattle.salus_types.specs.declared.names.NodeName.{NodeName}
use Rattle.salus_types.specs.declared.names.Sender.{Sender}
use Rattle.salus_types.specs.declared.names.Sender.TheVariants as sender
use Rattle.schedule_text.specs.declared.schedule.Event.{Event}
use Rattle.volume_model.specs.Groups.{same_node, same_party}
use Rattle.salus_model.specs.declared.trace.TraceStep.{TraceStep}
use Rattle.salus_model.specs.Judge.{event_at}
use Rattle.salus_model.specs.Following.{loads}
use Rattle.run_rules.specs.Calm.{names_failing, loads_node, is_failing_by, is_harmed, is_harmed_party, MayFail, CalmFrom, Calm}
use Rattle.list_lemmas.proofs.Tests.{by_bool, and_false, or_false, or_assoc}
use Rattle.list_lemmas.proofs.Lists.{list_any_same}
use Rattle.run_steps.proofs.Stepping.{turned}

module _ (events : List Event) where
  -- ---- one step more

  calm_push : (earlier steps : List TraceStep) (step : TraceStep) → CalmFrom events earlier steps → (step.failed ≡ true → MayFail events (reverse steps ++ earlier) step) → CalmFrom events earlier (steps ++ step ∷ [])
  unfolding CalmFrom
  calm_push earlier [] step calm new = (new, tt)
  calm_push earlier (first ∷ steps) step calm new =
      (calm.0, calm_push (first ∷ earlier) steps step calm.1 (λ failed. subst (λ (l : List TraceStep). MayFail events l step) (sym (turned first steps earlier)) (new failed)))

  pub calm_next : (trace : List TraceStep) (step : TraceStep) → Calm events trace → (step.failed ≡ true → MayFail events (reverse trace) step) → Calm events (trace ++ step ∷ [])
  calm_next trace step calm new = calm_push [] trace step calm (λ failed. subst (λ (l : List TraceStep). MayFail events l step) (sym (end (reverse trace))) (new failed)) where
    end : (l : List TraceStep) → l ++ [] ≡ l
    end [] = refl
    end (x ∷ l) = ap (λ (r : List TraceStep). x ∷ r) (end l)

  -- a step that doesn't load the node changes nothing
  pub harmed_still : (earlier : List TraceStep) (step : TraceStep) (n : ℕ) (name : NodeName) → loads_node name step ≡ false → is_harmed events (step ∷ earlier) n name ≡ is_harmed events earlier n name
  harmed_still earlier step n name none = list_any_same (λ u. is_failing_by events (step ∷ earlier) name u) (λ u. is_failing_by events earlier name u) each (range_with_len 1 (n - 1)) where
    tests : ℕ → Bool
    tests u = list_any (λ s. nat_lt u s.event && loads_node name s) earlier

    each : (u : ℕ) → is_failing_by events (step ∷ earlier) name u ≡ is_failing_by events earlier name u
    each u =
        ap (λ (b : Bool). names_failing name (event_at events u) && not ((nat_lt u step.event && b) || tests u)) none
        ∙ ap (λ (b : Bool). names_failing name (event_at events u) && not (b || tests u)) (and_false (nat_lt u step.event))

  -- a step of another node doesn't
  pub other_loads : (step : TraceStep) (name other : NodeName) → step.party ≡ sender.Node name → same_node name other ≡ false → loads_node other step ≡ false
  other_loads step name other party differs =
      ap (λ (p : Sender). loads step.handed && same_party p (sender.Node other)) party ∙ (ap (λ (b : Bool). loads step.handed && b) differs ∙ and_false (loads step.handed))

  pub client_loads : (step : TraceStep) (other : NodeName) → step.party ≡ sender.Client → loads_node other step ≡ false
  client_loads step other party = ap (λ (p : Sender). loads step.handed && same_party p (sender.Node other)) party ∙ and_false (loads step.handed)

  pub unloading : (step : TraceStep) (other : NodeName) → loads step.handed ≡ false → loads_node other step ≡ false
  unloading step other none = ap (λ (b : Bool). b && same_party step.party (sender.Node other)) none

  -- where a node isn't harmed, no call fails in its step
  pub may_fail : (earlier : List TraceStep) (step : TraceStep) (n : ℕ) (name : NodeName) → step.event ≡ n → step.party ≡ sender.Node name
      → (is_harmed events earlier n name ≡ false → step.failed ≡ false) → step.failed ≡ true → MayFail events earlier step
  may_fail earlier step n name number party calm failed =
      inr (ap (λ (p : Sender). is_harmed_party events earlier step.event p) party
      ∙ (ap (λ (v : ℕ). is_harmed events earlier v name) number ∙ by_bool (is_harmed events earlier n name) (is_harmed events earlier n name ≡ true) (λ e. e) (λ e. absurd (not_both (calm e) failed)))) where
        not_both : {b : Bool} → b ≡ false → b ≡ true → ⊥
        not_both is also = cc

  -- ---- one event more

  any_end : (f : ℕ → Bool) (a n : ℕ) → list_any f (range_with_len a (n + 1)) ≡ (list_any f (range_with_len a n) || f (a + n))
  any_end f a zero = or_false (f a) ∙ ap f (same a) where
    same : (a : ℕ) → a ≡ a + 0
    same a = omega arith
  any_end f a (suc n) =
      ap (λ (k : ℕ). list_any f (range_with_len a k)) (turn n) ∙ ap (λ (b : Bool). f a || b) (any_end f (a + 1) n)
      ∙ (or_assoc (f a) (list_any f (range_with_len (a + 1) n)) (f (a + 1 + n)) ∙ ap (λ (k : ℕ). (f a || list_any f (range_with_len (a + 1) n)) || f k) (up a n))
    where
      turn : (n : ℕ) → suc n + 1 ≡ suc (n + 1)
      turn n = omega arith

      up : (a n : ℕ) → a + 1 + n ≡ a + suc n
      up a n = omega arith

  none_later : (n : ℕ) (name : NodeName) (steps : List TraceStep) → AllByRecursion (λ s. s.event ≤ n) steps → list_any (λ s. nat_lt n s.event && loads_node name s) steps ≡ false
  none_later n name [] all = refl
  none_later n name (s ∷ steps) all =
      ap (λ (b : Bool). (b && loads_node name s) || list_any (λ t. nat_lt n t.event && loads_node name t) steps) (low n s.event all.0) ∙ none_later n name steps all.1
    where
      low : (n v : ℕ) → v ≤ n → nat_lt n v ≡ false
      low n v le = by_bool (nat_lt n v) (nat_lt n v ≡ false) (λ e. let up : n < v = ltb-true n v e in absurd (omega (arith, up, le))) (λ e. e)

  or_first : (a b : Bool) → (a || b) ≡ false → a ≡ false
  or_first true b e = absurd (cc)
  or_first false b e = refl

  or_second : (a b : Bool) → (a || b) ≡ false → b ≡ false
  or_second true b e = absurd (cc)
  or_second false b e = e

  and_yes : (b : Bool) → (b && not false) ≡ false → b ≡ false
  and_yes true e = absurd (cc)
  and_yes false e = refl

  -- who isn't harmed after the event wasn't before it, and the event doesn't name it
  pub harmed_next : (earlier : List TraceStep) (n : ℕ) (name : NodeName) → 1 ≤ n → AllByRecursion (λ s. s.event ≤ n) earlier → is_harmed events earlier (n + 1) name ≡ false
      → (is_harmed events earlier n name ≡ false) × (names_failing name (event_at events n) ≡ false)
  harmed_next earlier n name some all none =
      let f : ℕ → Bool = λ u. is_failing_by events earlier name u in
      let count : n + 1 - 1 ≡ (n - 1) + 1 = omega (arith, some) in
      let last : 1 + (n - 1) ≡ n = omega (arith, some) in
      let split : list_any f (range_with_len 1 (n + 1 - 1)) ≡ (list_any f (range_with_len 1 (n - 1)) || f n) =
      ap (λ (k : ℕ). list_any f (range_with_len 1 k)) count ∙ (any_end f 1 (n - 1) ∙ ap (λ (k : ℕ). list_any f (range_with_len 1 (n - 1)) || f k) last) in
      let both : (list_any f (range_with_len 1 (n - 1)) || f n) ≡ false = sym split ∙ none in
      let here : (names_failing name (event_at events n) && not false) ≡ false =
      sym (ap (λ (b : Bool). names_failing name (event_at events n) && not b) (none_later n name earlier all)) ∙ or_second (list_any f (range_with_len 1 (n - 1))) (f n) both in
      (or_first (list_any f (range_with_len 1 (n - 1))) (f n) both, and_yes (names_failing name (event_at events n)) here)
