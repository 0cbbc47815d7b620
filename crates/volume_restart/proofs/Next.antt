-- The greatest of the headers that are below, one header on.
use Rattle.std.proofs.Common.{◌≡◌, ◌⊎◌, ◌∙◌, Bool, true, false, ◌&&◌, cond, List, [], None, Some, Option, inl, inr, refl, sym, subst}
use Rattle.std.proofs.lemmas.Bool.{false≢true}
use Rattle.salus_types.specs.declared.records.Header.{Header}
use Rattle.merkle_region.specs.Tree.{IsAmong}
use Rattle.volume_model.specs.Recovering.{is_above}
use Rattle.volume_restart.specs.Choosing.{better, is_below, IsNext}
use Rattle.volume_restart.proofs.Ordering.{through, itself}

pub next-none : (tried : Option Header) → IsNext [] tried None
next-none tried = λ h m. absurd m

module _ (before now : List Header) (tried : Option Header) (x : Header) (this : IsAmong x now) (passed : (h : Header) → IsAmong h before → IsAmong h now)
    (split : (h : Header) → IsAmong h now → IsAmong h before ⊎ (h ≡ x)) where
  module _ (below : is_below x tried ≡ true) where
    new_best : (best : Option Header) → IsNext before tried best → is_above x best ≡ true → IsNext now tried (Some x)
    new_best best next up = (
      this,
      below,
      λ h m b. elim (split h m) [
        | inl a ↦ not_above best next up h a b
        | inr e ↦ subst (λ (w : Header). is_above w (Some x) ≡ false) (sym e) (itself x)
      ],
    ) where
      not_above : (best : Option Header) → IsNext before tried best → is_above x best ≡ true → (h : Header) → IsAmong h before → is_below h tried ≡ true → is_above h (Some x) ≡ false
      not_above None next up h a b = absurd (false≢true (sym (next h a) ∙ b))
      not_above (Some old) next up h a b = through x old h up (next.2 h a b)

    old_best : (best : Option Header) → IsNext before tried best → is_above x best ≡ false → IsNext now tried best
    old_best None next down = absurd (false≢true (sym down))
    old_best (Some old) next down = (
      passed old next.0,
      next.1,
      λ h m b. elim (split h m) [
        | inl a ↦ next.2 h a b
        | inr e ↦ subst (λ (w : Header). is_above w (Some old) ≡ false) (sym e) down
      ],
    )

  same_best : (best : Option Header) → IsNext before tried best → is_below x tried ≡ false → IsNext now tried best
  same_best None next above = λ h m. elim (split h m) [
    | inl a ↦ next h a
    | inr e ↦ subst (λ (w : Header). is_below w tried ≡ false) (sym e) above
  ]
  same_best (Some old) next above = (
    passed old next.0,
    next.1,
    λ h m b. elim (split h m) [
      | inl a ↦ next.2 h a b
      | inr e ↦ absurd (false≢true (sym above ∙ (subst (λ (w : Header). is_below w tried ≡ true) e b)))
    ],
  )

  by_test : (best : Option Header) (s t : Bool) → is_below x tried ≡ s → is_above x best ≡ t → IsNext before tried best → IsNext now tried (cond (s && t) (Some x) best)
  by_test best true true b a next = new_best b best next a
  by_test best true false b a next = old_best b best next a
  by_test best false t b a next = same_best best next b

  pub next-more : (best : Option Header) → IsNext before tried best → IsNext now tried (better tried best x)
  next-more best next = by_test best (is_below x tried) (is_above x best) refl refl next
