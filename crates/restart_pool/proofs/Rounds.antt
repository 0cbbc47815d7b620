-- The rounds in which ways get longer.
use Rattle.std.proofs.Common.{◌≡◌, ◌⊎◌, ℕ, ◌+◌, ◌-◌, ◌<◌, ◌≤◌, ◌∙◌, List, [], ◌∷◌, length, take, inl, inr, refl, ap, subst, sym, arith}
use Rattle.std.proofs.lemmas.Option.{same_Some}
use Rattle.std.proofs.lemmas.List.{take_all}
use Rattle.merkle_region.specs.Tree.{IsAmong}
use Rattle.volume_model.specs.Recovering.{End}
use Rattle.restart_pool.specs.declared.chain.Way.{Way}
use Rattle.restart_pool.specs.declared.replay.Whole.{Whole}
use Rattle.restart_pool.specs.Following.{Chains, follow, later_of, ends, LeadsTo, EachLeads, EachBelow, NoneIsWay, NoneFollows, NoneBegins, SomeBegins, IsEndAt, AddsLonger, AreLonger}
use Rattle.restart_pool.proofs.Ends.{begun}
use Rattle.restart_pool.proofs.Highest.{highest, each-highest, highest-least}

module _ (c : Chains) where
  -- one way more was made longer
  module _ (before now : List Way) (way : Way) (old new : List Way) (passed : (w : Way) → IsAmong w before → IsAmong w now) (this : IsAmong way now)
      (split : (w : Way) → IsAmong w now → IsAmong w before ⊎ (w ≡ way)) (longer : AreLonger c before old) (adds : AddsLonger c way old new) where
    lower_on : (n : ℕ) → EachBelow (n + 1) now → EachBelow n new
    lower_on n below = let here = below way this in adds.lengthened.lower n (longer.lower n (λ w m. below w (passed w m))) (omega (arith, here))

    leads_on : (x : ℕ) → EachLeads c x now → EachLeads c x new
    leads_on x leads = adds.lengthened.leads x (longer.leads x (λ w m. leads w (passed w m))) (leads way this)

    covers_on : NoneIsWay c new → NoneBegins c now → NoneIsWay c now
    covers_on none begins w m = elim (split w m) [
      | inl a ↦ longer.covers (λ v k. none v (adds.lengthened.keeps v k)) (λ v k. begins v (passed v k)) w a
      | inr e ↦ subst (λ (v : Way). NoneFollows c v.at (later_of c v)) (sym e) (adds.covers none (begins way this))
    ]

    pub longer-on : AreLonger c now new
    longer-on = record { lower = lower_on; leads = leads_on; covers = covers_on }

  -- the first way
  pub first-leads : (x : ℕ) (way : Way) → way.at ≡ x → way.later.items ≡ [] → EachLeads c x (way ∷ [])
  unfolding follow
  first-leads x way at later w (inl e) =
      subst (λ (v : Way). LeadsTo c x v.at (later_of c v)) (sym e)
      (rw later (λ end last m from is. let same : end ≡ last = same_Some end last is in (subst (λ (l : End). IsAmong l (ends c)) same m, sym (ap (λ (l : End). l.at) same) ∙ (from ∙ at))))
  first-leads x way at later w (inr m) = absurd m

  pub first-covers : (x : ℕ) (way : Way) → way.at ≡ x → way.later.items ≡ [] → NoneIsWay c (way ∷ []) → NoneFollows c x []
  first-covers x way at later none = let here = none way (inl refl) in subst (λ n. NoneFollows c n []) at (rw later at here)

  pub some-found : (x : ℕ) (ways : List Way) (whole : Whole) → EachLeads c x ways → SomeBegins c ways whole → IsEndAt c x whole
  some-found x ways whole leads b = begun c x b.way whole (leads b.way b.among) b.begins

  highest-some : (ways : List Way) → 0 < length ways → 0 < highest ways
  unfolding highest
  highest-some [] some = absurd (omega arith)
  highest-some (way ∷ ways) some = omega arith

  pub falls : (ways longer : List Way) → 0 < length ways → AreLonger c ways longer → highest longer < highest ways
  falls ways longer some are =
      let high = highest-some ways some in
      let n = highest ways - 1 in
      let same : highest ways ≡ n + 1 = omega (arith, high) in
      let least = highest-least n longer (are.lower n (subst (λ k. EachBelow k ways) same (each-highest ways))) in
      omega (arith, least, high)

  -- all ways were made longer
  pub longer-all : (ways : List Way) (i : ℕ) (longer : List Way) → length ways ≤ i → AreLonger c (take i ways) longer → AreLonger c ways longer
  longer-all ways i longer le are = subst (λ ws. AreLonger c ws longer) (take_all i ways le) are

  pub none-left : (ways : List Way) → length ways ≡ 0 → NoneIsWay c ways
  none-left [] n = λ w m. absurd m
  none-left (way ∷ ways) n = absurd (omega arith)
