-- A region's number after any first batches of a session, in both models; after no more than those with which it starts, it is the start.
use Rattle.std.proofs.Common.{◌≡◌, ◌∙◌, ℕ, ◌+◌, ◌<◌, ◌≤◌, List, length, take, inl, inr, ap, sym, arith}
use Rattle.std.proofs.lemmas.Bool.{cases_lt}
use Rattle.std.proofs.lemmas.List.{drop_all, length-take}
use Rattle.salus_types.specs.Volume.{Shape, regions}
use Rattle.volume_model.specs.Parts.{Session, last_touch, number_of}
use Rattle.law_lemmas.proofs.Numbered.{IsSized}
use Rattle.law_prefix.specs.Numbers.{last, number}
use Rattle.law_prefix.proofs.Counting.{last_bound}
use Rattle.kept_model.specs.Batches.{touching}
use Rattle.law_records.proofs.Numbers.{number_as}

module _ (shape : Shape) (known : Session) (sized : IsSized shape known) (g : ℕ) (inside : g < regions shape) where
  low_number : (s : ℕ) → s ≤ known.base → number_of shape known s g ≡ known.base
  unfolding last_touch
  low_number s low = ap (last_touch shape g known.base (known.base + 1)) (drop_all known.base (take s known.list) (omega (arith, low, length-take s known.list)))

  low_abstract : (bs : List (List ℕ)) (s : ℕ) → s ≤ known.base → number bs known.base s g ≡ known.base
  low_abstract bs s low = let m : last bs s g ≤ s = last_bound bs s g in omega arith

  pub number_same : (s : ℕ) → s ≤ length known.list → number (touching shape known.list) known.base s g ≡ number_of shape known s g
  number_same s within = elim (cases_lt known.base s) [
    | inl above ↦ number_as shape known sized g inside s (omega (arith, above)) within
    | inr low ↦ low_abstract (touching shape known.list) s low ∙ sym (low_number s low)
  ]
