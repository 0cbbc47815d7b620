-- Once every part has come, the view has reached them all: below one that it hasn't there would be another.
use Rattle.std.proofs.Common.{◌≡◌, ⊎_elim, ℕ, zero, suc, ◌<◌, ◌≤◌, ◌==◌, true, arith, eqb-true}
use Rattle.salus_types.specs.Volume.{Shape}
use Rattle.salus_types.specs.declared.records.Record.{Record}
use Rattle.replica_rules.specs.Views.{View}
use Rattle.replica_rules.specs.Replicas.{Replica, has_early}
use Rattle.list_lemmas.proofs.Members.{among_all, any_among}
use Rattle.law_answers.specs.Turning.{IsChain, IsInTurn, HasCome, IsLinked}

module _ (shape : Shape) (IsPart : Record → Type 0) (IsView : View → Type 0) (chain : IsChain shape IsPart IsView) (r : Replica) (turn : IsInTurn IsPart IsView r)
    (linked : IsLinked IsPart r.view.number) (come : (rec : Record) → IsPart rec → HasCome rec r) where
  -- what is kept in place of a part goes on from above the view's number, and so does the part
  above : (rec : Record) → has_early r.early rec.header.previous ≡ true → r.view.number < rec.header.previous
  above rec kept =
      let e = any_among (λ (e : Record). e.header.previous == rec.header.previous) r.early kept in
      let of = among_all (λ (e : Record). IsPart e × (r.view.number < e.header.previous)) r.early e.0 e.1 turn.early in
      let up : r.view.number < e.0.header.previous = of.1 in
      let same : e.0.header.previous ≡ rec.header.previous = eqb-true e.0.header.previous rec.header.previous e.2 in
      omega (arith, up, same)

  none_above : (bound : ℕ) (rec : Record) → rec.header.seq < bound → IsPart rec → rec.header.seq ≤ r.view.number
  none_above zero rec below part = omega (arith, below)
  none_above (suc bound) rec below part =
      ⊎_elim (λ (known : rec.header.seq ≤ r.view.number). known)
      (λ (kept : has_early r.early rec.header.previous ≡ true).
      let up : r.view.number < rec.header.previous = above rec kept in
      let before = linked rec part up in
      let falls : rec.header.previous < rec.header.seq = chain.rises rec part in
      let same : before.0.header.seq ≡ rec.header.previous = before.2 in
      let low : before.0.header.seq ≤ r.view.number = none_above bound before.0 (omega (arith, same, falls, below)) before.1 in
      omega (arith, up, same, low)) (come rec part)

  pub all_reached : (rec : Record) → IsPart rec → rec.header.seq ≤ r.view.number
  all_reached rec part = none_above (suc rec.header.seq) rec (omega arith) part
