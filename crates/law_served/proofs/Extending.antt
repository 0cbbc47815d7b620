-- A session's parts and views stay so as its list grows.
use Rattle.std.proofs.Common.{◌≡◌, ◌∙◌, inl, inr, ℕ, ◌+◌, ◌-◌, ◌<◌, ◌≤◌, List, [], ◌++◌, length, get_or, drop, refl, sym, ap, subst, arith, length-append}
use Rattle.std.proofs.lemmas.List.{take-append-le, get_or_append_left}
use Rattle.salus_types.specs.Volume.{Shape}
use Rattle.salus_types.specs.declared.records.Record.{Record}
use Rattle.volume_model.specs.Contents.{Batch, blocks_in, fold_batches}
use Rattle.volume_model.specs.Parts.{Session, touches, last_touch, part_of, base_of}
use Rattle.salus_model.specs.Forgery.{IsPartOf}
use Rattle.replica_rules.specs.Views.{View}
use Rattle.replica_rules.specs.Replicas.{Replica}
use Rattle.list_lemmas.proofs.Each.{all_then}
use Rattle.law_lemmas.proofs.Growing.{extended, own_extended}
use Rattle.law_lemmas.proofs.Numbered.{IsSized}
use Rattle.law_answers.specs.Turning.{IsInTurn}
use Rattle.law_reads.specs.Chained.{IsViewOf}

module _ (shape : Shape) (key : List ℕ) (g : ℕ) where
  pub part-number : (known : Session) (s : ℕ) → (part_of shape key known s g).header.seq ≡ s
  unfolding part_of
  part-number known s = refl

  pub base-number : (known : Session) → (base_of shape key known g).header.seq ≡ known.base
  unfolding base_of
  base-number known = refl

  module _ (known : Session) (sized : IsSized shape known) (more : List Batch) where
    abbrev next : Session
    next = extended known more

    pub part_on : (rec : Record) → IsPartOf shape key known g rec → IsPartOf shape key next g rec
    part_on rec part = elim (own_extended shape key known g rec more sized.begun (inl part)) [
      | inl own ↦ own
      | inr base ↦
          let above : known.base < part.s = part.own in
          let as_part : rec.header.seq ≡ part.s = ap (λ (r : Record). r.header.seq) part.is ∙ part-number known part.s in
          let as_base : rec.header.seq ≡ known.base = ap (λ (r : Record). r.header.seq) base.is ∙ base-number next in
          absurd (omega (arith, above, as_part, as_base))
    ]

    -- a part of a batch that was there before was a part before
    pub part_back : (rec : Record) (part : IsPartOf shape key next g rec) → part.s ≤ length known.list → IsPartOf shape key known g rec
    part_back rec part within =
        let s : ℕ = part.s in
        let own : known.base < part.s = part.own in
        let batch : get_or (known.list ++ more) (part.s - 1) [] ≡ get_or known.list (part.s - 1) [] = get_or_append_left known.list more [] (part.s - 1) (omega (arith, own, within)) in
        let was : IsPartOf shape key known g (part_of shape key known s g) =
        record { s = s; own = part.own; within = within; inside = part.inside; touched = ap (λ (b : Batch). touches shape b g) (sym batch) ∙ part.touched; is = refl } in
        let on : IsPartOf shape key next g (part_of shape key known s g) = part_on (part_of shape key known s g) was in
        let same : on.s ≡ s = sym (part-number next on.s) ∙ (ap (λ (r : Record). r.header.seq) (sym on.is) ∙ part-number known s) in
        subst (λ (r : Record). IsPartOf shape key known g r) (sym (part.is ∙ (ap (λ (n : ℕ). part_of shape key next n g) (sym same) ∙ sym on.is))) was

    pub view_on : (view : View) → IsViewOf shape known g view → IsViewOf shape next g view
    view_on view v =
        let within : v.x ≤ length known.list = v.within in
        let long : length (known.list ++ more) ≡ length known.list + length more = length-append known.list more in
        record {
          x = v.x;
          above = v.above;
          within = omega (arith, within, long);
          number = v.number ∙ ap (λ (l : List Batch). last_touch shape g known.base (known.base + 1) (drop known.base l)) (sym (take-append-le v.x known.list more v.within));
          blocks = v.blocks ∙ ap (λ (l : List Batch). blocks_in shape (fold_batches known.origin l) g) (sym (take-append-le v.x known.list more v.within));
        }

    pub turn_on : (r : Replica) → IsInTurn (IsPartOf shape key known g) (IsViewOf shape known g) r → IsInTurn (IsPartOf shape key next g) (IsViewOf shape next g) r
    turn_on r turn = record {
      view = view_on r.view turn.view;
      early = all_then (λ rec. IsPartOf shape key known g rec × (r.view.number < rec.header.previous)) (λ rec. IsPartOf shape key next g rec × (r.view.number < rec.header.previous))
          (λ rec of. (part_on rec of.0, of.1)) r.early turn.early;
    }
