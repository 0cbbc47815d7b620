-- A base that a node holds of a session that is known: its record is the session's own, and its blocks are those after the
-- batches up to its number.
use Rattle.std.proofs.Common.{◌≡◌, ◌∙◌, ◌⊎◌, inl, inr, ℕ, ◌+◌, ◌-◌, ◌<◌, ◌≤◌, true, if◌then◌else◌, List, [], length, Some, sym, ap, subst, arith}
use Rattle.std.proofs.lemmas.List.{take-append-le}
use Rattle.salus_types.specs.Volume.{Shape}
use Rattle.salus_types.specs.declared.records.Record.{Record}
use Rattle.salus_types.specs.declared.records.Base.{Base}
use Rattle.volume_model.specs.Contents.{Batch, blocks_in, fold_batches}
use Rattle.volume_model.specs.Parts.{Session, contents_after, touches, batch_at, number_of}
use Rattle.salus_model.specs.Judge.{Judge, known_at}
use Rattle.replica_rules.specs.Views.{view_of_base}
use Rattle.law_lemmas.proofs.Growing.{Grows, extended, own_extended}
use Rattle.law_lemmas.proofs.Numbered.{IsSized, number_of-base, number_of-more}
use Rattle.law_lemmas.proofs.Owned.{IsOwn, IsTold, told}
use Rattle.law_lemmas.proofs.Settled.{EachKnown}
use Rattle.law_reads.specs.Chained.{IsViewOf}
use Rattle.law_served.proofs.Extending.{part-number, base-number}

pub record IsRightBase (shape : Shape) (key : List ℕ) (judge : Judge) (g : ℕ) (base : Base) : Type 0 where
  pub known : Session
  pub at : known_at judge base.rec.header.session ≡ Some known
  pub own : IsOwn shape key known g base.rec
  pub blocks : base.blocks ≡ blocks_in shape (contents_after known base.rec.header.seq) g

-- a base that the client stages has the session's record, with no blocks or with these
pub record IsBrought (shape : Shape) (key : List ℕ) (judge : Judge) (base : Base) : Type 0 where
  pub g : ℕ
  pub known : Session
  pub at : known_at judge base.rec.header.session ≡ Some known
  pub own : IsOwn shape key known g base.rec
  pub blocks : (base.blocks ≡ []) ⊎ (base.blocks ≡ blocks_in shape (contents_after known base.rec.header.seq) g)

-- ---- more is known

module _ (shape : Shape) (key : List ℕ) (before after : Judge) (sized : EachKnown before (IsSized shape)) (grows : Grows before after) where
  later_blocks : (known : Session) (e g : ℕ) (rec : Record) (more : List Batch) → known_at before e ≡ Some known → IsOwn shape key known g rec
      → blocks_in shape (contents_after known rec.header.seq) g ≡ blocks_in shape (contents_after (extended known more) rec.header.seq) g
  later_blocks known e g rec more at own =
      ap (λ (l : List Batch). blocks_in shape (fold_batches known.origin l) g) (sym (take-append-le rec.header.seq known.list more (told shape key known (sized known e at) g rec own).within))

  pub right_more : (g : ℕ) (base : Base) → IsRightBase shape key before g base → IsRightBase shape key after g base
  right_more g base right =
      let e : ℕ = base.rec.header.session in
      let found = grows right.known e right.at in
      record {
        known = extended right.known found.0;
        at = found.1;
        own = own_extended shape key right.known g base.rec found.0 (sized right.known e right.at).begun right.own;
        blocks = right.blocks ∙ later_blocks right.known e g base.rec found.0 right.at right.own;
      }

  pub brought_more : (base : Base) → IsBrought shape key before base → IsBrought shape key after base
  brought_more base was =
      let e : ℕ = base.rec.header.session in
      let found = grows was.known e was.at in
      record {
        g = was.g;
        known = extended was.known found.0;
        at = found.1;
        own = own_extended shape key was.known was.g base.rec found.0 (sized was.known e was.at).begun was.own;
        blocks = elim was.blocks [
          | inl none ↦ inl none
          | inr same ↦ inr (same ∙ later_blocks was.known e was.g base.rec found.0 was.at was.own)
        ];
      }

-- ---- its view

module _ (shape : Shape) (key : List ℕ) (known : Session) (sized : IsSized shape known) (g : ℕ) where
  part_counts : (s : ℕ) → known.base < s → s ≤ length known.list → touches shape (batch_at known s) g ≡ true → number_of shape known s g ≡ s
  part_counts s above within touched =
      let back : s - 1 + 1 ≡ s = omega (arith, above) in
      subst (λ (n : ℕ). number_of shape known n g ≡ n) back
      (number_of-more shape known sized (s - 1) g (omega (arith, above)) (omega (arith, above, within))
      ∙ ap (λ t. if t then s - 1 + 1 else number_of shape known (s - 1) g) (ap (λ (n : ℕ). touches shape (batch_at known n) g) back ∙ touched))

  -- its number is the region's own
  pub own_counts : (rec : Record) → IsOwn shape key known g rec → number_of shape known rec.header.seq g ≡ rec.header.seq
  own_counts rec (inl part) =
      let seq : rec.header.seq ≡ part.s = ap (λ (r : Record). r.header.seq) part.is ∙ part-number shape key g known part.s in
      ap (λ (n : ℕ). number_of shape known n g) seq ∙ (part_counts part.s part.own part.within part.touched ∙ sym seq)
  own_counts rec (inr base) =
      let seq : rec.header.seq ≡ known.base = ap (λ (r : Record). r.header.seq) base.is ∙ base-number shape key g known in
      ap (λ (n : ℕ). number_of shape known n g) seq ∙ (number_of-base shape known sized g ∙ sym seq)

  pub base_view : (base : Base) → IsOwn shape key known g base.rec → base.blocks ≡ blocks_in shape (contents_after known base.rec.header.seq) g → IsViewOf shape known g (view_of_base base)
  base_view base own blocks =
      let h : IsTold shape known g base.rec.header = told shape key known sized g base.rec own in
      record { x = base.rec.header.seq; above = h.above; within = h.within; number = sym (own_counts base.rec own); blocks = blocks }
