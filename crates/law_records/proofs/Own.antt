-- A session's own records in the abstract model: its parts are parts, and its base records stand where it starts.
use Rattle.std.proofs.Common.{◌≡◌, ◌⊎◌, ℕ, suc, ◌-◌, ◌<◌, ◌≤◌, ◌∙◌, true, false, if◌then◌else◌, List, [], ◌∷◌, length, None, inl, inr, refl, ap, sym, subst, arith}
use Rattle.std.proofs.lemmas.Bool.{cases_eq, ne_eqb}
use Rattle.salus_types.specs.Volume.{Shape}
use Rattle.salus_types.specs.declared.records.Record.{Record}
use Rattle.merkle_region.specs.Tree.{IsAmong}
use Rattle.holding_model.specs.Fitting.{has_content}
use Rattle.volume_model.specs.Contents.{volume_top}
use Rattle.volume_model.specs.Parts.{Session, contents_after, touched_by, leader_of, number_of, batch_at, leader_before, part_of, base_of}
use Rattle.salus_model.specs.Forgery.{IsPartOf, IsBaseOf}
use Rattle.salus_model.specs.Covering.{Links}
use Rattle.law_lemmas.proofs.Numbered.{IsSized}
use Rattle.law_lemmas.proofs.Owned.{IsOwn}
use Rattle.law_prefix.specs.Numbers as abstract
use Rattle.law_prefix.specs.Images.{IsPart, IsLinked, reach}
use Rattle.law_prefix.specs.World.{leader}
use Rattle.law_prefix.proofs.Counting.{number_start, number_touched}
use Rattle.kept_model.specs.Batches.{touching}
use Rattle.kept_model.specs.Images.{part_as, parts_as}
use Rattle.law_records.proofs.Numbers.{length-touching, touches_as, touched_among, number_as}
use Rattle.law_records.proofs.Leaders.{leader_as}

module _ (shape : Shape) (key : List ℕ) (known : Session) (g : ℕ) where
  -- what the header of a part says of numbers
  pub record SaysPart (rec : Record) (s : ℕ) : Type 0 where
    pub session : rec.header.session ≡ known.session
    pub region : rec.header.region ≡ g
    pub seq : rec.header.seq ≡ s
    pub previous : rec.header.previous ≡ number_of shape known (s - 1) g
    pub leader : rec.header.leader_before ≡ leader_before shape known s
    pub touched : rec.header.touched ≡ touched_by shape (batch_at known s)
    pub top : rec.header.top ≡ volume_top shape (contents_after known s)
    pub run : rec.run ≡ None

  part_of-says : (s : ℕ) → SaysPart (part_of shape key known s g) s
  unfolding part_of
  part_of-says s = record { session = refl; region = refl; seq = refl; previous = refl; leader = refl; touched = refl; top = refl; run = refl }

  pub part_says : (rec : Record) (part : IsPartOf shape key known g rec) → SaysPart rec part.s
  part_says rec part = subst (λ r. SaysPart r part.s) (sym part.is) (part_of-says part.s)

  pub record SaysBase (rec : Record) : Type 0 where
    pub session : rec.header.session ≡ known.session
    pub region : rec.header.region ≡ g
    pub seq : rec.header.seq ≡ known.base
    pub top : rec.header.top ≡ volume_top shape (contents_after known known.base)
    pub empty : has_content rec.writes rec.run ≡ false

  base_of-says : SaysBase (base_of shape key known g)
  unfolding base_of
  base_of-says = record { session = refl; region = refl; seq = refl; top = refl; empty = refl }

  pub base_says : (rec : Record) → IsBaseOf shape key known g rec → SaysBase rec
  base_says rec base = subst SaysBase (sym base.is) base_of-says

  pub own-session : (rec : Record) → IsOwn shape key known g rec → rec.header.session ≡ known.session
  own-session rec (inl part) = (part_says rec part).session
  own-session rec (inr base) = (base_says rec base).session

  pub own-region : (rec : Record) → IsOwn shape key known g rec → rec.header.region ≡ g
  own-region rec (inl part) = (part_says rec part).region
  own-region rec (inr base) = (base_says rec base).region

  pub own-top : (rec : Record) → IsOwn shape key known g rec → rec.header.top ≡ volume_top shape (contents_after known rec.header.seq)
  own-top rec (inl part) = let says = part_says rec part in says.top ∙ ap (λ s. volume_top shape (contents_after known s)) (sym says.seq)
  own-top rec (inr base) = let says = base_says rec base in says.top ∙ ap (λ s. volume_top shape (contents_after known s)) (sym says.seq)

  -- a part's number is one more than what the abstract part stands behind
  pub part-seq : (rec : Record) → IsPartOf shape key known g rec → rec.header.seq ≡ suc (rec.header.seq - 1)
  part-seq rec part =
      let seq : rec.header.seq ≡ part.s = (part_says rec part).seq in
      let above = part.own in
      omega arith

  module _ (sized : IsSized shape known) where
    pub part_is : (rec : Record) → IsPartOf shape key known g rec → IsPart (touching shape known.list) known.base g (part_as rec)
    part_is rec part =
        let says : SaysPart rec part.s = part_says rec part in
        let seq : rec.header.seq ≡ part.s = says.seq in
        let above = part.own in
        let high = part.within in
        let many : length (touching shape known.list) ≡ length known.list = length-touching shape known.list in
        let before : rec.header.seq - 1 ≡ part.s - 1 = ap (λ s. s - 1) seq in
        let within : part.s - 1 < length known.list = omega arith in
        record {
          after_start = omega arith;
          submitted = omega arith;
          touched = ap (λ i. abstract.touches (touching shape known.list) i g) before
              ∙ (touches_as shape known.list (part.s - 1) g within part.inside ∙ part.touched);
          links = says.previous
              ∙ (sym (number_as shape known sized g part.inside (part.s - 1) (omega arith) (omega arith))
              ∙ ap (λ s. abstract.number (touching shape known.list) known.base s g) (sym before));
        }

    -- a record's number is one of the region's own, or that with which the session starts
    pub own-number : (rec : Record) → IsOwn shape key known g rec → abstract.number (touching shape known.list) known.base rec.header.seq g ≡ rec.header.seq
    own-number rec (inl part) =
        let is = part_is rec part in
        let seq : rec.header.seq ≡ suc (rec.header.seq - 1) = part-seq rec part in
        ap (λ s. abstract.number (touching shape known.list) known.base s g) seq
        ∙ (number_touched (touching shape known.list) known.base (rec.header.seq - 1) g is.after_start is.touched ∙ sym seq)
    own-number rec (inr base) =
        let seq : rec.header.seq ≡ known.base = (base_says rec base).seq in
        ap (λ s. abstract.number (touching shape known.list) known.base s g) seq ∙ (number_start (touching shape known.list) known.base g ∙ sym seq)

    -- parts that link by their previous numbers are linked, and reach as far
    pub linked_as : (parts : List Record) (from to : ℕ) → ((rec : Record) → IsAmong rec parts → IsPartOf shape key known g rec) → Links from parts to
        → IsLinked (touching shape known.list) known.base g from (parts_as parts) × (reach from (parts_as parts) ≡ to)
    unfolding Links IsLinked reach
    linked_as [] from to each links = (tt, links)
    linked_as (rec ∷ parts) from to each links =
        let part : IsPartOf shape key known g rec = each rec (inl refl) in
        let seq : rec.header.seq ≡ suc (rec.header.seq - 1) = part-seq rec part in
        let rest = linked_as parts rec.header.seq to (λ r m. each r (inr m)) links.1 in (
          (part_is rec part, links.0, subst (λ at. IsLinked (touching shape known.list) known.base g at (parts_as parts)) seq rest.0),
          ap (λ at. reach at (parts_as parts)) (sym seq) ∙ rest.1,
        )

    -- the header of a part names each region that its batch touches
    pub touched_named : (rec : Record) → IsPartOf shape key known g rec → (r : ℕ) → abstract.touches (touching shape known.list) (rec.header.seq - 1) r ≡ true → IsAmong r rec.header.touched
    touched_named rec part r touched =
        let says : SaysPart rec part.s = part_says rec part in
        let above = part.own in
        let within = part.within in
        let place : rec.header.seq - 1 ≡ part.s - 1 = ap (λ s. s - 1) says.seq in
        subst (λ rs. IsAmong r rs) (sym says.touched)
        (touched_among shape known.list (part.s - 1) r (omega (arith, above, within)) (ap (λ i. abstract.touches (touching shape known.list) i r) (sym place) ∙ touched))

    -- it names the leader of the batch before, unless it is the session's first
    pub leader_named : (rec : Record) → IsPartOf shape key known g rec
        → (rec.header.seq - 1 ≤ known.base) ⊎ (rec.header.leader_before ≡ leader (touching shape known.list) (rec.header.seq - 1 - 1))
    leader_named rec part =
        let says : SaysPart rec part.s = part_says rec part in
        let above = part.own in
        let within = part.within in
        let place : rec.header.seq - 1 ≡ part.s - 1 = ap (λ s. s - 1) says.seq in
        elim (cases_eq (part.s - 1) known.base) [
          | inl first ↦ inl (omega (arith, first, place))
          | inr later ↦ inr (says.leader
              ∙ (ap (λ t. if t then 0 else leader_of shape (batch_at known (part.s - 1))) (ne_eqb (part.s - 1) known.base later)
              ∙ (sym (leader_as shape known.list (part.s - 1 - 1) (omega (arith, above, within)))
              ∙ ap (λ i. leader (touching shape known.list) (i - 1)) (sym place))))
        ]
