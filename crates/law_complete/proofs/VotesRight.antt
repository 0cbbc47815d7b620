-- A right vote: it is for a part that the client has tagged. In the session opened last it is of a batch of that, with the root
-- of its region.
use Rattle.std.proofs.Common.{◌≡◌, ◌∙◌, inl, ℕ, ◌<◌, ◌≤◌, ◌==◌, ◌&&◌, true, List, length, refl, sym, ap, ap₂, subst}
use Rattle.std.proofs.lemmas.Bool.{eq-eqb}
use Rattle.salus_types.specs.Volume.{Shape}
use Rattle.salus_types.specs.declared.names.NodeName.{NodeName}
use Rattle.salus_types.specs.declared.records.Record.{Record}
use Rattle.salus_message.specs.declared.small.Prepared.{Prepared}
use Rattle.volume_model.specs.Contents.{region_root}
use Rattle.volume_model.specs.Parts.{contents_after}
use Rattle.volume_model.specs.Recovering.{is_of}
use Rattle.salus_model.specs.Judge.{Judge}
use Rattle.salus_model.specs.Forgery.{IsPartOf, IsTagged}
use Rattle.law_lemmas.proofs.Growing.{Grows, tagged-grows}
use Rattle.law_lemmas.proofs.Numbered.{IsSized}
use Rattle.law_lemmas.proofs.Owned.{IsTold, told, own_part, own_of}
use Rattle.law_lemmas.proofs.Settled.{EachKnown, now-known}
use Rattle.law_phases.specs.Letters.{HasWrites}
use Rattle.law_served.proofs.Extending.{part-number}
use Rattle.law_claimed.specs.Session.{IsRootedVote}

-- the part of a vote: tagged, with writes, and of its session, number, region and root
pub record IsRightVote (shape : Shape) (key : List ℕ) (judge : Judge) (v : Prepared) : Type 0 where
  pub rec : Record
  pub tagged : IsTagged shape key judge rec
  pub full : HasWrites rec
  pub session : rec.header.session ≡ v.session
  pub seq : rec.header.seq ≡ v.seq
  pub region : rec.header.region ≡ v.region
  pub root : rec.header.root ≡ v.root

pub right_more : (shape : Shape) (key : List ℕ) (before after : Judge) → EachKnown before (IsSized shape) → Grows before after → (v : Prepared) → IsRightVote shape key before v → IsRightVote shape key after v
right_more shape key before after sized grows v right = record {
  rec = right.rec;
  tagged = tagged-grows shape key before after right.rec sized grows right.tagged;
  full = right.full;
  session = right.session;
  seq = right.seq;
  region = right.region;
  root = right.root;
}

module _ (shape : Shape) (key : List ℕ) (judge : Judge) (sized : EachKnown judge (IsSized shape)) (name : NodeName) (seq : ℕ) (root : List ℕ)
    (right : IsRightVote shape key judge (record { session = judge.now.session; seq = seq; region = name.region; root = root })) where
  abbrev g : ℕ
  g = name.region

  now_sized : IsSized shape judge.now
  now_sized = sized judge.now judge.now.session (now-known judge)

  of : is_of judge.now.session name.region right.rec.header ≡ true
  of =
      ap₂ (λ (a b : ℕ). (a == judge.now.session) && (b == name.region)) right.session right.region
      ∙ ap₂ (λ a b. a && b) (eq-eqb judge.now.session judge.now.session refl) (eq-eqb name.region name.region refl)

  part : IsPartOf shape key judge.now name.region right.rec
  part = own_part shape key judge.now now_sized name.region right.rec (own_of shape key judge judge.now judge.now.session name.region right.rec (now-known judge) now_sized sized of right.tagged) right.full

  says : IsTold shape judge.now name.region right.rec.header
  says = told shape key judge.now now_sized name.region right.rec (inl part)

  number : seq ≡ part.s
  number = sym right.seq ∙ (ap (λ (r : Record). r.header.seq) part.is ∙ part-number shape key name.region judge.now part.s)

  -- So it is of a batch of the session, with the root of its region.
  pub rooted_vote : IsRootedVote shape judge.now name (record { seq = seq; root = root })
  rooted_vote = record {
    own = record { above = subst (λ (n : ℕ). judge.now.base < n) (sym number) part.own; within = subst (λ (n : ℕ). n ≤ length judge.now.list) (sym number) part.within };
    root = sym right.root ∙ (says.root ∙ ap (λ (n : ℕ). region_root shape (contents_after judge.now n) name.region) right.seq);
  }
