-- A record that a session has tagged says what its contents are.
use Rattle.std.proofs.Common.{◌≡◌, ◌⊎◌, ℕ, ◌<◌, ◌≤◌, ◌∙◌, ◌∷◌, Bool, true, false, ◌==◌, List, length, map, Option, Some, inl, inr, refl, ap, sym, subst, arith}
use Rattle.std.specs.Prelude.{slice_index, find, cond}
use Rattle.std.proofs.lemmas.Bool.{and_parts, eqb-true, false≢true}
use Rattle.std.proofs.lemmas.Option.{same_Some}
use Rattle.std.proofs.lemmas.List.{get_or-map, get_or-replicate}
use Rattle.std.proofs.lemmas.List.FromFn.{length-range_with_len, get_or-range_with_len}
use Rattle.salus_types.specs.Volume.{Shape, regions}
use Rattle.salus_types.specs.declared.records.Header.{Header}
use Rattle.salus_types.specs.declared.records.Record.{Record}
use Rattle.volume_model.specs.Contents.{all_regions, region_root}
use Rattle.volume_model.specs.Parts.{Session, contents_after, number_of, part_of, base_of}
use Rattle.salus_model.specs.Judge.{Judge, known_at, all_known}
use Rattle.volume_model.specs.Recovering.{is_of}
use Rattle.holding_model.specs.Fitting.{has_content}
use Rattle.salus_model.specs.Forgery.{IsPartOf, IsBaseOf, IsTagged}
use Rattle.merkle_region.specs.Tree.{IsAmong}
use Rattle.list_lemmas.proofs.Members.{find_among}
use Rattle.law_lemmas.proofs.Numbered.{IsSized, number_of-base}

-- a part or the base record of that session, for that region
abbrev pub IsOwn : Shape → List ℕ → Session → ℕ → Record → Type 0
IsOwn shape key known g rec = IsPartOf shape key known g rec ⊎ IsBaseOf shape key known g rec

-- what its header says
pub record IsTold (shape : Shape) (known : Session) (g : ℕ) (h : Header) : Type 0 where
  pub session : h.session ≡ known.session
  pub region : h.region ≡ g
  pub inside : g < regions shape
  pub above : known.base ≤ h.seq
  pub within : h.seq ≤ length known.list
  pub root : h.root ≡ region_root shape (contents_after known h.seq) g
  pub fronts : (r : ℕ) → r < regions shape → slice_index h.fronts r ≡ number_of shape known h.seq r

front_of_part : (shape : Shape) (known : Session) (s r : ℕ) → r < regions shape
    → slice_index (map (λ i. number_of shape known s i) (all_regions shape)) r ≡ number_of shape known s r
front_of_part shape known s r inside =
    get_or-map (λ i. number_of shape known s i) (all_regions shape) r 0 0 (rw (length-range_with_len 0 (regions shape)) inside)
    ∙ ap (λ i. number_of shape known s i) (get_or-range_with_len 0 (regions shape) r 0 inside ∙ omega arith)

module _ (shape : Shape) (key : List ℕ) (known : Session) (sized : IsSized shape known) (g : ℕ) where
  told_part : (s : ℕ) → known.base < s → s ≤ length known.list → g < regions shape → IsTold shape known g (part_of shape key known s g).header
  unfolding part_of
  told_part s above within inside = record {
    session = refl;
    region = refl;
    inside = inside;
    above = omega arith;
    within = within;
    root = refl;
    fronts = λ r low. front_of_part shape known s r low;
  }

  told_base : g < regions shape → IsTold shape known g (base_of shape key known g).header
  unfolding base_of
  told_base inside = record {
    session = refl;
    region = refl;
    inside = inside;
    above = omega arith;
    within = sized.begun;
    root = refl;
    fronts = λ r low. get_or-replicate (regions shape) r known.base 0 low ∙ sym (number_of-base shape known sized r);
  }

  pub told : (rec : Record) → IsOwn shape key known g rec → IsTold shape known g rec.header
  told rec (inl part) = subst (λ r. IsTold shape known g r.header) (sym part.is) (told_part part.s part.own part.within part.inside)
  told rec (inr base) = subst (λ r. IsTold shape known g r.header) (sym base.is) (told_base base.inside)

  -- one with writes is a part
  no_writes : (has_content (base_of shape key known g).writes (base_of shape key known g).run) ≡ false
  unfolding base_of
  no_writes = refl

  pub own_part : (rec : Record) → IsOwn shape key known g rec → has_content rec.writes rec.run ≡ true → IsPartOf shape key known g rec
  own_part rec (inl part) full = part
  own_part rec (inr base) full = absurd (false≢true (sym no_writes ∙ (ap (λ r. has_content r.writes r.run) (sym base.is) ∙ full)))

-- ---- a session by its number

tested_known : (t : Bool) (now known : Session) (others : Option Session) (e : ℕ) → (t ≡ true → now.session ≡ e)
    → (others ≡ Some known → known.session ≡ e) → cond t (Some now) others ≡ Some known → known.session ≡ e
tested_known true now known others e here there at = sym (ap (λ k. k.session) (same_Some now known at)) ∙ here refl
tested_known false now known others e here there at = there at

pub known-session : (judge : Judge) (e : ℕ) (known : Session) → known_at judge e ≡ Some known → known.session ≡ e
known-session judge e known at =
    tested_known (judge.now.session == e) judge.now known (find (λ k. k.session == e) judge.others) e
    (λ t. eqb-true judge.now.session e t)
    (λ found. eqb-true known.session e (find_among (λ k. k.session == e) known judge.others found).1) at

known_tested : (now known : Session) (found : Option Session) (others : List Session) (t : Bool) → (found ≡ Some known → IsAmong known others)
    → cond t (Some now) found ≡ Some known → IsAmong known (now ∷ others)
known_tested now known found others true rest at = inl (sym (same_Some now known at))
known_tested now known found others false rest at = inr (rest at)

pub known_among : (judge : Judge) (e : ℕ) (known : Session) → known_at judge e ≡ Some known → IsAmong known (all_known judge)
known_among judge e known at =
    known_tested judge.now known (find (λ k. k.session == e) judge.others) judge.others (judge.now.session == e)
    (λ found. (find_among (λ k. k.session == e) known judge.others found).0) at

-- a tagged record of that session and region
pub own_of : (shape : Shape) (key : List ℕ) (judge : Judge) (known : Session) (e g : ℕ) (rec : Record) → known_at judge e ≡ Some known
    → IsSized shape known → ((k : Session) (j : ℕ) → known_at judge j ≡ Some k → IsSized shape k)
    → is_of e g rec.header ≡ true → IsTagged shape key judge rec → IsOwn shape key known g rec
own_of shape key judge known e g rec at sized all of tagged =
    let parts = and_parts (rec.header.session == e) (rec.header.region == g) of in
    let says = told shape key tagged.session (all tagged.session tagged.e tagged.known) tagged.g rec tagged.either in
    let number : tagged.e ≡ e = sym (known-session judge tagged.e tagged.session tagged.known) ∙ (sym says.session ∙ eqb-true rec.header.session e parts.0) in
    let same : tagged.session ≡ known = same_Some tagged.session known (sym tagged.known ∙ (ap (known_at judge) number ∙ at)) in
    let region : tagged.g ≡ g = sym says.region ∙ eqb-true rec.header.region g parts.1 in
    subst (λ k. IsOwn shape key k g rec) same (subst (λ r. IsOwn shape key tagged.session r rec) region tagged.either)
