-- What a node holds is sound, where its records are the client's own.
use Rattle.std.proofs.Common.{◌≡◌, ◌⊎◌, inl, inr, ⊎_elim, ℕ, ◌<◌, nat_lt, true, false, List, [], ◌∷◌, Option, Some, refl, sym, ap, subst}
use Rattle.std.specs.Prelude.{find, is_some}
use Rattle.std.specs.List.{AllByRecursion}
use Rattle.std.proofs.lemmas.Bool.{ltb-true}
use Rattle.salus_types.specs.Volume.{Shape}
use Rattle.salus_types.specs.declared.records.Record.{Record}
use Rattle.salus_types.specs.declared.records.Base.{Base}
use Rattle.salus_types.specs.declared.records.Held.{Held}
use Rattle.merkle_region.specs.Tree.{IsAmong}
use Rattle.holding_model.specs.Fitting.{record_fits, has_content, has_shape}
use Rattle.holding_model.specs.Changing.{is_open_base}
use Rattle.volume_model.specs.Parts.{Session}
use Rattle.volume_model.specs.Recovering.{is_of}
use Rattle.salus_model.specs.Judge.{Judge, known_at}
use Rattle.salus_model.specs.Forgery.{IsPartOf, IsBaseOf}
use Rattle.salus_model.specs.Covering.{Links}
use Rattle.replica_rules.specs.Views.{View, view_of_base, view_after}
use Rattle.list_lemmas.proofs.Members.{among_all, among_filter}
use Rattle.list_lemmas.proofs.Tests.{and_right}
use Rattle.law_prefix.specs.World.{Client}
use Rattle.kept_model.specs.Images.{open_place, later_bases}
use Rattle.kept_model.specs.Sound.{IsSoundBase, IsSoundPart, IsSoundHeld}
use Rattle.law_refined.specs.Standing.{BaseStands, Chain, Opened, HeldStands}
use Rattle.law_refined.proofs.Listed.{find_filter}
use Rattle.law_refined.proofs.Chains.{goes_parts}
use Rattle.law_refined.proofs.Opens.{opened_place, later_start}
use Rattle.law_refined.proofs.Planning.{start_bare}

-- a base's record is one of a known session's own
pub record IsOwnBase (shape : Shape) (key : List ℕ) (judge : Judge) (g : ℕ) (base : Base) : Type 0 where
  pub known : Session
  pub at : known_at judge base.rec.header.session ≡ Some known
  pub own : IsPartOf shape key known g base.rec ⊎ IsBaseOf shape key known g base.rec

-- a part is one of session e's own
pub record IsOwnPart (shape : Shape) (key : List ℕ) (judge : Judge) (g e : ℕ) (rec : Record) : Type 0 where
  pub known : Session
  pub at : known_at judge e ≡ Some known
  pub own : IsPartOf shape key known g rec

module _ (shape : Shape) (g : ℕ) (c : Client) (e : ℕ) where
  pub chain_links : (view : View) (parts : List Record) (now : View) → Chain shape g c e view parts now → Links view.number parts now.number
  unfolding Chain Links
  chain_links view [] now chain = ap (λ (v : View). v.number) chain
  chain_links view (rec ∷ parts) now chain = ((goes_parts shape g view rec chain.0.goes).starts, chain_links (view_after shape view rec) parts now chain.1)

  chain_inside : (view : View) (parts : List Record) (now : View) → Chain shape g c e view parts now → AllByRecursion (λ rec. record_fits shape rec ≡ true) parts
  unfolding Chain
  chain_inside view [] now chain = tt
  chain_inside view (rec ∷ parts) now chain = ((goes_parts shape g view rec chain.0.goes).inside, chain_inside (view_after shape view rec) parts now chain.1)

module _ (shape : Shape) (key : List ℕ) (judge : Judge) (g : ℕ) (c : Client) (held : Held) (holds : HeldStands shape g c held)
    (bases : (base : Base) → IsAmong base held.bases → IsOwnBase shape key judge g base) (parts : (rec : Record) → IsAmong rec held.parts → IsOwnPart shape key judge g held.session rec) where
  sound_base : (base : Base) → IsAmong base held.bases → IsSoundBase shape key judge g base
  sound_base base among =
      let own : IsOwnBase shape key judge g base = bases base among in
      let stands : BaseStands shape g c held.session base = among_all (BaseStands shape g c held.session) held.bases base among holds.bases in
      record { known = own.known; at = own.at; own = own.own; fits = stands.inside; whole = and_right (is_of base.rec.header.session g base.rec.header) (has_shape shape base.blocks) stands.stands; root = stands.root }

  unfolded_base : (base : Base) → IsAmong base (later_bases held) → has_content base.rec.writes base.rec.run ≡ false
  unfolded_base base among =
      let found = among_filter (λ b. nat_lt held.session b.rec.header.session) base held.bases among in
      let stands : BaseStands shape g c held.session base = among_all (BaseStands shape g c held.session) held.bases base found.0 holds.bases in
      start_bare c base.rec (later_start shape g c held base stands (ltb-true held.session base.rec.header.session found.1))

  fits_part : (rec : Record) → IsAmong rec held.parts → record_fits shape rec ≡ true
  fits_part rec among =
      ⊎_elim (λ (closed : (held.session ≡ 0) × (held.parts ≡ [])). absurd (subst (λ (l : List Record). IsAmong rec l) closed.1 among))
      (λ (open_view : (0 < held.session) × (view : View) × Opened shape g c held view).
      let o : Opened shape g c held open_view.1 = open_view.2 in
      among_all (λ k. record_fits shape k ≡ true) held.parts rec among (chain_inside shape g c held.session (view_of_base o.base) held.parts open_view.1 o.chain)) holds.open_is

  sound_part : (rec : Record) → IsAmong rec held.parts → IsSoundPart shape key judge g held.session rec
  sound_part rec among =
      let own : IsOwnPart shape key judge g held.session rec = parts rec among in
      record { known = own.known; at = own.at; part = own.own; fits = fits_part rec among }

  top_links : (top : ℕ) × Links (open_place held) held.parts top
  unfolding Links
  top_links =
      ⊎_elim (λ (closed : (held.session ≡ 0) × (held.parts ≡ [])). (open_place held, subst (λ (l : List Record). Links (open_place held) l (open_place held)) (sym closed.1) refl))
      (λ (open_view : (0 < held.session) × (view : View) × Opened shape g c held view).
      let o : Opened shape g c held open_view.1 = open_view.2 in
      (open_view.1.number, subst (λ x. Links x held.parts open_view.1.number) (sym (opened_place shape g c held open_view.1 o)) (chain_links shape g c held.session (view_of_base o.base) held.parts open_view.1 o.chain))) holds.open_is

  has_begun : (held.session ≡ 0) ⊎ (is_some (find (λ base. is_open_base held base) held.bases) ≡ true)
  has_begun =
      ⊎_elim (λ (closed : (held.session ≡ 0) × (held.parts ≡ [])). inl closed.0)
      (λ (open_view : (0 < held.session) × (view : View) × Opened shape g c held view).
      let o : Opened shape g c held open_view.1 = open_view.2 in
      inr (ap (λ (m : Option Base). is_some m) (find_filter (λ b. is_open_base held b) held.bases o.base [] o.only))) holds.open_is

  -- So what the client finds in a node's reply is sound.
  pub held_sound : IsSoundHeld shape key judge g held
  held_sound = record { bases = sound_base; unfolded = unfolded_base; parts = sound_part; top = top_links.0; links = top_links.1; begun = has_begun }
