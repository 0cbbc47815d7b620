-- What the abstract image of what is held covers, what is held covers.
use Rattle.std.proofs.Common.{◌≡◌, ◌∙◌, ◌⊎◌, inl, inr, ⊎_elim, ℕ, ◌<◌, ◌≤◌, nat_lt, List, [], ◌∷◌, map, Option, Some, refl, sym, ap, subst, arith}
use Rattle.std.specs.Prelude.{reverse, IsSomeAnd}
use Rattle.std.specs.List.{AllByRecursion}
use Rattle.std.proofs.lemmas.Bool.{ltb-true}
use Rattle.std.proofs.lemmas.List.{reverse-reverse}
use Rattle.salus_types.specs.Volume.{Shape}
use Rattle.salus_types.specs.declared.records.Base.{Base}
use Rattle.salus_types.specs.declared.records.Held.{Held}
use Rattle.merkle_region.specs.Tree.{IsAmong}
use Rattle.volume_model.specs.Parts.{Session, number_of}
use Rattle.salus_model.specs.Judge.{Judge, known_at}
use Rattle.salus_model.specs.Forgery.{IsPartOf}
use Rattle.salus_model.specs.Covering.{Links, IsSound, Reaches, Covers}
use Rattle.replica_rules.specs.Views.{View, view_of_base}
use Rattle.list_lemmas.proofs.Members.{among_all, all_among, among_filter}
use Rattle.law_prefix.specs.Numbers.{Mem, number}
use Rattle.law_prefix.specs.Images.{reach}
use Rattle.law_prefix.specs.World.{Client}
use Rattle.law_prefix.specs.Good.{Covers as ImageCovers}
use Rattle.kept_model.specs.Images.{parts_as, open_place, later_bases, later_sessions, image_of}
use Rattle.law_refined.specs.Bringing.{StartFits}
use Rattle.law_refined.specs.Standing.{BaseStands, Opened, HeldStands}
use Rattle.law_refined.proofs.Listed.{mem_reverse}
use Rattle.law_refined.proofs.Opens.{opened_among, opened_session, opened_reach, later_start}
use Rattle.law_matched.proofs.Sound.{chain_links}

mem_turned : {A : Type 0} (x : A) (xs : List A) → Mem x (reverse xs) → Mem x xs
mem_turned x xs at = subst (λ l. Mem x l) (reverse-reverse xs) (mem_reverse x (reverse xs) at)

mem_made : {A B : Type 0} (f : A → B) (y : B) (xs : List A) → Mem y (map f xs) → (x : A) × IsAmong x xs × (y ≡ f x)
mem_made f y [] at = absurd at
mem_made f y (x ∷ xs) at =
    ⊎_elim (λ (same : y ≡ f x). (x, inl refl, same)) (λ (later : Mem y (map f xs)). let rest = mem_made f y xs later in (rest.0, inr rest.1, rest.2)) at

module _ (shape : Shape) (key : List ℕ) (judge : Judge) (g : ℕ) (c : Client) (held : Held) (holds : HeldStands shape g c held) (e s : ℕ) (some : 0 < e) (known : Session) (at : known_at judge e ≡ Some known)
    (same_number : number (c.lists e) (c.starts e) s g ≡ number_of shape known s g) (bases : (base : Base) → IsAmong base held.bases → base.rec.header.session ≡ e → IsSound shape known g base)
    (parts : held.session ≡ e → AllByRecursion (λ rec. IsPartOf shape key known g rec) held.parts) where
  abbrev Reached : Type 0
  Reached = Reaches shape key known g (number_of shape known s g) held

  -- in the open session, from its base by all its parts
  open_reaches : held.session ≡ e → number (c.lists e) (c.starts e) s g ≤ reach (open_place held) (parts_as held.parts) → Reached
  open_reaches same far =
      ⊎_elim (λ (closed : (held.session ≡ 0) × (held.parts ≡ [])). let none : held.session ≡ 0 = closed.0 in absurd (omega arith))
      (λ (open_view : (0 < held.session) × (view : View) × Opened shape g c held view).
      let view : View = open_view.1 in
      let o : Opened shape g c held view = open_view.2 in
      let top : reach (open_place held) (parts_as held.parts) ≡ view.number = opened_reach shape g c held view o in
      record {
        base = o.base;
        base_held = (opened_among shape g c held view o).0;
        sound = bases o.base (opened_among shape g c held view o).0 (opened_session shape g c held view o ∙ same);
        chain = held.parts;
        chain_held = all_among (λ rec. IsAmong rec held.parts) held.parts (λ rec among. among);
        of_session = parts same;
        top = view.number;
        links = chain_links shape g c held.session (view_of_base o.base) held.parts view o.chain;
        far = subst (λ x. x ≤ view.number) same_number (subst (λ x. number (c.lists e) (c.starts e) s g ≤ x) top far);
      }) holds.open_is

  -- from the base of a later session
  later_reaches : Mem e (later_sessions held) → number (c.lists e) (c.starts e) s g ≤ c.starts e → Reached
  unfolding Links
  later_reaches staged far =
      let made = mem_made (λ (b : Base). b.rec.header.session) e (later_bases held) (mem_turned e (map (λ (b : Base). b.rec.header.session) (later_bases held)) staged) in
      let base : Base = made.0 in
      let found = among_filter (λ b. nat_lt held.session b.rec.header.session) base held.bases made.1 in
      let stands : BaseStands shape g c held.session base = among_all (BaseStands shape g c held.session) held.bases base found.0 holds.bases in
      let start : StartFits c base.rec = later_start shape g c held base stands (ltb-true held.session base.rec.header.session found.1) in
      let place : base.rec.header.seq ≡ c.starts e = start.start ∙ ap (λ x. c.starts x) (sym made.2) in
      record {
        base = base;
        base_held = found.0;
        sound = bases base found.0 (sym made.2);
        chain = [];
        chain_held = tt;
        of_session = tt;
        top = base.rec.header.seq;
        links = refl;
        far = subst (λ x. x ≤ base.rec.header.seq) same_number (subst (λ x. number (c.lists e) (c.starts e) s g ≤ x) (sym place) far);
      }

  pub held_covers : ImageCovers c g (image_of held) e s → Covers shape key judge g e s held
  held_covers covers =
      let by_known : Reached → IsSomeAnd (known_at judge e) (λ k. Reaches shape key k g (number_of shape k s g) held) =
      λ reached. subst (λ (o : Option Session). IsSomeAnd o (λ k. Reaches shape key k g (number_of shape k s g) held)) (sym at) reached in
      ⊎_elim {B = (held.session ≡ e) × (number (c.lists e) (c.starts e) s g ≤ reach (open_place held) (parts_as held.parts)) ⊎ Mem e (later_sessions held) × (number (c.lists e) (c.starts e) s g ≤ c.starts e)}
      (λ (past : e < held.session). inl past)
      (λ (now : (held.session ≡ e) × (number (c.lists e) (c.starts e) s g ≤ reach (open_place held) (parts_as held.parts)) ⊎ Mem e (later_sessions held) × (number (c.lists e) (c.starts e) s g ≤ c.starts e)).
      ⊎_elim (λ (here : (held.session ≡ e) × (number (c.lists e) (c.starts e) s g ≤ reach (open_place held) (parts_as held.parts))). inr (by_known (open_reaches here.0 here.1)))
      (λ (later : Mem e (later_sessions held) × (number (c.lists e) (c.starts e) s g ≤ c.starts e)). inr (by_known (later_reaches later.0 later.1))) now) covers
