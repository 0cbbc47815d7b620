-- Ways that are added.
use Rattle.std.proofs.Common.{◌≡◌, ℕ, ◌<◌, ◌≤◌, ◌∙◌, Bool, true, false, ◌&&◌, nat_lt, List, [], ◌∷◌, ◌++◌, Option, None, Some, inl, inr, refl, ap, subst, sym, arith}
use Rattle.std.specs.Prelude.{slice_get}
use Rattle.std.specs.List.{cons_option}
use Rattle.std.proofs.lemmas.Bool.{false≢true}
use Rattle.salus_types.specs.declared.records.Record.{Record}
use Rattle.merkle_region.specs.Tree.{IsAmong}
use Rattle.merkle_region.proofs.Membership.{among_left, among_right, among_either}
use Rattle.holding_model.specs.Fitting.{has_content}
use Rattle.volume_model.specs.Recovering.{is_of}
use Rattle.restart_pool.specs.declared.chain.Way.{Way}
use Rattle.restart_pool.specs.Following.{Chains, along, later_of, LeadsTo, EachLeads, EachBelow, NoneFollows, IsCovered, IsTried, AreLengthened, AddsOne, AreLonger}
use Rattle.restart_pool.proofs.Ends.{leads-on, no-link}

module _ (c : Chains) (way : Way) where
  pub lengthened-none : (old : List Way) → AreLengthened c way old old
  lengthened-none old = record { keeps = λ w m. m; lower = λ n below le. below; leads = λ x leads here. leads }

  pub lengthened-more : (old mid new : List Way) → AreLengthened c way old mid → AreLengthened c way mid new → AreLengthened c way old new
  lengthened-more old mid new a b = record {
    keeps = λ w m. b.keeps w (a.keeps w m);
    lower = λ n below le. b.lower n (a.lower n below le) le;
    leads = λ x leads here. b.leads x (a.leads x leads here) here;
  }

  pub covered-more : (rec : Record) (old new : List Way) → AreLengthened c way old new → IsCovered c way old rec → IsCovered c way new rec
  covered-more rec old new a h = λ is none. h is (λ w m. none w (a.keeps w m))

  pub tried-more : (tried : Option Record) (old new : List Way) → AreLengthened c way old new → IsTried c way old tried → IsTried c way new tried
  tried-more None old new a h = h
  tried-more (Some rec) old new a h = covered-more rec old new a h

  -- the part can't be a link
  pub adds-no_link : (rec : Record) (old : List Way) (tried : Option Record) → IsTried c way old tried
      → (is_of c.session c.region rec.header && nat_lt rec.header.previous rec.header.seq && has_content rec.writes rec.run) ≡ false → AddsOne c way rec old old tried
  adds-no_link rec old tried so_far other = record {
    lengthened = lengthened-none old;
    covers = λ is none. no-link c rec (later_of c way) rec.header.previous (second (is_of c.session c.region rec.header) (nat_lt rec.header.previous rec.header.seq) (has_content rec.writes rec.run) is other);
    tried_so_far = so_far;
  } where
    second : (a b d : Bool) → a ≡ true → (a && b && d) ≡ false → (b && d) ≡ false
    second true true d e h = h
    second true false d e h = refl
    second false b d e h = absurd (false≢true e)

  -- the part was tried
  pub adds-tried : (rec : Record) (old : List Way) (tried : Option Record) → IsTried c way old tried → tried ≡ Some rec → AddsOne c way rec old old tried
  adds-tried rec old tried so_far is = record { lengthened = lengthened-none old; covers = subst (IsTried c way old) is so_far; tried_so_far = so_far }

  -- the way that the part gives
  module _ (rec : Record) (old : List Way) (place : ℕ) (longer : Way) (get : slice_get c.parts place ≡ Some rec) (at : longer.at ≡ rec.header.previous)
      (later : longer.later.items ≡ place ∷ way.later.items) where
    pub later-longer : later_of c longer ≡ rec ∷ later_of c way
    later-longer = ap (along c.parts) later ∙ ap (λ found. cons_option found (later_of c way)) get

    one_covers : IsCovered c way (old ++ longer ∷ []) rec
    one_covers = λ is none.
        subst (λ l. NoneFollows c rec.header.previous l) later-longer
        (subst (λ n. NoneFollows c n (later_of c longer)) at (none longer (among_right longer old (longer ∷ []) (inl refl))))

    module _ (among : IsAmong rec c.parts) (is : is_of c.session c.region rec.header ≡ true) (here : rec.header.seq ≡ way.at) (rises : rec.header.previous < rec.header.seq) where
      below_one : (n : ℕ) → EachBelow n old → way.at ≤ n → EachBelow n (old ++ longer ∷ [])
      below_one n below le w m = elim (among_either w old (longer ∷ []) m) [
        | inl a ↦ below w a
        | inr (inl e) ↦ subst (λ (v : Way). v.at < n) (sym e) (omega (arith, at, here, rises, le))
        | inr (inr b) ↦ absurd b
      ]

      leads_one : (x : ℕ) → EachLeads c x old → LeadsTo c x way.at (later_of c way) → EachLeads c x (old ++ longer ∷ [])
      leads_one x leads on w m = elim (among_either w old (longer ∷ []) m) [
        | inl a ↦ leads w a
        | inr (inl e) ↦ subst (λ (v : Way). LeadsTo c x v.at (later_of c v)) (sym e)
            (subst (λ n. LeadsTo c x n (later_of c longer)) (sym at) (subst (λ l. LeadsTo c x rec.header.previous l) (sym later-longer) (leads-on c x way.at rec (later_of c way) on among is here)))
        | inr (inr b) ↦ absurd b
      ]

      pub adds-one : (new : List Way) → new ≡ old ++ longer ∷ [] → AddsOne c way rec old new (Some rec)
      adds-one new grown = subst (λ ways. AddsOne c way rec old ways (Some rec)) (sym grown) (record {
        lengthened = record { keeps = λ w m. among_left w old (longer ∷ []) m; lower = below_one; leads = leads_one };
        covers = one_covers;
        tried_so_far = one_covers;
      })

-- ---- all ways one part further down

module _ (c : Chains) where
  pub longer-none : AreLonger c [] []
  longer-none = record { lower = λ n below w m. absurd m; leads = λ x leads w m. absurd m; covers = λ none begins w m. absurd m }
