-- What it means that a node covers the batches of a session: each image of its disk has what a restart needs of them.
-- Each definition speaks of what one image holds.
use Rattle.std.specs.Prelude.{◌≡◌, ◌⊎◌, ℕ, ◌<◌, ◌≤◌, List, [], ◌∷◌, IsSomeAnd}
use Rattle.std.specs.List.{AllByRecursion}
use Rattle.salus_types.specs.Volume.{Shape}
use Rattle.salus_types.specs.declared.records.Record.{Record}
use Rattle.salus_types.specs.declared.records.Base.{Base}
use Rattle.salus_types.specs.declared.records.Held.{Held}
use Rattle.merkle_region.specs.Tree.{IsAmong}
use Rattle.volume_model.specs.Contents.{blocks_in}
use Rattle.volume_model.specs.Parts.{Session, contents_after, number_of}
use Rattle.salus_model.specs.Judge.{Judge, known_at}
use Rattle.salus_model.specs.Forgery.{IsPartOf}

-- The parts link by their previous numbers, from one number up to another.
unfoldable pub Links : ℕ → List Record → ℕ → Type 0
Links from [] to = from ≡ to
Links from (rec ∷ parts) to = (rec.header.previous ≡ from) × Links rec.header.seq parts to

-- the base has the region's blocks as of its number
pub record IsSound (shape : Shape) (known : Session) (g : ℕ) (base : Base) : Type 0 where
  pub session : base.rec.header.session ≡ known.session
  pub region : base.rec.header.region ≡ g
  pub blocks : base.blocks ≡ blocks_in shape (contents_after known base.rec.header.seq) g

-- a sound base is held, and parts of the session that link from it up to at least that number
pub record Reaches (shape : Shape) (key : List ℕ) (known : Session) (g x : ℕ) (held : Held) : Type 0 where
  pub base : Base
  pub base_held : IsAmong base held.bases
  pub sound : IsSound shape known g base
  pub chain : List Record
  pub chain_held : AllByRecursion (λ rec. IsAmong rec held.parts) chain
  pub of_session : AllByRecursion (λ rec. IsPartOf shape key known g rec) chain
  pub top : ℕ
  pub links : Links base.rec.header.seq chain top
  pub far : x ≤ top

-- what is held covers the session's batches up to s in region g: it is of a later session, or it reaches the region's number
abbrev pub Covers : Shape → List ℕ → Judge → ℕ → ℕ → ℕ → Held → Type 0
Covers shape key judge g e s held =
    (e < held.session) ⊎ IsSomeAnd (known_at judge e) (λ known. Reaches shape key known g (number_of shape known s g) held)
