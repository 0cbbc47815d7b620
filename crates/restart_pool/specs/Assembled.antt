-- The contents of a volume that the chains of a pool give.
use Rattle.std.specs.Prelude.{◌≡◌, ◌⊎◌, ℕ, ◌<◌, true, List, [], map, length, slice_index, slice_index_or, flat_map, option_map, Option}
use Rattle.salus_types.specs.Volume.{Shape, regions}
use Rattle.salus_types.specs.declared.records.Header.{Header}
use Rattle.salus_types.specs.declared.records.Record.{Record}
use Rattle.salus_types.specs.declared.records.Base.{Base}
use Rattle.merkle_region.specs.Tree.{root_of, tree_strings, IsAmong, NoTwoCollide}
use Rattle.volume_model.specs.Contents.{all_regions}
use Rattle.volume_model.specs.Recovering.{Pool, blocks_up_to, ends_of, choices_of, picks, has_top, recovered}
use Rattle.restart_pool.specs.Kept.{Kept}
use Rattle.restart_pool.specs.declared.assemble.Contents.{Contents}

-- the regions' blocks one after the other
abbrev pub joined : List (List (List ℕ)) → List (List ℕ)
joined pick = flat_map (λ blocks. blocks) pick

-- with the root of each region
abbrev pub contents_by : Shape → List (List (List ℕ)) → Contents
contents_by shape pick = record { roots = map (root_of shape.height) pick; blocks = joined pick }

-- for each region the blocks of a chain of the session up to the region's front
pub record AreChains (kept : Kept) (e : ℕ) (fronts : List ℕ) (pick : List (List (List ℕ))) : Type 0 where
  pub count : length pick ≡ regions kept.shape
  pub each : (g : ℕ) → g < regions kept.shape → IsAmong (slice_index_or pick g []) (blocks_up_to kept.shape kept.held e g (slice_index fronts g))

-- the contents are such blocks, one region after the other
pub record IsAssembled (kept : Kept) (e : ℕ) (fronts : List ℕ) (contents : List (List ℕ)) : Type 0 where
  pub pick : List (List (List ℕ))
  pub chains : AreChains kept e fronts pick
  pub is : contents ≡ joined pick

-- such blocks of the first n regions, with their roots
pub record AreWhole (kept : Kept) (e : ℕ) (fronts : List ℕ) (n : ℕ) (contents : Contents) : Type 0 where
  pub pick : List (List (List ℕ))
  pub count : length pick ≡ n
  pub each : (g : ℕ) → g < n → IsAmong (slice_index_or pick g []) (blocks_up_to kept.shape kept.held e g (slice_index fronts g))
  pub roots : contents.roots ≡ map (root_of kept.shape.height) pick
  pub blocks : contents.blocks ≡ joined pick

-- a region has no chain of the session up to its front
pub record HasNoChain (kept : Kept) (e : ℕ) (fronts : List ℕ) : Type 0 where
  pub region : ℕ
  pub within : region < regions kept.shape
  pub none : blocks_up_to kept.shape kept.held e region (slice_index fronts region) ≡ []

-- the header's front for each region, and its top
pub record IsRecovered (kept : Kept) (h : Header) (contents : Contents) : Type 0 where
  pub pick : List (List (List ℕ))
  pub among : IsAmong pick (picks (choices_of kept.shape kept.held h))
  pub top : has_top kept.shape h pick ≡ true
  pub is : contents ≡ contents_by kept.shape pick

-- ---- where records of one session, number and region are one record

abbrev pub IsKeptRecord : Pool → Record → Type 0
IsKeptRecord pool rec = IsAmong rec pool.parts ⊎ ((base : Base) × IsAmong base pool.bases × (rec ≡ base.rec))

-- no two different kept records share session, number and region
abbrev pub NoTwoShare : Pool → Type 0
NoTwoShare pool =
    (a b : Record) → IsKeptRecord pool a → IsKeptRecord pool b → a.header.session ≡ b.header.session → a.header.seq ≡ b.header.seq → a.header.region ≡ b.header.region
    → a ≡ b

-- the strings of the blocks after each link of each chain of a session in a region
abbrev pub region_chain_strings : Shape → Pool → ℕ → ℕ → List (List ℕ)
region_chain_strings shape pool e g = flat_map (λ end. tree_strings shape.height end.blocks) (ends_of shape pool e g)

abbrev pub session_strings : Shape → Pool → ℕ → List (List ℕ)
session_strings shape pool e = flat_map (λ g. region_chain_strings shape pool e g) (all_regions shape)

-- those of all sessions
abbrev pub pool_strings : Shape → Pool → List (List ℕ)
pool_strings shape pool = flat_map (λ h. session_strings shape pool h.session) pool.headers

-- the contents that the header names, as the definition chooses them
abbrev pub contents_of : Kept → Header → Option Contents
contents_of kept h = option_map (contents_by kept.shape) (recovered kept.shape kept.held h)
