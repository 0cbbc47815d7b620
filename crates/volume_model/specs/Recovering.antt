-- What can be recovered from the records and bases that the nodes hold: the chains of linked parts, and the greatest
-- record whose whole volume they give.
use Rattle.std.specs.Prelude.{ℕ, zero, suc, ◌^◌, Bool, true, ◌==◌, ◌&&◌, ◌||◌, nat_lt, nat_le, if◌then◌else◌, List, [], ◌∷◌, ◌++◌, map, length, slice_index, filter, find, flat_map, fold, is_some, bytes_eq, Option, None, Some}
use Rattle.std.specs.List.{list_all}
use Rattle.salus_types.specs.Volume.{Shape, regions}
use Rattle.salus_types.specs.declared.records.Header.{Header}
use Rattle.salus_types.specs.declared.records.Record.{Record}
use Rattle.salus_types.specs.declared.records.Base.{Base}
use Rattle.merkle_region.specs.Tree.{root_of}
use Rattle.merkle_volume.specs.Top.{top_of}
use Rattle.volume_model.specs.Contents.{all_regions}
use Rattle.client_tag.specs.Tags.{is_genuine}
use Rattle.holding_model.specs.Fitting.{record_fits, has_content, blocks_after, has_shape}

-- ---- what counts

-- regions of the volume, a front for each region, and no number above 2^63
unfoldable pub header_fits : Shape → Header → Bool
header_fits shape h =
    nat_lt h.region (regions shape) && list_all (λ g. nat_lt g (regions shape)) h.touched && nat_lt h.leader_before (regions shape)
    && (length h.fronts == regions shape) && list_all (λ f. nat_le f (2 ^ 63)) h.fronts && nat_le h.seq (2 ^ 63)

-- a record counts if it is genuine and of the volume
abbrev pub record_counts : Shape → List ℕ → Record → Bool
record_counts shape key rec = is_genuine key rec && header_fits shape rec.header && record_fits shape rec

-- a base counts if its record does, and its blocks have that record's root
abbrev pub base_counts : Shape → List ℕ → Base → Bool
base_counts shape key base =
    record_counts shape key base.rec && has_shape shape base.blocks && bytes_eq (root_of shape.height base.blocks) base.rec.header.root

-- What counts, of all that the nodes hold; headers in the order of arrival.
pub record Pool : Type 0 where
  pub bases : List Base
  pub parts : List Record
  pub headers : List Header

-- ---- chains

-- the number up to which a chain goes, and the blocks after it
pub record End : Type 0 where
  pub at : ℕ
  pub blocks : List (List ℕ)

abbrev pub is_of : ℕ → ℕ → Header → Bool
is_of e g h = (h.session == e) && (h.region == g)

abbrev pub base_end : Base → End
base_end base = record { at = base.rec.header.seq; blocks = base.blocks }

-- a part links to a chain that goes up to its previous number, and has the root of the blocks after it
abbrev pub is_link : Shape → End → Record → Bool
is_link shape end rec =
    (rec.header.previous == end.at) && nat_lt rec.header.previous rec.header.seq && has_content rec.writes rec.run
    && bytes_eq (root_of shape.height (blocks_after shape end.blocks rec)) rec.header.root

abbrev pub linked : Shape → List Record → End → List End
linked shape parts end = map (λ rec. record { at = rec.header.seq; blocks = blocks_after shape end.blocks rec }) (filter (λ rec. is_link shape end rec) parts)

-- the ends of the chains of at most so many parts: each base, and each chain with one part more
unfoldable pub chain_ends : Shape → List Base → List Record → ℕ → List End
chain_ends shape bases parts zero = map base_end bases
chain_ends shape bases parts (suc n) = map base_end bases ++ flat_map (λ end. linked shape parts end) (chain_ends shape bases parts n)

-- the ends of all chains of a session in a region; numbers rise along a chain, so it has each part once at most
unfoldable pub ends_of : Shape → Pool → ℕ → ℕ → List End
ends_of shape pool e g =
    chain_ends shape (filter (λ base. is_of e g base.rec.header) pool.bases) (filter (λ rec. is_of e g rec.header) pool.parts) (length pool.parts)

-- the blocks of those that go up to exactly this number
abbrev pub blocks_up_to : Shape → Pool → ℕ → ℕ → ℕ → List (List (List ℕ))
blocks_up_to shape pool e g x = map (λ end. end.blocks) (filter (λ end. end.at == x) (ends_of shape pool e g))

-- ---- the choice

-- one of each list, in every way
unfoldable pub picks : {A : Type 0} → List (List A) → List (List A)
picks [] = [] ∷ []
picks (choices ∷ others) = flat_map (λ x. map (λ rest. x ∷ rest) (picks others)) choices

-- for each region the blocks of the chains up to its front
abbrev pub choices_of : Shape → Pool → Header → List (List (List (List ℕ)))
choices_of shape pool h = map (λ g. blocks_up_to shape pool h.session g (slice_index h.fronts g)) (all_regions shape)

abbrev pub has_top : Shape → Header → List (List (List ℕ)) → Bool
has_top shape h pick = bytes_eq (top_of shape.regions_log (map (λ blocks. root_of shape.height blocks) pick)) h.top

-- The regions' blocks that a header names: a chain for each region up to its front, together with the header's top.
unfoldable pub recovered : Shape → Pool → Header → Option (List (List (List ℕ)))
recovered shape pool h = find (λ pick. has_top shape h pick) (picks (choices_of shape pool h))

abbrev pub is_recoverable : Shape → Pool → Header → Bool
is_recoverable shape pool h = is_some (recovered shape pool h)

-- of a greater session, or a greater number in the same
abbrev pub is_above : Header → Option Header → Bool
is_above h None = true
is_above h (Some best) = nat_lt best.session h.session || ((best.session == h.session) && nat_lt best.seq h.seq)

abbrev pub better_of : Shape → Pool → Option Header → Header → Option Header
better_of shape pool best h = if is_above h best && is_recoverable shape pool h then Some h else best

-- the greatest header that is recoverable; of equal ones the first
unfoldable pub choice_of : Shape → Pool → Option Header
choice_of shape pool = fold (better_of shape pool) None pool.headers
