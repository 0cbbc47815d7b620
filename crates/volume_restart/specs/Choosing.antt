-- What a restart chooses among the headers that a pool keeps.
use Rattle.std.specs.Prelude.{◌≡◌, ℕ, Bool, true, false, ◌==◌, ◌&&◌, if◌then◌else◌, List, [], map, take, slice_get, option_map, MatchOption, Option, None, Some}
use Rattle.salus_types.specs.declared.records.Header.{Header}
use Rattle.salus_types.specs.Volume.{Shape}
use Rattle.merkle_region.specs.Tree.{root_of, IsAmong, NoTwoCollide}
use Rattle.volume_model.specs.Recovering.{recovered, choice_of, is_above}
use Rattle.client_rules.specs.Opening.{joined_blocks}
use Rattle.restart_pool.specs.Kept.{Kept}
use Rattle.restart_pool.specs.Assembled.{contents_of, pool_strings, IsRecovered, NoTwoShare}
use Rattle.volume_restart.specs.declared.choice.Choice.{Choice}

-- a kept header, with the contents of chains that it names and their roots
pub record IsChoice (kept : Kept) (choice : Choice) : Type 0 where
  pub header : Header
  pub among : IsAmong header kept.held.headers
  pub session : choice.session ≡ header.session
  pub number : choice.number ≡ header.seq
  pub contents : IsRecovered kept header (record { roots = choice.roots; blocks = choice.contents })

-- the roots of the regions of a choice
abbrev pub roots_by : Shape → Option (List (List (List ℕ))) → List (List ℕ)
roots_by shape None = []
roots_by shape (Some pick) = map (root_of shape.height) pick

abbrev pub choice_of_header : Kept → Header → Choice
choice_of_header kept h = record {
  session = h.session;
  number = h.seq;
  roots = roots_by kept.shape (recovered kept.shape kept.held h);
  contents = joined_blocks (recovered kept.shape kept.held h);
}

-- the greatest recoverable header, with its contents
abbrev pub chosen : Kept → Option Choice
chosen kept = option_map (choice_of_header kept) (choice_of kept.shape kept.held)

-- where no two different kept records share session, number and region, and no two strings of the kept chains collide
abbrev pub ChoosesRight : Kept → Type 0 → Type 0
ChoosesRight kept P = NoTwoShare kept.held → NoTwoCollide (pool_strings kept.shape kept.held) → P

-- ---- from the greatest downwards

-- the header is of an earlier session or a lower number than the one that was tried last
abbrev pub is_below : Header → Option Header → Bool
is_below h None = true
is_below h (Some tried) = is_above tried (Some h)

abbrev pub is_like : Header → Header → Bool
is_like h other = (h.session == other.session) && (h.seq == other.seq)

-- the header, if it is below and above the best so far
abbrev pub better : Option Header → Option Header → Header → Option Header
better tried best h = if is_below h tried && is_above h best then Some h else best

-- the greatest of those that are below
abbrev pub IsNext : List Header → Option Header → Option Header → Type 0
IsNext headers tried next =
    MatchOption next ((h : Header) → IsAmong h headers → is_below h tried ≡ false)
    (λ n. IsAmong n headers × (is_below n tried ≡ true) × ((h : Header) → IsAmong h headers → is_below h tried ≡ true → is_above h (Some n) ≡ false))

-- a header with its contents, if it is recoverable
abbrev pub choice_by : Kept → Header → Option Choice
choice_by kept h = option_map (λ found. record { session = h.session; number = h.seq; roots = found.roots; contents = found.blocks }) (contents_of kept h)

-- the header isn't recoverable, if it is of this session and number
abbrev pub NotLike : Kept → Header → Header → Type 0
NotLike kept like h = is_like h like ≡ true → contents_of kept h ≡ None

-- no header of this session and number is recoverable
abbrev pub NoneLike : Kept → Header → Type 0
NoneLike kept like = (h : Header) → IsAmong h kept.held.headers → NotLike kept like h

-- the first of the recoverable headers of this session and number
pub record IsFirstLike (kept : Kept) (like : Header) (choice : Choice) : Type 0 where
  pub place : ℕ
  pub header : Header
  pub found : slice_get kept.held.headers place ≡ Some header
  pub same : is_like header like ≡ true
  pub is : Some choice ≡ choice_by kept header
  pub earlier : (h : Header) → IsAmong h (take place kept.held.headers) → NotLike kept like h
