-- What a node of region g holds and keeps in memory, as it stands to the abstract client and to the votes and claims sent.
use Rattle.std.specs.Prelude.{◌≡◌, ◌⊎◌, ℕ, ◌-◌, ◌^◌, ◌==◌, ◌<◌, ◌≤◌, Bool, true, false, List, [], ◌∷◌, length, filter, Option, None, Some}
use Rattle.std.specs.List.{AllByRecursion}
use Rattle.salus_types.specs.Volume.{Shape}
use Rattle.salus_types.specs.declared.names.NodeName.{NodeName}
use Rattle.salus_types.specs.declared.records.Header.{Header}
use Rattle.salus_types.specs.declared.records.Record.{Record}
use Rattle.salus_types.specs.declared.records.Base.{Base}
use Rattle.salus_types.specs.declared.records.Held.{Held}
use Rattle.merkle_region.specs.Tree.{root_of}
use Rattle.holding_model.specs.Fitting.{record_fits}
use Rattle.holding_model.specs.Changing.{is_open_base}
use Rattle.replica_rules.specs.Views.{View, view_of_base, view_after, has_right_shape}
use Rattle.replica_rules.specs.Leading.{Leader}
use Rattle.replica_rules.specs.Nodes.{Memory, NodeState, stands_for, goes_on}
use Rattle.run_rules.specs.Knowing.{KnownNode}
use Rattle.law_prefix.specs.Numbers.{touches}
use Rattle.law_prefix.specs.World.{Client, Vote, Claim, Volume, leader}
use Rattle.law_prefix.specs.Steps.{AllClaim, Voted, IsBatch}
use Rattle.kept_model.specs.Images.{open_place}
use Rattle.law_refined.specs.Bringing.{PartFits, StartFits, VotedFor, ClaimedFor}

-- it holds of what is there, if anything is
abbrev pub WhereSome : {A : Type 0} → (A → Type 0) → Option A → Type 0
WhereSome P None = Unit {0}
WhereSome P (Some x) = P x

-- ---- what is held

-- A base of the open session or a later one, of the region, with blocks of its shape and root. Its record fits the volume; it
-- is the one with which its session starts, or in the open session a part that was folded.
pub record BaseStands (shape : Shape) (g : ℕ) (c : Client) (e : ℕ) (base : Base) : Type 0 where
  pub not_past : e ≤ base.rec.header.session
  pub stands : stands_for shape g base.rec.header.session base ≡ true
  pub root : root_of shape.height base.blocks ≡ base.rec.header.root
  pub inside : record_fits shape base.rec ≡ true
  pub fits : StartFits c base.rec ⊎ (base.rec.header.session ≡ e) × PartFits c base.rec

-- a part of the session that goes on from the view
pub record ChainOn (shape : Shape) (g : ℕ) (c : Client) (e : ℕ) (view : View) (rec : Record) : Type 0 where
  pub session : rec.header.session ≡ e
  pub goes : goes_on shape g view rec ≡ true
  pub fits : PartFits c rec

-- these parts, each in its turn, lead from one view to the other
unfoldable pub Chain : Shape → ℕ → Client → ℕ → View → List Record → View → Type 0
Chain shape g c e view [] now = view ≡ now
Chain shape g c e view (rec ∷ parts) now = ChainOn shape g c e view rec × Chain shape g c e (view_after shape view rec) parts now

-- the open session has one base, and the held parts lead from it to the view
pub record Opened (shape : Shape) (g : ℕ) (c : Client) (held : Held) (view : View) : Type 0 where
  pub base : Base
  pub only : filter (λ b. is_open_base held b) held.bases ≡ base ∷ []
  pub chain : Chain shape g c held.session (view_of_base base) held.parts view

-- Of each session at most one base is held; and the open session has its base and its parts, or is session 0.
pub record HeldStands (shape : Shape) (g : ℕ) (c : Client) (held : Held) : Type 0 where
  pub bases : AllByRecursion (BaseStands shape g c held.session) held.bases
  pub few : (e : ℕ) → length (filter (λ (base : Base). base.rec.header.session == e) held.bases) ≤ 1
  pub open_is : (held.session ≡ 0) × (held.parts ≡ []) ⊎ (0 < held.session) × (view : View) × Opened shape g c held view

-- ---- the leader

-- Batch x is certified, as seen from a base at that place: the honest replicas of each region that it touches voted, and the
-- batch before is at most the base's, or every honest replica of its leader claims it.
pub record Certain (v : Volume) (c : Client) (votes : List Vote) (claims : List Claim) (e place x : ℕ) : Type 0 where
  pub counted : 0 < x
  pub small : x < 2 ^ 64
  pub batch : IsBatch c e (x - 1)
  pub voted : (r : ℕ) → v.honest r ≡ true → touches (c.lists e) (x - 1) (v.region r) ≡ true → Voted votes r e (x - 1)
  pub in_order : (x - 1 ≤ place) ⊎ AllClaim v claims (leader (c.lists e) (x - 1 - 1)) e (x - 1)

-- the header of a part of the session
abbrev pub NotedFits : Client → ℕ → Header → Type 0
NotedFits c e h = (rec : Record) × PartFits c rec × (rec.header.session ≡ e) × (rec.header ≡ h)

-- its votes and claims were sent, but for those that are the number of the base from which it began
pub record LeaderStands (shape : Shape) (v : Volume) (c : Client) (votes : List Vote) (claims : List Claim) (e place : ℕ) (l : Leader) : Type 0 where
  pub low : l.base ≤ place
  pub start : c.starts e ≤ place
  pub front : (l.front ≡ l.base) ⊎ Certain v c votes claims e place l.front
  pub noted : AllByRecursion (NotedFits c e) l.noted
  pub voted : (name : NodeName) (x : ℕ) → WhereSome (λ vote. VotedFor shape v votes e vote.seq name) (l.votes name x)
  pub claimed : (name : NodeName) → (l.claims name ≡ l.base) ⊎ ClaimedFor shape v claims e (l.claims name) name

-- a base that doesn't tell with which number its session began is a batch's
abbrev pub BegunBy : Client → ℕ → ℕ → Option ℕ → Type 0
BegunBy c e x None = IsBatch c e (x - 1)
BegunBy c e x (Some begun) = begun ≡ x

-- ---- a node

pub record EarlyFits (shape : Shape) (g : ℕ) (c : Client) (e : ℕ) (rec : Record) : Type 0 where
  pub session : rec.header.session ≡ e
  pub region : rec.header.region ≡ g
  pub shaped : has_right_shape shape g rec ≡ true
  pub fits : PartFits c rec

pub record MemoryStands (shape : Shape) (v : Volume) (g : ℕ) (c : Client) (votes : List Vote) (claims : List Claim) (held : Held) (m : Memory) : Type 0 where
  pub positive : 0 < held.session
  pub session : m.replica.session ≡ held.session
  pub parts : m.parts ≡ held.parts
  pub whole : m.whole ≡ true
  pub early : AllByRecursion (EarlyFits shape g c held.session) m.replica.early
  pub opened : Opened shape g c held m.replica.view
  pub leads : LeaderStands shape v c votes claims held.session (open_place held) m.leader
  pub begun : BegunBy c held.session m.leader.base m.begun

pub record StateStands (shape : Shape) (v : Volume) (g : ℕ) (c : Client) (votes : List Vote) (claims : List Claim) (state : NodeState) : Type 0 where
  pub holds : HeldStands shape g c state.held
  pub memory : WhereSome (MemoryStands shape v g c votes claims state.held) state.memory

-- a node that speaks holds one content
abbrev pub IsSingle : Bool → Held → List Held → Type 0
IsSingle true held contents = Unit {0}
IsSingle false held contents = contents ≡ held ∷ []

pub record NodeStands (shape : Shape) (v : Volume) (g : ℕ) (c : Client) (votes : List Vote) (claims : List Claim) (known : KnownNode) : Type 0 where
  pub state : StateStands shape v g c votes claims known.state
  pub each : AllByRecursion (HeldStands shape g c) known.contents
  pub single : IsSingle known.silent known.state.held known.contents
