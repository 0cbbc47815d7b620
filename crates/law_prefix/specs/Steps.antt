-- The steps.
use Rattle.std.specs.Prelude.{◌≡◌, ℕ, zero, suc, ◌+◌, ◌-◌, ◌≤◌, ◌<◌, Bool, true, nat_lt, cond, List, [], ◌∷◌, ◌++◌, length, take, ◌⊎◌}
use Rattle.law_prefix.specs.Numbers.{Mem, touches, number}
use Rattle.law_prefix.specs.Images.{Part, Image, IsPart, reach, folded_place, folded_parts, HasChain}
use Rattle.law_prefix.specs.World.{Phase, Serving, Gathering, Fetching, Client, Vote, Claim, Told, Reply, World, Volume, leader}

-- the sessions above e
unfoldable pub above : ℕ → List ℕ → List ℕ
above e [] = []
above e (f ∷ fs) = cond (nat_lt e f) (f ∷ above e fs) (above e fs)

-- an honest node of this claims at least x
pub record Claimed (claims : List Claim) (r e x : ℕ) : Type 0 where
  pub claim : Claim
  pub sent : Mem claim claims
  pub node : claim.node ≡ r
  pub session : claim.session ≡ e
  pub front : x ≤ claim.front

-- Every honest replica of the region claims at least x; or x is at most the place from which the node's table began.
abbrev pub AllClaim : Volume → List Claim → ℕ → ℕ → ℕ → Type 0
AllClaim v claims g e x = (r : ℕ) → v.honest r ≡ true → v.region r ≡ g → Claimed claims r e x

-- ---- one change of what one image holds

pub record AddsPart (c : Client) (g : ℕ) (i j : Image) : Type 0 where
  pub added : Part
  pub is_part : IsPart (c.lists i.session) (c.starts i.session) g added
  pub next : added.previous ≡ reach i.base i.parts
  pub same_session : j.session ≡ i.session
  pub same_base : j.base ≡ i.base
  pub more_parts : j.parts ≡ i.parts ++ added ∷ []
  pub same_later : j.later ≡ i.later

pub record AddsBase (c : Client) (i j : Image) : Type 0 where
  pub added : ℕ
  pub is_known : Mem added c.known
  pub same_session : j.session ≡ i.session
  pub same_base : j.base ≡ i.base
  pub same_parts : j.parts ≡ i.parts
  pub more_later : j.later ≡ added ∷ i.later

pub record Switches (c : Client) (i j : Image) : Type 0 where
  pub up : i.session < j.session
  pub staged : Mem j.session i.later
  pub told : Mem j.session c.switches
  pub base : j.base ≡ c.starts j.session
  pub parts : j.parts ≡ []
  pub later : j.later ≡ above j.session i.later

pub record Folds (i j : Image) : Type 0 where
  pub to : ℕ
  pub newest : Part
  pub newest_held : Mem newest i.parts
  pub room : to + 16 ≤ suc newest.before
  pub same_session : j.session ≡ i.session
  pub base : j.base ≡ folded_place to i.base i.parts
  pub parts : j.parts ≡ folded_parts to i.parts
  pub same_later : j.later ≡ i.later

abbrev pub Changes : Client → ℕ → Image → Image → Type 0
Changes c g i j = (j ≡ i) ⊎ AddsPart c g i j ⊎ AddsBase c i j ⊎ Switches c i j ⊎ Folds i j

pub record Comes (c : Client) (g : ℕ) (before : List Image) (j : Image) : Type 0 where
  pub from : Image
  pub was : Mem from before
  pub how : Changes c g from j

-- ---- what stands behind a message

-- the vote was sent
pub record Voted (votes : List Vote) (r e before : ℕ) : Type 0 where
  pub vote : Vote
  pub sent : Mem vote votes
  pub node : vote.node ≡ r
  pub session : vote.session ≡ e
  pub same : vote.before ≡ before

-- the image holds the part, or a base into which it was folded
abbrev pub HoldsBatch : Image → ℕ → ℕ → Type 0
HoldsBatch i e before = (i.session ≡ e) × (((p : Part) × Mem p i.parts × (p.before ≡ before)) ⊎ (suc before ≤ i.base))

-- a batch of a known session
pub record IsBatch (c : Client) (e before : ℕ) : Type 0 where
  pub known : Mem e c.known
  pub after_start : c.starts e ≤ before
  pub submitted : before < length (c.lists e)

pub record Votes (v : Volume) (w : World) (t : Vote) : Type 0 where
  pub batch : IsBatch w.client t.session t.before
  pub held : (i : Image) → Mem i (w.images t.node) → HoldsBatch i t.session t.before

-- every honest replica of each touched region voted, and the batch before is settled as the leader sees it
pub record Commits (v : Volume) (w : World) (held : Image) (e before : ℕ) : Type 0 where
  pub batch : IsBatch w.client e before
  pub votes : (r : ℕ) → v.honest r ≡ true → touches (w.client.lists e) before (v.region r) ≡ true → Voted w.votes r e before
  pub in_order : (before ≤ held.base) ⊎ AllClaim v w.claims (leader (w.client.lists e) (before - 1)) e before

-- the number of a batch, at most that of the base
pub record IsFolded (c : Client) (held : Image) (e x : ℕ) : Type 0 where
  pub number : x ≤ held.base
  pub batch : IsBatch c e (x - 1)

pub record Licence (v : Volume) (w : World) (t : Claim) : Type 0 where
  pub held : Image
  pub was : Mem held (w.images t.node)
  pub session : held.session ≡ t.session
  pub counted : t.counted ≡ w.counts t.node
  pub how : ((before : ℕ) × (t.front ≡ suc before) × Commits v w held t.session before) ⊎ IsFolded w.client held t.session t.front

pub record TellsStaged (w : World) (t : Told) : Type 0 where
  pub known : Mem t.session w.client.known
  pub held : (i : Image) → Mem i (w.images t.node) → Mem t.session i.later

pub record TellsSwitched (w : World) (t : Told) : Type 0 where
  pub known : Mem t.session w.client.known
  pub held : (i : Image) → Mem i (w.images t.node) → i.session ≡ t.session

pub record Replies (w : World) (t : Reply) : Type 0 where
  pub asked : t.session ≤ w.client.asked
  pub held : Mem t.held (w.images t.node)

-- ---- a node is replaced

pub record IsBlank (i : Image) : Type 0 where
  pub session : i.session ≡ zero
  pub base : i.base ≡ zero
  pub parts : i.parts ≡ []
  pub later : i.later ≡ []

pub record Replaces (w : World) (images : ℕ → List Image) (counts fresh : ℕ → Bool) : Type 0 where
  pub counting : (r : ℕ) → counts r ≡ true → (w.counts r ≡ true) × (images r ≡ w.images r)
  pub freshness : (r : ℕ) → fresh r ≡ true → (w.fresh r ≡ true) × (images r ≡ w.images r)
  pub counts_fresh : (r : ℕ) → counts r ≡ true → fresh r ≡ true
  pub nodes : (r : ℕ) (i : Image) → Mem i (images r) → Mem i (w.images r) ⊎ IsBlank i

-- ---- the client's steps

pub record Submits (v : Volume) (c d : Client) : Type 0 where
  pub batch : List ℕ
  pub serving : c.phase ≡ Serving
  pub room : length (c.lists c.served) < c.acked + 16
  pub others : (e : ℕ) → (d.lists e ≡ c.lists e) ⊎ (e ≡ c.served) × (d.lists e ≡ c.lists e ++ batch ∷ [])
  pub here : d.lists c.served ≡ c.lists c.served ++ batch ∷ []
  pub inside : (e i : ℕ) → leader (d.lists e) i < v.regions
  pub led : (e i : ℕ) → i < length (d.lists e) → touches (d.lists e) i (leader (d.lists e) i) ≡ true

pub record Acks (v : Volume) (w : World) : Type 0 where
  pub serving : w.client.phase ≡ Serving
  pub there : w.client.acked < length (w.client.lists w.client.served)
  pub claimed : AllClaim v w.claims (leader (w.client.lists w.client.served) w.client.acked) w.client.served (suc w.client.acked)

-- a restart or a reassignment is asked
pub record Asks (c : Client) (e : ℕ) (phase : Phase) : Type 0 where
  pub later : c.asked < e
  pub how : (phase ≡ Gathering) ⊎ (phase ≡ Fetching) × (c.acked ≡ length (c.lists c.served))

-- session `asked` starts from the first s batches of session f
pub record Stages (v : Volume) (c d : Client) (f s : ℕ) : Type 0 where
  pub early : (c.phase ≡ Gathering) ⊎ (c.phase ≡ Fetching)
  pub known : Mem f c.known
  pub within : s ≤ length (c.lists f)
  pub others : (e : ℕ) → Mem e c.known → (d.lists e ≡ c.lists e) × (d.starts e ≡ c.starts e)
  pub list : d.lists c.asked ≡ take s (c.lists f)
  pub start : d.starts c.asked ≡ s
  pub inside : (e i : ℕ) → leader (d.lists e) i < v.regions
  pub led : (e i : ℕ) → i < length (d.lists e) → touches (d.lists e) i (leader (d.lists e) i) ≡ true

-- the node has told it
pub record HasTold (all : List Told) (r e : ℕ) : Type 0 where
  pub told : Told
  pub sent : Mem told all
  pub node : told.node ≡ r
  pub session : told.session ≡ e

-- ---- the restart's choice

-- the image has a chain of session e up to y
abbrev pub HoldsChain : Client → Image → ℕ → ℕ → Type 0
HoldsChain c i e y = (i.session ≡ e) × HasChain i.base i.parts y ⊎ Mem e i.later × (y ≡ c.starts e)

-- a reply to the present opening, of a node of region g, has that chain
pub record Offers (v : Volume) (w : World) (pool : List Reply) (g e y : ℕ) : Type 0 where
  pub reply : Reply
  pub sent : Mem reply pool
  pub session : reply.session ≡ w.client.asked
  pub region : v.region reply.node ≡ g
  pub chain : HoldsChain w.client reply.held e y

-- the image has a record of batch x of session e, or a base at x
abbrev pub HoldsHeader : Client → Image → ℕ → ℕ → Type 0
HoldsHeader c i e x = (i.session ≡ e) × ((i.base ≡ x) ⊎ (p : Part) × Mem p i.parts × (suc p.before ≡ x)) ⊎ Mem e i.later × (c.starts e ≡ x)

pub record IsRecoverable (v : Volume) (w : World) (pool : List Reply) (e x : ℕ) : Type 0 where
  pub reply : Reply
  pub sent : Mem reply pool
  pub session : reply.session ≡ w.client.asked
  pub header : HoldsHeader w.client reply.held e x
  pub chains : (g : ℕ) → g < v.regions → Offers v w pool g e (number (w.client.lists e) (w.client.starts e) x g)

-- the node has replied to the present opening
pub record HasReplied (w : World) (pool : List Reply) (r : ℕ) : Type 0 where
  pub reply : Reply
  pub sent : Mem reply pool
  pub node : reply.node ≡ r
  pub session : reply.session ≡ w.client.asked

-- The client's pool: replies that were sent, one of every honest node among them.
pub record AllReplied (v : Volume) (w : World) (pool : List Reply) : Type 0 where
  pub sent : (t : Reply) → Mem t pool → Mem t w.replies
  pub all : (r : ℕ) → v.honest r ≡ true → HasReplied w pool r

-- session f and number s are a known record's, and no recoverable one is greater
pub record IsChoice (v : Volume) (w : World) (pool : List Reply) (f s : ℕ) : Type 0 where
  pub known : Mem f w.client.known
  pub above : w.client.starts f ≤ s
  pub within : s ≤ length (w.client.lists f)
  pub greatest : (e x : ℕ) → IsRecoverable v w pool e x → (e < f) ⊎ (e ≡ f) × (x ≤ s)

-- a prefix of the list served last, with every acknowledged batch
pub record Kept (c : Client) (f s : ℕ) : Type 0 where
  pub prefix : take s (c.lists f) ≡ take s (c.lists c.served)
  pub within : s ≤ length (c.lists c.served)
  pub acked : c.acked ≤ s

-- something is recoverable
pub record SomeRecoverable (v : Volume) (w : World) (pool : List Reply) : Type 0 where
  pub session : ℕ
  pub number : ℕ
  pub is : IsRecoverable v w pool session number
