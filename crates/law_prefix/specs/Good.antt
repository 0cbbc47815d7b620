-- What the world keeps.
use Rattle.std.specs.Prelude.{◌≡◌, ℕ, zero, suc, ◌+◌, ◌≤◌, ◌<◌, Bool, true, List, length, take, ◌⊎◌}
use Rattle.law_prefix.specs.Numbers.{Mem, touches, number}
use Rattle.law_prefix.specs.Images.{Image, IsLinked, reach}
use Rattle.law_prefix.specs.World.{Serving, Gathering, Fetching, Staging, Switching, Client, Vote, Claim, Told, Reply, World, Volume, leader}

-- ---- the client

-- a known session above the one served last: it was never opened
pub record IsUnopened (c : Client) (f : ℕ) : Type 0 where
  pub taken : c.lists f ≡ take (c.starts f) (c.lists c.served)
  pub kept : c.acked ≤ c.starts f
  pub within : c.starts f ≤ length (c.lists c.served)

pub record ClientGood (v : Volume) (c : Client) : Type 0 where
  pub blank_known : Mem zero c.known
  pub blank_start : c.starts zero ≡ zero
  pub served_up : zero < c.served
  pub served_known : Mem c.served c.known
  pub start_acked : c.starts c.served ≤ c.acked
  pub acked_within : c.acked ≤ length (c.lists c.served)
  pub window : length (c.lists c.served) ≤ c.acked + 16
  pub known_asked : (f : ℕ) → Mem f c.known → f ≤ c.asked
  pub starts_within : (f : ℕ) → Mem f c.known → c.starts f ≤ length (c.lists f)
  pub serving : c.phase ≡ Serving → c.asked ≡ c.served
  pub early : (c.phase ≡ Gathering) ⊎ (c.phase ≡ Fetching) → (f : ℕ) → Mem f c.known → f < c.asked
  pub late : (c.phase ≡ Staging) ⊎ (c.phase ≡ Switching) → Mem c.asked c.known × (c.served < c.asked)
  pub fetching : c.phase ≡ Fetching → c.acked ≡ length (c.lists c.served)
  pub unopened : (f : ℕ) → Mem f c.known → c.served < f → IsUnopened c f
  pub switches_known : (f : ℕ) → Mem f c.switches → Mem f c.known
  pub inside : (e i : ℕ) → leader (c.lists e) i < v.regions
  pub led : (e i : ℕ) → i < length (c.lists e) → touches (c.lists e) i (leader (c.lists e) i) ≡ true

-- ---- one image of one node's disk, of any node

pub record ImageGood (c : Client) (g : ℕ) (i : Image) : Type 0 where
  pub known : Mem i.session c.known
  pub start : c.starts i.session ≤ i.base
  pub within : i.base ≤ length (c.lists i.session)
  pub is_number : number (c.lists i.session) (c.starts i.session) i.base g ≡ i.base
  pub linked : IsLinked (c.lists i.session) (c.starts i.session) g i.base i.parts
  pub later : (f : ℕ) → Mem f i.later → Mem f c.known
  pub origin : c.served < i.session → Mem i.session c.switches
  pub low : i.session ≡ c.served → i.base ≤ c.acked

abbrev pub NodesGood : Volume → Client → (ℕ → List Image) → Type 0
NodesGood v c images = (r : ℕ) (i : Image) → Mem i (images r) → ImageGood c (v.region r) i

-- ---- what is covered

-- the image has gone past the session served, or holds what region g needs of its first x batches
abbrev pub Covered : Client → ℕ → Image → ℕ → Type 0
Covered c g i x = (c.served < i.session) ⊎ (i.session ≡ c.served) × (number (c.lists c.served) (c.starts c.served) x g ≤ reach i.base i.parts)

-- every image of every node that counts covers the first x batches of the session served
pub record Settled (v : Volume) (c : Client) (images : ℕ → List Image) (counts : ℕ → Bool) (x : ℕ) : Type 0 where
  pub within : x ≤ length (c.lists c.served)
  pub all : (r : ℕ) → counts r ≡ true → (i : Image) → Mem i (images r) → Covered c (v.region r) i x

-- The image has gone past session e, or serves it and reaches what region g needs of its first x batches, or has its
-- base staged and needs no more.
abbrev pub Covers : Client → ℕ → Image → ℕ → ℕ → Type 0
Covers c g i e x =
    (e < i.session)
    ⊎ (i.session ≡ e) × (number (c.lists e) (c.starts e) x g ≤ reach i.base i.parts)
    ⊎ Mem e i.later × (number (c.lists e) (c.starts e) x g ≤ c.starts e)

abbrev pub AllCover : Volume → World → ℕ → ℕ → Type 0
AllCover v w e x = (r : ℕ) → w.counts r ≡ true → (i : Image) → Mem i (w.images r) → Covers w.client (v.region r) i e x

-- it holds a base of session f, or has gone past it
abbrev pub HasBase : Image → ℕ → Type 0
HasBase i f = Mem f i.later ⊎ (f ≤ i.session)

abbrev pub Above : Client → (ℕ → List Image) → (ℕ → Bool) → Type 0
Above c images counts = (r : ℕ) → counts r ≡ true → (i : Image) → Mem i (images r) → c.served ≤ i.session

abbrev pub BasesHeld : Client → (ℕ → List Image) → (ℕ → Bool) → Type 0
BasesHeld c images counts = (f : ℕ) → Mem f c.switches → (r : ℕ) → counts r ≡ true → (i : Image) → Mem i (images r) → HasBase i f

-- ---- messages

pub record VoteGood (c : Client) (images : ℕ → List Image) (counts : ℕ → Bool) (t : Vote) : Type 0 where
  pub old : t.session ≤ c.served
  pub held : counts t.node ≡ true → t.session ≡ c.served → (i : Image) → Mem i (images t.node)
      → (c.served < i.session) ⊎ (suc t.before ≤ reach i.base i.parts)

pub record ClaimGood (v : Volume) (c : Client) (images : ℕ → List Image) (counts : ℕ → Bool) (t : Claim) : Type 0 where
  pub old : t.session ≤ c.served
  pub settled : (counts t.node ≡ true) ⊎ (t.counted ≡ true) → t.session ≡ c.served → Settled v c images counts t.front

pub record StagedGood (c : Client) (images : ℕ → List Image) (fresh : ℕ → Bool) (t : Told) : Type 0 where
  pub old : t.session ≤ c.asked
  pub held : fresh t.node ≡ true → t.session ≡ c.asked → (i : Image) → Mem i (images t.node) → HasBase i c.asked

pub record SwitchedGood (c : Client) (images : ℕ → List Image) (fresh : ℕ → Bool) (t : Told) : Type 0 where
  pub old : t.session ≤ c.asked
  pub held : fresh t.node ≡ true → t.session ≡ c.asked → (i : Image) → Mem i (images t.node) → c.asked ≤ i.session

-- what the client may find in the reply of a node that counts
pub record HeldGood (c : Client) (g : ℕ) (i : Image) : Type 0 where
  pub image : ImageGood c g i
  pub above : c.served ≤ i.session
  pub covered : Covered c g i c.acked
  pub bases : (f : ℕ) → Mem f c.switches → HasBase i f

pub record ReplyGood (v : Volume) (c : Client) (counts : ℕ → Bool) (t : Reply) : Type 0 where
  pub old : t.session ≤ c.asked
  pub held : c.phase ≡ Gathering → t.session ≡ c.asked → counts t.node ≡ true → HeldGood c (v.region t.node) t.held

pub record Good (v : Volume) (w : World) : Type 0 where
  pub client : ClientGood v w.client
  pub nodes : NodesGood v w.client w.images
  pub fresh_honest : (r : ℕ) → w.fresh r ≡ true → v.honest r ≡ true
  pub counts_fresh : (r : ℕ) → w.counts r ≡ true → w.fresh r ≡ true
  pub above : Above w.client w.images w.counts
  pub bases : BasesHeld w.client w.images w.counts
  pub acked : Settled v w.client w.images w.counts w.client.acked
  pub votes : (t : Vote) → Mem t w.votes → VoteGood w.client w.images w.counts t
  pub claims : (t : Claim) → Mem t w.claims → ClaimGood v w.client w.images w.counts t
  pub staged : (t : Told) → Mem t w.staged → StagedGood w.client w.images w.fresh t
  pub switched : (t : Told) → Mem t w.switched → SwitchedGood w.client w.images w.fresh t
  pub replies : (t : Reply) → Mem t w.replies → ReplyGood v w.client w.counts t
