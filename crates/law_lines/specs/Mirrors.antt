-- What a client keeps in each of its phases, and what a step owes.
use Rattle.std.specs.Prelude.{◌≡◌, ℕ, ◌<◌, ◌≤◌, true, false, List, length, take, Some, IfSome}
use Rattle.std.specs.List.{list_any}
use Rattle.salus_types.specs.Volume.{Shape}
use Rattle.salus_types.specs.declared.names.NodeName.{NodeName}
use Rattle.salus_types.specs.declared.records.Header.{Header}
use Rattle.schedule_text.specs.declared.schedule.Volume.{Volume}
use Rattle.printed_lines.specs.declared.line.Line.{Line}
use Rattle.volume_model.specs.Contents.{fold_batches}
use Rattle.volume_model.specs.Parts.{Session}
use Rattle.salus_model.specs.Judge.{Judge, known_at, last_number, array}
use Rattle.salus_model.specs.Hearing.{Past, news_since, begins, stages, Closed, Gathering, Fetching, Staged, phase_of}
use Rattle.volume_model.specs.Recovering.{Pool, recovered, choice_of}
use Rattle.salus_model.specs.Opening.{Reply, has_replied, replies_to, all_replied, pool_of, says_staged, all_staged, has_switched}
use Rattle.client_rules.specs.State as state
use Rattle.client_rules.specs.Opening.{has_answered, all_answered, joined_blocks}
use Rattle.law_lines.specs.Mirror.{MirrorsServing, IsBefore}

-- It gathers: each node's first reply, and what counts of them.
pub record MirrorsGathering (volume : Volume) (history : List Past) (g : state.Gathering) : Type 0 where
  pub phase : phase_of history ≡ Gathering g.session
  pub answered : (name : NodeName) → has_answered name g.answered ≡ has_replied name (replies_to g.session (news_since begins history))
  pub pool : g.pool ≡ pool_of volume.geometry volume.key (replies_to g.session (news_since begins history))

-- It fetches: what was served is what the lines say.
pub record MirrorsFetching (history : List Past) (judge : Judge) (f : state.Fetching) : Type 0 where
  pub phase : phase_of history ≡ Fetching f.session f.region
  pub served : f.served ≡ judge.now.session
  pub last : f.last ≡ last_number judge
  pub contents : f.contents ≡ array judge

-- The session that begins is known, and has its base's batches.
pub record MirrorsKnown (judge : Judge) (b : state.Beginning) : Type 0 where
  pub known : Session
  pub at : known_at judge b.session ≡ Some known
  pub session : known.session ≡ b.session
  pub base : known.base ≡ b.seq
  pub count : length known.list ≡ b.seq
  pub contents : b.contents ≡ fold_batches known.origin known.list

-- It stages: not every node has answered, and no switch counts yet.
pub record MirrorsStaging (shape : Shape) (history : List Past) (judge : Judge) (b : state.Beginning) : Type 0 where
  pub phase : phase_of history ≡ Staged b.session
  pub begun : MirrorsKnown judge b
  pub answered : (name : NodeName) → has_answered name b.answered ≡ list_any (λ x. says_staged b.session name x) (news_since stages history)
  pub waits : all_answered shape b.answered ≡ false
  pub switched : (name : NodeName) → has_switched shape b.session (news_since stages history) name ≡ false

-- It switches: every node has staged.
pub record MirrorsSwitching (shape : Shape) (history : List Past) (judge : Judge) (b : state.Beginning) : Type 0 where
  pub phase : phase_of history ≡ Staged b.session
  pub begun : MirrorsKnown judge b
  pub staged : all_staged shape b.session (news_since stages history) ≡ true
  pub answered : (name : NodeName) → has_answered name b.answered ≡ has_switched shape b.session (news_since stages history) name

-- the client keeps what history and lines say, before event n
abbrev pub Mirrors : Volume → List Past → Judge → ℕ → state.Client → Type 0
Mirrors volume history judge n state.Closed = phase_of history ≡ Closed
Mirrors volume history judge n (state.Serves c) = MirrorsServing volume.geometry history judge n c
Mirrors volume history judge n (state.Gathers g) = MirrorsGathering volume history g
Mirrors volume history judge n (state.Fetches f) = MirrorsFetching history judge f
Mirrors volume history judge n (state.Stages b) = MirrorsStaging volume.geometry history judge b
Mirrors volume history judge n (state.Switches b) = MirrorsSwitching volume.geometry history judge b

-- the session to open is later than the session last opened, and earlier than m
abbrev pub OpensBelow : ℕ → ℕ → ℕ → Type 0
OpensBelow now e m = (now < e) × (e < m)

abbrev pub IsYoung : Judge → ℕ → state.Client → Type 0
IsYoung judge m state.Closed = judge.now.session < m
IsYoung judge m (state.Serves c) = judge.now.session < m
IsYoung judge m (state.Gathers g) = OpensBelow judge.now.session g.session m
IsYoung judge m (state.Fetches f) = OpensBelow judge.now.session f.session m
IsYoung judge m (state.Stages b) = OpensBelow judge.now.session b.session m
IsYoung judge m (state.Switches b) = OpensBelow judge.now.session b.session m

-- What holds between two steps: before event n, and before session m is asked for.
pub record Holds (volume : Volume) (history : List Past) (judge : Judge) (n m : ℕ) (c : state.Client) : Type 0 where
  pub before : IsBefore volume.geometry history judge n
  pub young : IsYoung judge m c
  pub mirrors : Mirrors volume history judge n c

-- A step gives the lines due, and leaves the client as they say.
pub record AsDue (volume : Volume) (next : List Past) (judge : Judge) (n m : ℕ) (due : List Line) (told : state.Told) : Type 0 where
  pub same : told.lines ≡ due
  pub holds : Holds volume next judge n m told.client

-- ---- the premise on what a restart chooses

-- the header is that of a front part of a known list, and the blocks are those of its batches
pub record IsFrontOf (volume : Volume) (judge : Judge) (pool : Pool) (h : Header) : Type 0 where
  pub from : Session
  pub at : known_at judge h.session ≡ Some from
  pub within : h.seq ≤ length from.list
  pub contents : joined_blocks (recovered volume.geometry pool h) ≡ fold_batches from.origin (take h.seq from.list)

-- once all replies are in, what is chosen is such a header
abbrev pub ChoiceHolds : Volume → Judge → List Reply → Type 0
ChoiceHolds volume judge replies =
    all_replied volume.geometry replies ≡ true
    → IfSome (choice_of volume.geometry (pool_of volume.geometry volume.key replies)) (λ h. IsFrontOf volume judge (pool_of volume.geometry volume.key replies) h)
