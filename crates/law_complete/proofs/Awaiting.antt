-- What a client that opens a session waits for from a node: what it asked it, which reply it takes, and when that has come.
use Rattle.std.proofs.Common.{◌≡◌, ℕ, ◌<◌, true, false, List, [], ◌∷◌}
use Rattle.std.specs.Prelude.{Some, Ok}
use Rattle.salus_types.specs.Volume.{Shape, regions}
use Rattle.salus_types.specs.declared.names.NodeName.{NodeName}
use Rattle.salus_types.specs.declared.names.Sender.TheVariants as sender
use Rattle.salus_types.specs.declared.records.Held.{Held}
use Rattle.salus_message.specs.declared.carried.Dumped.{Dumped}
use Rattle.salus_message.specs.declared.wire.Message.{Message}
use Rattle.salus_message.specs.declared.wire.Message.TheVariants as message
use Rattle.salus_message.specs.Ranges.{IsMessage, HasWidths}
use Rattle.salus_message.specs.Reading.{message_at}
use Rattle.schedule_text.specs.declared.schedule.Volume.{Volume}
use Rattle.printed_lines.specs.declared.line.Line.{Line}
use Rattle.printed_lines.specs.declared.line.Line.TheVariants as line
use Rattle.merkle_region.specs.Tree.{root_of, IsAmong}
use Rattle.holding_model.specs.Fitting.{has_shape}
use Rattle.volume_model.specs.Contents.{region_root, blocks_in}
use Rattle.salus_model.specs.declared.trace.TraceStep.{TraceStep}
use Rattle.salus_model.specs.Following.{Posted, posted_at}
use Rattle.salus_model.specs.Opening.{is_fetched}
use Rattle.client_rules.specs.State.{Gathering, Fetching, Beginning, Client, Closed, Serves, Gathers, Fetches, Stages, Switches}
use Rattle.client_rules.specs.Opening.{has_answered, all_answered, stage_letters, fetched_blocks}
use Rattle.law_reads.proofs.Relay.{Owed, IsDone, IsKept, IsAsked, IsAnswered}

-- ---- by what the client is at

-- the messages that it asks the node by
abbrev pub Asks : Client → NodeName → Message → Type 0
Asks (Gathers g) name m = m ≡ message.Gather (record { session = g.session })
Asks (Fetches f) name m = (name.region ≡ f.region) × (m ≡ message.Dump (record { session = f.served; region = f.region }))
Asks (Stages b) name m = IsAmong (record { to = name; message = m }) b.bases
Asks (Switches b) name m = m ≡ message.Switch (record { session = b.session })
Asks Closed name m = ⊥
Asks (Serves c) name m = ⊥

-- the replies that it waits for
abbrev pub Replies : Shape → Client → NodeName → Message → Type 0
Replies shape (Gathers g) name m = (held : Held) × (m ≡ message.Gathered (record { session = g.session; held = held }))
Replies shape (Fetches f) name m = (d : Dumped) × (m ≡ message.Dumped d) × (is_fetched shape f.served f.region (region_root shape f.contents f.region) name d ≡ true)
Replies shape (Stages b) name m = m ≡ message.Staged (record { session = b.session })
Replies shape (Switches b) name m = m ≡ message.Switched (record { session = b.session })
Replies shape Closed name m = ⊥
Replies shape (Serves c) name m = ⊥

-- nothing is waited for any more from the node
abbrev pub Done : Client → NodeName → Type 0
Done (Gathers g) name = has_answered name g.answered ≡ true
Done (Fetches f) name = name.region ≡ f.region → ⊥
Done (Stages b) name = has_answered name b.answered ≡ true
Done (Switches b) name = has_answered name b.answered ≡ true
Done Closed name = Unit {0}
Done (Serves c) name = Unit {0}

-- some node hasn't answered
abbrev pub IsOpen : Shape → Client → Type 0
IsOpen shape (Gathers g) = all_answered shape g.answered ≡ false
IsOpen shape (Stages b) = all_answered shape b.answered ≡ false
IsOpen shape (Switches b) = all_answered shape b.answered ≡ false
IsOpen shape (Fetches f) = Unit {0}
IsOpen shape Closed = Unit {0}
IsOpen shape (Serves c) = Unit {0}

-- ---- a session that is staged

-- the lines of a step that changes nothing of what is known
abbrev pub AreQuiet : List Line → Type 0
AreQuiet [] = Unit {0}
AreQuiet (line.Refused v cause ∷ []) = Unit {0}
AreQuiet other = ⊥

-- It starts from what was gathered: every base has the blocks of its region.
pub record FromGathering (volume : Volume) (g : Gathering) (b : Beginning) : Type 0 where
  pub session : g.session ≡ b.session
  pub bases : b.bases ≡ stage_letters volume b.session b.seq b.contents (λ r. blocks_in volume.geometry b.contents r)

-- It starts from what is served: the bases of one region have its blocks, all others none.
pub record FromFetching (volume : Volume) (f : Fetching) (b : Beginning) (lines : List Line) : Type 0 where
  pub session : f.session ≡ b.session
  pub seq : f.last ≡ b.seq
  pub contents : f.contents ≡ b.contents
  pub line_is : lines ≡ line.Stage b.session f.served b.seq ∷ []
  pub blocks : List (List ℕ)
  pub bases : b.bases ≡ stage_letters volume b.session b.seq b.contents (fetched_blocks f.region blocks)
  pub shaped : has_shape volume.geometry blocks ≡ true
  pub root : root_of volume.geometry.height blocks ≡ region_root volume.geometry b.contents f.region

-- it was staged before
pub record FromStaging (old b : Beginning) (lines : List Line) : Type 0 where
  pub session : old.session ≡ b.session
  pub seq : old.seq ≡ b.seq
  pub contents : old.contents ≡ b.contents
  pub bases : old.bases ≡ b.bases
  pub quiet : AreQuiet lines

abbrev pub StagedBy : Volume → Client → Beginning → List Line → Type 0
StagedBy volume (Gathers g) b lines = FromGathering volume g b
StagedBy volume (Fetches f) b lines = FromFetching volume f b lines
StagedBy volume (Stages old) b lines = FromStaging old b lines
StagedBy volume (Switches old) b lines = ⊥
StagedBy volume Closed b lines = ⊥
StagedBy volume (Serves c) b lines = ⊥

-- the client served, or fetched the same
abbrev pub FetchedBy : Volume → Client → Fetching → List Line → Type 0
FetchedBy volume (Serves c) f lines = (lines ≡ []) × (f.region < regions volume.geometry)
FetchedBy volume (Fetches old) f lines = (old ≡ f) × AreQuiet lines
FetchedBy volume (Gathers g) f lines = ⊥
FetchedBy volume (Stages b) f lines = ⊥
FetchedBy volume (Switches b) f lines = ⊥
FetchedBy volume Closed f lines = ⊥

-- what a session that is staged or fetched for after a step was before it
abbrev pub ComesFrom : Volume → Client → Client → List Line → Type 0
ComesFrom volume c (Stages b) lines = StagedBy volume c b lines
ComesFrom volume c (Fetches f) lines = FetchedBy volume c f lines
ComesFrom volume c (Gathers g) lines = Unit {0}
ComesFrom volume c (Switches b) lines = Unit {0}
ComesFrom volume c Closed lines = Unit {0}
ComesFrom volume c (Serves s) lines = Unit {0}

-- ---- messages

-- message k is the client's to that node, and such a one
pub record IsLetterOf (posts : List Posted) (name : NodeName) (Of : Message → Type 0) (k : ℕ) : Type 0 where
  pub m : Message
  pub bytes : List ℕ
  pub at : posted_at posts k ≡ Some (record { from = sender.Client; to = sender.Node name; bytes = bytes })
  pub reads : message_at bytes ≡ Ok m
  pub counts : IsMessage m
  pub widths : HasWidths m
  pub of : Of m

-- message k is the node's to the client, and such a one
pub record IsReplyOf (posts : List Posted) (name : NodeName) (Of : Message → Type 0) (k : ℕ) : Type 0 where
  pub m : Message
  pub bytes : List ℕ
  pub at : posted_at posts k ≡ Some (record { from = sender.Node name; to = sender.Client; bytes = bytes })
  pub reads : message_at bytes ≡ Ok m
  pub of : Of m

-- ---- what is owed

abbrev pub OwedBy : List Posted → NodeName → (Message → Type 0) → (Message → Type 0) → Type 0 → List TraceStep → Type 0
OwedBy posts name A R D earlier = Owed (IsLetterOf posts name A) (IsReplyOf posts name R) D ⊥ earlier

-- the node owes the client what it waits for
abbrev pub IsOwed : Shape → List Posted → Client → NodeName → List TraceStep → Type 0
IsOwed shape posts c name earlier = OwedBy posts name (Asks c name) (Replies shape c name) (Done c name) earlier

module _ (posts : List Posted) (name : NodeName) (A R B S : Message → Type 0) (asks : (m : Message) → A m → B m) (replies : (m : Message) → R m → S m) (D : Type 0) (earlier : List TraceStep) where
  -- the same of kinds that have more messages
  pub owed_more : OwedBy posts name A R D earlier → OwedBy posts name B S D earlier
  owed_more (IsDone done) = IsDone done
  owed_more (IsKept none) = absurd none
  owed_more (IsAsked way) =
      IsAsked (record {
        k = way.k;
        sent = way.sent;
        is_one = record { m = way.is_one.m; bytes = way.is_one.bytes; at = way.is_one.at; reads = way.is_one.reads; counts = way.is_one.counts; widths = way.is_one.widths; of = asks way.is_one.m way.is_one.of };
        waits = way.waits;
      })
  owed_more (IsAnswered way) =
      IsAnswered (record {
        k = way.k;
        sent = way.sent;
        is_one = record { m = way.is_one.m; bytes = way.is_one.bytes; at = way.is_one.at; reads = way.is_one.reads; of = replies way.is_one.m way.is_one.of };
        waits = way.waits;
      })
