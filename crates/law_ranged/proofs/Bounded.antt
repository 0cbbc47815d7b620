-- What a client by its rules keeps to, whatever it is told.
use Rattle.std.proofs.Common.{◌≡◌, ℕ, ◌+◌, ◌^◌, ◌<◌, ◌≤◌, true, List, [], ◌∷◌, length, arith}
use Rattle.std.specs.List.{AllByRecursion}
use Rattle.salus_types.specs.Volume.{Shape, regions, blocks}
use Rattle.salus_types.specs.declared.records.Base.{Base}
use Rattle.salus_types.specs.declared.records.Header.{Header}
use Rattle.salus_types.specs.declared.records.Record.{Record}
use Rattle.salus_message.specs.declared.wire.Message.{Message}
use Rattle.salus_message.specs.Ranges.{IsMessage, HasWidths}
use Rattle.schedule_text.specs.Limits.{IsOfVolume}
use Rattle.salus_types.specs.declared.names.NodeName.{NodeName}
use Rattle.holding_model.specs.Fitting.{record_fits}
use Rattle.volume_model.specs.Recovering.{Pool}
use Rattle.salus_model.specs.declared.trace.Request.{Request}
use Rattle.salus_model.specs.declared.trace.Request.TheVariants as request
use Rattle.salus_model.specs.Waiting.{Taken, Question, is_write, writes_among}
use Rattle.client_rules.specs.State as state
use Rattle.client_rules.specs.State.{Open, Unacked, Told, to_all}
use Rattle.list_lemmas.proofs.Each.{all_map, all_then}
use Rattle.law_handed.specs.Fitting.{IsSpelled}
use Rattle.law_ranged.specs.Ranging.{IsSentWithin}
use Rattle.law_ranged.proofs.Sized.{Sized, BatchSized}

module _ (shape : Shape) where
  -- ---- requests and questions

  -- a request of the schedule
  abbrev pub RequestFits : Request → Type 0
  RequestFits (request.Write batch) = (length batch ≤ 64) × BatchSized shape batch
  RequestFits (request.Restart e) = e < 2 ^ 64
  RequestFits (request.Reassign e g) = e < 2 ^ 64
  RequestFits other = Unit {0}

  abbrev pub JoinedFits : Request → Type 0
  JoinedFits (request.Write batch) = (length batch ≤ 64) × BatchSized shape batch
  JoinedFits (request.Read b) = b < blocks shape
  JoinedFits other = Unit {0}

  -- a request that was taken
  abbrev pub TakenFits : Taken → Type 0
  TakenFits r = (r.event < 2 ^ 32) × JoinedFits r.request

  abbrev pub QuestionFits : Question → Type 0
  QuestionFits q = (q.number < 2 ^ 64) × (q.block < blocks shape)

  abbrev pub OpenFits : Open → Type 0
  OpenFits o = QuestionFits o.question

  -- a part that may be sent to its region
  abbrev pub PartWithin : Record → Type 0
  PartWithin rec = IsSpelled rec × (rec.header.region < regions shape)

  abbrev pub UnackedFits : Unacked → Type 0
  UnackedFits u = AllByRecursion PartWithin u.parts

  -- where the waiting line isn't empty, a write stands at its head
  abbrev pub HeadWrites : List Taken → Type 0
  HeadWrites [] = Unit {0}
  HeadWrites (w ∷ behind) = is_write w.request ≡ true

  -- ---- the client; b is the number of the next event

  -- each write that waits may yet become a batch
  pub record ServingFits (b : ℕ) (c : state.Serving) : Type 0 where
    pub session : c.session < 2 ^ 64
    pub last : c.last + writes_among c.line < 2 ^ 63 + b
    pub numbers : AllByRecursion (λ n. n < 2 ^ 64) c.numbers
    pub contents : Sized shape c.contents
    pub leader : c.leader < 2 ^ 16
    pub unacked : AllByRecursion UnackedFits c.unacked
    pub line : AllByRecursion TakenFits c.line
    pub reads : AllByRecursion OpenFits c.reads
    pub asked : AllByRecursion OpenFits c.asked

  abbrev pub BaseSized : Base → Type 0
  BaseSized base = Sized shape base.blocks

  abbrev pub PartFitting : Record → Type 0
  PartFitting rec = record_fits shape rec ≡ true

  abbrev pub HeaderLow : Header → Type 0
  HeaderLow h = h.seq ≤ 2 ^ 63

  pub record PoolFits (pool : Pool) : Type 0 where
    pub bases : AllByRecursion BaseSized pool.bases
    pub parts : AllByRecursion PartFitting pool.parts
    pub headers : AllByRecursion HeaderLow pool.headers

  pub record FetchingFits (b : ℕ) (f : state.Fetching) : Type 0 where
    pub session : f.session < 2 ^ 64
    pub served : f.served < 2 ^ 64
    pub region : f.region < regions shape
    pub last : f.last < 2 ^ 63 + b
    pub contents : Sized shape f.contents

  pub record BeginningFits (b : ℕ) (g : state.Beginning) : Type 0 where
    pub session : g.session < 2 ^ 64
    pub seq : g.seq < 2 ^ 63 + b
    pub contents : Sized shape g.contents
    pub bases : AllByRecursion (IsSentWithin shape) g.bases

  abbrev pub ClientFits : ℕ → state.Client → Type 0
  ClientFits b state.Closed = Unit {0}
  ClientFits b (state.Serves c) = ServingFits b c × HeadWrites c.line
  ClientFits b (state.Gathers g) = (g.session < 2 ^ 64) × PoolFits g.pool
  ClientFits b (state.Fetches f) = FetchingFits b f
  ClientFits b (state.Stages g) = BeginningFits b g
  ClientFits b (state.Switches g) = BeginningFits b g

  pub record ToldFits (b : ℕ) (told : Told) : Type 0 where
    pub client : ClientFits b told.client
    pub outs : AllByRecursion (IsSentWithin shape) told.outs

  -- ---- a later event

  pub serving_wider : (b more : ℕ) (c : state.Serving) → b ≤ more → ServingFits b c → ServingFits more c
  serving_wider b more c up f = record {
    session = f.session;
    last = (let last = f.last in omega (arith, up, last));
    numbers = f.numbers;
    contents = f.contents;
    leader = f.leader;
    unacked = f.unacked;
    line = f.line;
    reads = f.reads;
    asked = f.asked;
  }

  beginning_wider : (b more : ℕ) (g : state.Beginning) → b ≤ more → BeginningFits b g → BeginningFits more g
  beginning_wider b more g up f = record { session = f.session; seq = (let seq = f.seq in omega (arith, up, seq)); contents = f.contents; bases = f.bases }

  pub client_wider : (b more : ℕ) (c : state.Client) → b ≤ more → ClientFits b c → ClientFits more c
  client_wider b more state.Closed up f = tt
  client_wider b more (state.Serves c) up f = (serving_wider b more c up f.0, f.1)
  client_wider b more (state.Gathers g) up f = f
  client_wider b more (state.Fetches g) up f = record { session = f.session; served = f.served; region = f.region; last = (let last = f.last in omega (arith, up, last)); contents = f.contents }
  client_wider b more (state.Stages g) up f = beginning_wider b more g up f
  client_wider b more (state.Switches g) up f = beginning_wider b more g up f

  -- ---- letters

  pub to_all_within : (names : List NodeName) (m : Message) → AllByRecursion (IsOfVolume shape) names → IsMessage m → HasWidths m → AllByRecursion (IsSentWithin shape) (to_all names m)
  to_all_within names m of counts widths =
      all_map (IsSentWithin shape) (λ name. record { to = name; message = m }) names
      (all_then (IsOfVolume shape) (λ name. IsSentWithin shape (record { to = name; message = m })) (λ name one. record { to = one; counts = counts; widths = widths }) names of)
