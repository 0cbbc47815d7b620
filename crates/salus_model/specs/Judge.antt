-- The legal history of one array. The judge sees the schedule and the lines alone. It knows a list of batches for each
-- session, and nothing of servers, trees or messages.
use Rattle.std.specs.Prelude.{◌≡◌, ◌⊎◌, ℕ, ◌+◌, ◌-◌, ◌<◌, ◌≤◌, Bool, false, ◌==◌, nat_lt, if◌then◌else◌, List, [], ◌∷◌, ◌++◌, length, take, slice_get, find, Option, None, Some, IsSomeAnd}
use Rattle.std.specs.List.{list_any, AllByRecursion}
use Rattle.salus_types.specs.Volume.{Shape, blocks}
use Rattle.schedule_text.specs.declared.schedule.Event.{Event}
use Rattle.schedule_text.specs.declared.schedule.Event.TheVariants as event
use Rattle.printed_lines.specs.declared.line.Line.{Line}
use Rattle.printed_lines.specs.declared.line.Line.TheVariants as line
use Rattle.volume_model.specs.Contents.{Batch, zero_contents, fold_batches}
use Rattle.volume_model.specs.Parts.{Session}

-- v is one of these numbers
abbrev pub is_among : ℕ → List ℕ → Bool
is_among v us = list_any (λ u. u == v) us

-- the event of that number; events are numbered from 1
abbrev pub event_at : List Event → ℕ → Option Event
event_at events v = if nat_lt 0 v then slice_get events (v - 1) else None

-- the batch that an event asks to write
abbrev pub batch_of : Option Event → List Batch
batch_of None = []
batch_of (Some (event.Write batch)) = batch ∷ []
batch_of (Some (event.Read block)) = []
batch_of (Some event.Barrier) = []
batch_of (Some (event.Deliver message)) = []
batch_of (Some (event.Settle count)) = []
batch_of (Some (event.Drop message)) = []
batch_of (Some (event.Lie from to bytes)) = []
batch_of (Some (event.Stop message calls keep fill)) = []
batch_of (Some (event.Crash node keep fill)) = []
batch_of (Some (event.Fail node call)) = []
batch_of (Some (event.Replace node)) = []
batch_of (Some event.ClientCrash) = []
batch_of (Some (event.Restart session)) = []
batch_of (Some (event.Reassign session region)) = []
batch_of (Some (event.Tick party)) = []

-- ---- what the lines so far say

-- the write of that event became the batch of that number
pub record Submitted : Type 0 where
  pub event : ℕ
  pub seq : ℕ

pub record Judge : Type 0 where
  -- the session last opened, with its batches so far, and its acknowledged front
  pub now : Session
  pub acked : ℕ
  -- the other sessions, the newest first
  pub others : List Session
  -- the event of the last batch of all sessions, and the batches since the last session was opened, the newest first
  pub latest : ℕ
  pub submits : List Submitted
  -- the events that ended with a block or a fault, and the barriers that were answered
  pub ended : List ℕ
  pub answered : List ℕ
  -- the session staged last, and the sessions opened
  pub staged : Option ℕ
  pub opened : List ℕ

-- session 1 starts from nothing
abbrev pub first_session : Shape → Session
first_session shape = record { session = 1; base = 0; origin = zero_contents shape; list = [] }

abbrev pub start_judge : Shape → Judge
start_judge shape = record { now = first_session shape; acked = 0; others = []; latest = 0; submits = []; ended = []; answered = []; staged = None; opened = [] }

-- the session of that number, if it is known
abbrev pub known_at : Judge → ℕ → Option Session
known_at judge e = if judge.now.session == e then Some judge.now else find (λ known. known.session == e) judge.others

-- every session that is known
abbrev pub all_known : Judge → List Session
all_known judge = judge.now ∷ judge.others

-- the number of the last batch
abbrev pub last_number : Judge → ℕ
last_number judge = length judge.now.list

-- the array after the batches so far
abbrev pub array : Judge → List (List ℕ)
array judge = fold_batches judge.now.origin judge.now.list

-- the number of the last of these batches that was asked before event v; where there is none, the base
unfoldable pub front_from : List Submitted → ℕ → ℕ → ℕ
front_from [] base v = base
front_from (s ∷ earlier) base v = if nat_lt s.event v then s.seq else front_from earlier base v

-- every batch that was asked in this session before event v has at most this number
abbrev pub front_of : Judge → ℕ → ℕ
front_of judge v = front_from judge.submits judge.now.base v

-- a session that starts from the first s batches of another
abbrev pub begun_from : Judge → ℕ → ℕ → Option Session → List Session
begun_from judge e s None = judge.others
begun_from judge e s (Some from) = record { session = e; base = s; origin = from.origin; list = take s from.list } ∷ judge.others

abbrev pub opened_as : Judge → ℕ → Option Session → Judge
opened_as judge e None = record judge { opened = e ∷ judge.opened }
opened_as judge e (Some known) =
    record judge { now = known; acked = known.base; others = judge.now ∷ judge.others; submits = []; opened = e ∷ judge.opened }

abbrev pub submitted : List Event → Judge → ℕ → ℕ → Judge
submitted events judge v s =
    record judge {
      now = record judge.now { list = judge.now.list ++ batch_of (event_at events v) };
      latest = v;
      submits = record { event = v; seq = s } ∷ judge.submits;
    }

-- what the judge knows after a line
abbrev pub judged : List Event → Judge → Line → Judge
judged events judge (line.Submit v s) = submitted events judge v s
judged events judge (line.Ack s) = record judge { acked = s }
judged events judge (line.Read v b x) = record judge { ended = v ∷ judge.ended }
judged events judge (line.Fault v b strikes) = record judge { ended = v ∷ judge.ended }
judged events judge (line.Barrier v s) = record judge { answered = v ∷ judge.answered }
judged events judge (line.Refused v cause) = judge
judged events judge (line.Skip v k) = judge
judged events judge (line.Stage e f s) = record judge { others = begun_from judge e s (known_at judge f); staged = Some e }
judged events judge (line.Open e) = opened_as judge e (known_at judge e)
judged events judge (line.Lost e) = judge

-- the same after several lines
unfoldable pub judged_all : List Event → Judge → List Line → Judge
judged_all events judge [] = judge
judged_all events judge (l ∷ ls) = judged_all events (judged events judge l) ls

-- ---- the rules

-- A batch is submitted once for a write of the schedule, in the order of the schedule, under the next number.
pub record IsNextBatch (shape : Shape) (events : List Event) (judge : Judge) (v s : ℕ) : Type 0 where
  pub batch : Batch
  pub asked : event_at events v ≡ Some (event.Write batch)
  pub inside : AllByRecursion (λ w. w.block < blocks shape) batch
  pub later : judge.latest < v
  pub next : s ≡ last_number judge + 1

-- Batches are acknowledged in order.
pub record IsNextAck (judge : Judge) (s : ℕ) : Type 0 where
  pub next : s ≡ judge.acked + 1
  pub submitted : s ≤ last_number judge

-- A read that hasn't ended gives the block of the array under the batches so far.
pub record IsTheBlock (shape : Shape) (events : List Event) (judge : Judge) (v b : ℕ) (x : List ℕ) : Type 0 where
  pub asked : event_at events v ≡ Some (event.Read b)
  pub inside : b < blocks shape
  pub once : is_among v judge.ended ≡ false
  pub block : slice_get (array judge) b ≡ Some x

-- A barrier is answered once, when every batch of this session that was asked before it is acknowledged.
pub record IsAnswered (events : List Event) (judge : Judge) (v s : ℕ) : Type 0 where
  pub asked : event_at events v ≡ Some event.Barrier
  pub once : is_among v judge.answered ≡ false
  pub front : s ≡ front_of judge v
  pub acknowledged : s ≤ judge.acked

-- event v asks to open session e
abbrev pub AsksToOpen : ℕ → Option Event → Type 0
AsksToOpen e asked = (asked ≡ Some (event.Restart e)) ⊎ ((g : ℕ) × (asked ≡ Some (event.Reassign e g)))

-- A session of the schedule that isn't known yet starts from a front part of a known one.
pub record IsPrefixOf (events : List Event) (judge : Judge) (e f s : ℕ) : Type 0 where
  pub event : ℕ
  pub asked : AsksToOpen e (event_at events event)
  pub fresh : known_at judge e ≡ None
  pub from : Session
  pub known : known_at judge f ≡ Some from
  pub within : s ≤ length from.list

-- The session staged last is opened, once.
pub record IsOpened (judge : Judge) (e : ℕ) : Type 0 where
  pub last : judge.staged ≡ Some e
  pub once : is_among e judge.opened ≡ false

-- The rule of each line. `Fault`, `Refused`, `Skip` and `Lost` say nothing of the array.
abbrev pub IsLegalLine : Shape → List Event → Judge → Line → Type 0
IsLegalLine shape events judge (line.Submit v s) = IsNextBatch shape events judge v s
IsLegalLine shape events judge (line.Ack s) = IsNextAck judge s
IsLegalLine shape events judge (line.Read v b x) = IsTheBlock shape events judge v b x
IsLegalLine shape events judge (line.Fault v b strikes) = Unit {0}
IsLegalLine shape events judge (line.Barrier v s) = IsAnswered events judge v s
IsLegalLine shape events judge (line.Refused v cause) = Unit {0}
IsLegalLine shape events judge (line.Skip v k) = Unit {0}
IsLegalLine shape events judge (line.Stage e f s) = IsPrefixOf events judge e f s
IsLegalLine shape events judge (line.Open e) = IsOpened judge e
IsLegalLine shape events judge (line.Lost e) = Unit {0}

-- each line has P, at what the lines before it say
unfoldable pub AlongLines : (Judge → Line → Type 0) → List Event → Judge → List Line → Type 0
AlongLines P events judge [] = Unit {0}
AlongLines P events judge (l ∷ ls) = P judge l × AlongLines P events (judged events judge l) ls

-- the lines are a legal history of one array
abbrev pub LegalHistory : Shape → List Event → List Line → Type 0
LegalHistory shape events lines = AlongLines (IsLegalLine shape events) events (start_judge shape) lines

-- ---- nothing acknowledged is lost

-- the first s batches of that session are a front part of the last list, with every acknowledged batch
pub record KeepsAll (judge : Judge) (s : ℕ) (from : Session) : Type 0 where
  pub within : s ≤ last_number judge
  pub same : take s from.list ≡ take s judge.now.list
  pub acknowledged : judge.acked ≤ s

abbrev pub IsKeptLine : Judge → Line → Type 0
IsKeptLine judge (line.Submit v s) = Unit {0}
IsKeptLine judge (line.Ack s) = Unit {0}
IsKeptLine judge (line.Read v b x) = Unit {0}
IsKeptLine judge (line.Fault v b strikes) = Unit {0}
IsKeptLine judge (line.Barrier v s) = Unit {0}
IsKeptLine judge (line.Refused v cause) = Unit {0}
IsKeptLine judge (line.Skip v k) = Unit {0}
IsKeptLine judge (line.Stage e f s) = IsSomeAnd (known_at judge f) (λ from. KeepsAll judge s from)
IsKeptLine judge (line.Open e) = Unit {0}
IsKeptLine judge (line.Lost e) = Unit {0}

-- every session starts from a front part of the last list that has every acknowledged batch
abbrev pub KeepsAcknowledged : Shape → List Event → List Line → Type 0
KeepsAcknowledged shape events lines = AlongLines IsKeptLine events (start_judge shape) lines
