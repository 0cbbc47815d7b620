-- What becomes of the requests that a client takes: a line ends them, or they are in its tables.
use Rattle.std.specs.Prelude.{◌≡◌, ◌⊎◌, ℕ, ◌≤◌, Bool, true, false, ◌==◌, List, []}
use Rattle.std.specs.List.{list_any, AllByRecursion}
use Rattle.salus_types.specs.Volume.{Shape}
use Rattle.schedule_text.specs.declared.schedule.Volume.{Volume}
use Rattle.schedule_text.specs.declared.schedule.Event.{Event}
use Rattle.printed_lines.specs.declared.line.Line.{Line}
use Rattle.printed_lines.specs.declared.line.Line.TheVariants as line
use Rattle.salus_model.specs.declared.trace.Request.{Request}
use Rattle.salus_model.specs.declared.trace.Request.TheVariants as request
use Rattle.salus_model.specs.declared.trace.TraceStep.{TraceStep}
use Rattle.merkle_region.specs.Tree.{IsAmong}
use Rattle.salus_model.specs.Judge.{Submitted, last_number}
use Rattle.salus_model.specs.Following.{Posted}
use Rattle.salus_model.specs.Hearing.{Past, judge_of, is_serving, phase_of}
use Rattle.salus_model.specs.Waiting.{Taken, Question, is_asked}
use Rattle.salus_model.specs.Due.{history_from}
use Rattle.salus_model.specs.Complete.{gives_block, accepted, is_done}
use Rattle.client_rules.specs.State as state
use Rattle.client_rules.specs.State.{Open, Waiter}

-- ---- lines

-- every replica of a group has a strike
abbrev pub is_fault : Line → Bool
is_fault (line.Fault v b strikes) = true
is_fault other = false

abbrev pub has_fault : List Line → Bool
has_fault lines = list_any is_fault lines

-- the barrier of that event is answered
abbrev pub answers_barrier : ℕ → Line → Bool
answers_barrier v (line.Barrier event front) = event == v
answers_barrier v other = false

-- these lines give a read its block, or answer a barrier
abbrev pub IsEndedBy : List Line → ℕ → Request → Type 0
IsEndedBy lines v (request.Read b) = list_any (gives_block v) lines ≡ true
IsEndedBy lines v request.Barrier = list_any (answers_barrier v) lines ≡ true
IsEndedBy lines v other = ⊥

-- ---- tables

-- the write is one of these batches
abbrev pub HasBatch : List Submitted → ℕ → Request → Type 0
HasBatch batches v (request.Write batch) = (s : Submitted) × IsAmong s batches × (s.event ≡ v)
HasBatch batches v other = ⊥

-- it has left the waiting line: it is an open read, a barrier that waits, or a batch
abbrev pub HasLeft : state.Serving → List Submitted → ℕ → Request → Type 0
HasLeft c batches v (request.Read b) = (o : Open) × IsAmong o c.reads × (o.question.event ≡ v)
HasLeft c batches v request.Barrier = (w : Waiter) × IsAmong w c.barriers × (w.event ≡ v)
HasLeft c batches v other = HasBatch batches v other

-- it is in the waiting line, or has left it
abbrev pub IsKept : state.Serving → List Submitted → Taken → Type 0
IsKept c batches r = IsAmong r c.line ⊎ HasLeft c batches r.event r.request

-- ---- the end of a run

-- no line is a fault, and no question waits for its block
pub record BlocksCome (shape : Shape) (events : List Event) (history : List Past) : Type 0 where
  pub faultless : list_any (λ p. has_fault p.lines) history ≡ false
  pub answered : (q : Question) → is_asked shape history (judge_of shape events history) q ≡ false

-- if the client serves, every batch of its session is acknowledged
abbrev pub AllAcknowledged : Shape → List Event → List Past → Type 0
AllAcknowledged shape events history =
    is_serving (phase_of history) ≡ true → last_number (judge_of shape events history) ≤ (judge_of shape events history).acked

-- every request accepted since the client's last crash is done
abbrev pub AllDone : Shape → List Event → List Past → Type 0
AllDone shape events history = AllByRecursion (λ r. is_done shape events history r.event r.request ≡ true) (accepted history)

-- the history of a run
abbrev pub history_of : Volume → List Event → List Posted → List TraceStep → List Past
history_of volume events posts trace = history_from volume events posts [] trace
