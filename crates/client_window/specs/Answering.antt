-- What a window answers: batches that are acknowledged in order, and barriers that are due.
use Rattle.std.specs.Prelude.{◌≡◌, ℕ, ◌+◌, ◌≤◌, true, false, not, if◌then◌else◌, List, [], ◌∷◌, ◌++◌, map, drop, filter, Option, None, Some, MatchOption}
use Rattle.salus_types.specs.Volume.{Shape}
use Rattle.printed_lines.specs.declared.line.Line.{Line}
use Rattle.printed_lines.specs.declared.line.Line.TheVariants as line
use Rattle.salus_model.specs.Waiting.{Taken}
use Rattle.replica_rules.specs.Voting.{Claims, all_claim}
use Rattle.unanimous_certificate.specs.Kept.{claims_in}
use Rattle.client_rules.specs.State.{Serving, Unacked, Waiter}
use Rattle.client_rules.specs.Tables.{all_claimed, answered_of, is_reached, waiter_line, waiter_of}
use Rattle.client_rules.specs.Serving.{acks, acked_one, acked_lines}
use Rattle.client_window.specs.Window.{KeptWindow}

-- ---- acknowledgements

-- the number after the front, where every replica of the first of these leaders claims it
abbrev pub ack_among : Shape → Claims → ℕ → List ℕ → Option ℕ
ack_among shape claims acked [] = None
ack_among shape claims acked (leader ∷ leaders) = if all_claim shape claims leader (acked + 1) then Some (acked + 1) else None

-- the lowest batch that isn't acknowledged, where every replica of its leader claims it
abbrev pub due_ack : KeptWindow → Option ℕ
due_ack w = ack_among w.shape (claims_in w.claims) w.acked w.leaders

-- The first batch that isn't acknowledged is now; its barriers haven't left yet.
abbrev pub front_raised : Serving → Serving
front_raised c = record c { acked = c.acked + 1; unacked = drop 1 c.unacked }

-- no batch of the client is acknowledged now
abbrev pub NoAck : Shape → Serving → Type 0
NoAck shape c = acks shape c c.unacked ≡ record { client = c; lines = [] }

-- Batch s of the client is acknowledged first, with the barriers that are due then; what is acknowledged after it is what
-- the client then acknowledges.
pub record IsFirstAck (shape : Shape) (c : Serving) (s : ℕ) : Type 0 where
  pub first : Unacked
  pub left : List Unacked
  pub unacked : c.unacked ≡ first ∷ left
  pub number : s ≡ c.acked + 1
  pub claimed : all_claimed shape c.claims first.leader s ≡ true
  pub client : (acks shape c c.unacked).client ≡ (acks shape (acked_one c left) left).client
  pub lines : (acks shape c c.unacked).lines ≡ acked_lines c ++ (acks shape (acked_one c left) left).lines

-- ---- barriers

-- the lines of the barriers that are due at a front, and the barriers that go on waiting
abbrev pub due_lines : ℕ → List Waiter → List Line
due_lines acked barriers = map waiter_line (filter (λ w. is_reached acked w) barriers)

abbrev pub still_waiting : ℕ → List Waiter → List Waiter
still_waiting acked barriers = filter (λ w. not (is_reached acked w)) barriers

-- Of these barriers those are due that a barrier's leaving of the waiting line answers, and the others go on waiting with it.
pub record IsLeft (c : Serving) (r : Taken) (barriers : List Waiter) : Type 0 where
  pub lines : due_lines c.acked barriers ≡ answered_of c r
  pub waiting : still_waiting c.acked barriers ≡ c.barriers ++ waiter_of c r

-- the oldest barrier, where it is due
abbrev pub oldest_due : ℕ → List Waiter → Option (ℕ × ℕ)
oldest_due acked [] = None
oldest_due acked (w ∷ barriers) = if is_reached acked w then Some (w.event, w.front) else None

-- no barrier is due
abbrev pub NoneDue : ℕ → List Waiter → Type 0
NoneDue acked barriers = (due_lines acked barriers ≡ []) × (still_waiting acked barriers ≡ barriers)

-- The barrier leaves first; which others are due, and which go on waiting, is what it is of those left.
pub record IsFirstDue (acked : ℕ) (barriers left : List Waiter) (given : ℕ × ℕ) : Type 0 where
  pub first : Waiter
  pub oldest : barriers ≡ first ∷ left
  pub event : first.event ≡ given.0
  pub front : first.front ≡ given.1
  pub reached : first.front ≤ acked
  pub lines : due_lines acked barriers ≡ line.Barrier given.0 given.1 ∷ due_lines acked left
  pub waiting : still_waiting acked barriers ≡ still_waiting acked left
