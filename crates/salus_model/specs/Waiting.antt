-- The requests that the client has taken and not ended yet, in the order of asking. Those before the first write have
-- left the waiting line; that write is its head, and asks for the blocks that it writes.
use Rattle.std.specs.Prelude.{ℕ, ◌+◌, ◌-◌, ◌*◌, ◌^◌, Bool, true, false, ◌==◌, ◌&&◌, ◌||◌, not, nat_le, if◌then◌else◌, List, [], ◌∷◌, ◌++◌, map, length, filter, find, count_by, Option, None, Some}
use Rattle.std.specs.List.{list_any}
use Rattle.std.specs.Option.{option_or, option_map}
use Rattle.salus_types.specs.Volume.{Shape, regions, blocks}
use Rattle.printed_lines.specs.declared.line.RequestRefusal.{RequestRefusal}
use Rattle.printed_lines.specs.declared.line.RequestRefusal.TheVariants as refusal
use Rattle.salus_model.specs.declared.trace.Request.{Request}
use Rattle.salus_model.specs.declared.trace.Request.TheVariants as request
use Rattle.volume_model.specs.Parts.{blocks_of}
use Rattle.salus_model.specs.Judge.{Judge, is_among, last_number}
use Rattle.salus_model.specs.Hearing.{News, Asks, Past, since, opens, refuses, Phase, Serving, is_serving, phase_of}

-- ---- the requests

-- a request that was taken, with its event
pub record Taken : Type 0 where
  pub event : ℕ
  pub request : Request

abbrev pub is_write : Request → Bool
is_write (request.Write batch) = true
is_write other = false

abbrev pub is_read : Request → Bool
is_read (request.Read b) = true
is_read other = false

abbrev pub is_barrier : Request → Bool
is_barrier request.Barrier = true
is_barrier other = false

-- writes, reads and barriers join the waiting line
abbrev pub joins : Request → Bool
joins r = is_write r || is_read r || is_barrier r

abbrev pub joining : ℕ → News → List Taken
joining v (Asks r) = if joins r then record { event = v; request = r } ∷ [] else []
joining v other = []

abbrev pub taken_in : Past → List Taken
taken_in p = if refuses p then [] else joining p.step.event p.news

-- the requests taken in these steps, the oldest first
unfoldable pub all_taken : List Past → List Taken
all_taken [] = []
all_taken (p ∷ history) = all_taken history ++ taken_in p

-- a line has ended it
abbrev pub has_ended : Judge → ℕ → Bool
has_ended judge v = is_among v judge.ended || is_among v judge.answered || list_any (λ s. s.event == v) judge.submits

abbrev pub unended : Judge → List Taken → List Taken
unended judge requests = filter (λ r. not (has_ended judge r.event)) requests

-- those of the present session that no line has ended
unfoldable pub live : List Past → Judge → List Taken
live history judge = unended judge (all_taken (since opens history))

-- those that have left the waiting line: no write stands before them
unfoldable pub left_of : List Taken → List Taken
left_of [] = []
left_of (r ∷ requests) = if is_write r.request then [] else r ∷ left_of requests

abbrev pub writes_among : List Taken → ℕ
writes_among requests = count_by (λ r. is_write r.request) requests

abbrev pub reads_among : List Taken → ℕ
reads_among requests = count_by (λ r. is_read r.request) requests

abbrev pub barriers_among : List Taken → ℕ
barriers_among requests = count_by (λ r. is_barrier r.request) requests

-- ---- what is asked of the servers

-- A block that the request of an event waits for, and the number under which it is asked for.
pub record Question : Type 0 where
  pub event : ℕ
  pub number : ℕ
  pub block : ℕ

abbrev pub same_question : Question → Question → Bool
same_question a b = (a.event == b.event) && (a.number == b.number) && (a.block == b.block)

-- the j-th block that write v asks for has the number 2^32 * j + v
unfoldable pub questions_from : ℕ → ℕ → List ℕ → List Question
questions_from v j [] = []
questions_from v j (b ∷ bs) = record { event = v; number = 2 ^ 32 * j + v; block = b } ∷ questions_from v (j + 1) bs

abbrev pub questions_of : Shape → ℕ → Request → List Question
questions_of shape v (request.Write batch) = questions_from v 1 (blocks_of shape batch)
questions_of shape v (request.Read b) = record { event = v; number = v; block = b } ∷ []
questions_of shape v other = []

-- the questions of each request that has left, and of the write at the head
unfoldable pub questions : Shape → List Taken → List Question
questions shape [] = []
questions shape (r ∷ requests) =
    if is_write r.request then questions_of shape r.event r.request else questions_of shape r.event r.request ++ questions shape requests

-- the question was asked and not ended, at the end of that history
abbrev pub is_asked : Shape → List Past → Judge → Question → Bool
is_asked shape history judge q = is_serving (phase_of history) && list_any (same_question q) (questions shape (live history judge))

-- ---- refusals

-- the first of the numbers that isn't below the bound
abbrev pub range_refusal : ℕ → List ℕ → Option RequestRefusal
range_refusal bound numbers = option_map (λ n. refusal.Range n) (find (λ n. nat_le bound n) numbers)

abbrev pub full_refusal : ℕ → ℕ → Option RequestRefusal
full_refusal limit count = if nat_le limit count then Some (refusal.Full limit) else None

abbrev pub unacknowledged : Judge → ℕ
unacknowledged judge = last_number judge - judge.acked

-- a batch isn't acknowledged, or a request is live
abbrev pub inflight_refusal : Judge → List Taken → Option RequestRefusal
inflight_refusal judge requests =
    if (unacknowledged judge == 0) && (length requests == 0) then None
    else Some (refusal.Inflight (last_number judge + writes_among requests) judge.acked (reads_among requests))

-- the first refusal of a serving client that applies
abbrev pub refusal_serving : Shape → Judge → List Taken → Request → Option RequestRefusal
refusal_serving shape judge requests (request.Write batch) =
    option_or (range_refusal (blocks shape) (map (λ w. w.block) batch)) (full_refusal 16 (unacknowledged judge + writes_among requests))
refusal_serving shape judge requests (request.Read b) = option_or (range_refusal (blocks shape) (b ∷ [])) (full_refusal 64 (reads_among requests))
refusal_serving shape judge requests request.Barrier = full_refusal 64 (barriers_among requests)
refusal_serving shape judge requests (request.Restart e) = Some refusal.Open
refusal_serving shape judge requests (request.Reassign e g) = option_or (range_refusal (regions shape) (g ∷ [])) (inflight_refusal judge requests)

-- one that doesn't serve takes a restart alone
abbrev pub refusal_away : Request → Option RequestRefusal
refusal_away (request.Restart e) = None
refusal_away other = Some refusal.Closed

abbrev pub refusal_of : Shape → Phase → Judge → List Taken → Request → Option RequestRefusal
refusal_of shape Serving judge requests r = refusal_serving shape judge requests r
refusal_of shape other judge requests r = refusal_away r
