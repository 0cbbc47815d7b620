-- The rules of a serving client.
use Rattle.std.specs.Prelude.{ℕ, ◌+◌, ◌-◌, ◌^◌, Bool, ◌==◌, ◌&&◌, not, nat_lt, if◌then◌else◌, List, [], ◌∷◌, ◌++◌, map, length, filter, flat_map, Option, None, Some}
use Rattle.std.specs.Option.{option_or}
use Rattle.salus_types.specs.Volume.{Shape, regions, blocks}
use Rattle.salus_types.specs.declared.names.NodeName.{NodeName}
use Rattle.salus_types.specs.declared.strike.Strike.{Strike}
use Rattle.salus_message.specs.declared.replies.Answer.{Answer}
use Rattle.salus_message.specs.declared.wire.Message.TheVariants as message
use Rattle.schedule_text.specs.declared.schedule.Volume.{Volume}
use Rattle.printed_lines.specs.declared.line.Line.{Line}
use Rattle.printed_lines.specs.declared.line.Line.TheVariants as line
use Rattle.printed_lines.specs.declared.line.RequestRefusal.{RequestRefusal}
use Rattle.printed_lines.specs.declared.line.RequestRefusal.TheVariants as refusal
use Rattle.salus_model.specs.declared.trace.Request.{Request}
use Rattle.salus_model.specs.declared.trace.Request.TheVariants as request
use Rattle.volume_model.specs.Groups.{group_of}
use Rattle.salus_model.specs.Waiting.{Taken, left_of, questions, writes_among, reads_among, barriers_among, range_refusal, full_refusal}
use Rattle.salus_model.specs.Answering.{Verdict, Stale, Good, Struck, is_fitting, all_struck}
use Rattle.client_rules.specs.State.{Open, Unacked, Serving, Letter, Serves, Fetches, Told, ignored, only_lines, to_all}
use Rattle.client_rules.specs.Tables.{fresh, open_at, closed_at, struck, struck_at, worth, ask_of, asks, line_of, read_questions, head_questions, waiter_of, answered_of, is_reached, waiter_line, with_claim, all_claimed}
use Rattle.client_rules.specs.Submitting.{batch_asked, next_parts, part_letters, with_batch}

-- ---- the leaving rule

-- Of these requests in the waiting line those before the first write leave. Reads are open then, barriers wait, and that
-- write is the head.
abbrev pub after_leaving : Shape → Serving → List Taken → Serving
after_leaving shape c requests = record c {
  line = line_of requests;
  reads = c.reads ++ map (fresh shape) (read_questions (left_of requests));
  barriers = c.barriers ++ flat_map (λ r. waiter_of c r) (left_of requests);
  asked = map (fresh shape) (head_questions shape (line_of requests));
  known = [];
}

-- what leaves asks for its block, and then the head for its blocks; barriers that are due are answered
unfoldable pub leaves : Shape → Serving → List Taken → Told
leaves shape c requests = record {
  client = Serves (after_leaving shape c requests);
  outs = flat_map (λ q. asks shape c q) (questions shape requests);
  lines = flat_map (λ r. answered_of c r) (left_of requests);
}

-- ---- a request

-- batches that aren't acknowledged
abbrev pub in_flight : Serving → ℕ
in_flight c = c.last - c.acked

-- every batch is acknowledged, and no request is open or waits
abbrev pub is_idle : Serving → Bool
is_idle c = (in_flight c == 0) && (length c.reads + length c.barriers + length c.line == 0)

abbrev pub busy_refusal : Serving → Option RequestRefusal
busy_refusal c = if is_idle c then None else Some (refusal.Inflight (c.last + writes_among c.line) c.acked (length c.reads + reads_among c.line))

-- the first refusal that applies
abbrev pub refusal_here : Shape → Serving → Request → Option RequestRefusal
refusal_here shape c (request.Write batch) =
    option_or (range_refusal (blocks shape) (map (λ w. w.block) batch)) (full_refusal 16 (in_flight c + writes_among c.line))
refusal_here shape c (request.Read b) = option_or (range_refusal (blocks shape) (b ∷ [])) (full_refusal 64 (length c.reads + reads_among c.line))
refusal_here shape c request.Barrier = full_refusal 64 (length c.barriers + barriers_among c.line)
refusal_here shape c (request.Restart e) = Some refusal.Open
refusal_here shape c (request.Reassign e g) = option_or (range_refusal (regions shape) (g ∷ [])) (busy_refusal c)

-- a request joins the waiting line; where the line is empty it is looked at
abbrev pub joined : Shape → Serving → Taken → List Taken → Told
joined shape c r [] = leaves shape c (r ∷ [])
joined shape c r (head ∷ line) = ignored (Serves (record c { line = (head ∷ line) ++ r ∷ [] }))

-- the session's blocks of a region are asked for, to open another session
abbrev pub fetches : Shape → Serving → ℕ → ℕ → Told
fetches shape c e g = record {
  client = Fetches (record { session = e; region = g; served = c.session; last = c.last; contents = c.contents });
  outs = to_all (group_of shape g) (message.Dump (record { session = c.session; region = g }));
  lines = [];
}

abbrev pub accepted : Shape → Serving → ℕ → Request → Told
accepted shape c v (request.Write batch) = joined shape c (record { event = v; request = request.Write batch }) c.line
accepted shape c v (request.Read b) = joined shape c (record { event = v; request = request.Read b }) c.line
accepted shape c v request.Barrier = joined shape c (record { event = v; request = request.Barrier }) c.line
accepted shape c v (request.Restart e) = ignored (Serves c)
accepted shape c v (request.Reassign e g) = fetches shape c e g

abbrev pub decided : Shape → Serving → ℕ → Request → Option RequestRefusal → Told
decided shape c v r (Some cause) = only_lines (Serves c) (line.Refused v cause ∷ [])
decided shape c v r None = accepted shape c v r

unfoldable pub requested_here : Shape → Serving → ℕ → Request → Told
requested_here shape c v r = decided shape c v r (refusal_here shape c r)

-- ---- an answer to an open read

abbrev pub asked_again : Shape → Serving → NodeName → Open → Told
asked_again shape c name o = record { client = Serves c; outs = to_all (name ∷ []) (ask_of shape c o.question); lines = [] }

-- the read ends with this line
abbrev pub read_ended : Serving → Open → Line → Told
read_ended c o l = only_lines (Serves (record c { reads = closed_at o.question.number c.reads })) (l ∷ [])

abbrev pub read_struck : Serving → NodeName → Answer → Open → Strike → Told
read_struck c name a o s =
    if all_struck (struck name.replica s o).strikes
    then read_ended c o (line.Fault o.question.event o.question.block (struck name.replica s o).strikes)
    else ignored (Serves (record c { reads = struck_at a name.replica s c.reads }))

abbrev pub read_judged : Shape → Serving → NodeName → Answer → Open → Verdict → Told
read_judged shape c name a o Stale = asked_again shape c name o
read_judged shape c name a o Good = read_ended c o (line.Read o.question.event o.question.block a.bytes)
read_judged shape c name a o (Struck s) = read_struck c name a o s

abbrev pub read_answered : Shape → Serving → NodeName → Answer → Option Open → Told
read_answered shape c name a None = ignored (Serves c)
read_answered shape c name a (Some o) = read_judged shape c name a o (worth shape c a)

-- ---- an answer to a question of the head

-- lines and messages, and then those of a further step
abbrev pub before : List Letter → List Line → Told → Told
before outs lines told = record { client = told.client; outs = outs ++ told.outs; lines = lines ++ told.lines }

-- the head ends with a fault, and what stands behind it is looked at
abbrev pub head_faulted : Shape → Serving → Line → List Taken → Told
head_faulted shape c l [] = ignored (Serves c)
head_faulted shape c l (w ∷ behind) = before [] (l ∷ []) (leaves shape c behind)

-- the head becomes the next batch, and what stands behind it is looked at
abbrev pub submits : Volume → Serving → List Taken → Told
submits volume c [] = ignored (Serves c)
submits volume c (w ∷ behind) =
    before (part_letters volume.geometry (next_parts volume c (batch_asked w.request))) (line.Submit w.event (c.last + 1) ∷ [])
    (leaves volume.geometry (with_batch volume c (batch_asked w.request)) behind)

-- a block of the head is known; where it was the last, the head is submitted
abbrev pub head_known : Volume → Serving → Answer → List Open → Told
head_known volume c a [] = submits volume c c.line
head_known volume c a (o ∷ left) = ignored (Serves (record c { asked = o ∷ left; known = c.known ++ a ∷ [] }))

abbrev pub head_struck : Shape → Serving → NodeName → Answer → Open → Strike → Told
head_struck shape c name a o s =
    if all_struck (struck name.replica s o).strikes
    then head_faulted shape c (line.Fault o.question.event o.question.block (struck name.replica s o).strikes) c.line
    else ignored (Serves (record c { asked = struck_at a name.replica s c.asked }))

abbrev pub head_judged : Volume → Serving → NodeName → Answer → Open → Verdict → Told
head_judged volume c name a o Stale = asked_again volume.geometry c name o
head_judged volume c name a o Good = head_known volume c a (closed_at o.question.number c.asked)
head_judged volume c name a o (Struck s) = head_struck volume.geometry c name a o s

abbrev pub head_answered : Volume → Serving → NodeName → Answer → Option Open → Told
head_answered volume c name a None = ignored (Serves c)
head_answered volume c name a (Some o) = head_judged volume c name a o (worth volume.geometry c a)

-- a number below 2^32 is that of a read, any other one of the head's
unfoldable pub answered_here : Volume → Serving → NodeName → Answer → Told
answered_here volume c name a =
    if not ((a.session == c.session) && is_fitting volume.geometry name a) then ignored (Serves c)
    else if nat_lt a.read (2 ^ 32) then read_answered volume.geometry c name a (open_at a c.reads)
    else head_answered volume c name a (open_at a c.asked)

-- ---- a claim

-- a client that goes on serving, and lines
pub record Acked : Type 0 where
  pub client : Serving
  pub lines : List Line

-- the next batch is acknowledged; the others that aren't are left
abbrev pub acked_one : Serving → List Unacked → Serving
acked_one c left = record c { acked = c.acked + 1; unacked = left; barriers = filter (λ w. not (is_reached (c.acked + 1) w)) c.barriers }

-- it has a line, and then the barriers that are due
abbrev pub acked_lines : Serving → List Line
acked_lines c = line.Ack (c.acked + 1) ∷ map waiter_line (filter (λ w. is_reached (c.acked + 1) w) c.barriers)

-- as long as the first of these batches is claimed by every replica of its leader, it is acknowledged
unfoldable pub acks : Shape → Serving → List Unacked → Acked
acks shape c [] = record { client = c; lines = [] }
acks shape c (u ∷ left) =
    if all_claimed shape c.claims u.leader (c.acked + 1)
    then record {
      client = (acks shape (acked_one c left) left).client;
      lines = acked_lines c ++ (acks shape (acked_one c left) left).lines;
    }
    else record { client = c; lines = [] }

abbrev pub claimed : Serving → NodeName → ℕ → Serving
claimed c name front = record c { claims = with_claim name front c.claims }

abbrev pub acked_told : Acked → Told
acked_told acked = only_lines (Serves acked.client) acked.lines

unfoldable pub committed_here : Shape → Serving → NodeName → ℕ → ℕ → Told
committed_here shape c name session front =
    if session == c.session then acked_told (acks shape (claimed c name front) c.unacked) else ignored (Serves c)

-- ---- a tick

-- the parts of every batch that isn't acknowledged, then the head's questions and the open reads' again
unfoldable pub ticked_here : Shape → Serving → List Letter
ticked_here shape c =
    part_letters shape (flat_map (λ u. u.parts) c.unacked) ++ flat_map (λ o. asks shape c o.question) c.asked
    ++ flat_map (λ o. asks shape c o.question) c.reads
