-- The tables of a serving client: open questions, barriers, claims, regions' numbers.
use Rattle.std.specs.Prelude.{ℕ, ◌+◌, Bool, ◌==◌, ◌&&◌, not, nat_le, if◌then◌else◌, List, [], ◌∷◌, map, replicate, slice_index, filter, find, flat_map, Option, None, Some}
use Rattle.std.specs.List.{list_all}
use Rattle.std.specs.Option.{option_or}
use Rattle.salus_types.specs.Volume.{Shape}
use Rattle.salus_types.specs.declared.names.NodeName.{NodeName}
use Rattle.salus_types.specs.declared.strike.Strike.{Strike}
use Rattle.salus_message.specs.declared.replies.Answer.{Answer}
use Rattle.salus_message.specs.declared.wire.Message.{Message}
use Rattle.salus_message.specs.declared.wire.Message.TheVariants as message
use Rattle.printed_lines.specs.declared.line.Line.{Line}
use Rattle.printed_lines.specs.declared.line.Line.TheVariants as line
use Rattle.salus_model.specs.declared.trace.Request.{Request}
use Rattle.salus_model.specs.declared.trace.Request.TheVariants as request
use Rattle.volume_model.specs.Contents.{region_of, region_root}
use Rattle.volume_model.specs.Groups.{same_node, group_of}
use Rattle.salus_model.specs.Waiting.{Taken, is_write, is_barrier, Question, questions_of}
use Rattle.salus_model.specs.Answering.{Verdict, verdict_at}
use Rattle.client_rules.specs.State.{Open, Waiter, Claimed, Serving, Letter, to_all}

-- ---- open questions

-- a question that is asked now
abbrev pub fresh : Shape → Question → Open
fresh shape q = record { question = q; strikes = replicate shape.replicas None }

-- the answer is one to that question
abbrev pub answers : Answer → Open → Bool
answers a o = (a.read == o.question.number) && (a.block == o.question.block)

abbrev pub open_at : Answer → List Open → Option Open
open_at a table = find (λ o. answers a o) table

-- without the question of that number
abbrev pub closed_at : ℕ → List Open → List Open
closed_at number table = filter (λ o. not (o.question.number == number)) table

-- one strike more, of replica `by`; the entries are those of the replicas from i on. The first strike of a replica stays
unfoldable pub struck_from : ℕ → ℕ → Strike → List (Option Strike) → List (Option Strike)
struck_from i by s [] = []
struck_from i by s (o ∷ os) = option_or o (if by == i then Some s else None) ∷ struck_from (i + 1) by s os

abbrev pub struck : ℕ → Strike → Open → Open
struck by s o = record o { strikes = struck_from 0 by s o.strikes }

abbrev pub struck_at : Answer → ℕ → Strike → List Open → List Open
struck_at a by s table = map (λ o. if answers a o then struck by s o else o) table

-- ---- asking

abbrev pub number_at : Serving → ℕ → ℕ
number_at c g = slice_index c.numbers g

-- what an answer is worth to the client
abbrev pub worth : Shape → Serving → Answer → Verdict
worth shape c a = verdict_at shape (region_root shape c.contents (region_of shape a.block)) (number_at c (region_of shape a.block)) a

-- the question, with the region's present number
abbrev pub ask_of : Shape → Serving → Question → Message
ask_of shape c q = message.Ask (record { session = c.session; read = q.number; block = q.block; at = number_at c (region_of shape q.block) })

-- it goes to each replica of the block's group
abbrev pub asks : Shape → Serving → Question → List Letter
asks shape c q = to_all (group_of shape (region_of shape q.block)) (ask_of shape c q)

-- ---- the waiting line

-- the requests from the first write on
unfoldable pub line_of : List Taken → List Taken
line_of [] = []
line_of (r ∷ requests) = if is_write r.request then r ∷ requests else line_of requests

-- the question of a read; its number is its event
abbrev pub read_question : ℕ → Request → List Question
read_question v (request.Read b) = record { event = v; number = v; block = b } ∷ []
read_question v other = []

-- the questions of the reads among requests
abbrev pub read_questions : List Taken → List Question
read_questions requests = flat_map (λ r. read_question r.event r.request) requests

-- the questions of that write
abbrev pub head_questions : Shape → List Taken → List Question
head_questions shape [] = []
head_questions shape (r ∷ requests) = questions_of shape r.event r.request

-- ---- barriers

-- a barrier that leaves while a batch isn't acknowledged waits for the last number
abbrev pub waiter_of : Serving → Taken → List Waiter
waiter_of c r = if is_barrier r.request && not (nat_le c.last c.acked) then record { event = r.event; front = c.last } ∷ [] else []

-- else it is answered at once
abbrev pub answered_of : Serving → Taken → List Line
answered_of c r = if is_barrier r.request && nat_le c.last c.acked then line.Barrier r.event c.last ∷ [] else []

abbrev pub is_reached : ℕ → Waiter → Bool
is_reached acked w = nat_le w.front acked

abbrev pub waiter_line : Waiter → Line
waiter_line w = line.Barrier w.event w.front

-- ---- claims

-- the front that a node has claimed, 0 where it has claimed none
unfoldable pub claim_of : NodeName → List Claimed → ℕ
claim_of name [] = 0
claim_of name (c ∷ claims) = if same_node c.name name then c.front else claim_of name claims

-- a node's claim only rises
abbrev pub with_claim : NodeName → ℕ → List Claimed → List Claimed
with_claim name front claims =
    if nat_le front (claim_of name claims) then claims
    else record { name = name; front = front } ∷ filter (λ c. not (same_node c.name name)) claims

-- every replica of the leader claims batch s
abbrev pub all_claimed : Shape → List Claimed → ℕ → ℕ → Bool
all_claimed shape claims leader s = list_all (λ name. nat_le s (claim_of name claims)) (group_of shape leader)
