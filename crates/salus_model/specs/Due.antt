-- The lines that are due. They follow from the schedule, from what the client was handed so far, and from the lines
-- before; the client's own tables are nowhere in it.
use Rattle.std.specs.Prelude.{ℕ, ◌+◌, Bool, false, ◌==◌, ◌&&◌, ◌||◌, not, nat_le, if◌then◌else◌, List, [], ◌∷◌, ◌++◌, drop, find, flat_map, Option, None, Some}
use Rattle.std.specs.List.{list_any, list_all}
use Rattle.salus_types.specs.Volume.{Shape}
use Rattle.salus_types.specs.declared.names.NodeName.{NodeName}
use Rattle.salus_types.specs.declared.records.Header.{Header}
use Rattle.salus_types.specs.declared.strike.Strike.{Strike}
use Rattle.salus_message.specs.declared.replies.Answer.{Answer}
use Rattle.salus_message.specs.declared.wire.Message.{Message}
use Rattle.salus_message.specs.declared.wire.Message.TheVariants as message
use Rattle.schedule_text.specs.declared.schedule.Volume.{Volume}
use Rattle.schedule_text.specs.declared.schedule.Event.{Event}
use Rattle.schedule_text.specs.declared.schedule.Event.TheVariants as event
use Rattle.printed_lines.specs.declared.line.Line.{Line}
use Rattle.printed_lines.specs.declared.line.Line.TheVariants as line
use Rattle.printed_lines.specs.declared.line.RequestRefusal.{RequestRefusal}
use Rattle.salus_model.specs.declared.trace.Request.{Request}
use Rattle.salus_model.specs.declared.trace.Request.TheVariants as request
use Rattle.salus_model.specs.declared.trace.TraceStep.{TraceStep}
use Rattle.volume_model.specs.Contents.{Batch}
use Rattle.volume_model.specs.Parts.{leader_of}
use Rattle.salus_model.specs.Judge.{Judge, last_number, front_of, judged_all}
use Rattle.salus_model.specs.Following.{Posted, is_skipped}
use Rattle.salus_model.specs.Hearing.{News, Asks, Says, Crashes, Silence, Past, news_of, judge_of, news_since, opens, begins, stages, Phase, Serving, Closed, Gathering, Fetching, Staged, phase_of}
use Rattle.volume_model.specs.Groups.{same_node, group_of}
use Rattle.salus_model.specs.Waiting.{Taken, joins, joining, unended, live, left_of, Question, questions, refusal_of}
use Rattle.salus_model.specs.Answering.{present_root, Verdict, Stale, Good, Struck, verdict_of, is_answer, is_known, strikes_with, all_struck}
use Rattle.volume_model.specs.Recovering.{choice_of}
use Rattle.salus_model.specs.Opening.{Reply, replies_to, all_replied, pool_of, all_switched, is_fetched}

-- ---- barriers

-- a barrier that has left is answered once its front is acknowledged
abbrev pub barrier_due : Judge → ℕ → Request → List Line
barrier_due judge v request.Barrier = if nat_le (front_of judge v) judge.acked then line.Barrier v (front_of judge v) ∷ [] else []
barrier_due judge v other = []

abbrev pub barriers_due : Judge → List Taken → List Line
barriers_due judge requests = flat_map (λ r. barrier_due judge r.event r.request) (left_of requests)

-- lines, and the barriers that are due after them
abbrev pub with_barriers : List Event → Judge → List Taken → List Line → List Line
with_barriers events judge requests lines = lines ++ barriers_due (judged_all events judge lines) (unended (judged_all events judge lines) requests)

-- ---- a request

-- a request is refused, or it joins those that are live
abbrev pub due_request : List Event → Judge → List Taken → ℕ → Request → Option RequestRefusal → List Line
due_request events judge requests v r (Some cause) = line.Refused v cause ∷ []
due_request events judge requests v r None = if joins r then barriers_due judge (requests ++ joining v (Asks r)) else []

-- ---- a claim

-- the node claims every batch up to s of the session
abbrev pub is_claim : ℕ → ℕ → NodeName → News → Bool
is_claim session s name (Says by (message.Committed m)) = same_node by name && (m.session == session) && nat_le s m.front
is_claim session s name other = false

-- every replica of the batch's leader has claimed it
abbrev pub all_claim : Shape → ℕ → ℕ → Batch → List News → Bool
all_claim shape session s batch news = list_all (λ name. list_any (λ x. is_claim session s name x) news) (group_of shape (leader_of shape batch))

abbrev pub ack_due : List Event → Judge → List Taken → List Line
ack_due events judge requests = with_barriers events judge requests (line.Ack (judge.acked + 1) ∷ [])

-- As long as the first of the batches that aren't acknowledged is claimed, it is acknowledged, and then the barriers that are due.
unfoldable pub acks_due : Shape → List Event → List Taken → List News → Judge → List Batch → List Line
acks_due shape events requests news judge [] = []
acks_due shape events requests news judge (batch ∷ batches) =
    if all_claim shape judge.now.session (judge.acked + 1) batch news
    then ack_due events judge requests ++ acks_due shape events requests news (judged_all events judge (ack_due events judge requests)) batches
    else []

-- ---- an answer

-- every other block of the same write is known
abbrev pub others_known : Shape → List Past → List Question → Question → Bool
others_known shape history asked q = list_all (λ o. not (o.event == q.event) || (o.number == q.number) || is_known shape o history) asked

-- a good answer gives the block of a read; the last one that a write waits for gives the write its number
abbrev pub due_good : Shape → List Event → List Past → Judge → Question → Answer → List Line
due_good shape events history judge q a =
    if q.number == q.event then line.Read q.event q.block a.bytes ∷ []
    else if others_known shape history (questions shape (live history judge)) q
    then with_barriers events judge (live history judge) (line.Submit q.event (last_number judge + 1) ∷ [])
    else []

-- where every replica is struck, the request ends without the block
abbrev pub due_struck : List Event → List Past → Judge → Question → List (Option Strike) → List Line
due_struck events history judge q strikes =
    if all_struck strikes then with_barriers events judge (live history judge) (line.Fault q.event q.block strikes ∷ []) else []

abbrev pub due_verdict : Shape → List Event → List Past → Judge → Question → ℕ → Answer → Verdict → List Line
due_verdict shape events history judge q by a Stale = []
due_verdict shape events history judge q by a Good = due_good shape events history judge q a
due_verdict shape events history judge q by a (Struck s) = due_struck events history judge q (strikes_with shape q history by s)

abbrev pub due_answer_to : Shape → List Event → List Past → Judge → NodeName → Answer → Option Question → List Line
due_answer_to shape events history judge name a None = []
due_answer_to shape events history judge name a (Some q) =
    if is_known shape q history then [] else due_verdict shape events history judge q name.replica a (verdict_of shape judge a)

-- the question that it answers, among those that are asked
abbrev pub due_answer : Shape → List Event → List Past → Judge → NodeName → Answer → List Line
due_answer shape events history judge name a =
    due_answer_to shape events history judge name a (find (λ q. is_answer shape judge q name a) (questions shape (live history judge)))

-- ---- opening a session

-- all replies are in: the session starts from the choice, or is lost
abbrev pub due_choice : ℕ → Option Header → List Line
due_choice e None = line.Lost e ∷ []
due_choice e (Some h) = line.Stage e h.session h.seq ∷ []

abbrev pub due_replies : Volume → ℕ → List Reply → List Line
due_replies volume e replies =
    if all_replied volume.geometry replies then due_choice e (choice_of volume.geometry (pool_of volume.geometry volume.key replies)) else []

-- ---- a message, by what the client is at

abbrev pub due_serving : Shape → List Event → List Past → Judge → NodeName → Message → List Line
due_serving shape events history judge name (message.Committed m) =
    if m.session == judge.now.session
    then acks_due shape events (live history judge) (Says name (message.Committed m) ∷ news_since opens history) judge (drop judge.acked judge.now.list)
    else []
due_serving shape events history judge name (message.Answer m) = due_answer shape events history judge name m
due_serving shape events history judge name other = []

abbrev pub due_gathering : Volume → List Past → ℕ → NodeName → Message → List Line
due_gathering volume history e name (message.Gathered m) =
    if m.session == e then due_replies volume e (replies_to e (Says name (message.Gathered m) ∷ news_since begins history)) else []
due_gathering volume history e name other = []

abbrev pub due_fetching : Shape → Judge → ℕ → ℕ → NodeName → Message → List Line
due_fetching shape judge e g name (message.Dumped m) =
    if is_fetched shape judge.now.session g (present_root shape judge g) name m then line.Stage e judge.now.session (last_number judge) ∷ [] else []
due_fetching shape judge e g name other = []

abbrev pub due_staged : Shape → List Past → ℕ → NodeName → Message → List Line
due_staged shape history e name (message.Switched m) =
    if (m.session == e) && all_switched shape e (Says name (message.Switched m) ∷ news_since stages history) then line.Open e ∷ [] else []
due_staged shape history e name other = []

abbrev pub due_message : Volume → List Event → List Past → Judge → NodeName → Message → Phase → List Line
due_message volume events history judge name m Serving = due_serving volume.geometry events history judge name m
due_message volume events history judge name m Closed = []
due_message volume events history judge name m (Gathering e) = due_gathering volume history e name m
due_message volume events history judge name m (Fetching e g) = due_fetching volume.geometry judge e g name m
due_message volume events history judge name m (Staged e) = due_staged volume.geometry history e name m

-- ---- any step

unfoldable pub due_news : Volume → List Event → List Past → Judge → ℕ → News → List Line
due_news volume events history judge v (Asks r) =
    due_request events judge (live history judge) v r (refusal_of volume.geometry (phase_of history) judge (live history judge) r)
due_news volume events history judge v (Says name m) = due_message volume events history judge name m (phase_of history)
due_news volume events history judge v Crashes = []
due_news volume events history judge v Silence = []

-- ---- the whole run

-- the line of an event that is skipped
abbrev pub skip_line : ℕ → Event → List Line
skip_line n (event.Deliver k) = line.Skip n k ∷ []
skip_line n (event.Drop k) = line.Skip n k ∷ []
skip_line n (event.Stop k calls keep fill) = line.Skip n k ∷ []
skip_line n other = []

-- those of event n, which stand first, and the others
unfoldable pub of_event : ℕ → List Past → List Past
of_event n [] = []
of_event n (p ∷ pasts) = if p.step.event == n then p ∷ of_event n pasts else []

unfoldable pub past_event : ℕ → List Past → List Past
past_event n [] = []
past_event n (p ∷ pasts) = if p.step.event == n then past_event n pasts else p ∷ pasts

-- how many messages were sent after these steps
unfoldable pub sent_after : ℕ → List Past → ℕ
sent_after sent [] = sent
sent_after sent (p ∷ pasts) = sent_after p.step.sent pasts

module _ (volume : Volume) (events : List Event) (posts : List Posted) where
  -- a step with the lines due at it, after that history
  abbrev pub past_of : List Past → TraceStep → Past
  past_of history step = record {
    step = step;
    news = news_of posts step;
    before = judge_of volume.geometry events history;
    lines = due_news volume events history (judge_of volume.geometry events history) step.event (news_of posts step);
  }

  -- these steps with their lines, in order
  unfoldable pub pasts_from : List Past → List TraceStep → List Past
  pasts_from history [] = []
  pasts_from history (step ∷ steps) = past_of history step ∷ pasts_from (past_of history step ∷ history) steps

  -- the history after these steps
  unfoldable pub history_from : List Past → List TraceStep → List Past
  history_from history [] = history
  history_from history (step ∷ steps) = history_from (past_of history step ∷ history) steps

  -- From event number n on: the line of the event if it is skipped, else those of its steps; then those of the other events.
  unfoldable pub lines_from : ℕ → ℕ → List Event → List Past → List Line
  lines_from sent n [] pasts = []
  lines_from sent n (e ∷ es) pasts =
      (if is_skipped posts sent e then skip_line n e else flat_map (λ p. p.lines) (of_event n pasts))
      ++ lines_from (sent_after sent (of_event n pasts)) (n + 1) es (past_event n pasts)

  -- all steps of a run with their lines
  abbrev pub pasts_of : List TraceStep → List Past
  pasts_of trace = pasts_from [] trace

  -- all lines that are due in a run
  abbrev pub lines_due : List TraceStep → List Line
  lines_due trace = lines_from 0 1 events (pasts_of trace)
