-- What the client heard so far, step by step, with the lines that each step gave. The newest step is first.
use Rattle.std.specs.Prelude.{ℕ, Bool, true, false, ◌==◌, ◌&&◌, not, if◌then◌else◌, List, [], ◌∷◌, map, flat_map, fold, Option, None, Some, Result, Ok, Err}
use Rattle.std.specs.List.{list_any, range_with_len}
use Rattle.salus_types.specs.Volume.{Shape}
use Rattle.salus_types.specs.declared.names.NodeName.{NodeName}
use Rattle.salus_types.specs.declared.names.Sender.{Sender}
use Rattle.salus_types.specs.declared.names.Sender.TheVariants as sender
use Rattle.salus_message.specs.declared.wire.Message.{Message}
use Rattle.salus_message.specs.declared.wire.MessageError.{MessageError}
use Rattle.salus_message.specs.Reading.{message_at}
use Rattle.schedule_text.specs.declared.schedule.Event.{Event}
use Rattle.printed_lines.specs.declared.line.Line.{Line}
use Rattle.printed_lines.specs.declared.line.Line.TheVariants as line
use Rattle.salus_model.specs.declared.trace.Request.{Request}
use Rattle.salus_model.specs.declared.trace.Request.TheVariants as request
use Rattle.salus_model.specs.declared.trace.Handed.{Handed}
use Rattle.salus_model.specs.declared.trace.Handed.TheVariants as handed
use Rattle.salus_model.specs.declared.trace.TraceStep.{TraceStep}
use Rattle.volume_model.specs.Contents.{all_regions}
use Rattle.salus_model.specs.Judge.{Judge, start_judge, judged_all}
use Rattle.salus_model.specs.Following.{Posted, posted_at}
use Rattle.volume_model.specs.Groups.{is_client}

-- ---- what a step tells the client

-- A request, a message of a node that decodes, the client's own crash, or nothing that counts.
pub data News : Type 0 where
  Asks : Request → News
  Says : NodeName → Message → News
  Crashes : News
  Silence : News

abbrev pub news_of_message : NodeName → Result Message MessageError → News
news_of_message name (Ok message) = Says name message
news_of_message name (Err e) = Silence

-- the client doesn't listen to its own name
abbrev pub news_from : Sender → List ℕ → News
news_from sender.Client bytes = Silence
news_from (sender.Node name) bytes = news_of_message name (message_at bytes)

abbrev pub news_of_post : Option Posted → News
news_of_post None = Silence
news_of_post (Some m) = news_from m.from m.bytes

abbrev pub news_in : List Posted → Handed → News
news_in posts (handed.Asked r) = Asks r
news_in posts (handed.Deliver k) = news_of_post (posted_at posts k)
news_in posts (handed.Stop k) = Silence
news_in posts (handed.Lie from bytes) = news_from from bytes
news_in posts handed.Tick = Silence
news_in posts handed.Crash = Silence
news_in posts handed.Replace = Silence
news_in posts handed.ClientCrash = Crashes

-- a node's step tells the client nothing
abbrev pub news_of : List Posted → TraceStep → News
news_of posts step = if is_client step.party then news_in posts step.handed else Silence

-- ---- the history

-- A step that was done: what it told the client, what the lines before it say, and the lines that it gave.
pub record Past : Type 0 where
  pub step : TraceStep
  pub news : News
  pub before : Judge
  pub lines : List Line

-- what all lines of the history say
abbrev pub judge_of : Shape → List Event → List Past → Judge
judge_of shape events [] = start_judge shape
judge_of shape events (p ∷ history) = judged_all events p.before p.lines

-- the steps after the last one of a kind
unfoldable pub since : (Past → Bool) → List Past → List Past
since test [] = []
since test (p ∷ history) = if test p then [] else p ∷ since test history

-- what they told
abbrev pub news_since : (Past → Bool) → List Past → List News
news_since test history = map (λ p. p.news) (since test history)

abbrev pub is_open_line : Line → Bool
is_open_line (line.Open e) = true
is_open_line other = false

abbrev pub is_stage_line : Line → Bool
is_stage_line (line.Stage e f s) = true
is_stage_line other = false

abbrev pub is_refused_line : Line → Bool
is_refused_line (line.Refused v cause) = true
is_refused_line other = false

-- a session was opened, was staged, or a request was refused
abbrev pub opens : Past → Bool
opens p = list_any is_open_line p.lines

abbrev pub stages : Past → Bool
stages p = list_any is_stage_line p.lines

abbrev pub refuses : Past → Bool
refuses p = list_any is_refused_line p.lines

abbrev pub asks_to_open : News → Bool
asks_to_open (Asks (request.Restart e)) = true
asks_to_open (Asks (request.Reassign e g)) = true
asks_to_open other = false

-- the client began to open a session
abbrev pub begins : Past → Bool
begins p = asks_to_open p.news && not (refuses p)

-- ---- what the client is at

-- Serving the session last opened; closed; waiting for what all nodes hold, to open that session; waiting for the blocks
-- of that region, to open that session; or, once it is staged, waiting for the nodes to stage it and switch to it.
pub data Phase : Type 0 where
  Serving : Phase
  Closed : Phase
  Gathering : ℕ → Phase
  Fetching : ℕ → ℕ → Phase
  Staged : ℕ → Phase

abbrev pub is_serving : Phase → Bool
is_serving Serving = true
is_serving other = false

abbrev pub phase_by_request : Request → Phase → Phase
phase_by_request (request.Restart e) phase = Gathering e
phase_by_request (request.Reassign e g) phase = Fetching e g
phase_by_request other phase = phase

-- what a step's news makes of the phase, unless it is refused
abbrev pub phase_by_news : Bool → News → Phase → Phase
phase_by_news refused (Asks r) phase = if refused then phase else phase_by_request r phase
phase_by_news refused (Says name message) phase = phase
phase_by_news refused Crashes phase = Closed
phase_by_news refused Silence phase = phase

-- what a line makes of it
abbrev pub phase_by_line : Phase → Line → Phase
phase_by_line phase (line.Stage e f s) = Staged e
phase_by_line phase (line.Open e) = Serving
phase_by_line phase (line.Lost e) = Closed
phase_by_line phase other = phase

-- the client serves at first
unfoldable pub phase_of : List Past → Phase
phase_of [] = Serving
phase_of (p ∷ history) = fold phase_by_line (phase_by_news (refuses p) p.news (phase_of history)) p.lines
