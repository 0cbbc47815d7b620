-- What a client answers to each thing that it is handed.
use Rattle.std.specs.Prelude.{ℕ, Bool, true, false, not, if◌then◌else◌, List, [], ◌∷◌, ◌++◌, filter}
use Rattle.salus_types.specs.Volume.{Shape}
use Rattle.salus_types.specs.declared.names.NodeName.{NodeName}
use Rattle.salus_types.specs.declared.names.Sender.TheVariants as sender
use Rattle.salus_message.specs.declared.wire.Message.{Message}
use Rattle.salus_message.specs.declared.wire.Message.TheVariants as message
use Rattle.salus_message.specs.Spelling.{message_bytes}
use Rattle.schedule_text.specs.declared.schedule.Volume.{Volume}
use Rattle.printed_lines.specs.declared.line.Line.{Line}
use Rattle.printed_lines.specs.declared.line.Line.TheVariants as line
use Rattle.printed_lines.specs.declared.line.RequestRefusal.TheVariants as refusal
use Rattle.salus_model.specs.declared.trace.Request.{Request}
use Rattle.salus_model.specs.declared.trace.Request.TheVariants as request
use Rattle.salus_model.specs.declared.trace.Handed.{Handed}
use Rattle.salus_model.specs.declared.trace.Handed.TheVariants as handed
use Rattle.salus_model.specs.declared.trace.TraceStep.{TraceStep}
use Rattle.volume_model.specs.Contents.{zero_contents}
use Rattle.salus_model.specs.Following.{Posted}
use Rattle.volume_model.specs.Groups.{is_client, group_of}
use Rattle.salus_model.specs.Hearing.{News, Asks, Says, Crashes, Silence, news_of}
use Rattle.client_rules.specs.State.{Gathering, Fetching, Beginning, Letter, Client, Closed, Serves, Gathers, Fetches, Stages, Switches, Serving, Told, ignored, only_lines, to_all}
use Rattle.client_rules.specs.Serving.{requested_here, answered_here, committed_here, ticked_here}
use Rattle.client_rules.specs.Opening.{has_answered, not_answered, new_serving, restarted, gathered_here, dumped_here, staged_here, switched_here}

-- the client of a formatted volume
abbrev pub new_client : Shape → Client
new_client shape = Serves (new_serving shape 1 0 (zero_contents shape))

-- ---- a request

-- a client that doesn't serve takes a restart alone
abbrev pub requested_away : Shape → Client → ℕ → Request → Told
requested_away shape c v (request.Restart e) = restarted shape e
requested_away shape c v other = only_lines c (line.Refused v refusal.Closed ∷ [])

unfoldable pub requested : Volume → Client → ℕ → Request → Told
requested volume (Serves c) v r = requested_here volume.geometry c v r
requested volume Closed v r = requested_away volume.geometry Closed v r
requested volume (Gathers g) v r = requested_away volume.geometry (Gathers g) v r
requested volume (Fetches f) v r = requested_away volume.geometry (Fetches f) v r
requested volume (Stages b) v r = requested_away volume.geometry (Stages b) v r
requested volume (Switches b) v r = requested_away volume.geometry (Switches b) v r

-- ---- a message of a node; those that don't belong to what the client is at are ignored

abbrev pub told_serving : Volume → Serving → NodeName → Message → Told
told_serving volume c name (message.Committed m) = committed_here volume.geometry c name m.session m.front
told_serving volume c name (message.Answer m) = answered_here volume c name m
told_serving volume c name other = ignored (Serves c)

abbrev pub told_gathering : Volume → Gathering → NodeName → Message → Told
told_gathering volume g name (message.Gathered m) = gathered_here volume g name m
told_gathering volume g name other = ignored (Gathers g)

abbrev pub told_fetching : Volume → Fetching → NodeName → Message → Told
told_fetching volume f name (message.Dumped m) = dumped_here volume f name m
told_fetching volume f name other = ignored (Fetches f)

abbrev pub told_staging : Shape → Beginning → NodeName → Message → Told
told_staging shape b name (message.Staged m) = staged_here shape b name m.session
told_staging shape b name other = ignored (Stages b)

abbrev pub told_switching : Shape → Beginning → NodeName → Message → Told
told_switching shape b name (message.Switched m) = switched_here shape b name m.session
told_switching shape b name other = ignored (Switches b)

unfoldable pub received : Volume → Client → NodeName → Message → Told
received volume (Serves c) name m = told_serving volume c name m
received volume Closed name m = ignored Closed
received volume (Gathers g) name m = told_gathering volume g name m
received volume (Fetches f) name m = told_fetching volume f name m
received volume (Stages b) name m = told_staging volume.geometry b name m
received volume (Switches b) name m = told_switching volume.geometry b name m

-- ---- a tick, and a crash

-- the phase's message again to each node that hasn't answered
unfoldable pub ticked : Shape → Client → List Letter
ticked shape (Serves c) = ticked_here shape c
ticked shape Closed = []
ticked shape (Gathers g) = to_all (not_answered shape g.answered) (message.Gather (record { session = g.session }))
ticked shape (Fetches f) = to_all (group_of shape f.region) (message.Dump (record { session = f.served; region = f.region }))
ticked shape (Stages b) = filter (λ l. not (has_answered l.to b.answered)) b.bases
ticked shape (Switches b) = to_all (not_answered shape b.answered) (message.Switch (record { session = b.session }))

abbrev pub crashed : Told
crashed = ignored Closed

-- ---- any step

-- what the news of a step makes of the client
unfoldable pub told : Volume → Client → ℕ → News → Told
told volume c v (Asks r) = requested volume c v r
told volume c v (Says name m) = received volume c name m
told volume c v Crashes = crashed
told volume c v Silence = ignored c

abbrev pub is_tick : Handed → Bool
is_tick handed.Tick = true
is_tick other = false

-- a tick sends, and changes nothing
abbrev pub step_outs : Volume → Client → TraceStep → List Letter → List Letter
step_outs volume c step outs = if is_client step.party then (if is_tick step.handed then ticked volume.geometry c else outs) else []

-- one step of the trace
abbrev pub client_step : Volume → List Posted → Client → TraceStep → Told
client_step volume posts c step =
    let answer : Told = told volume c step.event (news_of posts step) in
    record { client = answer.client; outs = step_outs volume c step answer.outs; lines = answer.lines }

-- the lines of each step, in order: the client's rules folded over what it is handed
unfoldable pub client_lines : Volume → List Posted → Client → List TraceStep → List (List Line)
client_lines volume posts c [] = []
client_lines volume posts c (step ∷ steps) =
    (client_step volume posts c step).lines ∷ client_lines volume posts (client_step volume posts c step).client steps

-- the messages of all steps, in order
unfoldable pub client_letters : Volume → List Posted → Client → List TraceStep → List Letter
client_letters volume posts c [] = []
client_letters volume posts c (step ∷ steps) =
    (client_step volume posts c step).outs ++ client_letters volume posts (client_step volume posts c step).client steps

-- a letter as it is posted
abbrev pub posted_letter : Letter → Posted
posted_letter l = record { from = sender.Client; to = sender.Node l.to; bytes = message_bytes l.message }
