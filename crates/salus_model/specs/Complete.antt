-- What comes about once every message was handed over: in runs without faults, and for reads beside lies.
use Rattle.std.specs.Prelude.{◌≡◌, ℕ, Bool, true, false, ◌==◌, ◌&&◌, ◌||◌, not, nat_le, if◌then◌else◌, List, [], ◌∷◌, ◌++◌, reverse, Option, None, Some, IfSome}
use Rattle.std.specs.List.{list_any, AllByRecursion}
use Rattle.salus_types.specs.Volume.{Shape}
use Rattle.salus_types.specs.declared.names.NodeName.{NodeName}
use Rattle.salus_types.specs.declared.names.Sender.{Sender}
use Rattle.salus_types.specs.declared.names.Sender.TheVariants as sender
use Rattle.schedule_text.specs.declared.schedule.Volume.{Volume}
use Rattle.schedule_text.specs.declared.schedule.Event.{Event}
use Rattle.schedule_text.specs.declared.schedule.Event.TheVariants as event
use Rattle.printed_lines.specs.declared.line.Line.{Line}
use Rattle.printed_lines.specs.declared.line.Line.TheVariants as line
use Rattle.salus_model.specs.declared.trace.Request.{Request}
use Rattle.salus_model.specs.declared.trace.Request.TheVariants as request
use Rattle.salus_model.specs.declared.trace.Handed.{Handed}
use Rattle.salus_model.specs.declared.trace.Handed.TheVariants as handed
use Rattle.salus_model.specs.declared.trace.TraceStep.{TraceStep}
use Rattle.volume_model.specs.Contents.{region_of}
use Rattle.salus_model.specs.Judge.{Judge, is_among}
use Rattle.salus_model.specs.Following.{Posted, posted_at, hands}
use Rattle.volume_model.specs.Groups.{is_client, same_node, group_of, same_party}
use Rattle.salus_model.specs.Hearing.{News, Asks, Crashes, Past, judge_of, since, begins}
use Rattle.salus_model.specs.Waiting.{Taken, all_taken, Question, is_asked}
use Rattle.salus_model.specs.Due.{history_from}
use Rattle.salus_model.specs.Guarding.{is_lied_for, is_right}
use Rattle.salus_model.specs.Quiet.{Quiet}

-- ---- since the client's last crash

abbrev pub is_crash : News → Bool
is_crash Crashes = true
is_crash other = false

abbrev pub crashes : Past → Bool
crashes p = is_crash p.news

-- the requests that were accepted since then, the oldest first
abbrev pub accepted : List Past → List Taken
accepted history = all_taken (since crashes history)

abbrev pub session_asked : News → Option ℕ
session_asked (Asks (request.Restart e)) = Some e
session_asked (Asks (request.Reassign e g)) = Some e
session_asked other = None

-- the session of the last request to open one, in these steps, that wasn't refused
unfoldable pub last_begun : List Past → Option ℕ
last_begun [] = None
last_begun (p ∷ history) = if begins p then session_asked p.news else last_begun history

-- ---- what became of a request

-- a batch of the present session is the write's, and is acknowledged
abbrev pub is_acknowledged : ℕ → Judge → Bool
is_acknowledged v judge = list_any (λ s. (s.event == v) && nat_le s.seq judge.acked) judge.submits

-- so it was after some step
unfoldable pub was_acknowledged : Shape → List Event → ℕ → List Past → Bool
was_acknowledged shape events v [] = false
was_acknowledged shape events v (p ∷ history) =
    is_acknowledged v (judge_of shape events (p ∷ history)) || was_acknowledged shape events v history

abbrev pub gives_block : ℕ → Line → Bool
gives_block v (line.Read event block bytes) = event == v
gives_block v other = false

-- a line gave the read's block
abbrev pub has_block : ℕ → List Past → Bool
has_block v history = list_any (λ p. list_any (gives_block v) p.lines) history

-- a write is acknowledged, a read has its block, a barrier is answered
abbrev pub is_done : Shape → List Event → List Past → ℕ → Request → Bool
is_done shape events history v (request.Write batch) = was_acknowledged shape events v history
is_done shape events history v (request.Read b) = has_block v history
is_done shape events history v request.Barrier = is_among v (judge_of shape events history).answered
is_done shape events history v other = true

-- ---- runs without faults

-- every request accepted since the client's last crash is done, and the last session begun since then is open or was
pub record Complete (shape : Shape) (events : List Event) (history : List Past) : Type 0 where
  pub requests : AllByRecursion (λ r. is_done shape events history r.event r.request ≡ true) (accepted history)
  pub opening : IfSome (last_begun (since crashes history)) (λ e. is_among e (judge_of shape events history).opened ≡ true)

abbrev pub CompleteWhenQuiet : Volume → List Event → List Posted → List TraceStep → Type 0
CompleteWhenQuiet volume events posts trace =
    Quiet events posts trace → Complete volume.geometry events (history_from volume events posts [] trace)

-- ---- reads beside lies

abbrev pub names_harmed : NodeName → Event → Bool
names_harmed name (event.Crash node keep fill) = same_node node name
names_harmed name (event.Fail node call) = same_node node name
names_harmed name other = false

abbrev pub is_stop : Handed → Bool
is_stop (handed.Stop k) = true
is_stop other = false

-- a right server that no crash or fail event names and to which no stop hands a message
pub record IsSound (events : List Event) (trace : List TraceStep) (name : NodeName) : Type 0 where
  pub right : is_right events name ≡ true
  pub unharmed : list_any (names_harmed name) events ≡ false
  pub unstopped : list_any (λ step. is_stop step.handed && same_party step.party (sender.Node name)) trace ≡ false

-- the message goes from the client to that server, or from it to the client
abbrev pub is_between : NodeName → Posted → Bool
is_between name m = (is_client m.from && same_party m.to (sender.Node name)) || (same_party m.from (sender.Node name) && is_client m.to)

-- a step, after these, finds no room for the part that it hands over
abbrev pub Rooms : Type 0
Rooms = List TraceStep → TraceStep → Bool

-- a step, the newest of which is first, handed the message over, and there was room for it
unfoldable pub was_taken : Rooms → List TraceStep → ℕ → Bool
was_taken is_full [] k = false
was_taken is_full (step ∷ earlier) k = (hands k step.handed && not (is_full earlier step)) || was_taken is_full earlier k

-- every message of the run between the client and that server was handed over in these steps, and there was room for it
abbrev pub AllTaken : List Posted → Rooms → List TraceStep → NodeName → Type 0
AllTaken posts is_full steps name =
    (k : ℕ) → IfSome (posted_at posts k) (λ m. is_between name m ≡ true → was_taken is_full (reverse steps) k ≡ true)

abbrev pub read_question : ℕ → ℕ → Question
read_question v b = record { event = v; number = v; block = b }

-- Since the client's last crash it was asked, after some step: its `Ask` messages were sent, and no line had ended it.
unfoldable pub was_asked : Shape → List Event → Question → List Past → Bool
was_asked shape events q [] = false
was_asked shape events q (p ∷ history) =
    not (crashes p) && (is_asked shape (p ∷ history) (judge_of shape events (p ∷ history)) q || was_asked shape events q history)

-- A read of a block whose group has a sound server has its block by the time at which every message between that server
-- and the client was handed over, if the client hasn't crashed in between.
abbrev pub ReadsBesideLies : Volume → List Event → List Posted → Rooms → List TraceStep → Type 0
ReadsBesideLies volume events posts is_full trace =
    is_lied_for events sender.Client ≡ false →
    (done rest : List TraceStep) → trace ≡ done ++ rest →
    (v b : ℕ) (name : NodeName) →
    list_any (same_node name) (group_of volume.geometry (region_of volume.geometry b)) ≡ true →
    IsSound events trace name →
    AllTaken posts is_full done name →
    was_asked volume.geometry events (read_question v b) (history_from volume events posts [] done) ≡ true →
    has_block v (history_from volume events posts [] done) ≡ true
