-- The trace of a run, and what it means that it follows the schedule.
use Rattle.std.specs.Prelude.{◌≡◌, ◌⊎◌, ℕ, ◌+◌, ◌-◌, ◌<◌, ◌≤◌, Bool, true, false, ◌&&◌, ◌||◌, ◌==◌, not, nat_lt, nat_le, if◌then◌else◌, List, [], ◌∷◌, ◌++◌, map, length, reverse, slice_get, find, is_some, Option, None, Some, IfSome}
use Rattle.std.specs.List.{list_any, range_with_len}
use Rattle.salus_types.specs.declared.names.Sender.{Sender}
use Rattle.salus_types.specs.declared.names.Sender.TheVariants as sender
use Rattle.schedule_text.specs.declared.schedule.Event.{Event}
use Rattle.schedule_text.specs.declared.schedule.Event.TheVariants as event
use Rattle.salus_model.specs.declared.sending.Sent.{Sent}
use Rattle.volume_model.specs.Groups.{is_client}
use Rattle.salus_model.specs.declared.trace.Request.TheVariants as request
use Rattle.salus_model.specs.declared.trace.Handed.{Handed}
use Rattle.salus_model.specs.declared.trace.Handed.TheVariants as handed
use Rattle.salus_model.specs.declared.trace.TraceStep.{TraceStep}

-- ---- messages

-- A message as it was posted. What became of it later is in the trace.
pub record Posted : Type 0 where
  pub from : Sender
  pub to : Sender
  pub bytes : List ℕ

abbrev pub posted : Sent → Posted
posted sent = record { from = sent.from; to = sent.to; bytes = sent.bytes }

-- the messages of a run as they were posted
abbrev pub posts_of : List Sent → List Posted
posts_of sent = map (λ m. posted m) sent

-- message k is one of the first n messages; messages are numbered from 1
abbrev pub is_sent : ℕ → ℕ → Bool
is_sent n k = nat_lt 0 k && nat_le k n

-- the message of that number
abbrev pub posted_at : List Posted → ℕ → Option Posted
posted_at posts k = if nat_lt 0 k then slice_get posts (k - 1) else None

abbrev pub goes_to_client : Option Posted → Bool
goes_to_client None = false
goes_to_client (Some m) = is_client m.to

-- ---- what was done so far; the newest step is first

-- how many messages were sent
abbrev pub sent_by : List TraceStep → ℕ
sent_by [] = 0
sent_by (step ∷ earlier) = step.sent

-- the step handed message k over
abbrev pub hands : ℕ → Handed → Bool
hands k (handed.Asked r) = false
hands k (handed.Deliver m) = m == k
hands k (handed.Stop m) = m == k
hands k (handed.Lie from bytes) = false
hands k handed.Tick = false
hands k handed.Crash = false
hands k handed.Replace = false
hands k handed.ClientCrash = false

abbrev pub was_handed : List TraceStep → ℕ → Bool
was_handed earlier k = list_any (λ step. hands k step.handed) earlier

-- no step handed message k over, and no event dropped it
abbrev pub is_waiting : List TraceStep → List ℕ → ℕ → Bool
is_waiting earlier dropped k = not (was_handed earlier k || list_any (λ d. d == k) dropped)

-- the lowest message that is neither handed over nor dropped
abbrev pub next_waiting : List TraceStep → List ℕ → Option ℕ
next_waiting earlier dropped = find (λ k. is_waiting earlier dropped k) (range_with_len 1 (sent_by earlier))

-- the event names a message that isn't among the n sent so far, or would stop one to the client
abbrev pub is_skipped : List Posted → ℕ → Event → Bool
is_skipped posts n (event.Deliver k) = not (is_sent n k)
is_skipped posts n (event.Drop k) = not (is_sent n k)
is_skipped posts n (event.Stop k calls keep fill) = not (is_sent n k) || goes_to_client (posted_at posts k)
is_skipped posts n (event.Write batch) = false
is_skipped posts n (event.Read block) = false
is_skipped posts n event.Barrier = false
is_skipped posts n (event.Settle count) = false
is_skipped posts n (event.Lie from to bytes) = false
is_skipped posts n (event.Crash node keep fill) = false
is_skipped posts n (event.Fail node call) = false
is_skipped posts n (event.Replace node) = false
is_skipped posts n event.ClientCrash = false
is_skipped posts n (event.Restart session) = false
is_skipped posts n (event.Reassign session region) = false
is_skipped posts n (event.Tick party) = false

-- the messages dropped after the event
abbrev pub dropped_after : ℕ → List ℕ → Event → List ℕ
dropped_after n dropped (event.Drop k) = if is_sent n k then k ∷ dropped else dropped
dropped_after n dropped (event.Deliver k) = dropped
dropped_after n dropped (event.Stop k calls keep fill) = dropped
dropped_after n dropped (event.Write batch) = dropped
dropped_after n dropped (event.Read block) = dropped
dropped_after n dropped event.Barrier = dropped
dropped_after n dropped (event.Settle count) = dropped
dropped_after n dropped (event.Lie from to bytes) = dropped
dropped_after n dropped (event.Crash node keep fill) = dropped
dropped_after n dropped (event.Fail node call) = dropped
dropped_after n dropped (event.Replace node) = dropped
dropped_after n dropped event.ClientCrash = dropped
dropped_after n dropped (event.Restart session) = dropped
dropped_after n dropped (event.Reassign session region) = dropped
dropped_after n dropped (event.Tick party) = dropped

-- ---- a step

-- a node is loaded in the step
abbrev pub loads : Handed → Bool
loads (handed.Asked r) = false
loads (handed.Deliver m) = false
loads (handed.Stop m) = true
loads (handed.Lie from bytes) = false
loads handed.Tick = false
loads handed.Crash = true
loads handed.Replace = true
loads handed.ClientCrash = false

-- the messages that the step added have the addressed party as sender
abbrev pub AddsOwn : List Posted → ℕ → TraceStep → Type 0
AddsOwn posts before step = (k : ℕ) → before < k → k ≤ step.sent → IfSome (posted_at posts k) (λ m. m.from ≡ step.party)

-- a step of event n, after these, in which the party is handed that
pub record IsStep (posts : List Posted) (earlier : List TraceStep) (n : ℕ) (party : Sender) (what : Handed) (step : TraceStep) : Type 0 where
  pub number : step.event ≡ n
  pub addressed : step.party ≡ party
  pub hands_it : step.handed ≡ what
  pub more : sent_by earlier ≤ step.sent
  pub there : step.sent ≤ length posts
  pub own : AddsOwn posts (sent_by earlier) step
  pub loaded_then : is_some step.loaded ≡ loads what

-- these steps are that one step
pub record IsOneStep (posts : List Posted) (earlier : List TraceStep) (n : ℕ) (party : Sender) (what : Handed) (steps : List TraceStep) : Type 0 where
  pub step : TraceStep
  pub only : steps ≡ step ∷ []
  pub is_step : IsStep posts earlier n party what step

-- these steps are the one that hands message k from its sender to its receiver
pub record IsDelivery (posts : List Posted) (earlier : List TraceStep) (n k : ℕ) (what : Handed) (steps : List TraceStep) : Type 0 where
  pub message : Posted
  pub known : posted_at posts k ≡ Some message
  pub one : IsOneStep posts earlier n message.to what steps

-- each step hands over the lowest message that waits
pub record IsNextDelivery (posts : List Posted) (earlier : List TraceStep) (dropped : List ℕ) (n : ℕ) (step : TraceStep) : Type 0 where
  pub k : ℕ
  pub lowest : next_waiting earlier dropped ≡ Some k
  pub message : Posted
  pub known : posted_at posts k ≡ Some message
  pub is_step : IsStep posts earlier n message.to (handed.Deliver k) step

-- at most so many of them, and fewer only where none is left
unfoldable pub IsSettling : List Posted → List ℕ → ℕ → ℕ → List TraceStep → List TraceStep → Type 0
IsSettling posts dropped n count earlier [] = (count ≡ 0) ⊎ (next_waiting earlier dropped ≡ None)
IsSettling posts dropped n count earlier (step ∷ steps) =
    (0 < count) × IsNextDelivery posts earlier dropped n step × IsSettling posts dropped n (count - 1) (step ∷ earlier) steps

-- ---- an event

-- the steps of event n, where it isn't skipped
abbrev pub AreStepsOf : List Posted → List TraceStep → List ℕ → ℕ → Event → List TraceStep → Type 0
AreStepsOf posts earlier dropped n (event.Write batch) steps = IsOneStep posts earlier n sender.Client (handed.Asked (request.Write batch)) steps
AreStepsOf posts earlier dropped n (event.Read block) steps = IsOneStep posts earlier n sender.Client (handed.Asked (request.Read block)) steps
AreStepsOf posts earlier dropped n event.Barrier steps = IsOneStep posts earlier n sender.Client (handed.Asked request.Barrier) steps
AreStepsOf posts earlier dropped n (event.Restart session) steps = IsOneStep posts earlier n sender.Client (handed.Asked (request.Restart session)) steps
AreStepsOf posts earlier dropped n (event.Reassign session region) steps =
    IsOneStep posts earlier n sender.Client (handed.Asked (request.Reassign session region)) steps
AreStepsOf posts earlier dropped n (event.Deliver k) steps = IsDelivery posts earlier n k (handed.Deliver k) steps
AreStepsOf posts earlier dropped n (event.Stop k calls keep fill) steps = IsDelivery posts earlier n k (handed.Stop k) steps
AreStepsOf posts earlier dropped n (event.Settle count) steps = IsSettling posts dropped n count earlier steps
AreStepsOf posts earlier dropped n (event.Drop k) steps = steps ≡ []
AreStepsOf posts earlier dropped n (event.Fail node call) steps = steps ≡ []
AreStepsOf posts earlier dropped n (event.Lie from to bytes) steps = IsOneStep posts earlier n to (handed.Lie from bytes) steps
AreStepsOf posts earlier dropped n (event.Crash node keep fill) steps = IsOneStep posts earlier n (sender.Node node) handed.Crash steps
AreStepsOf posts earlier dropped n (event.Replace node) steps = IsOneStep posts earlier n (sender.Node node) handed.Replace steps
AreStepsOf posts earlier dropped n event.ClientCrash steps = IsOneStep posts earlier n sender.Client handed.ClientCrash steps
AreStepsOf posts earlier dropped n (event.Tick party) steps = IsOneStep posts earlier n party handed.Tick steps

-- the steps of event n: none where it is skipped
abbrev pub IsEventDone : Bool → List Posted → List TraceStep → List ℕ → ℕ → Event → List TraceStep → Type 0
IsEventDone true posts earlier dropped n event steps = steps ≡ []
IsEventDone false posts earlier dropped n event steps = AreStepsOf posts earlier dropped n event steps

-- From event number n on these are the steps: those of the event, and then those of the others.
unfoldable pub FollowsFrom : List Posted → List TraceStep → List ℕ → ℕ → List Event → List TraceStep → Type 0
FollowsFrom posts earlier dropped n [] steps = (steps ≡ []) × (sent_by earlier ≡ length posts)
FollowsFrom posts earlier dropped n (event ∷ events) steps =
    (here : List TraceStep) × (rest : List TraceStep) × (steps ≡ here ++ rest)
    × IsEventDone (is_skipped posts (sent_by earlier) event) posts earlier dropped n event here
    × FollowsFrom posts (reverse here ++ earlier) (dropped_after (sent_by earlier) dropped event) (n + 1) events rest

-- the trace follows the schedule
abbrev pub Follows : List Event → List Posted → List TraceStep → Type 0
Follows events posts trace = FollowsFrom posts [] [] 1 events trace
