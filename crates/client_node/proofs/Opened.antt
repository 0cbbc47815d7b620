-- What comes of a step of a client that leaves its phase, or opens a session, is what the rules say.
use Rattle.std.proofs.Common.{◌≡◌, ◌∙◌, ℕ, ◌+◌, ◌^◌, ◌<◌, ◌≤◌, true, false, List, [], ◌∷◌, length, refl, sym, ap, subst, arith}
use Rattle.salus_types.specs.Volume.{Shape, regions, blocks}
use Rattle.salus_types.specs.declared.names.NodeName.{NodeName}
use Rattle.salus_message.specs.declared.wire.Message.{Message}
use Rattle.schedule_text.specs.declared.schedule.Volume.{Volume}
use Rattle.printed_lines.specs.declared.line.Line.{Line}
use Rattle.printed_lines.specs.declared.line.Line.TheVariants as line
use Rattle.printed_lines.specs.declared.line.RequestRefusal.TheVariants as refusal
use Rattle.salus_model.specs.declared.trace.Request.TheVariants as request
use Rattle.volume_model.specs.Contents.{roots_of}
use Rattle.client_rules.specs.State.{Client, Told, only_lines}
use Rattle.client_rules.specs.Opening.{new_serving, restarted}
use Rattle.client_rules.specs.Rules.{received, requested}
use Rattle.client_asking.specs.declared.step.Step.{Step}
use Rattle.open_reads.specs.Telling.{Adds}
use Rattle.serving_client.specs.Kept.{KeptServing}
use Rattle.serving_client.specs.Standing.{Becomes as BecomesServing, StandsFor as ServesFor}
use Rattle.session_opening.specs.declared.phase.Phase.{Phase as OpeningPhase}
use Rattle.session_opening.specs.declared.phase.Phase.TheVariants as opening
use Rattle.session_opening.specs.declared.fetching.Served.{Served}
use Rattle.session_opening.specs.declared.opening.Outcome.{Outcome}
use Rattle.session_opening.specs.declared.opening.Outcome.TheVariants as outcome
use Rattle.session_opening.specs.Kept.{KeptOpening}
use Rattle.session_opening.specs.Standing.{shape_of, IsUpTo, StandsFor, UpTo}
use Rattle.session_opening.specs.Telling.{Becomes, IsTold, OpensBy, ServesAs, Follows as GoesOn}
use Rattle.client_node.specs.declared.phase.Phase.{Phase}
use Rattle.client_node.specs.declared.phase.Phase.TheVariants as phase
use Rattle.client_node.specs.Opening.{IsLow, OutcomeFits, KeptClient}
use Rattle.client_node.specs.Phases.{key_in, serves_in, shape_in, Follows, Plays}
use Rattle.client_node.proofs.Turning.{adds_nothing, by_serving}
use Rattle.client_node.proofs.Away.{IsNoReply, no_reply, open_already, plays_away, restarts, stands_opening}

-- ---- the volume's shape and key

serving_volume : (volume : Volume) (kept : KeptServing) (c : Client) → BecomesServing volume kept c → (volume.geometry ≡ kept.pipeline.window.shape) × (volume.key ≡ kept.pipeline.key)
serving_volume volume kept = by_serving volume kept (λ c. (volume.geometry ≡ kept.pipeline.window.shape) × (volume.key ≡ kept.pipeline.key)) (λ s stands. (stands.volume_is.geometry, stands.volume_is.key))

pub its_volume : (volume : Volume) (kept : Phase) (c : Client) → Plays volume kept c → (volume.geometry ≡ shape_in kept) × (volume.key ≡ key_in kept)
its_volume volume (phase.Closed kept) c plays = (plays.geometry, plays.key)
its_volume volume (phase.Serving kept) c plays = serving_volume volume kept c plays
its_volume volume (phase.Opening kept) c plays = (plays.geometry, plays.key)

-- ---- a request

-- the client stays as it is, and a line is added
pub stays_with : (volume : Volume) (kept : Phase) (before after : Step) (c : Client) (lines : List Line) (t : Told) → Plays volume kept c → Adds before after (only_lines c lines) → t ≡ only_lines c lines
    → Follows volume before after kept t
stays_with volume kept before after c lines t plays adds is = subst (λ (u : Told). Follows volume before after kept u) (sym is) (record { client = plays; adds = adds })

serving_refuses : (volume : Volume) (kept : KeptServing) (v e : ℕ) (c : Client) → BecomesServing volume kept c → requested volume c v (request.Restart e) ≡ only_lines c (line.Refused v refusal.Open ∷ [])
serving_refuses volume kept v e = by_serving volume kept (λ c. requested volume c v (request.Restart e) ≡ only_lines c (line.Refused v refusal.Open ∷ [])) (λ s stands. open_already volume s v e)

not_this : (P : Type 0) → false ≡ true → P
not_this P is = cc

-- a client that serves refuses a restart
pub refuses_restart : (volume : Volume) (kept : Phase) (v e : ℕ) → serves_in kept ≡ true → (c : Client) → Plays volume kept c → requested volume c v (request.Restart e) ≡ only_lines c (line.Refused v refusal.Open ∷ [])
refuses_restart volume (phase.Closed kept) v e is c plays = not_this _ is
refuses_restart volume (phase.Serving kept) v e is c plays = serving_refuses volume kept v e c plays
refuses_restart volume (phase.Opening kept) v e is c plays = not_this _ is

-- and any other one takes it
pub takes_restart : (volume : Volume) (kept after : Phase) (old new : Step) (v e : ℕ) → serves_in kept ≡ false → (c : Client) → Plays volume kept c → Follows volume old new after (restarted volume.geometry e)
    → Follows volume old new after (requested volume c v (request.Restart e))
takes_restart volume kept after old new v e is c plays = subst (λ (t : Told). Follows volume old new after t) (sym (restarts volume c v e (plays_away volume kept is c plays)))

-- a session is opened
pub opens_by : (volume : Volume) (shape : Shape) (old new : Step) (kept : KeptClient) (t : Shape → Told) → volume.geometry ≡ shape → OpensBy volume old new kept.opening (t shape) → Follows volume old new (phase.Opening kept) (t volume.geometry)
opens_by volume shape old new kept t is opens = subst (λ s. Follows volume old new (phase.Opening kept) (t s)) (sym is) (record { client = opens.stands; adds = opens.adds })

-- ---- how many batches

up_to_more : (low high : ℕ) → low ≤ high → (p : OpeningPhase) → UpTo low p → UpTo high p
up_to_more low high up (opening.Gathers kept) up_to = omega (arith, up, up_to)
up_to_more low high up (opening.Fetches kept) up_to = omega (arith, up, up_to)
up_to_more low high up (opening.Begins kept) up_to = omega (arith, up, up_to)

pub as_low : (kept : KeptOpening) (low newest : ℕ) → newest < 2 ^ 32 → low ≤ 2 ^ 63 + newest → IsUpTo low kept → IsLow (record { opening = kept; newest = newest })
as_low kept low newest event up up_to = record { event = event; up_to = up_to_more low (2 ^ 63 + newest) up kept.phase up_to }

-- ---- a message

-- what comes of one
pub has_come : (before : KeptOpening) (shape : Shape) (newest : ℕ) → shape ≡ shape_of before → IsUpTo (2 ^ 63 + newest) before → (made : Outcome) → GoesOn before made → OutcomeFits shape newest made
has_come before shape newest is up_to (outcome.Opens kept) goes = (goes.shape ∙ sym is, goes.up_to (2 ^ 63 + newest) up_to)
has_come before shape newest is up_to (outcome.Closes key) goes = tt
has_come before shape newest is up_to (outcome.Serves served key) goes = (goes.roots ∙ ap regions (sym is), goes.up_to (2 ^ 63 + newest) up_to)

-- the client that then serves
pub serves_now : (volume : Volume) (shape : Shape) (served : Served) (kept : KeptServing)
    → ((contents : List (List ℕ)) → length contents ≡ blocks shape → roots_of shape contents ≡ served.roots → ServesFor volume kept (new_serving shape served.session served.number contents))
    → (c : Client) → volume.geometry ≡ shape → ServesAs volume served c → BecomesServing volume kept c
serves_now volume shape served kept stands c is serves =
    let long : length serves.contents ≡ blocks shape = serves.long ∙ ap blocks is in
    let roots : roots_of shape serves.contents ≡ served.roots = ap (λ s. roots_of s serves.contents) (sym is) ∙ sym serves.roots in
    let here : ServesFor volume kept (new_serving volume.geometry served.session served.number serves.contents) =
    subst (λ s. ServesFor volume kept (new_serving s served.session served.number serves.contents)) (sym is) (stands serves.contents long roots) in
    subst (λ (d : Client). BecomesServing volume kept d) (sym serves.is) here

-- it isn't waited for
pub goes_as_before : (volume : Volume) (kept : KeptOpening) (step : Step) (name : NodeName) (m : Message) → IsNoReply m → (c : Client) → StandsFor volume kept c
    → IsTold volume step step (outcome.Opens kept) (received volume c name m)
goes_as_before volume kept step name m none c stands =
    subst (λ (t : Told). IsTold volume step step (outcome.Opens kept) t) (sym (no_reply volume c name m (stands_opening volume kept c stands) none)) (record { becomes = stands; adds = adds_nothing c step })

-- the step of the client is that of what opens the session
pub came_by : (volume : Volume) (shape : Shape) (old new : Step) (made : Outcome) (after : Phase) (t : Told) → ((c : Client) → volume.geometry ≡ shape → Becomes volume made c → Plays volume after c) → volume.geometry ≡ shape
    → IsTold volume old new made t → Follows volume old new after t
came_by volume shape old new made after t plays is told = record { client = plays t.client is told.becomes; adds = told.adds }

pub goes_on_itself : (kept : KeptOpening) → GoesOn kept (outcome.Opens kept)
goes_on_itself kept = record { shape = refl; key = refl; up_to = λ most is. is }
