-- What the rules say of a client that doesn't serve, and of messages that it doesn't wait for.
use Rattle.std.proofs.Common.{◌≡◌, ℕ, true, false, [], ◌∷◌, None, Some, refl, sym, ap, subst}
use Rattle.salus_types.specs.Volume.{Shape}
use Rattle.salus_types.specs.declared.names.NodeName.{NodeName}
use Rattle.salus_message.specs.declared.wire.Message.{Message}
use Rattle.salus_message.specs.declared.wire.Message.TheVariants as message
use Rattle.schedule_text.specs.declared.schedule.Volume.{Volume}
use Rattle.printed_lines.specs.declared.line.Line.TheVariants as line
use Rattle.printed_lines.specs.declared.line.RequestRefusal.{RequestRefusal}
use Rattle.printed_lines.specs.declared.line.RequestRefusal.TheVariants as refusal
use Rattle.salus_model.specs.declared.trace.Request.{Request}
use Rattle.salus_model.specs.declared.trace.Request.TheVariants as request
use Rattle.client_rules.specs.State.{Serving, Gathering, Fetching, Beginning, Client, Closed, Serves, Gathers, Fetches, Stages, Switches, ignored, only_lines}
use Rattle.client_rules.specs.Opening.{restarted}
use Rattle.client_rules.specs.Serving.{decided, fetches, refusal_here, requested_here}
use Rattle.client_rules.specs.Rules.{received, requested, requested_away, told_gathering, told_fetching, told_staging, told_switching}
use Rattle.session_opening.specs.declared.phase.Phase.{Phase as OpeningPhase}
use Rattle.session_opening.specs.declared.phase.Phase.TheVariants as opening
use Rattle.session_opening.specs.Kept.{KeptOpening}
use Rattle.session_opening.specs.Standing.{IsAt, StandsFor}
use Rattle.client_node.specs.declared.phase.Phase.{Phase}
use Rattle.client_node.specs.declared.phase.Phase.TheVariants as phase
use Rattle.client_node.specs.Phases.{serves_in, Plays}
use Rattle.client_node.specs.Asking.{OpensNone}

-- ---- which clients

-- it doesn't serve
abbrev pub IsAway : Client → Type 0
IsAway (Serves s) = ⊥
IsAway other = Unit {0}

-- it opens a session
abbrev pub IsOpening : Client → Type 0
IsOpening Closed = ⊥
IsOpening (Serves s) = ⊥
IsOpening other = Unit {0}

never_serves : (p : OpeningPhase) (s : Serving) → IsAt p (Serves s) → ⊥
never_serves (opening.Gathers kept) s at = at
never_serves (opening.Fetches kept) s at = at
never_serves (opening.Begins kept) s at = at

never_closed : (p : OpeningPhase) → IsAt p Closed → ⊥
never_closed (opening.Gathers kept) at = at
never_closed (opening.Fetches kept) at = at
never_closed (opening.Begins kept) at = at

at_opening : (p : OpeningPhase) (c : Client) → IsAt p c → IsOpening c
at_opening p Closed at = never_closed p at
at_opening p (Serves s) at = never_serves p s at
at_opening p (Gathers g) at = tt
at_opening p (Fetches f) at = tt
at_opening p (Stages b) at = tt
at_opening p (Switches b) at = tt

pub stands_opening : (volume : Volume) (kept : KeptOpening) (c : Client) → StandsFor volume kept c → IsOpening c
stands_opening volume kept c stands = at_opening kept.phase c stands.at

opening_away : (c : Client) → IsOpening c → IsAway c
opening_away Closed is = tt
opening_away (Serves s) is = is
opening_away (Gathers g) is = tt
opening_away (Fetches f) is = tt
opening_away (Stages b) is = tt
opening_away (Switches b) is = tt

pub not_so : (P : Type 0) → true ≡ false → P
not_so P is = cc

-- for it a client stands that doesn't serve
pub plays_away : (volume : Volume) (kept : Phase) → serves_in kept ≡ false → (c : Client) → Plays volume kept c → IsAway c
plays_away volume (phase.Closed kept) is c plays = subst IsAway (sym plays.closed) tt
plays_away volume (phase.Serving kept) is c plays = not_so _ is
plays_away volume (phase.Opening kept) is c plays = opening_away c (stands_opening volume kept.opening c plays)

-- ---- requests to a client that doesn't serve

away_refused : (shape other : Shape) (c : Client) (v : ℕ) (r : Request) → OpensNone other r → requested_away shape c v r ≡ only_lines c (line.Refused v refusal.Closed ∷ [])
away_refused shape other c v (request.Write batch) none = refl
away_refused shape other c v (request.Read b) none = refl
away_refused shape other c v request.Barrier none = refl
away_refused shape other c v (request.Restart e) none = absurd none
away_refused shape other c v (request.Reassign e g) none = absurd none

pub none_opened : (volume : Volume) (shape : Shape) (c : Client) (v : ℕ) (r : Request) → IsAway c → OpensNone shape r → requested volume c v r ≡ only_lines c (line.Refused v refusal.Closed ∷ [])
unfolding requested
none_opened volume shape Closed v r away none = away_refused volume.geometry shape Closed v r none
none_opened volume shape (Gathers g) v r away none = away_refused volume.geometry shape (Gathers g) v r none
none_opened volume shape (Fetches f) v r away none = away_refused volume.geometry shape (Fetches f) v r none
none_opened volume shape (Stages b) v r away none = away_refused volume.geometry shape (Stages b) v r none
none_opened volume shape (Switches b) v r away none = away_refused volume.geometry shape (Switches b) v r none
none_opened volume shape (Serves s) v r away none = absurd away

pub none_reassigned : (volume : Volume) (c : Client) (v e g : ℕ) → IsAway c → requested volume c v (request.Reassign e g) ≡ only_lines c (line.Refused v refusal.Closed ∷ [])
unfolding requested
none_reassigned volume Closed v e g away = refl
none_reassigned volume (Gathers h) v e g away = refl
none_reassigned volume (Fetches f) v e g away = refl
none_reassigned volume (Stages b) v e g away = refl
none_reassigned volume (Switches b) v e g away = refl
none_reassigned volume (Serves s) v e g away = absurd away

pub restarts : (volume : Volume) (c : Client) (v e : ℕ) → IsAway c → requested volume c v (request.Restart e) ≡ restarted volume.geometry e
unfolding requested
restarts volume Closed v e away = refl
restarts volume (Gathers h) v e away = refl
restarts volume (Fetches f) v e away = refl
restarts volume (Stages b) v e away = refl
restarts volume (Switches b) v e away = refl
restarts volume (Serves s) v e away = absurd away

-- ---- and to one that does

pub open_already : (volume : Volume) (s : Serving) (v e : ℕ) → requested volume (Serves s) v (request.Restart e) ≡ only_lines (Serves s) (line.Refused v refusal.Open ∷ [])
unfolding requested requested_here
open_already volume s v e = refl

pub not_left : (volume : Volume) (s : Serving) (v e g : ℕ) (cause : RequestRefusal) → refusal_here volume.geometry s (request.Reassign e g) ≡ Some cause
    → requested volume (Serves s) v (request.Reassign e g) ≡ only_lines (Serves s) (line.Refused v cause ∷ [])
unfolding requested requested_here
not_left volume s v e g cause is = ap (λ o. decided volume.geometry s v (request.Reassign e g) o) is

pub is_left : (volume : Volume) (s : Serving) (v e g : ℕ) → refusal_here volume.geometry s (request.Reassign e g) ≡ None → requested volume (Serves s) v (request.Reassign e g) ≡ fetches volume.geometry s e g
unfolding requested requested_here
is_left volume s v e g is = ap (λ o. decided volume.geometry s v (request.Reassign e g) o) is

-- ---- messages that no client waits for that opens a session

abbrev pub IsNoReply : Message → Type 0
IsNoReply (message.Gathered m) = ⊥
IsNoReply (message.Dumped m) = ⊥
IsNoReply (message.Staged m) = ⊥
IsNoReply (message.Switched m) = ⊥
IsNoReply other = Unit {0}

none_gathered : (volume : Volume) (g : Gathering) (name : NodeName) (m : Message) → IsNoReply m → told_gathering volume g name m ≡ ignored (Gathers g)
none_gathered volume g name (message.Part m) none = refl
none_gathered volume g name (message.Prepared m) none = refl
none_gathered volume g name (message.Committed m) none = refl
none_gathered volume g name (message.Ask m) none = refl
none_gathered volume g name (message.Answer m) none = refl
none_gathered volume g name (message.Gather m) none = refl
none_gathered volume g name (message.Gathered m) none = absurd none
none_gathered volume g name (message.Stage m) none = refl
none_gathered volume g name (message.Staged m) none = refl
none_gathered volume g name (message.Switch m) none = refl
none_gathered volume g name (message.Switched m) none = refl
none_gathered volume g name (message.Dump m) none = refl
none_gathered volume g name (message.Dumped m) none = refl

none_dumped : (volume : Volume) (f : Fetching) (name : NodeName) (m : Message) → IsNoReply m → told_fetching volume f name m ≡ ignored (Fetches f)
none_dumped volume f name (message.Part m) none = refl
none_dumped volume f name (message.Prepared m) none = refl
none_dumped volume f name (message.Committed m) none = refl
none_dumped volume f name (message.Ask m) none = refl
none_dumped volume f name (message.Answer m) none = refl
none_dumped volume f name (message.Gather m) none = refl
none_dumped volume f name (message.Gathered m) none = refl
none_dumped volume f name (message.Stage m) none = refl
none_dumped volume f name (message.Staged m) none = refl
none_dumped volume f name (message.Switch m) none = refl
none_dumped volume f name (message.Switched m) none = refl
none_dumped volume f name (message.Dump m) none = refl
none_dumped volume f name (message.Dumped m) none = absurd none

none_staged : (shape : Shape) (b : Beginning) (name : NodeName) (m : Message) → IsNoReply m → told_staging shape b name m ≡ ignored (Stages b)
none_staged shape b name (message.Part m) none = refl
none_staged shape b name (message.Prepared m) none = refl
none_staged shape b name (message.Committed m) none = refl
none_staged shape b name (message.Ask m) none = refl
none_staged shape b name (message.Answer m) none = refl
none_staged shape b name (message.Gather m) none = refl
none_staged shape b name (message.Gathered m) none = refl
none_staged shape b name (message.Stage m) none = refl
none_staged shape b name (message.Staged m) none = absurd none
none_staged shape b name (message.Switch m) none = refl
none_staged shape b name (message.Switched m) none = refl
none_staged shape b name (message.Dump m) none = refl
none_staged shape b name (message.Dumped m) none = refl

none_switched : (shape : Shape) (b : Beginning) (name : NodeName) (m : Message) → IsNoReply m → told_switching shape b name m ≡ ignored (Switches b)
none_switched shape b name (message.Part m) none = refl
none_switched shape b name (message.Prepared m) none = refl
none_switched shape b name (message.Committed m) none = refl
none_switched shape b name (message.Ask m) none = refl
none_switched shape b name (message.Answer m) none = refl
none_switched shape b name (message.Gather m) none = refl
none_switched shape b name (message.Gathered m) none = refl
none_switched shape b name (message.Stage m) none = refl
none_switched shape b name (message.Staged m) none = refl
none_switched shape b name (message.Switch m) none = refl
none_switched shape b name (message.Switched m) none = absurd none
none_switched shape b name (message.Dump m) none = refl
none_switched shape b name (message.Dumped m) none = refl

pub no_reply : (volume : Volume) (c : Client) (name : NodeName) (m : Message) → IsOpening c → IsNoReply m → received volume c name m ≡ ignored c
unfolding received
no_reply volume Closed name m is none = refl
no_reply volume (Serves s) name m is none = absurd is
no_reply volume (Gathers g) name m is none = none_gathered volume g name m none
no_reply volume (Fetches f) name m is none = none_dumped volume f name m none
no_reply volume (Stages b) name m is none = none_staged volume.geometry b name m none
no_reply volume (Switches b) name m is none = none_switched volume.geometry b name m none
