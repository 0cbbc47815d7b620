-- In a quiet run in which the client serves at the end: what a node of the session sends to another is brought to it, in the session.
use Rattle.std.proofs.Common.{◌≡◌, ◌∙◌, inl, inr, ℕ, ◌<◌, ◌≤◌, ◌==◌, ◌&&◌, false, List, [], ◌∷◌, ◌++◌, Some, refl, sym, ap, subst, arith, append_assoc, eqb-true}
use Rattle.std.specs.Prelude.{Ok}
use Rattle.std.specs.List.{AllByRecursion}
use Rattle.salus_types.specs.Volume.{Shape}
use Rattle.salus_types.specs.declared.names.NodeName.{NodeName}
use Rattle.salus_types.specs.declared.names.Sender.TheVariants as sender
use Rattle.salus_types.specs.declared.records.Record.{Record}
use Rattle.salus_message.specs.declared.wire.Message.{Message}
use Rattle.salus_message.specs.declared.wire.Message.TheVariants as message
use Rattle.salus_message.specs.Reading.{message_at}
use Rattle.schedule_text.specs.Limits.{IsOfVolume, IsWithinLimits}
use Rattle.schedule_text.specs.declared.schedule.Volume.{Volume}
use Rattle.schedule_text.specs.declared.schedule.Event.{Event}
use Rattle.merkle_region.specs.Tree.{IsAmong, NoTwoCollide}
use Rattle.volume_model.specs.Parts.{Session}
use Rattle.salus_model.specs.declared.trace.TraceStep.{TraceStep}
use Rattle.salus_model.specs.Following.{Posted, posted_at, sent_by, Follows}
use Rattle.salus_model.specs.Forgery.{NoForgery}
use Rattle.salus_model.specs.Guarding.{is_lied_for}
use Rattle.salus_model.specs.Hearing.{judge_of}
use Rattle.salus_model.specs.Due.{history_from}
use Rattle.salus_model.specs.Complete.{IsSound}
use Rattle.salus_model.specs.Licences.{Letter, letters_to}
use Rattle.salus_model.specs.Quiet.{Quiet}
use Rattle.salus_model.specs.Seen.{strings_of, NoCollision}
use Rattle.client_rules.specs.Rules.{new_client}
use Rattle.replica_rules.specs.Leading.{Leader}
use Rattle.replica_rules.specs.Views.{has_right_shape}
use Rattle.replica_rules.specs.Rules.{Sending, Input, Receives, Ticks}
use Rattle.run_rules.specs.Calm.{Calm, CalmFrom}
use Rattle.run_rules.specs.Knowing.{KnownNode, fresh, outs_to}
use Rattle.run_rules.specs.Run.{IsByRules, formatted_first}
use Rattle.run_rules.specs.Running.{known_of, formatted}
use Rattle.list_lemmas.proofs.Each.{all_split}
use Rattle.list_lemmas.proofs.Tests.{and_left}
use Rattle.law_history.specs.Handing.{steps_in}
use Rattle.law_history.proofs.Steps.{steps_of_all}
use Rattle.law_answers.specs.Turning.{BringsPart}
use Rattle.law_claimed.specs.Accounting.{history_of}
use Rattle.law_claimed.specs.Handling.{outs_of_all, StaysAlong}
use Rattle.law_claimed.specs.Session.{Brings}
use Rattle.law_asked.proofs.Along.{AreGiven}
use Rattle.law_asked.proofs.Run.{first_along, run_given}
use Rattle.law_served.proofs.Coming as coming
use Rattle.law_served.proofs.Fronts.{node_listed, first_on}
use Rattle.law_complete.proofs.FaultsQuietly.{none_lied, quiet_sound}
use Rattle.law_complete.specs.Beginning.{inputs_in, node_after, HasBegun}
use Rattle.law_complete.proofs.Posted.{WasPosted, WerePosted, input_letter}
use Rattle.law_complete.proofs.VotesAlong as votes
use Rattle.law_complete.proofs.Sent.{IsCalmFor, speaks_along, known_behind, calm_all}
use Rattle.law_complete.proofs.Idle.{IsIdle}
use Rattle.law_complete.proofs.Taken.{IsTaken, taken_before}
use Rattle.law_complete.proofs.Place.{inputs_among, brought_behind}
use Rattle.law_complete.proofs.Carried.{IsCarried, carried}

among_middle : (xs : List TraceStep) (u : TraceStep) → IsAmong u (xs ++ u ∷ [])
among_middle [] u = inl refl
among_middle (x ∷ xs) u = inr (among_middle xs u)

module _ (volume : Volume) (events : List Event) (posts : List Posted) (trace : List TraceStep) (limits : IsWithinLimits (record { volume = volume; events = events })) (follows : Follows events posts trace)
    (apart : NoCollision volume events posts trace) (unforged : NoForgery volume events posts trace) (calm : Calm events trace) (by : IsByRules volume (formatted_first volume) posts trace) (quiet : Quiet events posts trace) where
  abbrev shape : Shape
  shape = volume.geometry

  abbrev known : Session
  known = (judge_of volume.geometry events (history_of volume events posts trace)).now

  abbrev strings : List (List ℕ)
  strings = strings_of volume.geometry (history_from volume events posts [] trace)

  abbrev none : NoTwoCollide strings
  none = steps_of_all volume events posts trace apart

  abbrev unlied : is_lied_for events sender.Client ≡ false
  unlied = none_lied events quiet.events_quiet sender.Client

  abbrev sound : (name : NodeName) → IsSound events trace name
  sound name = quiet_sound events quiet.events_quiet posts trace follows name

  -- how many messages were sent in these steps
  abbrev sent_in : List TraceStep → ℕ
  sent_in xs = sent_by (steps_in (history_from volume events posts [] xs))

  module _ (name : NodeName) where
    abbrev start : KnownNode
    start = fresh shape name.region (formatted volume name)

    abbrev Given : List TraceStep → Type 0
    Given steps = AreGiven volume events posts trace limits strings none unlied name (sound name) (by.nodes name) [] 1 2 (new_client shape) start [] steps

    given : Given trace
    given = run_given volume events posts trace limits follows apart unforged by unlied name (sound name)

    -- what was handed to it in these steps was posted in them
    came_at : (xs rest : List TraceStep) → trace ≡ xs ++ rest → WerePosted posts (sent_in xs) (letters_to posts name xs)
    came_at xs rest whole =
        (votes.end_of volume events posts trace limits strings none unlied name (sound name) (by.nodes name) (λ who. none_lied events quiet.events_quiet who) given.given xs rest [] [] 1 1 (new_client shape) start
        (first_along volume events posts trace limits strings none unlied name (sound name) (by.nodes name)) (subst Given whole given)
        (record { keeps = tt; full = λ rec was. absurd (none_first _ was); came = λ l nothing. absurd nothing; voted = λ v was. absurd (none_first _ was) })).votes.came
      where
        none_first : (l : Letter) → WasPosted posts 0 l → ⊥
        none_first l was = let counted : 0 < was.k = was.counted in let low : was.k ≤ 0 = was.low in omega (arith, counted, low)

    -- no part that the client posted in these steps is of a later session than the node's then
    none_later : IsOfVolume shape name → (xs rest : List TraceStep) → trace ≡ xs ++ rest → (k : ℕ) → k ≤ sent_in xs → (post : Posted) → posted_at posts k ≡ Some post → post.from ≡ sender.Client → (rec : Record)
        → message_at post.bytes ≡ Ok (message.Part (record { rec = rec })) → rec.header.session ≤ (node_after volume posts name xs).held.session
    none_later inside xs rest whole k low post at from rec reads =
        let end = coming.end_of volume events posts trace limits strings none unlied name (sound name) (by.nodes name) inside (node_listed shape name inside) xs rest [] [] 1 1 (new_client shape) start
        (first_along volume events posts trace limits strings none unlied name (sound name) (by.nodes name)) (first_on volume events posts trace limits strings none unlied name (sound name) (by.nodes name) inside)
        (coming.first_coming volume events posts trace limits strings none unlied name (sound name) (by.nodes name) inside (node_listed shape name inside)) (subst Given whole given)
        (subst (λ (l : List TraceStep). CalmFrom events [] l) whole calm) in
        subst (λ (x : KnownNode). rec.header.session ≤ x.state.held.session) (sym end.before.known_is) (end.coming.later k low post at from rec reads)

    calm_here : AllByRecursion (IsCalmFor shape posts name) trace
    calm_here = calm_all shape events posts trace name (sound name) start (by.nodes name) calm given.of

  -- ---- from a node to another

  module _ (p q : NodeName) (p_inside : IsOfVolume shape p) (q_inside : IsOfVolume shape q) (bp : HasBegun volume posts known p trace) (bq : HasBegun volume posts known q trace) (m : Message)
      (among : IsAmong (record { to = sender.Node q; message = m }) (outs_of_all shape p.region (node_after volume posts p bp.first) (inputs_in posts p bp.since))) where
    abbrev out : Sending
    out = record { to = sender.Node q; message = m }

    abbrev first : KnownNode
    first = fresh shape p.region (formatted volume p)

    c : IsCarried volume posts p q trace known bp m
    c = carried volume events posts trace limits follows apart unforged calm by quiet p q p_inside known bp m among

    idle : IsIdle shape p.region known.base bp.before
    idle = record { parts = bp.parts; noted = ap (λ (l : Leader). l.noted) bp.leader; front = ap (λ (l : Leader). l.front) bp.leader; begun = bp.begun }

    calm_both : AllByRecursion (IsCalmFor shape posts p) bp.first × AllByRecursion (IsCalmFor shape posts p) bp.since
    calm_both = all_split (IsCalmFor shape posts p) bp.first bp.since (subst (λ (l : List TraceStep). AllByRecursion (IsCalmFor shape posts p) l) bp.whole (calm_here p))

    calm_till : AllByRecursion (IsCalmFor shape posts p) c.done
    calm_till = (all_split (IsCalmFor shape posts p) c.done (c.t ∷ c.rest) (subst (λ (l : List TraceStep). AllByRecursion (IsCalmFor shape posts p) l) c.whole calm_both.1)).0

    -- the step in which a part of the session was handed to the sender
    taken : IsTaken shape posts p known.base known.session (c.done ++ c.t ∷ [])
    taken =
        taken_before shape posts p known.base known.session c.t c.rest c.mine out (λ to. absurd (cc)) c.done (known_of shape posts p first bp.first) (speaks_along shape posts p bp.first first refl calm_both.0) calm_till
        bp.before bp.there bp.session idle (subst (λ (l : List TraceStep). StaysAlong shape p.region (node_after volume posts p bp.first) (inputs_in posts p l)) c.whole bp.stays)
        (subst (λ (k : KnownNode). IsAmong out (outs_to shape p.region posts k c.t.handed c.t.failed)) (known_behind shape posts p bp.first c.done first) c.sent)

    abbrev xs : List TraceStep
    xs = bp.first ++ (taken.xs ++ taken.u ∷ [])

    abbrev front : List TraceStep
    front = bp.first ++ (c.done ++ c.t ∷ [])

    front_is : front ≡ xs ++ taken.zs
    front_is =
        ap (λ (l : List TraceStep). bp.first ++ l) (taken.whole ∙ sym (append_assoc taken.xs (taken.u ∷ []) taken.zs)) ∙ sym (append_assoc bp.first (taken.xs ++ taken.u ∷ []) taken.zs)

    whole : trace ≡ front ++ c.rest
    whole =
        bp.whole
        ∙ (ap (λ (l : List TraceStep). bp.first ++ l) (c.whole ∙ sym (append_assoc c.done (c.t ∷ []) c.rest))
        ∙ sym (append_assoc bp.first (c.done ++ c.t ∷ []) c.rest))

    split : trace ≡ xs ++ (taken.zs ++ c.rest)
    split = whole ∙ (ap (λ (l : List TraceStep). l ++ c.rest) front_is ∙ append_assoc xs taken.zs c.rest)

    abbrev rec : Record
    rec = taken.owns.rec

    part : Letter
    part = record { from = sender.Client; message = message.Part (record { rec = rec }) }

    -- it is a letter of the client
    letter : (input : Input) → BringsPart input rec → IsAmong input (inputs_in posts p xs) → IsAmong (record { from = sender.Client; message = message.Part (record { rec = rec }) }) (letters_to posts p xs)
    letter (Receives sender.Client bytes) brings inside = input_letter sender.Client bytes (message.Part (record { rec = rec })) brings posts p xs inside
    letter (Receives (sender.Node name) bytes) brings inside = absurd brings
    letter Ticks brings inside = absurd brings

    handed_in : IsAmong taken.input (inputs_in posts p xs)
    handed_in =
        inputs_among posts p xs taken.u taken.input
        (subst (λ (l : List TraceStep). IsAmong taken.u l) (append_assoc bp.first taken.xs (taken.u ∷ [])) (among_middle (bp.first ++ taken.xs) taken.u)) taken.at

    was : WasPosted posts (sent_in xs) (record { from = sender.Client; message = message.Part (record { rec = rec }) })
    was = came_at p xs (taken.zs ++ c.rest) split _ (letter taken.input taken.owns.brings handed_in)

    -- so the receiver has the session then
    reached : known.session ≤ (node_after volume posts q xs).held.session
    reached =
        let low : rec.header.session ≤ (node_after volume posts q xs).held.session = none_later q q_inside xs (taken.zs ++ c.rest) split was.k was.low was.post was.at was.from rec was.reads in
        let own : rec.header.session ≡ known.session = eqb-true rec.header.session known.session
        (and_left (rec.header.session == known.session) (rec.header.region == p.region)
        (and_left ((rec.header.session == known.session) && (rec.header.region == p.region)) (has_right_shape shape p.region rec) taken.owns.own)) in
        omega (arith, low, own)

    brings : Brings p m (inputs_in posts q bq.since)
    brings = record {
      bytes = c.bytes;
      among = brought_behind volume posts known q trace bq front c.rest whole xs taken.zs front_is reached c.u c.behind (Receives (sender.Node p) c.bytes) c.input;
      decoded = c.reads;
    }

-- THE LAW.
pub all_brought : (volume : Volume) (events : List Event) (posts : List Posted) (trace : List TraceStep) → IsWithinLimits (record { volume = volume; events = events })
    → Follows events posts trace → NoCollision volume events posts trace → NoForgery volume events posts trace → Calm events trace → IsByRules volume (formatted_first volume) posts trace → Quiet events posts trace
    → (p q : NodeName) → IsOfVolume volume.geometry p → IsOfVolume volume.geometry q → (bp : HasBegun volume posts (judge_of volume.geometry events (history_of volume events posts trace)).now p trace)
    → (bq : HasBegun volume posts (judge_of volume.geometry events (history_of volume events posts trace)).now q trace) → (m : Message)
    → IsAmong (record { to = sender.Node q; message = m }) (outs_of_all volume.geometry p.region (node_after volume posts p bp.first) (inputs_in posts p bp.since)) → Brings p m (inputs_in posts q bq.since)
all_brought volume events posts trace limits follows apart unforged calm by quiet p q p_inside q_inside bp bq m among =
    brings volume events posts trace limits follows apart unforged calm by quiet p q p_inside q_inside bp bq m among
