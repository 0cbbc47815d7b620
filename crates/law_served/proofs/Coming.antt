-- Along a run: each part of the session served was posted to a sound node, and each that was taken has come.
use Rattle.std.proofs.Common.{◌≡◌, ◌∙◌, inl, inr, ℕ, zero, suc, ◌+◌, ◌<◌, ◌≤◌, ◌==◌, ◌&&◌, not, Bool, true, false, if◌then◌else◌, List, [], ◌∷◌, ◌++◌, length, reverse, Option, None, Some, refl, sym, ap, subst, arith, le_refl, le_trans, eq-eqb, append_assoc, append-nil}
use Rattle.std.specs.Prelude.{IfSome, Result, Ok}
use Rattle.std.specs.Option.{option_map_or}
use Rattle.std.proofs.lemmas.Bool.{cases_eq, cases_lt, true≢false, false≢true}
use Rattle.std.proofs.lemmas.List.{reverse-append}
use Rattle.std.proofs.lemmas.Option.{same_Some}
use Rattle.salus_types.specs.Volume.{Shape}
use Rattle.salus_types.specs.declared.names.NodeName.{NodeName}
use Rattle.salus_types.specs.declared.names.Sender.{Sender}
use Rattle.salus_types.specs.declared.names.Sender.TheVariants as sender
use Rattle.salus_types.specs.declared.records.Record.{Record}
use Rattle.salus_types.specs.declared.records.Held.{Held}
use Rattle.salus_message.specs.declared.wire.Message.{Message}
use Rattle.salus_message.specs.declared.wire.Message.TheVariants as message
use Rattle.salus_message.specs.declared.wire.MessageError.{MessageError}
use Rattle.salus_message.specs.Reading.{message_at}
use Rattle.salus_message.proofs.MessageLaws.{message_again}
use Rattle.schedule_text.proofs.Decided.{same_ok}
use Rattle.schedule_text.specs.Limits.{IsOfVolume, IsWithinLimits}
use Rattle.schedule_text.specs.declared.schedule.Volume.{Volume}
use Rattle.schedule_text.specs.declared.schedule.Event.{Event}
use Rattle.schedule_text.specs.declared.schedule.Event.TheVariants as event
use Rattle.printed_lines.specs.declared.line.Line.{Line}
use Rattle.printed_lines.specs.declared.line.Line.TheVariants as line
use Rattle.merkle_region.specs.Tree.{IsAmong, NoTwoCollide}
use Rattle.volume_model.specs.Contents.{Batch}
use Rattle.volume_model.specs.Parts.{Session}
use Rattle.volume_model.specs.Recovering.{is_of}
use Rattle.volume_model.specs.Groups.{is_client, same_party, all_nodes}
use Rattle.salus_model.specs.declared.trace.Handed.{Handed}
use Rattle.salus_model.specs.declared.trace.Handed.TheVariants as handed
use Rattle.salus_model.specs.declared.trace.TraceStep.{TraceStep}
use Rattle.salus_model.specs.Judge.{Judge, event_at, known_at, last_number, judged_all, AlongLines, IsLegalLine}
use Rattle.salus_model.specs.Following.{Posted, posted_at, sent_by, hands}
use Rattle.salus_model.specs.Forgery.{IsPartOf, IsTagged, records_of}
use Rattle.salus_model.specs.Guarding.{is_lied_for}
use Rattle.salus_model.specs.Hearing.{News, Silence, Past, news_in, news_of, judge_of}
use Rattle.salus_model.specs.Waiting.{live}
use Rattle.salus_model.specs.Due.{past_of, history_from}
use Rattle.salus_model.specs.Complete.{IsSound, Rooms, was_taken}
use Rattle.client_rules.specs.State as state
use Rattle.client_rules.specs.State.{Letter, Told}
use Rattle.client_rules.specs.Submitting.{batch_asked, next_parts}
use Rattle.client_rules.specs.Tables.{line_of}
use Rattle.client_rules.specs.Rules.{new_client, told, is_tick, ticked, client_step, posted_letter}
use Rattle.replica_rules.specs.Views.{has_right_shape}
use Rattle.replica_rules.specs.Replicas.{is_for}
use Rattle.replica_rules.specs.Nodes.{Memory, NodeState}
use Rattle.replica_rules.specs.Rules.{Input, Receives, handled}
use Rattle.run_rules.specs.Calm.{CalmFrom}
use Rattle.run_rules.specs.Knowing.{KnownNode, fresh, after_input, input_of_post, input_of, known_to}
use Rattle.run_rules.specs.Rooms.{part_read, part_in, has_no_room, refuses_for_room, fills, fills_by, finds_no_room, rooms_of}
use Rattle.run_rules.specs.Running.{posts_between, after, known_of, AllSteps, formatted}
use Rattle.run_rules.specs.Serving.{IsClientStep}
use Rattle.list_lemmas.proofs.Each.{OfSome}
use Rattle.list_lemmas.proofs.Members.{among_all, among_map-in}
use Rattle.list_lemmas.proofs.Tests.{by_bool, by_either, and_left, and_right}
use Rattle.law_lemmas.proofs.Growing.{Grows, extended}
use Rattle.law_lemmas.proofs.Named.{node-itself, one-node}
use Rattle.law_lemmas.proofs.Numbered.{IsSized}
use Rattle.law_lemmas.proofs.Owned.{IsOwn, IsTold, told as told_of, own_of, known-session}
use Rattle.law_lemmas.proofs.Settled.{EachKnown, now-known}
use Rattle.law_lemmas.proofs.WellSent.{IsWellSent, AreWellSent}
use Rattle.law_lines.specs.Mirror.{MirrorsServing}
use Rattle.law_lines.specs.Mirrors.{Mirrors, AsDue, MirrorsKnown, MirrorsSwitching}
use Rattle.law_lines.specs.Ready.{AsksFit, event_after, session_after}
use Rattle.law_lines.proofs.Followed.{AreFit}
use Rattle.law_lines.proofs.Answered.{write_is}
use Rattle.law_lines.proofs.Ordered.{head-writes}
use Rattle.law_lines.proofs.Whole.{head_written}
use Rattle.law_history.specs.Handing.{records_posted, steps_in}
use Rattle.law_answers.specs.Turning.{HasCome, ComesIn, TurnsTo}
use Rattle.law_answers.proofs.Parts.{handled_turns, handled_comes}
use Rattle.law_phases.specs.Opening.{AreCountable}
use Rattle.law_phases.proofs.Countable.{lines_countable, start_countable}
use Rattle.law_posts.proofs.Along.{top_after}
use Rattle.law_reads.specs.Chained.{IsViewOf}
use Rattle.law_reads.proofs.Events.{hands_own}
use Rattle.law_reads.proofs.Given.{IsSpelled}
use Rattle.law_reads.proofs.Served.{HandsOwn, handed_input}
use Rattle.law_reads.proofs.Sessions.{session_chain}
use Rattle.law_reads.proofs.Underway.{between_from}
use Rattle.law_asked.proofs.Serves.{IsSentBy}
use Rattle.law_asked.proofs.Along as asked
use Rattle.law_served.proofs.Client.{HasReached, BegunBy, Opens}
use Rattle.law_served.proofs.Extending.{part_back, part-number}
use Rattle.law_served.proofs.Node.{Stands, Steps, steps, brought_part}
use Rattle.law_served.proofs.Submits.{HasLast, Adds, MayAdd, told_adds}
use Rattle.law_served.proofs.Along.{IsOn, InputOk, input_ok, contents_seen, calm_now, tells, on_then}
use Rattle.law_served.proofs.Shaped.{AllLong, known_long, lines_long, part_shaped}
use Rattle.law_served.proofs.Sent.{submitted_now, newest_part, part_letter}
use Rattle.law_served.proofs.Stepped.{legal_now}

-- ---- small facts

two_true : (a b : Bool) → a ≡ true → b ≡ true → (a && b) ≡ true
two_true true b ha hb = hb
two_true false b ha hb = ha

-- a node of its state after a step in which no call fails and nothing is loaded
state_after : (shape : Shape) (g : ℕ) (posts : List Posted) (s : NodeState) (contents : List Held) (silent : Bool) (what : Handed) (failed : Bool) (loaded : Option Held) → silent ≡ false → failed ≡ false → loaded ≡ None
    → let known : KnownNode = record { state = s; silent = silent; contents = contents } in (Q : NodeState → Type 0) → (input_of posts what ≡ None → Q s) → ((input : Input) → input_of posts what ≡ Some input → Q (handled shape g s input).node)
    → Q (known_to shape g posts known what failed loaded).state
state_after shape g posts s contents silent what failed loaded speaks calm unloaded Q none some =
    subst (λ (l : Option Held). Q (known_to shape g posts (record { state = s; silent = silent; contents = contents }) what failed l).state) (sym unloaded)
    (subst (λ (f : Bool). Q (known_to shape g posts (record { state = s; silent = silent; contents = contents }) what f None).state) (sym calm)
    (subst (λ (b : Bool). Q (known_to shape g posts (record { state = s; silent = b; contents = contents }) what false None).state) (sym speaks)
    (by (input_of posts what) refl)))
  where
    by : (o : Option Input) → input_of posts what ≡ o → Q (option_map_or (λ input. after_input shape g (record { state = s; silent = false; contents = contents }) input false) o (record { state = s; silent = false; contents = contents })).state
    by None is = none is
    by (Some input) is = some input is

-- the records that a post of the client brings
posted_record : (posts : List Posted) (k : ℕ) (post : Posted) (rec : Record) → posted_at posts k ≡ Some post → post.from ≡ sender.Client → message_at post.bytes ≡ Ok (message.Part (record { rec = rec }))
    → IsAmong rec (records_posted (posted_at posts k))
posted_record posts k post rec at from reads =
    subst (λ (o : Option Posted). IsAmong rec (records_posted o)) (sym at)
    (subst (λ (w : Sender). IsAmong rec (if is_client w then records_of (message_at post.bytes) else [])) (sym from) (subst (λ (r : Result Message MessageError). IsAmong rec (records_of r)) (sym reads) (inl refl)))

-- a message of a number has a number above 0
at_counted : (posts : List Posted) (k : ℕ) (post : Posted) → posted_at posts k ≡ Some post → 0 < k
at_counted posts zero post at = absurd (cc)
at_counted posts (suc k) post at = omega arith

some_lines : (l : Line) (after : List Line) → [] ≡ l ∷ after → ⊥
some_lines l after e = cc

tick_silent : (posts : List Posted) (what : Handed) → is_tick what ≡ true → news_in posts what ≡ Silence
tick_silent posts handed.Tick is = refl
tick_silent posts (handed.Asked r) is = absurd (cc)
tick_silent posts (handed.Deliver k) is = absurd (cc)
tick_silent posts (handed.Stop k) is = absurd (cc)
tick_silent posts (handed.Lie from bytes) is = absurd (cc)
tick_silent posts handed.Crash is = absurd (cc)
tick_silent posts handed.Replace is = absurd (cc)
tick_silent posts handed.ClientCrash is = absurd (cc)

silent_lines : (volume : Volume) (c : state.Client) (v : ℕ) (x : News) → x ≡ Silence → (told volume c v x).lines ≡ []
unfolding told
silent_lines volume c v x silent = ap (λ (y : News). (told volume c v y).lines) silent

module _ (volume : Volume) (events : List Event) (posts : List Posted) (trace : List TraceStep) (limits : IsWithinLimits (record { volume = volume; events = events })) (strings : List (List ℕ)) (none : NoTwoCollide strings)
    (unlied : is_lied_for events sender.Client ≡ false) (name : NodeName) (sound : IsSound events trace name)
    (right : AllSteps volume.geometry posts name (fresh volume.geometry name.region (formatted volume name)) 0 trace) (inside : IsOfVolume volume.geometry name) (listed : IsAmong name (all_nodes volume.geometry)) where
  abbrev shape : Shape
  shape = volume.geometry

  abbrev g : ℕ
  g = name.region

  abbrev judge_here : List Past → Judge
  judge_here history = judge_of volume.geometry events history

  abbrev sent_of : List Past → ℕ
  sent_of history = sent_by (steps_in history)

  abbrev rooms : Rooms
  rooms = rooms_of volume.geometry posts (formatted volume)

  abbrev Before : List TraceStep → List Past → ℕ → ℕ → state.Client → KnownNode → Type 0
  Before done history n top c known = asked.IsAlong volume events posts trace limits strings none unlied name sound right done history n top c known

  abbrev Given : List Past → ℕ → ℕ → state.Client → KnownNode → List TraceStep → List TraceStep → Type 0
  Given history n m c known done rest = asked.AreGiven volume events posts trace limits strings none unlied name sound right history n m c known done rest

  abbrev On : List Past → ℕ → state.Client → KnownNode → Type 0
  On history top c known = IsOn volume events posts trace limits strings none unlied name sound right inside listed history top c known

  -- one of the first messages that were sent is that part, from the client to the node
  pub record WasSent (sent : ℕ) (rec : Record) : Type 0 where
    pub k : ℕ
    pub low : k ≤ sent
    pub post : Posted
    pub at : posted_at posts k ≡ Some post
    pub from : post.from ≡ sender.Client
    pub to : post.to ≡ sender.Node name
    pub reads : message_at post.bytes ≡ Ok (message.Part (record { rec = rec }))

  -- each part of the session served for the region
  abbrev pub AllSent : Judge → state.Client → ℕ → Type 0
  AllSent judge (state.Serves s) sent = (rec : Record) → IsPartOf shape volume.key judge.now g rec → WasSent sent rec
  AllSent judge other sent = Unit {0}

  -- no part that the client posted is of a later session
  abbrev pub NoneLater : ℕ → ℕ → Type 0
  NoneLater sent e = (k : ℕ) → k ≤ sent → (post : Posted) → posted_at posts k ≡ Some post → post.from ≡ sender.Client → (rec : Record) → message_at post.bytes ≡ Ok (message.Part (record { rec = rec })) → rec.header.session ≤ e

  -- each part of the node's session that was taken has come
  abbrev pub AllCome : Judge → Held → Option Memory → List TraceStep → Type 0
  AllCome judge held memory earlier =
      (known : Session) → known_at judge held.session ≡ Some known → (m : Memory) → memory ≡ Some m → (k : ℕ) → was_taken rooms earlier k ≡ true → (post : Posted) → posted_at posts k ≡ Some post
      → post.from ≡ sender.Client → post.to ≡ sender.Node name → (rec : Record) → message_at post.bytes ≡ Ok (message.Part (record { rec = rec })) → IsPartOf shape volume.key known g rec → HasCome rec m.replica

  pub record IsComing (done : List TraceStep) (history : List Past) (c : state.Client) (known : KnownNode) : Type 0 where
    pub order : reverse (steps_in history) ≡ done
    pub long : AllLong shape (judge_here history)
    pub countable : AreCountable shape events (judge_here history)
    pub later : NoneLater (sent_of history) known.state.held.session
    pub parts : AllSent (judge_here history) c (sent_of history)
    pub counted : (k : ℕ) → was_taken rooms (steps_in history) k ≡ true → k ≤ sent_of history
    pub come : AllCome (judge_here history) known.state.held known.state.memory (steps_in history)

  module _ (done : List TraceStep) (history : List Past) (n top : ℕ) (c : state.Client) (known : KnownNode) (a : Before done history n top c known) (on : On history top c known) (i : IsComing done history c known)
      (t : TraceStep) (rest : List TraceStep) (given : Given history n (top + 1) c known done (t ∷ rest)) (calm : CalmFrom events (steps_in history) (t ∷ rest)) where
    abbrev x : News
    x = news_of posts t

    abbrev p : Past
    p = past_of volume events posts history t

    abbrev judge : Judge
    judge = judge_here history

    abbrev judge_then : Judge
    judge_then = judge_here (p ∷ history)

    abbrev earlier : List TraceStep
    earlier = steps_in history

    abbrev sent : ℕ
    sent = sent_of history

    abbrev answer : Told
    answer = told volume c t.event x

    abbrev next : KnownNode
    next = after shape posts name known t

    abbrev s : Stands shape volume.key judge g known.state.held known.state.memory
    s = on.stands

    sized : EachKnown judge (IsSized shape)
    sized = a.standing.settled.sized

    then_on : On (p ∷ history) (top_after top x) answer.client next
    then_on = on_then volume events posts trace limits strings none unlied name sound right inside listed done history n top c known a on t rest given calm

    then_along : Before (done ++ t ∷ []) (p ∷ history) (event_after n t.event x) (top_after top x) answer.client next
    then_along = asked.along_then volume events posts trace limits strings none unlied name sound right done history n top c known a t rest given

    grows : Grows judge judge_then
    grows = asked.grows volume events posts trace limits strings none unlied name sound right done history n top c known a t rest given

    fits : AsksFit events n (top + 1) t.event x × AreFit events posts (event_after n t.event x) (session_after (top + 1) x) rest
    fits = asked.fits volume events posts trace limits strings none unlied name sound right done history n top c known a t rest given

    well : IsWellSent posts (steps_in history) t × AreWellSent posts (t ∷ steps_in history) rest
    well = asked.well_here volume events posts trace limits strings none unlied name sound right done history n top c known a t rest given

    row : AsDue volume (p ∷ history) judge_then (event_after n t.event x) (session_after (top + 1) x) p.lines answer
    row = asked.row volume events posts trace limits strings none unlied name sound right done history n top c known a t rest given

    legal : AlongLines (IsLegalLine shape events) events judge p.lines
    legal =
        legal_now volume events strings none posts n top history t a.some fits.0 (given.scheduled t (inl refl)) a.standing
        (asked.shows_now volume events posts trace limits strings none unlied name sound right done history n top c known a t rest given)
        (asked.within_now volume events posts trace limits strings none unlied name sound right done history n top c known a t rest given)

    countable_then : AreCountable shape events judge_then
    countable_then = lines_countable volume events limits p.lines judge legal i.countable

    own : HandsOwn posts t
    own = hands_own events posts t given.of.0

    handed_to : (k : ℕ) (post : Posted) → posted_at posts k ≡ Some post → hands k t.handed ≡ true → post.to ≡ t.party
    handed_to k post at hit = subst (λ (o : Option Posted). IfSome o (λ m. m.to ≡ t.party)) at (own k hit)

    -- now or before
    taken_by : (k : ℕ) (P : Type 0) → was_taken rooms (t ∷ earlier) k ≡ true → (hands k t.handed ≡ true → not (rooms earlier t) ≡ true → P) → (was_taken rooms earlier k ≡ true → P) → P
    unfolding was_taken
    taken_by k P is now before =
        by_either (hands k t.handed && not (rooms earlier t)) (was_taken rooms earlier k) P is
        (λ both. now (and_left (hands k t.handed) (not (rooms earlier t)) both) (and_right (hands k t.handed) (not (rooms earlier t)) both)) before

    taken_low : (k : ℕ) → was_taken rooms (t ∷ earlier) k ≡ true → k ≤ sent
    taken_low k is = taken_by k (k ≤ sent) is (λ hit room. (well.0.before k hit).1) (λ before. i.counted k before)

    -- ---- the node's part, before more is known

    record NodeComes (held : Held) (memory : Option Memory) : Type 0 where
      rises : known.state.held.session ≤ held.session
      known_now : Session
      at : known_at judge held.session ≡ Some known_now
      come : AllCome judge held memory (t ∷ earlier)

    same_known : (k l : Session) (e : ℕ) → known_at judge e ≡ Some k → known_at judge e ≡ Some l → k ≡ l
    same_known k l e at_k at_l = same_Some k l (sym at_k ∙ at_l)

    same_memory : (m l : Memory) (o : Option Memory) → o ≡ Some m → o ≡ Some l → m ≡ l
    same_memory m l o is so = same_Some m l (sym is ∙ so)

    -- none of the node's is handed over
    still_comes : ((k : ℕ) (post : Posted) → posted_at posts k ≡ Some post → post.to ≡ sender.Node name → hands k t.handed ≡ true → ⊥) → NodeComes known.state.held known.state.memory
    still_comes nothing = record {
      rises = le_refl known.state.held.session;
      known_now = s.known;
      at = s.at;
      come = λ known_k at m there k is post posted from to rec reads part.
          taken_by k (HasCome rec m.replica) is (λ hit room. absurd (nothing k post posted to hit)) (λ before. i.come known_k at m there k before post posted from to rec reads part);
    }

    -- a part of the session is for it
    part_for : (rec : Record) → IsPartOf shape volume.key s.known g rec → is_for shape g s.m.replica rec ≡ true
    part_for rec part =
        let says : IsTold shape s.known g rec.header = told_of shape volume.key s.known (sized s.known known.state.held.session s.at) g rec (inl part) in
        two_true ((rec.header.session == s.m.replica.session) && (rec.header.region == g)) (has_right_shape shape g rec)
        (two_true (rec.header.session == s.m.replica.session) (rec.header.region == g)
        (eq-eqb rec.header.session s.m.replica.session (says.session ∙ (known-session judge known.state.held.session s.known s.at ∙ sym s.session))) (eq-eqb rec.header.region g says.region))
        (part_shaped shape volume.key s.known (i.countable.each s.known known.state.held.session s.at) (known_long shape events limits.events judge i.long s.known known.state.held.session s.at) g rec part)

    module _ (party : t.party ≡ sender.Node name) where
      -- there was room for the part
      room_of : (input : Input) → input_of posts t.handed ≡ Some input → (rec : Record) → part_in input ≡ Some rec → not (rooms earlier t) ≡ true → has_no_room shape g rec s.m ≡ false
      room_of input is rec brings room =
          let was : known_of shape posts name (fresh shape g (formatted volume name)) (reverse earlier) ≡ known = ap (known_of shape posts name (fresh shape g (formatted volume name))) i.order ∙ a.known_is in
          let by : rooms earlier t ≡ has_no_room shape g rec s.m =
          ap (λ (w : Sender). finds_no_room shape posts (formatted volume) earlier w t.handed) party
          ∙ (ap (λ (k : KnownNode). fills_by shape posts g k t.handed) was
          ∙ (ap (λ (o : Option Input). option_map_or (λ input. fills shape g known input) o false) is
          ∙ (ap (λ (o : Option Record). option_map_or (λ r. refuses_for_room shape g known r) o false) brings
          ∙ (ap (λ (b : Bool). not b && option_map_or (λ m. has_no_room shape g rec m) known.state.memory false) on.speaks
          ∙ ap (λ (o : Option Memory). option_map_or (λ m. has_no_room shape g rec m) o false) s.there)))) in
          not_true (has_no_room shape g rec s.m) (ap not (sym by) ∙ room)
        where
          not_true : (b : Bool) → not b ≡ true → b ≡ false
          not_true false is = refl
          not_true true is = absurd (false≢true is)

      handled_now : (input : Input) → input_of posts t.handed ≡ Some input → NodeComes (handled shape g known.state input).node.held (handled shape g known.state input).node.memory
      handled_now input is =
          let ok = subst (λ (o : Option Input). OfSome (InputOk volume events posts trace limits strings none unlied name sound right inside listed done history n top c known a on t rest given calm) o) is
          (input_ok volume events posts trace limits strings none unlied name sound right inside listed done history n top c known a on t rest given calm t.handed
          (asked.over volume events posts trace limits strings none unlied name sound right done history n top c known a t rest given)) in
          let seen = contents_seen volume events posts trace limits strings none unlied name sound right inside listed done history n top c known a on t rest given calm in
          let made : Steps shape volume.key judge sized strings none seen g inside.0 known.state s input = steps shape volume.key judge sized strings none seen g inside.0 known.state s input ok.0 in
          record {
            rises = made.rises;
            known_now = made.stands.known;
            at = made.stands.at;
            come = λ known_k at m there k is_taken post posted from to rec reads part. elim (cases_eq held.session known.state.held.session) [
              | inl same ↦
                  let one : known_k ≡ s.known = same_known known_k s.known known.state.held.session (ap (known_at judge) (sym same) ∙ at) s.at in
                  let own_part : IsPartOf shape volume.key s.known g rec = subst (λ (q : Session). IsPartOf shape volume.key q g rec) one part in
                  let turns : TurnsTo (IsPartOf shape volume.key s.known g) (IsViewOf shape s.known g) s.m.replica memory =
                  handled_turns shape (IsPartOf shape volume.key s.known g) (IsViewOf shape s.known g) (session_chain shape volume.key s.known (sized s.known known.state.held.session s.at) g inside.0) g known.state input s.m s.there s.turn
                  (brought_part shape volume.key judge sized strings none seen g inside.0 known.state s input ok.0) same in
                  taken_by k (HasCome rec m.replica) is_taken
                  (λ hit room.
                  let brings : input ≡ input_of_post post = same_Some input (input_of_post post) (sym is ∙ handed_input posts t.handed k post hit posted) in
                  let received : input ≡ Receives sender.Client post.bytes = brings ∙ ap (λ (w : Sender). Receives w post.bytes) from in
                  let free : has_no_room shape g rec s.m ≡ false =
                  room_of input is rec (ap part_in received ∙ ap part_read reads) room in
                  let comes : ComesIn rec (handled shape g known.state (Receives sender.Client post.bytes)).node.memory =
                  handled_comes shape (IsPartOf shape volume.key s.known g) (IsViewOf shape s.known g) (session_chain shape volume.key s.known (sized s.known known.state.held.session s.at) g inside.0) g known.state post.bytes s.m rec
                  s.there s.turn reads (part_for rec own_part) own_part free in
                  come_in rec memory m there (subst (λ (y : Input). ComesIn rec (handled shape g known.state y).node.memory) (sym received) comes))
                  (λ before.
                  let was : HasCome rec s.m.replica = i.come s.known s.at s.m s.there k before post posted from to rec reads own_part in
                  subst (λ (y : Memory). HasCome rec y.replica) (same_memory turns.m m memory turns.is there) (turns.on.come rec own_part was))
              | inr differs ↦
                  let says : IsTold shape known_k g rec.header = told_of shape volume.key known_k (sized known_k held.session at) g rec (inl part) in
                  let session : rec.header.session ≡ held.session = says.session ∙ known-session judge held.session known_k at in
                  let low : rec.header.session ≤ known.state.held.session = i.later k (taken_low k is_taken) post posted from rec reads in
                  let up : known.state.held.session ≤ held.session = made.rises in
                  absurd (differs (omega (arith, session, low, up)))
            ];
          }
        where
          held : Held
          held = (handled shape g known.state input).node.held

          memory : Option Memory
          memory = (handled shape g known.state input).node.memory

          come_in : (rec : Record) (o : Option Memory) (m : Memory) → o ≡ Some m → ComesIn rec o → HasCome rec m.replica
          come_in rec None m there comes = absurd comes
          come_in rec (Some l) m there comes = subst (λ (y : Memory). HasCome rec y.replica) (same_Some l m there) comes

      abbrev there : KnownNode
      there = known_to shape g posts known t.handed t.failed t.loaded

      mine_comes : NodeComes there.state.held there.state.memory
      mine_comes =
          state_after shape g posts known.state known.contents known.silent t.handed t.failed t.loaded on.speaks
          (calm_now volume events posts trace limits strings none unlied name sound right inside listed done history n top c known a on t rest given calm party)
          (asked.unloaded volume events posts trace limits strings none unlied name sound right done history n top c known a t rest given party)
          (λ (q : NodeState). NodeComes q.held q.memory)
          (λ nothing. still_comes (λ k post posted to hit. none_some (input_of_post post) (sym nothing ∙ handed_input posts t.handed k post hit posted)))
          handled_now
        where
          none_some : (y : Input) → None ≡ Some y → ⊥
          none_some y e = cc

    -- by whom the step addresses
    node_by : (w : Sender) → t.party ≡ w → NodeComes next.state.held next.state.memory
    node_by sender.Client is =
        subst (λ (k : KnownNode). NodeComes k.state.held k.state.memory) (sym (ap (λ (w : Sender). if same_party w (sender.Node name) then known_to shape g posts known t.handed t.failed t.loaded else known) is))
        (still_comes (λ k post posted to hit. client_not (sym is ∙ (sym (handed_to k post posted hit) ∙ to))))
      where
        client_not : sender.Client ≡ sender.Node name → ⊥
        client_not e = cc
    node_by (sender.Node other) is =
        by_bool (same_party (sender.Node other) (sender.Node name)) (NodeComes next.state.held next.state.memory)
        (λ same.
        let party : t.party ≡ sender.Node name = is ∙ ap (λ (k : NodeName). sender.Node k) (one-node other name same) in
        subst (λ (k : KnownNode). NodeComes k.state.held k.state.memory)
        (sym (ap (λ (b : Bool). if b then known_to shape g posts known t.handed t.failed t.loaded else known) (ap (λ (w : Sender). same_party w (sender.Node name)) party ∙ node-itself name))) (mine_comes party))
        (λ differs.
        subst (λ (k : KnownNode). NodeComes k.state.held k.state.memory)
        (sym (ap (λ (b : Bool). if b then known_to shape g posts known t.handed t.failed t.loaded else known) (ap (λ (w : Sender). same_party w (sender.Node name)) is ∙ differs)))
        (still_comes (λ k post posted to hit.
        let party : t.party ≡ sender.Node name = sym (handed_to k post posted hit) ∙ to in
        true≢false (sym (ap (λ (w : Sender). same_party w (sender.Node name)) party ∙ node-itself name) ∙ (ap (λ (w : Sender). same_party w (sender.Node name)) is ∙ differs)))))

    node_next : NodeComes next.state.held next.state.memory
    node_next = node_by t.party refl

    -- ---- more is known

    come_then : AllCome judge_then next.state.held next.state.memory (t ∷ earlier)
    come_then known_k at m there k is_taken post posted from to rec reads part =
        let was : Session = node_next.known_now in
        let e : ℕ = next.state.held.session in
        let found = grows was e node_next.at in
        let same : known_k ≡ extended was found.0 = same_Some known_k (extended was found.0) (sym at ∙ found.1) in
        let on_part : IsPartOf shape volume.key (extended was found.0) g rec = subst (λ (q : Session). IsPartOf shape volume.key q g rec) same part in
        let tagged : IsTagged shape volume.key judge rec = a.posted k (at_counted posts k post posted) (taken_low k is_taken) rec (posted_record posts k post rec posted from reads) in
        let later_says : IsTold shape known_k g rec.header = told_of shape volume.key known_k (then_along.standing.settled.sized known_k e at) g rec (inl part) in
        let session : rec.header.session ≡ e = later_says.session ∙ known-session judge_then e known_k at in
        let of : is_of e g rec.header ≡ true = two_true (rec.header.session == e) (rec.header.region == g) (eq-eqb rec.header.session e session) (eq-eqb rec.header.region g later_says.region) in
        let own_rec : IsOwn shape volume.key was g rec = own_of shape volume.key judge was e g rec node_next.at (sized was e node_next.at) sized of tagged in
        let low : rec.header.seq ≤ length was.list = (told_of shape volume.key was (sized was e node_next.at) g rec own_rec).within in
        let number : rec.header.seq ≡ on_part.s = ap (λ (r : Record). r.header.seq) on_part.is ∙ part-number shape volume.key g (extended was found.0) on_part.s in
        node_next.come was node_next.at m there k is_taken post posted from to rec reads
        (part_back shape volume.key g was (sized was e node_next.at) found.0 rec on_part (omega (arith, low, number)))

    -- ---- what the client posts

    later_then : NoneLater t.sent next.state.held.session
    later_then k low post posted from rec reads = elim (cases_lt sent k) [
      | inl above ↦
          let l = asked.letter_of volume events posts trace limits strings none unlied name sound right done history n top c known a t rest given k above low post posted from in
          let same : l.l.message ≡ message.Part (record { rec = rec }) = same_ok l.l.message (message.Part (record { rec = rec })) (sym l.reads ∙ reads) in
          own_session answer.client then_on.reached (subst (λ (m : Message). IsSentBy shape answer.client m) same l.by)
      | inr within ↦ le_trans (i.later k within post posted from rec reads) node_next.rises
    ]
      where
        own_session : (d : state.Client) → HasReached name next.state.held.session d → IsSentBy shape d (message.Part (record { rec = rec })) → rec.header.session ≤ next.state.held.session
        own_session (state.Serves d) reached is = subst (λ (e : ℕ). e ≤ next.state.held.session) (sym is) reached
        own_session state.Closed reached is = absurd is
        own_session (state.Gathers d) reached is = absurd is
        own_session (state.Fetches d) reached is = absurd is
        own_session (state.Stages d) reached is = absurd is
        own_session (state.Switches d) reached is = absurd is

    still_sent : (rec : Record) → WasSent sent rec → WasSent t.sent rec
    still_sent rec was = record { k = was.k; low = le_trans was.low well.0.more; post = was.post; at = was.at; from = was.from; to = was.to; reads = was.reads }

    -- a letter of the step that isn't a tick's
    letter_sent : (rec : Record) → is_client t.party ≡ true → is_tick t.handed ≡ false → IsAmong (record { to = name; message = message.Part (record { rec = rec }) }) answer.outs → WasSent t.sent rec
    letter_sent rec mine still among =
        let l : Letter = record { to = name; message = message.Part (record { rec = rec }) } in
        let outs : IsAmong l (client_step volume posts c t).outs =
        subst (λ (b : Bool). IsAmong l (if b then (if is_tick t.handed then ticked shape c else answer.outs) else [])) (sym mine)
        (subst (λ (b : Bool). IsAmong l (if b then ticked shape c else answer.outs)) (sym still) among) in
        let step : IsClientStep volume posts c sent t = asked.client_now volume events posts trace limits strings none unlied name sound right done history n top c known a t rest given (client_party t.party mine) in
        let there : IsAmong (posted_letter l) (posts_between posts sent t.sent) = subst (λ (q : List Posted). IsAmong (posted_letter l) q) (sym step.messages) (among_map-in posted_letter (client_step volume posts c t).outs l outs) in
        let b = between_from posts sent t.sent (posted_letter l) there in
        let spelled : IsSpelled l =
        among_all IsSpelled (client_step volume posts c t).outs l outs (asked.spelled_here volume events posts trace limits strings none unlied name sound right done history n top c known a t rest given).0 in
        record { k = b.k; low = b.high; post = posted_letter l; at = b.at; from = refl; to = refl; reads = message_again (message.Part (record { rec = rec })) spelled.0 spelled.1 }
      where
        client_party : (w : Sender) → is_client w ≡ true → w ≡ sender.Client
        client_party sender.Client is = refl
        client_party (sender.Node k) is = absurd (false≢true is)

    -- ---- the parts of the session served

    abbrev next_n : ℕ
    next_n = event_after n t.event x

    sized_then : EachKnown judge_then (IsSized shape)
    sized_then = then_along.standing.settled.sized

    -- the session is that one still, with more batches
    going : (was : Session) (e : ℕ) → known_at judge e ≡ Some was → judge_then.now.session ≡ e → (more : List Batch) × (judge_then.now ≡ extended was more)
    going was e at same =
        let found = grows was e at in
        (found.0, same_Some judge_then.now (extended was found.0) (sym (now-known judge_then) ∙ (ap (known_at judge_then) same ∙ found.1)))

    -- a part of a batch that was there before
    old_part : (more : List Batch) → judge_then.now ≡ extended judge.now more → (rec : Record) → (part : IsPartOf shape volume.key judge_then.now g rec) → part.s ≤ length judge.now.list → IsPartOf shape volume.key judge.now g rec
    old_part more same rec part low =
        let on_part : IsPartOf shape volume.key (extended judge.now more) g rec = subst (λ (q : Session). IsPartOf shape volume.key q g rec) same part in
        let first : rec.header.seq ≡ part.s = ap (λ (r : Record). r.header.seq) part.is ∙ part-number shape volume.key g judge_then.now part.s in
        let number : rec.header.seq ≡ on_part.s = ap (λ (r : Record). r.header.seq) on_part.is ∙ part-number shape volume.key g (extended judge.now more) on_part.s in
        part_back shape volume.key g judge.now (sized judge.now judge.now.session (now-known judge)) more rec on_part (omega (arith, low, first, number))

    -- where the client has told something, the step is no tick
    heard_something : (x ≡ Silence → ⊥) → (is_client t.party ≡ true) × (is_tick t.handed ≡ false)
    heard_something loud = by_bool (is_client t.party) ((is_client t.party ≡ true) × (is_tick t.handed ≡ false)) mine (λ away. absurd (loud (ap (λ (w : Bool). if w then news_in posts t.handed else Silence) away)))
      where
        mine : is_client t.party ≡ true → (is_client t.party ≡ true) × (is_tick t.handed ≡ false)
        mine is = by_bool (is_tick t.handed) ((is_client t.party ≡ true) × (is_tick t.handed ≡ false))
            (λ tick. absurd (loud (ap (λ (w : Bool). if w then news_in posts t.handed else Silence) is ∙ tick_silent posts t.handed tick))) (λ still. (is, still))

    -- the parts of the batch that was submitted
    new_part : (s0 : state.Serving) → c ≡ state.Serves s0 → Adds volume s0 answer → (rec : Record) → (part : IsPartOf shape volume.key judge_then.now g rec) → part.s ≡ last_number judge + 1 → WasSent t.sent rec
    new_part s0 is adds rec part newest =
        let mirrors : MirrorsServing shape history judge n s0 = subst (λ (q : state.Client). Mirrors volume history judge n q) is a.holds.mirrors in
        let head : line_of (live history judge) ≡ adds.w ∷ adds.behind = sym mirrors.table.line ∙ adds.head in
        let b = write_is adds.w.request (head-writes (live history judge) adds.w adds.behind head) in
        let asked_at : event_at events adds.w.event ≡ Some (event.Write b.0) = head_written events history judge a.script adds.w adds.behind head b.0 b.1 in
        let lines : p.lines ≡ line.Submit adds.w.event (s0.last + 1) ∷ adds.after = sym row.same ∙ adds.lines in
        let now : judge_then.now ≡ record judge.now { list = judge.now.list ++ b.0 ∷ [] } =
        ap (λ (ls : List Line). (judged_all events judge ls).now) lines ∙ submitted_now events judge adds.w.event (s0.last + 1) adds.after b.0 adds.plain asked_at in
        let own_part : IsAmong rec (next_parts volume s0 b.0) = newest_part volume judge s0 mirrors.counts b.0 g inside.0 rec judge_then.now now part newest in
        let among : IsAmong rec (next_parts volume s0 (batch_asked adds.w.request)) = subst (λ (y : Batch). IsAmong rec (next_parts volume s0 y)) (sym (ap batch_asked b.1)) own_part in
        let says : IsTold shape judge_then.now g rec.header = told_of shape volume.key judge_then.now (sized_then judge_then.now judge_then.now.session (now-known judge_then)) g rec (inl part) in
        let outs = adds.outs (record { to = name; message = message.Part (record { rec = rec }) }) (part_letter shape name inside (next_parts volume s0 (batch_asked adds.w.request)) rec among says.region) in
        let loud : x ≡ Silence → ⊥ = λ silent. some_lines (line.Submit adds.w.event (s0.last + 1)) adds.after (sym (silent_lines volume c t.event x silent) ∙ adds.lines) in
        let heard = heard_something loud in
        letter_sent rec heard.0 heard.1 outs

    serves_parts : (s0 : state.Serving) → c ≡ state.Serves s0 → (d : state.Serving) → answer.client ≡ state.Serves d → AllSent judge_then (state.Serves d) t.sent
    serves_parts s0 is d now_is rec part =
        let mirrors : MirrorsServing shape history judge n s0 = subst (λ (q : state.Client). Mirrors volume history judge n q) is a.holds.mirrors in
        let mirrors_then : MirrorsServing shape (p ∷ history) judge_then next_n d = subst (λ (q : state.Client). Mirrors volume (p ∷ history) judge_then next_n q) now_is then_along.holds.mirrors in
        let before : (rec : Record) → IsPartOf shape volume.key judge.now g rec → WasSent sent rec = subst (λ (q : state.Client). AllSent judge q sent) is i.parts in
        let may : MayAdd volume s0 answer = subst (λ (q : state.Client). MayAdd volume s0 (told volume q t.event x)) (sym is) (told_adds volume s0 t.event x) in
        let was_last : s0.last ≡ last_number judge = mirrors.counts.last in
        let now_last : d.last ≡ last_number judge_then = mirrors_then.counts.last in
        let within : part.s ≤ last_number judge_then = part.within in
        elim may [
          | inl last ↦
              let on_last : HasLast s0.session s0.last (state.Serves d) = subst (λ (q : state.Client). HasLast s0.session s0.last q) now_is last in
              let number : d.last ≡ s0.last = on_last.1 in
              let same = going judge.now judge.now.session (now-known judge) (sym mirrors_then.counts.session ∙ (on_last.0 ∙ mirrors.counts.session)) in
              still_sent rec (before rec (old_part same.0 same.1 rec part (omega (arith, was_last, now_last, within, number))))
          | inr adds ↦
              let on_last : HasLast s0.session (s0.last + 1) (state.Serves d) = subst (λ (q : state.Client). HasLast s0.session (s0.last + 1) q) now_is adds.last in
              let number : d.last ≡ s0.last + 1 = on_last.1 in
              let same = going judge.now judge.now.session (now-known judge) (sym mirrors_then.counts.session ∙ (on_last.0 ∙ mirrors.counts.session)) in
              elim (cases_lt (last_number judge) part.s) [
                | inl above ↦ new_part s0 is adds rec part (omega (arith, above, was_last, now_last, within, number))
                | inr low ↦ still_sent rec (before rec (old_part same.0 same.1 rec part low))
              ]
        ]

    -- a session that opens has no batch of its own
    begun_parts : (b : state.Beginning) → c ≡ state.Switches b → (d : state.Serving) → answer.client ≡ state.Serves d → BegunBy b (state.Serves d) → AllSent judge_then (state.Serves d) t.sent
    begun_parts b is d now_is begun rec part =
        let mirrors : MirrorsSwitching shape history judge b = subst (λ (q : state.Client). Mirrors volume history judge n q) is a.holds.mirrors in
        let mirrors_then : MirrorsServing shape (p ∷ history) judge_then next_n d = subst (λ (q : state.Client). Mirrors volume (p ∷ history) judge_then next_n q) now_is then_along.holds.mirrors in
        let known_b : MirrorsKnown judge b = mirrors.begun in
        let same = going known_b.known b.session known_b.at (sym mirrors_then.counts.session ∙ begun.0) in
        let base : judge_then.now.base ≡ b.seq = ap (λ (q : Session). q.base) same.1 ∙ known_b.base in
        let now_last : d.last ≡ last_number judge_then = mirrors_then.counts.last in
        let last : d.last ≡ b.seq = begun.1 in
        let within : part.s ≤ last_number judge_then = part.within in
        let above : judge_then.now.base < part.s = part.own in
        absurd (omega (arith, base, now_last, last, within, above))

    opens_then : (q : state.Client) → c ≡ q → (d : state.Serving) → answer.client ≡ state.Serves d → Opens q (state.Serves d)
    opens_then q is d now_is =
        subst (λ (y : state.Client). Opens q y) now_is
        (subst (λ (y : state.Client). Opens y answer.client) is
        (tells volume events posts trace limits strings none unlied name sound right inside listed done history n top c known a on t rest given calm).opens)

    serving_by : (q : state.Client) → c ≡ q → (d : state.Serving) → answer.client ≡ state.Serves d → AllSent judge_then (state.Serves d) t.sent
    serving_by (state.Serves s0) is d now_is = serves_parts s0 is d now_is
    serving_by (state.Switches b) is d now_is = begun_parts b is d now_is (opens_then (state.Switches b) is d now_is)
    serving_by state.Closed is d now_is = absurd (opens_then state.Closed is d now_is)
    serving_by (state.Gathers q) is d now_is = absurd (opens_then (state.Gathers q) is d now_is)
    serving_by (state.Fetches q) is d now_is = absurd (opens_then (state.Fetches q) is d now_is)
    serving_by (state.Stages q) is d now_is = absurd (opens_then (state.Stages q) is d now_is)

    parts_by : (d : state.Client) → answer.client ≡ d → AllSent judge_then d t.sent
    parts_by (state.Serves d) now_is = serving_by c refl d now_is
    parts_by state.Closed now_is = tt
    parts_by (state.Gathers d) now_is = tt
    parts_by (state.Fetches d) now_is = tt
    parts_by (state.Stages d) now_is = tt
    parts_by (state.Switches d) now_is = tt

    -- So it holds after the step.
    pub coming_then : IsComing (done ++ t ∷ []) (p ∷ history) answer.client next
    coming_then = record {
      order = reverse-append (t ∷ []) earlier ∙ ap (λ (l : List TraceStep). l ++ t ∷ []) i.order;
      long = lines_long shape events limits.events p.lines judge i.long;
      countable = countable_then;
      later = later_then;
      parts = parts_by answer.client refl;
      counted = λ k is. le_trans (taken_low k is) well.0.more;
      come = come_then;
    }

  -- ---- along the run

  abbrev start : KnownNode
  start = fresh volume.geometry name.region (formatted volume name)

  -- at first nothing was posted
  pub first_coming : IsComing [] [] (new_client volume.geometry) start
  unfolding was_taken
  first_coming = record {
    order = refl;
    long = (tt, tt);
    countable = start_countable volume events limits;
    later = λ k low post posted from rec reads. (let some : 0 < k = at_counted posts k post posted in absurd (omega (arith, some, low)));
    parts = λ rec part. (let above : 0 < part.s = part.own in let within : part.s ≤ 0 = part.within in absurd (omega (arith, above, within)));
    counted = λ k is. absurd (false≢true is);
    come = λ known_k at m there k is post posted from to rec reads part. absurd (false≢true is);
  }

  -- at the end of these steps
  pub record IsEnd (done : List TraceStep) (history : List Past) : Type 0 where
    pub n : ℕ
    pub top : ℕ
    pub c : state.Client
    pub known : KnownNode
    pub before : Before done history n top c known
    pub on : On history top c known
    pub coming : IsComing done history c known

  calm_rest : (t : TraceStep) (old rest : List TraceStep) → CalmFrom events old (t ∷ rest) → CalmFrom events (t ∷ old) rest
  unfolding CalmFrom
  calm_rest t old rest calm = calm.1

  pub end_of : (more rest done : List TraceStep) (history : List Past) (n top : ℕ) (c : state.Client) (known : KnownNode) → Before done history n top c known → On history top c known → IsComing done history c known
      → Given history n (top + 1) c known done (more ++ rest) → CalmFrom events (steps_in history) (more ++ rest) → IsEnd (done ++ more) (history_from volume events posts history more)
  unfolding history_from
  end_of [] rest done history n top c known before on coming given calm =
      subst (λ (l : List TraceStep). IsEnd l history) (sym (append-nil done)) (record { n = n; top = top; c = c; known = known; before = before; on = on; coming = coming })
  end_of (t ∷ more) rest done history n top c known before on coming given calm =
      subst (λ (l : List TraceStep). IsEnd l (history_from volume events posts (past_of volume events posts history t ∷ history) more)) (append_assoc done (t ∷ []) more)
      (end_of more rest (done ++ t ∷ []) (past_of volume events posts history t ∷ history) _ _ _ _
      (asked.along_then volume events posts trace limits strings none unlied name sound right done history n top c known before t (more ++ rest) given)
      (on_then volume events posts trace limits strings none unlied name sound right inside listed done history n top c known before on t (more ++ rest) given calm)
      (coming_then done history n top c known before on coming t (more ++ rest) given calm)
      (asked.given_then volume events posts trace limits strings none unlied name sound right done history n top c known before t (more ++ rest) given)
      (calm_rest t (steps_in history) (more ++ rest) calm))
