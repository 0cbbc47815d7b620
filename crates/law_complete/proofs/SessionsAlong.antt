-- Along a run: a sound node has begun the session that it has.
use Rattle.std.proofs.Common.{◌≡◌, ◌∙◌, inl, inr, ℕ, ◌+◌, ◌<◌, ◌≤◌, Bool, true, false, if◌then◌else◌, List, [], ◌∷◌, ◌++◌, Option, None, Some, refl, sym, ap, subst, arith, append_assoc, append-nil}
use Rattle.std.specs.Prelude.{option_map, Ok}
use Rattle.std.specs.Option.{option_map_or}
use Rattle.std.proofs.lemmas.Bool.{true≢false, cases_lt}
use Rattle.std.proofs.lemmas.Option.{same_Some}
use Rattle.salus_types.specs.Volume.{Shape}
use Rattle.salus_types.specs.declared.names.NodeName.{NodeName}
use Rattle.salus_types.specs.declared.names.Sender.{Sender}
use Rattle.salus_types.specs.declared.names.Sender.TheVariants as sender
use Rattle.salus_types.specs.declared.records.Record.{Record}
use Rattle.salus_types.specs.declared.records.Base.{Base}
use Rattle.salus_message.specs.declared.carried.Stage.{Stage}
use Rattle.salus_message.specs.declared.wire.Message.{Message}
use Rattle.salus_message.specs.Reading.{message_at}
use Rattle.schedule_text.proofs.Decided.{same_ok}
use Rattle.holding_model.specs.Fitting.{has_content}
use Rattle.salus_message.specs.declared.wire.Message.TheVariants as message
use Rattle.schedule_text.specs.Limits.{IsOfVolume, IsWithinLimits}
use Rattle.schedule_text.specs.declared.schedule.Volume.{Volume}
use Rattle.schedule_text.specs.declared.schedule.Event.{Event}
use Rattle.merkle_region.specs.Tree.{IsAmong, NoTwoCollide}
use Rattle.merkle_region.proofs.Membership.{among_either}
use Rattle.volume_model.specs.Groups.{is_client, same_party}
use Rattle.volume_model.specs.Parts.{Session}
use Rattle.salus_model.specs.declared.trace.TraceStep.{TraceStep}
use Rattle.salus_model.specs.Judge.{Judge, known_at}
use Rattle.salus_model.specs.declared.trace.Handed.{Handed}
use Rattle.salus_model.specs.declared.trace.Handed.TheVariants as handed
use Rattle.salus_model.specs.Following.{Posted, posted_at, sent_by}
use Rattle.salus_model.specs.Forgery.{IsTagged, IsPartOf}
use Rattle.salus_model.specs.Guarding.{is_lied_for}
use Rattle.salus_model.specs.Hearing.{News, Silence, Past, news_in, news_of, judge_of}
use Rattle.salus_model.specs.Due.{past_of}
use Rattle.salus_model.specs.Complete.{IsSound}
use Rattle.client_rules.specs.State as state
use Rattle.client_rules.specs.State.{Told}
use Rattle.client_rules.specs.Opening.{base_record}
use Rattle.client_rules.specs.Rules.{told, ticked, is_tick, client_step}
use Rattle.replica_rules.specs.Leading.{new_leader}
use Rattle.replica_rules.specs.Nodes.{Memory, NodeState, begun_with}
use Rattle.replica_rules.specs.Rules.{Input, Receives, Ticks, planned, handled}
use Rattle.run_rules.specs.Calm.{CalmFrom, MayFail}
use Rattle.run_rules.specs.Knowing.{KnownNode, fresh, input_of_post, input_of, known_to}
use Rattle.run_rules.specs.Running as running
use Rattle.run_rules.specs.Running.{addresses, after, known_of, formatted, IsNodeStep, AllSteps}
use Rattle.list_lemmas.proofs.Each.{OfSome}
use Rattle.list_lemmas.proofs.Members.{among_all}
use Rattle.list_lemmas.proofs.Tests.{by_bool, way_with}
use Rattle.law_lemmas.proofs.Growing.{Grows, extended, tagged-grows}
use Rattle.law_lemmas.proofs.Named.{one-node}
use Rattle.law_lemmas.proofs.Numbered.{IsSized}
use Rattle.law_lemmas.proofs.Settled.{EachKnown}
use Rattle.law_history.specs.Handing.{steps_in}
use Rattle.law_history.proofs.Chosen.{HasContents}
use Rattle.law_answers.specs.Turning.{IsInTurn, BringsPart}
use Rattle.law_reads.specs.Chained.{IsViewOf}
use Rattle.law_reads.proofs.Sound.{calm_step, unloaded_step}
use Rattle.law_claimed.specs.Handling.{after_all, StaysAlong}
use Rattle.law_records.proofs.Content.{part-content}
use Rattle.law_asked.proofs.Kept.{IsHandedOver}
use Rattle.law_asked.proofs.Along as asked
use Rattle.law_served.proofs.Bases.{IsRightBase}
use Rattle.law_served.proofs.Client.{StagedBy, IsSentBy, AllSentBy, ticked_sent}
use Rattle.law_served.proofs.Extending.{turn_on, base-number}
use Rattle.law_served.proofs.Node.{Stands, InputFits, Steps, steps}
use Rattle.law_served.proofs.Along as served
use Rattle.law_served.proofs.Fronts.{node_listed}
use Rattle.law_complete.specs.Beginning.{as_list, input_at, inputs_in, node_after}
use Rattle.law_complete.proofs.Since.{known_more, inputs_more, before_last, after_more, stays_more, handles}
use Rattle.law_complete.proofs.Plain.{IsPlain, LaterPlain, BringsPlain, later_then}
use Rattle.law_complete.proofs.Switching.{none_some, IsSwitching, switch_brought, new_leader_then, BeginsFrom, begins_from, switched_session}

-- ---- where a session is begun

-- the node has a known session in memory, in its turn, with a new leader
pub record IsStart (shape : Shape) (key : List ℕ) (judge : Judge) (g : ℕ) (node : NodeState) : Type 0 where
  pub before : Memory
  pub there : node.memory ≡ Some before
  pub session : before.replica.session ≡ node.held.session
  pub known : Session
  pub at : known_at judge node.held.session ≡ Some known
  pub turn : IsInTurn (IsPartOf shape key known g) (IsViewOf shape known g) before.replica
  pub leader : before.leader ≡ new_leader before.replica.view.number []
  pub number : before.replica.view.number ≡ known.base
  pub parts : before.parts ≡ []
  pub begun : before.begun ≡ Some known.base

start_more : (shape : Shape) (key : List ℕ) (before now : Judge) → EachKnown before (IsSized shape) → Grows before now → (g : ℕ) (node : NodeState) → IsStart shape key before g node → IsStart shape key now g node
start_more shape key before now sized grows g node s =
    let found = grows s.known node.held.session s.at in
    record {
      before = s.before;
      there = s.there;
      session = s.session;
      known = extended s.known found.0;
      at = found.1;
      turn = turn_on shape key g s.known (sized s.known node.held.session s.at) found.0 s.before.replica s.turn;
      leader = s.leader;
      number = s.number;
      parts = s.parts;
      begun = s.begun;
    }

start_of : (shape : Shape) (key : List ℕ) (judge : Judge) (g : ℕ) (node : NodeState) (s : Stands shape key judge g node.held node.memory) → s.m.leader ≡ new_leader s.m.replica.view.number [] → s.m.replica.view.number ≡ s.known.base
    → s.m.parts ≡ [] → s.m.begun ≡ Some s.known.base → IsStart shape key judge g node
start_of shape key judge g node s new number parts begun =
    record { before = s.m; there = s.there; session = s.session; known = s.known; at = s.at; turn = s.turn; leader = new; number = number; parts = parts; begun = begun }

-- a base without writes tells with which number its session begins
pub tells_begun : (base : Base) → IsPlain base.rec → begun_with base ≡ Some base.rec.header.seq
tells_begun base plain = ap (λ (t : Bool). if t then None else Some base.rec.header.seq) plain

-- a right base without writes has the number with which its session starts
plain_number : (shape : Shape) (key : List ℕ) (judge : Judge) (g : ℕ) (base : Base) (right : IsRightBase shape key judge g base) → IsPlain base.rec → base.rec.header.seq ≡ right.known.base
plain_number shape key judge g base right plain = elim right.own [
  | inl part ↦ absurd (true≢false (sym (part-content shape key right.known g base.rec part) ∙ plain))
  | inr own ↦ ap (λ (r : Record). r.header.seq) own.is ∙ base-number shape key g right.known
]

-- a base that a client stages is without writes
staged_plain : (volume : Volume) (c : state.Client) (m : Stage) → StagedBy volume c m → IsPlain m.base.rec
unfolding base_record
staged_plain volume (state.Stages b) m sent = ap (λ (r : Record). has_content r.writes r.run) sent.rec
staged_plain volume state.Closed m sent = absurd sent
staged_plain volume (state.Serves s) m sent = absurd sent
staged_plain volume (state.Gathers g) m sent = absurd sent
staged_plain volume (state.Fetches f) m sent = absurd sent
staged_plain volume (state.Switches b) m sent = absurd sent

tick_silent : (posts : List Posted) (what : Handed) → is_tick what ≡ true → news_in posts what ≡ Silence
tick_silent posts handed.Tick is = refl
tick_silent posts (handed.Asked r) is = absurd (cc)
tick_silent posts (handed.Deliver k) is = absurd (cc)
tick_silent posts (handed.Stop k) is = absurd (cc)
tick_silent posts (handed.Lie from bytes) is = absurd (cc)
tick_silent posts handed.Crash is = absurd (cc)
tick_silent posts handed.Replace is = absurd (cc)
tick_silent posts handed.ClientCrash is = absurd (cc)

same_when_silent : (volume : Volume) (c : state.Client) (v : ℕ) (x : News) → x ≡ Silence → (told volume c v x).client ≡ c
unfolding told
same_when_silent volume c v x silent = ap (λ (y : News). (told volume c v y).client) silent

one_only : (other input : Input) → IsAmong other (input ∷ []) → other ≡ input
one_only other input (inl same) = same
one_only other input (inr nothing) = absurd nothing

-- ---- along a run

module _ (volume : Volume) (events : List Event) (posts : List Posted) (trace : List TraceStep) (limits : IsWithinLimits (record { volume = volume; events = events })) (strings : List (List ℕ)) (none : NoTwoCollide strings)
    (unlied : is_lied_for events sender.Client ≡ false) (name : NodeName) (sound : IsSound events trace name)
    (right : AllSteps volume.geometry posts name (fresh volume.geometry name.region (formatted volume name)) 0 trace) (inside : IsOfVolume volume.geometry name) where
  abbrev shape : Shape
  shape = volume.geometry

  abbrev start : KnownNode
  start = fresh volume.geometry name.region (formatted volume name)

  abbrev judge_here : List Past → Judge
  judge_here history = judge_of volume.geometry events history

  abbrev pub Before : List TraceStep → List Past → ℕ → ℕ → state.Client → KnownNode → Type 0
  Before done history n top c known = asked.IsAlong volume events posts trace limits strings none unlied name sound right done history n top c known

  abbrev pub Given : List Past → ℕ → ℕ → state.Client → KnownNode → List TraceStep → List TraceStep → Type 0
  Given history n m c known done rest = asked.AreGiven volume events posts trace limits strings none unlied name sound right history n m c known done rest

  abbrev pub On : List Past → ℕ → state.Client → KnownNode → Type 0
  On history top c known = served.IsOn volume events posts trace limits strings none unlied name sound right inside (node_listed volume.geometry name inside) history top c known

  abbrev IsTaggedIn : Judge → List Input → Type 0
  IsTaggedIn judge inputs = (input : Input) → IsAmong input inputs → (rec : Record) → BringsPart input rec → IsTagged shape volume.key judge rec

  -- each base that the client has staged is without writes
  abbrev StagesPlain : ℕ → Type 0
  StagesPlain sent =
      (k : ℕ) → 0 < k → k ≤ sent → (post : Posted) → posted_at posts k ≡ Some post → post.from ≡ sender.Client → (m : Stage) → message_at post.bytes ≡ Ok (message.Stage m) → IsPlain m.base.rec

  -- the node began its session after the first steps, and has handled these inputs since
  pub record Begun (judge : Judge) (sent : ℕ) (done : List TraceStep) (node : NodeState) : Type 0 where
    pub first : List TraceStep
    pub since : List TraceStep
    pub whole : done ≡ first ++ since
    pub start : IsStart shape volume.key judge name.region (node_after volume posts name first)
    pub same : (node_after volume posts name first).held.session ≡ node.held.session
    pub below : (xs ys : List TraceStep) (u : TraceStep) → done ≡ xs ++ u ∷ ys → (node_after volume posts name xs).held.session ≤ node.held.session
    pub low : (xs ys : List TraceStep) (u : TraceStep) → first ≡ xs ++ u ∷ ys → (node_after volume posts name xs).held.session < node.held.session
    pub inputs : List Input
    pub are : inputs ≡ inputs_in posts name since
    pub tagged : IsTaggedIn judge inputs
    pub stays : StaysAlong shape name.region (node_after volume posts name first) inputs
    pub now : after_all shape name.region (node_after volume posts name first) inputs ≡ node
    pub plain : LaterPlain node.held
    pub stages : StagesPlain sent

  module _ (done : List TraceStep) (history : List Past) (n top : ℕ) (c : state.Client) (known : KnownNode) (a : Before done history n top c known) (on : On history top c known) (t : TraceStep) (rest : List TraceStep)
      (given : Given history n (top + 1) c known done (t ∷ rest)) (calm : CalmFrom events (steps_in history) (t ∷ rest)) (b : Begun (judge_here history) (sent_by (steps_in history)) done known.state) where
    abbrev judge : Judge
    judge = judge_here history

    abbrev judge_then : Judge
    judge_then = judge_here (past_of volume events posts history t ∷ history)

    abbrev next : KnownNode
    next = after shape posts name known t

    sized : EachKnown judge (IsSized shape)
    sized = a.standing.settled.sized

    grows : Grows judge judge_then
    grows = asked.grows volume events posts trace limits strings none unlied name sound right done history n top c known a t rest given

    node_here : running.IsStepOf (addresses name t) shape posts name known (sent_by (steps_in history)) t × AllSteps shape posts name (after shape posts name known t) t.sent rest
    node_here = asked.node_here volume events posts trace limits strings none unlied name sound right done history n top c known a t rest given

    calm_here : (t.failed ≡ true → MayFail events (steps_in history) t) × CalmFrom events (t ∷ steps_in history) rest
    unfolding CalmFrom
    calm_here = calm

    -- ---- the node after the step

    is_mine : (w : Sender) → same_party w (sender.Node name) ≡ true → w ≡ sender.Node name
    is_mine sender.Client hit = absurd (true≢false (sym hit))
    is_mine (sender.Node other) hit = ap (λ (k : NodeName). sender.Node k) (one-node other name hit)

    mine_then : addresses name t ≡ true → next.state ≡ option_map_or (λ input. (handled shape name.region known.state input).node) (input_of posts t.handed) known.state
    mine_then mine =
        let party : t.party ≡ sender.Node name = is_mine t.party mine in
        let step : IsNodeStep shape posts name known (sent_by (steps_in history)) t = subst (λ (w : Bool). running.IsStepOf w shape posts name known (sent_by (steps_in history)) t) mine node_here.0 in
        ap (λ (w : Bool). (if w then known_to shape name.region posts known t.handed t.failed t.loaded else known).state) mine
        ∙ handles shape name.region posts known t.handed t.failed t.loaded on.speaks
        (calm_step events posts trace name sound (steps_in history) t (given.inside t (inl refl)) party calm_here.0)
        (unloaded_step events posts trace name sound shape known (sent_by (steps_in history)) t (given.inside t (inl refl)) party given.of.0 step)

    next_state : next.state ≡ option_map_or (λ input. (handled shape name.region known.state input).node) (input_at posts name t) known.state
    next_state =
        by_bool (addresses name t) (next.state ≡ option_map_or (λ input. (handled shape name.region known.state input).node) (input_at posts name t) known.state)
        (λ mine. mine_then mine ∙ ap (λ (w : Bool). option_map_or (λ input. (handled shape name.region known.state input).node) (if w then input_of posts t.handed else None) known.state) (sym mine))
        (λ away. ap (λ (w : Bool). (if w then known_to shape name.region posts known t.handed t.failed t.loaded else known).state) away
        ∙ ap (λ (w : Bool). option_map_or (λ input. (handled shape name.region known.state input).node) (if w then input_of posts t.handed else None) known.state) (sym away))

    -- ---- what is handed to it

    abbrev InputOk : Input → Type 0
    InputOk i = served.InputOk volume events posts trace limits strings none unlied name sound right inside (node_listed volume.geometry name inside) done history n top c known a on t rest given calm i

    handed_here : (input : Input) → input_at posts name t ≡ Some input → input_of posts t.handed ≡ Some input
    handed_here input is =
        by_bool (addresses name t) (input_of posts t.handed ≡ Some input)
        (λ mine. ap (λ (w : Bool). if w then input_of posts t.handed else None) (sym mine) ∙ is)
        (λ away. absurd (none_some input (ap (λ (w : Bool). if w then input_of posts t.handed else None) (sym away) ∙ is)))

    input_fits : (input : Input) → input_at posts name t ≡ Some input → InputFits shape volume.key judge input
    input_fits input is =
        let ok : InputOk input = subst (λ (o : Option Input). OfSome InputOk o) (handed_here input is)
        (served.input_ok volume events posts trace limits strings none unlied name sound right inside (node_listed volume.geometry name inside) done history n top c known a on t rest given calm t.handed
        (asked.over volume events posts trace limits strings none unlied name sound right done history n top c known a t rest given)) in
        ok.0

    tagged_by : (input : Input) → InputFits shape volume.key judge input → (rec : Record) → BringsPart input rec → IsTagged shape volume.key judge rec
    tagged_by (Receives sender.Client bytes) fits rec brings = fits (message.Part (record { rec = rec })) brings
    tagged_by (Receives (sender.Node other) bytes) fits rec none = absurd none
    tagged_by Ticks fits rec none = absurd none

    tagged_more : IsTaggedIn judge b.inputs → IsTaggedIn judge_then b.inputs
    tagged_more tagged input among rec brings = tagged-grows shape volume.key judge judge_then rec sized grows (tagged input among rec brings)

    -- ---- what the client stages

    abbrev answer : Told
    answer = told volume c t.event (news_of posts t)

    outs_by : AllSentBy volume answer.client (client_step volume posts c t).outs
    outs_by =
        way_with (is_client t.party) (if is_tick t.handed then ticked volume.geometry c else answer.outs) [] (λ l. AllSentBy volume answer.client l)
        (λ mine. way_with (is_tick t.handed) (ticked volume.geometry c) answer.outs (λ l. AllSentBy volume answer.client l)
        (λ tick.
        let silent : news_of posts t ≡ Silence = ap (λ (w : Bool). if w then news_in posts t.handed else Silence) mine ∙ tick_silent posts t.handed tick in
        subst (λ (d : state.Client). AllSentBy volume d (ticked volume.geometry c)) (sym (same_when_silent volume c t.event (news_of posts t) silent)) (ticked_sent volume c on.bases))
        (λ _. (served.tells volume events posts trace limits strings none unlied name sound right inside (node_listed volume.geometry name inside) done history n top c known a on t rest given calm).sends))
        (λ _. tt)

    stages_then : StagesPlain t.sent
    stages_then k counted low post at from m reads = elim (cases_lt (sent_by (steps_in history)) k) [
      | inl above ↦
          let l = asked.letter_of volume events posts trace limits strings none unlied name sound right done history n top c known a t rest given k above low post at from in
          let same : l.l.message ≡ message.Stage m = same_ok l.l.message (message.Stage m) (sym l.reads ∙ reads) in
          staged_plain volume answer.client m
          (subst (λ (x : Message). IsSentBy volume answer.client x) same (among_all (λ (x : state.Letter). IsSentBy volume answer.client x.message) (client_step volume posts c t).outs l.l l.among outs_by))
      | inr within ↦ b.stages k counted within post at from m reads
    ]

    post_plain : (k : ℕ) → 0 < k → k ≤ sent_by (steps_in history) → (post : Posted) → posted_at posts k ≡ Some post → (from : Sender) → post.from ≡ from → BringsPlain (Receives from post.bytes)
    post_plain k counted low post at sender.Client from = λ m reads. b.stages k counted low post at from m reads
    post_plain k counted low post at (sender.Node other) from = tt

    option_plain : (k : ℕ) → 0 < k → k ≤ sent_by (steps_in history) → (o : Option Posted) → posted_at posts k ≡ o → OfSome BringsPlain (option_map (λ m. input_of_post m) o)
    option_plain k counted low None at = tt
    option_plain k counted low (Some post) at = post_plain k counted low post at post.from refl

    lie_plain : (from : Sender) (bytes : List ℕ) → is_lied_for events from ≡ true → BringsPlain (Receives from bytes)
    lie_plain sender.Client bytes lied = absurd (true≢false (sym lied ∙ unlied))
    lie_plain (sender.Node other) bytes lied = tt

    input_plain : (what : Handed) → IsHandedOver events (sent_by (steps_in history)) what → OfSome BringsPlain (input_of posts what)
    input_plain (handed.Deliver k) over = option_plain k over.0 over.1 (posted_at posts k) refl
    input_plain (handed.Stop k) over = option_plain k over.0 over.1 (posted_at posts k) refl
    input_plain (handed.Lie from bytes) over = lie_plain from bytes over
    input_plain handed.Tick over = tt
    input_plain handed.Crash over = tt
    input_plain handed.Replace over = tt
    input_plain (handed.Asked r) over = tt
    input_plain handed.ClientCrash over = tt

    brings_plain : (input : Input) → input_at posts name t ≡ Some input → BringsPlain input
    brings_plain input is =
        subst (λ (o : Option Input). OfSome BringsPlain o) (handed_here input is)
        (input_plain t.handed (asked.over volume events posts trace limits strings none unlied name sound right done history n top c known a t rest given))

    -- ---- it stays in its session

    since_more : done ++ t ∷ [] ≡ b.first ++ (b.since ++ t ∷ [])
    since_more = ap (λ (l : List TraceStep). l ++ t ∷ []) b.whole ∙ append_assoc b.first b.since (t ∷ [])

    are_more : b.inputs ++ as_list (input_at posts name t) ≡ inputs_in posts name (b.since ++ t ∷ [])
    are_more = ap (λ (l : List Input). l ++ as_list (input_at posts name t)) b.are ∙ sym (inputs_more posts name b.since t)

    is_here : node_after volume posts name done ≡ known.state
    is_here = ap (λ (k : KnownNode). k.state) a.known_is

    -- its session falls nowhere before
    below_more : (e : ℕ) → known.state.held.session ≤ e → (xs ys : List TraceStep) (u : TraceStep) → done ++ t ∷ [] ≡ xs ++ u ∷ ys → (node_after volume posts name xs).held.session ≤ e
    below_more e up =
        before_last (λ xs. (node_after volume posts name xs).held.session ≤ e) done t (subst (λ (k : NodeState). k.held.session ≤ e) (sym is_here) up)
        (λ xs ys u same. (let low : (node_after volume posts name xs).held.session ≤ known.state.held.session = b.below xs ys u same in omega (arith, low, up)))

    low_more : (e : ℕ) → known.state.held.session < e → (xs ys : List TraceStep) (u : TraceStep) → done ++ t ∷ [] ≡ xs ++ u ∷ ys → (node_after volume posts name xs).held.session < e
    low_more e up =
        before_last (λ xs. (node_after volume posts name xs).held.session < e) done t (subst (λ (k : NodeState). k.held.session < e) (sym is_here) up)
        (λ xs ys u same. (let low : (node_after volume posts name xs).held.session ≤ known.state.held.session = b.below xs ys u same in omega (arith, low, up)))

    still : input_at posts name t ≡ None → Begun judge_then t.sent (done ++ t ∷ []) known.state
    still is = record {
      first = b.first;
      since = b.since ++ t ∷ [];
      whole = since_more;
      start = start_more shape volume.key judge judge_then sized grows name.region (node_after volume posts name b.first) b.start;
      same = b.same;
      below = below_more known.state.held.session (omega arith);
      low = b.low;
      inputs = b.inputs;
      are = sym (append-nil b.inputs) ∙ (ap (λ (o : Option Input). b.inputs ++ as_list o) (sym is) ∙ are_more);
      tagged = tagged_more b.tagged;
      stays = b.stays;
      now = b.now;
      plain = b.plain;
      stages = stages_then;
    }

    module _ (input : Input) (is : input_at posts name t ≡ Some input) where
      abbrev then_node : NodeState
      then_node = (handled shape name.region known.state input).node

      fits : InputFits shape volume.key judge input
      fits = input_fits input is

      plain_then : LaterPlain then_node.held
      plain_then = later_then shape name.region known.state input (brings_plain input is) b.plain

      tagged_then : IsTaggedIn judge_then (b.inputs ++ input ∷ [])
      tagged_then other among rec brings = elim (among_either other b.inputs (input ∷ []) among) [
        | inl old ↦ tagged_more b.tagged other old rec brings
        | inr new ↦ tagged-grows shape volume.key judge judge_then rec sized grows (tagged_by input fits rec (subst (λ (i : Input). BringsPart i rec) (one_only other input new) brings))
      ]

      goes_on : then_node.held.session ≡ known.state.held.session → Begun judge_then t.sent (done ++ t ∷ []) then_node
      goes_on same = record {
        first = b.first;
        since = b.since ++ t ∷ [];
        whole = since_more;
        start = start_more shape volume.key judge judge_then sized grows name.region (node_after volume posts name b.first) b.start;
        same = b.same ∙ sym same;
        below = below_more then_node.held.session (omega (arith, same));
        low = λ xs ys u is. subst (λ (e : ℕ). (node_after volume posts name xs).held.session < e) (sym same) (b.low xs ys u is);
        inputs = b.inputs ++ input ∷ [];
        are = ap (λ (o : Option Input). b.inputs ++ as_list o) (sym is) ∙ are_more;
        tagged = tagged_then;
        stays = stays_more shape name.region (node_after volume posts name b.first) b.inputs input b.stays
            (subst (λ (k : NodeState). (handled shape name.region k input).node.held.session ≡ k.held.session) (sym b.now) same);
        now = after_more shape name.region (node_after volume posts name b.first) b.inputs input ∙ ap (λ (k : NodeState). (handled shape name.region k input).node) b.now;
        plain = plain_then;
        stages = stages_then;
      }

      -- ---- it switches

      contents : EachKnown judge (HasContents shape strings)
      contents = served.contents_seen volume events posts trace limits strings none unlied name sound right inside (node_listed volume.geometry name inside) done history n top c known a on t rest given calm

      stepped : Steps shape volume.key judge sized strings none contents name.region inside.0 known.state on.stands input
      stepped = steps shape volume.key judge sized strings none contents name.region inside.0 known.state on.stands input fits

      node_is : node_after volume posts name (done ++ t ∷ []) ≡ then_node
      node_is =
          ap (λ (k : KnownNode). k.state) (known_more shape posts name start done t ∙ ap (λ (k : KnownNode). after shape posts name k t) a.known_is)
          ∙ (next_state ∙ ap (λ (o : Option Input). option_map_or (λ input. (handled shape name.region known.state input).node) o known.state) is)

      anew : IsStart shape volume.key judge_then name.region then_node → known.state.held.session < then_node.held.session → Begun judge_then t.sent (done ++ t ∷ []) then_node
      unfolding after_all StaysAlong inputs_in
      anew at up = record {
        first = done ++ t ∷ [];
        since = [];
        whole = sym (append-nil (done ++ t ∷ []));
        start = subst (λ (k : NodeState). IsStart shape volume.key judge_then name.region k) (sym node_is) at;
        same = ap (λ (k : NodeState). k.held.session) node_is;
        below = below_more then_node.held.session (omega (arith, up));
        low = low_more then_node.held.session up;
        inputs = [];
        are = refl;
        tagged = λ input among rec brings. absurd among;
        stays = tt;
        now = node_is;
        plain = plain_then;
        stages = stages_then;
      }

      module _ (w : IsSwitching shape name.region known.state (planned shape name.region known.state input)) where
        abbrev e_is : then_node.held.session ≡ w.e
        e_is = switched_session shape name.region known.state input w

        from : BeginsFrom shape name.region known.state stepped.stands.m w.e
        from = begins_from shape name.region known.state input w on.stands.later.parts stepped.stands.m stepped.stands.there

        over : known.state.held.session < from.base.rec.header.session
        over = (let is_e : from.base.rec.header.session ≡ w.e = from.session in let up : known.state.held.session < w.e = w.up in omega (arith, is_e, up))

        from_plain : IsPlain from.base.rec
        from_plain = b.plain from.base from.among over

        base_then : from.base.rec.header.seq ≡ stepped.stands.known.base
        base_then =
            let right_one : IsRightBase shape volume.key judge name.region from.base = on.stands.later.bases from.base from.among over in
            let same : right_one.known ≡ stepped.stands.known =
            same_Some right_one.known stepped.stands.known (sym right_one.at ∙ (ap (known_at judge) (from.session ∙ sym e_is) ∙ stepped.stands.at)) in
            plain_number shape volume.key judge name.region from.base right_one from_plain ∙ ap (λ (k : Session). k.base) same

        switches : Begun judge_then t.sent (done ++ t ∷ []) then_node
        switches =
            anew (start_more shape volume.key judge judge_then sized grows name.region then_node
            (start_of shape volume.key judge name.region then_node stepped.stands
            (new_leader_then shape name.region known.state input w on.stands.later.parts stepped.stands.m stepped.stands.there) (from.number ∙ base_then) from.parts
            (from.begun ∙ (tells_begun from.base from_plain ∙ ap (λ (n : ℕ). Some n) base_then))))
            (subst (λ (e : ℕ). known.state.held.session < e) (sym e_is) w.up)

      begun_by : Begun judge_then t.sent (done ++ t ∷ []) then_node
      begun_by = elim stepped.session [
        | inl same ↦ goes_on same
        | inr it ↦ elim (switch_brought shape name.region known.state input it.0 it.1) [
          | inl same ↦ goes_on same
          | inr w ↦ switches w
        ]
      ]

    -- So it is after the step.
    pub begun_then : Begun judge_then t.sent (done ++ t ∷ []) next.state
    begun_then = by (input_at posts name t) refl
      where
        by : (o : Option Input) → input_at posts name t ≡ o → Begun judge_then t.sent (done ++ t ∷ []) next.state
        by None is = subst (Begun judge_then t.sent (done ++ t ∷ [])) (sym (next_state ∙ ap (λ (o : Option Input). option_map_or (λ input. (handled shape name.region known.state input).node) o known.state) is)) (still is)
        by (Some input) is =
            subst (Begun judge_then t.sent (done ++ t ∷ [])) (sym (next_state ∙ ap (λ (o : Option Input). option_map_or (λ input. (handled shape name.region known.state input).node) o known.state) is)) (begun_by input is)
