-- Along a run: a sound node has the session that the client serves, in memory, and its replica is in its turn.
use Rattle.std.proofs.Common.{◌≡◌, ◌∙◌, inl, inr, ℕ, ◌+◌, ◌^◌, ◌<◌, ◌≤◌, ◌&&◌, Bool, true, false, not, if◌then◌else◌, List, [], ◌∷◌, ◌++◌, Option, None, Some, refl, sym, ap, subst, arith}
use Rattle.std.specs.Prelude.{IfSome, option_map, Result, Ok}
use Rattle.std.specs.Option.{option_map_or}
use Rattle.std.specs.List.{AllByRecursion, list_any}
use Rattle.std.proofs.lemmas.Bool.{true≢false, false≢true, cases_lt}
use Rattle.salus_types.specs.Volume.{Shape}
use Rattle.salus_types.specs.declared.names.NodeName.{NodeName}
use Rattle.salus_types.specs.declared.names.Sender.{Sender}
use Rattle.salus_types.specs.declared.names.Sender.TheVariants as sender
use Rattle.salus_types.specs.declared.records.Record.{Record}
use Rattle.salus_types.specs.declared.records.Held.{Held}
use Rattle.salus_message.specs.declared.wire.Message.{Message}
use Rattle.salus_message.specs.declared.wire.Message.TheVariants as message
use Rattle.salus_message.specs.declared.wire.MessageError.{MessageError}
use Rattle.salus_message.specs.Reading.{message_at}
use Rattle.salus_message.specs.Ranges.{HasWidths}
use Rattle.salus_message.specs.Spelling.{message_bytes}
use Rattle.salus_message.proofs.MessageLaws.{message_again}
use Rattle.schedule_text.proofs.Decided.{same_ok}
use Rattle.schedule_text.specs.Limits.{IsOfVolume, IsWithinLimits}
use Rattle.schedule_text.specs.declared.schedule.Volume.{Volume}
use Rattle.schedule_text.specs.declared.schedule.Event.{Event}
use Rattle.merkle_region.specs.Tree.{IsAmong, NoTwoCollide}
use Rattle.merkle_region.proofs.Membership.{among_left, among_right}
use Rattle.volume_model.specs.Groups.{is_client, same_node, same_party, all_nodes}
use Rattle.salus_model.specs.declared.trace.Request.TheVariants as request
use Rattle.salus_model.specs.declared.trace.Handed.{Handed}
use Rattle.salus_model.specs.declared.trace.Handed.TheVariants as handed
use Rattle.salus_model.specs.declared.trace.TraceStep.{TraceStep}
use Rattle.salus_model.specs.Judge.{Judge}
use Rattle.salus_model.specs.Following.{Posted, posted_at, sent_by}
use Rattle.salus_model.specs.Forgery.{records_in, records_of}
use Rattle.salus_model.specs.Guarding.{is_lied_for, names_replaced}
use Rattle.salus_model.specs.Hearing.{News, Asks, Says, Crashes, Silence, Past, news_in, news_of, judge_of}
use Rattle.salus_model.specs.Due.{past_of, history_from}
use Rattle.salus_model.specs.Complete.{IsSound}
use Rattle.salus_model.specs.Seen.{known_strings, news_strings, strings_at, strings_of}
use Rattle.client_rules.specs.State as state
use Rattle.client_rules.specs.State.{Letter, Told}
use Rattle.client_rules.specs.Rules.{told, ticked, is_tick, client_step, client_letters, posted_letter}
use Rattle.replica_rules.specs.Nodes.{Memory, NodeState}
use Rattle.replica_rules.specs.Rules.{Sending, Input, Receives, handled}
use Rattle.run_rules.specs.Calm.{CalmFrom}
use Rattle.run_rules.specs.Knowing.{KnownNode, fresh, after_input, outs_of, input_of_post, input_of, outs_to, known_to}
use Rattle.run_rules.specs.Running as running
use Rattle.run_rules.specs.Running.{addresses, after, formatted, posted_by, IsNodeStep, AllSteps}
use Rattle.run_rules.specs.Serving as serving
use Rattle.run_rules.specs.Serving.{IsClientStep, ClientSteps}
use Rattle.list_lemmas.proofs.Each.{all_split, OfSome}
use Rattle.list_lemmas.proofs.Lists.{among_between}
use Rattle.list_lemmas.proofs.Members.{among_all, among_map}
use Rattle.list_lemmas.proofs.Tests.{by_bool, way_with}
use Rattle.law_lemmas.proofs.Growing.{Grows, extended}
use Rattle.law_lemmas.proofs.Named.{node-itself, one-node}
use Rattle.law_lemmas.proofs.Numbered.{IsSized}
use Rattle.law_lemmas.proofs.Owned.{known_among}
use Rattle.law_lemmas.proofs.Settled.{EachKnown}
use Rattle.law_lemmas.proofs.WellSent.{IsWellSent, AreWellSent}
use Rattle.law_lines.specs.Mirrors.{Holds}
use Rattle.law_lines.specs.Ready.{AsksFit, event_after, session_after}
use Rattle.law_lines.proofs.Followed.{AreFit}
use Rattle.law_history.specs.Handing.{records_posted, steps_in}
use Rattle.law_history.proofs.Chosen.{HasContents}
use Rattle.law_history.proofs.Seeing.{has_contents}
use Rattle.law_history.proofs.Shown.{seen_later}
use Rattle.law_handed.specs.Lasting.{Stays}
use Rattle.law_handed.proofs.Staying.{planned_sound}
use Rattle.law_posts.proofs.Along.{top_after}
use Rattle.law_gathered.proofs.Stands.{Within}
use Rattle.law_reads.proofs.Given.{IsSpelled}
use Rattle.law_reads.proofs.Sound.{calm_step, unloaded_step, speaks_then}
use Rattle.law_asked.proofs.Kept.{IsHandedOver}
use Rattle.law_asked.proofs.Said.{IsSaid, step_said}
use Rattle.law_asked.proofs.Along as asked
use Rattle.law_served.proofs.Client.{IsSentBy, AllSentBy, KeepsBases, MaySwitch, HasReached, IsWithin, SaysSwitched, BringsFetched, AsksNew, Tells, told_tells, ticked_sent}
use Rattle.law_served.proofs.Extending.{turn_on}
use Rattle.law_served.proofs.Bases.{right_more}
use Rattle.law_served.proofs.Node.{Stands, InputFits, MessageFits, BringsSwitch, Steps, steps}
use Rattle.law_served.proofs.Posts.{PostFits, AllPostsFit, fits_on, BeginsKnown, letter_fits, fetched_same}
use Rattle.law_served.proofs.Words.{word_read}

-- ---- small facts

tick_silent : (posts : List Posted) (what : Handed) → is_tick what ≡ true → news_in posts what ≡ Silence
tick_silent posts handed.Tick is = refl
tick_silent posts (handed.Asked r) is = absurd (cc)
tick_silent posts (handed.Deliver k) is = absurd (cc)
tick_silent posts (handed.Stop k) is = absurd (cc)
tick_silent posts (handed.Lie from bytes) is = absurd (cc)
tick_silent posts handed.Crash is = absurd (cc)
tick_silent posts handed.Replace is = absurd (cc)
tick_silent posts handed.ClientCrash is = absurd (cc)

same_when_silent : (volume : Volume) (c : state.Client) (v : ℕ) (x : News) → x ≡ Silence → (told volume c v x).client ≡ c
unfolding told
same_when_silent volume c v x silent = ap (λ (y : News). (told volume c v y).client) silent

no_client : (name : NodeName) → sender.Node name ≡ sender.Client → ⊥
no_client name same = false≢true (ap is_client same)

fits_message : (shape : Shape) (key : List ℕ) (judge : Judge) (top : ℕ) (c : state.Client) (x : Message) → PostFits shape key judge top c x → MessageFits shape key judge x
fits_message shape key judge top c (message.Part m) fits = fits
fits_message shape key judge top c (message.Stage m) fits = fits
fits_message shape key judge top c (message.Switch m) fits = tt
fits_message shape key judge top c (message.Prepared m) fits = tt
fits_message shape key judge top c (message.Committed m) fits = tt
fits_message shape key judge top c (message.Ask m) fits = tt
fits_message shape key judge top c (message.Answer m) fits = tt
fits_message shape key judge top c (message.Gather m) fits = tt
fits_message shape key judge top c (message.Gathered m) fits = tt
fits_message shape key judge top c (message.Staged m) fits = tt
fits_message shape key judge top c (message.Switched m) fits = tt
fits_message shape key judge top c (message.Dump m) fits = tt
fits_message shape key judge top c (message.Dumped m) fits = tt

-- what a node stands by, as more is known
stands_more : (shape : Shape) (key : List ℕ) (before now : Judge) → EachKnown before (IsSized shape) → Grows before now → (g : ℕ) (held : Held) (memory : Option Memory) → Stands shape key before g held memory
    → Stands shape key now g held memory
stands_more shape key before now sized grows g held memory s =
    let found = grows s.known held.session s.at in
    record {
      m = s.m;
      there = s.there;
      session = s.session;
      known = extended s.known found.0;
      at = found.1;
      turn = turn_on shape key g s.known (sized s.known held.session s.at) found.0 s.m.replica s.turn;
      later = record { bases = λ base among up. right_more shape key before now sized grows g base (s.later.bases base among up); parts = s.later.parts };
    }

-- a node that speaks, after a step in which no call fails and nothing is loaded
node_after : (shape : Shape) (g : ℕ) (posts : List Posted) (state : NodeState) (contents : List Held) (silent : Bool) (what : Handed) (failed : Bool) (loaded : Option Held) → silent ≡ false → failed ≡ false → loaded ≡ None
    → let known : KnownNode = record { state = state; silent = silent; contents = contents } in (Q : NodeState → List Sending → Type 0) → Q state [] → ((input : Input) → input_of posts what ≡ Some input → Q (handled shape g state input).node (handled shape g state input).outs)
    → Q (known_to shape g posts known what failed loaded).state (outs_to shape g posts known what failed)
node_after shape g posts s contents silent what failed loaded speaks calm unloaded Q none some =
    subst (λ (l : Option Held). Q (known_to shape g posts (record { state = s; silent = silent; contents = contents }) what failed l).state (outs_to shape g posts (record { state = s; silent = silent; contents = contents }) what failed)) (sym unloaded)
    (subst (λ (f : Bool). Q (known_to shape g posts (record { state = s; silent = silent; contents = contents }) what f None).state (outs_to shape g posts (record { state = s; silent = silent; contents = contents }) what f)) (sym calm)
    (subst (λ (b : Bool). Q (known_to shape g posts (record { state = s; silent = b; contents = contents }) what false None).state (outs_to shape g posts (record { state = s; silent = b; contents = contents }) what false)) (sym speaks)
    (by (input_of posts what) refl)))
  where
    by : (o : Option Input) → input_of posts what ≡ o
        → Q (option_map_or (λ input. after_input shape g (record { state = s; silent = false; contents = contents }) input false) o (record { state = s; silent = false; contents = contents })).state
        (option_map_or (λ input. outs_of shape g (record { state = s; silent = false; contents = contents }) input false) o [])
    by None is = none
    by (Some input) is = some input is

-- ---- along a run

module _ (volume : Volume) (events : List Event) (posts : List Posted) (trace : List TraceStep) (limits : IsWithinLimits (record { volume = volume; events = events })) (strings : List (List ℕ)) (none : NoTwoCollide strings)
    (unlied : is_lied_for events sender.Client ≡ false) (name : NodeName) (sound : IsSound events trace name)
    (right : AllSteps volume.geometry posts name (fresh volume.geometry name.region (formatted volume name)) 0 trace) (inside : IsOfVolume volume.geometry name) (listed : IsAmong name (all_nodes volume.geometry)) where
  abbrev shape : Shape
  shape = volume.geometry

  abbrev judge_here : List Past → Judge
  judge_here history = judge_of volume.geometry events history

  abbrev sent_of : List Past → ℕ
  sent_of history = sent_by (steps_in history)

  abbrev pub Before : List TraceStep → List Past → ℕ → ℕ → state.Client → KnownNode → Type 0
  Before done history n top c known = asked.IsAlong volume events posts trace limits strings none unlied name sound right done history n top c known

  abbrev pub Given : List Past → ℕ → ℕ → state.Client → KnownNode → List TraceStep → List TraceStep → Type 0
  Given history n m c known done rest = asked.AreGiven volume events posts trace limits strings none unlied name sound right history n m c known done rest

  -- what the node said of switches, in the first messages that were sent
  abbrev pub Words : ℕ → ℕ → Type 0
  Words sent s =
      (k : ℕ) → 0 < k → k ≤ sent → (post : Posted) → posted_at posts k ≡ Some post → post.from ≡ sender.Node name → (e : ℕ) → message_at post.bytes ≡ Ok (message.Switched (record { session = e })) → e ≤ s

  pub record IsOn (history : List Past) (top : ℕ) (c : state.Client) (known : KnownNode) : Type 0 where
    pub bases : KeepsBases volume c
    pub posted : AllPostsFit shape volume.key posts (judge_here history) top c (sent_of history)
    pub words : Words (sent_of history) known.state.held.session
    pub reached : HasReached name known.state.held.session c
    pub low : MaySwitch top c known.state.held.session
    pub small : known.state.held.session < 2 ^ 64
    pub speaks : known.silent ≡ false
    pub stands : Stands shape volume.key (judge_here history) name.region known.state.held known.state.memory

  module _ (done : List TraceStep) (history : List Past) (n top : ℕ) (c : state.Client) (known : KnownNode) (a : Before done history n top c known) (on : IsOn history top c known) (t : TraceStep) (rest : List TraceStep)
      (given : Given history n (top + 1) c known done (t ∷ rest)) (calm : CalmFrom events (steps_in history) (t ∷ rest)) where
    abbrev x : News
    x = news_of posts t

    abbrev p : Past
    p = past_of volume events posts history t

    abbrev judge : Judge
    judge = judge_here history

    abbrev judge_then : Judge
    judge_then = judge_here (p ∷ history)

    abbrev sent : ℕ
    sent = sent_of history

    abbrev answer : Told
    answer = told volume c t.event x

    abbrev next : KnownNode
    next = after shape posts name known t

    abbrev next_n : ℕ
    next_n = event_after n t.event x

    abbrev next_top : ℕ
    next_top = top_after top x

    then_along : Before (done ++ t ∷ []) (p ∷ history) next_n next_top answer.client next
    then_along = asked.along_then volume events posts trace limits strings none unlied name sound right done history n top c known a t rest given

    handed_right : IsHandedOver events sent t.handed
    handed_right = asked.over volume events posts trace limits strings none unlied name sound right done history n top c known a t rest given

    sized : EachKnown judge (IsSized shape)
    sized = a.standing.settled.sized

    grows : Grows judge judge_then
    grows = (then_along.standing.reached.each p (inl refl)).before

    fits : AsksFit events n (top + 1) t.event x × AreFit events posts next_n (session_after (top + 1) x) rest
    unfolding AreFit
    fits = given.fit

    node_here : running.IsStepOf (addresses name t) shape posts name known sent t × AllSteps shape posts name (after shape posts name known t) t.sent rest
    unfolding AllSteps
    node_here = given.node

    client_here : serving.IsStepOf (is_client t.party) volume posts c sent t × ClientSteps volume posts (client_step volume posts c t).client t.sent rest
    unfolding ClientSteps
    client_here = given.client

    well_here : IsWellSent posts (steps_in history) t × AreWellSent posts (t ∷ steps_in history) rest
    unfolding AreWellSent
    well_here = given.well

    spelled_here : AllByRecursion IsSpelled (client_step volume posts c t).outs × AllByRecursion IsSpelled (client_letters volume posts (client_step volume posts c t).client rest)
    unfolding client_letters
    spelled_here = all_split IsSpelled (client_step volume posts c t).outs (client_letters volume posts (client_step volume posts c t).client rest) given.spelled

    within_rest : Within (strings_of volume.geometry (history_from volume events posts (p ∷ history) rest)) strings
    unfolding history_from
    within_rest = given.within

    seen_now : (s : List ℕ) → IsAmong s (strings_at shape p) → IsAmong s strings
    unfolding strings_of
    seen_now s among = within_rest s (seen_later volume events posts rest (p ∷ history) s (among_left s (strings_at shape p) (strings_of shape history) among))

    known_seen : (s : List ℕ) → IsAmong s (known_strings shape judge) → IsAmong s strings
    known_seen s among = seen_now s (among_left s (known_strings shape judge) (news_strings shape x) among)

    pub contents_seen : EachKnown judge (HasContents shape strings)
    contents_seen k e at = λ s g y low within among. known_seen y (has_contents shape judge k (known_among judge e k at) s g y low within among)

    posted_own : (k : ℕ) → sent < k → k ≤ t.sent → (post : Posted) → posted_at posts k ≡ Some post → post.from ≡ t.party
    posted_own k above low post at = subst (λ (o : Option Posted). IfSome o (λ q. q.from ≡ t.party)) at (well_here.0.own k above low)

    -- ---- the client

    within_top : (d : state.Client) → Holds volume history judge n (top + 1) d → IsWithin top d
    within_top state.Closed h = tt
    within_top (state.Serves s) h = let young = h.young in let same : s.session ≡ judge.now.session = h.mirrors.counts.session in omega (arith, young, same)
    within_top (state.Gathers g) h = let young = h.young.1 in omega (arith, young)
    within_top (state.Fetches f) h = let young = h.young.1 in omega (arith, young)
    within_top (state.Stages b) h = let young = h.young.1 in omega (arith, young)
    within_top (state.Switches b) h = let young = h.young.1 in omega (arith, young)

    asks_new : (y : News) → AsksFit events n (top + 1) t.event y → AsksNew top y
    asks_new (Asks r) fit = fit.2
    asks_new (Says from m) fit = tt
    asks_new Crashes fit = tt
    asks_new Silence fit = tt

    fetched_now : (d : state.Client) → Holds volume history judge n (top + 1) d → (y : News) → x ≡ y → BringsFetched volume d y
    fetched_now (state.Fetches f) h (Says from (message.Dumped d)) is = λ hit within.
        fetched_same volume judge strings none sized history f from d h.mirrors known_seen
        (λ s among. seen_now s (among_right s (known_strings shape judge) (news_strings shape x) (subst (λ (y : News). IsAmong s (news_strings shape y)) (sym is) among))) hit within
    fetched_now d h y is = tt

    up : top ≤ next_top
    up = rises x fits.0 where
      rises : (y : News) → AsksFit events n (top + 1) t.event y → top ≤ top_after top y
      rises (Asks (request.Write batch)) fit = omega arith
      rises (Asks (request.Read b)) fit = omega arith
      rises (Asks request.Barrier) fit = omega arith
      rises (Asks (request.Restart e)) fit = let low = fit.2 in omega (arith, low)
      rises (Asks (request.Reassign e g)) fit = let low = fit.2 in omega (arith, low)
      rises (Says from m) fit = omega arith
      rises Crashes fit = omega arith
      rises Silence fit = omega arith

    pub tells : Tells volume name top next_top x c answer
    tells = told_tells volume name listed top next_top up c (within_top c a.holds) on.bases t.event x (asks_new x fits.0) (fetched_now c a.holds x refl)

    -- what it sends
    outs_by : AllSentBy volume answer.client (client_step volume posts c t).outs
    outs_by =
        way_with (is_client t.party) (if is_tick t.handed then ticked volume.geometry c else answer.outs) [] (λ l. AllSentBy volume answer.client l)
        (λ mine. way_with (is_tick t.handed) (ticked volume.geometry c) answer.outs (λ l. AllSentBy volume answer.client l)
        (λ tick.
        let silent : x ≡ Silence = ap (λ (w : Bool). if w then news_in posts t.handed else Silence) mine ∙ tick_silent posts t.handed tick in
        subst (λ (d : state.Client). AllSentBy volume d (ticked volume.geometry c)) (sym (same_when_silent volume c t.event x silent)) (ticked_sent volume c on.bases))
        (λ _. tells.sends))
        (λ _. tt)

    begins_known : (d : state.Client) → Holds volume (p ∷ history) judge_then next_n (next_top + 1) d → BeginsKnown volume judge_then d
    begins_known state.Closed h = tt
    begins_known (state.Serves s) h = tt
    begins_known (state.Gathers g) h = tt
    begins_known (state.Fetches f) h = tt
    begins_known (state.Stages b) h = h.mirrors.begun
    begins_known (state.Switches b) h = tt

    client_now : t.party ≡ sender.Client → IsClientStep volume posts c sent t
    client_now party = subst (λ (w : Bool). serving.IsStepOf w volume posts c sent t) (ap is_client party) client_here.0

    new_post : (k : ℕ) → sent < k → 0 < k → k ≤ t.sent → (post : Posted) → posted_at posts k ≡ Some post → post.from ≡ sender.Client → (y : Message) → message_at post.bytes ≡ Ok y
        → PostFits shape volume.key judge_then next_top answer.client y
    new_post k above counted low post at from y reads =
        let step : IsClientStep volume posts c sent t = client_now (sym (posted_own k above low post at) ∙ from) in
        let among = among_between posts sent t.sent k post at above low in
        let l = among_map posted_letter post (client_step volume posts c t).outs (subst (λ (ls : List Posted). IsAmong post ls) step.messages among) in
        let spelled : IsSpelled l.0 = among_all IsSpelled (client_step volume posts c t).outs l.0 l.1 spelled_here.0 in
        let again : message_at (message_bytes l.0.message) ≡ Ok l.0.message = message_again l.0.message spelled.0 spelled.1 in
        let same : l.0.message ≡ y = same_ok l.0.message y (sym again ∙ (ap (λ (m : Posted). message_at m.bytes) (sym l.2) ∙ reads)) in
        let by : IsSentBy volume answer.client l.0.message = among_all (λ (z : Letter). IsSentBy volume answer.client z.message) (client_step volume posts c t).outs l.0 l.1 outs_by in
        letter_fits volume judge_then next_top answer.client (begins_known answer.client then_along.holds) y (subst (λ (m : Message). IsSentBy volume answer.client m) same by)
        (subst (λ (m : Message). HasWidths m) same spelled.1)
        (λ rec is. then_along.posted k counted low rec (posted_record post (message.Part (record { rec = rec })) rec at from (reads ∙ ap (λ (m : Message). Ok m) is) (inl refl)))
      where
        posted_record : (post : Posted) (m : Message) (rec : Record) → posted_at posts k ≡ Some post → post.from ≡ sender.Client → message_at post.bytes ≡ Ok m → IsAmong rec (records_in m) → IsAmong rec (records_posted (posted_at posts k))
        posted_record post m rec at from reads among =
            subst (λ (o : Option Posted). IsAmong rec (records_posted o)) (sym at)
            (subst (λ (w : Sender). IsAmong rec (if is_client w then records_of (message_at post.bytes) else [])) (sym from) (subst (λ (r : Result Message MessageError). IsAmong rec (records_of r)) (sym reads) among))

    posts_now : AllPostsFit shape volume.key posts judge_then next_top answer.client t.sent
    posts_now k counted low post at from y reads = elim (cases_lt sent k) [
      | inl above ↦ new_post k above counted low post at from y reads
      | inr within ↦ fits_on shape volume.key judge judge_then sized grows top next_top c answer.client tells.low y (on.posted k counted within post at from y reads)
    ]

    -- ---- the node

    -- what holds of the node after the step, before the client's part
    record NodeNext (k : KnownNode) : Type 0 where
      rises : known.state.held.session ≤ k.state.held.session
      low : MaySwitch top c k.state.held.session
      small : k.state.held.session < 2 ^ 64
      speaks : k.silent ≡ false
      stands : Stands shape volume.key judge name.region k.state.held k.state.memory
      words : Words t.sent k.state.held.session

    -- it isn't addressed
    away_next : (sender.Node name ≡ t.party → ⊥) → NodeNext known
    away_next away = record {
      rises = omega arith;
      low = on.low;
      small = on.small;
      speaks = on.speaks;
      stands = on.stands;
      words = λ k counted low post at from e reads. elim (cases_lt sent k) [
        | inl above ↦ absurd (away (sym from ∙ posted_own k above low post at))
        | inr within ↦ on.words k counted within post at from e reads
      ];
    }

    -- what an input brings
    abbrev pub InputOk : Input → Type 0
    InputOk input = InputFits shape volume.key judge input × ((e : ℕ) → BringsSwitch input e → MaySwitch top c e × (e < 2 ^ 64))

    post_ok : (k : ℕ) → 0 < k → k ≤ sent → (post : Posted) → posted_at posts k ≡ Some post → (from : Sender) → post.from ≡ from → InputOk (Receives from post.bytes)
    post_ok k counted low post at sender.Client from = (
      λ m reads. fits_message shape volume.key judge top c m (on.posted k counted low post at from m reads),
      λ e reads. on.posted k counted low post at from (message.Switch (record { session = e })) reads,
    )
    post_ok k counted low post at (sender.Node other) from = (tt, λ e none. absurd none)

    option_ok : (k : ℕ) → 0 < k → k ≤ sent → (o : Option Posted) → posted_at posts k ≡ o → OfSome InputOk (option_map (λ m. input_of_post m) o)
    option_ok k counted low None at = tt
    option_ok k counted low (Some post) at = post_ok k counted low post at post.from refl

    lie_ok : (from : Sender) (bytes : List ℕ) → is_lied_for events from ≡ true → InputOk (Receives from bytes)
    lie_ok sender.Client bytes lied = absurd (true≢false (sym lied ∙ unlied))
    lie_ok (sender.Node other) bytes lied = (tt, λ e none. absurd none)

    pub input_ok : (what : Handed) → IsHandedOver events sent what → OfSome InputOk (input_of posts what)
    input_ok (handed.Deliver k) over = option_ok k over.0 over.1 (posted_at posts k) refl
    input_ok (handed.Stop k) over = option_ok k over.0 over.1 (posted_at posts k) refl
    input_ok (handed.Lie from bytes) over = lie_ok from bytes over
    input_ok handed.Tick over = (tt, λ e none. absurd none)
    input_ok handed.Crash over = tt
    input_ok handed.Replace over = tt
    input_ok (handed.Asked r) over = tt
    input_ok handed.ClientCrash over = tt

    -- its state and its messages after the step
    record StateNext (s : NodeState) (outs : List Sending) : Type 0 where
      rises : known.state.held.session ≤ s.held.session
      low : MaySwitch top c s.held.session
      small : s.held.session < 2 ^ 64
      stands : Stands shape volume.key judge name.region s.held s.memory
      said : AllByRecursion (λ (out : Sending). Stays out.message s.held) outs

    still_next : StateNext known.state []
    still_next = record { rises = omega arith; low = on.low; small = on.small; stands = on.stands; said = tt }

    handled_next : (input : Input) → input_of posts t.handed ≡ Some input → StateNext (handled shape name.region known.state input).node (handled shape name.region known.state input).outs
    handled_next input is =
        let ok : InputOk input = subst (λ (o : Option Input). OfSome InputOk o) is (input_ok t.handed handed_right) in
        let done : Steps shape volume.key judge sized strings none contents_seen name.region inside.0 known.state on.stands input =
        steps shape volume.key judge sized strings none contents_seen name.region inside.0 known.state on.stands input ok.0 in
        let s : ℕ = (handled shape name.region known.state input).node.held.session in
        let to : MaySwitch top c s × (s < 2 ^ 64) =
        elim done.session [
          | inl same ↦ (subst (λ (e : ℕ). MaySwitch top c e) (sym same) on.low, subst (λ (e : ℕ). e < 2 ^ 64) (sym same) on.small)
          | inr it ↦ (subst (λ (i : ℕ). MaySwitch top c i) (sym it.2) (ok.1 it.0 it.1).0, subst (λ (i : ℕ). i < 2 ^ 64) (sym it.2) (ok.1 it.0 it.1).1)
        ] in
        record { rises = done.rises; low = to.0; small = to.1; stands = done.stands; said = (planned_sound shape name.region known.state input).stand }

    module _ (party : t.party ≡ sender.Node name) where
      mine : addresses name t ≡ true
      mine = ap (λ (w : Sender). same_party w (sender.Node name)) party ∙ node-itself name

      node_now : IsNodeStep shape posts name known sent t
      node_now = subst (λ (w : Bool). running.IsStepOf w shape posts name known sent t) mine node_here.0

      unloaded : t.loaded ≡ None
      unloaded = unloaded_step events posts trace name sound shape known sent t (given.inside t (inl refl)) party given.of.0 node_now

      pub calm_now : t.failed ≡ false
      unfolding CalmFrom
      calm_now = calm_step events posts trace name sound (steps_in history) t (given.inside t (inl refl)) party calm.0

      abbrev there : KnownNode
      there = known_to shape name.region posts known t.handed t.failed t.loaded

      state_next : StateNext there.state (outs_to shape name.region posts known t.handed t.failed)
      state_next = node_after shape name.region posts known.state known.contents known.silent t.handed t.failed t.loaded on.speaks calm_now unloaded StateNext still_next handled_next

      new_word : (k : ℕ) → sent < k → k ≤ t.sent → (post : Posted) → posted_at posts k ≡ Some post → (e : ℕ) → message_at post.bytes ≡ Ok (message.Switched (record { session = e })) → e ≤ there.state.held.session
      new_word k above low post at e reads =
          let send : Sending → Posted = λ out. record { from = sender.Node name; to = out.to; bytes = message_bytes out.message } in
          let outs : List Sending = outs_to shape name.region posts known t.handed t.failed in
          let found = among_map send post outs (subst (λ (l : List Posted). IsAmong post l) node_now.messages (among_between posts sent t.sent k post at above low)) in
          word_read found.0.message there.state.held state_next.small (among_all (λ (out : Sending). Stays out.message there.state.held) outs found.0 found.1 state_next.said) e
          (ap (λ (m : Posted). message_at m.bytes) (sym found.2) ∙ reads)

      mine_next : NodeNext there
      mine_next = record {
        rises = state_next.rises;
        low = state_next.low;
        small = state_next.small;
        speaks = speaks_then shape posts name.region known t.handed t.failed t.loaded on.speaks calm_now unloaded;
        stands = state_next.stands;
        words = λ k counted low post at from e reads. elim (cases_lt sent k) [
          | inl above ↦ new_word k above low post at e reads
          | inr within ↦ (let old : e ≤ known.state.held.session = on.words k counted within post at from e reads in let up : known.state.held.session ≤ there.state.held.session = state_next.rises in omega (arith, old, up))
        ];
      }

    -- by whom the step addresses
    data PartyOf : Type 0 where
      IsMine : t.party ≡ sender.Node name → next ≡ known_to shape name.region posts known t.handed t.failed t.loaded → x ≡ Silence → PartyOf
      IsAway : (sender.Node name ≡ t.party → ⊥) → next ≡ known → PartyOf

    party_by : (w : Sender) → t.party ≡ w → PartyOf
    party_by sender.Client is =
        IsAway (λ same. no_client name (same ∙ is)) (ap (λ (w : Sender). if same_party w (sender.Node name) then known_to shape name.region posts known t.handed t.failed t.loaded else known) is)
    party_by (sender.Node other) is =
        by_bool (same_node other name) PartyOf
        (λ same.
        let party : t.party ≡ sender.Node name = is ∙ ap (λ (k : NodeName). sender.Node k) (one-node other name same) in
        IsMine party (ap (λ (b : Bool). if b then known_to shape name.region posts known t.handed t.failed t.loaded else known) (ap (λ (w : Sender). same_party w (sender.Node name)) party ∙ node-itself name))
        (ap (λ (w : Sender). if is_client w then news_in posts t.handed else Silence) party))
        (λ differs. IsAway (λ same. true≢false (sym (node-itself name) ∙ (ap (λ (w : Sender). same_party w (sender.Node name)) same ∙ (ap (λ (w : Sender). same_party w (sender.Node name)) is ∙ differs))))
        (ap (λ (b : Bool). if b then known_to shape name.region posts known t.handed t.failed t.loaded else known) (ap (λ (w : Sender). same_party w (sender.Node name)) is ∙ differs)))

    -- what the client hears of the node
    heard : (y : News) → IsSaid events posts sent y → (e : ℕ) → SaysSwitched name e y → e ≤ known.state.held.session
    heard (Says from (message.Switched m)) said e says = elim said [
      | inl lied ↦ absurd (true≢false (sym lied ∙ honest from says.0))
      | inr was ↦ on.words was.k was.counted was.low was.post was.at (was.from ∙ ap (λ (k : NodeName). sender.Node k) says.0) e (was.reads ∙ ap (λ (s : ℕ). Ok (message.Switched (record { session = s }))) says.1)
    ]
      where
        not_true : (b c : Bool) → (not b && c) ≡ true → b ≡ false
        not_true false c is = refl
        not_true true c is = absurd (false≢true is)

        honest : (from : NodeName) → from ≡ name → is_lied_for events (sender.Node from) ≡ false
        honest from same = ap (λ (k : NodeName). is_lied_for events (sender.Node k)) same ∙ not_true (is_lied_for events (sender.Node name)) (not (list_any (λ e. names_replaced name e) events)) sound.right
    heard y said e says = absurd says

    reached_up : (d : state.Client) (s more : ℕ) → s ≤ more → HasReached name s d → HasReached name more d
    reached_up (state.Serves e) s more up has = omega (arith, up, has)
    reached_up (state.Switches b) s more up has = λ is. (let low = has is in omega (arith, up, low))
    reached_up state.Closed s more up has = tt
    reached_up (state.Gathers g) s more up has = tt
    reached_up (state.Fetches f) s more up has = tt
    reached_up (state.Stages b) s more up has = tt

    on_by : (k : KnownNode) → NodeNext k → IsOn (p ∷ history) next_top answer.client k
    on_by k node = record {
      bases = tells.keeps;
      posted = posts_now;
      words = node.words;
      reached = reached_up answer.client known.state.held.session k.state.held.session node.rises
          (tells.reached known.state.held.session on.reached (heard x (step_said events posts sent t handed_right)));
      low = tells.low k.state.held.session node.low;
      small = node.small;
      speaks = node.speaks;
      stands = stands_more shape volume.key judge judge_then sized grows name.region k.state.held k.state.memory node.stands;
    }

    -- So it holds after the step.
    pub on_then : IsOn (p ∷ history) next_top answer.client next
    on_then = elim (party_by t.party refl) [
      | IsMine party is silent ↦ subst (IsOn (p ∷ history) next_top answer.client) (sym is) (on_by (known_to shape name.region posts known t.handed t.failed t.loaded) (mine_next party))
      | IsAway away is ↦ subst (IsOn (p ∷ history) next_top answer.client) (sym is) (on_by known (away_next away))
    ]
