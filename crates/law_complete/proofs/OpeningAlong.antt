-- Along a quiet run what an opening client waits for is owed to it, by every server.
use Rattle.std.proofs.Common.{◌≡◌, ◌⊎◌, ◌∙◌, inl, inr, ⊎_elim, ℕ, ◌<◌, ◌≤◌, ◌==◌, length, Bool, true, false, if◌then◌else◌, List, [], ◌∷◌, ◌++◌, Some, refl, ap, sym, subst, arith, eqb-true}
use Rattle.std.specs.List.{AllByRecursion, list_all, list_any}
use Rattle.std.proofs.lemmas.Bool.{false≢true}
use Rattle.salus_types.specs.Volume.{Shape, regions}
use Rattle.salus_types.specs.declared.names.NodeName.{NodeName}
use Rattle.salus_types.specs.declared.names.Sender.{Sender}
use Rattle.salus_types.specs.declared.names.Sender.TheVariants as sender
use Rattle.merkle_region.specs.Tree.{NoTwoCollide, IsAmong}
use Rattle.schedule_text.specs.Limits.{IsOfVolume, IsPartyOfVolume, IsWithinLimits}
use Rattle.schedule_text.specs.declared.schedule.Volume.{Volume}
use Rattle.schedule_text.specs.declared.schedule.Event.{Event}
use Rattle.volume_model.specs.Groups.{is_client, same_node, same_party, all_nodes}
use Rattle.salus_model.specs.declared.trace.Handed.{Handed}
use Rattle.salus_model.specs.declared.trace.Handed.TheVariants as handed
use Rattle.salus_model.specs.declared.trace.TraceStep.{TraceStep}
use Rattle.salus_model.specs.Complete.{is_stop}
use Rattle.salus_model.specs.Due.{past_of}
use Rattle.salus_model.specs.Following.{Posted, Follows, hands, sent_by}
use Rattle.salus_model.specs.Guarding.{is_lied_for}
use Rattle.salus_model.specs.Hearing.{News, Silence, Past, news_in, news_of, judge_of, news_since, stages, Serving, Gathering, Fetching, Staged, Phase, phase_of}
use Rattle.salus_model.specs.Judge.{Judge, known_at, last_number, array, judged, judged_all, IsPrefixOf, IsLegalLine, AlongLines}
use Rattle.salus_model.specs.Opening.{says_staged, all_staged}
use Rattle.salus_model.specs.Quiet.{is_quiet}
use Rattle.client_rules.specs.State as state
use Rattle.printed_lines.specs.declared.line.Line.{Line}
use Rattle.printed_lines.specs.declared.line.Line.TheVariants as line
use Rattle.salus_types.specs.declared.records.Base.{Base}
use Rattle.salus_message.specs.declared.wire.Message.{Message}
use Rattle.salus_message.specs.declared.wire.Message.TheVariants as message
use Rattle.kept_model.specs.Batches.{touching, list_of}
use Rattle.law_lemmas.proofs.Settled.{now-known}
use Rattle.law_records.proofs.Numbers.{length-touching}
use Rattle.law_phases.proofs.Sees.{stage_comes}
use Rattle.volume_model.specs.Contents.{region_root, blocks_in}
use Rattle.client_rules.specs.Opening.{has_answered, stage_letters, fetched_blocks}
use Rattle.client_rules.specs.Rules.{told, client_step}
use Rattle.run_rules.specs.Calm.{MayFail}
use Rattle.run_rules.specs.Knowing.{KnownNode, known_to}
use Rattle.run_rules.specs.Running.{after, IsNodeStep, IsStepOf}
use Rattle.run_rules.specs.Serving as serving
use Rattle.run_rules.specs.Serving.{IsClientStep}
use Rattle.list_lemmas.proofs.Lists.{list_all_same}
use Rattle.list_lemmas.proofs.Tests.{by_bool}
use Rattle.law_lemmas.proofs.Named.{one-node, node-itself}
use Rattle.law_lines.specs.Mirrors.{Mirrors, MirrorsFetching, MirrorsStaging}
use Rattle.law_lines.specs.Ready.{event_after}
use Rattle.law_lines.proofs.Openings.{HasNodes}
use Rattle.law_lines.proofs.Starting.{has_nodes}
use Rattle.law_posts.proofs.Along.{top_after}
use Rattle.law_ranged.proofs.Sized.{some_regions}
use Rattle.law_prefix.specs.Good.{Good}
use Rattle.law_prefix.specs.Numbers.{Mem}
use Rattle.law_prefix.specs.World as abstract
use Rattle.law_prefix.specs.World.{World}
use Rattle.law_prefix.proofs.Kept.{good_run}
use Rattle.kept_model.specs.Nodes.{volume_as}
use Rattle.kept_model.specs.Phases.{asked_of, IsKnown, switched_in, switches_of}
use Rattle.law_matched.specs.Silent.{IsHandedRight}
use Rattle.law_phases.specs.Moving.{OpensAsked}
use Rattle.law_phases.proofs.Lines.{opens_last}
use Rattle.law_phases.proofs.Moving.{phase_now, switches_more}
use Rattle.law_reads.proofs.Events.{Of, hands_own}
use Rattle.law_reads.proofs.Served.{IsSoundStep}
use Rattle.law_reads.proofs.Sound.{calm_step, unloaded_step, speaks_then}
use Rattle.law_reads.proofs.Underway.{HandsSent}
use Rattle.law_kept.proofs.Along.{IsAlong, IsGiven, stepped, row, before}
use Rattle.law_kept.proofs.Next.{unlost, along_then}
use Rattle.law_covered.proofs.Along as covered
use Rattle.law_covered.proofs.Along.{right_then}
use Rattle.law_complete.proofs.Awaiting.{IsOpen, AreQuiet, FromStaging, StagedBy, FetchedBy, ComesFrom, IsOwed}
use Rattle.law_complete.proofs.Answering.{IsLaid, Laid, Ranged, Unswitched, some_blocks, answers}
use Rattle.law_complete.proofs.Memory.{IsThere, step_there}
use Rattle.law_complete.proofs.Showing.{IsIdle, Idle, shows}
use Rattle.law_complete.proofs.Standing.{IsStageTo, stage_to, begun_shaped}
use Rattle.law_complete.proofs.Began.{BegunIs, begun_then}
use Rattle.law_complete.proofs.ClientOwes.{client_owed}
use Rattle.law_complete.proofs.OpeningKnown.{EachPlain, lines_plain}
use Rattle.law_complete.proofs.NodeOwes.{node_owed, other_owed}
use Rattle.law_complete.proofs.Passing.{Moves, moves}
use Rattle.law_complete.proofs.OpeningQuietly.{IsUnreplaced, unreplaced_step, quiet_sound}

-- ---- small facts

silent_client : (volume : Volume) (c : state.Client) (v : ℕ) (x : News) → x ≡ Silence → (told volume c v x).client ≡ c
unfolding told
silent_client volume c v x silent = ap (λ (y : News). (told volume c v y).client) silent

-- what is handed over was sent before
handed_before : (events : List Event) (sent : ℕ) (what : Handed) → IsHandedRight events sent what → (k : ℕ) → hands k what ≡ true → k ≤ sent
handed_before events sent (handed.Deliver j) right k hit = subst (λ (i : ℕ). i ≤ sent) (eqb-true j k hit) right.1
handed_before events sent (handed.Stop j) right k hit = subst (λ (i : ℕ). i ≤ sent) (eqb-true j k hit) right.1
handed_before events sent (handed.Asked r) right k hit = absurd (false≢true hit)
handed_before events sent (handed.Lie from bytes) right k hit = absurd (false≢true hit)
handed_before events sent handed.Tick right k hit = absurd (false≢true hit)
handed_before events sent handed.Crash right k hit = absurd (false≢true hit)
handed_before events sent handed.Replace right k hit = absurd (false≢true hit)
handed_before events sent handed.ClientCrash right k hit = absurd (false≢true hit)

-- of a session that is staged not every node has staged it
not_all_staged : (shape : Shape) (history : List Past) (judge : Judge) (b : state.Beginning) → MirrorsStaging shape history judge b → all_staged shape b.session (news_since stages history) ≡ false
unfolding all_staged
not_all_staged shape history judge b m =
    list_all_same (λ name. list_any (λ x. says_staged b.session name x) (news_since stages history)) (λ name. has_answered name b.answered) (λ name. sym (m.answered name)) (all_nodes shape) ∙ m.waits

-- a session that was staged before started from the same
still_laid : (volume : Volume) (d b : state.Beginning) (lines : List Line) → FromStaging d b lines → IsLaid volume d → IsLaid volume b
still_laid volume d b lines from (inl whole) =
    inl (sym from.bases ∙ (whole ∙ λ i. stage_letters volume (from.session i) (from.seq i) (from.contents i) (λ r. blocks_in volume.geometry (from.contents i) r)))
still_laid volume d b lines from (inr fetched) =
    inr (record {
      region = fetched.region;
      blocks = fetched.blocks;
      bases = sym from.bases ∙ (fetched.bases ∙ λ i. stage_letters volume (from.session i) (from.seq i) (from.contents i) (fetched_blocks fetched.region fetched.blocks));
      shaped = fetched.shaped;
      root = fetched.root ∙ ap (λ (k : List (List ℕ)). region_root volume.geometry k fetched.region) from.contents;
    })

-- the blocks of a base in a message
abbrev blocks_of : Message → List (List ℕ)
blocks_of (message.Stage m) = m.base.blocks
blocks_of other = []

quiet_judge : (events : List Event) (judge : Judge) (lines : List Line) → AreQuiet lines → judged_all events judge lines ≡ judge
unfolding judged_all
quiet_judge events judge [] quiet = refl
quiet_judge events judge (line.Refused v cause ∷ []) quiet = refl
quiet_judge events judge other quiet = absurd quiet

one_line : (events : List Event) (judge : Judge) (l : Line) → judged_all events judge (l ∷ []) ≡ judged events judge l
unfolding judged_all
one_line events judge l = refl

-- where a client fetches, all that is served is acknowledged
fetch_acked : (volume : Volume) (events : List Event) (posts : List Posted) (limits : IsWithinLimits (record { volume = volume; events = events })) (strings : List (List ℕ)) (none : NoTwoCollide strings)
    (history : List Past) (n top : ℕ) (c : state.Client) (known : NodeName → KnownNode) (sent : ℕ) (a : IsAlong volume events posts limits strings none history n top c known sent) (f : state.Fetching) → c ≡ state.Fetches f
    → (judge_of volume.geometry events history).acked ≡ last_number (judge_of volume.geometry events history)
fetch_acked volume events posts limits strings none history n top c known sent a f is =
    let judge : Judge = judge_of volume.geometry events history in
    let w : World = a.reached.now in
    let good : Good (volume_as volume.geometry events) w = (good_run (volume_as volume.geometry events) a.reached.start w a.reached.run a.reached.begun).0 in
    let phase : phase_of history ≡ Fetching f.session f.region = (subst (λ (k : state.Client). Mirrors volume history judge n k) is a.holds.mirrors).phase in
    let all : w.client.acked ≡ length (w.client.lists w.client.served) = good.client.fetching (a.reached.matches.client.phase ∙ phase_now volume.geometry history (Fetching f.session f.region) phase) in
    let listed : w.client.lists w.client.served ≡ touching volume.geometry judge.now.list =
    ap (λ (e : ℕ). w.client.lists e) a.reached.matches.client.served ∙ (a.reached.matches.client.lists judge.now.session ∙ ap (list_of volume.geometry) (now-known judge)) in
    sym a.reached.matches.client.acked ∙ (all ∙ (ap (λ (l : List (List ℕ)). length l) listed ∙ length-touching volume.geometry judge.now.list))

module _ (volume : Volume) (events : List Event) (posts : List Posted) (limits : IsWithinLimits (record { volume = volume; events = events })) (strings : List (List ℕ)) (none : NoTwoCollide strings)
    (unlied : is_lied_for events sender.Client ≡ false) (quiet : list_all is_quiet events ≡ true) (trace : List TraceStep) (follows : Follows events posts trace) where
  abbrev shape : Shape
  shape = volume.geometry

  abbrev judge_now : List Past → Judge
  judge_now history = judge_of volume.geometry events history

  abbrev pub nodes_here : HasNodes volume.geometry
  nodes_here = has_nodes volume.geometry limits.volume.small_groups.0

  -- what holds after these steps
  pub record IsOpening (history : List Past) (n top : ℕ) (c : state.Client) (known : NodeName → KnownNode) (sent : ℕ) (earlier : List TraceStep) : Type 0 where
    pub along : IsAlong volume events posts limits strings none history n top c known sent
    pub right : covered.AreRight volume events posts limits strings none unlied history c known sent
    pub plain : EachPlain shape events (judge_now history)
    pub unreplaced : AllByRecursion IsUnreplaced history
    pub speaks : (name : NodeName) → IsOfVolume shape name → (known name).silent ≡ false
    pub count : sent_by earlier ≡ sent
    pub hands_sent : HandsSent earlier
    pub waits : IsOpen shape c
    pub laid : Laid volume c
    pub ranged : Ranged shape c
    pub unswitched : Unswitched shape history c
    pub there : (name : NodeName) → IsOfVolume shape name → IsThere (known name).state.memory
    pub idle : Idle (judge_now history) c
    pub owed : (name : NodeName) → IsOfVolume shape name → IsOwed shape posts c name earlier
    pub begun : BegunIs shape events history

  -- what is given of the next step
  pub record IsStep (history : List Past) (n top : ℕ) (c : state.Client) (known : NodeName → KnownNode) (sent : ℕ) (earlier : List TraceStep) (t : TraceStep) : Type 0 where
    pub given : IsGiven volume events posts limits strings none history n top c known sent t
    pub of : Of events posts t
    pub runs : is_stop t.handed ≡ false
    pub may : t.failed ≡ true → MayFail events earlier t
    pub among : IsAmong t trace

  module _ (history : List Past) (n top : ℕ) (c : state.Client) (known : NodeName → KnownNode) (sent : ℕ) (earlier : List TraceStep) (o : IsOpening history n top c known sent earlier) (t : TraceStep)
      (s : IsStep history n top c known sent earlier t) where
    abbrev x : News
    x = news_of posts t

    abbrev p : Past
    p = past_of volume events posts history t

    abbrev next : state.Client
    next = (client_step volume posts c t).client

    abbrev known_then : NodeName → KnownNode
    known_then name = after shape posts name (known name) t

    a : IsAlong volume events posts limits strings none history n top c known sent
    a = o.along

    given : IsGiven volume events posts limits strings none history n top c known sent t
    given = s.given

    then_along : IsAlong volume events posts limits strings none (p ∷ history) (event_after n t.event x) (top_after top x) next known_then t.sent
    then_along = along_then volume events posts limits strings none unlied history n top c known sent a t given

    plain_then : EachPlain shape events (judge_now (p ∷ history))
    plain_then = lines_plain volume events limits p.lines (judge_now history) (stepped volume events posts limits strings none history n top c known sent a t given).legal o.plain

    -- ---- parties

    node_step : (name : NodeName) → t.party ≡ sender.Node name → IsNodeStep shape posts name (known name) (sent_by earlier) t
    node_step name is =
        subst (λ (k : ℕ). IsNodeStep shape posts name (known name) k t) (sym o.count)
        (subst (λ (yes : Bool). IsStepOf yes shape posts name (known name) sent t) (ap (λ (w : Sender). same_party w (sender.Node name)) is ∙ node-itself name) (given.nodes name))

    sound_step : (name : NodeName) → IsOfVolume shape name → t.party ≡ sender.Node name → IsSoundStep shape posts name (known name) earlier t
    sound_step name inside is = record {
      by = node_step name is;
      party = is;
      own = hands_own events posts t s.of;
      speaks = o.speaks name inside;
      calm = calm_step events posts trace name (quiet_sound events quiet posts trace follows name) earlier t s.among is s.may;
      unloaded = unloaded_step events posts trace name (quiet_sound events quiet posts trace follows name) shape (known name) (sent_by earlier) t s.among is s.of (node_step name is);
    }

    client_by : t.party ≡ sender.Client → IsClientStep volume posts c (sent_by earlier) t
    client_by is =
        subst (λ (k : ℕ). IsClientStep volume posts c k t) (sym o.count) (subst (λ (mine : Bool). serving.IsStepOf mine volume posts c sent t) (ap (λ (w : Sender). is_client w) is) given.client)

    more : sent_by earlier ≤ t.sent
    more = by t.party refl given.addressed where
      by : (who : Sender) → t.party ≡ who → IsPartyOfVolume shape who → sent_by earlier ≤ t.sent
      by sender.Client is inside = (client_by is).more
      by (sender.Node name) is inside = (node_step name is).more

    hands_then : HandsSent (t ∷ earlier)
    unfolding HandsSent
    hands_then = (λ k hit. subst (λ (m : ℕ). k ≤ m) (sym o.count) (handed_before events sent t.handed given.handed k hit), more, o.hands_sent)

    client_same : (name : NodeName) → t.party ≡ sender.Node name → next ≡ c
    client_same name is = silent_client volume c t.event x (ap (λ (w : Sender). if is_client w then news_in posts t.handed else Silence) is)

    -- ---- what is owed

    owed_then : (name : NodeName) → IsOfVolume shape name → IsOwed shape posts next name (t ∷ earlier)
    owed_then name inside = by t.party refl given.addressed where
      by : (who : Sender) → t.party ≡ who → IsPartyOfVolume shape who → IsOwed shape posts next name (t ∷ earlier)
      by sender.Client is within =
          client_owed volume posts nodes_here name inside c earlier t
          (record { by = client_by is; party = is; own = hands_own events posts t s.of; runs = s.runs; letters = given.letters }) hands_then o.waits (o.owed name inside)
      by (sender.Node other) is within =
          subst (λ (k : state.Client). IsOwed shape posts k name (t ∷ earlier)) (sym (client_same other is))
          (by_bool (same_node other name) (IsOwed shape posts c name (t ∷ earlier))
          (λ same.
          let mine : t.party ≡ sender.Node name = is ∙ ap (λ (k : NodeName). sender.Node k) (one-node other name same) in
          node_owed shape posts name c (known name) earlier t hands_then (sound_step name inside mine)
          (answers volume events posts limits strings none quiet history n top c known sent a o.unreplaced name inside (o.speaks name inside) o.plain (o.right.nodes name inside).held o.laid o.unswitched
          (shows volume events posts limits strings none quiet history n top c known sent a o.unreplaced name inside (o.speaks name inside) o.plain (o.right.nodes name inside).held o.idle o.unswitched (o.there name inside)))
          (o.owed name inside))
          (λ differs.
          other_owed shape posts name c (known name) earlier t hands_then (ap (λ (w : Sender). is_client w) is) (ap (λ (w : Sender). same_party w (sender.Node name)) is ∙ differs) (hands_own events posts t s.of) more
          (o.owed name inside)))

    speaks_on : (name : NodeName) → IsOfVolume shape name → (known_then name).silent ≡ false
    speaks_on name inside = by t.party refl where
      by : (who : Sender) → t.party ≡ who → (known_then name).silent ≡ false
      by sender.Client is =
          ap (λ (w : Sender). (if same_party w (sender.Node name) then known_to shape name.region posts (known name) t.handed t.failed t.loaded else known name).silent) is ∙ o.speaks name inside
      by (sender.Node other) is =
          by_bool (same_node other name) ((known_then name).silent ≡ false)
          (λ same.
          let mine : t.party ≡ sender.Node name = is ∙ ap (λ (k : NodeName). sender.Node k) (one-node other name same) in
          let sound = sound_step name inside mine in
          ap (λ (b : Bool). (if b then known_to shape name.region posts (known name) t.handed t.failed t.loaded else known name).silent) (ap (λ (w : Sender). same_party w (sender.Node name)) mine ∙ node-itself name)
          ∙ speaks_then shape posts name.region (known name) t.handed t.failed t.loaded sound.speaks sound.calm sound.unloaded)
          (λ differs.
          ap (λ (b : Bool). (if b then known_to shape name.region posts (known name) t.handed t.failed t.loaded else known name).silent) (ap (λ (w : Sender). same_party w (sender.Node name)) is ∙ differs)
          ∙ o.speaks name inside)

    there_on : (name : NodeName) → IsOfVolume shape name → IsThere (known_then name).state.memory
    there_on name inside = by t.party refl where
      by : (who : Sender) → t.party ≡ who → IsThere (known_then name).state.memory
      by sender.Client is =
          subst (λ (w : Sender). IsThere (if same_party w (sender.Node name) then known_to shape name.region posts (known name) t.handed t.failed t.loaded else known name).state.memory) (sym is) (o.there name inside)
      by (sender.Node other) is =
          by_bool (same_node other name) (IsThere (known_then name).state.memory)
          (λ same.
          let mine : t.party ≡ sender.Node name = is ∙ ap (λ (k : NodeName). sender.Node k) (one-node other name same) in
          subst (λ (b : Bool). IsThere (if b then known_to shape name.region posts (known name) t.handed t.failed t.loaded else known name).state.memory) (sym (ap (λ (w : Sender). same_party w (sender.Node name)) mine ∙ node-itself name))
          (step_there shape posts name (known name) earlier t (sound_step name inside mine) (o.there name inside)))
          (λ differs.
          subst (λ (b : Bool). IsThere (if b then known_to shape name.region posts (known name) t.handed t.failed t.loaded else known name).state.memory) (sym (ap (λ (w : Sender). same_party w (sender.Node name)) is ∙ differs))
          (o.there name inside))

    -- ---- the client

    -- the volume's first node
    abbrev first_node : NodeName
    first_node = record { region = 0; replica = 0 }

    first_inside : IsOfVolume shape first_node
    first_inside = let many = limits.volume.small_groups.0 in (some_regions shape limits.volume, omega (arith, many))

    moved : Moves volume c first_node x (told volume c t.event x)
    moved = moves volume nodes_here first_node first_inside c t.event x o.waits

    laid_then : Laid volume next
    laid_then = by next refl moved.comes where
      by : (d : state.Client) → next ≡ d → ComesFrom volume c d (told volume c t.event x).lines → Laid volume d
      by (state.Stages b) is comes = staged_by c refl comes where
        staged_by : (old : state.Client) → c ≡ old → StagedBy volume old b (told volume c t.event x).lines → IsLaid volume b
        staged_by (state.Gathers g) was from = inl from.bases
        staged_by (state.Fetches f) was from = inr (record { region = f.region; blocks = from.blocks; bases = from.bases; shaped = from.shaped; root = from.root })
        staged_by (state.Stages d) was from = still_laid volume d b (told volume c t.event x).lines from (subst (Laid volume) was o.laid)
        staged_by (state.Switches d) was from = absurd from
        staged_by state.Closed was from = absurd from
        staged_by (state.Serves d) was from = absurd from
      by (state.Gathers g) is comes = tt
      by (state.Fetches f) is comes = tt
      by (state.Switches b) is comes = tt
      by state.Closed is comes = tt
      by (state.Serves d) is comes = tt

    ranged_then : Ranged shape next
    ranged_then = by next refl moved.comes where
      by : (d : state.Client) → next ≡ d → ComesFrom volume c d (told volume c t.event x).lines → Ranged shape d
      by (state.Fetches f) is comes = fetched_by c refl comes where
        fetched_by : (old : state.Client) → c ≡ old → FetchedBy volume old f (told volume c t.event x).lines → f.region < regions shape
        fetched_by (state.Serves d) was from = from.1
        fetched_by (state.Fetches d) was from = subst (λ (k : state.Fetching). k.region < regions shape) from.0 (subst (Ranged shape) was o.ranged)
        fetched_by (state.Gathers d) was from = absurd from
        fetched_by (state.Stages d) was from = absurd from
        fetched_by (state.Switches d) was from = absurd from
        fetched_by state.Closed was from = absurd from
      by (state.Gathers g) is comes = tt
      by (state.Stages b) is comes = tt
      by (state.Switches b) is comes = tt
      by state.Closed is comes = tt
      by (state.Serves d) is comes = tt

    good : Good (volume_as shape events) a.reached.now
    good = (good_run (volume_as shape events) a.reached.start a.reached.now a.reached.run a.reached.begun).0

    -- a session that is still to be staged isn't known
    early_unswitched : (e : ℕ) (phase : Phase) → phase_of history ≡ phase → OpensAsked phase (asked_of history) → asked_of history ≡ e → (a.reached.now.client.phase ≡ abstract.Gathering) ⊎ (a.reached.now.client.phase ≡ abstract.Fetching)
        → Mem e (switches_of shape history) → ⊥
    early_unswitched e phase is last asked early there =
        let low : e < a.reached.now.client.asked = good.client.early early e (good.client.switches_known e (a.reached.matches.client.switched_back e there)) in
        let same : a.reached.now.client.asked ≡ e = a.reached.matches.client.asked ∙ asked in
        omega (arith, low, same)

    was_unswitched : (b : state.Beginning) (old : state.Client) → c ≡ old → StagedBy volume old b (told volume c t.event x).lines → Mem b.session (switches_of shape history) → ⊥
    was_unswitched b (state.Gathers g) was from there =
        let phase : phase_of history ≡ Gathering g.session = (subst (λ (k : state.Client). Mirrors volume history (judge_now history) n k) was a.holds.mirrors).phase in
        let last : asked_of history ≡ g.session = subst (λ (ph : Phase). OpensAsked ph (asked_of history)) phase a.opening in
        early_unswitched b.session (Gathering g.session) phase last (last ∙ from.session) (inl (a.reached.matches.client.phase ∙ phase_now shape history (Gathering g.session) phase)) there
    was_unswitched b (state.Fetches f) was from there =
        let phase : phase_of history ≡ Fetching f.session f.region = (subst (λ (k : state.Client). Mirrors volume history (judge_now history) n k) was a.holds.mirrors).phase in
        let last : asked_of history ≡ f.session = subst (λ (ph : Phase). OpensAsked ph (asked_of history)) phase a.opening in
        early_unswitched b.session (Fetching f.session f.region) phase last (last ∙ from.session) (inr (a.reached.matches.client.phase ∙ phase_now shape history (Fetching f.session f.region) phase)) there
    was_unswitched b (state.Stages d) was from there = (subst (Unswitched shape history) was o.unswitched) (subst (λ (e : ℕ). Mem e (switches_of shape history)) (sym from.session) there)
    was_unswitched b (state.Switches d) was from there = absurd from
    was_unswitched b state.Closed was from there = absurd from
    was_unswitched b (state.Serves d) was from there = absurd from

    unswitched_then : Unswitched shape (p ∷ history) next
    unswitched_then = by next refl moved.comes where
      by : (d : state.Client) → next ≡ d → ComesFrom volume c d (told volume c t.event x).lines → Unswitched shape (p ∷ history) d
      by (state.Stages b) is comes = λ there.
          let m : MirrorsStaging shape (p ∷ history) (judge_now (p ∷ history)) b =
          subst (λ (k : state.Client). Mirrors volume (p ∷ history) (judge_now (p ∷ history)) (event_after n t.event x) k) is then_along.holds.mirrors in
          let none_now : switched_in shape (p ∷ history) (Staged b.session) ≡ [] = ap (λ (u : Bool). if u then b.session ∷ [] else []) (not_all_staged shape (p ∷ history) (judge_now (p ∷ history)) b m) in
          let all : switches_of shape (p ∷ history) ≡ switches_of shape history =
          switches_more shape p history (Staged b.session) m.phase ∙ ap (λ (l : List ℕ). l ++ switches_of shape history) none_now in
          was_unswitched b c refl comes (subst (Mem b.session) all there)
      by (state.Gathers g) is comes = tt
      by (state.Fetches f) is comes = tt
      by (state.Switches b) is comes = tt
      by state.Closed is comes = tt
      by (state.Serves d) is comes = tt

    -- ---- what is idle

    abbrev lines : List Line
    lines = (told volume c t.event x).lines

    lines_are : p.lines ≡ lines
    lines_are = sym (row volume events posts limits strings none history n top c known sent a t given).same

    judge_by : (ls : List Line) → lines ≡ ls → judge_now (p ∷ history) ≡ judged_all events (judge_now history) ls
    judge_by ls is = ap (λ (l : List Line). judged_all events (judge_now history) l) (lines_are ∙ is)

    judge_same : AreQuiet lines → judge_now (p ∷ history) ≡ judge_now history
    judge_same quiet_lines = judge_by lines refl ∙ quiet_judge events (judge_now history) lines quiet_lines

    -- where the client serves, no later session is known
    serving_low : (d : state.Serving) → c ≡ state.Serves d → (k : ℕ) → IsKnown (judge_now history) k → k ≤ (judge_now history).now.session
    serving_low d is k there =
        let phase : phase_of history ≡ Serving = (subst (λ (q : state.Client). Mirrors volume history (judge_now history) n q) is a.holds.mirrors).serves in
        let low : k ≤ a.reached.now.client.asked = good.client.known_asked k (a.reached.matches.client.known_back k there) in
        let same : a.reached.now.client.asked ≡ a.reached.now.client.served = good.client.serving (a.reached.matches.client.phase ∙ phase_now shape history Serving phase) in
        let served : a.reached.now.client.served ≡ (judge_now history).now.session = a.reached.matches.client.served in
        omega (arith, low, same, served)

    idle_fetch : (f : state.Fetching) → next ≡ state.Fetches f → (old : state.Client) → c ≡ old → FetchedBy volume old f lines → IsIdle (judge_now (p ∷ history)) f.session
    unfolding judged_all
    idle_fetch f is (state.Serves d) was from =
        let same : judge_now (p ∷ history) ≡ judge_now history = judge_by [] from.0 in
        record {
          acked = fetch_acked volume events posts limits strings none (p ∷ history) (event_after n t.event x) (top_after top x) next known_then t.sent then_along f is;
          known = λ k there. inl (subst (λ (j : Judge). k ≤ j.now.session) (sym same) (serving_low d was k (subst (λ (j : Judge). IsKnown j k) same there)));
        }
    idle_fetch f is (state.Fetches d) was from =
        subst (λ (k : state.Fetching). IsIdle (judge_now (p ∷ history)) k.session) from.0 (subst (λ (j : Judge). IsIdle j d.session) (sym (judge_same from.1)) (subst (Idle (judge_now history)) was o.idle))
    idle_fetch f is (state.Gathers d) was from = absurd from
    idle_fetch f is (state.Stages d) was from = absurd from
    idle_fetch f is (state.Switches d) was from = absurd from
    idle_fetch f is state.Closed was from = absurd from

    -- what is known once a session is staged was known before, or it is that one
    staged_known : (b : state.Beginning) (f : state.Fetching) → IsPrefixOf events (judge_now history) b.session f.served b.seq → f.session ≡ b.session → IsIdle (judge_now history) f.session → (k : ℕ)
        → IsKnown (judged events (judge_now history) (line.Stage b.session f.served b.seq)) k → (k ≤ (judge_now history).now.session) ⊎ (k ≡ b.session)
    staged_known b f legal session old k (inl zero) = inl (omega (arith, zero))
    staged_known b f legal session old k (inr known_one) = ⊎_elim
        (λ (before_it : known_at (judge_now history) k ≡ Some known_one.0).
        ⊎_elim (λ (low : k ≤ (judge_now history).now.session). inl low) (λ (one : k ≡ f.session). inr (one ∙ session)) (old.known k (inr (known_one.0, before_it))))
        (λ (new : (b.session ≡ k) × _). inr (sym new.0)) (stage_comes shape events (judge_now history) b.session f.served b.seq legal known_one.0 k known_one.1)

    idle_stage : (b : state.Beginning) → next ≡ state.Stages b → (old : state.Client) → c ≡ old → StagedBy volume old b lines → (to : NodeName) (base : Base)
        → IsAmong (record { to = to; message = message.Stage (record { base = base }) }) b.bases → base.blocks ≡ [] → IsIdle (judge_now (p ∷ history)) b.session × (b.contents ≡ array (judge_now (p ∷ history)))
    unfolding AlongLines
    idle_stage b is (state.Gathers g) was from to base among empty =
        let m : MirrorsStaging shape (p ∷ history) (judge_now (p ∷ history)) b =
        subst (λ (k : state.Client). Mirrors volume (p ∷ history) (judge_now (p ∷ history)) (event_after n t.event x) k) is then_along.holds.mirrors in
        let letter : IsStageTo volume b.session b.seq b.contents (λ r. blocks_in shape b.contents r) to (message.Stage (record { base = base })) =
        stage_to volume b.session b.seq b.contents (λ r. blocks_in shape b.contents r) to (message.Stage (record { base = base })) (subst (λ (l : List state.Letter). IsAmong (record { to = to; message = message.Stage (record { base = base }) }) l) from.bases among) in
        let shaped = begun_shaped shape events (judge_now (p ∷ history)) b m.begun plain_then then_along.standing.settled.sized to.region letter.inside in
        let none_there : blocks_in shape b.contents to.region ≡ [] = sym (ap blocks_of letter.is) ∙ empty in
        absurd (some_blocks shape (blocks_in shape b.contents to.region) shaped (ap (λ (l : List (List ℕ)). length l == 0) none_there))
    idle_stage b is (state.Fetches f) was from to base among empty =
        let old : IsIdle (judge_now history) f.session = subst (Idle (judge_now history)) was o.idle in
        let mirrors : MirrorsFetching history (judge_now history) f = subst (λ (k : state.Client). Mirrors volume history (judge_now history) n k) was a.holds.mirrors in
        let staged : Judge = judged events (judge_now history) (line.Stage b.session f.served b.seq) in
        let same : judge_now (p ∷ history) ≡ judged_all events (judge_now history) (line.Stage b.session f.served b.seq ∷ []) = judge_by (line.Stage b.session f.served b.seq ∷ []) from.line_is in
        let legal : AlongLines (IsLegalLine shape events) events (judge_now history) (line.Stage b.session f.served b.seq ∷ []) =
        subst (λ (l : List Line). AlongLines (IsLegalLine shape events) events (judge_now history) l) (lines_are ∙ from.line_is) (stepped volume events posts limits strings none history n top c known sent a t given).legal in (
          subst (λ (j : Judge). IsIdle j b.session) (sym (same ∙ one_line events (judge_now history) (line.Stage b.session f.served b.seq)))
              (record { acked = old.acked; known = λ k there. staged_known b f legal.0 from.session old k there }),
          sym from.contents ∙ (mirrors.contents ∙ ap array (sym (same ∙ one_line events (judge_now history) (line.Stage b.session f.served b.seq)))),
        )
    idle_stage b is (state.Stages d) was from to base among empty =
        let old : IsIdle (judge_now history) d.session × (d.contents ≡ array (judge_now history)) =
        (subst (Idle (judge_now history)) was o.idle) to base (subst (λ (l : List state.Letter). IsAmong (record { to = to; message = message.Stage (record { base = base }) }) l) (sym from.bases) among) empty in
        let same : judge_now (p ∷ history) ≡ judge_now history = judge_same from.quiet in (
          subst (λ (j : Judge). IsIdle j b.session) (sym same) (subst (IsIdle (judge_now history)) from.session old.0),
          sym from.contents ∙ (old.1 ∙ ap array (sym same)),
        )
    idle_stage b is (state.Switches d) was from to base among empty = absurd from
    idle_stage b is state.Closed was from to base among empty = absurd from
    idle_stage b is (state.Serves d) was from to base among empty = absurd from

    idle_then : Idle (judge_now (p ∷ history)) next
    idle_then = by next refl moved.comes where
      by : (d : state.Client) → next ≡ d → ComesFrom volume c d lines → Idle (judge_now (p ∷ history)) d
      by (state.Fetches f) is comes = idle_fetch f is c refl comes
      by (state.Stages b) is comes = idle_stage b is c refl comes
      by (state.Gathers g) is comes = tt
      by (state.Switches b) is comes = tt
      by state.Closed is comes = tt
      by (state.Serves d) is comes = tt

    -- ---- all of it

    pub opening_then : IsOpening (p ∷ history) (event_after n t.event x) (top_after top x) next known_then t.sent (t ∷ earlier)
    opening_then = record {
      along = then_along;
      right = right_then volume events posts limits strings none unlied history n top c known sent a t given o.right;
      plain = plain_then;
      unreplaced = (unreplaced_step events quiet posts t s.of, o.unreplaced);
      speaks = speaks_on;
      count = refl;
      hands_sent = hands_then;
      waits = moved.waits;
      laid = laid_then;
      ranged = ranged_then;
      unswitched = unswitched_then;
      there = there_on;
      idle = idle_then;
      owed = owed_then;
      begun = begun_then volume events history t x (unlost volume events posts limits strings none unlied history n top c known sent a t given)
          (opens_last volume events limits limits.volume.small_groups.0 history t a.reached.now x (before volume events posts limits strings none history n top c known sent a t given)) a.opening then_along.opening o.begun;
    }
