-- What holds after some steps of a run by the rules, and what is given of the next one: so all stands that the client's step asks.
use Rattle.std.proofs.Common.{◌≡◌, ℕ, ◌+◌, ◌^◌, ◌<◌, ◌≤◌, true, false, List, [], ◌∷◌, ◌++◌, inl, inr, sym, subst, arith}
use Rattle.std.specs.Prelude.{flat_map}
use Rattle.std.specs.List.{AllByRecursion}
use Rattle.salus_types.specs.Volume.{Shape}
use Rattle.salus_types.specs.declared.names.NodeName.{NodeName}
use Rattle.salus_message.specs.declared.wire.Message.{Message}
use Rattle.salus_message.specs.declared.wire.Message.TheVariants as message
use Rattle.merkle_region.specs.Tree.{IsAmong, NoTwoCollide}
use Rattle.merkle_region.proofs.Membership.{among_left, among_right, among_either, none-within}
use Rattle.schedule_text.specs.Limits.{IsOfVolume, IsPartyOfVolume, IsWithinLimits}
use Rattle.schedule_text.specs.declared.schedule.Volume.{Volume}
use Rattle.schedule_text.specs.declared.schedule.Event.{Event}
use Rattle.printed_lines.specs.declared.line.Line.{Line}
use Rattle.printed_lines.specs.declared.line.Line.TheVariants as line
use Rattle.salus_model.specs.declared.trace.Request.TheVariants as request
use Rattle.salus_model.specs.declared.trace.TraceStep.{TraceStep}
use Rattle.volume_model.specs.Groups.{is_client}
use Rattle.salus_model.specs.Judge.{Judge, last_number}
use Rattle.salus_model.specs.Following.{Posted, sent_by}
use Rattle.salus_model.specs.Guarding.{is_replacement, all_guarded}
use Rattle.salus_model.specs.Hearing.{News, Asks, Says, Crashes, Silence, Past, news_of, judge_of, since, news_since, opens, begins, phase_of}
use Rattle.salus_model.specs.Waiting.{all_taken}
use Rattle.salus_model.specs.Opening.{replies_to}
use Rattle.salus_model.specs.Due.{past_of}
use Rattle.salus_model.specs.Seen.{known_strings, news_strings, strings_at, strings_of}
use Rattle.client_rules.specs.State as state
use Rattle.client_rules.specs.Rules.{told, client_step}
use Rattle.run_rules.specs.Knowing.{KnownNode}
use Rattle.run_rules.specs.Running.{addresses, IsStepOf}
use Rattle.run_rules.specs.Serving as serving
use Rattle.list_lemmas.proofs.Members.{among_flat_map, among_map}
use Rattle.law_lines.specs.Mirrors.{Holds, AsDue}
use Rattle.law_lines.specs.Ready.{AsksFit, IsReady, event_after, session_after}
use Rattle.law_lines.specs.Scheduled.{ChoicesHold}
use Rattle.law_lines.proofs.Anywhere.{step_as_due}
use Rattle.law_lines.proofs.Openings.{HasNodes}
use Rattle.law_lines.proofs.Starting.{has_nodes}
use Rattle.law_lines.proofs.Whole.{AllScripted, head_written}
use Rattle.law_history.specs.Choosing.{ChoosesRight, ChoosesRightFrom, ChoseRight}
use Rattle.law_history.specs.Handing.{steps_in, PostsTagged}
use Rattle.law_history.specs.Keeping.{KeepsChoice}
use Rattle.law_history.proofs.Heard.{IsHeard, among_since}
use Rattle.law_history.proofs.Rows.{all_heard}
use Rattle.law_history.proofs.Shown.{ShowsTagged, choice_now}
use Rattle.law_history.proofs.Standing.{IsStanding, IsStepped}
use Rattle.law_runs.proofs.Choices.{choices_hold}
use Rattle.law_posts.proofs.Along.{top_after}
use Rattle.law_ranged.specs.Ranging.{IsSentWithin}
use Rattle.law_gathered.proofs.Stands.{Within, IsScheduled}
use Rattle.law_prefix.specs.World as abstract
use Rattle.law_prefix.specs.World.{World, Guarded}
use Rattle.law_prefix.specs.Good.{Good}
use Rattle.law_prefix.proofs.Kept.{good_run}
use Rattle.kept_model.specs.Nodes.{node_number, is_honest, volume_as}
use Rattle.kept_model.specs.Phases.{asked_of}
use Rattle.kept_model.specs.Sound.{IsSoundHeld}
use Rattle.law_records.specs.Replying.{IsTold}
use Rattle.law_matched.specs.Silent.{IsHandedRight, IsReached}
use Rattle.law_phases.specs.Fronts.{AreFronts}
use Rattle.law_phases.specs.Letters.{KeepsLetters}
use Rattle.law_phases.specs.Moving.{OpensAsked}
use Rattle.law_phases.specs.Opening.{AsksLater, RepliesSound, AreCountable, IsBefore}
use Rattle.law_phases.specs.Room.{Roomy, HadRoom, TellsRoomy}
use Rattle.law_phases.proofs.Rooms.{told_roomy}
use Rattle.law_phases.proofs.Told.{IsReplied, replied_in}
use Rattle.law_kept.proofs.Hears.{honest_node, WasPosted, IsHeardOf, heard_in, step_heard}
use Rattle.law_kept.proofs.Saying.{Owns, SaidSound, PostedOwn}
use Rattle.law_kept.proofs.Stepping.{stepped_next}

-- a session that is asked for is above those that were asked for before
later_of : (events : List Event) (n top v asked : ℕ) (x : News) → AsksFit events n (top + 1) v x → asked ≤ top → AsksLater asked x
later_of events n top v asked (Asks (request.Restart e)) fits low = let up = fits.2 in omega (arith, up, low)
later_of events n top v asked (Asks (request.Reassign e g)) fits low = let up = fits.2 in omega (arith, up, low)
later_of events n top v asked (Asks (request.Write batch)) fits low = tt
later_of events n top v asked (Asks (request.Read b)) fits low = tt
later_of events n top v asked (Asks request.Barrier) fits low = tt
later_of events n top v asked (Says name m) fits low = tt
later_of events n top v asked Crashes fits low = tt
later_of events n top v asked Silence fits low = tt

-- the client's room is that which the lines say
had_room : (volume : Volume) (history : List Past) (judge : Judge) (n m : ℕ) (c : state.Client) → Holds volume history judge n m c → HadRoom c → last_number judge < judge.acked + 16
had_room volume history judge n m (state.Serves c) holds room =
    let last : c.last ≡ last_number judge = holds.mirrors.counts.last in
    let acked : c.acked ≡ judge.acked = holds.mirrors.counts.acked in
    omega (arith, last, acked, room)
had_room volume history judge n m state.Closed holds room = absurd room
had_room volume history judge n m (state.Gathers g) holds room = absurd room
had_room volume history judge n m (state.Fetches f) holds room = absurd room
had_room volume history judge n m (state.Stages b) holds room = absurd room
had_room volume history judge n m (state.Switches b) holds room = absurd room

module _ (volume : Volume) (events : List Event) (posts : List Posted) (limits : IsWithinLimits (record { volume = volume; events = events })) (strings : List (List ℕ)) (none : NoTwoCollide strings) where
  abbrev shape : Shape
  shape = volume.geometry

  abbrev pub judge_now : List Past → Judge
  judge_now history = judge_of volume.geometry events history

  abbrev pub past_now : List Past → TraceStep → Past
  past_now history t = past_of volume events posts history t

  many : 0 < volume.geometry.replicas
  many = limits.volume.small_groups.0

  abbrev pub nodes_here : HasNodes volume.geometry
  nodes_here = has_nodes volume.geometry limits.volume.small_groups.0

  -- what holds after these steps, before any event from number n on and any session above top
  pub record IsAlong (history : List Past) (n top : ℕ) (c : state.Client) (known : NodeName → KnownNode) (sent : ℕ) : Type 0 where
    pub standing : IsStanding volume events strings n top history (judge_now history)
    pub holds : Holds volume history (judge_now history) n (top + 1) c
    pub some : 0 < n
    pub small : n ≤ 2 ^ 32
    pub script : AllScripted events (all_taken (since opens history))
    pub countable : AreCountable shape events (judge_now history)
    pub opening : OpensAsked (phase_of history) (asked_of history)
    pub asked : asked_of history ≤ top
    pub roomy : Roomy c
    pub letters : KeepsLetters c
    pub fronts : AreFronts (judge_now history)
    pub heard : (p : Past) → IsAmong p history → IsHeardOf events posts sent p.news
    pub apart : (q : Past) → IsAmong q history → begins q ≡ true → is_replacement q.step.handed ≡ false
    pub low : (q : Past) (e : ℕ) → IsAmong q history → IsAmong (line.Open e) q.lines → e ≤ asked_of history
    pub posted : PostedOwn volume events posts (judge_now history) sent
    pub owns : (name : NodeName) → IsOfVolume shape name → Owns volume events posts (judge_now history) (known name)
    pub said : SaidSound volume events posts (judge_now history) sent
    pub count : sent_by (steps_in history) ≡ sent
    pub reached : IsReached shape events posts history known sent

  -- what is given of the next step
  pub record IsGiven (history : List Past) (n top : ℕ) (c : state.Client) (known : NodeName → KnownNode) (sent : ℕ) (t : TraceStep) : Type 0 where
    pub fits : AsksFit events n (top + 1) t.event (news_of posts t)
    pub scheduled : IsScheduled events posts t
    pub shows : ShowsTagged volume events strings none posts (past_now history t)
    pub within : Within (strings_of volume.geometry (past_now history t ∷ history)) strings
    pub addressed : IsPartyOfVolume shape t.party
    pub handed : IsHandedRight events sent t.handed
    pub nodes : (name : NodeName) → IsStepOf (addresses name t) shape posts name (known name) sent t
    pub client : serving.IsStepOf (is_client t.party) volume posts c sent t
    pub guarded : all_guarded shape events (past_now history t ∷ history) ≡ true
    pub tagged : ChoseRight volume (past_now history t ∷ history) → PostsTagged volume events posts history (past_now history t)
    pub letters : AllByRecursion (IsSentWithin shape) (client_step volume posts c t).outs

  module _ (history : List Past) (n top : ℕ) (c : state.Client) (known : NodeName → KnownNode) (sent : ℕ) (a : IsAlong history n top c known sent) (t : TraceStep)
      (given : IsGiven history n top c known sent t) where
    abbrev x : News
    x = news_of posts t

    abbrev judge : Judge
    judge = judge_now history

    abbrev p : Past
    p = past_now history t

    abbrev w : World
    w = a.reached.now

    abbrev v : abstract.Volume
    v = volume_as shape events

    abbrev news : List News
    news = x ∷ news_since begins history

    -- its lines are legal, and the history stands with them
    pub stepped : IsStepped volume events strings (KeepsChoice volume events posts history t) (event_after n t.event x) (top_after top x) p history
    stepped = stepped_next volume events strings none posts n top history t a.some given.fits given.scheduled a.standing given.shows given.within

    pub good_now : Good v w × Guarded v w.counts
    good_now = good_run v a.reached.start w a.reached.run a.reached.begun

    -- ---- the lines are those of the client's rules

    ready : IsReady volume events history judge n (top + 1) t.event x
    unfolding ChoosesRightFrom ChoicesHold
    ready =
        let right : ChoosesRight volume events posts history t = choice_now volume events strings none posts n top history t a.standing given.shows given.within in
        record { fits = given.fits; choice = (choices_hold volume events posts (t ∷ []) history (right, tt)).0 }

    pub row : AsDue volume (p ∷ history) (judge_now (p ∷ history)) (event_after n t.event x) (session_after (top + 1) x) p.lines (told volume c t.event x)
    row = step_as_due volume events history judge n (top + 1) t nodes_here c a.holds a.small (head_written events history judge a.script) x ready

    room : (u s : ℕ) → IsAmong (line.Submit u s) p.lines → last_number judge < judge.acked + 16
    room u s among =
        let tells : TellsRoomy c (told volume c t.event x) = told_roomy volume c t.event x a.roomy in
        had_room volume history judge n (top + 1) c a.holds (tells.lines u s (subst (λ (ls : List Line). IsAmong (line.Submit u s) ls) (sym row.same) among))

    -- ---- what was heard

    heard_here : IsHeard volume judge strings x
    unfolding strings_of
    heard_here = record {
      tagged = given.shows;
      seen = λ s m. given.within s (among_left s (strings_at volume.geometry p) (strings_of volume.geometry history) (among_right s (known_strings volume.geometry judge) (news_strings volume.geometry x) m));
    }

    known_seen : Within (known_strings volume.geometry judge) strings
    unfolding strings_of
    known_seen = λ s m.
        given.within s (among_left s (strings_at volume.geometry p) (strings_of volume.geometry history) (among_left s (known_strings volume.geometry judge) (news_strings volume.geometry x) m))

    each_heard : (y : News) → IsAmong y news → IsHeard volume judge strings y
    each_heard = all_heard volume judge strings history a.standing.heard x heard_here

    news_seen : Within (flat_map (news_strings volume.geometry) news) strings
    news_seen = λ s m. (let from = among_flat_map (news_strings volume.geometry) s news m in (each_heard from.0 from.1).seen s from.2)

    told_news : IsTold volume judge news
    told_news = record {
      sessions = a.countable.each;
      apart = none-within (known_strings volume.geometry judge ++ flat_map (news_strings volume.geometry) news) strings
          (λ s m. elim (among_either s (known_strings volume.geometry judge) (flat_map (news_strings volume.geometry) news) m) [ inl old ↦ known_seen s old | inr new ↦ news_seen s new ]) none;
      tagged = λ y among. (each_heard y among).tagged;
    }

    each_heard_of : (y : News) → IsAmong y news → IsHeardOf events posts sent y
    each_heard_of y among = elim among [
      | inl same ↦ subst (IsHeardOf events posts sent) (sym same) (step_heard events posts sent t given.handed)
      | inr earlier ↦
          let from = among_map (λ (q : Past). q.news) y (since begins history) earlier in
          subst (IsHeardOf events posts sent) (sym from.2) (a.heard from.0 (among_since begins history from.0 from.1))
    ]

    -- ---- what was replied

    sound_of : (name : NodeName) (m : Message) → IsHeardOf events posts sent (Says name m) → name.replica < shape.replicas → is_honest shape events (node_number shape name) ≡ true
        → WasPosted posts sent name m × IsOfVolume shape name
    sound_of name m (inl lied) low honest = absurd ((honest_node shape limits.volume events name low honest).1 lied)
    sound_of name m (inr was) low honest = (was, (honest_node shape limits.volume events name low honest).0)

    replies_sound : (e : ℕ) → RepliesSound volume events judge (replies_to e news)
    replies_sound e r among low honest =
        let from : IsReplied shape many events w e news r = replied_in shape many events w e news r among in
        let was = sound_of r.name (message.Gathered from.told) (each_heard_of (Says r.name (message.Gathered from.told)) from.among) low honest in
        let post = was.0 in
        subst (IsSoundHeld shape volume.key judge r.name.region) (sym from.held)
        (a.said post.k post.counted post.low post.post post.at r.name was.1 post.from honest from.told post.reads)

    pub before : IsBefore volume events history t.event x w
    before = record {
      client = a.reached.matches.client;
      good = good_now.0;
      guarded = good_now.1;
      legal = stepped.legal;
      countable = a.countable;
      opening = a.opening;
      later = later_of events n top t.event (asked_of history) x given.fits a.asked;
      heard_before = λ q among. heard_in shape limits.volume events posts sent w a.reached.matches.messages q.news (a.heard q among);
      heard_now = heard_in shape limits.volume events posts sent w a.reached.matches.messages x (step_heard events posts sent t given.handed);
      told = told_news;
      sound = replies_sound;
      room = room;
    }
