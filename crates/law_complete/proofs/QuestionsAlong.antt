-- Along a run: each question of the head that is asked, of a block of a sound server's region, is owed by it.
use Rattle.std.proofs.Common.{◌≡◌, ◌∙◌, inl, inr, ℕ, ◌+◌, ◌<◌, ◌≤◌, Bool, true, false, if◌then◌else◌, List, [], ◌∷◌, ◌++◌, reverse, Option, None, Some, refl, sym, ap, subst, arith, append_assoc, append-nil}
use Rattle.std.specs.List.{range_with_len}
use Rattle.std.proofs.lemmas.Bool.{cases_lt, true≢false}
use Rattle.std.proofs.lemmas.List.{reverse-append}
use Rattle.salus_types.specs.Volume.{Shape}
use Rattle.salus_types.specs.declared.names.NodeName.{NodeName}
use Rattle.salus_types.specs.declared.names.Sender.{Sender}
use Rattle.salus_types.specs.declared.names.Sender.TheVariants as sender
use Rattle.salus_types.specs.declared.strike.Strike.{Strike}
use Rattle.salus_message.specs.declared.small.Ask.{Ask}
use Rattle.salus_message.specs.declared.replies.Answer.{Answer}
use Rattle.salus_message.specs.declared.wire.Message.{Message}
use Rattle.salus_message.specs.declared.wire.Message.TheVariants as message
use Rattle.salus_message.proofs.MessageLaws.{message_again}
use Rattle.schedule_text.proofs.Decided.{same_ok}
use Rattle.schedule_text.specs.Limits.{IsOfVolume, IsWithinLimits}
use Rattle.schedule_text.specs.declared.schedule.Volume.{Volume}
use Rattle.schedule_text.specs.declared.schedule.Event.{Event}
use Rattle.merkle_region.specs.Tree.{IsAmong, NoTwoCollide}
use Rattle.volume_model.specs.Contents.{region_of}
use Rattle.volume_model.specs.Groups.{is_client, same_party, group_of}
use Rattle.salus_model.specs.declared.trace.TraceStep.{TraceStep}
use Rattle.salus_model.specs.Judge.{Judge}
use Rattle.salus_model.specs.Following.{Posted, sent_by}
use Rattle.salus_model.specs.Guarding.{is_lied_for}
use Rattle.salus_model.specs.Hearing.{News, Says, Silence, Past, news_in, news_of, phase_of, judge_of, since}
use Rattle.salus_model.specs.Waiting.{Question, all_taken, questions, live}
use Rattle.salus_model.specs.Answering.{Struck}
use Rattle.salus_model.specs.Due.{past_of, history_from}
use Rattle.salus_model.specs.Complete.{IsSound}
use Rattle.client_rules.specs.State as state
use Rattle.client_rules.specs.State.{Open, Letter, Told}
use Rattle.client_rules.specs.Tables.{worth}
use Rattle.client_rules.specs.Rules.{new_client, told, client_step}
use Rattle.replica_rules.specs.Nodes.{Memory}
use Rattle.replica_rules.specs.Rules.{Input}
use Rattle.run_rules.specs.Calm.{CalmFrom}
use Rattle.run_rules.specs.Knowing.{KnownNode, fresh, known_to}
use Rattle.run_rules.specs.Running.{addresses, after, AllSteps, formatted}
use Rattle.list_lemmas.proofs.Each.{OfSome}
use Rattle.list_lemmas.proofs.Members.{among_all, among_map-in, among_range-in}
use Rattle.list_lemmas.proofs.Tests.{by_bool}
use Rattle.law_lemmas.proofs.Named.{one-node}
use Rattle.law_lemmas.proofs.WellSent.{IsWellSent, AreWellSent}
use Rattle.law_lines.specs.Mirror.{MirrorsServing}
use Rattle.law_lines.specs.Mirrors.{Mirrors, AsDue}
use Rattle.law_lines.specs.Ready.{AsksFit, event_after, session_after}
use Rattle.law_history.specs.Handing.{steps_in}
use Rattle.law_answers.proofs.Rules.{OfInput}
use Rattle.law_posts.proofs.Along.{top_after}
use Rattle.law_reads.specs.Reading.{counts}
use Rattle.law_reads.specs.Serving.{IsClear}
use Rattle.law_reads.proofs.Away.{IsAway}
use Rattle.law_reads.proofs.Events.{hands_own, runs_for}
use Rattle.law_reads.proofs.Given.{IsSpelled}
use Rattle.law_reads.proofs.Readable.{IsReadable}
use Rattle.law_reads.proofs.Views.{readable_of}
use Rattle.law_reads.proofs.Sound.{calm_step, speaks_then}
use Rattle.law_reads.proofs.Underway.{HandsSent}
use Rattle.law_reads.proofs.Served.{IsSoundStep, served_step}
use Rattle.law_reads.proofs.Asking.{IsOwnStep}
use Rattle.law_asked.proofs.Kept.{WasAsked, IsHandedOver, brought, input_asked}
use Rattle.law_asked.proofs.Said.{IsSaid, step_said}
use Rattle.law_asked.proofs.Serves.{IsSentBy}
use Rattle.law_asked.proofs.Along as asked
use Rattle.law_served.proofs.Node.{Stands}
use Rattle.law_served.proofs.Fronts.{AtFront}
use Rattle.law_complete.proofs.Heads.{are_of_head}
use Rattle.law_complete.proofs.Asks.{HasNothing, begins_nothing, HeadFits, old_fits, own_ask, fits_by}
use Rattle.law_complete.proofs.Waits.{IsWaited, told_waited}
use Rattle.law_complete.proofs.Fair.{fair}
use Rattle.law_complete.proofs.Owed.{Owes, other_owes, client_owes}
use Rattle.law_complete.proofs.Gave.{HaveEnded, WereAsked, ended_then, asked_then}

-- a node of the volume is one of its region's group
pub in_group : (shape : Shape) (name : NodeName) → IsOfVolume shape name → IsAmong name (group_of shape name.region)
in_group shape name inside =
    let replica : name.replica < shape.replicas = inside.1 in
    among_map-in (λ (r : ℕ). record { region = name.region; replica = r }) (range_with_len 0 shape.replicas) name.replica (among_range-in shape.replicas 0 name.replica (omega arith) (omega (arith, replica)))

module _ (volume : Volume) (events : List Event) (posts : List Posted) (trace : List TraceStep) (limits : IsWithinLimits (record { volume = volume; events = events })) (strings : List (List ℕ)) (none : NoTwoCollide strings)
    (unlied : is_lied_for events sender.Client ≡ false) (name : NodeName) (sound : IsSound events trace name)
    (right : AllSteps volume.geometry posts name (fresh volume.geometry name.region (formatted volume name)) 0 trace) (inside : IsOfVolume volume.geometry name)
    (at : (done rest : List TraceStep) → trace ≡ done ++ rest → AtFront volume events posts name done) where
  abbrev shape : Shape
  shape = volume.geometry

  abbrev start : KnownNode
  start = fresh volume.geometry name.region (formatted volume name)

  abbrev first : state.Client
  first = new_client volume.geometry

  abbrev judge_here : List Past → Judge
  judge_here history = judge_of volume.geometry events history

  abbrev sent_of : List Past → ℕ
  sent_of history = sent_by (steps_in history)

  abbrev pub Before : List TraceStep → List Past → ℕ → ℕ → state.Client → KnownNode → Type 0
  Before done history n top c known = asked.IsAlong volume events posts trace limits strings none unlied name sound right done history n top c known

  abbrev pub Given : List Past → ℕ → ℕ → state.Client → KnownNode → List TraceStep → List TraceStep → Type 0
  Given history n m c known done rest = asked.AreGiven volume events posts trace limits strings none unlied name sound right history n m c known done rest

  -- each question of the head that is asked, of its region, is owed
  abbrev pub HeadsOwed : state.Client → KnownNode → List TraceStep → Type 0
  HeadsOwed (state.Serves s) known earlier =
      (o : Open) → IsAmong o s.asked → region_of volume.geometry o.question.block ≡ name.region → Owes volume posts name s.session o.question known.state.memory earlier
  HeadsOwed other known earlier = Unit {0}

  pub record IsOwing (done : List TraceStep) (history : List Past) (n : ℕ) (c : state.Client) (known : KnownNode) : Type 0 where
    pub order : reverse done ≡ steps_in history
    pub sent : HandsSent (steps_in history)
    pub speaks : known.silent ≡ false
    pub fits : (a : Ask) → WasAsked posts (sent_of history) a → HeadFits volume.geometry n c a
    pub owed : HeadsOwed c known (steps_in history)
    pub waited : IsWaited volume.geometry c
    pub ended : HaveEnded volume events history
    pub asked : WereAsked volume events history

  nothing_owed : (c : state.Client) (known : KnownNode) (earlier : List TraceStep) → HasNothing c → HeadsOwed c known earlier
  nothing_owed (state.Serves s) known earlier nothing = λ o among region. absurd (subst (λ (l : List Open). IsAmong o l) nothing.1 among)
  nothing_owed state.Closed known earlier nothing = tt
  nothing_owed (state.Gathers g) known earlier nothing = tt
  nothing_owed (state.Fetches f) known earlier nothing = tt
  nothing_owed (state.Stages b) known earlier nothing = tt
  nothing_owed (state.Switches b) known earlier nothing = tt

  -- ---- a step

  module _ (done : List TraceStep) (history : List Past) (n top : ℕ) (c : state.Client) (known : KnownNode) (a : Before done history n top c known) (w : IsOwing done history n c known) (t : TraceStep) (rest : List TraceStep)
      (given : Given history n (top + 1) c known done (t ∷ rest)) (calm : CalmFrom events (steps_in history) (t ∷ rest)) where
    abbrev x : News
    x = news_of posts t

    abbrev p : Past
    p = past_of volume events posts history t

    abbrev earlier : List TraceStep
    earlier = steps_in history

    abbrev answer : Told
    answer = told volume c t.event x

    abbrev next : KnownNode
    next = after volume.geometry posts name known t

    abbrev next_n : ℕ
    next_n = event_after n t.event x

    abbrev judge : Judge
    judge = judge_here history

    well : IsWellSent posts (steps_in history) t × AreWellSent posts (t ∷ steps_in history) rest
    well = asked.well_here volume events posts trace limits strings none unlied name sound right done history n top c known a t rest given

    row : AsDue volume (p ∷ history) (judge_here (p ∷ history)) next_n (session_after (top + 1) x) p.lines answer
    row = asked.row volume events posts trace limits strings none unlied name sound right done history n top c known a t rest given

    step_fits : AsksFit events n (top + 1) t.event x
    step_fits = (asked.fits volume events posts trace limits strings none unlied name sound right done history n top c known a t rest given).0

    over : IsHandedOver events (sent_of history) t.handed
    over = asked.over volume events posts trace limits strings none unlied name sound right done history n top c known a t rest given

    then_along : Before (done ++ t ∷ []) (p ∷ history) next_n (top_after top x) answer.client next
    then_along = asked.along_then volume events posts trace limits strings none unlied name sound right done history n top c known a t rest given

    sent_then : HandsSent (t ∷ earlier)
    unfolding HandsSent
    sent_then = (λ k hit. (well.0.before k hit).1, well.0.more, w.sent)

    -- ---- parties

    party_is : (who : Sender) → t.party ≡ who → same_party t.party (sender.Node name) ≡ true → t.party ≡ sender.Node name
    party_is sender.Client is hit = absurd (true≢false (sym hit ∙ ap (λ (y : Sender). same_party y (sender.Node name)) is))
    party_is (sender.Node other) is hit = is ∙ ap (λ (k : NodeName). sender.Node k) (one-node other name (sym (ap (λ (y : Sender). same_party y (sender.Node name)) is) ∙ hit))

    calm_for : t.party ≡ sender.Node name → t.failed ≡ false
    unfolding CalmFrom
    calm_for party = calm_step events posts trace name sound earlier t (given.inside t (inl refl)) party calm.0

    unloaded_for : t.party ≡ sender.Node name → t.loaded ≡ None
    unloaded_for party = asked.unloaded volume events posts trace limits strings none unlied name sound right done history n top c known a t rest given party

    own_next : addresses name t ≡ true → next ≡ known_to shape name.region posts known t.handed t.failed t.loaded
    own_next mine = ap (λ (b : Bool). if b then known_to shape name.region posts known t.handed t.failed t.loaded else known) mine

    other_next : addresses name t ≡ false → next ≡ known
    other_next away = ap (λ (b : Bool). if b then known_to shape name.region posts known t.handed t.failed t.loaded else known) away

    speaks_next : next.silent ≡ false
    speaks_next =
        by_bool (addresses name t) (next.silent ≡ false)
        (λ mine.
        let party : t.party ≡ sender.Node name = party_is t.party refl mine in
        ap (λ (k : KnownNode). k.silent) (own_next mine) ∙ speaks_then shape posts name.region known t.handed t.failed t.loaded w.speaks (calm_for party) (unloaded_for party))
        (λ away. ap (λ (k : KnownNode). k.silent) (other_next away) ∙ w.speaks)

    silent_for : is_client t.party ≡ false → x ≡ Silence
    silent_for other = ap (λ (b : Bool). if b then news_in posts t.handed else Silence) other

    same_client : is_client t.party ≡ false → answer.client ≡ c
    unfolding told
    same_client other = ap (λ (y : News). (told volume c t.event y).client) (silent_for other)

    -- ---- the asks that were sent

    fits_then : (q : Ask) → WasAsked posts t.sent q → HeadFits volume.geometry next_n answer.client q
    fits_then q was = elim (cases_lt (sent_of history) was.k) [
      | inl above ↦
          let l = asked.letter_of volume events posts trace limits strings none unlied name sound right done history n top c known a t rest given was.k above was.low was.post was.at was.from in
          let same : l.l.message ≡ message.Ask q = same_ok l.l.message (message.Ask q) (sym l.reads ∙ was.reads) in
          fits_by volume (p ∷ history) (judge_here (p ∷ history)) next_n then_along.small answer.client row.holds.mirrors q (subst (λ (m : Message). IsSentBy shape answer.client m) same l.by)
      | inr within ↦
          old_fits volume events n (top + 1) t.event x step_fits q c (w.fits q (record { k = was.k; counted = was.counted; low = within; post = was.post; at = was.at; from = was.from; reads = was.reads }))
    ]

    -- ---- a step of the client

    own_step : t.party ≡ sender.Client → IsOwnStep volume posts c earlier t
    own_step party = record {
      by = asked.client_now volume events posts trace limits strings none unlied name sound right done history n top c known a t rest given party;
      party = party;
      own = hands_own events posts t given.of.0;
      runs = runs_for events posts t.party t.handed given.of.0 (ap is_client party);
      spelled = λ l among. let one : IsSpelled l = among_all IsSpelled (client_step volume posts c t).outs l among
          (asked.spelled_here volume events posts trace limits strings none unlied name sound right done history n top c known a t rest given).0 in (message_again l.message one.0 one.1, one.1);
    }

    module _ (s : state.Serving) (is : c ≡ state.Serves s) where
      mirrors : MirrorsServing shape history judge n s
      mirrors = subst (λ (d : state.Client). Mirrors volume history judge n d) is a.holds.mirrors

      owed_before : (o : Open) → IsAmong o s.asked → region_of shape o.question.block ≡ name.region → Owes volume posts name s.session o.question known.state.memory earlier
      owed_before = subst (λ (d : state.Client). HeadsOwed d known earlier) is w.owed

      is_fair : (o : Open) → region_of shape o.question.block ≡ name.region → (q : Answer) → x ≡ Says name (message.Answer q) → counts shape s name q ≡ true → q.block ≡ o.question.block → (k : Strike) → worth shape s q ≡ Struck k → ⊥
      is_fair o region q told_is count block k struck =
          fair volume events posts trace history judge n (sent_of history) name sound a.standing.settled.sized a.rooted s mirrors q
          (subst (λ (y : News). IsSaid events posts (sent_of history) y) told_is (step_said events posts (sent_of history) t over)) count (ap (region_of shape) block ∙ region) k struck

      group_of_block : (o : Open) → region_of shape o.question.block ≡ name.region → IsAmong name (group_of shape (region_of shape o.question.block))
      group_of_block o region = subst (λ (g : ℕ). IsAmong name (group_of shape g)) (sym region) (in_group shape name inside)

      by_next : t.party ≡ sender.Client → (d : state.Client) → (told volume (state.Serves s) t.event x).client ≡ d → HeadsOwed d known (t ∷ earlier)
      by_next party (state.Serves nx) goes = λ o o_in region.
          client_owes volume posts name known.state.memory earlier t sent_then s (subst (λ (d : state.Client). IsOwnStep volume posts d earlier t) is (own_step party)) nx goes o o_in
          (are_of_head shape history judge n s mirrors) (is_fair o region) (group_of_block o region)
          (λ b b_in same. owed_before b b_in (ap (λ (q : Question). region_of shape q.block) same ∙ region))
      by_next party state.Closed goes = tt
      by_next party (state.Gathers g) goes = tt
      by_next party (state.Fetches f) goes = tt
      by_next party (state.Stages b) goes = tt
      by_next party (state.Switches b) goes = tt

      -- ---- a step of the server

      module _ (party : t.party ≡ sender.Node name) where
        mine : addresses name t ≡ true
        mine = asked.mine volume events posts trace limits strings none unlied name sound right done history n top c known a t rest given party

        other : is_client t.party ≡ false
        other = ap is_client party

        here : AtFront volume events posts name done
        here = at done (t ∷ rest) given.whole

        then_here : AtFront volume events posts name (done ++ t ∷ [])
        then_here = at (done ++ t ∷ []) rest (given.whole ∙ sym (append_assoc done (t ∷ []) rest))

        stands : Stands shape volume.key (judge_of volume.geometry events (history_from volume events posts [] done)) name.region known.state.held known.state.memory
        stands = subst (λ (k : KnownNode). Stands shape volume.key (judge_of volume.geometry events (history_from volume events posts [] done)) name.region k.state.held k.state.memory) a.known_is here.stands

        served : known.state.held.session ≡ s.session
        served = subst (λ (k : KnownNode). k.state.held.session ≡ s.session) a.known_is (here.served s (a.client_is ∙ is))

        served_next : (known_to shape name.region posts known t.handed t.failed t.loaded).state.held.session ≡ s.session
        served_next = subst (λ (k : KnownNode). k.state.held.session ≡ s.session) (then_along.known_is ∙ own_next mine) (then_here.served s (then_along.client_is ∙ (same_client other ∙ is)))

        sound_step : IsSoundStep shape posts name known earlier t
        sound_step = record {
          by = asked.node_now volume events posts trace limits strings none unlied name sound right done history n top c known a t rest given party;
          party = party;
          own = hands_own events posts t given.of.0;
          speaks = w.speaks;
          calm = calm_for party;
          unloaded = unloaded_for party;
        }

        clear : (o : Open) → IsAmong o s.asked → IsClear shape posts name s.session o.question.number o.question.block known t
        clear o o_in = record {
          stays = served_next ∙ sym served;
          asks = λ input handed q brings read.
              let was : OfInput (λ rec. Unit {0}) (WasAsked posts (sent_of history)) input =
              subst (λ (i : Option Input). OfSome (λ (y : Input). OfInput (λ rec. Unit {0}) (WasAsked posts (sent_of history)) y) i) handed (input_asked events posts (sent_of history) unlied t.handed over) in
              own_ask shape history judge n s mirrors o o_in q
              (subst (λ (d : state.Client). HeadFits shape n d q) is (w.fits q (brought (WasAsked posts (sent_of history)) input q was brings))) read;
        }

        readable : (m : Memory) → (known_to shape name.region posts known t.handed t.failed t.loaded).state.memory ≡ Some m → IsReadable shape m.replica.view
        readable m there = readable_of shape next (then_along.fit inside.0) (then_along.low inside.0) m (ap (λ (k : KnownNode). k.state.memory) (own_next mine) ∙ there)

        by_server : HeadsOwed (state.Serves s) (known_to shape name.region posts known t.handed t.failed t.loaded) (t ∷ earlier)
        by_server o o_in region =
            served_step shape posts name s.session o.question.number o.question.block known earlier t sound_step sent_then limits.volume (clear o o_in)
            readable ⊥ stands.m stands.there (stands.session ∙ served) region (owed_before o o_in region)

      -- ---- another's step

      by_other : is_client t.party ≡ false → addresses name t ≡ false → HeadsOwed (state.Serves s) known (t ∷ earlier)
      by_other other away o o_in region =
          other_owes volume posts name known.state.memory earlier t sent_then s.session o.question other away (hands_own events posts t given.of.0) well.0.more (owed_before o o_in region)

    -- ---- any step

    owed_away : IsAway c → HeadsOwed answer.client next (t ∷ earlier)
    owed_away away = nothing_owed answer.client next (t ∷ earlier) (begins_nothing volume c away t.event x)

    owed_serving : (s : state.Serving) → c ≡ state.Serves s → (who : Sender) → t.party ≡ who → HeadsOwed answer.client next (t ∷ earlier)
    owed_serving s is sender.Client party =
        subst (λ (k : KnownNode). HeadsOwed answer.client k (t ∷ earlier)) (sym (other_next (ap (λ (y : Sender). same_party y (sender.Node name)) party)))
        (subst (λ (d : state.Client). HeadsOwed (told volume d t.event x).client known (t ∷ earlier)) (sym is) (by_next s is party (told volume (state.Serves s) t.event x).client refl))
    owed_serving s is (sender.Node node) party =
        let off : is_client t.party ≡ false = ap is_client party in
        subst (λ (d : state.Client). HeadsOwed d next (t ∷ earlier)) (sym (same_client off ∙ is))
        (by_bool (addresses name t) (HeadsOwed (state.Serves s) next (t ∷ earlier))
        (λ hit. subst (λ (k : KnownNode). HeadsOwed (state.Serves s) k (t ∷ earlier)) (sym (own_next hit)) (by_server s is (party_is t.party refl hit)))
        (λ away. subst (λ (k : KnownNode). HeadsOwed (state.Serves s) k (t ∷ earlier)) (sym (other_next away)) (by_other s is off away)))

    owed_by : (d : state.Client) → c ≡ d → HeadsOwed answer.client next (t ∷ earlier)
    owed_by (state.Serves s) is = owed_serving s is t.party refl
    owed_by state.Closed is = owed_away (subst IsAway (sym is) tt)
    owed_by (state.Gathers g) is = owed_away (subst IsAway (sym is) tt)
    owed_by (state.Fetches f) is = owed_away (subst IsAway (sym is) tt)
    owed_by (state.Stages b) is = owed_away (subst IsAway (sym is) tt)
    owed_by (state.Switches b) is = owed_away (subst IsAway (sym is) tt)

    -- So it is after the step.
    owing_then : IsOwing (done ++ t ∷ []) (p ∷ history) next_n answer.client next
    owing_then = record {
      order = reverse-append done (t ∷ []) ∙ ap (λ (l : List TraceStep). t ∷ l) w.order;
      sent = sent_then;
      speaks = speaks_next;
      fits = fits_then;
      owed = owed_by c refl;
      waited = told_waited volume c t.event x w.waited;
      ended = ended_then volume events posts history t w.ended;
      asked = asked_then volume events posts history t c next_n row.holds.mirrors;
    }

  -- ---- along the run

  first_owing : IsOwing [] [] 1 (new_client volume.geometry) start
  unfolding HandsSent questions live since all_taken phase_of
  first_owing = record {
    order = refl;
    sent = tt;
    speaks = refl;
    fits = λ q was. (let counted : 0 < was.k = was.counted in let low : was.k ≤ 0 = was.low in absurd (omega (arith, counted, low)));
    owed = λ o among. absurd among;
    waited = λ empty. refl;
    ended = λ v gives. absurd (true≢false (sym gives));
    asked = λ q asks. absurd (true≢false (sym asks));
  }

  -- at the end of these steps
  pub record IsEnd (done : List TraceStep) (history : List Past) : Type 0 where
    pub n : ℕ
    pub top : ℕ
    pub c : state.Client
    pub known : KnownNode
    pub before : Before done history n top c known
    pub owing : IsOwing done history n c known

  calm_rest : (t : TraceStep) (old rest : List TraceStep) → CalmFrom events old (t ∷ rest) → CalmFrom events (t ∷ old) rest
  unfolding CalmFrom
  calm_rest t old rest calm = calm.1

  end_of : (steps done : List TraceStep) (history : List Past) (n top : ℕ) (c : state.Client) (known : KnownNode) → Before done history n top c known → IsOwing done history n c known
      → Given history n (top + 1) c known done steps → CalmFrom events (steps_in history) steps → IsEnd (done ++ steps) (history_from volume events posts history steps)
  unfolding history_from
  end_of [] done history n top c known before owing given calm =
      subst (λ (l : List TraceStep). IsEnd l history) (sym (append-nil done)) (record { n = n; top = top; c = c; known = known; before = before; owing = owing })
  end_of (t ∷ steps) done history n top c known before owing given calm =
      subst (λ (l : List TraceStep). IsEnd l (history_from volume events posts (past_of volume events posts history t ∷ history) steps)) (append_assoc done (t ∷ []) steps)
      (end_of steps (done ++ t ∷ []) (past_of volume events posts history t ∷ history) _ _ _ _
      (asked.along_then volume events posts trace limits strings none unlied name sound right done history n top c known before t steps given)
      (owing_then done history n top c known before owing t steps given calm)
      (asked.given_then volume events posts trace limits strings none unlied name sound right done history n top c known before t steps given)
      (calm_rest t (steps_in history) steps calm))

  -- So at the end of the run.
  pub end_owing : Before [] [] 1 1 (new_client volume.geometry) start → Given [] 1 2 (new_client volume.geometry) start [] trace → CalmFrom events [] trace → IsEnd trace (history_from volume events posts [] trace)
  end_owing before given calm = end_of trace [] [] 1 1 (new_client volume.geometry) start before first_owing given calm
