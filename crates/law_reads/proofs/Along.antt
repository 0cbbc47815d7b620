-- Along a run: a read that was asked and has no block yet is open, and what it waits for is owed by the server.
use Rattle.std.proofs.Common.{◌≡◌, ◌∙◌, ◌⊎◌, inl, inr, ℕ, zero, suc, ◌^◌, ◌<◌, ◌≤◌, ◌&&◌, ◌||◌, not, Bool, true, false, if◌then◌else◌, List, ◌∷◌, Option, None, Some, refl, sym, ap, subst, arith}
use Rattle.std.specs.Prelude.{IfSome, replicate}
use Rattle.std.specs.List.{list_any}
use Rattle.std.proofs.lemmas.Bool.{true≢false, eq-eqb, not-true}
use Rattle.salus_types.specs.Volume.{Shape, IsVolume}
use Rattle.salus_types.specs.declared.names.NodeName.{NodeName}
use Rattle.salus_types.specs.declared.names.Sender.{Sender}
use Rattle.salus_types.specs.declared.names.Sender.TheVariants as sender
use Rattle.schedule_text.specs.declared.schedule.Volume.{Volume}
use Rattle.schedule_text.specs.declared.schedule.Event.{Event}
use Rattle.printed_lines.specs.declared.line.Line.{Line}
use Rattle.printed_lines.specs.declared.line.Line.TheVariants as line
use Rattle.merkle_region.specs.Tree.{IsAmong}
use Rattle.volume_model.specs.Contents.{region_of}
use Rattle.volume_model.specs.Groups.{is_client, same_party, group_of}
use Rattle.salus_model.specs.declared.trace.Handed.{Handed}
use Rattle.salus_model.specs.declared.trace.Handed.TheVariants as handed
use Rattle.salus_model.specs.declared.trace.TraceStep.{TraceStep}
use Rattle.salus_model.specs.Following.{Posted, posted_at, hands, sent_by}
use Rattle.salus_model.specs.Judge.{Judge}
use Rattle.salus_model.specs.Hearing.{News, Asks, Says, Crashes, Silence, Past, news_in, news_of, since, opens, judge_of, Phase, is_serving, phase_of}
use Rattle.salus_model.specs.Waiting.{all_taken, is_asked}
use Rattle.salus_model.specs.Due.{due_news, past_of}
use Rattle.salus_model.specs.Complete.{is_crash, gives_block, has_block, read_question, was_asked}
use Rattle.client_rules.specs.State as state
use Rattle.client_rules.specs.State.{Open, Told}
use Rattle.client_rules.specs.Rules.{is_tick, told}
use Rattle.replica_rules.specs.Nodes.{Memory}
use Rattle.run_rules.specs.Knowing.{KnownNode, known_to}
use Rattle.run_rules.specs.Running.{addresses, after}
use Rattle.list_lemmas.proofs.Members.{among_all, any_from}
use Rattle.list_lemmas.proofs.Tests.{by_bool, by_either, and_left, and_right, or_true}
use Rattle.law_lemmas.proofs.Named.{node-itself}
use Rattle.law_lines.specs.Mirrors.{Mirrors, Holds, AsDue}
use Rattle.law_lines.specs.Ready.{IsReady, event_after, session_after}
use Rattle.law_lines.proofs.Openings.{HasNodes}
use Rattle.law_lines.proofs.Anywhere.{step_as_due}
use Rattle.law_lines.proofs.Whole.{AllScripted, head_written, next_scripted, small_after}
use Rattle.law_reads.specs.Reading.{UnstruckAt, HaveOwnNumbers, StaysOpen, GivesBlock, IsAskedOf, IsNew, OpensAsked}
use Rattle.law_reads.specs.Serving.{IsReadOf, IsOpenRead, KeepsOne, InSession, ServesAt, FairAt}
use Rattle.law_reads.proofs.Relay.{IsKept, IsAsked, owed_step}
use Rattle.law_reads.proofs.Underway.{HandsSent}
use Rattle.law_reads.proofs.Opened.{opens_asked}
use Rattle.law_reads.proofs.Readable.{IsReadable}
use Rattle.law_reads.proofs.Served.{IsAskOf, IsReplyOf, IsOwed, HandsOwn, IsSoundStep, served_step}
use Rattle.law_reads.proofs.Asking.{IsOwnStep, ask_sent, client_on}
use Rattle.law_reads.proofs.Mirrored.{own_numbers, number_below, asked_open}
use Rattle.law_reads.proofs.Away.{NoReads, IsAway, away_reads}

-- ---- small facts

none_struck : (i n : ℕ) → i < n → UnstruckAt i (replicate n None)
unfolding UnstruckAt
none_struck i zero less = omega (arith, less)
none_struck zero (suc n) less = refl
none_struck (suc i) (suc n) less = none_struck i n (omega (arith, less))

crash_is : (x : News) → is_crash x ≡ true → x ≡ Crashes
crash_is Crashes is = refl
crash_is (Asks r) is = absurd (cc)
crash_is (Says name m) is = absurd (cc)
crash_is Silence is = absurd (cc)

tick_silent : (posts : List Posted) (what : Handed) → is_tick what ≡ true → news_in posts what ≡ Silence
tick_silent posts handed.Tick is = refl
tick_silent posts (handed.Asked r) is = absurd (cc)
tick_silent posts (handed.Deliver k) is = absurd (cc)
tick_silent posts (handed.Stop k) is = absurd (cc)
tick_silent posts (handed.Lie from bytes) is = absurd (cc)
tick_silent posts handed.Crash is = absurd (cc)
tick_silent posts handed.Replace is = absurd (cc)
tick_silent posts handed.ClientCrash is = absurd (cc)

-- a client that is at something else asks nothing
away_phase : (history : List Past) (phase : Phase) → phase_of history ≡ phase → is_serving phase ≡ false → (b : Bool) → (is_serving (phase_of history) && b) ≡ true → ⊥
away_phase history phase is off b asked = true≢false (sym (and_left (is_serving (phase_of history)) b asked) ∙ (ap is_serving is ∙ off))

serves_one : (s next : state.Serving) → state.Serves s ≡ state.Serves next → s ≡ next
serves_one s next is = cc

module _ (volume : Volume) (events : List Event) (posts : List Posted) (nodes : HasNodes volume.geometry) (fits : IsVolume volume.geometry) (name : NodeName) (v b : ℕ)
    (region : region_of volume.geometry b ≡ name.region) (group : IsAmong name (group_of volume.geometry (region_of volume.geometry b))) (replica : name.replica < volume.geometry.replicas) where
  abbrev shape : Shape
  shape = volume.geometry

  abbrev judge_now : List Past → Judge
  judge_now history = judge_of shape events history

  abbrev pub told_now : state.Client → TraceStep → Told
  told_now c t = told volume c t.event (news_of posts t)

  abbrev pub known_then : KnownNode → TraceStep → KnownNode
  known_then known t = after shape posts name known t

  -- ---- what is given of a step

  -- the server's view after the step can be read back
  abbrev pub ReadableThen : KnownNode → TraceStep → Type 0
  ReadableThen known t = (m : Memory) → (known_to shape name.region posts known t.handed t.failed t.loaded).state.memory ≡ Some m → IsReadable shape m.replica.view

  pub data Given (c : state.Client) (known : KnownNode) (earlier : List TraceStep) (t : TraceStep) : Type 0 where
    ByClient : IsOwnStep volume posts c earlier t → FairAt shape posts name v b c t → Given c known earlier t
    ByServer : IsSoundStep shape posts name known earlier t → ReadableThen known t → ServesAt shape posts name v b c known t → Given c known earlier t
    ByOther : is_client t.party ≡ false → addresses name t ≡ false → HandsOwn posts t → sent_by earlier ≤ t.sent → Given c known earlier t

  -- ---- parties

  silent_for : (t : TraceStep) → is_client t.party ≡ false → news_of posts t ≡ Silence
  silent_for t other = ap (λ (p : Bool). if p then news_in posts t.handed else Silence) other

  same_known : (known : KnownNode) (t : TraceStep) → addresses name t ≡ false → known_then known t ≡ known
  same_known known t other = ap (λ (p : Bool). if p then known_to shape name.region posts known t.handed t.failed t.loaded else known) other

  own_known : (known : KnownNode) (t : TraceStep) → t.party ≡ sender.Node name → known_then known t ≡ known_to shape name.region posts known t.handed t.failed t.loaded
  own_known known t party =
      ap (λ (p : Bool). if p then known_to shape name.region posts known t.handed t.failed t.loaded else known) (ap (λ (w : Sender). same_party w (sender.Node name)) party ∙ node-itself name)

  not_server : (t : TraceStep) → t.party ≡ sender.Client → addresses name t ≡ false
  not_server t party = ap (λ (w : Sender). same_party w (sender.Node name)) party

  not_client : (t : TraceStep) → t.party ≡ sender.Node name → is_client t.party ≡ false
  not_client t party = ap is_client party

  -- the step is silent for the client, or it is the client's own and no tick
  data Speaks (c : state.Client) (earlier : List TraceStep) (t : TraceStep) : Type 0 where
    OwnNews : IsOwnStep volume posts c earlier t → is_tick t.handed ≡ false → Speaks c earlier t
    NoNews : news_of posts t ≡ Silence → Speaks c earlier t

  speaks_by : (c : state.Client) (known : KnownNode) (earlier : List TraceStep) (t : TraceStep) → Given c known earlier t → Speaks c earlier t
  speaks_by c known earlier t (ByClient own fair) =
      by_bool (is_tick t.handed) (Speaks c earlier t)
      (λ tick. NoNews (by_bool (is_client t.party) (news_of posts t ≡ Silence)
      (λ mine. ap (λ (p : Bool). if p then news_in posts t.handed else Silence) mine ∙ tick_silent posts t.handed tick) (λ other. silent_for t other)))
      (λ still. OwnNews own still)
  speaks_by c known earlier t (ByServer sound readable serves) = NoNews (silent_for t (not_client t sound.party))
  speaks_by c known earlier t (ByOther other away own more) = NoNews (silent_for t other)

  -- ---- an open read through a step

  pub record GoesOn (s : state.Serving) (o : Open) (c : state.Client) (known : KnownNode) (now : List TraceStep) : Type 0 where
    pub stays : StaysOpen name.replica o s.session c
    pub owed : IsOwed shape posts name s.session v b ⊥ known.state.memory now

  module _ (s : state.Serving) (known : KnownNode) (earlier : List TraceStep) (t : TraceStep) (sent : HandsSent (t ∷ earlier)) (o : Open) (there : IsAmong o s.reads) (of : IsReadOf v b o.question)
      (un : UnstruckAt name.replica o.strikes) where
    abbrev Ends : Type 0
    Ends = GoesOn s o (told_now (state.Serves s) t).client (known_then known t) (t ∷ earlier) ⊎ GivesBlock o (told_now (state.Serves s) t).lines

    stays_still : news_of posts t ≡ Silence → StaysOpen name.replica o s.session (told_now (state.Serves s) t).client
    unfolding told
    stays_still silent =
        subst (λ (x : News). StaysOpen name.replica o s.session (told volume (state.Serves s) t.event x).client) (sym silent)
        (record { serving = s; is = refl; session = refl; read = o; among = there; question = refl; unstruck = un })

    not_here : (k : ℕ) (m : Posted) → posted_at posts k ≡ Some m → HandsOwn posts t → hands k t.handed ≡ true → m.to ≡ t.party
    not_here k m at own hit = subst (λ (p : Option Posted). IfSome p (λ q. q.to ≡ t.party)) at (own k hit)

    other_owed : is_client t.party ≡ false → addresses name t ≡ false → HandsOwn posts t → sent_by earlier ≤ t.sent → IsOwed shape posts name s.session v b ⊥ known.state.memory earlier
        → IsOwed shape posts name s.session v b ⊥ known.state.memory (t ∷ earlier)
    other_owed other away own more owed =
        owed_step (IsAskOf posts name s.session v b) (IsReplyOf shape posts name s.session v b) ⊥ (KeepsOne s.session v b known.state.memory) ⊥ (KeepsOne s.session v b known.state.memory) t earlier more
        (record {
          done = λ done. absurd done;
          kept = λ kept. IsKept kept;
          asked = λ arrives. absurd (true≢false (sym (node-itself name) ∙ (ap (λ (w : Sender). same_party w (sender.Node name)) (not_here arrives.k _ arrives.is_one.at own arrives.handed) ∙ away)));
          answered = λ arrives. absurd (true≢false (ap is_client (not_here arrives.k _ arrives.is_one.at own arrives.handed) ∙ other));
        }) owed

    open_on : Given (state.Serves s) known earlier t → v < 2 ^ 32 → HaveOwnNumbers s.reads → is_crash (news_of posts t) ≡ false → IsOwed shape posts name s.session v b ⊥ known.state.memory earlier → Ends
    open_on (ByClient own fair) small one calm owed =
        elim (client_on volume posts name s.session v b s o earlier t own sent one there refl of.number of.block small (fair o there of) known.state.memory un calm owed) [
          | inl w ↦ inl (record { stays = w.stays; owed = subst (λ (k : KnownNode). IsOwed shape posts name s.session v b ⊥ k.state.memory (t ∷ earlier)) (sym (same_known known t (not_server t own.party))) w.owed })
          | inr g ↦ inr g
        ]
    open_on (ByServer sound readable serves) small one calm owed =
        let in_session : InSession shape posts name s.session v b known t = serves (record { read = o; among = there; of = of }) in
        inl (record {
          stays = stays_still (silent_for t (not_client t sound.party));
          owed = subst (λ (k : KnownNode). IsOwed shape posts name s.session v b ⊥ k.state.memory (t ∷ earlier)) (sym (own_known known t sound.party))
              (served_step shape posts name s.session v b known earlier t sound sent fits in_session.clear readable ⊥ in_session.m in_session.there in_session.session region owed);
        })
    open_on (ByOther other away own more) small one calm owed =
        inl (record {
          stays = stays_still (silent_for t other);
          owed = subst (λ (k : KnownNode). IsOwed shape posts name s.session v b ⊥ k.state.memory (t ∷ earlier)) (sym (same_known known t away)) (other_owed other away own more owed);
        })

  -- ---- what holds between two steps

  -- the read is open
  abbrev pub IsOpenAt : state.Client → Type 0
  IsOpenAt (state.Serves c) = IsOpenRead v b c
  IsOpenAt other = ⊥

  -- where it is open, the server has no strike at it, and owes it
  abbrev pub IsOwedAt : state.Client → KnownNode → List TraceStep → Type 0
  IsOwedAt (state.Serves c) known earlier =
      (o : Open) → IsAmong o c.reads → IsReadOf v b o.question → UnstruckAt name.replica o.strikes × IsOwed shape posts name c.session v b ⊥ known.state.memory earlier
  IsOwedAt other known earlier = Unit {0}

  pub record IsAlong (history : List Past) (n m : ℕ) (c : state.Client) (known : KnownNode) (earlier : List TraceStep) : Type 0 where
    pub holds : Holds volume history (judge_now history) n m c
    pub small_now : n ≤ 2 ^ 32
    pub script : AllScripted events (all_taken (since opens history))
    pub sent : HandsSent earlier
    pub asked : was_asked shape events (read_question v b) history ≡ true → (has_block v history ≡ true) ⊎ IsOpenAt c
    pub owed : has_block v history ≡ false → IsOwedAt c known earlier

  -- a step, and what is given of it
  pub record IsGiven (history : List Past) (n m : ℕ) (c : state.Client) (known : KnownNode) (earlier : List TraceStep) (t : TraceStep) : Type 0 where
    pub ready : IsReady volume events history (judge_now history) n m t.event (news_of posts t)
    pub hands_sent : (k : ℕ) → hands k t.handed ≡ true → k ≤ sent_by earlier
    pub more : sent_by earlier ≤ t.sent
    pub given : Given c known earlier t

  -- ---- a step

  serving_open : (history : List Past) (n : ℕ) (c : state.Client) → n ≤ 2 ^ 32 → Mirrors volume history (judge_now history) n c → is_asked shape history (judge_now history) (read_question v b) ≡ true → IsOpenAt c
  serving_open history n (state.Serves c) low m asked = asked_open shape history (judge_now history) n c m v b low asked
  serving_open history n state.Closed low m asked = absurd (away_phase history _ m refl _ asked)
  serving_open history n (state.Gathers g) low m asked = absurd (away_phase history _ m.phase refl _ asked)
  serving_open history n (state.Fetches f) low m asked = absurd (away_phase history _ m.phase refl _ asked)
  serving_open history n (state.Stages d) low m asked = absurd (away_phase history _ m.phase refl _ asked)
  serving_open history n (state.Switches d) low m asked = absurd (away_phase history _ m.phase refl _ asked)

  module _ (history : List Past) (n m : ℕ) (known : KnownNode) (earlier : List TraceStep) (t : TraceStep) where
    abbrev p : Past
    p = past_of volume events posts history t

    abbrev x : News
    x = news_of posts t

    abbrev due : List Line
    due = due_news volume events history (judge_now history) t.event x

    gives_now : (o : Open) (lines : List Line) → lines ≡ due → o.question.event ≡ v → GivesBlock o lines → has_block v (p ∷ history) ≡ true
    gives_now o lines same event gives =
        ap (λ (w : Bool). w || has_block v history)
        (any_from (gives_block v) (line.Read o.question.event o.question.block gives.bytes) due (subst (λ (l : List Line). IsAmong (line.Read o.question.event o.question.block gives.bytes) l) same gives.among)
        (eq-eqb o.question.event v event))

    gave_before : has_block v history ≡ true → has_block v (p ∷ history) ≡ true
    gave_before gave = ap (λ (w : Bool). list_any (gives_block v) due || w) gave ∙ or_true (list_any (gives_block v) due)

    none_before : has_block v (p ∷ history) ≡ false → has_block v history ≡ false
    none_before none = by_bool (has_block v history) (has_block v history ≡ false) (λ gave. absurd (true≢false (sym (gave_before gave) ∙ none))) (λ e. e)

    -- the request was asked now or before
    asked_then : (Goal : Type 0) → was_asked shape events (read_question v b) (p ∷ history) ≡ true
        → (is_crash x ≡ false → is_asked shape (p ∷ history) (judge_now (p ∷ history)) (read_question v b) ≡ true → Goal)
        → (is_crash x ≡ false → was_asked shape events (read_question v b) history ≡ true → Goal) → Goal
    unfolding was_asked
    asked_then Goal was now before =
        let asked : Bool = is_asked shape (p ∷ history) (judge_now (p ∷ history)) (read_question v b) in
        let earlier_asked : Bool = was_asked shape events (read_question v b) history in
        let calm : is_crash x ≡ false = not-true (is_crash x) (and_left (not (is_crash x)) (asked || earlier_asked) was) in
        by_either asked earlier_asked Goal (and_right (not (is_crash x)) (asked || earlier_asked) was) (λ is. now calm is) (λ is. before calm is)

    -- ---- of a client that serves

    module _ (s : state.Serving) (a : IsAlong history n m (state.Serves s) known earlier) (g : IsGiven history n m (state.Serves s) known earlier t) where
      sent_then : HandsSent (t ∷ earlier)
      unfolding HandsSent
      sent_then = (g.hands_sent, g.more, a.sent)

      row : AsDue volume (p ∷ history) (judge_now (p ∷ history)) (event_after n t.event x) (session_after m x) due (told_now (state.Serves s) t)
      row = step_as_due volume events history (judge_now history) n m t nodes (state.Serves s) a.holds a.small_now (head_written events history (judge_now history) a.script) x g.ready

      one : HaveOwnNumbers s.reads
      one = own_numbers shape history (judge_now history) n s a.holds.mirrors

      -- events are below 2^32
      small_of : (o : Open) → IsAmong o s.reads → IsReadOf v b o.question → v < 2 ^ 32
      small_of o there of =
          let below : o.question.number < n = number_below shape history (judge_now history) n s a.holds.mirrors o there in
          let number : o.question.number ≡ v = of.number in
          let low : n ≤ 2 ^ 32 = a.small_now in
          omega (arith, below, number, low)

      asked_next : was_asked shape events (read_question v b) (p ∷ history) ≡ true → (has_block v (p ∷ history) ≡ true) ⊎ IsOpenAt (told_now (state.Serves s) t).client
      asked_next was =
          asked_then ((has_block v (p ∷ history) ≡ true) ⊎ IsOpenAt (told_now (state.Serves s) t).client) was
          (λ calm now. inr (serving_open (p ∷ history) (event_after n t.event x) (told_now (state.Serves s) t).client (small_after events n m t.event x a.small_now g.ready.fits) row.holds.mirrors now))
          (λ calm before. elim (a.asked before) [
            | inl gave ↦ inl (gave_before gave)
            | inr is_open ↦ by_bool (has_block v history) ((has_block v (p ∷ history) ≡ true) ⊎ IsOpenAt (told_now (state.Serves s) t).client)
                (λ gave. inl (gave_before gave))
                (λ none. let owed = a.owed none is_open.read is_open.among is_open.of in
                elim (open_on s known earlier t sent_then is_open.read is_open.among is_open.of owed.0 g.given (small_of is_open.read is_open.among is_open.of) one calm owed.1) [
                  | inl on ↦ inr (still_open on.stays is_open.of)
                  | inr gives ↦ inl (gives_now is_open.read (told_now (state.Serves s) t).lines row.same is_open.of.event gives)
                ])
          ])
        where
          still_open : {c : state.Client} {o : Open} → StaysOpen name.replica o s.session c → IsReadOf v b o.question → IsOpenAt c
          still_open stays of =
              subst IsOpenAt (sym stays.is) (record {
                read = stays.read;
                among = stays.among;
                of = subst (λ q. IsReadOf v b q) (sym stays.question) of;
              })

      module _ (none : has_block v (p ∷ history) ≡ false) (next : state.Serving) (is : (told_now (state.Serves s) t).client ≡ state.Serves next) (o : Open) (there : IsAmong o next.reads)
          (of : IsReadOf v b o.question) where
        abbrev Owes : Type 0
        Owes = UnstruckAt name.replica o.strikes × IsOwed shape posts name next.session v b ⊥ (known_then known t).state.memory (t ∷ earlier)

        calm : is_crash x ≡ false
        unfolding told
        calm =
            by_bool (is_crash x) (is_crash x ≡ false)
            (λ crash. absurd (closed (sym (ap (λ (y : News). (told volume (state.Serves s) t.event y).client) (crash_is x crash)) ∙ is)))
            (λ e. e)
          where
            closed : state.Closed ≡ state.Serves next → ⊥
            closed e = cc

        one_next : HaveOwnNumbers next.reads
        one_next =
            own_numbers shape (p ∷ history) (judge_now (p ∷ history)) (event_after n t.event x) next
            (subst (λ (c : state.Client). Mirrors volume (p ∷ history) (judge_now (p ∷ history)) (event_after n t.event x) c) is row.holds.mirrors)

        -- it was open before
        owes_old : (w : Open) → IsAmong w s.reads → w.question ≡ o.question → Owes
        owes_old w w_in same =
            let w_of : IsReadOf v b w.question = subst (λ q. IsReadOf v b q) (sym same) of in
            let owed = a.owed (none_before none) w w_in w_of in
            elim (open_on s known earlier t sent_then w w_in w_of owed.0 g.given (small_of w w_in w_of) one calm owed.1) [
              | inl on ↦
                  let serving_is : on.stays.serving ≡ next = serves_one on.stays.serving next (sym on.stays.is ∙ is) in
                  let inside : IsAmong on.stays.read next.reads = subst (λ (d : state.Serving). IsAmong on.stays.read d.reads) serving_is on.stays.among in
                  let read_is : on.stays.read ≡ o = one_next o on.stays.read there inside (ap (λ q. q.number) (on.stays.question ∙ same)) in
                  let session : s.session ≡ next.session = sym on.stays.session ∙ ap (λ (d : state.Serving). d.session) serving_is in
                  (subst (λ (r : Open). UnstruckAt name.replica r.strikes) read_is on.stays.unstruck, subst (λ (e : ℕ). IsOwed shape posts name e v b ⊥ (known_then known t).state.memory (t ∷ earlier)) session on.owed)
              | inr gives ↦ absurd (true≢false (sym (gives_now w (told_now (state.Serves s) t).lines row.same w_of.event gives) ∙ none))
            ]

        -- it is new, and was asked
        owes_new : IsOwnStep volume posts (state.Serves s) earlier t → is_tick t.handed ≡ false → IsNew shape next o (told_now (state.Serves s) t).outs → Owes
        owes_new own still new = (
          subst (λ l. UnstruckAt name.replica l) (sym new.strikes) (none_struck name.replica shape.replicas replica),
          IsAsked (ask_sent volume posts name next.session v b (state.Serves s) earlier t own sent_then next o refl of.number of.block still
              (among_all (λ (r : NodeName). IsAskedOf shape next o r (told_now (state.Serves s) t).outs) (group_of shape (region_of shape o.question.block)) name
              (subst (λ (k : ℕ). IsAmong name (group_of shape (region_of shape k))) (sym of.block) group) new.asked)),
        )

        owes_spoken : IsOwnStep volume posts (state.Serves s) earlier t → is_tick t.handed ≡ false → Owes
        owes_spoken own still =
            let opened = subst (λ (c : state.Client). OpensAsked shape s (told_now (state.Serves s) t).outs c) is (opens_asked volume s t.event x) in
            elim (opened o there) [
              | inl old ↦ owes_old old.read old.among old.question
              | inr new ↦ owes_new own still new
            ]

        owes_silent : news_of posts t ≡ Silence → Owes
        unfolding told
        owes_silent silent =
            let same : s ≡ next = serves_one s next (sym (ap (λ (y : News). (told volume (state.Serves s) t.event y).client) silent) ∙ is) in
            owes_old o (subst (λ (d : state.Serving). IsAmong o d.reads) (sym same) there) refl

        owes_next : Owes
        owes_next = elim (speaks_by (state.Serves s) known earlier t g.given) [
          | OwnNews own still ↦ owes_spoken own still
          | NoNews silent ↦ owes_silent silent
        ]

      owed_next : has_block v (p ∷ history) ≡ false → (c : state.Client) → (told_now (state.Serves s) t).client ≡ c → IsOwedAt c (known_then known t) (t ∷ earlier)
      owed_next none (state.Serves next) is = λ o there of. owes_next none next is o there of
      owed_next none state.Closed is = tt
      owed_next none (state.Gathers d) is = tt
      owed_next none (state.Fetches d) is = tt
      owed_next none (state.Stages d) is = tt
      owed_next none (state.Switches d) is = tt

      serving_next : IsAlong (p ∷ history) (event_after n t.event x) (session_after m x) (told_now (state.Serves s) t).client (known_then known t) (t ∷ earlier)
      serving_next = record {
        holds = row.holds;
        small_now = small_after events n m t.event x a.small_now g.ready.fits;
        script = next_scripted events history p n m g.ready.fits a.script;
        sent = sent_then;
        asked = asked_next;
        owed = λ none. owed_next none (told_now (state.Serves s) t).client refl;
      }

    -- ---- of another client

    module _ (c : state.Client) (away : IsAway c) (a : IsAlong history n m c known earlier) (g : IsGiven history n m c known earlier t) where
      none_open : (c : state.Client) → IsAway c → IsOpenAt c → ⊥
      none_open (state.Serves s) away is_open = away
      none_open state.Closed away is_open = is_open
      none_open (state.Gathers d) away is_open = is_open
      none_open (state.Fetches d) away is_open = is_open
      none_open (state.Stages d) away is_open = is_open
      none_open (state.Switches d) away is_open = is_open

      none_owed : (d : state.Client) → NoReads d → IsOwedAt d (known_then known t) (t ∷ earlier)
      none_owed (state.Serves s) none = λ o there of. absurd (subst (λ (l : List Open). IsAmong o l) none there)
      none_owed state.Closed none = tt
      none_owed (state.Gathers d) none = tt
      none_owed (state.Fetches d) none = tt
      none_owed (state.Stages d) none = tt
      none_owed (state.Switches d) none = tt

      away_row : AsDue volume (p ∷ history) (judge_now (p ∷ history)) (event_after n t.event x) (session_after m x) due (told_now c t)
      away_row = step_as_due volume events history (judge_now history) n m t nodes c a.holds a.small_now (head_written events history (judge_now history) a.script) x g.ready

      away_next : IsAlong (p ∷ history) (event_after n t.event x) (session_after m x) (told_now c t).client (known_then known t) (t ∷ earlier)
      unfolding HandsSent
      away_next = record {
        holds = away_row.holds;
        small_now = small_after events n m t.event x a.small_now g.ready.fits;
        script = next_scripted events history p n m g.ready.fits a.script;
        sent = (g.hands_sent, g.more, a.sent);
        asked = λ was. asked_then ((has_block v (p ∷ history) ≡ true) ⊎ IsOpenAt (told_now c t).client) was
            (λ calm now. inr (serving_open (p ∷ history) (event_after n t.event x) (told_now c t).client (small_after events n m t.event x a.small_now g.ready.fits) away_row.holds.mirrors now))
            (λ calm before. elim (a.asked before) [
              | inl gave ↦ inl (gave_before gave)
              | inr is_open ↦ absurd (none_open c away is_open)
            ]);
        owed = λ none. none_owed (told_now c t).client (away_reads volume c away t.event x);
      }

    pub step_along : (c : state.Client) → IsAlong history n m c known earlier → IsGiven history n m c known earlier t
        → IsAlong (p ∷ history) (event_after n t.event x) (session_after m x) (told_now c t).client (known_then known t) (t ∷ earlier)
    step_along (state.Serves s) a g = serving_next s a g
    step_along state.Closed a g = away_next state.Closed tt a g
    step_along (state.Gathers d) a g = away_next (state.Gathers d) tt a g
    step_along (state.Fetches d) a g = away_next (state.Fetches d) tt a g
    step_along (state.Stages d) a g = away_next (state.Stages d) tt a g
    step_along (state.Switches d) a g = away_next (state.Switches d) tt a g
