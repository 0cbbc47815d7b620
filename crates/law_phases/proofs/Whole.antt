-- Each step of the client by the lines that are due is steps of the abstract client.
use Rattle.std.proofs.Common.{◌≡◌, ◌⊎◌, ℕ, ◌+◌, ◌-◌, ◌<◌, ◌≤◌, ◌∙◌, Bool, true, false, ◌==◌, ◌&&◌, ◌||◌, not, if◌then◌else◌, List, [], ◌∷◌, length, drop, Option, None, Some, inl, inr, refl, ap, sym, subst, arith, eqb-true}
use Rattle.std.specs.Prelude.{find, ◌≢◌}
use Rattle.std.specs.Option.{option_or}
use Rattle.std.specs.List.{list_any}
use Rattle.std.proofs.lemmas.Bool.{cond_both, false≢true}
use Rattle.std.proofs.lemmas.Option.{none-some}
use Rattle.std.proofs.lemmas.Nat.{pow_pos}
use Rattle.salus_types.specs.Volume.{Shape, regions}
use Rattle.salus_types.specs.declared.names.NodeName.{NodeName}
use Rattle.salus_types.specs.declared.records.Header.{Header}
use Rattle.salus_message.specs.declared.replies.Answer.{Answer}
use Rattle.salus_message.specs.declared.wire.Message.{Message}
use Rattle.salus_message.specs.declared.wire.Message.TheVariants as message
use Rattle.schedule_text.specs.declared.schedule.Volume.{Volume}
use Rattle.schedule_text.specs.declared.schedule.Event.{Event}
use Rattle.schedule_text.specs.Limits.{IsWithinLimits}
use Rattle.printed_lines.specs.declared.line.Line.{Line}
use Rattle.printed_lines.specs.declared.line.Line.TheVariants as line
use Rattle.printed_lines.specs.declared.line.RequestRefusal.{RequestRefusal}
use Rattle.printed_lines.specs.declared.line.RequestRefusal.TheVariants as refusal
use Rattle.salus_model.specs.declared.trace.Request.{Request}
use Rattle.salus_model.specs.declared.trace.Request.TheVariants as request
use Rattle.salus_model.specs.declared.trace.TraceStep.{TraceStep}
use Rattle.merkle_region.specs.Tree.{IsAmong}
use Rattle.volume_model.specs.Parts.{Session}
use Rattle.volume_model.specs.Groups.{all_nodes}
use Rattle.volume_model.specs.Recovering.{choice_of}
use Rattle.salus_model.specs.Judge.{Judge, known_at, batch_of, last_number, judged, judged_all, IsPrefixOf, IsNextBatch, IsLegalLine, AlongLines}
use Rattle.salus_model.specs.Hearing.{News, Asks, Says, Crashes, Silence, Past, judge_of, news_since, opens, begins, stages, refuses, asks_to_open, Phase, Serving, Closed, Gathering, Fetching, Staged, phase_of, phase_by_news, phase_by_request}
use Rattle.salus_model.specs.Waiting.{Taken, live, unended, questions, Question, refusal_of, range_refusal, inflight_refusal, unacknowledged, writes_among, reads_among}
use Rattle.salus_model.specs.Answering.{Verdict, Stale, Good, Struck, verdict_of, is_answer, is_known, strikes_with, all_struck, present_root}
use Rattle.salus_model.specs.Opening.{replies_to, all_replied, pool_of, says_staged, says_switched, all_staged, has_switched, all_switched, is_fetched}
use Rattle.salus_model.specs.Due.{barriers_due, with_barriers, due_request, others_known, due_good, due_verdict, due_answer_to, due_answer, due_choice, due_replies, acks_due, due_serving, due_gathering, due_fetching, due_staged, due_message, due_news}
use Rattle.list_lemmas.proofs.Tests.{by_test, by_either, and_left, and_right}
use Rattle.law_lemmas.proofs.Settled.{now-known}
use Rattle.law_lemmas.proofs.Owned.{known-session}
use Rattle.law_prefix.specs.Numbers.{Mem}
use Rattle.law_prefix.specs.World as abstract
use Rattle.law_prefix.specs.World.{World, Guarded}
use Rattle.law_prefix.specs.Steps.{HasTold, Stages}
use Rattle.law_prefix.specs.Run as steps
use Rattle.law_prefix.specs.Run.{Step, with_client}
use Rattle.kept_model.specs.Batches.{touching, list_of, list_at}
use Rattle.kept_model.specs.Nodes.{volume_as, node_of}
use Rattle.kept_model.specs.Phases.{asked_of, IsKnown}
use Rattle.law_records.proofs.Numbers.{length-touching}
use Rattle.law_records.proofs.Counted.{all_members}
use Rattle.law_phases.specs.Hearing.{AllHeardIn}
use Rattle.law_phases.specs.Moving.{OpensAsked, IsMoved}
use Rattle.law_phases.specs.Opening.{AreCountable, IsBefore}
use Rattle.law_phases.proofs.Told.{all_at, nodes-among, first-region, heard_since, claims_heard, staged_heard, switched_heard, pool_as}
use Rattle.law_phases.proofs.Sees.{AllSome, stage_client, stage-stages}
use Rattle.law_phases.proofs.Countable.{asked_rises, lines_countable}
use Rattle.law_phases.proofs.Still.{AreStill, barriers_still}
use Rattle.law_phases.proofs.Acking.{acks_calm, acks_run}
use Rattle.law_phases.proofs.Moving.{IsPlain, phase_now, sees_now, still_plain, still_staged}
use Rattle.law_phases.proofs.Keeping.{replied, chosen}
use Rattle.law_phases.proofs.Cases.{acks_moved, submit_moved, begun_moved, crash_moved, lost_moved, stage_moved, open_moved}

-- ---- what nodes told of staging, with one more piece of news

more_any : {A : Type 0} (test : A → Bool) (x : A) (xs : List A) → list_any test xs ≡ true → list_any test (x ∷ xs) ≡ true
more_any test x xs some = by_test (λ t. (t || list_any test xs) ≡ true) (test x) (λ hit. refl) (λ miss. some)

pub staged_more : (shape : Shape) (e : ℕ) (x : News) (news : List News) → all_staged shape e news ≡ true → all_staged shape e (x ∷ news) ≡ true
unfolding all_staged
staged_more shape e x news all =
    all_members (λ (name : NodeName). list_any (λ y. says_staged e name y) (x ∷ news)) (all_nodes shape)
    (λ name m. more_any (λ y. says_staged e name y) x news (all_at (λ (n : NodeName). list_any (λ y. says_staged e n y) news) (all_nodes shape) name all m))

-- where a node has switched, every node had staged before
staged_before : (shape : Shape) (e : ℕ) (x : News) (news : List News) (name : NodeName) → has_switched shape e (x ∷ news) name ≡ true → all_staged shape e news ≡ true
unfolding has_switched
staged_before shape e x [] name has =
    by_either (says_switched e name x && all_staged shape e []) (has_switched shape e [] name) (all_staged shape e [] ≡ true) has
    (λ here. and_right (says_switched e name x) (all_staged shape e []) here) (λ none. absurd (false≢true none))
staged_before shape e x (y ∷ news) name has =
    by_either (says_switched e name x && all_staged shape e (y ∷ news)) (has_switched shape e (y ∷ news) name) (all_staged shape e (y ∷ news) ≡ true) has
    (λ here. and_right (says_switched e name x) (all_staged shape e (y ∷ news)) here)
    (λ before. staged_more shape e y news (staged_before shape e y news name before))

-- so where all have
pub staged_by_all : (shape : Shape) → 0 < shape.replicas → (e : ℕ) (x : News) (news : List News) → all_switched shape e (x ∷ news) ≡ true → all_staged shape e news ≡ true
staged_by_all shape many e x news all =
    staged_before shape e x news (node_of shape 0)
    (all_at (λ (n : NodeName). has_switched shape e (x ∷ news) n) (all_nodes shape) (node_of shape 0) all (nodes-among shape many 0 (first-region shape many)))

-- ---- what an answer makes due

abbrev pub AnswerRow : List Line → Type 0
AnswerRow lines = AreStill lines ⊎ ((u : ℕ) × (s : ℕ) × (rest : List Line) × (lines ≡ line.Submit u s ∷ rest) × AreStill rest)

module _ (shape : Shape) (events : List Event) (history : List Past) (judge : Judge) where
  row_good : (q : Question) (a : Answer) → AnswerRow (due_good shape events history judge q a)
  row_good q a =
      cond_both {A = List Line} (q.number == q.event) (line.Read q.event q.block a.bytes ∷ [])
      (if others_known shape history (questions shape (live history judge)) q then with_barriers events judge (live history judge) (line.Submit q.event (last_number judge + 1) ∷ []) else []) AnswerRow
      (λ t. inl (tt, tt))
      (λ t. cond_both {A = List Line} (others_known shape history (questions shape (live history judge)) q) (with_barriers events judge (live history judge) (line.Submit q.event (last_number judge + 1) ∷ [])) [] AnswerRow
      (λ u. inr (
        q.event,
        last_number judge + 1,
        barriers_due (judged_all events judge (line.Submit q.event (last_number judge + 1) ∷ [])) (unended (judged_all events judge (line.Submit q.event (last_number judge + 1) ∷ [])) (live history judge)),
        refl,
        barriers_still (judged_all events judge (line.Submit q.event (last_number judge + 1) ∷ [])) (unended (judged_all events judge (line.Submit q.event (last_number judge + 1) ∷ [])) (live history judge)),
      ))
      (λ u. inl tt))

  row_verdict : (q : Question) (by : ℕ) (a : Answer) (verdict : Verdict) → AnswerRow (due_verdict shape events history judge q by a verdict)
  row_verdict q by a Stale = inl tt
  row_verdict q by a Good = row_good q a
  row_verdict q by a (Struck s) =
      cond_both {A = List Line} (all_struck (strikes_with shape q history by s)) (with_barriers events judge (live history judge) (line.Fault q.event q.block (strikes_with shape q history by s) ∷ [])) [] AnswerRow
      (λ t. inl (
        tt,
        barriers_still (judged_all events judge (line.Fault q.event q.block (strikes_with shape q history by s) ∷ []))
            (unended (judged_all events judge (line.Fault q.event q.block (strikes_with shape q history by s) ∷ [])) (live history judge)),
      ))
      (λ t. inl tt)

  pub row_found : (name : NodeName) (a : Answer) (o : Option Question) → AnswerRow (due_answer_to shape events history judge name a o)
  row_found name a None = inl tt
  row_found name a (Some q) =
      cond_both {A = List Line} (is_known shape q history) [] (due_verdict shape events history judge q name.replica a (verdict_of shape judge a)) AnswerRow (λ t. inl tt) (λ t. row_verdict q name.replica a (verdict_of shape judge a))

module _ (volume : Volume) (events : List Event) (limits : IsWithinLimits (record { volume = volume; events = events })) (many : 0 < volume.geometry.replicas)
    (history : List Past) (t : TraceStep) (w : World) where
  abbrev shape : Shape
  shape = volume.geometry

  abbrev v : abstract.Volume
  v = volume_as shape events

  abbrev judge : Judge
  judge = judge_of shape events history

  abbrev past : News → List Line → Past
  past x lines = record { step = t; news = x; before = judge; lines = lines }

  abbrev Before : News → Type 0
  Before x = IsBefore volume events history t.event x w

  abbrev Moves : News → List Line → Type 0
  Moves x lines = IsMoved shape events history (past x lines) w

  -- each batch of what is known after a batch is submitted touches a region
  abbrev AllSomeAfter : List Line → Type 0
  AllSomeAfter lines = (u s : ℕ) (rest : List Line) → lines ≡ line.Submit u s ∷ rest → AllSome shape (judged events judge (line.Submit u s))

  module _ (x : News) (b : Before x) where
    asked_is : (e : ℕ) → asked_of history ≡ e → w.client.asked ≡ e
    asked_is e is = b.client.asked ∙ is

    -- ---- lines that are still

    quiet : (lines : List Line) → AreStill lines → begins (past x lines) ≡ false → phase_by_news (refuses (past x lines)) x (phase_of history) ≡ phase_of history → Moves x lines
    quiet lines still unbegun stays = by (phase_of history) refl b.opening where
      plain : (phase : Phase) → phase_of history ≡ phase → IsPlain phase → Moves x lines
      plain phase is ok = still_plain shape events history w b.client b.guarded (past x lines) refl still unbegun stays b.opening phase is ok

      by : (phase : Phase) → phase_of history ≡ phase → OpensAsked phase (asked_of history) → Moves x lines
      by Serving is opening = plain Serving is tt
      by Closed is opening = plain Closed is tt
      by (Gathering e) is opening = plain (Gathering e) is tt
      by (Fetching e g) is opening = plain (Fetching e g) is tt
      by (Staged e) is opening =
          still_staged shape events history w b.client b.guarded (past x lines) refl still unbegun stays b.opening e is (asked_is e opening)
          (λ all r honest. staged_heard shape many events w (x ∷ news_since stages history) (heard_since shape many events w history x stages b.heard_before b.heard_now) e all r honest)
          (λ all. staged_more shape e x (news_since stages history) all)

    -- ---- serving

    serving_is : phase_of history ≡ Serving → w.client.phase ≡ abstract.Serving
    serving_is is = b.client.phase ∙ phase_now shape history Serving is

  -- ---- a request

  refused_moved : (r : Request) (cause : RequestRefusal) → Before (Asks r) → Moves (Asks r) (line.Refused t.event cause ∷ [])
  refused_moved r cause b = quiet (Asks r) b (line.Refused t.event cause ∷ []) (tt, tt) (unbegun (asks_to_open (Asks r))) refl where
    unbegun : (a : Bool) → (a && false) ≡ false
    unbegun true = refl
    unbegun false = refl

  joined_moved : (r : Request) (lines : List Line) → Before (Asks r) → AreStill lines → asks_to_open (Asks r) ≡ false → ((phase : Phase) → phase_by_request r phase ≡ phase) → Moves (Asks r) lines
  joined_moved r lines b still none same =
      quiet (Asks r) b lines still (ap (λ a. a && not (refuses (past (Asks r) lines))) none)
      (by_test (λ u. (if u then phase_of history else phase_by_request r (phase_of history)) ≡ phase_of history) (refuses (past (Asks r) lines)) (λ hit. refl) (λ miss. same (phase_of history)))

  -- a restart is asked for
  restart_moved : (e : ℕ) → Before (Asks (request.Restart e)) → Moves (Asks (request.Restart e)) []
  restart_moved e b =
      begun_moved shape events history w b.client b.guarded (past (Asks (request.Restart e)) []) refl e abstract.Gathering (Gathering e) tt refl refl refl refl refl refl
      (record { later = subst (λ n. n < e) (sym b.client.asked) b.later; how = inl refl })

  -- or a reassignment, where every batch is acknowledged
  reassign_moved : (e g : ℕ) → Before (Asks (request.Reassign e g)) → last_number judge - judge.acked ≡ 0 → Moves (Asks (request.Reassign e g)) []
  reassign_moved e g b idle =
      let here : w.client.lists w.client.served ≡ touching shape judge.now.list =
      b.client.lists w.client.served ∙ (ap (list_at shape judge) b.client.served ∙ ap (list_of shape) (now-known judge)) in
      let long : length (w.client.lists w.client.served) ≡ length judge.now.list = ap length here ∙ length-touching shape judge.now.list in
      let within : w.client.acked ≤ length (w.client.lists w.client.served) = b.good.client.acked_within in
      let front : w.client.acked ≡ judge.acked = b.client.acked in
      begun_moved shape events history w b.client b.guarded (past (Asks (request.Reassign e g)) []) refl e abstract.Fetching (Fetching e g) tt refl refl refl refl refl refl
      (record { later = subst (λ n. n < e) (sym b.client.asked) b.later; how = inr (refl, omega (arith, long, within, front, idle)) })

  idle_by : (requests : List Taken) (e g : ℕ) (phase : Phase) → refusal_of shape phase judge requests (request.Reassign e g) ≡ None → last_number judge - judge.acked ≡ 0
  idle_by requests e g Serving none = by (range_refusal (regions shape) (g ∷ [])) none where
    inflight : (cause : RequestRefusal) (t : Bool) → ((unacknowledged judge == 0) && (length requests == 0)) ≡ t → (if t then None else Some cause) ≡ None → last_number judge - judge.acked ≡ 0
    inflight cause true is none = eqb-true (unacknowledged judge) 0 (and_left (unacknowledged judge == 0) (length requests == 0) is)
    inflight cause false is none = absurd (none-some cause (sym none))

    by : (o : Option RequestRefusal) → option_or o (inflight_refusal judge requests) ≡ None → last_number judge - judge.acked ≡ 0
    by None none = inflight (refusal.Inflight (last_number judge + writes_among requests) judge.acked (reads_among requests)) ((unacknowledged judge == 0) && (length requests == 0)) refl none
    by (Some cause) none = absurd (none-some cause (sym none))
  idle_by requests e g Closed none = absurd (none-some refusal.Closed (sym none))
  idle_by requests e g (Gathering k) none = absurd (none-some refusal.Closed (sym none))
  idle_by requests e g (Fetching k h) none = absurd (none-some refusal.Closed (sym none))
  idle_by requests e g (Staged k) none = absurd (none-some refusal.Closed (sym none))

  asked_moved : (r : Request) → Before (Asks r) → (o : Option RequestRefusal) → refusal_of shape (phase_of history) judge (live history judge) r ≡ o
      → Moves (Asks r) (due_request events judge (live history judge) t.event r o)
  asked_moved r b (Some cause) is = refused_moved r cause b
  asked_moved (request.Write batch) b None is = joined_moved (request.Write batch) _ b (barriers_still judge _) refl (λ phase. refl)
  asked_moved (request.Read k) b None is = joined_moved (request.Read k) _ b (barriers_still judge _) refl (λ phase. refl)
  asked_moved request.Barrier b None is = joined_moved request.Barrier _ b (barriers_still judge _) refl (λ phase. refl)
  asked_moved (request.Restart e) b None is = restart_moved e b
  asked_moved (request.Reassign e g) b None is = reassign_moved e g b (idle_by (live history judge) e g (phase_of history) is)

  -- ---- a message

  ignored : (name : NodeName) (m : Message) → Before (Says name m) → (lines : List Line) → AreStill lines → Moves (Says name m) lines
  ignored name m b lines still = quiet (Says name m) b lines still refl refl

  -- a batch is submitted, or the lines are still
  answer_moved : (name : NodeName) (m : Message) (b : Before (Says name m)) → phase_of history ≡ Serving → (lines : List Line) → AnswerRow lines
      → AlongLines (IsLegalLine shape events) events judge lines → AllSomeAfter lines
      → ((u s : ℕ) → IsAmong (line.Submit u s) lines → last_number judge < judge.acked + 16) → Moves (Says name m) lines
  unfolding AlongLines
  answer_moved name m b serving lines (inl still) legal some room = ignored name m b lines still
  answer_moved name m b serving lines (inr (u, s, rest, is, still)) legal some room =
      let next : IsNextBatch shape events judge u s = (subst (λ ls. AlongLines (IsLegalLine shape events) events judge ls) is legal).0 in
      submit_moved shape events history w b.client b.guarded (past (Says name m) lines) refl u s next.batch rest is still refl serving (serving_is (Says name m) b serving)
      (ap batch_of next.asked) (some u s rest is) (room u s (subst (λ ls. IsAmong (line.Submit u s) ls) (sym is) (inl refl)))

  module _ (countable : AreCountable shape events judge) where
    some_after : (lines : List Line) → AlongLines (IsLegalLine shape events) events judge lines → AllSomeAfter lines
    unfolding AlongLines judged_all
    some_after lines legal u s rest is known e at =
        ((lines_countable volume events limits (line.Submit u s ∷ []) judge ((subst (λ ls. AlongLines (IsLegalLine shape events) events judge ls) is legal).0, tt) countable).each known e at).some

    committed_moved : (name : NodeName) (session front : ℕ) (m : Message) → Before (Says name m) → phase_of history ≡ Serving
        → Moves (Says name m) (acks_due shape events (live history judge) (Says name m ∷ news_since opens history) judge (drop judge.acked judge.now.list))
    committed_moved name session front m b serving =
        let news : List News = Says name m ∷ news_since opens history in
        let heard : AllHeardIn shape events w news = heard_since shape many events w history (Says name m) opens b.heard_before b.heard_now in
        acks_moved shape events history w b.client b.guarded (past (Says name m) (acks_due shape events (live history judge) news judge (drop judge.acked judge.now.list))) refl
        (acks_due shape events (live history judge) news judge (drop judge.acked judge.now.list)) refl
        (acks_calm shape events (live history judge) news w.claims (λ session s batch all. claims_heard shape many events w news heard session s batch all) (drop judge.acked judge.now.list) judge)
        refl serving (serving_is (Says name m) b serving)
        (acks_run shape events (live history judge) news w.claims (λ session s batch all. claims_heard shape many events w news heard session s batch all) (drop judge.acked judge.now.list) judge w refl refl
        (sees_now shape events history w b.client b.guarded) (serving_is (Says name m) b serving) b.guarded)

    serving_moved : (name : NodeName) (m : Message) → Before (Says name m) → AlongLines (IsLegalLine shape events) events judge (due_serving shape events history judge name m)
        → ((u s : ℕ) → IsAmong (line.Submit u s) (due_serving shape events history judge name m) → last_number judge < judge.acked + 16)
        → phase_of history ≡ Serving → Moves (Says name m) (due_serving shape events history judge name m)
    serving_moved name (message.Committed c) b legal room serving =
        cond_both {A = List Line} (c.session == judge.now.session)
        (acks_due shape events (live history judge) (Says name (message.Committed c) ∷ news_since opens history) judge (drop judge.acked judge.now.list)) [] (Moves (Says name (message.Committed c)))
        (λ t. committed_moved name c.session c.front (message.Committed c) b serving) (λ t. ignored name (message.Committed c) b [] tt)
    serving_moved name (message.Answer a) b legal room serving =
        answer_moved name (message.Answer a) b serving (due_answer shape events history judge name a)
        (row_found shape events history judge name a (find (λ q. is_answer shape judge q name a) (questions shape (live history judge)))) legal
        (some_after (due_answer shape events history judge name a) legal) room
    serving_moved name other b legal room serving = ignored name other b [] tt

    -- ---- a gathering

    early_none : known_at judge 0 ≡ None
    early_none = by (known_at judge 0) refl where
      by : (o : Option Session) → known_at judge 0 ≡ o → known_at judge 0 ≡ None
      by None at = at
      by (Some known) at =
          let positive = (countable.each known 0 at).positive in
          let number : known.session ≡ 0 = known-session judge 0 known at in
          absurd (omega (arith, positive, number))

    positive_asked : (e f s : ℕ) → IsPrefixOf events judge e f s → e ≢ 0
    positive_asked e f s legal zero_is = let above = asked_rises events legal.event e limits.rising legal.asked in omega (arith, above, zero_is)

    some_staged : (e f s : ℕ) → IsPrefixOf events judge e f s → AllSome shape (judged events judge (line.Stage e f s))
    unfolding AlongLines judged_all
    some_staged e f s legal known k at = ((lines_countable volume events limits (line.Stage e f s ∷ []) judge (legal, tt) countable).each known k at).some

    staged_by : (x : News) (b : Before x) (e f s : ℕ) (legal : IsPrefixOf events judge e f s) (opening : asked_of history ≡ e)
        → (w.client.phase ≡ abstract.Gathering) ⊎ (w.client.phase ≡ abstract.Fetching)
        → Stages v w.client (stage_client shape events judge e f s legal w.client (sees_now shape events history w b.client b.guarded) (asked_is x b e opening)) f s
    staged_by x b e f s legal opening early =
        stage-stages shape events judge e f s legal w.client (sees_now shape events history w b.client b.guarded) (asked_is x b e opening) events (pow_pos shape.regions_log)
        (some_staged e f s legal) early early_none (positive_asked e f s legal)

    chosen_moved : (name : NodeName) (m : Message) (b : Before (Says name m)) (e : ℕ) → phase_of history ≡ Gathering e → asked_of history ≡ e
        → all_replied shape (replies_to e (Says name m ∷ news_since begins history)) ≡ true
        → (o : Option Header) → choice_of shape (pool_of shape volume.key (replies_to e (Says name m ∷ news_since begins history))) ≡ o
        → AlongLines (IsLegalLine shape events) events judge (due_choice e o) → Moves (Says name m) (due_choice e o)
    unfolding AlongLines
    chosen_moved name m b e at opening all None is legal = lost_moved shape events history w b.client b.guarded (past (Says name m) (line.Lost e ∷ [])) refl e refl refl
    chosen_moved name m b e at opening all (Some h) is legal =
        let asked : w.client.asked ≡ e = asked_is (Says name m) b e opening in
        let gathering : w.client.phase ≡ abstract.Gathering = b.client.phase ∙ phase_now shape history (Gathering e) at in
        let pool : List abstract.Reply = pool_as shape many events w e (replies_to e (Says name m ∷ news_since begins history)) in
        let prefix : IsPrefixOf events judge e h.session h.seq = legal.0 in
        stage_moved shape events history w b.client b.guarded (past (Says name m) (line.Stage e h.session h.seq ∷ [])) refl e h.session h.seq prefix asked many refl refl
        (steps.chosen w pool h.session h.seq _ _ gathering (replied volume events many history t.event (Says name m) w b e at asked all) (chosen volume events many history t.event (Says name m) w b e at asked all h is)
        (staged_by (Says name m) b e h.session h.seq prefix opening (inl gathering)))

    gathering_moved : (name : NodeName) (m : Message) (b : Before (Says name m)) (e : ℕ) → phase_of history ≡ Gathering e → asked_of history ≡ e
        → AlongLines (IsLegalLine shape events) events judge (due_gathering volume history e name m) → Moves (Says name m) (due_gathering volume history e name m)
    gathering_moved name (message.Gathered g) b e at opening legal =
        let news : List News = Says name (message.Gathered g) ∷ news_since begins history in
        let P : List Line → Type 0 = λ lines. AlongLines (IsLegalLine shape events) events judge lines → Moves (Says name (message.Gathered g)) lines in
        cond_both {A = List Line} (g.session == e) (due_replies volume e (replies_to e news)) [] P
        (λ t. cond_both {A = List Line} (all_replied shape (replies_to e news)) (due_choice e (choice_of shape (pool_of shape volume.key (replies_to e news)))) [] P
        (λ u rules. chosen_moved name (message.Gathered g) b e at opening u (choice_of shape (pool_of shape volume.key (replies_to e news))) refl rules)
        (λ u rules. ignored name (message.Gathered g) b [] tt))
        (λ t rules. ignored name (message.Gathered g) b [] tt) legal
    gathering_moved name other b e at opening legal = ignored name other b [] tt

    -- ---- a fetch

    fetched_moved : (name : NodeName) (m : Message) (b : Before (Says name m)) (e g : ℕ) → phase_of history ≡ Fetching e g → asked_of history ≡ e
        → AlongLines (IsLegalLine shape events) events judge (line.Stage e judge.now.session (last_number judge) ∷ []) → Moves (Says name m) (line.Stage e judge.now.session (last_number judge) ∷ [])
    unfolding AlongLines
    fetched_moved name m b e g at opening legal =
        let asked : w.client.asked ≡ e = asked_is (Says name m) b e opening in
        let fetching : w.client.phase ≡ abstract.Fetching = b.client.phase ∙ phase_now shape history (Fetching e g) at in
        let prefix : IsPrefixOf events judge e judge.now.session (last_number judge) = legal.0 in
        let here : w.client.lists w.client.served ≡ touching shape judge.now.list =
        b.client.lists w.client.served ∙ (ap (list_at shape judge) b.client.served ∙ ap (list_of shape) (now-known judge)) in
        let long : length (w.client.lists w.client.served) ≡ last_number judge = ap length here ∙ length-touching shape judge.now.list in
        let d : abstract.Client = stage_client shape events judge e judge.now.session (last_number judge) prefix w.client (sees_now shape events history w b.client b.guarded) asked in
        stage_moved shape events history w b.client b.guarded (past (Says name m) (line.Stage e judge.now.session (last_number judge) ∷ [])) refl e judge.now.session (last_number judge) prefix asked many refl refl
        (steps.fetched w _ _ fetching
        (subst (λ f. Stages v w.client d f (length (w.client.lists w.client.served))) (sym b.client.served)
        (subst (λ s. Stages v w.client d judge.now.session s) (sym long) (staged_by (Says name m) b e judge.now.session (last_number judge) prefix opening (inr fetching)))))

    fetching_moved : (name : NodeName) (m : Message) (b : Before (Says name m)) (e g : ℕ) → phase_of history ≡ Fetching e g → asked_of history ≡ e
        → AlongLines (IsLegalLine shape events) events judge (due_fetching shape judge e g name m) → Moves (Says name m) (due_fetching shape judge e g name m)
    fetching_moved name (message.Dumped d) b e g at opening legal =
        cond_both {A = List Line} (is_fetched shape judge.now.session g (present_root shape judge g) name d) (line.Stage e judge.now.session (last_number judge) ∷ []) []
        (λ lines. AlongLines (IsLegalLine shape events) events judge lines → Moves (Says name (message.Dumped d)) lines)
        (λ t rules. fetched_moved name (message.Dumped d) b e g at opening rules) (λ t rules. ignored name (message.Dumped d) b [] tt) legal
    fetching_moved name other b e g at opening legal = ignored name other b [] tt

    -- ---- a session is opened

    opened_moved : (name : NodeName) (m : Message) (b : Before (Says name m)) (e : ℕ) → phase_of history ≡ Staged e → asked_of history ≡ e
        → all_switched shape e (Says name m ∷ news_since stages history) ≡ true → Moves (Says name m) (line.Open e ∷ [])
    opened_moved name m b e at opening all =
        let news : List News = Says name m ∷ news_since stages history in
        let heard : AllHeardIn shape events w news = heard_since shape many events w history (Says name m) stages b.heard_before b.heard_now in
        let asked : w.client.asked ≡ e = asked_is (Says name m) b e opening in
        let staged : all_staged shape e (news_since stages history) ≡ true = staged_by_all shape many e (Says name m) (news_since stages history) all in
        let switching : w.client.phase ≡ abstract.Switching =
        b.client.phase ∙ (phase_now shape history (Staged e) at ∙ ap (λ u. if u then abstract.Switching else abstract.Staging) staged) in
        let late : Mem w.client.asked w.client.known × (w.client.served < w.client.asked) = b.good.client.late (inr switching) in
        known_open (b.client.known_there w.client.asked late.0) asked late.1
        (λ r honest. switched_heard shape many events w news heard e all r honest) staged
      where
        known_open : IsKnown judge w.client.asked → w.client.asked ≡ e → w.client.served < w.client.asked → ((r : ℕ) → v.honest r ≡ true → HasTold w.switched r e)
            → all_staged shape e (news_since stages history) ≡ true → Moves (Says name m) (line.Open e ∷ [])
        known_open (inl blank) asked up told staged = absurd (omega (arith, blank, up))
        known_open (inr known) asked up told staged =
            let fresh_guarded : Guarded v w.fresh = λ g inside. (let one = b.guarded g inside in (one.0, one.1, b.good.counts_fresh one.0 one.2)) in
            open_moved shape events history w b.client b.guarded (past (Says name m) (line.Open e ∷ [])) refl e known.0 (sym (ap (known_at judge) asked) ∙ known.1) asked refl refl at staged told fresh_guarded

    staged_moved : (name : NodeName) (m : Message) (b : Before (Says name m)) (e : ℕ) → phase_of history ≡ Staged e → asked_of history ≡ e
        → Moves (Says name m) (due_staged shape history e name m)
    staged_moved name (message.Switched s) b e at opening =
        cond_both {A = List Line} ((s.session == e) && all_switched shape e (Says name (message.Switched s) ∷ news_since stages history)) (line.Open e ∷ []) [] (Moves (Says name (message.Switched s)))
        (λ t. opened_moved name (message.Switched s) b e at opening (and_right (s.session == e) (all_switched shape e (Says name (message.Switched s) ∷ news_since stages history)) t))
        (λ t. ignored name (message.Switched s) b [] tt)
    staged_moved name other b e at opening = ignored name other b [] tt

    -- ---- any message, in any phase

    message_moved : (name : NodeName) (m : Message) (b : Before (Says name m)) (phase : Phase) → phase_of history ≡ phase → OpensAsked phase (asked_of history)
        → AlongLines (IsLegalLine shape events) events judge (due_message volume events history judge name m phase)
        → ((u s : ℕ) → IsAmong (line.Submit u s) (due_message volume events history judge name m phase) → last_number judge < judge.acked + 16)
        → Moves (Says name m) (due_message volume events history judge name m phase)
    message_moved name m b Serving at opening legal room = serving_moved name m b legal room at
    message_moved name m b Closed at opening legal room = ignored name m b [] tt
    message_moved name m b (Gathering e) at opening legal room = gathering_moved name m b e at opening legal
    message_moved name m b (Fetching e g) at opening legal room = fetching_moved name m b e g at opening legal
    message_moved name m b (Staged e) at opening legal room = staged_moved name m b e at opening

    pub step_moved : (x : News) → Before x → Moves x (due_news volume events history judge t.event x)
    unfolding due_news
    step_moved (Asks r) b = asked_moved r b (refusal_of shape (phase_of history) judge (live history judge) r) refl
    step_moved (Says name m) b = message_moved name m b (phase_of history) refl b.opening b.legal b.room
    step_moved Crashes b = crash_moved shape events history w b.client b.guarded (past Crashes []) refl refl refl refl
    step_moved Silence b = quiet Silence b [] tt refl refl
