-- Along a history: each batch of the session that is acknowledged was claimed, since it opened, by every replica of its leader.
use Rattle.std.proofs.Common.{◌≡◌, ◌∙◌, inl, inr, ℕ, ◌+◌, ◌-◌, ◌<◌, ◌≤◌, ◌==◌, ◌&&◌, ◌||◌, Bool, true, false, if◌then◌else◌, List, [], ◌∷◌, ◌++◌, length, drop, get_or, Option, None, Some, refl, sym, ap, subst, arith, append_assoc, append-nil}
use Rattle.std.specs.Prelude.{find}
use Rattle.std.specs.List.{AllByRecursion, list_any, list_all}
use Rattle.std.proofs.lemmas.Bool.{cases_lt}
use Rattle.std.proofs.lemmas.List.{drop-drop, get_or-drop, get_or_append_left}
use Rattle.salus_types.specs.Volume.{Shape}
use Rattle.salus_types.specs.declared.names.NodeName.{NodeName}
use Rattle.salus_types.specs.declared.records.Header.{Header}
use Rattle.salus_types.specs.declared.strike.Strike.{Strike}
use Rattle.salus_message.specs.declared.replies.Answer.{Answer}
use Rattle.salus_message.specs.declared.small.Committed.{Committed}
use Rattle.salus_message.specs.declared.wire.Message.{Message}
use Rattle.salus_message.specs.declared.wire.Message.TheVariants as message
use Rattle.schedule_text.specs.declared.schedule.Volume.{Volume}
use Rattle.schedule_text.specs.declared.schedule.Event.{Event}
use Rattle.printed_lines.specs.declared.line.Line.{Line}
use Rattle.printed_lines.specs.declared.line.Line.TheVariants as line
use Rattle.printed_lines.specs.declared.line.RequestRefusal.{RequestRefusal}
use Rattle.merkle_region.specs.Tree.{IsAmong}
use Rattle.volume_model.specs.Contents.{Batch}
use Rattle.volume_model.specs.Groups.{group_of}
use Rattle.volume_model.specs.Parts.{Session, batch_at, leader_of}
use Rattle.volume_model.specs.Recovering.{choice_of}
use Rattle.salus_model.specs.declared.trace.Request.{Request}
use Rattle.salus_model.specs.declared.trace.TraceStep.{TraceStep}
use Rattle.salus_model.specs.Judge.{Judge, known_at, last_number, event_at, batch_of, opened_as, judged, judged_all}
use Rattle.salus_model.specs.Hearing.{News, Asks, Says, Crashes, Silence, Past, is_open_line, news_since, opens, begins, stages, Phase, Serving, Closed, Gathering, Fetching, Staged, phase_of}
use Rattle.salus_model.specs.Waiting.{Taken, joins, joining, unended, live, Question, questions, refusal_of}
use Rattle.salus_model.specs.Answering.{present_root, Verdict, Stale, Good, Struck, verdict_of, is_answer, is_known, strikes_with, all_struck}
use Rattle.salus_model.specs.Opening.{Reply, replies_to, all_replied, pool_of, all_switched, is_fetched}
use Rattle.salus_model.specs.Due.{is_claim, barriers_due, with_barriers, due_request, all_claim, ack_due, acks_due, others_known, due_verdict, due_answer_to, due_choice, due_replies, due_serving, due_gathering, due_fetching, due_staged, due_message, due_news}
use Rattle.client_rules.specs.State as state
use Rattle.list_lemmas.proofs.Each.{either_way, all_both, all_then}
use Rattle.list_lemmas.proofs.Tests.{way_with, and_left, and_right, or_true}
use Rattle.law_lemmas.proofs.Judged.{judged_all-append}
use Rattle.law_lines.specs.Mirrors.{Mirrors}
use Rattle.law_lines.proofs.Histories.{past, news-plain}
use Rattle.law_phases.proofs.Still.{SameSessions, IsStill, still_same, barriers_still}

all_from : {A : Type 0} (test : A → Bool) (xs : List A) (x : A) → IsAmong x xs → list_all test xs ≡ true → test x ≡ true
all_from test [] x among all = absurd among
all_from test (y ∷ xs) x (inl is) all = ap test is ∙ and_left (test y) (list_all test xs) all
all_from test (y ∷ xs) x (inr among) all = all_from test xs x among (and_right (test y) (list_all test xs) all)

-- ---- lines that acknowledge nothing and open no session

abbrev IsPlain : Line → Type 0
IsPlain (line.Ack s) = ⊥
IsPlain (line.Open e) = ⊥
IsPlain other = Unit {0}

abbrev ArePlain : List Line → Type 0
ArePlain lines = AllByRecursion IsPlain lines

plain_still : (l : Line) → IsStill l → IsPlain l
plain_still (line.Submit v s) still = tt
plain_still (line.Ack s) still = absurd still
plain_still (line.Read v b x) still = tt
plain_still (line.Fault v b strikes) still = tt
plain_still (line.Barrier v s) still = tt
plain_still (line.Refused v cause) still = tt
plain_still (line.Skip v k) still = tt
plain_still (line.Stage e f s) still = tt
plain_still (line.Open e) still = absurd still
plain_still (line.Lost e) still = tt

-- what they leave: the session with batches more, and the front
record Adds (before after : Judge) : Type 0 where
  session : after.now.session ≡ before.now.session
  base : after.now.base ≡ before.now.base
  acked : after.acked ≡ before.acked
  more : List Batch
  list : after.now.list ≡ before.now.list ++ more

adds_none : (judge after : Judge) → after.now ≡ judge.now → after.acked ≡ judge.acked → Adds judge after
adds_none judge after now acked = record {
  session = ap (λ (k : Session). k.session) now;
  base = ap (λ (k : Session). k.base) now;
  acked = acked;
  more = [];
  list = ap (λ (k : Session). k.list) now ∙ sym (append-nil judge.now.list);
}

module _ (events : List Event) where
  one_adds : (judge : Judge) (l : Line) → IsPlain l → Adds judge (judged events judge l)
  one_adds judge (line.Submit v s) plain = record { session = refl; base = refl; acked = refl; more = batch_of (event_at events v); list = refl }
  one_adds judge (line.Ack s) plain = absurd plain
  one_adds judge (line.Read v b x) plain = adds_none judge _ refl refl
  one_adds judge (line.Fault v b strikes) plain = adds_none judge _ refl refl
  one_adds judge (line.Barrier v s) plain = adds_none judge _ refl refl
  one_adds judge (line.Refused v cause) plain = adds_none judge _ refl refl
  one_adds judge (line.Skip v k) plain = adds_none judge _ refl refl
  one_adds judge (line.Stage e f s) plain = adds_none judge _ refl refl
  one_adds judge (line.Open e) plain = absurd plain
  one_adds judge (line.Lost e) plain = adds_none judge _ refl refl

  lines_add : (lines : List Line) (judge : Judge) → ArePlain lines → Adds judge (judged_all events judge lines)
  unfolding judged_all
  lines_add [] judge plain = adds_none judge judge refl refl
  lines_add (l ∷ lines) judge plain =
      let one = one_adds judge l plain.0 in
      let rest = lines_add lines (judged events judge l) plain.1 in
      record {
        session = rest.session ∙ one.session;
        base = rest.base ∙ one.base;
        acked = rest.acked ∙ one.acked;
        more = one.more ++ rest.more;
        list = rest.list ∙ (ap (λ (bs : List Batch). bs ++ rest.more) one.list ∙ append_assoc judge.now.list one.more rest.more);
      }

one_open : (l : Line) → IsPlain l → is_open_line l ≡ false
one_open (line.Open e) plain = absurd plain
one_open (line.Submit v s) plain = refl
one_open (line.Ack s) plain = refl
one_open (line.Read v b x) plain = refl
one_open (line.Fault v b strikes) plain = refl
one_open (line.Barrier v s) plain = refl
one_open (line.Refused v cause) plain = refl
one_open (line.Skip v k) plain = refl
one_open (line.Stage e f s) plain = refl
one_open (line.Lost e) plain = refl

-- where no line opens a session
abbrev OpensNone : List Line → Type 0
OpensNone lines = AllByRecursion (λ l. is_open_line l ≡ false) lines

none_open : (lines : List Line) → OpensNone lines → list_any is_open_line lines ≡ false
none_open [] closed = refl
none_open (l ∷ lines) closed = ap (λ (w : Bool). w || list_any is_open_line lines) closed.0 ∙ none_open lines closed.1

plain_opens_none : (lines : List Line) → ArePlain lines → OpensNone lines
plain_opens_none lines plain = all_then IsPlain (λ l. is_open_line l ≡ false) one_open lines plain

-- ---- which lines that are due are plain

barriers_plain : (judge : Judge) (requests : List Taken) → ArePlain (barriers_due judge requests)
barriers_plain judge requests = all_then IsStill IsPlain plain_still (barriers_due judge requests) (barriers_still judge requests)

with_plain : (events : List Event) (judge : Judge) (requests : List Taken) (lines : List Line) → ArePlain lines → ArePlain (with_barriers events judge requests lines)
with_plain events judge requests lines plain =
    all_both IsPlain lines (barriers_due (judged_all events judge lines) (unended (judged_all events judge lines) requests)) plain (barriers_plain (judged_all events judge lines) (unended (judged_all events judge lines) requests))

request_plain : (events : List Event) (judge : Judge) (requests : List Taken) (v : ℕ) (r : Request) (o : Option RequestRefusal) → ArePlain (due_request events judge requests v r o)
request_plain events judge requests v r (Some cause) = (tt, tt)
request_plain events judge requests v r None = either_way (joins r) (barriers_due judge (requests ++ joining v (Asks r))) [] ArePlain (barriers_plain judge (requests ++ joining v (Asks r))) tt

choice_plain : (e : ℕ) (o : Option Header) → ArePlain (due_choice e o)
choice_plain e None = (tt, tt)
choice_plain e (Some h) = (tt, tt)

module _ (volume : Volume) (events : List Event) (history : List Past) (judge : Judge) where
  abbrev shape : Shape
  shape = volume.geometry

  gathering_plain : (e : ℕ) (name : NodeName) (m : Message) → ArePlain (due_gathering volume history e name m)
  gathering_plain e name (message.Gathered m) =
      let replies : List Reply = replies_to e (Says name (message.Gathered m) ∷ news_since begins history) in
      either_way (m.session == e) (due_replies volume e replies) [] ArePlain
      (either_way (all_replied shape replies) (due_choice e (choice_of shape (pool_of shape volume.key replies))) [] ArePlain (choice_plain e (choice_of shape (pool_of shape volume.key replies))) tt) tt
  gathering_plain e name other = tt

  fetching_plain : (e g : ℕ) (name : NodeName) (m : Message) → ArePlain (due_fetching shape judge e g name m)
  fetching_plain e g name (message.Dumped m) =
      either_way (is_fetched shape judge.now.session g (present_root shape judge g) name m) (line.Stage e judge.now.session (last_number judge) ∷ []) [] ArePlain (tt, tt) tt
  fetching_plain e g name other = tt

  verdict_plain : (q : Question) (name : NodeName) (a : Answer) (v : Verdict) → ArePlain (due_verdict shape events history judge q name.replica a v)
  verdict_plain q name a Stale = tt
  verdict_plain q name a Good =
      either_way (q.number == q.event) (line.Read q.event q.block a.bytes ∷ [])
      (if others_known shape history (questions shape (live history judge)) q then with_barriers events judge (live history judge) (line.Submit q.event (last_number judge + 1) ∷ []) else []) ArePlain (tt, tt)
      (either_way (others_known shape history (questions shape (live history judge)) q) (with_barriers events judge (live history judge) (line.Submit q.event (last_number judge + 1) ∷ [])) [] ArePlain
      (with_plain events judge (live history judge) (line.Submit q.event (last_number judge + 1) ∷ []) (tt, tt)) tt)
  verdict_plain q name a (Struck s) =
      let strikes : List (Option Strike) = strikes_with shape q history name.replica s in
      either_way (all_struck strikes) (with_barriers events judge (live history judge) (line.Fault q.event q.block strikes ∷ [])) [] ArePlain
      (with_plain events judge (live history judge) (line.Fault q.event q.block strikes ∷ []) (tt, tt)) tt

  answer_plain : (name : NodeName) (a : Answer) (o : Option Question) → ArePlain (due_answer_to shape events history judge name a o)
  answer_plain name a None = tt
  answer_plain name a (Some q) = either_way (is_known shape q history) [] (due_verdict shape events history judge q name.replica a (verdict_of shape judge a)) ArePlain tt (verdict_plain q name a (verdict_of shape judge a))

-- ---- acknowledgements

-- the batches that are acknowledged now are claimed, and the session is the same
record Acks (shape : Shape) (news : List News) (before after : Judge) : Type 0 where
  now : after.now ≡ before.now
  each : (s : ℕ) → before.acked < s → s ≤ after.acked → all_claim shape before.now.session s (batch_at before.now s) news ≡ true

module _ (shape : Shape) (events : List Event) (requests : List Taken) (news : List News) where
  abbrev ack_first : Judge → Judge
  ack_first judge = record judge { acked = judge.acked + 1 }

  ack_then : (judge : Judge) → SameSessions (ack_first judge) (judged_all events judge (ack_due events judge requests))
  unfolding judged_all
  ack_then judge =
      subst (SameSessions (ack_first judge)) (sym (judged_all-append events judge (line.Ack (judge.acked + 1) ∷ []) (barriers_due (ack_first judge) (unended (ack_first judge) requests))))
      (still_same events (barriers_due (ack_first judge) (unended (ack_first judge) requests)) (ack_first judge) (barriers_still (ack_first judge) (unended (ack_first judge) requests)))

  first_batch : (judge : Judge) (batch : Batch) (batches : List Batch) → drop judge.acked judge.now.list ≡ batch ∷ batches → batch_at judge.now (judge.acked + 1) ≡ batch
  first_batch judge batch batches left =
      let back : judge.acked + 1 - 1 ≡ judge.acked + 0 = omega arith in
      ap (λ (i : ℕ). get_or judge.now.list i []) back ∙ (sym (get_or-drop judge.acked judge.now.list 0 []) ∙ ap (λ (l : List Batch). get_or l 0 []) left)

  acks_open_none : (batches : List Batch) (judge : Judge) → OpensNone (acks_due shape events requests news judge batches)
  unfolding acks_due
  acks_open_none [] judge = tt
  acks_open_none (batch ∷ batches) judge =
      let after : Judge = judged_all events judge (ack_due events judge requests) in
      let barriers : List Line = barriers_due (judged_all events judge (line.Ack (judge.acked + 1) ∷ [])) (unended (judged_all events judge (line.Ack (judge.acked + 1) ∷ [])) requests) in
      either_way (all_claim shape judge.now.session (judge.acked + 1) batch news) (ack_due events judge requests ++ acks_due shape events requests news after batches) [] OpensNone
      (all_both (λ l. is_open_line l ≡ false) (ack_due events judge requests) (acks_due shape events requests news after batches)
      (refl, plain_opens_none barriers (barriers_plain (judged_all events judge (line.Ack (judge.acked + 1) ∷ [])) (unended (judged_all events judge (line.Ack (judge.acked + 1) ∷ [])) requests)))
      (acks_open_none batches after)) tt

  no_acks : (judge : Judge) → Acks shape news judge judge
  no_acks judge = record { now = refl; each = λ s above within. absurd (omega (arith, above, within)) }

  acks_claimed : (batches : List Batch) (judge : Judge) → drop judge.acked judge.now.list ≡ batches → Acks shape news judge (judged_all events judge (acks_due shape events requests news judge batches))
  unfolding acks_due judged_all
  acks_claimed [] judge left = no_acks judge
  acks_claimed (batch ∷ batches) judge left =
      let after : Judge = judged_all events judge (ack_due events judge requests) in
      let one : SameSessions (ack_first judge) after = ack_then judge in
      let list : drop after.acked after.now.list ≡ batches =
      ap (λ (n : ℕ). drop n after.now.list) one.acked
      ∙ (ap (λ (k : Session). drop (judge.acked + 1) k.list) one.now ∙ (sym (drop-drop 1 judge.acked judge.now.list) ∙ ap (λ (l : List Batch). drop 1 l) left)) in
      way_with (all_claim shape judge.now.session (judge.acked + 1) batch news) (ack_due events judge requests ++ acks_due shape events requests news after batches) []
      (λ lines. Acks shape news judge (judged_all events judge lines))
      (λ t.
      subst (Acks shape news judge) (sym (judged_all-append events judge (ack_due events judge requests) (acks_due shape events requests news after batches)))
      (more_acks judge batch batches left t after one (judged_all events after (acks_due shape events requests news after batches)) (acks_claimed batches after list)))
      (λ _. no_acks judge)
    where
      more_acks : (judge : Judge) (batch : Batch) (batches : List Batch) → drop judge.acked judge.now.list ≡ batch ∷ batches → all_claim shape judge.now.session (judge.acked + 1) batch news ≡ true → (after : Judge) → SameSessions (ack_first judge) after
          → (last : Judge) → Acks shape news after last → Acks shape news judge last
      more_acks judge batch batches left all after one last rest = record {
        now = rest.now ∙ one.now;
        each = λ s above within. elim (cases_lt (judge.acked + 1) s) [
          | inl over ↦ (let front : after.acked ≡ judge.acked + 1 = one.acked in
              subst (λ (k : Session). all_claim shape k.session s (batch_at k s) news ≡ true) one.now (rest.each s (omega (arith, over, front)) within))
          | inr low ↦ (let same : judge.acked + 1 ≡ s = omega (arith, above, low) in
              subst (λ (x : ℕ). all_claim shape judge.now.session x (batch_at judge.now x) news ≡ true) same
              (subst (λ (b : Batch). all_claim shape judge.now.session (judge.acked + 1) b news ≡ true) (sym (first_batch judge batch batches left)) all))
        ];
      }

-- ---- along a history

-- each batch of the session that is acknowledged was claimed by every replica of its leader, since the session was opened
abbrev pub AllClaimed : Shape → Judge → List Past → Type 0
AllClaimed shape judge history =
    (s : ℕ) → judge.now.base < s → s ≤ judge.acked → (name : NodeName) → IsAmong name (group_of shape (leader_of shape (batch_at judge.now s)))
    → list_any (λ x. is_claim judge.now.session s name x) (news_since opens history) ≡ true

module _ (volume : Volume) (events : List Event) (history : List Past) (judge : Judge) (step : TraceStep) (v : ℕ) (n : ℕ) (c : state.Client) (mirrors : Mirrors volume history judge n c) (within : judge.acked ≤ length judge.now.list)
    (claimed : AllClaimed volume.geometry judge history) where
  -- with these lines
  abbrev Then : News → List Line → Type 0
  Then x lines = AllClaimed volume.geometry (judged_all events judge lines) (past step x judge lines ∷ history)

  old_claimed : (x : News) (lines : List Line) → list_any is_open_line lines ≡ false → (after : Judge) → after.now.session ≡ judge.now.session → after.now.base ≡ judge.now.base → (s : ℕ)
      → batch_at after.now s ≡ batch_at judge.now s → after.now.base < s → s ≤ judge.acked → (name : NodeName) → IsAmong name (group_of volume.geometry (leader_of volume.geometry (batch_at after.now s)))
      → list_any (λ y. is_claim after.now.session s name y) (news_since opens (past step x judge lines ∷ history)) ≡ true
  old_claimed x lines closed after session base s batch above low name among =
      let e : ℕ = judge.now.session in
      let old : list_any (λ y. is_claim e s name y) (news_since opens history) ≡ true =
      claimed s (subst (λ (b : ℕ). b < s) base above) low name (subst (λ (b : Batch). IsAmong name (group_of volume.geometry (leader_of volume.geometry b))) batch among) in
      ap (λ (k : ℕ). list_any (λ y. is_claim k s name y) (news_since opens (past step x judge lines ∷ history))) session
      ∙ (ap (λ (l : List News). list_any (λ y. is_claim e s name y) l) (news-plain history (past step x judge lines) closed)
      ∙ (ap (λ (w : Bool). is_claim e s name x || w) old ∙ or_true (is_claim e s name x)))

  plain_then : (x : News) (lines : List Line) → ArePlain lines → Then x lines
  plain_then x lines plain s above low name among =
      let after : Judge = judged_all events judge lines in
      let adds : Adds judge after = lines_add events lines judge plain in
      let acked : s ≤ judge.acked = subst (λ (a : ℕ). s ≤ a) adds.acked low in
      let some : judge.now.base < s = subst (λ (b : ℕ). b < s) adds.base above in
      let batch : batch_at after.now s ≡ batch_at judge.now s =
      ap (λ (l : List Batch). get_or l (s - 1) []) adds.list ∙ get_or_append_left judge.now.list adds.more [] (s - 1) (omega (arith, acked, within, some)) in
      old_claimed x lines (none_open lines (plain_opens_none lines plain)) after adds.session adds.base s batch above acked name among

  -- ---- a claim

  claim_then : (by : NodeName) (m : Committed) → Then (Says by (message.Committed m)) (due_serving volume.geometry events history judge by (message.Committed m))
  claim_then by m =
      let x : News = Says by (message.Committed m) in
      let news : List News = x ∷ news_since opens history in
      let due : List Line = acks_due volume.geometry events (live history judge) news judge (drop judge.acked judge.now.list) in
      let after : Judge = judged_all events judge due in
      either_way (m.session == judge.now.session) due [] (Then x)
      (let acks : Acks volume.geometry news judge after = acks_claimed volume.geometry events (live history judge) news (drop judge.acked judge.now.list) judge refl in
      let closed : list_any is_open_line due ≡ false = none_open due (acks_open_none volume.geometry events (live history judge) news (drop judge.acked judge.now.list) judge) in
      λ s above low name among. elim (cases_lt judge.acked s) [
        | inl new ↦
            (let all : all_claim volume.geometry judge.now.session s (batch_at judge.now s) news ≡ true = acks.each s new low in
            ap (λ (k : Session). list_any (λ y. is_claim k.session s name y) (news_since opens (past step x judge due ∷ history))) acks.now
            ∙ (ap (λ (l : List News). list_any (λ y. is_claim judge.now.session s name y) l) (news-plain history (past step x judge due) closed)
            ∙ all_from (λ (k : NodeName). list_any (λ y. is_claim judge.now.session s k y) news) (group_of volume.geometry (leader_of volume.geometry (batch_at judge.now s))) name
            (subst (λ (k : Session). IsAmong name (group_of volume.geometry (leader_of volume.geometry (batch_at k s)))) acks.now among) all))
        | inr old ↦ old_claimed x due closed after (ap (λ (k : Session). k.session) acks.now) (ap (λ (k : Session). k.base) acks.now) s (ap (λ (k : Session). batch_at k s) acks.now) above old name among
      ])
      (plain_then x [] tt)

  serving_then : (by : NodeName) (m : Message) → Then (Says by m) (due_serving volume.geometry events history judge by m)
  serving_then by (message.Committed m) = claim_then by m
  serving_then by (message.Answer m) =
      plain_then (Says by (message.Answer m)) (due_serving volume.geometry events history judge by (message.Answer m)) (answer_plain volume events history judge by m (find (λ q. is_answer volume.geometry judge q by m) (questions volume.geometry (live history judge))))
  serving_then by other = plain_then (Says by other) [] tt

  -- ---- a session opens

  -- it is known
  staged_known : (e : ℕ) → phase_of history ≡ Staged e → (d : state.Client) → Mirrors volume history judge n d → (known : Session) × (known_at judge e ≡ Some known)
  staged_known e phase (state.Stages b) m = let same : b.session ≡ e = cc in (m.begun.known, subst (λ (k : ℕ). known_at judge k ≡ Some m.begun.known) same m.begun.at)
  staged_known e phase (state.Switches b) m = let same : b.session ≡ e = cc in (m.begun.known, subst (λ (k : ℕ). known_at judge k ≡ Some m.begun.known) same m.begun.at)
  staged_known e phase state.Closed m = absurd (cc)
  staged_known e phase (state.Serves s) m = absurd (serving_staged e (sym m.serves ∙ phase)) where
    serving_staged : (e : ℕ) → Serving ≡ Staged e → ⊥
    serving_staged e is = cc
  staged_known e phase (state.Gathers g) m = absurd (gathering_staged g.session e (sym m.phase ∙ phase)) where
    gathering_staged : (f e : ℕ) → Gathering f ≡ Staged e → ⊥
    gathering_staged f e is = cc
  staged_known e phase (state.Fetches f) m = absurd (fetching_staged f.session f.region e (sym m.phase ∙ phase)) where
    fetching_staged : (f g e : ℕ) → Fetching f g ≡ Staged e → ⊥
    fetching_staged f g e is = cc

  open_then : (x : News) (e : ℕ) → phase_of history ≡ Staged e → Then x (line.Open e ∷ [])
  unfolding judged_all
  open_then x e phase s above low name among =
      let found = staged_known e phase c mirrors in
      let after : opened_as judge e (known_at judge e) ≡ opened_as judge e (Some found.0) = ap (λ (o : Option Session). opened_as judge e o) found.1 in
      let over : found.0.base < s = subst (λ (j : Judge). j.now.base < s) after above in
      let under : s ≤ found.0.base = subst (λ (j : Judge). s ≤ j.acked) after low in
      absurd (omega (arith, over, under))

  staged_then : (e : ℕ) → phase_of history ≡ Staged e → (by : NodeName) (m : Message) → Then (Says by m) (due_staged volume.geometry history e by m)
  staged_then e phase by (message.Switched m) =
      either_way ((m.session == e) && all_switched volume.geometry e (Says by (message.Switched m) ∷ news_since stages history)) (line.Open e ∷ []) [] (Then (Says by (message.Switched m)))
      (open_then (Says by (message.Switched m)) e phase) (plain_then (Says by (message.Switched m)) [] tt)
  staged_then e phase by other = plain_then (Says by other) [] tt

  -- ---- any news

  message_then : (by : NodeName) (m : Message) (phase : Phase) → phase_of history ≡ phase → Then (Says by m) (due_message volume events history judge by m phase)
  message_then by m Serving is = serving_then by m
  message_then by m Closed is = plain_then (Says by m) [] tt
  message_then by m (Gathering e) is = plain_then (Says by m) (due_gathering volume history e by m) (gathering_plain volume events history judge e by m)
  message_then by m (Fetching e g) is = plain_then (Says by m) (due_fetching volume.geometry judge e g by m) (fetching_plain volume events history judge e g by m)
  message_then by m (Staged e) is = staged_then e is by m

  pub claimed_then : (x : News) → Then x (due_news volume events history judge v x)
  unfolding due_news
  claimed_then (Asks r) =
      plain_then (Asks r) (due_request events judge (live history judge) v r (refusal_of volume.geometry (phase_of history) judge (live history judge) r))
      (request_plain events judge (live history judge) v r (refusal_of volume.geometry (phase_of history) judge (live history judge) r))
  claimed_then (Says by m) = message_then by m (phase_of history) refl
  claimed_then Crashes = plain_then Crashes [] tt
  claimed_then Silence = plain_then Silence [] tt
