-- Which lines that are due are faults: those of a question to which every replica has a strike.
use Rattle.std.proofs.Common.{◌≡◌, ◌∙◌, inl, inr, ℕ, ◌+◌, ◌<◌, ◌==◌, ◌&&◌, nat_le, Bool, true, if◌then◌else◌, List, [], ◌∷◌, ◌++◌, map, drop, Option, None, Some, refl, sym, ap, arith, eqb-true}
use Rattle.std.specs.Prelude.{is_some, find}
use Rattle.std.specs.List.{list_all, range_with_len, AllByRecursion}
use Rattle.std.specs.Option.{option_or}
use Rattle.std.proofs.lemmas.Bool.{true≢false}
use Rattle.salus_types.specs.Volume.{Shape}
use Rattle.salus_types.specs.declared.names.NodeName.{NodeName}
use Rattle.salus_types.specs.declared.records.Header.{Header}
use Rattle.salus_types.specs.declared.strike.Strike.{Strike}
use Rattle.salus_message.specs.declared.replies.Answer.{Answer}
use Rattle.salus_message.specs.declared.wire.Message.{Message}
use Rattle.salus_message.specs.declared.wire.Message.TheVariants as message
use Rattle.schedule_text.specs.declared.schedule.Volume.{Volume}
use Rattle.schedule_text.specs.declared.schedule.Event.{Event}
use Rattle.printed_lines.specs.declared.line.Line.{Line}
use Rattle.printed_lines.specs.declared.line.Line.TheVariants as line
use Rattle.printed_lines.specs.declared.line.RequestRefusal.{RequestRefusal}
use Rattle.merkle_region.specs.Tree.{IsAmong}
use Rattle.volume_model.specs.Contents.{Batch, region_of}
use Rattle.volume_model.specs.Recovering.{choice_of}
use Rattle.salus_model.specs.declared.trace.Request.{Request}
use Rattle.salus_model.specs.declared.trace.Request.TheVariants as request
use Rattle.salus_model.specs.Judge.{Judge, last_number, front_of, judged_all}
use Rattle.salus_model.specs.Following.{Posted}
use Rattle.salus_model.specs.Hearing.{News, Asks, Says, Crashes, Silence, Past, news_since, opens, begins, stages, Phase, Serving, Closed, Gathering, Fetching, Staged, phase_of}
use Rattle.salus_model.specs.Waiting.{Taken, joins, joining, unended, live, left_of, Question, questions, refusal_of}
use Rattle.salus_model.specs.Answering.{present_root, Verdict, Stale, Good, Struck, verdict_of, is_answer, is_known, first_strike, strikes_with, all_struck}
use Rattle.salus_model.specs.Opening.{Reply, replies_to, all_replied, pool_of, all_switched, is_fetched}
use Rattle.salus_model.specs.Due.{barrier_due, barriers_due, with_barriers, due_request, all_claim, ack_due, acks_due, others_known, due_verdict, due_answer_to, due_choice, due_replies, due_serving, due_gathering, due_fetching, due_staged, due_message, due_news}
use Rattle.list_lemmas.proofs.Each.{either_way, all_both, all_flat}
use Rattle.list_lemmas.proofs.Members.{among_map-in, among_range-in, find_among}
use Rattle.list_lemmas.proofs.Tests.{by_bool, way_with, and_left, and_right}
use Rattle.law_asked.proofs.Said.{IsSaid}
use Rattle.law_complete.specs.Faulting.{IsFaultAt}

all_from : {A : Type 0} (test : A → Bool) (xs : List A) (x : A) → IsAmong x xs → list_all test xs ≡ true → test x ≡ true
all_from test [] x among all = absurd among
all_from test (y ∷ xs) x (inl is) all = ap test is ∙ and_left (test y) (list_all test xs) all
all_from test (y ∷ xs) x (inr among) all = all_from test xs x among (and_right (test y) (list_all test xs) all)

module _ (volume : Volume) (name : NodeName) where
  abbrev shape : Shape
  shape = volume.geometry

  abbrev pub IsFine : Line → Type 0
  IsFine l = IsFaultAt volume.geometry name l → ⊥

  abbrev pub AllFine : List Line → Type 0
  AllFine lines = AllByRecursion (λ l. IsFaultAt volume.geometry name l → ⊥) lines

  barrier_fine : (judge : Judge) (v : ℕ) (r : Request) → AllFine (barrier_due judge v r)
  barrier_fine judge v request.Barrier = either_way (nat_le (front_of judge v) judge.acked) (line.Barrier v (front_of judge v) ∷ []) [] AllFine ((λ is. is), tt) tt
  barrier_fine judge v (request.Write batch) = tt
  barrier_fine judge v (request.Read b) = tt
  barrier_fine judge v (request.Restart e) = tt
  barrier_fine judge v (request.Reassign e g) = tt

  barriers_fine : (judge : Judge) (requests : List Taken) → AllFine (barriers_due judge requests)
  barriers_fine judge requests = all_flat IsFine (λ r. barrier_due judge r.event r.request) (left_of requests) (λ r. barrier_fine judge r.event r.request)

  with_fine : (events : List Event) (judge : Judge) (requests : List Taken) (lines : List Line) → AllFine lines → AllFine (with_barriers events judge requests lines)
  with_fine events judge requests lines fine =
      all_both IsFine lines (barriers_due (judged_all events judge lines) (unended (judged_all events judge lines) requests)) fine (barriers_fine (judged_all events judge lines) (unended (judged_all events judge lines) requests))

  request_fine : (events : List Event) (judge : Judge) (requests : List Taken) (v : ℕ) (r : Request) (o : Option RequestRefusal) → AllFine (due_request events judge requests v r o)
  request_fine events judge requests v r (Some cause) = ((λ is. is), tt)
  request_fine events judge requests v r None = either_way (joins r) (barriers_due judge (requests ++ joining v (Asks r))) [] AllFine (barriers_fine judge (requests ++ joining v (Asks r))) tt

  acks_fine : (events : List Event) (requests : List Taken) (news : List News) (batches : List Batch) (judge : Judge) → AllFine (acks_due shape events requests news judge batches)
  unfolding acks_due
  acks_fine events requests news [] judge = tt
  acks_fine events requests news (batch ∷ batches) judge =
      let rest : Judge = judged_all events judge (ack_due events judge requests) in
      either_way (all_claim shape judge.now.session (judge.acked + 1) batch news) (ack_due events judge requests ++ acks_due shape events requests news rest batches) [] AllFine
      (all_both IsFine (ack_due events judge requests) (acks_due shape events requests news rest batches) (with_fine events judge requests (line.Ack (judge.acked + 1) ∷ []) ((λ is. is), tt))
      (acks_fine events requests news batches rest)) tt

  choice_fine : (e : ℕ) (o : Option Header) → AllFine (due_choice e o)
  choice_fine e None = ((λ is. is), tt)
  choice_fine e (Some h) = ((λ is. is), tt)

  gathering_fine : (history : List Past) (e : ℕ) (node : NodeName) (m : Message) → AllFine (due_gathering volume history e node m)
  gathering_fine history e node (message.Gathered m) =
      let replies : List Reply = replies_to e (Says node (message.Gathered m) ∷ news_since begins history) in
      either_way (m.session == e) (due_replies volume e replies) [] AllFine
      (either_way (all_replied volume.geometry replies) (due_choice e (choice_of volume.geometry (pool_of volume.geometry volume.key replies))) [] AllFine
      (choice_fine e (choice_of volume.geometry (pool_of volume.geometry volume.key replies))) tt) tt
  gathering_fine history e node other = tt

  fetching_fine : (judge : Judge) (e g : ℕ) (node : NodeName) (m : Message) → AllFine (due_fetching shape judge e g node m)
  fetching_fine judge e g node (message.Dumped m) =
      either_way (is_fetched shape judge.now.session g (present_root shape judge g) node m) (line.Stage e judge.now.session (last_number judge) ∷ []) [] AllFine ((λ is. is), tt) tt
  fetching_fine judge e g node other = tt

  staged_fine : (history : List Past) (e : ℕ) (node : NodeName) (m : Message) → AllFine (due_staged shape history e node m)
  staged_fine history e node (message.Switched m) =
      either_way ((m.session == e) && all_switched shape e (Says node (message.Switched m) ∷ news_since stages history)) (line.Open e ∷ []) [] AllFine ((λ is. is), tt) tt
  staged_fine history e node other = tt

  -- ---- an answer

  -- where the server has no strike so far, and this answer strikes it not
  module _ (events : List Event) (posts : List Posted) (sent : ℕ) (history : List Past) (judge : Judge) (many : name.replica < volume.geometry.replicas)
      (clear : (q : Question) → region_of volume.geometry q.block ≡ name.region → first_strike volume.geometry q name.replica history ≡ None)
      (never : (q : Question) (node : NodeName) (a : Answer) → IsSaid events posts sent (Says node (message.Answer a)) → is_answer volume.geometry judge q node a ≡ true → (s : Strike) → verdict_of volume.geometry judge a ≡ Struck s
      → region_of volume.geometry q.block ≡ name.region → node.replica ≡ name.replica → ⊥) where
    not_all : (q : Question) (node : NodeName) (a : Answer) → IsSaid events posts sent (Says node (message.Answer a)) → is_answer shape judge q node a ≡ true → (s : Strike) → verdict_of shape judge a ≡ Struck s
        → all_struck (strikes_with shape q history node.replica s) ≡ true → region_of shape q.block ≡ name.region → ⊥
    not_all q node a said is s verdict all region =
        let at : ℕ → Option Strike = λ r. option_or (first_strike shape q r history) (if node.replica == r then Some s else None) in
        let has : is_some (option_or (first_strike shape q name.replica history) (if node.replica == name.replica then Some s else None)) ≡ true =
        all_from (λ o. is_some o) (map at (range_with_len 0 shape.replicas)) (at name.replica) (among_map-in at (range_with_len 0 shape.replicas) name.replica (among_range-in shape.replicas 0 name.replica (omega arith) (omega (arith, many)))) all in
        by_bool (node.replica == name.replica) ⊥ (λ hit. never q node a said is s verdict region (eqb-true node.replica name.replica hit))
        (λ miss.
        true≢false (sym has
        ∙ (ap (λ (o : Option Strike). is_some (option_or o (if node.replica == name.replica then Some s else None))) (clear q region) ∙ ap (λ (b : Bool). is_some (if b then Some s else None)) miss)))

    verdict_fine : (q : Question) (node : NodeName) (a : Answer) → IsSaid events posts sent (Says node (message.Answer a)) → is_answer shape judge q node a ≡ true → (v : Verdict) → verdict_of shape judge a ≡ v
        → AllFine (due_verdict shape events history judge q node.replica a v)
    verdict_fine q node a said is Stale verdict = tt
    verdict_fine q node a said is Good verdict =
        either_way (q.number == q.event) (line.Read q.event q.block a.bytes ∷ [])
        (if others_known shape history (questions shape (live history judge)) q then with_barriers events judge (live history judge) (line.Submit q.event (last_number judge + 1) ∷ []) else []) AllFine ((λ is. is), tt)
        (either_way (others_known shape history (questions shape (live history judge)) q) (with_barriers events judge (live history judge) (line.Submit q.event (last_number judge + 1) ∷ [])) [] AllFine
        (with_fine events judge (live history judge) (line.Submit q.event (last_number judge + 1) ∷ []) ((λ is. is), tt)) tt)
    verdict_fine q node a said is (Struck s) verdict =
        way_with (all_struck (strikes_with shape q history node.replica s)) (with_barriers events judge (live history judge) (line.Fault q.event q.block (strikes_with shape q history node.replica s) ∷ [])) [] AllFine
        (λ all. with_fine events judge (live history judge) (line.Fault q.event q.block (strikes_with shape q history node.replica s) ∷ []) ((λ region. not_all q node a said is s verdict all region), tt)) (λ _. tt)

    answer_fine : (node : NodeName) (a : Answer) → IsSaid events posts sent (Says node (message.Answer a)) → (o : Option Question) → find (λ q. is_answer shape judge q node a) (questions shape (live history judge)) ≡ o
        → AllFine (due_answer_to shape events history judge node a o)
    answer_fine node a said None found = tt
    answer_fine node a said (Some q) found =
        either_way (is_known shape q history) [] (due_verdict shape events history judge q node.replica a (verdict_of shape judge a)) AllFine tt
        (verdict_fine q node a said (find_among (λ q. is_answer shape judge q node a) q (questions shape (live history judge)) found).1 (verdict_of shape judge a) refl)

    serving_fine : (node : NodeName) (m : Message) → IsSaid events posts sent (Says node m) → AllFine (due_serving shape events history judge node m)
    serving_fine node (message.Committed m) said =
        either_way (m.session == judge.now.session) (acks_due shape events (live history judge) (Says node (message.Committed m) ∷ news_since opens history) judge (drop judge.acked judge.now.list)) [] AllFine
        (acks_fine events (live history judge) (Says node (message.Committed m) ∷ news_since opens history) (drop judge.acked judge.now.list) judge) tt
    serving_fine node (message.Answer m) said = answer_fine node m said (find (λ q. is_answer shape judge q node m) (questions shape (live history judge))) refl
    serving_fine node other said = tt

    message_fine : (node : NodeName) (m : Message) → IsSaid events posts sent (Says node m) → (phase : Phase) → AllFine (due_message volume events history judge node m phase)
    message_fine node m said Serving = serving_fine node m said
    message_fine node m said Closed = tt
    message_fine node m said (Gathering e) = gathering_fine history e node m
    message_fine node m said (Fetching e g) = fetching_fine judge e g node m
    message_fine node m said (Staged e) = staged_fine history e node m

    -- So no line that is due is a fault of its region.
    pub news_fine : (v : ℕ) (x : News) → IsSaid events posts sent x → AllFine (due_news volume events history judge v x)
    unfolding due_news
    news_fine v (Asks r) said = request_fine events judge (live history judge) v r (refusal_of volume.geometry (phase_of history) judge (live history judge) r)
    news_fine v (Says node m) said = message_fine node m said (phase_of history)
    news_fine v Crashes said = tt
    news_fine v Silence said = tt
