-- A question of the head that is asked after a step was asked before, or is new; and an answer that doesn't end it has it asked
-- again.
use Rattle.std.proofs.Common.{◌≡◌, ◌∙◌, inl, inr, ℕ, ◌+◌, ◌^◌, ◌<◌, ◌≤◌, ◌==◌, not, nat_lt, Bool, true, false, if◌then◌else◌, List, [], ◌∷◌, ◌++◌, Option, None, Some, refl, sym, ap, ap₂, subst, arith, eqb-true, eq-eqb}
use Rattle.std.specs.Prelude.{filter, flat_map}
use Rattle.std.specs.List.{AllByRecursion}
use Rattle.std.proofs.lemmas.Bool.{true≢false, ltb-true}
use Rattle.salus_types.specs.Volume.{Shape}
use Rattle.salus_types.specs.declared.names.NodeName.{NodeName}
use Rattle.salus_types.specs.declared.strike.Strike.{Strike}
use Rattle.salus_message.specs.declared.replies.Answer.{Answer}
use Rattle.salus_message.specs.declared.wire.Message.{Message}
use Rattle.salus_message.specs.declared.wire.Message.TheVariants as message
use Rattle.schedule_text.specs.declared.schedule.Volume.{Volume}
use Rattle.printed_lines.specs.declared.line.Line.{Line}
use Rattle.printed_lines.specs.declared.line.Line.TheVariants as line
use Rattle.printed_lines.specs.declared.line.RequestRefusal.{RequestRefusal}
use Rattle.salus_model.specs.declared.trace.Request.{Request}
use Rattle.salus_model.specs.declared.trace.Request.TheVariants as request
use Rattle.merkle_region.specs.Tree.{IsAmong}
use Rattle.merkle_region.proofs.Membership.{among_right}
use Rattle.volume_model.specs.Contents.{region_of}
use Rattle.volume_model.specs.Groups.{group_of}
use Rattle.salus_model.specs.Hearing.{News, Asks, Says, Crashes, Silence}
use Rattle.salus_model.specs.Waiting.{Taken, is_write, Question, questions_of, questions}
use Rattle.salus_model.specs.Answering.{Verdict, Stale, Good, Struck, all_struck}
use Rattle.client_rules.specs.State.{Open, Unacked, Serving, Letter, Serves, Told, ignored}
use Rattle.client_rules.specs.Tables.{fresh, answers, open_at, closed_at, struck, struck_at, worth, number_at, ask_of, asks, line_of, head_questions, all_claimed}
use Rattle.client_rules.specs.Submitting.{batch_asked, with_batch}
use Rattle.client_rules.specs.Serving.{leaves, refusal_here, joined, decided, requested_here, read_ended, read_judged, read_answered, head_faulted, submits, head_known, head_judged, head_answered, answered_here, Acked, acked_one, acked_lines, acks, claimed, acked_told, committed_here}
use Rattle.client_rules.specs.Rules.{requested, told_serving, received, told}
use Rattle.list_lemmas.proofs.Each.{either_way}
use Rattle.list_lemmas.proofs.Members.{among_all, all_among, among_map, among_map-in, among_filter, among_flat_map-in, find_among}
use Rattle.list_lemmas.proofs.Tests.{by_test, way_with, and_left, and_right}
use Rattle.law_answers.proofs.Turns.{none_found}
use Rattle.law_reads.specs.Reading.{counts, IsAskedOf}
use Rattle.law_heads.specs.Heads.{AreOfHead, IsAskedAgain, AsksHead}

-- ---- small facts

is_not : (b : Bool) → not b ≡ true → b ≡ false
is_not true is = absurd (true≢false (sym is))
is_not false is = refl

-- the head's questions are asked as the requests are looked at
head_asked : (shape : Shape) (requests : List Taken) (q : Question) → IsAmong q (head_questions shape (line_of requests)) → IsAmong q (questions shape requests)
unfolding questions line_of
head_asked shape [] q among = absurd among
head_asked shape (r ∷ requests) q among =
    by_test (λ t. IsAmong q (head_questions shape (if t then r ∷ requests else line_of requests)) → IsAmong q (if t then questions_of shape r.event r.request else questions_of shape r.event r.request ++ questions shape requests)) (is_write r.request)
    (λ _ here. here) (λ _ behind. among_right q (questions_of shape r.event r.request) (questions shape requests) (head_asked shape requests q behind)) among

module _ (volume : Volume) (c : Serving) where
  abbrev shape : Shape
  shape = volume.geometry

  abbrev On : News → Told → Type 0
  On x t = AsksHead volume.geometry c x t.outs t.client

  -- ---- what leaves

  new_asked : (next : Serving) (requests : List Taken) (outs : List Letter) (q : Question) → IsAmong q (head_questions shape (line_of requests))
      → (name : NodeName) → IsAmong name (group_of shape (region_of shape q.block)) → IsAskedOf shape next (fresh shape q) name (outs ++ flat_map (λ q. asks shape next q) (questions shape requests))
  new_asked next requests outs q among name inside =
      let letter : Letter = record { to = name; message = ask_of shape next q } in
      among_right letter outs _ (among_flat_map-in (λ (x : Question). asks shape next x) q letter (questions shape requests) (head_asked shape requests q among)
      (among_map-in (λ (n : NodeName). record { to = n; message = ask_of shape next q }) (group_of shape (region_of shape q.block)) name inside))

  leaves_on : (x : News) (next : Serving) (requests : List Taken) (outs : List Letter) → AsksHead shape c x (outs ++ (leaves shape next requests).outs) (leaves shape next requests).client
  unfolding leaves
  leaves_on x next requests outs o among =
      let q = among_map (fresh shape) o (head_questions shape (line_of requests)) among in
      inr record {
        strikes = ap (λ (y : Open). y.strikes) q.2;
        asked = subst (λ (y : Open). AllByRecursion (λ name. IsAskedOf shape next y name (outs ++ flat_map (λ q. asks shape next q) (questions shape requests))) (group_of shape (region_of shape y.question.block))) (sym q.2)
            (all_among (λ name. IsAskedOf shape next (fresh shape q.0) name (outs ++ flat_map (λ q. asks shape next q) (questions shape requests))) (group_of shape (region_of shape q.0.block)) (new_asked next requests outs q.0 q.1));
      }

  -- ---- news that is no answer

  module _ (x : News) (free : (o : Open) (outs : List Letter) → IsAskedAgain volume.geometry c o x outs) where
    same_asked : (next : Serving) (outs : List Letter) → next.asked ≡ c.asked → AsksHead shape c x outs (Serves next)
    same_asked next outs same o among = inl record { before = o; among = subst (λ (l : List Open). IsAmong o l) same among; question = refl; again = free o outs }

    joined_on : (r : Taken) (l : List Taken) → On x (joined shape c r l)
    joined_on r [] = leaves_on x c (r ∷ []) []
    joined_on r (head ∷ l) = same_asked _ _ refl

    decided_on : (v : ℕ) (r : Request) (o : Option RequestRefusal) → On x (decided shape c v r o)
    decided_on v r (Some cause) = same_asked _ _ refl
    decided_on v (request.Write batch) None = joined_on _ c.line
    decided_on v (request.Read b) None = joined_on _ c.line
    decided_on v request.Barrier None = joined_on _ c.line
    decided_on v (request.Restart e) None = same_asked _ _ refl
    decided_on v (request.Reassign e g) None = tt

    requested_on : (v : ℕ) (r : Request) → On x (requested_here shape c v r)
    unfolding requested_here
    requested_on v r = decided_on v r (refusal_here shape c r)

    acks_asked : (d : Serving) (us : List Unacked) → (acks shape d us).client.asked ≡ d.asked
    unfolding acks
    acks_asked d [] = refl
    acks_asked d (u ∷ us) =
        either_way (all_claimed shape d.claims u.leader (d.acked + 1))
        (record { client = (acks shape (acked_one d us) us).client; lines = acked_lines d ++ (acks shape (acked_one d us) us).lines }) (record { client = d; lines = [] })
        (λ (t : Acked). t.client.asked ≡ d.asked) (acks_asked (acked_one d us) us) refl

    committed_on : (name : NodeName) (session front : ℕ) → On x (committed_here shape c name session front)
    unfolding committed_here
    committed_on name session front =
        either_way (session == c.session) (acked_told (acks shape (claimed c name front) c.unacked)) (ignored (Serves c)) (On x)
        (same_asked _ _ (acks_asked (claimed c name front) c.unacked)) (same_asked _ _ refl)

    still_on : On x (ignored (Serves c))
    still_on = same_asked _ _ refl

  -- ---- an answer

  module _ (heads : AreOfHead c) (name : NodeName) (a : Answer) where
    abbrev x : News
    x = Says name (message.Answer a)

    abbrev IsFair : Type 0
    IsFair = (s : Strike) → worth volume.geometry c a ≡ Struck s → ⊥

    -- what isn't answered stays
    kept_asked : (next : Serving) (outs : List Letter) → next.asked ≡ c.asked → ((o : Open) → IsAmong o c.asked → counts shape c name a ≡ true → answers a o ≡ true → IsFair → ⊥) → AsksHead shape c x outs (Serves next)
    kept_asked next outs same not_it o among =
        let there : IsAmong o c.asked = subst (λ (l : List Open). IsAmong o l) same among in
        inl record { before = o; among = there; question = refl; again = λ count hit fair. absurd (not_it o there count hit fair) }

    number_of_answer : (o : Open) → answers a o ≡ true → a.read ≡ o.question.number
    number_of_answer o hit = eqb-true a.read o.question.number (and_left (a.read == o.question.number) (a.block == o.question.block) hit)

    block_of_answer : (o : Open) → answers a o ≡ true → a.block ≡ o.question.block
    block_of_answer o hit = eqb-true a.block o.question.block (and_right (a.read == o.question.number) (a.block == o.question.block) hit)

    -- one of a read is none of the head's
    low_not : a.read < 2 ^ 32 → (o : Open) → IsAmong o c.asked → counts shape c name a ≡ true → answers a o ≡ true → IsFair → ⊥
    low_not low o among count hit fair =
        let high : 2 ^ 32 ≤ o.question.number = heads.high o among in let is : a.read ≡ o.question.number = number_of_answer o hit in absurd (omega (arith, low, high, is))

    read_on : a.read < 2 ^ 32 → (o : Option Open) → On x (read_answered shape c name a o)
    read_on low None = kept_asked _ _ refl (low_not low)
    read_on low (Some p) = judged (worth shape c a) where
      judged : (v : Verdict) → On x (read_judged shape c name a p v)
      judged Stale = kept_asked _ _ refl (low_not low)
      judged Good = kept_asked _ _ refl (low_not low)
      judged (Struck s) =
          either_way (all_struck (struck name.replica s p).strikes) (read_ended c p (line.Fault p.question.event p.question.block (struck name.replica s p).strikes)) (ignored (Serves (record c { reads = struck_at a name.replica s c.reads }))) (On x)
          (kept_asked _ _ refl (low_not low)) (kept_asked _ _ refl (low_not low))

    -- the question that it answers
    module _ (p : Open) (there : IsAmong p c.asked) (hit : answers a p ≡ true) where
      submits_on : (l : List Taken) → c.line ≡ l → On x (submits volume c l)
      submits_on [] none = absurd (heads.waits none p there)
      submits_on (w ∷ behind) is = leaves_on x (with_batch volume c (batch_asked w.request)) behind _

      known_on : (l : List Open) → closed_at p.question.number c.asked ≡ l → On x (head_known volume c a l)
      known_on [] is = submits_on c.line refl
      known_on (q ∷ left) is = λ o among.
          let in_closed : IsAmong o (filter (λ (y : Open). not (y.question.number == p.question.number)) c.asked) = subst (λ (l : List Open). IsAmong o l) (sym is) among in
          let kept = among_filter (λ (y : Open). not (y.question.number == p.question.number)) o c.asked in_closed in
          let other : (o.question.number == p.question.number) ≡ false = is_not (o.question.number == p.question.number) kept.1 in
          inl record {
            before = o;
            among = kept.0;
            question = refl;
            again = λ count own fair. absurd (true≢false (sym (eq-eqb o.question.number p.question.number (sym (number_of_answer o own) ∙ number_of_answer p hit)) ∙ other));
          }

      faulted_on : (l : Line) (requests : List Taken) → ((o : Open) → IsAmong o c.asked → counts shape c name a ≡ true → answers a o ≡ true → IsFair → ⊥) → On x (head_faulted shape c l requests)
      faulted_on l [] not_it = kept_asked _ _ refl not_it
      faulted_on l (w ∷ behind) not_it = leaves_on x c behind []

      judged_on : (v : Verdict) → worth shape c a ≡ v → On x (head_judged volume c name a p v)
      judged_on Stale verdict = λ o among. inl record {
        before = o;
        among = among;
        question = refl;
        again = λ count own fair.
            inl (ap₂ (λ (n b : ℕ). record { to = name; message = message.Ask (record { session = c.session; read = n; block = b; at = number_at c (region_of shape b) }) })
            (sym (number_of_answer o own) ∙ number_of_answer p hit) (sym (block_of_answer o own) ∙ block_of_answer p hit));
      }
      judged_on Good verdict = known_on (closed_at p.question.number c.asked) refl
      judged_on (Struck s) verdict =
          let l : Line = line.Fault p.question.event p.question.block (struck name.replica s p).strikes in
          either_way (all_struck (struck name.replica s p).strikes) (head_faulted shape c l c.line) (ignored (Serves (record c { asked = struck_at a name.replica s c.asked }))) (On x)
          (faulted_on l c.line (λ o among count own fair. fair s verdict))
          (λ o among.
          let q = among_map (λ (y : Open). if answers a y then struck name.replica s y else y) o c.asked among in
          inl record {
            before = q.0;
            among = q.1;
            question = either_way (answers a q.0) (struck name.replica s q.0) q.0 (λ (y : Open). q.0.question ≡ y.question) refl refl ∙ ap (λ (y : Open). y.question) (sym q.2);
            again = λ count own fair. absurd (fair s verdict);
          })

    head_on : (o : Option Open) → open_at a c.asked ≡ o → On x (head_answered volume c name a o)
    head_on None none = kept_asked _ _ refl (λ o among count hit fair. true≢false (sym hit ∙ among_all (λ (y : Open). answers a y ≡ false) c.asked o among (none_found (λ (y : Open). answers a y) c.asked none)))
    head_on (Some p) is = let at = find_among (λ (y : Open). answers a y) p c.asked is in judged_on p at.0 at.1 (worth shape c a) refl

    answered_on : On x (answered_here volume c name a)
    unfolding answered_here
    answered_on =
        way_with (not (counts shape c name a)) (ignored (Serves c)) (if nat_lt a.read (2 ^ 32) then read_answered shape c name a (open_at a c.reads) else head_answered volume c name a (open_at a c.asked)) (On x)
        (λ off. kept_asked _ _ refl (λ o among count hit fair. true≢false (sym count ∙ is_not (counts shape c name a) off)))
        (λ _. way_with (nat_lt a.read (2 ^ 32)) (read_answered shape c name a (open_at a c.reads)) (head_answered volume c name a (open_at a c.asked)) (On x)
        (λ low. read_on (ltb-true a.read (2 ^ 32) low) (open_at a c.reads)) (λ _. head_on (open_at a c.asked) refl))

  -- ---- any news

  message_on : AreOfHead c → (name : NodeName) (m : Message) → On (Says name m) (told_serving volume c name m)
  message_on heads name (message.Committed m) = committed_on (Says name (message.Committed m)) (λ o outs. tt) name m.session m.front
  message_on heads name (message.Answer m) = answered_on heads name m
  message_on heads name (message.Part m) = still_on (Says name (message.Part m)) (λ o outs. tt)
  message_on heads name (message.Prepared m) = still_on (Says name (message.Prepared m)) (λ o outs. tt)
  message_on heads name (message.Ask m) = still_on (Says name (message.Ask m)) (λ o outs. tt)
  message_on heads name (message.Gather m) = still_on (Says name (message.Gather m)) (λ o outs. tt)
  message_on heads name (message.Gathered m) = still_on (Says name (message.Gathered m)) (λ o outs. tt)
  message_on heads name (message.Stage m) = still_on (Says name (message.Stage m)) (λ o outs. tt)
  message_on heads name (message.Staged m) = still_on (Says name (message.Staged m)) (λ o outs. tt)
  message_on heads name (message.Switch m) = still_on (Says name (message.Switch m)) (λ o outs. tt)
  message_on heads name (message.Switched m) = still_on (Says name (message.Switched m)) (λ o outs. tt)
  message_on heads name (message.Dump m) = still_on (Says name (message.Dump m)) (λ o outs. tt)
  message_on heads name (message.Dumped m) = still_on (Says name (message.Dumped m)) (λ o outs. tt)

  told_on : AreOfHead c → (v : ℕ) (x : News) → On x (told volume (Serves c) v x)
  unfolding told requested received
  told_on heads v (Asks r) = requested_on (Asks r) (λ o outs. tt) v r
  told_on heads v (Says name m) = message_on heads name m
  told_on heads v Crashes = tt
  told_on heads v Silence = still_on Silence (λ o outs. tt)

-- The law.
pub asks_head : (volume : Volume) (c : Serving) (v : ℕ) (x : News) → AreOfHead c → AsksHead volume.geometry c x (told volume (Serves c) v x).outs (told volume (Serves c) v x).client
asks_head volume c v x heads = told_on volume c heads v x
