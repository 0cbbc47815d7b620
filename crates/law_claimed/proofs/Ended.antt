-- Where no question waits, and every batch is acknowledged, a client that serves has no request any more that isn't done.
use Rattle.std.proofs.Common.{◌≡◌, ◌∙◌, inl, inr, ℕ, ◌+◌, ◌*◌, ◌^◌, ◌≤◌, ◌==◌, ◌&&◌, nat_lt, Bool, true, if◌then◌else◌, List, [], ◌∷◌, ◌++◌, refl, sym, ap, subst, arith, le-leb}
use Rattle.std.specs.List.{list_any, AllByRecursion}
use Rattle.std.proofs.lemmas.Bool.{true≢false, eq-eqb}
use Rattle.salus_types.specs.Volume.{Shape}
use Rattle.schedule_text.specs.declared.schedule.Event.{Event}
use Rattle.printed_lines.specs.declared.line.Line.{Line}
use Rattle.printed_lines.specs.declared.line.Line.TheVariants as line
use Rattle.salus_model.specs.declared.trace.Request.{Request}
use Rattle.salus_model.specs.declared.trace.Request.TheVariants as request
use Rattle.merkle_region.specs.Tree.{IsAmong}
use Rattle.merkle_region.proofs.Membership.{among_left, among_right}
use Rattle.volume_model.specs.Parts.{blocks_of}
use Rattle.salus_model.specs.Judge.{Judge, Submitted, last_number, front_from, front_of}
use Rattle.salus_model.specs.Hearing.{Past, judge_of, since, opens, is_serving, phase_of}
use Rattle.salus_model.specs.Waiting.{Taken, is_write, is_barrier, all_taken, live, left_of, Question, same_question, questions_from, questions_of, questions}
use Rattle.salus_model.specs.Due.{barrier_due}
use Rattle.salus_model.specs.Complete.{is_done}
use Rattle.client_rules.specs.State as state
use Rattle.client_rules.specs.State.{Open, Waiter}
use Rattle.client_rules.specs.Tables.{line_of, read_questions, head_questions}
use Rattle.list_lemmas.proofs.Each.{either_way}
use Rattle.list_lemmas.proofs.Members.{among_map, among_flat_map, among_flat_map-in, any_from}
use Rattle.list_lemmas.proofs.Tests.{by_test}
use Rattle.law_answers.proofs.Asks.{both_true}
use Rattle.law_lines.specs.Mirror.{waiter_at, open_of, MirrorsServing}
use Rattle.law_lines.proofs.Ordered.{head-writes, questions-split}
use Rattle.law_claimed.specs.Accounting.{HasLeft, IsKept, BlocksCome}
use Rattle.law_claimed.proofs.Accounted.{batch_done}
use Rattle.law_claimed.proofs.Blocks.{HasBlocks, AllHaveBlocks, head_has}

-- ---- the front of a barrier

front_below : (top base v : ℕ) (batches : List Submitted) → base ≤ top → AllByRecursion (λ s. s.seq ≤ top) batches → front_from batches base v ≤ top
unfolding front_from
front_below top base v [] low all = low
front_below top base v (s ∷ batches) low all =
    either_way (nat_lt s.event v) s.seq (front_from batches base v) (λ (n : ℕ). n ≤ top) all.0 (front_below top base v batches low all.1)

due_line : (judge : Judge) (v : ℕ) (q : Request) → is_barrier q ≡ true → front_of judge v ≤ judge.acked → IsAmong (line.Barrier v (front_of judge v)) (barrier_due judge v q)
due_line judge v request.Barrier is low =
    subst (λ (b : Bool). IsAmong (line.Barrier v (front_of judge v)) (if b then line.Barrier v (front_of judge v) ∷ [] else [])) (sym (le-leb (front_of judge v) judge.acked low)) (inl refl)
due_line judge v (request.Write batch) is low = absurd (true≢false (sym is))
due_line judge v (request.Read b) is low = absurd (true≢false (sym is))
due_line judge v (request.Restart e) is low = absurd (true≢false (sym is))
due_line judge v (request.Reassign e g) is low = absurd (true≢false (sym is))

waiter_barrier : (judge : Judge) (r : Taken) (w : Waiter) → IsAmong w (waiter_at judge r) → is_barrier r.request ≡ true
waiter_barrier judge r w among =
    by_test (λ (b : Bool). IsAmong w (if b then record { event = r.event; front = front_of judge r.event } ∷ [] else []) → b ≡ true) (is_barrier r.request) (λ _ _. refl) (λ _ none. absurd none) among

-- ---- the questions of the head

first_question : (v : ℕ) (b : ℕ) (bs : List ℕ) → IsAmong b bs → (q : Question) × IsAmong q (questions_from v 1 bs)
unfolding questions_from
first_question v b [] among = absurd among
first_question v b (c ∷ bs) among = (record { event = v; number = 2 ^ 32 * 1 + v; block = c }, inl refl)

write_question : (shape : Shape) (v : ℕ) (q : Request) → is_write q ≡ true → HasBlocks shape q → (x : Question) × IsAmong x (questions_of shape v q)
write_question shape v (request.Write batch) is has = first_question v has.0 (blocks_of shape batch) has.1
write_question shape v (request.Read b) is has = absurd (true≢false (sym is))
write_question shape v request.Barrier is has = absurd (true≢false (sym is))
write_question shape v (request.Restart e) is has = absurd (true≢false (sym is))
write_question shape v (request.Reassign e g) is has = absurd (true≢false (sym is))

same_itself : (q : Question) → same_question q q ≡ true
same_itself q = both_true ((q.event == q.event) && (q.number == q.number)) (q.block == q.block) (both_true (q.event == q.event) (q.number == q.number) (eq-eqb q.event q.event refl) (eq-eqb q.number q.number refl)) (eq-eqb q.block q.block refl)

module _ (shape : Shape) (events : List Event) (history : List Past) (n : ℕ) (c : state.Serving) (m : MirrorsServing shape history (judge_of shape events history) n c)
    (come : BlocksCome shape events history) (blocks_all : AllHaveBlocks shape (all_taken (since opens history)))
    (within : AllByRecursion (λ s. s.seq ≤ c.last) (judge_of shape events history).submits) (acknowledged : last_number (judge_of shape events history) ≤ (judge_of shape events history).acked) where
  abbrev judge : Judge
  judge = judge_of shape events history

  abbrev now : List Taken
  now = live history judge

  -- no question is left
  none_asked : (q : Question) → IsAmong q (read_questions (left_of now) ++ head_questions shape (line_of now)) → ⊥
  none_asked q among =
      true≢false (sym (both_true (is_serving (phase_of history)) (list_any (same_question q) (questions shape now)) (ap is_serving m.serves)
      (any_from (same_question q) q (questions shape now) (subst (λ (l : List Question). IsAmong q l) (sym (questions-split shape now)) among) (same_itself q))) ∙ come.answered q)

  none_waits : (rs : List Taken) → line_of now ≡ rs → (r : Taken) → IsAmong r rs → ⊥
  none_waits [] is r among = among
  none_waits (w ∷ behind) is r among =
      let q = write_question shape w.event w.request (head-writes now w behind is) (head_has shape history judge w behind is blocks_all) in
      none_asked q.0 (among_right q.0 (read_questions (left_of now)) (head_questions shape (line_of now)) (subst (λ (l : List Taken). IsAmong q.0 (head_questions shape l)) (sym is) q.1))

  none_open : (o : Open) → IsAmong o c.reads → ⊥
  none_open o among =
      let q = among_map (open_of shape history) o (read_questions (left_of now)) (subst (λ (l : List Open). IsAmong o l) m.table.reads among) in
      none_asked q.0 (among_left q.0 (read_questions (left_of now)) (head_questions shape (line_of now)) q.1)

  all_last : c.last ≤ judge.acked
  all_last = subst (λ (k : ℕ). k ≤ judge.acked) (sym m.counts.last) acknowledged

  none_waiting : (w : Waiter) → IsAmong w c.barriers → ⊥
  none_waiting w among =
      let r = among_flat_map (waiter_at judge) w (left_of now) (subst (λ (l : List Waiter). IsAmong w l) m.table.barriers among) in
      let based : judge.now.base ≤ judge.acked = m.counts.based in
      let front : front_of judge r.0.event ≤ judge.acked =
      front_below judge.acked judge.now.base r.0.event judge.submits based (raised judge.submits within) in
      let l : Line = line.Barrier r.0.event (front_of judge r.0.event) in
      subst (λ (ls : List Line). IsAmong l ls) m.order.waiting
      (among_flat_map-in (λ (x : Taken). barrier_due judge x.event x.request) r.0 l (left_of now) r.1 (due_line judge r.0.event r.0.request (waiter_barrier judge r.0 w r.2) front))
    where
      raised : (batches : List Submitted) → AllByRecursion (λ s. s.seq ≤ c.last) batches → AllByRecursion (λ s. s.seq ≤ judge.acked) batches
      raised [] all = tt
      raised (s ∷ batches) all = let low : s.seq ≤ c.last = all.0 in let high : c.last ≤ judge.acked = all_last in (omega (arith, low, high), raised batches all.1)

  left_done : (v : ℕ) (q : Request) → HasLeft c judge.submits v q → is_done shape events history v q ≡ true
  left_done v (request.Read b) has = absurd (none_open has.0 has.1)
  left_done v request.Barrier has = absurd (none_waiting has.0 has.1)
  left_done v (request.Write batch) has = batch_done shape events history c v (request.Write batch) all_last within has
  left_done v (request.Restart e) has = refl
  left_done v (request.Reassign e g) has = refl

  pub kept_done : (r : Taken) → IsKept c judge.submits r → is_done shape events history r.event r.request ≡ true
  kept_done r (inl waits) = absurd (none_waits (line_of now) refl r (subst (λ (l : List Taken). IsAmong r l) m.table.line waits))
  kept_done r (inr has) = left_done r.event r.request has
