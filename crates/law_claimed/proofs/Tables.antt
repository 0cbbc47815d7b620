-- A request that a serving client has stays in its tables, or lines of the step end it.
use Rattle.std.proofs.Common.{◌≡◌, ◌∙◌, ◌⊎◌, inl, inr, ⊎_elim, ℕ, zero, ◌+◌, ◌-◌, ◌^◌, ◌≤◌, ◌==◌, ◌&&◌, ◌||◌, not, nat_lt, nat_le, Bool, true, false, if◌then◌else◌, List, [], ◌∷◌, ◌++◌, map, length, Option, None, Some, refl, sym, ap, subst, arith, eqb-true}
use Rattle.std.specs.Prelude.{filter, flat_map}
use Rattle.std.specs.Option.{option_or}
use Rattle.std.specs.List.{list_any, AllByRecursion}
use Rattle.std.proofs.lemmas.Bool.{true≢false, eq-eqb, not_from_false}
use Rattle.salus_types.specs.Volume.{Shape, regions}
use Rattle.salus_types.specs.declared.names.NodeName.{NodeName}
use Rattle.salus_types.specs.declared.strike.Strike.{Strike}
use Rattle.salus_message.specs.declared.replies.Answer.{Answer}
use Rattle.salus_message.specs.declared.wire.Message.{Message}
use Rattle.salus_message.specs.declared.wire.Message.TheVariants as message
use Rattle.schedule_text.specs.declared.schedule.Volume.{Volume}
use Rattle.schedule_text.specs.declared.schedule.Event.{Event}
use Rattle.printed_lines.specs.declared.line.Line.{Line}
use Rattle.printed_lines.specs.declared.line.Line.TheVariants as line
use Rattle.printed_lines.specs.declared.line.RequestRefusal.{RequestRefusal}
use Rattle.salus_model.specs.declared.trace.Request.{Request}
use Rattle.salus_model.specs.declared.trace.Request.TheVariants as request
use Rattle.merkle_region.specs.Tree.{IsAmong}
use Rattle.merkle_region.proofs.Membership.{among_left, among_right, among_either}
use Rattle.salus_model.specs.Judge.{Judge, Submitted, judged, judged_all}
use Rattle.salus_model.specs.Hearing.{News, Asks, Says, Crashes, Silence}
use Rattle.salus_model.specs.Waiting.{Taken, joins, is_write, is_barrier, left_of, Question, range_refusal}
use Rattle.salus_model.specs.Answering.{Verdict, Stale, Good, Struck, is_fitting, all_struck}
use Rattle.salus_model.specs.Complete.{gives_block, is_crash}
use Rattle.client_rules.specs.State.{Open, Waiter, Unacked, Serving, Letter, Client, Closed, Serves, Gathers, Fetches, Stages, Switches, Told, ignored, only_lines}
use Rattle.client_rules.specs.Tables.{fresh, answers, open_at, closed_at, struck, struck_at, worth, line_of, read_question, read_questions, waiter_of, answered_of, is_reached, waiter_line, all_claimed}
use Rattle.client_rules.specs.Submitting.{batch_asked, with_batch}
use Rattle.client_rules.specs.Serving.{after_leaving, leaves, in_flight, is_idle, busy_refusal, refusal_here, joined, fetches, decided, requested_here, read_ended, read_struck, read_judged, read_answered, head_faulted, submits, head_known, head_judged, head_answered, answered_here, Acked, acked_one, acked_lines, acks, claimed, acked_told, committed_here}
use Rattle.client_rules.specs.Rules.{requested, told_serving, received, told}
use Rattle.list_lemmas.proofs.Each.{either_way, all_both, all_then, all_map, all_each, all_flat}
use Rattle.list_lemmas.proofs.Members.{any_among, any_from, among_map-in, among_flat_map-in, among_filter-in, find_among}
use Rattle.list_lemmas.proofs.Tests.{by_bool, and_left, and_right}
use Rattle.law_lines.proofs.Ordered.{left-line, free-left}
use Rattle.law_reads.specs.Reading.{HaveOwnNumbers}
use Rattle.law_claimed.specs.Accounting.{is_fault, has_fault, answers_barrier, IsEndedBy, HasBatch, HasLeft, IsKept}
use Rattle.law_claimed.proofs.Batches.{is_still, IsStill, batches_same}

-- ---- what has left

-- it depends on the tables that it stands in alone
pub left_same : (c d : Serving) (batches : List Submitted) (v : ℕ) (q : Request) → d.reads ≡ c.reads → d.barriers ≡ c.barriers → HasLeft c batches v q → HasLeft d batches v q
left_same c d batches v (request.Read b) reads barriers has = (has.0, subst (λ (l : List Open). IsAmong has.0 l) (sym reads) has.1, has.2)
left_same c d batches v request.Barrier reads barriers has = (has.0, subst (λ (l : List Waiter). IsAmong has.0 l) (sym barriers) has.1, has.2)
left_same c d batches v (request.Write batch) reads barriers has = has
left_same c d batches v (request.Restart e) reads barriers has = has
left_same c d batches v (request.Reassign e g) reads barriers has = has

left_more : (c : Serving) (batches : List Submitted) (s : Submitted) (v : ℕ) (q : Request) → HasLeft c batches v q → HasLeft c (s ∷ batches) v q
left_more c batches s v (request.Read b) has = has
left_more c batches s v request.Barrier has = has
left_more c batches s v (request.Write batch) has = (has.0, inr has.1, has.2)
left_more c batches s v (request.Restart e) has = has
left_more c batches s v (request.Reassign e g) has = has

ended_behind : (l : Line) (ls : List Line) (v : ℕ) (q : Request) → is_still l ≡ false → IsEndedBy ls v q → IsEndedBy (l ∷ ls) v q
ended_behind (line.Submit u s) ls v (request.Read b) new ended = ended
ended_behind (line.Submit u s) ls v request.Barrier new ended = ended
ended_behind (line.Submit u s) ls v (request.Write batch) new ended = ended
ended_behind (line.Submit u s) ls v (request.Restart e) new ended = ended
ended_behind (line.Submit u s) ls v (request.Reassign e g) new ended = ended
ended_behind (line.Open e) ls v (request.Read b) new ended = ended
ended_behind (line.Open e) ls v request.Barrier new ended = ended
ended_behind (line.Open e) ls v (request.Write batch) new ended = ended
ended_behind (line.Open e) ls v (request.Restart f) new ended = ended
ended_behind (line.Open e) ls v (request.Reassign f g) new ended = ended
ended_behind (line.Ack s) ls v q new ended = absurd (true≢false new)
ended_behind (line.Read u b x) ls v q new ended = absurd (true≢false new)
ended_behind (line.Fault u b strikes) ls v q new ended = absurd (true≢false new)
ended_behind (line.Barrier u s) ls v q new ended = absurd (true≢false new)
ended_behind (line.Refused u cause) ls v q new ended = absurd (true≢false new)
ended_behind (line.Skip u k) ls v q new ended = absurd (true≢false new)
ended_behind (line.Stage e f s) ls v q new ended = absurd (true≢false new)
ended_behind (line.Lost e) ls v q new ended = absurd (true≢false new)

-- a write that is a batch
write_batch : (batches : List Submitted) (s : Submitted) (v : ℕ) (q : Request) → is_write q ≡ true → IsAmong s batches → s.event ≡ v → HasBatch batches v q
write_batch batches s v (request.Write batch) written among same = (s, among, same)
write_batch batches s v (request.Read b) written among same = absurd (true≢false (sym written))
write_batch batches s v request.Barrier written among same = absurd (true≢false (sym written))
write_batch batches s v (request.Restart e) written among same = absurd (true≢false (sym written))
write_batch batches s v (request.Reassign e g) written among same = absurd (true≢false (sym written))

batch_left : (c : Serving) (batches : List Submitted) (v : ℕ) (q : Request) → HasBatch batches v q → HasLeft c batches v q
batch_left c batches v (request.Write batch) has = has
batch_left c batches v (request.Read b) has = absurd has
batch_left c batches v request.Barrier has = absurd has
batch_left c batches v (request.Restart e) has = absurd has
batch_left c batches v (request.Reassign e g) has = absurd has

-- ---- the waiting line

module _ (shape : Shape) (d : Serving) (batches : List Submitted) where
  pub answered_still : (rs : List Taken) → AllByRecursion IsStill (flat_map (λ r. answered_of d r) rs)
  answered_still rs =
      all_flat IsStill (λ r. answered_of d r) rs
      (λ r. either_way (is_barrier r.request && nat_le d.last d.acked) (line.Barrier r.event d.last ∷ []) [] (λ (ls : List Line). AllByRecursion IsStill ls) (refl, tt) tt)

  -- what leaves is an open read, or a barrier that waits or is answered
  left_by : (rs : List Taken) (v : ℕ) (q : Request) → joins q ≡ true → (is_write q ≡ true → ⊥) → IsAmong (record { event = v; request = q }) (left_of rs)
      → IsEndedBy (flat_map (λ r. answered_of d r) (left_of rs)) v q ⊎ HasLeft (after_leaving shape d rs) batches v q
  left_by rs v (request.Write batch) joins_it unwritten among = absurd (unwritten refl)
  left_by rs v (request.Read b) joins_it unwritten among =
      let q : Question = record { event = v; number = v; block = b } in
      inr (
        fresh shape q,
        among_right (fresh shape q) d.reads (map (fresh shape) (read_questions (left_of rs)))
            (among_map-in (fresh shape) (read_questions (left_of rs)) q (among_flat_map-in (λ (r : Taken). read_question r.event r.request) (record { event = v; request = request.Read b }) q (left_of rs) among (inl refl))),
        refl,
      )
  left_by rs v request.Barrier joins_it unwritten among =
      let w : Waiter = record { event = v; front = d.last } in
      let l : Line = line.Barrier v d.last in
      let r : Taken = record { event = v; request = request.Barrier } in
      by_bool (nat_le d.last d.acked) _
      (λ all. inl (any_from (answers_barrier v) l (flat_map (λ r. answered_of d r) (left_of rs))
      (among_flat_map-in (λ (r : Taken). answered_of d r) r l (left_of rs) among (subst (λ (x : Bool). IsAmong l (if x then l ∷ [] else [])) (sym all) (inl refl))) (eq-eqb v v refl)))
      (λ some. inr (
        w,
        among_right w d.barriers (flat_map (λ r. waiter_of d r) (left_of rs))
            (among_flat_map-in (λ (r : Taken). waiter_of d r) r w (left_of rs) among (subst (λ (x : Bool). IsAmong w (if not x then w ∷ [] else [])) (sym some) (inl refl))),
        refl,
      ))
  left_by rs v (request.Restart e) joins_it unwritten among = absurd (true≢false (sym joins_it))
  left_by rs v (request.Reassign e g) joins_it unwritten among = absurd (true≢false (sym joins_it))

  abbrev pub HasGone : List Taken → Taken → Type 0
  HasGone rs r = IsEndedBy (flat_map (λ r. answered_of d r) (left_of rs)) r.event r.request ⊎ IsKept (after_leaving shape d rs) batches r

  pub leaves_new : (rs : List Taken) (r : Taken) → joins r.request ≡ true → IsAmong r rs → HasGone rs r
  leaves_new rs r joins_it among =
      ⊎_elim (λ (left : IsAmong r (left_of rs)).
      ⊎_elim (λ (ended : IsEndedBy (flat_map (λ r. answered_of d r) (left_of rs)) r.event r.request). inl ended) (λ (has : HasLeft (after_leaving shape d rs) batches r.event r.request). inr (inr has))
      (left_by rs r.event r.request joins_it (λ written. true≢false (sym (any_from (λ (x : Taken). is_write x.request) r (left_of rs) left written) ∙ free-left rs)) left))
      (λ (waits : IsAmong r (line_of rs)). inr (inl waits))
      (among_either r (left_of rs) (line_of rs) (subst (λ (l : List Taken). IsAmong r l) (sym (left-line rs)) among))

  -- and what had left before stays
  pub leaves_old : (rs : List Taken) (v : ℕ) (q : Request) → HasLeft d batches v q → HasLeft (after_leaving shape d rs) batches v q
  leaves_old rs v (request.Read b) has = (has.0, among_left has.0 d.reads (map (fresh shape) (read_questions (left_of rs))) has.1, has.2)
  leaves_old rs v request.Barrier has = (has.0, among_left has.0 d.barriers (flat_map (λ r. waiter_of d r) (left_of rs)) has.1, has.2)
  leaves_old rs v (request.Write batch) has = has
  leaves_old rs v (request.Restart e) has = has
  leaves_old rs v (request.Reassign e g) has = has

-- ---- claims

module _ (shape : Shape) where
  abbrev Next : Serving → List Unacked → Acked
  Next d us = acks shape d us

  record AreSame (d : Serving) (t : Acked) : Type 0 where
    line : t.client.line ≡ d.line
    reads : t.client.reads ≡ d.reads
    last : t.client.last ≡ d.last
    still : AllByRecursion IsStill t.lines

  acks_same : (d : Serving) (us : List Unacked) → AreSame d (acks shape d us)
  unfolding acks
  acks_same d [] = record { line = refl; reads = refl; last = refl; still = tt }
  acks_same d (u ∷ us) =
      let rest = acks_same (acked_one d us) us in
      either_way (all_claimed shape d.claims u.leader (d.acked + 1))
      (record { client = (acks shape (acked_one d us) us).client; lines = acked_lines d ++ (acks shape (acked_one d us) us).lines }) (record { client = d; lines = [] })
      (λ (t : Acked). AreSame d t)
      (record {
        line = rest.line;
        reads = rest.reads;
        last = rest.last;
        still = all_both IsStill (acked_lines d) (acks shape (acked_one d us) us).lines
            (refl, all_map IsStill waiter_line (filter (λ w. is_reached (d.acked + 1) w) d.barriers) (all_each (λ w. IsStill (waiter_line w)) (filter (λ w. is_reached (d.acked + 1) w) d.barriers) (λ w. refl))) rest.still;
      })
      (record { line = refl; reads = refl; last = refl; still = tt })

  -- a barrier that waits goes on waiting, or is answered
  acks_barrier : (w : Waiter) (d : Serving) (us : List Unacked) → IsAmong w d.barriers
      → (list_any (answers_barrier w.event) (acks shape d us).lines ≡ true) ⊎ IsAmong w (acks shape d us).client.barriers
  unfolding acks
  acks_barrier w d [] among = inr among
  acks_barrier w d (u ∷ us) among =
      let front : List Line = acked_lines d in
      let rest : Acked = acks shape (acked_one d us) us in
      let P : Acked → Type 0 = λ t. (list_any (answers_barrier w.event) t.lines ≡ true) ⊎ IsAmong w t.client.barriers in
      either_way (all_claimed shape d.claims u.leader (d.acked + 1)) (record { client = rest.client; lines = front ++ rest.lines }) (record { client = d; lines = [] }) P
      (by_bool (is_reached (d.acked + 1) w) (P (record { client = rest.client; lines = front ++ rest.lines }))
      (λ reached. inl (any_from (answers_barrier w.event) (waiter_line w) (front ++ rest.lines)
      (among_left (waiter_line w) front rest.lines (inr (among_map-in waiter_line (filter (λ w. is_reached (d.acked + 1) w) d.barriers) w (among_filter-in (λ w. is_reached (d.acked + 1) w) d.barriers w among reached))))
      (eq-eqb w.event w.event refl)))
      (λ waits.
      ⊎_elim (λ (answered : list_any (answers_barrier w.event) rest.lines ≡ true).
      let found = any_among (answers_barrier w.event) rest.lines answered in
      inl (any_from (answers_barrier w.event) found.0 (front ++ rest.lines) (among_right found.0 front rest.lines found.1) found.2))
      (λ (stays : IsAmong w rest.client.barriers). inr stays)
      (acks_barrier w (acked_one d us) us (among_filter-in (λ w. not (is_reached (d.acked + 1) w)) d.barriers w among (not_from_false (is_reached (d.acked + 1) w) waits)))))
      (inr among)

-- ---- a step of a serving client

idle_of : (b : Bool) (x : RequestRefusal) → (if b then None else Some x) ≡ None → b ≡ true
idle_of true x is = refl
idle_of false x is = absurd (cc)

range_over : (x y : Option RequestRefusal) → option_or x y ≡ None → y ≡ None
range_over None y is = is
range_over (Some cause) y is = absurd (cc)

none_in : {A : Type 0} (x : A) (xs : List A) → IsAmong x xs → length xs ≡ zero → ⊥
none_in x [] among none = among
none_in x (y ∷ xs) among none = omega (arith, none)

-- no batch of a client that serves is above the last number
abbrev pub IsWithin : Client → List Submitted → Type 0
IsWithin (Serves d) batches = AllByRecursion (λ s. s.seq ≤ d.last) batches
IsWithin Closed batches = Unit {0}
IsWithin (Gathers g) batches = Unit {0}
IsWithin (Fetches f) batches = Unit {0}
IsWithin (Stages b) batches = Unit {0}
IsWithin (Switches b) batches = Unit {0}

module _ (volume : Volume) (events : List Event) (judge : Judge) (c : Serving) where
  abbrev shape : Shape
  shape = volume.geometry

  -- the client after the step has it still; one that fetches has its batch alone, and then every batch was acknowledged
  abbrev pub IsHeld : Client → List Submitted → Taken → Type 0
  IsHeld (Serves d) batches r = IsKept d batches r
  IsHeld (Fetches f) batches r = HasBatch judge.submits r.event r.request × (c.last ≤ c.acked)
  IsHeld Closed batches r = ⊥
  IsHeld (Gathers g) batches r = ⊥
  IsHeld (Stages b) batches r = ⊥
  IsHeld (Switches b) batches r = ⊥

  abbrev pub Goes : Told → List Submitted → Taken → Type 0
  Goes t batches r = IsEndedBy t.lines r.event r.request ⊎ IsHeld t.client batches r

  abbrev batches_then : Told → List Submitted
  batches_then t = (judged_all events judge t.lines).submits

  pub record Moves (t : Told) : Type 0 where
    pub goes : (r : Taken) → joins r.request ≡ true → IsKept c judge.submits r → Goes t (judged_all events judge t.lines).submits r
    pub within : IsWithin (Serves c) judge.submits → IsWithin t.client (judged_all events judge t.lines).submits

  still_moves : (t : Told) → AllByRecursion IsStill t.lines → ((r : Taken) → joins r.request ≡ true → IsKept c judge.submits r → Goes t judge.submits r)
      → (IsWithin (Serves c) judge.submits → IsWithin t.client judge.submits) → Moves t
  still_moves t still goes within = record {
    goes = λ r joins_it kept. subst (λ (b : List Submitted). Goes t b r) (sym (batches_same events t.lines judge still)) (goes r joins_it kept);
    within = λ low. subst (λ (b : List Submitted). IsWithin t.client b) (sym (batches_same events t.lines judge still)) (within low);
  }

  -- other tables change, if any
  other_tables : (d : Serving) (outs : List Letter) (lines : List Line) → d.line ≡ c.line → d.reads ≡ c.reads → d.barriers ≡ c.barriers → d.last ≡ c.last → AllByRecursion IsStill lines
      → Moves (record { client = Serves d; outs = outs; lines = lines })
  other_tables d outs lines line reads barriers last still =
      still_moves _ still
      (λ r joins_it kept. ⊎_elim (λ (waits : IsAmong r c.line). inr (inl (subst (λ (l : List Taken). IsAmong r l) (sym line) waits)))
      (λ (has : HasLeft c judge.submits r.event r.request). inr (inr (left_same c d judge.submits r.event r.request reads barriers has))) kept)
      (λ low. subst (λ (n : ℕ). AllByRecursion (λ s. s.seq ≤ n) judge.submits) (sym last) low)

  same_client : (outs : List Letter) (lines : List Line) → AllByRecursion IsStill lines → Moves (record { client = Serves c; outs = outs; lines = lines })
  same_client outs lines still = other_tables c outs lines refl refl refl refl still

  -- ---- a request

  joined_moves : (r : Taken) (l : List Taken) → c.line ≡ l → Moves (joined shape c r l)
  unfolding leaves
  joined_moves r [] empty =
      still_moves _ (answered_still shape c judge.submits (left_of (r ∷ [])))
      (λ x joins_it kept. ⊎_elim (λ (waits : IsAmong x c.line). absurd (subst (λ (l : List Taken). IsAmong x l) empty waits))
      (λ (has : HasLeft c judge.submits x.event x.request). inr (inr (leaves_old shape c judge.submits (r ∷ []) x.event x.request has))) kept)
      (λ low. low)
  joined_moves r (head ∷ l) is =
      let d : Serving = record c { line = (head ∷ l) ++ r ∷ [] } in
      still_moves (ignored (Serves d)) tt
      (λ x joins_it kept. ⊎_elim (λ (waits : IsAmong x c.line). inr (inl (among_left x (head ∷ l) (r ∷ []) (subst (λ (l : List Taken). IsAmong x l) is waits))))
      (λ (has : HasLeft c judge.submits x.event x.request). inr (inr (left_same c d judge.submits x.event x.request refl refl has))) kept)
      (λ low. low)

  -- it joins the others
  joined_new : (r : Taken) (l : List Taken) → joins r.request ≡ true → Goes (joined shape c r l) (batches_then (joined shape c r l)) r
  unfolding leaves
  joined_new r [] joins_it =
      subst (λ (b : List Submitted). Goes (joined shape c r []) b r) (sym (batches_same events (flat_map (λ r. answered_of c r) (left_of (r ∷ []))) judge (answered_still shape c judge.submits (left_of (r ∷ [])))))
      (leaves_new shape c judge.submits (r ∷ []) r joins_it (inl refl))
  joined_new r (head ∷ l) joins_it = inr (inl (among_right r (head ∷ l) (r ∷ []) (inl refl)))

  idle_left : (f : Client) (v : ℕ) (q : Request) → is_idle c ≡ true → HasLeft c judge.submits v q → HasBatch judge.submits v q
  idle_left f v (request.Read b) idle has =
      let all : length c.reads + length c.barriers + length c.line ≡ zero = eqb-true (length c.reads + length c.barriers + length c.line) zero (and_right (in_flight c == 0) (length c.reads + length c.barriers + length c.line == 0) idle) in
      absurd (none_in has.0 c.reads has.1 (omega (arith, all)))
  idle_left f v request.Barrier idle has =
      let all : length c.reads + length c.barriers + length c.line ≡ zero = eqb-true (length c.reads + length c.barriers + length c.line) zero (and_right (in_flight c == 0) (length c.reads + length c.barriers + length c.line == 0) idle) in
      absurd (none_in has.0 c.barriers has.1 (omega (arith, all)))
  idle_left f v (request.Write batch) idle has = has
  idle_left f v (request.Restart e) idle has = has
  idle_left f v (request.Reassign e g) idle has = has

  fetch_moves : (e g : ℕ) → is_idle c ≡ true → Moves (fetches shape c e g)
  fetch_moves e g idle =
      let all : length c.reads + length c.barriers + length c.line ≡ zero = eqb-true (length c.reads + length c.barriers + length c.line) zero (and_right (in_flight c == 0) (length c.reads + length c.barriers + length c.line == 0) idle) in
      let flight : c.last - c.acked ≡ zero = eqb-true (in_flight c) zero (and_left (in_flight c == 0) (length c.reads + length c.barriers + length c.line == 0) idle) in
      still_moves (fetches shape c e g) tt
      (λ r joins_it kept. ⊎_elim (λ (waits : IsAmong r c.line). absurd (none_in r c.line waits (omega (arith, all))))
      (λ (has : HasLeft c judge.submits r.event r.request). inr (idle_left (Serves c) r.event r.request idle has, omega (arith, flight))) kept)
      (λ low. tt)

  decided_moves : (v : ℕ) (q : Request) (x : Option RequestRefusal) → refusal_here shape c q ≡ x → Moves (decided shape c v q x)
  decided_moves v q (Some cause) is = same_client [] _ (refl, tt)
  decided_moves v (request.Write batch) None is = joined_moves _ c.line refl
  decided_moves v (request.Read b) None is = joined_moves _ c.line refl
  decided_moves v request.Barrier None is = joined_moves _ c.line refl
  decided_moves v (request.Restart e) None is = same_client [] [] tt
  decided_moves v (request.Reassign e g) None is = fetch_moves e g (idle_of (is_idle c) _ (range_over (range_refusal (regions shape) (g ∷ [])) (busy_refusal c) is))

  -- a request that isn't refused is kept, if it is one that joins
  decided_new : (v : ℕ) (q : Request) (x : Option RequestRefusal) → joins q ≡ true → x ≡ None → Goes (decided shape c v q x) (batches_then (decided shape c v q x)) (record { event = v; request = q })
  decided_new v q (Some cause) joins_it none = absurd (cc)
  decided_new v (request.Write batch) None joins_it none = joined_new _ c.line refl
  decided_new v (request.Read b) None joins_it none = joined_new _ c.line refl
  decided_new v request.Barrier None joins_it none = joined_new _ c.line refl
  decided_new v (request.Restart e) None joins_it none = absurd (true≢false (sym joins_it))
  decided_new v (request.Reassign e g) None joins_it none = absurd (true≢false (sym joins_it))

  -- ---- a claim

  acked_left : (d : Serving) (t : Acked) (v : ℕ) (q : Request) → AreSame shape d t → d.reads ≡ c.reads
      → ((w : Waiter) → IsAmong w c.barriers → (list_any (answers_barrier w.event) t.lines ≡ true) ⊎ IsAmong w t.client.barriers)
      → HasLeft c judge.submits v q → IsEndedBy t.lines v q ⊎ HasLeft t.client judge.submits v q
  acked_left d t v (request.Read b) same reads waits has = inr (has.0, subst (λ (l : List Open). IsAmong has.0 l) (sym (same.reads ∙ reads)) has.1, has.2)
  acked_left d t v request.Barrier same reads waits has =
      ⊎_elim (λ (answered : list_any (answers_barrier has.0.event) t.lines ≡ true). inl (subst (λ (u : ℕ). list_any (answers_barrier u) t.lines ≡ true) has.2 answered))
      (λ (stays : IsAmong has.0 t.client.barriers). inr (has.0, stays, has.2)) (waits has.0 has.1)
  acked_left d t v (request.Write batch) same reads waits has = inr has
  acked_left d t v (request.Restart e) same reads waits has = inr has
  acked_left d t v (request.Reassign e g) same reads waits has = inr has

  committed_moves : (name : NodeName) (session front : ℕ) → Moves (committed_here shape c name session front)
  unfolding committed_here
  committed_moves name session front =
      let d : Serving = claimed c name front in
      let same = acks_same shape d c.unacked in
      either_way (session == c.session) (acked_told (acks shape d c.unacked)) (ignored (Serves c)) Moves
      (still_moves _ same.still
      (λ r joins_it kept. ⊎_elim (λ (waits : IsAmong r c.line). inr (inl (subst (λ (l : List Taken). IsAmong r l) (sym same.line) waits)))
      (λ (has : HasLeft c judge.submits r.event r.request).
      ⊎_elim (λ (ended : IsEndedBy (acks shape d c.unacked).lines r.event r.request). inl ended) (λ (left : HasLeft (acks shape d c.unacked).client judge.submits r.event r.request). inr (inr left))
      (acked_left d (acks shape d c.unacked) r.event r.request same refl (λ w among. acks_barrier shape w d c.unacked among) has)) kept)
      (λ low. subst (λ (n : ℕ). AllByRecursion (λ s. s.seq ≤ n) judge.submits) (sym same.last) low))
      (same_client [] [] tt)

  -- ---- an answer

  module _ (one : HaveOwnNumbers c.reads) (heads : (w : Taken) (behind : List Taken) → c.line ≡ w ∷ behind → is_write w.request ≡ true) (name : NodeName) (a : Answer) where
    -- if no line is a fault
    abbrev Faultless : Told → Type 0
    Faultless t = has_fault t.lines ≡ false → Moves t

    -- each open read stays open, or a line gives its block
    reads_left : (reads : List Open) (lines : List Line) → ((o : Open) → IsAmong o c.reads → (list_any (gives_block o.question.event) lines ≡ true) ⊎ ((p : Open) × IsAmong p reads × (p.question.event ≡ o.question.event)))
        → (v : ℕ) (q : Request) → HasLeft c judge.submits v q → IsEndedBy lines v q ⊎ HasLeft (record c { reads = reads }) judge.submits v q
    reads_left reads lines each v (request.Read b) has =
        ⊎_elim (λ (gives : list_any (gives_block has.0.question.event) lines ≡ true). inl (subst (λ (u : ℕ). list_any (gives_block u) lines ≡ true) has.2 gives))
        (λ (stays : (p : Open) × IsAmong p reads × (p.question.event ≡ has.0.question.event)). inr (stays.0, stays.1, stays.2 ∙ has.2)) (each has.0 has.1)
    reads_left reads lines each v request.Barrier has = inr has
    reads_left reads lines each v (request.Write batch) has = inr has
    reads_left reads lines each v (request.Restart e) has = inr has
    reads_left reads lines each v (request.Reassign e g) has = inr has

    reads_move : (reads : List Open) (lines : List Line) → AllByRecursion IsStill lines
        → ((o : Open) → IsAmong o c.reads → (list_any (gives_block o.question.event) lines ≡ true) ⊎ ((p : Open) × IsAmong p reads × (p.question.event ≡ o.question.event)))
        → Moves (only_lines (Serves (record c { reads = reads })) lines)
    reads_move reads lines still each =
        still_moves (only_lines (Serves (record c { reads = reads })) lines) still
        (λ r joins_it kept. ⊎_elim (λ (waits : IsAmong r c.line). inr (inl waits))
        (λ (has : HasLeft c judge.submits r.event r.request).
        ⊎_elim (λ (ended : IsEndedBy lines r.event r.request). inl ended) (λ (left : HasLeft (record c { reads = reads }) judge.submits r.event r.request). inr (inr left)) (reads_left reads lines each r.event r.request has)) kept)
        (λ low. low)

    given_moves : (o : Open) → IsAmong o c.reads → Moves (read_ended c o (line.Read o.question.event o.question.block a.bytes))
    given_moves o there =
        let l : Line = line.Read o.question.event o.question.block a.bytes in
        reads_move (closed_at o.question.number c.reads) (l ∷ []) (refl, tt)
        (λ p among. by_bool (p.question.number == o.question.number) _
        (λ same. inl (ap (λ (w : Bool). w || false) (eq-eqb o.question.event p.question.event (ap (λ (x : Open). x.question.event) (one p o among there (sym (eqb-true p.question.number o.question.number same)))))))
        (λ apart. inr (p, among_filter-in (λ (x : Open). not (x.question.number == o.question.number)) c.reads p among (not_from_false (p.question.number == o.question.number) apart), refl)))

    struck_moves : (o : Open) (s : Strike) → Faultless (read_struck c name a o s)
    struck_moves o s =
        let l : Line = line.Fault o.question.event o.question.block (struck name.replica s o).strikes in
        either_way (all_struck (struck name.replica s o).strikes) (read_ended c o l) (ignored (Serves (record c { reads = struck_at a name.replica s c.reads }))) Faultless
        (λ faultless. absurd (true≢false faultless))
        (λ faultless. reads_move (struck_at a name.replica s c.reads) [] tt
        (λ p among.
        let now : Open = if answers a p then struck name.replica s p else p in
        inr (
          now,
          among_map-in (λ (x : Open). if answers a x then struck name.replica s x else x) c.reads p among,
          either_way (answers a p) (struck name.replica s p) p (λ (x : Open). x.question.event ≡ p.question.event) refl refl,
        )))

    judged_moves : (o : Open) → IsAmong o c.reads → (x : Verdict) → Faultless (read_judged shape c name a o x)
    judged_moves o there Stale = λ faultless. same_client _ [] tt
    judged_moves o there Good = λ faultless. given_moves o there
    judged_moves o there (Struck s) = struck_moves o s

    read_moves : (x : Option Open) → open_at a c.reads ≡ x → Faultless (read_answered shape c name a x)
    read_moves None is = λ faultless. same_client [] [] tt
    read_moves (Some o) is = judged_moves o (find_among (λ (p : Open). answers a p) o c.reads is).0 (worth shape c a)

    -- the head is a batch then, and what stands behind it is looked at
    module _ (w : Taken) (behind : List Taken) (line_is : c.line ≡ w ∷ behind) where
      abbrev next : Serving
      next = with_batch volume c (batch_asked w.request)

      abbrev new : Submitted
      new = record { event = w.event; seq = c.last + 1 }

      abbrev left_lines : List Line
      left_lines = flat_map (λ r. answered_of next r) (left_of behind)

      -- the judge after the first line
      abbrev after_new : Judge
      after_new = judged events judge (line.Submit w.event (c.last + 1))

      batches_now : (judged_all events after_new left_lines).submits ≡ new ∷ judge.submits
      batches_now = batches_same events left_lines after_new (answered_still shape next judge.submits (left_of behind))

      abbrev Went : Taken → Type 0
      Went r = IsEndedBy (line.Submit w.event (c.last + 1) ∷ left_lines) r.event r.request ⊎ IsKept (after_leaving shape next behind) (new ∷ judge.submits) r

      submitted_head : (r : Taken) → r ≡ w → Went r
      submitted_head r is =
          let written : is_write r.request ≡ true = ap (λ (x : Taken). is_write x.request) is ∙ heads w behind line_is in
          inr (inr (batch_left (after_leaving shape next behind) (new ∷ judge.submits) r.event r.request (write_batch (new ∷ judge.submits) new r.event r.request written (inl refl) (ap (λ (x : Taken). x.event) (sym is)))))

      submitted_behind : (r : Taken) → joins r.request ≡ true → IsAmong r behind → Went r
      submitted_behind r joins_it among =
          ⊎_elim (λ (ended : IsEndedBy left_lines r.event r.request). inl (ended_behind (line.Submit w.event (c.last + 1)) left_lines r.event r.request refl ended))
          (λ (kept : IsKept (after_leaving shape next behind) (new ∷ judge.submits) r). inr kept) (leaves_new shape next (new ∷ judge.submits) behind r joins_it among)

      submitted_left : (r : Taken) → HasLeft c judge.submits r.event r.request → Went r
      submitted_left r has =
          inr (inr (leaves_old shape next (new ∷ judge.submits) behind r.event r.request (left_same c next (new ∷ judge.submits) r.event r.request refl refl (left_more c judge.submits new r.event r.request has))))

      submitted_goes : (r : Taken) → joins r.request ≡ true → IsKept c judge.submits r → Went r
      submitted_goes r joins_it (inl waits) = elim (subst (λ (l : List Taken). IsAmong r l) line_is waits) [
        | inl is ↦ submitted_head r is
        | inr among ↦ submitted_behind r joins_it among
      ]
      submitted_goes r joins_it (inr has) = submitted_left r has

      submit_moves : Moves (submits volume c (w ∷ behind))
      unfolding leaves judged_all
      submit_moves = record {
        goes = λ r joins_it kept. subst (λ (b : List Submitted). IsEndedBy (line.Submit w.event (c.last + 1) ∷ left_lines) r.event r.request ⊎ IsKept (after_leaving shape next behind) b r) (sym batches_now) (submitted_goes r joins_it kept);
        within = λ low. subst (λ (b : List Submitted). AllByRecursion (λ s. s.seq ≤ c.last + 1) b) (sym batches_now)
            (omega arith, all_then (λ (s : Submitted). s.seq ≤ c.last) (λ s. s.seq ≤ c.last + 1) (λ s less. omega (arith, less)) judge.submits low);
      }

    submits_move : (l : List Taken) → c.line ≡ l → Moves (submits volume c l)
    submits_move [] is = same_client [] [] tt
    submits_move (w ∷ behind) is = submit_moves w behind is

    known_moves : (l : List Open) → Moves (head_known volume c a l)
    known_moves [] = submits_move c.line refl
    known_moves (o ∷ left) = other_tables _ [] [] refl refl refl refl tt

    faulted_moves : (l : Line) (rs : List Taken) → is_fault l ≡ true → Faultless (head_faulted shape c l rs)
    faulted_moves l [] is = λ faultless. same_client [] [] tt
    faulted_moves l (w ∷ behind) is = λ faultless. absurd (true≢false (sym (ap (λ (x : Bool). x || has_fault (leaves shape c behind).lines) is) ∙ faultless))

    head_moves : (o : Open) (x : Verdict) → Faultless (head_judged volume c name a o x)
    head_moves o Stale = λ faultless. same_client _ [] tt
    head_moves o Good = λ faultless. known_moves (closed_at o.question.number c.asked)
    head_moves o (Struck s) =
        let l : Line = line.Fault o.question.event o.question.block (struck name.replica s o).strikes in
        either_way (all_struck (struck name.replica s o).strikes) (head_faulted shape c l c.line) (ignored (Serves (record c { asked = struck_at a name.replica s c.asked }))) Faultless
        (faulted_moves l c.line refl) (λ faultless. other_tables _ [] [] refl refl refl refl tt)

    head_answered_moves : (x : Option Open) → Faultless (head_answered volume c name a x)
    head_answered_moves None = λ faultless. same_client [] [] tt
    head_answered_moves (Some o) = head_moves o (worth shape c a)

    answered_moves : Faultless (answered_here volume c name a)
    unfolding answered_here
    answered_moves =
        either_way (not ((a.session == c.session) && is_fitting shape name a)) (ignored (Serves c))
        (if nat_lt a.read (2 ^ 32) then read_answered shape c name a (open_at a c.reads) else head_answered volume c name a (open_at a c.asked)) Faultless
        (λ faultless. same_client [] [] tt)
        (either_way (nat_lt a.read (2 ^ 32)) (read_answered shape c name a (open_at a c.reads)) (head_answered volume c name a (open_at a c.asked)) Faultless
        (read_moves (open_at a c.reads) refl) (head_answered_moves (open_at a c.asked)))

  -- ---- any step but a crash

  module _ (one : HaveOwnNumbers c.reads) (heads : (w : Taken) (behind : List Taken) → c.line ≡ w ∷ behind → is_write w.request ≡ true) where
    message_moves : (name : NodeName) (m : Message) → has_fault (told_serving volume c name m).lines ≡ false → Moves (told_serving volume c name m)
    message_moves name (message.Committed m) faultless = committed_moves name m.session m.front
    message_moves name (message.Answer m) faultless = answered_moves one heads name m faultless
    message_moves name (message.Part m) faultless = same_client [] [] tt
    message_moves name (message.Prepared m) faultless = same_client [] [] tt
    message_moves name (message.Ask m) faultless = same_client [] [] tt
    message_moves name (message.Gather m) faultless = same_client [] [] tt
    message_moves name (message.Gathered m) faultless = same_client [] [] tt
    message_moves name (message.Stage m) faultless = same_client [] [] tt
    message_moves name (message.Staged m) faultless = same_client [] [] tt
    message_moves name (message.Switch m) faultless = same_client [] [] tt
    message_moves name (message.Switched m) faultless = same_client [] [] tt
    message_moves name (message.Dump m) faultless = same_client [] [] tt
    message_moves name (message.Dumped m) faultless = same_client [] [] tt

    -- what the client has stays, or lines end it, unless one is a fault
    pub told_moves : (v : ℕ) (x : News) → is_crash x ≡ false → has_fault (told volume (Serves c) v x).lines ≡ false → Moves (told volume (Serves c) v x)
    unfolding told requested received requested_here
    told_moves v (Asks q) calm faultless = decided_moves v q (refusal_here shape c q) refl
    told_moves v (Says name m) calm faultless = message_moves name m faultless
    told_moves v Crashes calm faultless = absurd (true≢false calm)
    told_moves v Silence calm faultless = same_client [] [] tt

    -- what is asked and isn't refused is kept, or ended at once
    pub asked_goes : (v : ℕ) (q : Request) → joins q ≡ true → refusal_here shape c q ≡ None
        → Goes (told volume (Serves c) v (Asks q)) (judged_all events judge (told volume (Serves c) v (Asks q)).lines).submits (record { event = v; request = q })
    unfolding told requested requested_here
    asked_goes v q joins_it none = decided_new v q (refusal_here shape c q) joins_it none
