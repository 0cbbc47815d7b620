-- An open read ends.
use Rattle.std.proofs.Common.{◌≡◌, ℕ, ◌<◌, ◌≤◌, Bool, true, false, not, cond, ◌&&◌, ◌||◌, ◌==◌, ◌∙◌, List, [], ◌∷◌, ◌++◌, map, refl, ap, ap₂, sym, subst, arith, eqb-true, eq-eqb, append_assoc, append-nil}
use Rattle.std.specs.Prelude.{filter, flat_map}
use Rattle.std.specs.List.{list_any, list_all}
use Rattle.std.proofs.lemmas.Grind.{flat_map-append}
use Rattle.std.proofs.lemmas.List.Elements.{filter-append}
use Rattle.std.proofs.lemmas.List.Folds.{list_any-append}
use Rattle.std.proofs.lemmas.Bool.{or_parts}
use Rattle.salus_types.specs.declared.names.NodeName.{NodeName}
use Rattle.salus_message.specs.declared.replies.Answer.{Answer}
use Rattle.salus_message.specs.declared.wire.Message.TheVariants as message
use Rattle.schedule_text.specs.declared.schedule.Volume.{Volume}
use Rattle.schedule_text.specs.declared.schedule.Event.{Event}
use Rattle.printed_lines.specs.declared.line.Line.{Line}
use Rattle.salus_model.specs.declared.trace.Request.{Request}
use Rattle.salus_model.specs.declared.trace.Request.TheVariants as request
use Rattle.salus_model.specs.declared.trace.TraceStep.{TraceStep}
use Rattle.salus_model.specs.Judge.{Judge, is_among, judged, judged_all}
use Rattle.salus_model.specs.Hearing.{Says, Past, since, opens}
use Rattle.salus_model.specs.Waiting.{Taken, is_write, left_of, all_taken, live, has_ended, Question}
use Rattle.salus_model.specs.Answering.{is_answer, is_known}
use Rattle.salus_model.specs.Due.{barrier_due, barriers_due}
use Rattle.client_rules.specs.State as state
use Rattle.client_rules.specs.State.{only_lines}
use Rattle.client_rules.specs.Tables.{line_of, read_question, read_questions, head_questions, closed_at}
use Rattle.client_rules.specs.Serving.{read_ended}
use Rattle.list_lemmas.proofs.Tests.{by_test, unequal, unequal_up}
use Rattle.law_lines.specs.Mirror.{Between, IsUntouched, open_of, waiter_at, AfterHead, is_inside, MirrorsLine, IsInOrder}
use Rattle.law_lines.specs.Mirrors.{Holds, AsDue}
use Rattle.law_lines.proofs.Ordered.{AreFree, between-ends, between-filter, left-line, free-left, left_of-free, left_of-line, line_of-free, line_of-line}
use Rattle.law_lines.proofs.Settled.{without, unended-more}
use Rattle.law_lines.proofs.Moving.{inside-filter}
use Rattle.law_lines.proofs.Histories.{past, is_work, AreWork, work_lines, untouched-agree}
use Rattle.law_lines.proofs.Keeping.{before-serving, claims-plain}
use Rattle.law_lines.proofs.Committed.{said-live, said-phase}
use Rattle.law_lines.proofs.Hitting.{is_ours, hits, answer-is, agree-unasked, off-open, off-known, off-any, off-filter}
use Rattle.law_lines.proofs.Finding.{FoundRead, closed-map, without-one, between-front, between-behind, between-take}
use Rattle.law_lines.proofs.Numbering.{after-unasked}

-- the judge after the line of a read that has ended
abbrev pub with_ended : Judge → ℕ → Judge
with_ended judge v = record judge { ended = v ∷ judge.ended }

end_first : (t a b c : Bool) → ((t || a) || b || c) ≡ ((a || b || c) || (t || false))
end_first true true b c = refl
end_first true false true c = refl
end_first true false false true = refl
end_first true false false false = refl
end_first false true b c = refl
end_first false false true c = refl
end_first false false false true = refl
end_first false false false false = refl

pub ended-one : (judge : Judge) (v u : ℕ) → has_ended (with_ended judge v) u ≡ (has_ended judge u || is_among u (v ∷ []))
ended-one judge v u = end_first (v == u) (is_among u judge.ended) (is_among u judge.answered) (list_any (λ s. s.event == u) judge.submits)

pub ended-below : (judge : Judge) (v n : ℕ) → v < n → ((u : ℕ) → has_ended judge u ≡ true → u < n) → (u : ℕ) → has_ended (with_ended judge v) u ≡ true → u < n
ended-below judge v n less before u =
    by_test (λ t. (v == u) ≡ t → ((t || is_among u judge.ended) || is_among u judge.answered || list_any (λ s. s.event == u) judge.submits) ≡ true → u < n) (v == u)
    (λ _ at _. let same : v ≡ u = eqb-true v u at in omega (arith, less, same))
    (λ _ _ is. before u is) refl

-- ---- two parts without the one between them

free-parts : (xs ys : List Taken) (r : Taken) → AreFree (xs ++ r ∷ ys) → AreFree (xs ++ ys)
free-parts [] ys r free = (or_parts (is_write r.request) _ free).1
free-parts (x ∷ xs) ys r free = let s = or_parts (is_write x.request) _ free in ap₂ (λ a b. a || b) s.0 (free-parts xs ys r s.1)

one-apart : (u v : ℕ) (r : Request) → (u == v) ≡ false → filter (λ q. not (q.number == v)) (read_question u r) ≡ read_question u r
one-apart u v (request.Write batch) off = refl
one-apart u v (request.Read b) off = rw off refl
one-apart u v request.Barrier off = refl
one-apart u v (request.Restart e) off = refl
one-apart u v (request.Reassign e g) off = refl

one-off : (a : Answer) (u : ℕ) (r : Request) → (a.read == u) ≡ false → list_any (hits a) (read_question u r) ≡ false
one-off a u (request.Write batch) off = refl
one-off a u (request.Read b) off = ap (λ t. (t && (a.block == b)) || false) off
one-off a u request.Barrier off = refl
one-off a u (request.Restart e) off = refl
one-off a u (request.Reassign e g) off = refl

reads-apart : (low n v : ℕ) (rs : List Taken) → v ≤ low → Between low rs n → filter (λ q. not (q.number == v)) (read_questions rs) ≡ read_questions rs
unfolding Between
reads-apart low n v [] up b = refl
reads-apart low n v (r ∷ rs) up b =
    let h = b.0 in
    filter-append (λ q. not (q.number == v)) (read_question r.event r.request) (read_questions rs)
    ∙ ap₂ (λ x y. x ++ y) (one-apart r.event v r.request (unequal v r.event (omega (arith, up, h)))) (reads-apart r.event n v rs (omega (arith, up, h)) b.1)

reads-front : (low v : ℕ) (rs : List Taken) → Between low rs v → filter (λ q. not (q.number == v)) (read_questions rs) ≡ read_questions rs
unfolding Between
reads-front low v [] b = refl
reads-front low v (r ∷ rs) b =
    let less = between-ends r.event v rs b.1 in
    filter-append (λ q. not (q.number == v)) (read_question r.event r.request) (read_questions rs)
    ∙ ap₂ (λ x y. x ++ y) (one-apart r.event v r.request (unequal_up r.event v less)) (reads-front r.event v rs b.1)

off-behind : (a : Answer) (low n : ℕ) (rs : List Taken) → a.read ≤ low → Between low rs n → list_any (hits a) (read_questions rs) ≡ false
unfolding Between
off-behind a low n [] up b = refl
off-behind a low n (r ∷ rs) up b =
    let h = b.0 in
    list_any-append (hits a) (read_question r.event r.request) (read_questions rs)
    ∙ ap₂ (λ x y. x || y) (one-off a r.event r.request (unequal_up a.read r.event (omega (arith, up, h)))) (off-behind a r.event n rs (omega (arith, up, h)) b.1)

off-front : (a : Answer) (low v : ℕ) (rs : List Taken) → v ≤ a.read → Between low rs v → list_any (hits a) (read_questions rs) ≡ false
unfolding Between
off-front a low v [] up b = refl
off-front a low v (r ∷ rs) up b =
    let less = between-ends r.event v rs b.1 in
    list_any-append (hits a) (read_question r.event r.request) (read_questions rs)
    ∙ ap₂ (λ x y. x || y) (one-off a r.event r.request (unequal r.event a.read (omega (arith, less, up)))) (off-front a r.event v rs up b.1)

module _ (volume : Volume) (events : List Event) (history : List Past) (judge : Judge) (n m : ℕ) (c : state.Serving) (step : TraceStep) (name : NodeName) (a : Answer)
    (h : Holds volume history judge n m (state.Serves c)) (ours : is_ours volume.geometry judge name a ≡ true) where
  abbrev requests : List Taken
  requests = live history judge

  -- what it doesn't hit it doesn't answer
  pub no-answer : (qs : List Question) → list_any (hits a) qs ≡ false → list_any (λ q. is_answer volume.geometry judge q name a) qs ≡ false
  no-answer [] off = refl
  no-answer (q ∷ qs) off =
      let s = or_parts (hits a q) _ off in ap₂ (λ x y. x || y) (answer-is volume.geometry judge q name a ∙ ap₂ (λ x y. x && y) ours s.0) (no-answer qs s.1)

  abbrev pub after : List Line → List Past
  after due = past step (Says name (message.Answer a)) judge due ∷ history

  pub untouched-after : (due : List Line) (q : Question) → AfterHead (line_of requests) n q.event → IsUntouched volume.geometry (after due) q
  untouched-after due q late =
      untouched-agree volume.geometry q (after due) history
      (agree-unasked volume.geometry history judge step name a due q (after-unasked volume.geometry history judge h.mirrors.serves n q h.mirrors.order.rises late))
      (h.mirrors.order.untouched q late)

  module _ (q : Question) (f : FoundRead a (left_of requests) q) (head_off : list_any (hits a) (head_questions volume.geometry (line_of requests)) ≡ false) where
    abbrev front : List Taken
    front = f.front

    abbrev behind : List Taken
    behind = f.behind

    abbrev this : Taken
    this = record { event = q.event; request = request.Read q.block }

    whole : front ++ (this ∷ (behind ++ line_of requests)) ≡ requests
    whole = sym (append_assoc front (this ∷ behind) (line_of requests)) ∙ ap (λ l. l ++ line_of requests) (sym f.whole) ∙ left-line requests

    ordered : Between 0 (front ++ (this ∷ (behind ++ line_of requests))) n
    ordered = subst (λ rs. Between 0 rs n) (sym whole) h.mirrors.order.rises

    before_this : Between 0 front q.event
    before_this = between-front 0 n front this (behind ++ line_of requests) ordered

    behind_this : Between q.event (behind ++ line_of requests) n
    behind_this = between-behind 0 n front this (behind ++ line_of requests) ordered

    number_is : a.read ≡ q.event
    number_is = f.asked ∙ f.number

    -- what is live then
    pub others : without (q.event ∷ []) requests ≡ (front ++ behind) ++ line_of requests
    others = ap (without (q.event ∷ [])) (sym whole) ∙ without-one 0 n front this (behind ++ line_of requests) ordered ∙ sym (append_assoc front behind (line_of requests))

    parts_free : AreFree (front ++ behind)
    parts_free = free-parts front behind this (subst AreFree f.whole (free-left requests))

    pub others-left : left_of ((front ++ behind) ++ line_of requests) ≡ front ++ behind
    others-left = left_of-free (front ++ behind) (line_of requests) parts_free ∙ ap (λ l. (front ++ behind) ++ l) (left_of-line requests) ∙ append-nil (front ++ behind)

    others-line : line_of ((front ++ behind) ++ line_of requests) ≡ line_of requests
    others-line = line_of-free (front ++ behind) (line_of requests) parts_free ∙ line_of-line requests

    -- the questions of the reads, with this one and without
    with_this : read_questions (left_of requests) ≡ read_questions front ++ (record { event = q.event; number = q.event; block = q.block } ∷ read_questions behind)
    with_this = ap read_questions f.whole ∙ flat_map-append _ front (this ∷ behind)

    without_this : read_questions (front ++ behind) ≡ read_questions front ++ read_questions behind
    without_this = flat_map-append _ front behind

    front_off : list_any (hits a) (read_questions front) ≡ false
    front_off = off-front a 0 q.event front (let e = number_is in omega (arith, e)) before_this

    behind_alone : Between q.event behind n
    behind_alone = between-take q.event n behind (line_of requests) behind_this

    behind_off : list_any (hits a) (read_questions behind) ≡ false
    behind_off = off-behind a q.event n behind (let e = number_is in omega (arith, e)) behind_alone

    both_off : list_any (λ x. is_answer volume.geometry judge x name a) (read_questions (front ++ behind)) ≡ false
    both_off = no-answer _ (ap (list_any (hits a)) without_this ∙ list_any-append (hits a) (read_questions front) (read_questions behind) ∙ ap₂ (λ x y. x || y) front_off behind_off)

    head_no : list_any (λ x. is_answer volume.geometry judge x name a) (head_questions volume.geometry (line_of requests)) ≡ false
    head_no = no-answer _ head_off

    this_out : filter (λ x. not (x.number == q.number)) (read_questions (left_of requests)) ≡ read_questions (front ++ behind)
    this_out =
        ap (λ v. filter (λ x. not (x.number == v)) (read_questions (left_of requests))) f.number
        ∙ ap (filter (λ x. not (x.number == q.event))) with_this
        ∙ filter-append (λ x. not (x.number == q.event)) (read_questions front) (record { event = q.event; number = q.event; block = q.block } ∷ read_questions behind)
        ∙ ap₂ (λ x y. x ++ y) (reads-front 0 q.event front before_this)
        (ap (λ t. cond (not t) (record { event = q.event; number = q.event; block = q.block } ∷ filter (λ x. not (x.number == q.event)) (read_questions behind)) (filter (λ x. not (x.number == q.event)) (read_questions behind))) (eq-eqb q.event q.event refl)
        ∙ reads-apart q.event n q.event behind (omega arith) behind_alone)
        ∙ sym without_this

    closed_reads : (due : List Line) → closed_at q.number c.reads ≡ map (open_of volume.geometry (after due)) (read_questions (front ++ behind))
    closed_reads due =
        ap (closed_at q.number) h.mirrors.table.reads
        ∙ closed-map q.number (open_of volume.geometry history) (λ x. refl) (read_questions (left_of requests))
        ∙ ap (map (open_of volume.geometry history)) this_out
        ∙ sym (off-open volume.geometry history judge step name a due (read_questions (front ++ behind)) both_off)

    same_waiters : flat_map (waiter_at judge) (left_of requests) ≡ flat_map (waiter_at judge) (front ++ behind)
    same_waiters = ap (flat_map (waiter_at judge)) f.whole ∙ flat_map-append (waiter_at judge) front (this ∷ behind) ∙ sym (flat_map-append (waiter_at judge) front behind)

    same_dues : flat_map (λ x. barrier_due judge x.event x.request) (left_of requests) ≡ flat_map (λ x. barrier_due judge x.event x.request) (front ++ behind)
    same_dues =
        ap (flat_map (λ x. barrier_due judge x.event x.request)) f.whole ∙ flat_map-append (λ x. barrier_due judge x.event x.request) front (this ∷ behind)
        ∙ sym (flat_map-append (λ x. barrier_due judge x.event x.request) front behind)

    pub no-dues : barriers_due (with_ended judge q.event) ((front ++ behind) ++ line_of requests) ≡ []
    no-dues = ap (flat_map (λ x. barrier_due judge x.event x.request)) others-left ∙ sym same_dues ∙ h.mirrors.order.waiting

    -- none of the others is known
    parts_unknown : (due : List Line) → list_any (λ x. is_known volume.geometry x (after due)) (read_questions (front ++ behind)) ≡ false
    parts_unknown due =
        let whole_unknown : list_any (λ x. is_known volume.geometry x history) (read_questions front ++ (record { event = q.event; number = q.event; block = q.block } ∷ read_questions behind)) ≡ false =
        ap (list_any (λ x. is_known volume.geometry x history)) (sym with_this) ∙ h.mirrors.order.unknown in
        let s = or_parts (list_any (λ x. is_known volume.geometry x history) (read_questions front)) _
        (sym (list_any-append (λ x. is_known volume.geometry x history) (read_questions front) (record { event = q.event; number = q.event; block = q.block } ∷ read_questions behind)) ∙ whole_unknown) in
        let t = or_parts (is_known volume.geometry (record { event = q.event; number = q.event; block = q.block }) history) _ s.1 in
        off-any volume.geometry history judge step name a due (read_questions (front ++ behind)) both_off
        ∙ ap (list_any (λ x. is_known volume.geometry x history)) without_this
        ∙ list_any-append (λ x. is_known volume.geometry x history) (read_questions front) (read_questions behind)
        ∙ ap₂ (λ x y. x || y) s.0 t.1

    ended_table : (due : List Line) → MirrorsLine volume.geometry (after due) (with_ended judge q.event) ((front ++ behind) ++ line_of requests) (record c { reads = closed_at q.number c.reads })
    ended_table due = record {
      line = h.mirrors.table.line ∙ sym others-line;
      reads = closed_reads due ∙ ap (λ rs. map (open_of volume.geometry (after due)) (read_questions rs)) (sym others-left);
      asked = h.mirrors.table.asked
          ∙ ap (map (open_of volume.geometry history)) (sym (off-known volume.geometry history judge step name a due (head_questions volume.geometry (line_of requests)) head_no))
          ∙ sym (off-open volume.geometry history judge step name a due _ (off-filter volume.geometry history judge step name a due (λ x. not (is_known volume.geometry x (after due))) (head_questions volume.geometry (line_of requests)) head_no))
          ∙ ap (λ l. map (open_of volume.geometry (after due)) (filter (λ x. not (is_known volume.geometry x (after due))) (head_questions volume.geometry l))) (sym others-line);
      barriers = h.mirrors.table.barriers ∙ same_waiters ∙ ap (flat_map (waiter_at judge)) (sym others-left);
    }

    ended_order : (due : List Line) → IsInOrder volume.geometry (after due) (with_ended judge q.event) ((front ++ behind) ++ line_of requests) n
    ended_order due = record {
      rises = subst (λ rs. Between 0 rs n) others (between-filter _ 0 n requests h.mirrors.order.rises);
      later = subst (λ l. Between judge.latest l n) (sym others-line) h.mirrors.order.later;
      inside = subst (λ rs. list_all (λ r. is_inside volume.geometry r.request) rs ≡ true) others (inside-filter volume.geometry _ requests h.mirrors.order.inside);
      waiting = no-dues;
      unknown = ap (λ rs. list_any (λ x. is_known volume.geometry x (after due)) (read_questions rs)) others-left ∙ parts_unknown due;
      untouched = λ x late. untouched-after due x (subst (λ l. AfterHead l n x.event) others-line late);
      front = h.mirrors.order.front;
    }

    -- the read ends with that line
    pub ended_as_due : (l : Line) → is_work l ≡ true → judged events judge l ≡ with_ended judge q.event → (o : state.Open) → o.question ≡ q
        → AsDue volume (after (l ∷ [])) (judged_all events judge (l ∷ [])) n m (l ∷ []) (read_ended c o l)
    unfolding judged_all live
    ended_as_due l works ends o same =
        let due : List Line = l ∷ [] in
        let work : AreWork due = work_lines due (ap (λ t. t && true) works) in
        let told : state.Serving = record c { reads = closed_at q.number c.reads } in
        let lives : live (after due) (with_ended judge q.event) ≡ (front ++ behind) ++ line_of requests =
        said-live volume events history judge n m c step name h (message.Answer a) due work (with_ended judge q.event)
        ∙ unended-more judge (with_ended judge q.event) (q.event ∷ []) (ended-one judge q.event) (all_taken (since opens history))
        ∙ others in
        subst (λ j. AsDue volume (after due) j n m due (read_ended c o l)) (sym ends)
        (subst (λ x. AsDue volume (after due) (with_ended judge q.event) n m due (only_lines (state.Serves (record c { reads = closed_at x.number c.reads })) due)) (sym same)
        (record {
          same = refl;
          holds = record {
            before = before-serving volume.geometry (after due) (with_ended judge q.event) ((front ++ behind) ++ line_of requests) n (ended_order due)
                (ended-below judge q.event n (between-ends q.event n _ behind_this) h.before.ended);
            young = h.young;
            mirrors = record {
              serves = said-phase volume events history judge n m c step name h (message.Answer a) due work;
              counts = record {
                session = h.mirrors.counts.session;
                last = h.mirrors.counts.last;
                acked = h.mirrors.counts.acked;
                contents = h.mirrors.counts.contents;
                numbers = h.mirrors.counts.numbers;
                leaders = h.mirrors.counts.leaders;
                within = h.mirrors.counts.within;
                based = h.mirrors.counts.based;
                leads = h.mirrors.counts.leads;
              };
              table = subst (λ rs. MirrorsLine volume.geometry (after due) (with_ended judge q.event) rs told) (sym lives) (ended_table due);
              order = subst (λ rs. IsInOrder volume.geometry (after due) (with_ended judge q.event) rs n) (sym lives) (ended_order due);
              claims = claims-plain history (past step (Says name (message.Answer a)) judge due) judge c work.opens_not (λ s who. refl) h.mirrors.claims;
            };
          };
        }))
