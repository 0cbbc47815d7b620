-- An answer to a question of the head gives the lines due.
use Rattle.std.proofs.Common.{◌≡◌, ℕ, ◌+◌, ◌*◌, ◌^◌, ◌<◌, ◌≤◌, Bool, true, false, not, cond, ◌&&◌, ◌||◌, ◌==◌, ◌∙◌, nat_lt, nat_le, List, [], ◌∷◌, ◌++◌, map, Some, refl, ap, ap₂, sym, subst, arith, eq-eqb}
use Rattle.std.specs.Prelude.{filter}
use Rattle.std.specs.List.{list_any, list_all}
use Rattle.std.proofs.lemmas.List.{map-append}
use Rattle.std.proofs.lemmas.List.Elements.{filter-append}
use Rattle.std.proofs.lemmas.List.Folds.{list_all-append}
use Rattle.std.proofs.lemmas.Bool.{and_parts}
use Rattle.salus_types.specs.Volume.{Shape, blocks}
use Rattle.salus_types.specs.declared.names.NodeName.{NodeName}
use Rattle.salus_message.specs.declared.replies.Answer.{Answer}
use Rattle.salus_message.specs.declared.wire.Message.TheVariants as message
use Rattle.schedule_text.specs.declared.schedule.Volume.{Volume}
use Rattle.schedule_text.specs.declared.schedule.Event.{Event}
use Rattle.schedule_text.specs.declared.schedule.Event.TheVariants as event
use Rattle.salus_model.specs.declared.trace.Request.{Request}
use Rattle.salus_model.specs.declared.trace.Request.TheVariants as request
use Rattle.salus_model.specs.declared.trace.TraceStep.{TraceStep}
use Rattle.volume_model.specs.Contents.{Batch}
use Rattle.volume_model.specs.Parts.{blocks_of}
use Rattle.salus_model.specs.Judge.{Judge, event_at, judged_all}
use Rattle.salus_model.specs.Hearing.{Says, Past}
use Rattle.salus_model.specs.Waiting.{Taken, left_of, live, Question, questions_from, questions_of, questions, is_asked}
use Rattle.salus_model.specs.Answering.{Good, verdict_of, is_answer, is_known}
use Rattle.salus_model.specs.Due.{others_known}
use Rattle.client_rules.specs.State as state
use Rattle.client_rules.specs.State.{ignored}
use Rattle.client_rules.specs.Tables.{line_of, read_question, read_questions, closed_at, head_questions, claim_of}
use Rattle.list_lemmas.proofs.Tests.{by_test, or_assoc, unequal, unequal_up, or_true}
use Rattle.list_lemmas.proofs.Lists.{list_all_same}
use Rattle.law_lines.specs.Mirror.{Between, open_of, MirrorsCounts, MirrorsLine, IsInOrder}
use Rattle.law_lines.specs.Mirrors.{Holds}
use Rattle.law_lines.proofs.Ordered.{between-ends, left-line, questions-split}
use Rattle.law_lines.proofs.Histories.{past, AreWork, work_lines}
use Rattle.law_lines.proofs.Keeping.{before-serving, claims-plain}
use Rattle.law_lines.proofs.Committed.{said-live, said-phase}
use Rattle.law_lines.proofs.Hitting.{is_ours, hits, answer-is, known-good, off-open, off-known, off-any, off-filter}
use Rattle.law_lines.proofs.Finding.{between-front, between-behind, closed-map}
use Rattle.law_lines.proofs.OpenReads.{no-answer, untouched-after}
use Rattle.law_lines.proofs.ReadRows.{after, Row, asked-parts}
use Rattle.law_lines.proofs.HeadFound.{is_at, FoundHead, off-hits, closed-parts, is_nil, all-known}

pub all-filter : (p u : Question → Bool) (qs : List Question) → list_all p qs ≡ true → list_all p (filter u qs) ≡ true
all-filter p u [] all = refl
all-filter p u (o ∷ qs) all =
    let s = and_parts (p o) _ all in
    by_test (λ t. list_all p (cond t (o ∷ filter u qs) (filter u qs)) ≡ true) (u o) (λ _. ap₂ (λ x y. x && y) s.0 (all-filter p u qs s.1)) (λ _. all-filter p u qs s.1)

read-other : (p : Question → Bool) (v u : ℕ) (r : Request) → u < v → list_all (λ o. not (o.event == v) || p o) (read_question u r) ≡ true
read-other p v u (request.Write batch) less = refl
read-other p v u (request.Read b) less = ap (λ t. (not t || p (record { event = u; number = u; block = b })) && true) (unequal_up u v less)
read-other p v u request.Barrier less = refl
read-other p v u (request.Restart e) less = refl
read-other p v u (request.Reassign e g) less = refl

-- a read's question is none of the head's
reads-other : (p : Question → Bool) (v low : ℕ) (rs : List Taken) → Between low rs v → list_all (λ o. not (o.event == v) || p o) (read_questions rs) ≡ true
unfolding Between
reads-other p v low [] b = refl
reads-other p v low (r ∷ rs) b =
    list_all-append (λ o. not (o.event == v) || p o) (read_question r.event r.request) (read_questions rs)
    ∙ ap₂ (λ x y. x && y) (read-other p v r.event r.request (between-ends r.event v rs b.1)) (reads-other p v r.event rs b.1)

reads-other-three : (m k : Question → Bool) (v low : ℕ) (rs : List Taken) → Between low rs v → list_all (λ o. (not (o.event == v) || m o) || k o) (read_questions rs) ≡ true
reads-other-three m k v low rs b = list_all_same _ _ (λ o. sym (or_assoc (not (o.event == v)) (m o) (k o))) (read_questions rs) ∙ reads-other (λ o. m o || k o) v low rs b

-- and each of the head's is
head-other : (m k : Question → Bool) (v u j : ℕ) (bs : List ℕ) → v ≡ u
    → list_all (λ o. (not (o.event == v) || m o) || k o) (questions_from u j bs) ≡ list_all (λ o. m o || k o) (questions_from u j bs)
unfolding questions_from
head-other m k v u j [] same = refl
head-other m k v u j (b ∷ bs) same =
    ap₂ (λ t y. ((not t || m (record { event = u; number = 2 ^ 32 * j + u; block = b })) || k (record { event = u; number = 2 ^ 32 * j + u; block = b })) && y)
    (eq-eqb u v (sym same)) (head-other m k v u (j + 1) bs same)

module _ (volume : Volume) (events : List Event) (history : List Past) (judge : Judge) (n m : ℕ) (c : state.Serving) (step : TraceStep) (name : NodeName) (a : Answer)
    (h : Holds volume history judge n m (state.Serves c)) (ours : is_ours volume.geometry judge name a ≡ true)
    (reads_off : list_any (λ q. is_answer volume.geometry judge q name a) (read_questions (left_of (live history judge))) ≡ false) where
  abbrev shape : Shape
  shape = volume.geometry

  abbrev pub newer : List Past
  newer = after volume events history judge n m c step name a h ours []

  abbrev pub unknown : Question → Bool
  unknown o = not (is_known shape o history)

  -- no line: the table of the head alone may have changed
  pub kept_as_due : (next : state.Serving) → next.claims ≡ c.claims → MirrorsCounts shape judge next
      → MirrorsLine shape newer judge (live history judge) next → Row volume events history judge n m c step name a h ours [] (ignored (state.Serves next))
  unfolding judged_all
  kept_as_due next same counts table =
      let work : AreWork [] = work_lines [] refl in
      let lives : live newer judge ≡ live history judge = said-live volume events history judge n m c step name h (message.Answer a) [] work judge in
      let order : IsInOrder shape newer judge (live history judge) n = record {
        rises = h.mirrors.order.rises;
        later = h.mirrors.order.later;
        inside = h.mirrors.order.inside;
        waiting = h.mirrors.order.waiting;
        unknown = off-any shape history judge step name a [] (read_questions (left_of (live history judge))) reads_off ∙ h.mirrors.order.unknown;
        untouched = untouched-after volume events history judge n m c step name a h ours [];
        front = h.mirrors.order.front;
      } in
      record {
        same = refl;
        holds = record {
          before = before-serving shape newer judge (live history judge) n order h.before.ended;
          young = h.young;
          mirrors = record {
            serves = said-phase volume events history judge n m c step name h (message.Answer a) [] work;
            counts = counts;
            table = subst (λ rs. MirrorsLine shape newer judge rs next) (sym lives) table;
            order = subst (λ rs. IsInOrder shape newer judge rs n) (sym lives) order;
            claims = λ who k up. ap (λ cs. nat_le k (claim_of who cs)) same
                ∙ claims-plain history (past step (Says name (message.Answer a)) judge []) judge c refl (λ x y. refl) h.mirrors.claims who k up;
          };
        };
      }

  pub same_reads : c.reads ≡ map (open_of shape newer) (read_questions (left_of (live history judge)))
  same_reads = h.mirrors.table.reads ∙ sym (off-open shape history judge step name a [] (read_questions (left_of (live history judge))) reads_off)

  pub same_counts : (next : List state.Open) (known : List Answer) → MirrorsCounts shape judge (record c { asked = next; known = known })
  same_counts next known = record {
    session = h.mirrors.counts.session;
    last = h.mirrors.counts.last;
    acked = h.mirrors.counts.acked;
    contents = h.mirrors.counts.contents;
    numbers = h.mirrors.counts.numbers;
    leaders = h.mirrors.counts.leaders;
    within = h.mirrors.counts.within;
    based = h.mirrors.counts.based;
    leads = h.mirrors.counts.leads;
  }

  module _ (w : Taken) (behind : List Taken) (batch : Batch) (line_is : line_of (live history judge) ≡ w ∷ behind) (writes : w.request ≡ request.Write batch)
      (script : event_at events w.event ≡ Some (event.Write batch)) (small : n ≤ 2 ^ 32) (high : 2 ^ 32 ≤ a.read) where
    abbrev pub hq : List Question
    hq = questions_from w.event 1 (blocks_of shape batch)

    pub head_is : head_questions shape (line_of (live history judge)) ≡ hq
    head_is = ap (head_questions shape) line_is ∙ ap (questions_of shape w.event) writes

    pub asked_is : c.asked ≡ map (open_of shape history) (filter unknown hq)
    asked_is = h.mirrors.table.asked ∙ ap (λ qs. map (open_of shape history) (filter unknown qs)) head_is

    pub hq_asked : list_all (λ q. is_asked shape history judge q) hq ≡ true
    hq_asked = subst (λ qs. list_all (λ q. is_asked shape history judge q) qs ≡ true) head_is (asked-parts volume events history judge n m c step name a h ours).1

    pub line_here : c.line ≡ w ∷ behind
    line_here = h.mirrors.table.line ∙ line_is

    ordered : Between 0 (left_of (live history judge) ++ (w ∷ behind)) n
    ordered = subst (λ rs. Between 0 rs n) (sym (ap (λ l. left_of (live history judge) ++ l) (sym line_is) ∙ left-line (live history judge))) h.mirrors.order.rises

    pub w_small : w.event < n
    w_small = between-ends w.event n behind (between-behind 0 n (left_of (live history judge)) w behind ordered)

    pub table_with : (next : List state.Open) (known : List Answer) → next ≡ map (open_of shape newer) (filter (λ o. not (is_known shape o newer)) hq)
        → MirrorsLine shape newer judge (live history judge) (record c { asked = next; known = known })
    table_with next known is = record {
      line = h.mirrors.table.line;
      reads = same_reads;
      asked = is ∙ ap (λ qs. map (open_of shape newer) (filter (λ o. not (is_known shape o newer)) qs)) (sym head_is);
      barriers = h.mirrors.table.barriers;
    }

    module _ (q : Question) (f : FoundHead a w.event (λ b. nat_lt b (blocks shape)) hq q) where
      pub hit : hits a q ≡ true
      hit = ap₂ (λ x y. x && y) (eq-eqb a.read q.number f.asked) (eq-eqb a.block q.block f.block)

      pub front_no : list_any (λ o. is_answer shape judge o name a) f.front ≡ false
      front_no = no-answer volume events history judge n m c step name a h ours f.front (off-hits a q.number f.front f.asked f.front_off)

      pub behind_no : list_any (λ o. is_answer shape judge o name a) f.behind ≡ false
      behind_no = no-answer volume events history judge n m c step name a h ours f.behind (off-hits a q.number f.behind f.asked f.behind_off)

      q_asked : is_asked shape history judge q ≡ true
      q_asked =
          let parts = sym (ap (list_all (λ o. is_asked shape history judge o)) f.whole) ∙ hq_asked in
          (and_parts (is_asked shape history judge q) _ ((and_parts (list_all (λ o. is_asked shape history judge o) f.front) _
          (sym (list_all-append (λ o. is_asked shape history judge o) f.front (q ∷ f.behind)) ∙ parts)).1)).0

      -- once it is known it is dropped
      pub dropped : is_known shape q newer ≡ true → map (open_of shape newer) (filter (λ o. not (is_known shape o newer)) hq) ≡ map (open_of shape history) (filter unknown f.front ++ filter unknown f.behind)
      dropped known =
          ap (λ qs. map (open_of shape newer) (filter (λ o. not (is_known shape o newer)) qs)) f.whole
          ∙ ap (map (open_of shape newer)) (filter-append (λ o. not (is_known shape o newer)) f.front (q ∷ f.behind)
          ∙ ap₂ (λ x y. x ++ y) (off-known shape history judge step name a [] f.front front_no)
          (ap (λ t. cond (not t) (q ∷ filter (λ o. not (is_known shape o newer)) f.behind) (filter (λ o. not (is_known shape o newer)) f.behind)) known
          ∙ off-known shape history judge step name a [] f.behind behind_no))
          ∙ map-append (open_of shape newer) (filter unknown f.front) (filter unknown f.behind)
          ∙ ap₂ (λ x y. x ++ y) (off-open shape history judge step name a [] (filter unknown f.front) (off-filter shape history judge step name a [] unknown f.front front_no))
          (off-open shape history judge step name a [] (filter unknown f.behind) (off-filter shape history judge step name a [] unknown f.behind behind_no))
          ∙ sym (map-append (open_of shape history) (filter unknown f.front) (filter unknown f.behind))

      -- the questions that are left
      pub left_is : closed_at q.number c.asked ≡ map (open_of shape history) (filter unknown f.front ++ filter unknown f.behind)
      left_is =
          ap (closed_at q.number) asked_is
          ∙ closed-map q.number (open_of shape history) (λ o. refl) (filter unknown hq)
          ∙ ap (λ qs. map (open_of shape history) (filter (λ o. not (is_at q.number o)) (filter unknown qs))) f.whole
          ∙ ap (map (open_of shape history)) (closed-parts unknown q f.front f.behind f.front_off f.behind_off)

      pub known_then : verdict_of shape judge a ≡ Good → is_known shape q newer ≡ true
      known_then good =
          known-good shape history judge step name a [] good q q_asked
          ∙ ap (λ t. is_known shape q history || t) (answer-is shape judge q name a ∙ ap₂ (λ x y. x && y) ours hit)
          ∙ or_true (is_known shape q history)

      -- the question is known before: nothing changes
      pub known_as_due : is_known shape q history ≡ true → is_known shape q newer ≡ true → Row volume events history judge n m c step name a h ours [] (ignored (state.Serves c))
      known_as_due known still =
          kept_as_due c refl h.mirrors.counts
          (record {
            line = h.mirrors.table.line;
            reads = same_reads;
            asked = asked_is
                ∙ ap (λ qs. map (open_of shape history) (filter unknown qs)) f.whole
                ∙ ap (map (open_of shape history)) (filter-append unknown f.front (q ∷ f.behind)
                ∙ ap (λ t. filter unknown f.front ++ cond (not t) (q ∷ filter unknown f.behind) (filter unknown f.behind)) known)
                ∙ sym (dropped still)
                ∙ ap (λ qs. map (open_of shape newer) (filter (λ o. not (is_known shape o newer)) qs)) (sym head_is);
            barriers = h.mirrors.table.barriers;
          })

      -- every other question is known
      pub others_test : others_known shape history (questions shape (live history judge)) q ≡ is_nil (filter unknown f.front ++ filter unknown f.behind)
      others_test =
          ap (list_all other_known) (questions-split shape (live history judge))
          ∙ list_all-append other_known (read_questions (left_of (live history judge))) (head_questions shape (line_of (live history judge)))
          ∙ ap₂ (λ x y. x && y) (reads-other-three (λ o. o.number == q.number) (λ o. is_known shape o history) q.event 0 (left_of (live history judge))
          (subst (λ v. Between 0 (left_of (live history judge)) v) (sym f.event) (between-front 0 n (left_of (live history judge)) w behind ordered)))
          (ap (list_all other_known) head_is ∙ head-other (λ o. is_at q.number o) (λ o. is_known shape o history) q.event w.event 1 (blocks_of shape batch) f.event)
          ∙ all-known (λ o. is_at q.number o) (λ o. is_known shape o history) hq
          ∙ ap (λ qs. is_nil (filter (λ o. not (is_at q.number o)) (filter unknown qs))) f.whole
          ∙ ap is_nil (closed-parts unknown q f.front f.behind f.front_off f.behind_off)
        where
          other_known : Question → Bool
          other_known o = (not (o.event == q.event) || (o.number == q.number)) || is_known shape o history

      pub number_high : (q.number == q.event) ≡ false
      number_high = let e = f.event in let r = f.asked in unequal q.event q.number (omega (arith, e, r, high, small, w_small))
