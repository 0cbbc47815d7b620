-- The batches that every replica of their leader has claimed are acknowledged as is due.
use Rattle.std.proofs.Common.{◌≡◌, ℕ, zero, suc, ◌+◌, ◌<◌, true, not, cond, ◌&&◌, ◌∙◌, nat_le, if◌then◌else◌, List, [], ◌∷◌, ◌++◌, map, length, drop, refl, ap, ap₂, sym, subst, arith}
use Rattle.std.specs.Prelude.{filter, flat_map}
use Rattle.std.specs.List.{list_any, list_all}
use Rattle.std.proofs.lemmas.List.Folds.{list_all-append}
use Rattle.salus_types.specs.Volume.{Shape}
use Rattle.salus_types.specs.declared.names.NodeName.{NodeName}
use Rattle.schedule_text.specs.declared.schedule.Event.{Event}
use Rattle.printed_lines.specs.declared.line.Line.{Line}
use Rattle.printed_lines.specs.declared.line.Line.TheVariants as line
use Rattle.volume_model.specs.Contents.{Batch}
use Rattle.volume_model.specs.Parts.{leader_of}
use Rattle.salus_model.specs.Judge.{Judge, judged_all}
use Rattle.salus_model.specs.Hearing.{News, Past}
use Rattle.volume_model.specs.Groups.{group_of}
use Rattle.salus_model.specs.Waiting.{Taken, left_of, has_ended, unended}
use Rattle.salus_model.specs.Answering.{is_known}
use Rattle.salus_model.specs.Due.{barriers_due, is_claim, all_claim, ack_due, acks_due}
use Rattle.client_rules.specs.State as state
use Rattle.client_rules.specs.State.{Unacked}
use Rattle.client_rules.specs.Tables.{head_questions, claim_of, all_claimed, is_reached}
use Rattle.client_rules.specs.Serving.{Acked, acked_one, acked_lines, acks}
use Rattle.list_lemmas.proofs.Tests.{by_test}
use Rattle.list_lemmas.proofs.Lists.{list_all_same}
use Rattle.law_lemmas.proofs.Judged.{judged_all-append}
use Rattle.law_lines.specs.Mirror.{open_of, waiter_at, MirrorsCounts, MirrorsLine, IsInOrder}
use Rattle.law_lines.proofs.Settled.{without, unended-more, due_events, judged-barriers, ended-answered, stays, settled, settled-left, settled-line, waiters-lines, waiters-kept}
use Rattle.law_lines.proofs.Moving.{settled_judge, stays-order, stays-reads}
use Rattle.law_lines.proofs.Histories.{is_work}
use Rattle.law_lines.proofs.Serving.{barriers-work, ended-settled}

-- the first of the batches from a on, and those behind it
pub drop-more : {A : Type 0} (a : ℕ) (x : A) (xs list : List A) → x ∷ xs ≡ drop a list → (a < length list) × (xs ≡ drop (a + 1) list)
drop-more zero x xs [] is = absurd (cc)
drop-more zero x xs (y ∷ list) is = (omega arith, cc)
drop-more (suc a) x xs [] is = absurd (cc)
drop-more (suc a) x xs (y ∷ list) is =
    let rest = drop-more a x xs list is in
    let less = rest.0 in
    let same : suc (a + 1) ≡ suc a + 1 = omega arith in
    (omega (arith, less), rest.1 ∙ ap (λ k. drop k (y ∷ list)) same)

module _ (shape : Shape) (history : List Past) (events : List Event) (news : List News) (asked taken : List Taken) (n : ℕ) where
  -- What is mirrored while batches are acknowledged: `asked` are the requests that the rule looks at, `taken` those of the session.
  pub record Acknowledges (judge : Judge) (c : state.Serving) (us : List Unacked) (batches : List Batch) : Type 0 where
    pub counts : MirrorsCounts shape judge c
    pub table : MirrorsLine shape history judge (unended judge taken) c
    pub order : IsInOrder shape history judge (unended judge taken) n
    pub ended : (v : ℕ) → has_ended judge v ≡ true → v < n
    pub same : unended judge asked ≡ unended judge taken
    pub left : c.unacked ≡ us
    pub batches_left : batches ≡ drop judge.acked judge.now.list
    pub claims : (name : NodeName) (s : ℕ) → 0 < s → nat_le s (claim_of name c.claims) ≡ list_any (λ x. is_claim judge.now.session s name x) news

  -- the judge after the line of one batch
  abbrev one_more : Judge → Judge
  one_more judge = record judge { acked = judge.acked + 1 }

  -- and after the barriers that are due then
  abbrev after_one : Judge → Judge
  after_one judge = settled_judge (one_more judge) (unended judge taken)

  module _ (judge : Judge) (c : state.Serving) (u : Unacked) (us : List Unacked) (batch : Batch) (batches : List Batch)
      (a : Acknowledges judge c (u ∷ us) (batch ∷ batches)) where
    ack-due : ack_due events judge asked ≡ line.Ack (judge.acked + 1) ∷ barriers_due (one_more judge) (unended judge taken)
    unfolding judged_all
    ack-due = ap (λ rs. line.Ack (judge.acked + 1) ∷ barriers_due (one_more judge) rs) a.same

    ack-judge : judged_all events judge (ack_due events judge asked) ≡ after_one judge
    unfolding judged_all
    ack-judge = ap (judged_all events judge) ack-due ∙ judged-barriers events (one_more judge) (one_more judge) (left_of (unended judge taken))

    -- the lines of one batch
    ack-lines : acked_lines c ≡ ack_due events judge asked
    ack-lines =
        rw (a.counts.acked, a.table.barriers)
        (ap (λ ls. line.Ack (judge.acked + 1) ∷ ls) (waiters-lines (one_more judge) (left_of (unended judge taken))))
        ∙ sym ack-due

    -- the test is the same
    ack-test : map (λ x. x.leader) (u ∷ us) ≡ map (λ b. leader_of shape b) (batch ∷ batches)
        → all_claimed shape c.claims u.leader (c.acked + 1) ≡ all_claim shape judge.now.session (judge.acked + 1) batch news
    ack-test leaders =
        let leader : u.leader ≡ leader_of shape batch = cc in
        rw (leader, a.counts.acked)
        (list_all_same _ _ (λ name. a.claims name (judge.acked + 1) (omega arith)) (group_of shape (leader_of shape batch)))

    settled-taken : unended (after_one judge) taken ≡ stays (one_more judge) (unended judge taken)
    settled-taken =
        unended-more (one_more judge) (after_one judge) (due_events (one_more judge) (left_of (unended judge taken)))
        (ended-answered (one_more judge) (due_events (one_more judge) (left_of (unended judge taken)))) taken
        ∙ settled (one_more judge) 0 n (unended judge taken) a.order.rises

    settled-asked : unended (after_one judge) asked ≡ unended (after_one judge) taken
    settled-asked =
        unended-more (one_more judge) (after_one judge) (due_events (one_more judge) (left_of (unended judge taken)))
        (ended-answered (one_more judge) (due_events (one_more judge) (left_of (unended judge taken)))) asked
        ∙ ap (without (due_events (one_more judge) (left_of (unended judge taken)))) a.same
        ∙ sym (unended-more (one_more judge) (after_one judge) (due_events (one_more judge) (left_of (unended judge taken)))
        (ended-answered (one_more judge) (due_events (one_more judge) (left_of (unended judge taken)))) taken)

    ack-table : MirrorsLine shape history (after_one judge) (stays (one_more judge) (unended judge taken)) (acked_one c us)
    ack-table =
        let rs : List Taken = unended judge taken in
        record {
          line = a.table.line ∙ sym (settled-line (one_more judge) rs);
          reads = a.table.reads ∙ ap (map (open_of shape history)) (sym (stays-reads shape history (one_more judge) rs n a.order.rises));
          asked = a.table.asked ∙ ap (λ l. map (open_of shape history) (filter (λ q. not (is_known shape q history)) (head_questions shape l))) (sym (settled-line (one_more judge) rs));
          barriers = ap₂ (λ k ws. filter (λ w. not (is_reached (k + 1) w)) ws) a.counts.acked a.table.barriers
              ∙ waiters-kept (one_more judge) (left_of rs)
              ∙ ap (flat_map (waiter_at judge)) (sym (settled-left (one_more judge) rs));
        }

    ack-counts : map (λ x. x.leader) (u ∷ us) ≡ map (λ b. leader_of shape b) (batch ∷ batches) → MirrorsCounts shape (after_one judge) (acked_one c us)
    ack-counts leaders =
        let first = drop-more judge.acked batch batches judge.now.list a.batches_left in
        let less = first.0 in
        let based = a.counts.based in
        record {
          session = a.counts.session;
          last = a.counts.last;
          acked = ap (λ k. k + 1) a.counts.acked;
          contents = a.counts.contents;
          numbers = a.counts.numbers;
          leaders = let rest : map (λ x. x.leader) us ≡ map (λ b. leader_of shape b) batches = cc in rest ∙ ap (map (λ b. leader_of shape b)) first.1;
          within = omega (arith, less);
          based = omega (arith, based);
          leads = a.counts.leads;
        }

    -- and so on with the others
    pub ack-next : map (λ x. x.leader) (u ∷ us) ≡ map (λ b. leader_of shape b) (batch ∷ batches) → Acknowledges (after_one judge) (acked_one c us) us batches
    ack-next leaders =
        let rs : List Taken = unended judge taken in
        record {
          counts = ack-counts leaders;
          table = subst (λ xs. MirrorsLine shape history (after_one judge) xs (acked_one c us)) (sym settled-taken) ack-table;
          order = subst (λ xs. IsInOrder shape history (after_one judge) xs n) (sym settled-taken)
              (stays-order shape history (one_more judge) rs n a.order.rises a.order.later a.order.inside a.order.unknown a.order.untouched a.order.front);
          ended = ended-settled (one_more judge) rs 0 n a.order.rises a.ended;
          same = settled-asked;
          left = refl;
          batches_left = (drop-more judge.acked batch batches judge.now.list a.batches_left).1;
          claims = a.claims;
        }

  -- What is mirrored when no further batch is acknowledged.
  pub record Acknowledged (judge : Judge) (due : List Line) (answer : state.Serving) (lines : List Line) : Type 0 where
    pub same_lines : lines ≡ due
    pub work : list_all is_work due ≡ true
    pub session_same : (judged_all events judge due).now.session ≡ judge.now.session
    pub us : List Unacked
    pub batches : List Batch
    pub at_end : Acknowledges (judged_all events judge due) answer us batches

  no_ack : (judge : Judge) (c : state.Serving) (us : List Unacked) (batches : List Batch) → Acknowledges judge c us batches → Acknowledged judge [] c []
  unfolding judged_all
  no_ack judge c us batches a = record { same_lines = refl; work = refl; session_same = refl; us = us; batches = batches; at_end = a }

  more_acks : (judge : Judge) (xs ys lines rest : List Line) (c : state.Serving) → lines ≡ xs → list_all is_work xs ≡ true
      → (judged_all events judge xs).now.session ≡ judge.now.session → Acknowledged (judged_all events judge xs) ys c rest → Acknowledged judge (xs ++ ys) c (lines ++ rest)
  more_acks judge xs ys lines rest c same work session a = record {
    same_lines = ap₂ (λ x y. x ++ y) same a.same_lines;
    work = list_all-append is_work xs ys ∙ ap₂ (λ x y. x && y) work a.work;
    session_same = ap (λ j. j.now.session) (judged_all-append events judge xs ys) ∙ a.session_same ∙ session;
    us = a.us;
    batches = a.batches;
    at_end = subst (λ j. Acknowledges j c a.us a.batches) (sym (judged_all-append events judge xs ys)) a.at_end;
  }

  pub acks_law : (us : List Unacked) (batches : List Batch) (judge : Judge) (c : state.Serving) → map (λ x. x.leader) us ≡ map (λ b. leader_of shape b) batches
      → Acknowledges judge c us batches → Acknowledged judge (acks_due shape events asked news judge batches) (acks shape c us).client (acks shape c us).lines
  unfolding acks acks_due
  acks_law [] [] judge c leaders a = no_ack judge c [] [] a
  acks_law [] (batch ∷ batches) judge c leaders a = absurd (cc)
  acks_law (u ∷ us) [] judge c leaders a = absurd (cc)
  acks_law (u ∷ us) (batch ∷ batches) judge c leaders a =
      let more : Acked = record { client = (acks shape (acked_one c us) us).client; lines = acked_lines c ++ (acks shape (acked_one c us) us).lines } in
      let none : Acked = record { client = c; lines = [] } in
      rw (ack-test judge c u us batch batches a leaders)
      (by_test (λ t. Acknowledged judge
      (if t then ack_due events judge asked ++ acks_due shape events asked news (judged_all events judge (ack_due events judge asked)) batches else [])
      (cond {A = Acked} t more none).client (cond {A = Acked} t more none).lines)
      (all_claim shape judge.now.session (judge.acked + 1) batch news)
      (λ _. more_acks judge (ack_due events judge asked) _ _ _ _ (ack-lines judge c u us batch batches a)
      (ap (list_all is_work) (ack-due judge c u us batch batches a) ∙ barriers-work (one_more judge) (left_of (unended judge taken)))
      (ap (λ j. j.now.session) (ack-judge judge c u us batch batches a))
      (subst (λ j. Acknowledged j (acks_due shape events asked news j batches) (acks shape (acked_one c us) us).client (acks shape (acked_one c us) us).lines)
      (sym (ack-judge judge c u us batch batches a))
      (acks_law us batches (after_one judge) (acked_one c us) (cc) (ack-next judge c u us batch batches a leaders))))
      (λ _. no_ack judge c (u ∷ us) (batch ∷ batches) a))
