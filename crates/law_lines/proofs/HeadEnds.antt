-- The head ends, and what stands behind it is looked at.
use Rattle.std.proofs.Common.{◌≡◌, ℕ, ◌<◌, ◌≤◌, true, false, ◌&&◌, ◌||◌, ◌==◌, ◌∙◌, nat_le, if◌then◌else◌, List, [], ◌∷◌, ◌++◌, refl, ap, ap₂, sym, subst, arith, eqb-true}
use Rattle.std.specs.Prelude.{flat_map}
use Rattle.std.specs.List.{list_any, list_all}
use Rattle.salus_types.specs.Volume.{Shape}
use Rattle.salus_types.specs.declared.names.NodeName.{NodeName}
use Rattle.salus_message.specs.declared.replies.Answer.{Answer}
use Rattle.salus_message.specs.declared.wire.Message.TheVariants as message
use Rattle.schedule_text.specs.declared.schedule.Volume.{Volume}
use Rattle.schedule_text.specs.declared.schedule.Event.{Event}
use Rattle.printed_lines.specs.declared.line.Line.{Line}
use Rattle.printed_lines.specs.declared.line.Line.TheVariants as line
use Rattle.salus_model.specs.declared.trace.TraceStep.{TraceStep}
use Rattle.salus_model.specs.Judge.{Judge, is_among, last_number, front_of, judged, judged_all}
use Rattle.salus_model.specs.Hearing.{Says, Past, since, news_since, opens}
use Rattle.salus_model.specs.Waiting.{Taken, is_barrier, left_of, live, all_taken, has_ended, unended}
use Rattle.salus_model.specs.Answering.{is_answer}
use Rattle.salus_model.specs.Due.{barrier_due, barriers_due, with_barriers, is_claim}
use Rattle.client_rules.specs.State as state
use Rattle.client_rules.specs.State.{Letter}
use Rattle.client_rules.specs.Tables.{line_of, read_questions, claim_of}
use Rattle.client_rules.specs.Serving.{after_leaving, leaves, before}
use Rattle.list_lemmas.proofs.Tests.{by_test}
use Rattle.law_lines.specs.Mirror.{Between, waiter_at, AfterHead, is_inside, MirrorsCounts}
use Rattle.law_lines.specs.Mirrors.{Holds}
use Rattle.law_lines.proofs.Ordered.{between-ends, between-filter, left-line, free-left}
use Rattle.law_lines.proofs.Settled.{without, unended-more, unended-twice, barrier_due-is, judged-barriers}
use Rattle.law_lines.proofs.Moving.{CanLeave, settled_judge, inside-filter, leaving-lines, has_left}
use Rattle.law_lines.proofs.Histories.{past, is_work, AreWork, work_lines}
use Rattle.law_lines.proofs.Keeping.{claims-plain}
use Rattle.law_lines.proofs.Serving.{barriers-work, serving-left}
use Rattle.law_lines.proofs.Committed.{said-live, said-phase}
use Rattle.law_lines.proofs.Hitting.{is_ours, off-open, off-any}
use Rattle.law_lines.proofs.Finding.{without-one, between-front, between-behind}
use Rattle.law_lines.proofs.OpenReads.{untouched-after}
use Rattle.law_lines.proofs.ReadRows.{after, Row}

-- two judges agree on the fronts of earlier events
same-waiter : (judge next : Judge) (r : Taken) → front_of next r.event ≡ front_of judge r.event → waiter_at next r ≡ waiter_at judge r
same-waiter judge next r same = ap (λ f. if is_barrier r.request then record { event = r.event; front = f } ∷ [] else []) same

same-due : (judge next : Judge) (r : Taken) → front_of next r.event ≡ front_of judge r.event → next.acked ≡ judge.acked
    → barrier_due next r.event r.request ≡ barrier_due judge r.event r.request
same-due judge next r same acked =
    barrier_due-is next r
    ∙ ap₂ (λ f k. if is_barrier r.request && nat_le f k then line.Barrier r.event f ∷ [] else []) same acked
    ∙ sym (barrier_due-is judge r)

module _ (judge next : Judge) (v : ℕ) (fronts : (u : ℕ) → u < v → front_of next u ≡ front_of judge u) (acked : next.acked ≡ judge.acked) where
  pub same-waiters : (low : ℕ) (rs : List Taken) → Between low rs v → flat_map (waiter_at next) rs ≡ flat_map (waiter_at judge) rs
  unfolding Between
  same-waiters low [] b = refl
  same-waiters low (r ∷ rs) b = ap₂ (λ x y. x ++ y) (same-waiter judge next r (fronts r.event (between-ends r.event v rs b.1))) (same-waiters r.event rs b.1)

  pub same-dues : (low : ℕ) (rs : List Taken) → Between low rs v → flat_map (λ r. barrier_due next r.event r.request) rs ≡ flat_map (λ r. barrier_due judge r.event r.request) rs
  unfolding Between
  same-dues low [] b = refl
  same-dues low (r ∷ rs) b = ap₂ (λ x y. x ++ y) (same-due judge next r (fronts r.event (between-ends r.event v rs b.1)) acked) (same-dues r.event rs b.1)

-- What the head's last line makes of judge and client.
pub record HeadEnds (shape : Shape) (judge next : Judge) (v : ℕ) (c told : state.Serving) : Type 0 where
  pub counts : MirrorsCounts shape next told
  pub reads : told.reads ≡ c.reads
  pub barriers : told.barriers ≡ c.barriers
  pub claims : told.claims ≡ c.claims
  pub fronts : (u : ℕ) → u < v → front_of next u ≡ front_of judge u
  pub acked : next.acked ≡ judge.acked
  pub ended : (u : ℕ) → has_ended next u ≡ (has_ended judge u || is_among u (v ∷ []))
  pub latest : next.latest ≤ v
  pub front : (u : ℕ) → next.latest < u → front_of next u ≡ last_number next
  pub session : next.now.session ≡ judge.now.session

module _ (volume : Volume) (events : List Event) (history : List Past) (judge : Judge) (n m : ℕ) (c : state.Serving) (step : TraceStep) (name : NodeName) (a : Answer)
    (h : Holds volume history judge n m (state.Serves c)) (ours : is_ours volume.geometry judge name a ≡ true)
    (reads_off : list_any (λ q. is_answer volume.geometry judge q name a) (read_questions (left_of (live history judge))) ≡ false)
    (w : Taken) (behind : List Taken) (line_is : line_of (live history judge) ≡ w ∷ behind)
    (next : Judge) (told : state.Serving) (e : HeadEnds volume.geometry judge next w.event c told) where
  abbrev left : List Taken
  left = left_of (live history judge)

  whole : left ++ (w ∷ behind) ≡ live history judge
  whole = ap (λ l. left ++ l) (sym line_is) ∙ left-line (live history judge)

  ordered : Between 0 (left ++ (w ∷ behind)) n
  ordered = subst (λ rs. Between 0 rs n) (sym whole) h.mirrors.order.rises

  others : without (w.event ∷ []) (live history judge) ≡ left ++ behind
  others = ap (without (w.event ∷ [])) (sym whole) ∙ without-one 0 n left w behind ordered

  live_then : (due : List Line) → AreWork due → live (after volume events history judge n m c step name a h ours due) next ≡ left ++ behind
  unfolding live
  live_then due work =
      said-live volume events history judge n m c step name h (message.Answer a) due work next
      ∙ unended-more judge next (w.event ∷ []) e.ended (all_taken (since opens history))
      ∙ others

  rises_then : Between 0 (left ++ behind) n
  rises_then = subst (λ rs. Between 0 rs n) others (between-filter _ 0 n (live history judge) h.mirrors.order.rises)

  can : (due : List Line) → CanLeave volume.geometry (after volume events history judge n m c step name a h ours due) next told left behind w.event n
  can due = record {
    counts = e.counts;
    free = free-left (live history judge);
    reads = e.reads ∙ h.mirrors.table.reads ∙ sym (off-open volume.geometry history judge step name a due (read_questions left) reads_off);
    barriers = e.barriers ∙ h.mirrors.table.barriers ∙ sym (same-waiters judge next w.event e.fronts e.acked 0 left (between-front 0 n left w behind ordered));
    none = same-dues judge next w.event e.fronts e.acked 0 left (between-front 0 n left w behind ordered) ∙ h.mirrors.order.waiting;
    unknown = off-any volume.geometry history judge step name a due (read_questions left) reads_off ∙ h.mirrors.order.unknown;
    rises = rises_then;
    later = between-behind 0 n left w behind ordered;
    up = e.latest;
    inside = subst (λ rs. list_all (λ r. is_inside volume.geometry r.request) rs ≡ true) others (inside-filter volume.geometry _ (live history judge) h.mirrors.order.inside);
    untouched = λ q late. untouched-after volume events history judge n m c step name a h ours due q (subst (λ l. AfterHead l n q.event) (sym line_is) late);
    front = e.front;
  }

  ended_then : (u : ℕ) → has_ended next u ≡ true → u < n
  ended_then u is =
      let less = between-ends w.event n behind (between-behind 0 n left w behind ordered) in
      by_test (λ t. has_ended judge u ≡ t → (t || is_among u (w.event ∷ [])) ≡ true → u < n) (has_ended judge u)
      (λ _ so _. h.before.ended u so)
      (λ _ _. by_test (λ t. (w.event == u) ≡ t → (t || false) ≡ true → u < n) (w.event == u)
      (λ _ at _. let same : w.event ≡ u = eqb-true w.event u at in omega (arith, less, same)) (λ _ _ no_way. absurd (cc)) refl)
      refl (sym (e.ended u) ∙ is)

  -- The line, and then the leaving rule.
  pub head_ends_as_due : (l : Line) (outs : List Letter) → is_work l ≡ true → judged events judge l ≡ next
      → Row volume events history judge n m c step name a h ours (with_barriers events judge (live history judge) (l ∷ [])) (before outs (l ∷ []) (leaves volume.geometry told behind))
  unfolding judged_all leaves live
  head_ends_as_due l outs works ends =
      let due : List Line = l ∷ barriers_due next (left ++ behind) in
      let work : AreWork due = work_lines due (ap (λ t. t && list_all is_work (barriers_due next (left ++ behind))) works ∙ barriers-work next (left_of (left ++ behind))) in
      let due_is : with_barriers events judge (live history judge) (l ∷ []) ≡ due =
      ap (λ j. l ∷ barriers_due j (unended j (live history judge))) ends
      ∙ ap (λ rs. l ∷ barriers_due next rs)
      (unended-more judge next (w.event ∷ []) e.ended (live history judge)
      ∙ ap (without (w.event ∷ [])) (unended-twice judge (all_taken (since opens history))) ∙ others) in
      let then_judge : judged_all events judge due ≡ settled_judge next (left ++ behind) =
      ap (λ j. judged_all events j (barriers_due next (left ++ behind))) ends ∙ judged-barriers events next next (left_of (left ++ behind)) in
      let hist : List Past = after volume events history judge n m c step name a h ours due in
      let holds : Holds volume hist (settled_judge next (left ++ behind)) n m (state.Serves (after_leaving volume.geometry told behind)) =
      serving-left volume hist next (left ++ behind) n m (after_leaving volume.geometry told behind) rises_then (live_then due work)
      (said-phase volume events history judge n m c step name h (message.Answer a) due work) ended_then (subst (λ x. x < m) (sym e.session) h.young)
      (λ who k up. ap (λ cs. nat_le k (claim_of who cs)) e.claims
      ∙ claims-plain history (past step (Says name (message.Answer a)) judge due) judge c work.opens_not (λ x y. refl) h.mirrors.claims who k up
      ∙ ap (λ x. list_any (λ y. is_claim x k who y) (news_since opens hist)) (sym e.session))
      (has_left volume.geometry hist next told left behind w.event n (can due)) in
      subst (λ ls. Row volume events history judge n m c step name a h ours ls (before outs (l ∷ []) (leaves volume.geometry told behind))) (sym due_is)
      (record {
        same = ap (λ ls. l ∷ ls) (leaving-lines volume.geometry hist next told left behind w.event n (can due));
        holds = subst (λ j. Holds volume hist j n m (state.Serves (after_leaving volume.geometry told behind))) (sym then_judge) holds;
      })
