-- A request to a serving client gives the lines due.
use Rattle.std.proofs.Common.{◌≡◌, ℕ, ◌+◌, ◌-◌, ◌≤◌, true, false, not, ◌∙◌, List, [], ◌∷◌, ◌++◌, map, refl, ap, sym, subst, arith, append-nil}
use Rattle.std.specs.Prelude.{filter, flat_map, fold}
use Rattle.std.specs.List.{list_any, list_all}
use Rattle.std.proofs.lemmas.List.Folds.{list_all-append}
use Rattle.salus_types.specs.Volume.{Shape}
use Rattle.schedule_text.specs.declared.schedule.Volume.{Volume}
use Rattle.schedule_text.specs.declared.schedule.Event.{Event}
use Rattle.printed_lines.specs.declared.line.Line.{Line}
use Rattle.printed_lines.specs.declared.line.Line.TheVariants as line
use Rattle.printed_lines.specs.declared.line.RequestRefusal.{RequestRefusal}
use Rattle.salus_model.specs.declared.trace.Request.{Request}
use Rattle.salus_model.specs.declared.trace.TraceStep.{TraceStep}
use Rattle.salus_model.specs.Judge.{Judge, judged_all}
use Rattle.salus_model.specs.Hearing.{Asks, Past, Phase, phase_of, phase_by_request, phase_by_news, phase_by_line}
use Rattle.salus_model.specs.Waiting.{Taken, joins, live, left_of, has_ended, Question}
use Rattle.salus_model.specs.Answering.{is_known}
use Rattle.salus_model.specs.Due.{barrier_due, barriers_due}
use Rattle.client_rules.specs.State as state
use Rattle.client_rules.specs.State.{only_lines, ignored}
use Rattle.client_rules.specs.Tables.{line_of, read_questions, head_questions}
use Rattle.client_rules.specs.Serving.{after_leaving, leaves, joined}
use Rattle.list_lemmas.proofs.Tests.{by_test}
use Rattle.law_lines.specs.Mirror.{Between, open_of, waiter_at, AfterHead, is_inside, IsInOrder, MirrorsLine, MirrorsServing}
use Rattle.law_lines.specs.Mirrors.{Holds, AsDue}
use Rattle.law_lines.proofs.Ordered.{between-more, left-line, free-empty, join-blocked}
use Rattle.law_lines.proofs.Settled.{judged-barriers}
use Rattle.law_lines.proofs.Moving.{CanLeave, settled_judge, leaving-lines, has_left}
use Rattle.law_lines.proofs.Histories.{past, AreWork, work_lines, live-plain, live-joined, AgreeOn, agree-quiet}
use Rattle.law_lines.proofs.Keeping.{table-same, order-same, after-all, before-serving, claims-plain, serving-same}
use Rattle.law_lines.proofs.Serving.{barriers-work, serving-left}

module _ (volume : Volume) (events : List Event) (history : List Past) (judge : Judge) (n m : ℕ) (c : state.Serving) (step : TraceStep)
    (h : Holds volume history judge n m (state.Serves c)) (up : n ≤ step.event) where
  -- the requests that are live
  abbrev requests : List Taken
  requests = live history judge

  abbrev next : Request → List Line → List Past
  next r due = past step (Asks r) judge due ∷ history

  abbrev Row : Request → List Line → state.Told → Type 0
  Row r due told = AsDue volume (next r due) (judged_all events judge due) (step.event + 1) m due told

  agree : (r : Request) (due : List Line) (q : Question) → AgreeOn volume.geometry q (next r due) history
  agree r due = agree-quiet volume.geometry history (past step (Asks r) judge due) (λ q. refl)

  same_phase : (r : Request) (due : List Line) → AreWork due → ((p : Phase) → phase_by_request r p ≡ p) → phase_of (next r due) ≡ phase_of history
  unfolding phase_of
  same_phase r due work keeps =
      ap (λ t. fold phase_by_line (phase_by_news t (Asks r) (phase_of history)) due) work.refuses_not
      ∙ work.phase (phase_by_request r (phase_of history)) ∙ keeps (phase_of history)

  refused_phase : (r : Request) (cause : RequestRefusal) → phase_of (next r (line.Refused step.event cause ∷ [])) ≡ phase_of history
  unfolding phase_of
  refused_phase r cause = refl

  -- a request that is refused
  pub refused_as_due : (r : Request) (cause : RequestRefusal) → Row r (line.Refused step.event cause ∷ []) (only_lines (state.Serves c) (line.Refused step.event cause ∷ []))
  unfolding judged_all
  refused_as_due r cause =
      let s : MirrorsServing volume.geometry (next r (line.Refused step.event cause ∷ [])) judge (step.event + 1) c =
      serving-same volume.geometry history (past step (Asks r) judge (line.Refused step.event cause ∷ [])) judge n (step.event + 1) c (omega (arith, up))
      (agree r (line.Refused step.event cause ∷ [])) (refused_phase r cause)
      (live-plain history (past step (Asks r) judge (line.Refused step.event cause ∷ [])) judge refl refl) refl (λ t name. refl) h.mirrors in
      record {
        same = refl;
        holds = record {
          before = before-serving volume.geometry _ judge _ (step.event + 1) s.order (λ v is. let e = h.before.ended v is in omega (arith, e, up));
          young = h.young;
          mirrors = s;
        };
      }

  module _ (r : Request) (one : joins r ≡ true) (keeps : (p : Phase) → phase_by_request r p ≡ p) (inside : is_inside volume.geometry r ≡ true) where
    abbrev new : Taken
    new = record { event = step.event; request = r }

    rises : Between 0 (requests ++ new ∷ []) (step.event + 1)
    rises = between-more 0 n requests new up h.mirrors.order.rises

    all_inside : list_all (λ x. is_inside volume.geometry x.request) (requests ++ new ∷ []) ≡ true
    all_inside = list_all-append (λ x. is_inside volume.geometry x.request) requests (new ∷ []) ∙ rw (inside, h.mirrors.order.inside) refl

    -- with these lines the new request is live
    new_live : (due : List Line) → AreWork due → live (next r due) judge ≡ requests ++ new ∷ []
    new_live due work =
        live-joined history (past step (Asks r) judge due) judge new work.opens_not
        (rw (work.refuses_not, one) refl)
        (by_test (λ t. has_ended judge step.event ≡ t → t ≡ false) (has_ended judge step.event)
        (λ _ is. let e = h.before.ended step.event is in absurd (omega (arith, e, up))) (λ _ _. refl) refl)

    -- what can leave where the line is empty
    can_leave : (due : List Line) → c.line ≡ [] → CanLeave volume.geometry (next r due) judge c requests (new ∷ []) (n - 1) (step.event + 1)
    unfolding Between
    can_leave due empty =
        let shape : Shape = volume.geometry in
        let table : MirrorsLine shape (next r due) judge requests c = table-same shape history (next r due) (agree r due) judge requests c h.mirrors.table in
        let order : IsInOrder shape (next r due) judge requests n = order-same shape history (next r due) (agree r due) judge requests n h.mirrors.order in
        let none : line_of requests ≡ [] = sym table.line ∙ empty in
        let whole : left_of requests ≡ requests = sym (append-nil (left_of requests)) ∙ ap (λ l. left_of requests ++ l) (sym none) ∙ left-line requests in
        let low = h.before.latest in
        record {
          counts = h.mirrors.counts;
          free = free-empty requests none;
          reads = table.reads ∙ ap (λ rs. map (open_of shape (next r due)) (read_questions rs)) whole;
          barriers = table.barriers ∙ ap (flat_map (waiter_at judge)) whole;
          none = ap (flat_map (λ x. barrier_due judge x.event x.request)) (sym whole) ∙ order.waiting;
          unknown = ap (λ rs. list_any (λ q. is_known shape q (next r due)) (read_questions rs)) (sym whole) ∙ order.unknown;
          rises = rises;
          later = (omega (arith, low, up), omega arith);
          up = omega (arith, low);
          inside = all_inside;
          untouched = λ q after. after-all shape (next r due) judge requests n order q (omega (arith, after, low));
          front = order.front;
        }

    -- the line is empty, and the request leaves
    joined_free : c.line ≡ [] → Row r (barriers_due judge (requests ++ new ∷ [])) (leaves volume.geometry c (new ∷ []))
    unfolding leaves
    joined_free empty =
        let due : List Line = barriers_due judge (requests ++ new ∷ []) in
        let work : AreWork due = work_lines due (barriers-work judge (left_of (requests ++ new ∷ []))) in
        let can : CanLeave volume.geometry (next r due) judge c requests (new ∷ []) (n - 1) (step.event + 1) = can_leave due empty in
        let holds : Holds volume (next r due) (settled_judge judge (requests ++ new ∷ [])) (step.event + 1) m (state.Serves (after_leaving volume.geometry c (new ∷ []))) =
        serving-left volume (next r due) judge (requests ++ new ∷ []) (step.event + 1) m (after_leaving volume.geometry c (new ∷ [])) rises (new_live due work)
        (same_phase r due work keeps ∙ h.mirrors.serves) (λ v is. let e = h.before.ended v is in omega (arith, e, up)) h.young
        (claims-plain history (past step (Asks r) judge due) judge c work.opens_not (λ s name. refl) h.mirrors.claims)
        (has_left volume.geometry (next r due) judge c requests (new ∷ []) (n - 1) (step.event + 1) can) in
        record {
          same = leaving-lines volume.geometry (next r due) judge c requests (new ∷ []) (n - 1) (step.event + 1) can;
          holds = subst (λ j. Holds volume (next r due) j (step.event + 1) m (state.Serves (after_leaving volume.geometry c (new ∷ []))))
              (sym (judged-barriers events judge judge (left_of (requests ++ new ∷ [])))) holds;
        }

    -- a write waits, and the request waits behind it
    blocked_serving : (w : Taken) (behind : List Taken) → c.line ≡ w ∷ behind
        → MirrorsServing volume.geometry (next r []) judge (step.event + 1) (record c { line = (w ∷ behind) ++ new ∷ [] })
    blocked_serving w behind is =
        let shape : Shape = volume.geometry in
        let work : AreWork [] = work_lines [] refl in
        let table : MirrorsLine shape (next r []) judge requests c = table-same shape history (next r []) (agree r []) judge requests c h.mirrors.table in
        let order : IsInOrder shape (next r []) judge requests n = order-same shape history (next r []) (agree r []) judge requests n h.mirrors.order in
        let line : line_of requests ≡ w ∷ behind = sym table.line ∙ is in
        let left : left_of (requests ++ new ∷ []) ≡ left_of requests = (join-blocked requests (new ∷ []) w behind line).0 in
        let more : line_of (requests ++ new ∷ []) ≡ (w ∷ behind) ++ new ∷ [] = (join-blocked requests (new ∷ []) w behind line).1 ∙ ap (λ l. l ++ new ∷ []) line in
        let asked_here : MirrorsLine shape (next r []) judge (requests ++ new ∷ []) (record c { line = (w ∷ behind) ++ new ∷ [] }) = record {
          line = sym more;
          reads = table.reads ∙ ap (λ rs. map (open_of shape (next r [])) (read_questions rs)) (sym left);
          asked = table.asked
              ∙ ap (λ l. map (open_of shape (next r [])) (filter (λ q. not (is_known shape q (next r []))) (head_questions shape l))) line
              ∙ ap (λ l. map (open_of shape (next r [])) (filter (λ q. not (is_known shape q (next r []))) (head_questions shape l))) (sym more);
          barriers = table.barriers ∙ ap (flat_map (waiter_at judge)) (sym left);
        } in
        let order_here : IsInOrder shape (next r []) judge (requests ++ new ∷ []) (step.event + 1) = record {
          rises = rises;
          later = subst (λ l. Between judge.latest l (step.event + 1)) (sym more)
              (between-more judge.latest n (w ∷ behind) new up (subst (λ l. Between judge.latest l n) line order.later));
          inside = all_inside;
          waiting = ap (flat_map (λ x. barrier_due judge x.event x.request)) left ∙ order.waiting;
          unknown = ap (λ rs. list_any (λ q. is_known shape q (next r [])) (read_questions rs)) left ∙ order.unknown;
          untouched = λ q after. order.untouched q (subst (λ l. AfterHead l n q.event) (sym line) (subst (λ l. AfterHead l (step.event + 1) q.event) more after));
          front = order.front;
        } in
        record {
          serves = same_phase r [] work keeps ∙ h.mirrors.serves;
          counts = record {
            session = h.mirrors.counts.session;
            last = h.mirrors.counts.last;
            acked = h.mirrors.counts.acked;
            contents = h.mirrors.counts.contents;
            numbers = h.mirrors.counts.numbers;
            leaders = h.mirrors.counts.leaders;
            within = h.mirrors.counts.within;
            based = h.mirrors.counts.based;
            leads = h.mirrors.counts.leads;
          };
          table = subst (λ rs. MirrorsLine shape (next r []) judge rs (record c { line = (w ∷ behind) ++ new ∷ [] })) (sym (new_live [] work)) asked_here;
          order = subst (λ rs. IsInOrder shape (next r []) judge rs (step.event + 1)) (sym (new_live [] work)) order_here;
          claims = claims-plain history (past step (Asks r) judge []) judge c refl (λ s name. refl) h.mirrors.claims;
        }

    joined_blocked : (w : Taken) (behind : List Taken) → c.line ≡ w ∷ behind
        → Row r (barriers_due judge (requests ++ new ∷ [])) (ignored (state.Serves (record c { line = (w ∷ behind) ++ new ∷ [] })))
    unfolding judged_all
    joined_blocked w behind is =
        let line : line_of requests ≡ w ∷ behind = sym h.mirrors.table.line ∙ is in
        let none : barriers_due judge (requests ++ new ∷ []) ≡ [] =
        ap (flat_map (λ x. barrier_due judge x.event x.request)) (join-blocked requests (new ∷ []) w behind line).0 ∙ h.mirrors.order.waiting in
        let s : MirrorsServing volume.geometry (next r []) judge (step.event + 1) (record c { line = (w ∷ behind) ++ new ∷ [] }) = blocked_serving w behind is in
        subst (λ ls. Row r ls (ignored (state.Serves (record c { line = (w ∷ behind) ++ new ∷ [] })))) (sym none)
        (record {
          same = refl;
          holds = record {
            before = before-serving volume.geometry (next r []) judge (live (next r []) judge) (step.event + 1) s.order (λ v e. let b = h.before.ended v e in omega (arith, b, up));
            young = h.young;
            mirrors = s;
          };
        })

    pub joined_as_due : (l : List Taken) → c.line ≡ l → Row r (barriers_due judge (requests ++ new ∷ [])) (joined volume.geometry c new l)
    joined_as_due [] is = joined_free is
    joined_as_due (w ∷ behind) is = joined_blocked w behind is
