-- An answer with the number of a read.
use Rattle.std.proofs.Common.{◌≡◌, ℕ, ◌^◌, ◌<◌, Bool, true, false, ◌&&◌, ◌||◌, ◌==◌, ◌∙◌, nat_lt, if◌then◌else◌, List, [], ◌∷◌, ◌++◌, Option, None, Some, refl, ap, ap₂, sym, subst, eqb-true, ltb-true}
use Rattle.std.specs.Prelude.{find}
use Rattle.std.specs.List.{list_any, list_all}
use Rattle.std.specs.Option.{option_map}
use Rattle.std.proofs.lemmas.Grind.{flat_map-append}
use Rattle.std.proofs.lemmas.List.Folds.{list_any-append}
use Rattle.std.proofs.lemmas.Bool.{and_parts, or_parts}
use Rattle.salus_types.specs.Volume.{Shape, regions, blocks}
use Rattle.salus_types.specs.declared.names.NodeName.{NodeName}
use Rattle.salus_message.specs.declared.replies.Answer.{Answer}
use Rattle.salus_message.specs.declared.wire.Message.TheVariants as message
use Rattle.schedule_text.specs.declared.schedule.Volume.{Volume}
use Rattle.schedule_text.specs.declared.schedule.Event.{Event}
use Rattle.salus_model.specs.declared.trace.Request.TheVariants as request
use Rattle.salus_model.specs.declared.trace.TraceStep.{TraceStep}
use Rattle.volume_model.specs.Contents.{region_of}
use Rattle.salus_model.specs.Judge.{Judge}
use Rattle.salus_model.specs.Hearing.{Past}
use Rattle.salus_model.specs.Waiting.{Taken, left_of, live, Question, same_question, questions, is_asked}
use Rattle.salus_model.specs.Answering.{verdict_of, is_answer, is_known}
use Rattle.salus_model.specs.Due.{due_verdict, due_answer_to, due_answer}
use Rattle.client_rules.specs.State as state
use Rattle.client_rules.specs.State.{ignored}
use Rattle.client_rules.specs.Tables.{line_of, read_questions, head_questions, open_at}
use Rattle.client_rules.specs.Serving.{read_judged, read_answered}
use Rattle.list_lemmas.proofs.Tests.{by_test}
use Rattle.law_lemmas.proofs.Regional.{in_region}
use Rattle.law_lines.specs.Mirror.{open_of, is_inside}
use Rattle.law_lines.specs.Mirrors.{Holds}
use Rattle.law_lines.proofs.Ordered.{questions-split, left-line}
use Rattle.law_lines.proofs.Counting.{inside-front}
use Rattle.law_lines.proofs.Histories.{AgreeOn}
use Rattle.law_lines.proofs.Committed.{ignored_as_due}
use Rattle.law_lines.proofs.Hitting.{is_ours, hits, answer-is, agree-off, agree-unasked}
use Rattle.law_lines.proofs.Finding.{FoundRead, found-read, find-front, find-none, open-find}
use Rattle.law_lines.proofs.Numbering.{head-high}
use Rattle.law_lines.proofs.ReadRows.{after, Row, same-worth, read_judged_as_due}

some_known : (p : Question → Bool) (q : Question) (xs ys : List Question) → list_any p (xs ++ q ∷ ys) ≡ false → p q ≡ false
some_known p q xs ys none =
    (or_parts (p q) _ (or_parts (list_any p xs) _ (sym (list_any-append p xs (q ∷ ys)) ∙ none)).1).0

inside-here : (shape : Shape) (xs ys : List Taken) (r : Taken) → list_all (λ x. is_inside shape x.request) (xs ++ r ∷ ys) ≡ true → is_inside shape r.request ≡ true
inside-here shape [] ys r all = (and_parts (is_inside shape r.request) _ all).0
inside-here shape (x ∷ xs) ys r all = inside-here shape xs ys r (and_parts (is_inside shape x.request) _ all).1

-- the same question is hit alike
same-hit : (a : Answer) (q o : Question) → same_question q o ≡ true → hits a q ≡ hits a o
same-hit a q o same =
    let s = and_parts ((q.event == o.event) && (q.number == o.number)) (q.block == o.block) same in
    let t = and_parts (q.event == o.event) (q.number == o.number) s.0 in
    ap₂ (λ x y. (a.read == x) && (a.block == y)) (eqb-true q.number o.number t.1) (eqb-true q.block o.block s.1)

unhit : (a : Answer) (q : Question) (qs : List Question) → list_any (hits a) qs ≡ false → list_any (same_question q) qs ≡ true → hits a q ≡ false
unhit a q [] none = λ some. absurd (cc)
unhit a q (o ∷ qs) none =
    let s = or_parts (hits a o) _ none in
    by_test (λ t. same_question q o ≡ t → (t || list_any (same_question q) qs) ≡ true → hits a q ≡ false) (same_question q o)
    (λ _ same _. same-hit a q o same ∙ s.0) (λ _ _ some. unhit a q qs s.1 some) refl

module _ (volume : Volume) (events : List Event) (history : List Past) (judge : Judge) (n m : ℕ) (c : state.Serving) (step : TraceStep) (name : NodeName) (a : Answer)
    (h : Holds volume history judge n m (state.Serves c)) (ours : is_ours volume.geometry judge name a ≡ true) where
  abbrev rq : List Question
  rq = read_questions (left_of (live history judge))

  abbrev hq : List Question
  hq = head_questions volume.geometry (line_of (live history judge))

  -- among the questions that are asked
  pub find-ours : find (λ q. is_answer volume.geometry judge q name a) (questions volume.geometry (live history judge)) ≡ find (hits a) (rq ++ hq)
  find-ours =
      (λ i. find (λ q. (answer-is volume.geometry judge q name a ∙ ap (λ t. t && hits a q) ours) i) (questions volume.geometry (live history judge)))
      ∙ ap (find (hits a)) (questions-split volume.geometry (live history judge))

  -- an answer to none of them is worth nothing
  pub agree-none-hit : list_any (hits a) (rq ++ hq) ≡ false → (q : Question) → AgreeOn volume.geometry q (after volume events history judge n m c step name a h ours []) history
  agree-none-hit none q =
      by_test (λ t. is_asked volume.geometry history judge q ≡ t → AgreeOn volume.geometry q (after volume events history judge n m c step name a h ours []) history)
      (is_asked volume.geometry history judge q)
      (λ _ asked. agree-off volume.geometry history judge step name a [] q
      (answer-is volume.geometry judge q name a ∙ ap₂ (λ x y. x && y) ours
      (unhit a q (rq ++ hq) none (ap (list_any (same_question q)) (sym (questions-split volume.geometry (live history judge))) ∙ (and_parts _ _ asked).1))))
      (λ _ off. agree-unasked volume.geometry history judge step name a [] q off) refl

  pub none_as_due : list_any (hits a) (rq ++ hq) ≡ false → Row volume events history judge n m c step name a h ours [] (ignored (state.Serves c))
  none_as_due none = ignored_as_due volume events history judge n m c step name h (message.Answer a) (agree-none-hit none) (λ s who. refl)

  module _ (low : a.read < 2 ^ 32) where
    head_off : list_any (hits a) hq ≡ false
    head_off = head-high volume.geometry a (live history judge) (line_of (live history judge)) refl low

    found_as_due : (o : Option Question) → find (hits a) rq ≡ o
        → Row volume events history judge n m c step name a h ours (due_answer_to volume.geometry events history judge name a o)
        (read_answered volume.geometry c name a (option_map (open_of volume.geometry history) o))
    found_as_due None is = none_as_due (list_any-append (hits a) rq hq ∙ ap₂ (λ x y. x || y) (find-none (hits a) rq is) head_off)
    found_as_due (Some q) is =
        let shape : Shape = volume.geometry in
        let f : FoundRead a (left_of (live history judge)) q = found-read a (left_of (live history judge)) q is in
        let this : Question = record { event = q.event; number = q.event; block = q.block } in
        let same : this ≡ q = λ i. record { event = q.event; number = sym f.number i; block = q.block } in
        let parts : rq ≡ read_questions f.front ++ (this ∷ read_questions f.behind) =
        ap read_questions f.whole ∙ flat_map-append _ f.front (record { event = q.event; request = request.Read q.block } ∷ f.behind) in
        let unknown : is_known shape q history ≡ false =
        ap (λ x. is_known shape x history) (sym same)
        ∙ some_known (λ x. is_known shape x history) this (read_questions f.front) (read_questions f.behind) (ap (list_any (λ x. is_known shape x history)) (sym parts) ∙ h.mirrors.order.unknown) in
        let left_inside : list_all (λ r. is_inside shape r.request) (left_of (live history judge)) ≡ true =
        inside-front shape (left_of (live history judge)) (line_of (live history judge)) (ap (list_all (λ r. is_inside shape r.request)) (left-line (live history judge)) ∙ h.mirrors.order.inside) in
        let block : nat_lt q.block (blocks shape) ≡ true =
        inside-here shape f.front f.behind (record { event = q.event; request = request.Read q.block }) (ap (list_all (λ r. is_inside shape r.request)) (sym f.whole) ∙ left_inside) in
        let within : region_of shape a.block < regions shape = subst (λ b. region_of shape b < regions shape) (sym f.block) (in_region shape q.block (ltb-true q.block (blocks shape) block)) in
        subst (λ v. Row volume events history judge n m c step name a h ours (due_answer_to shape events history judge name a (Some q)) (read_judged shape c name a (open_of shape history q) v))
        (sym (same-worth shape judge c a h.mirrors.counts within))
        (subst (λ t. Row volume events history judge n m c step name a h ours (if t then [] else due_verdict shape events history judge q name.replica a (verdict_of shape judge a))
        (read_judged shape c name a (open_of shape history q) (verdict_of shape judge a)))
        (sym unknown)
        (read_judged_as_due volume events history judge n m c step name a h ours q f head_off (verdict_of shape judge a) refl))

    pub read_answered_as_due : Row volume events history judge n m c step name a h ours (due_answer volume.geometry events history judge name a)
        (read_answered volume.geometry c name a (open_at a c.reads))
    read_answered_as_due =
        subst (λ o. Row volume events history judge n m c step name a h ours (due_answer_to volume.geometry events history judge name a o) (read_answered volume.geometry c name a (open_at a c.reads)))
        (sym (find-ours ∙ find-front (hits a) rq hq head_off))
        (subst (λ o. Row volume events history judge n m c step name a h ours (due_answer_to volume.geometry events history judge name a (find (hits a) rq)) (read_answered volume.geometry c name a o))
        (sym (ap (open_at a) h.mirrors.table.reads ∙ open-find a (open_of volume.geometry history) (λ q. refl) rq))
        (found_as_due (find (hits a) rq) refl))
