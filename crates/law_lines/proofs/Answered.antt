-- Any answer to a serving client gives the lines due.
use Rattle.std.proofs.Common.{◌≡◌, ℕ, ◌^◌, ◌<◌, ◌≤◌, Bool, true, false, not, ◌&&◌, ◌||◌, ◌==◌, ◌∙◌, nat_lt, if◌then◌else◌, List, [], ◌∷◌, map, Option, None, Some, refl, ap, ap₂, sym, subst, eq-eqb, ltb-true, ltb-false}
use Rattle.std.specs.Prelude.{filter, find}
use Rattle.std.specs.List.{list_any}
use Rattle.std.specs.Option.{option_map}
use Rattle.std.proofs.lemmas.List.Folds.{list_any-append}
use Rattle.salus_types.specs.Volume.{Shape, regions, blocks}
use Rattle.salus_types.specs.declared.names.NodeName.{NodeName}
use Rattle.salus_message.specs.declared.replies.Answer.{Answer}
use Rattle.salus_message.specs.declared.wire.Message.TheVariants as message
use Rattle.schedule_text.specs.declared.schedule.Volume.{Volume}
use Rattle.schedule_text.specs.declared.schedule.Event.{Event}
use Rattle.schedule_text.specs.declared.schedule.Event.TheVariants as event
use Rattle.printed_lines.specs.declared.line.Line.{Line}
use Rattle.salus_model.specs.declared.trace.Request.{Request}
use Rattle.salus_model.specs.declared.trace.Request.TheVariants as request
use Rattle.salus_model.specs.declared.trace.TraceStep.{TraceStep}
use Rattle.volume_model.specs.Contents.{Batch, region_of}
use Rattle.volume_model.specs.Parts.{blocks_of}
use Rattle.salus_model.specs.Judge.{Judge, event_at, judged_all}
use Rattle.salus_model.specs.Hearing.{Says, Past}
use Rattle.salus_model.specs.Waiting.{Taken, is_write, left_of, live, Question, questions_from, questions_of, questions}
use Rattle.salus_model.specs.Answering.{verdict_of, is_fitting, is_answer, is_known, is_good, verdict_then}
use Rattle.salus_model.specs.Due.{due_verdict, due_answer_to, due_answer}
use Rattle.client_rules.specs.State as state
use Rattle.client_rules.specs.State.{ignored}
use Rattle.client_rules.specs.Tables.{line_of, read_questions, head_questions, open_at}
use Rattle.client_rules.specs.Serving.{read_answered, head_judged, head_answered, answered_here}
use Rattle.list_lemmas.proofs.Tests.{by_test}
use Rattle.law_lemmas.proofs.Regional.{in_region}
use Rattle.law_lines.specs.Mirror.{Between, open_of}
use Rattle.law_lines.specs.Mirrors.{Holds, AsDue}
use Rattle.law_lines.proofs.Ordered.{left-line, head-writes}
use Rattle.law_lines.proofs.Histories.{past}
use Rattle.law_lines.proofs.Committed.{ignored_as_due}
use Rattle.law_lines.proofs.Hitting.{is_ours, hits, answer-is, agree-off}
use Rattle.law_lines.proofs.Finding.{find-none, find-back, open-find, between-take}
use Rattle.law_lines.proofs.Numbering.{reads-low}
use Rattle.law_lines.proofs.OpenReads.{no-answer}
use Rattle.law_lines.proofs.ReadRows.{same-worth}
use Rattle.law_lines.proofs.ReadAnswers.{find-ours, none_as_due, read_answered_as_due}
use Rattle.law_lines.proofs.HeadFound.{FoundHead, found-head, blocks-inside, find-filter, off-hits, any-filter, find-off}
use Rattle.law_lines.proofs.HeadRows.{known_as_due}
use Rattle.law_lines.proofs.HeadAnswers.{head_judged_as_due}

-- a write that is live is that of its event
abbrev pub IsWritten : List Event → Taken → Type 0
IsWritten events w = (batch : Batch) → w.request ≡ request.Write batch → event_at events w.event ≡ Some (event.Write batch)

-- the request of a head
pub write_is : (r : Request) → is_write r ≡ true → (batch : Batch) × (r ≡ request.Write batch)
write_is (request.Write batch) is = (batch, refl)
write_is (request.Read b) is = absurd (cc)
write_is request.Barrier is = absurd (cc)
write_is (request.Restart e) is = absurd (cc)
write_is (request.Reassign e g) is = absurd (cc)

still_known : (shape : Shape) (q : Question) (history : List Past) (p : Past) → is_known shape q history ≡ true → is_known shape q (p ∷ history) ≡ true
unfolding is_known
still_known shape q history p known = ap (λ t. t || is_good (verdict_then shape q history p)) known

module _ (volume : Volume) (events : List Event) (history : List Past) (judge : Judge) (n m : ℕ) (c : state.Serving) (step : TraceStep) (name : NodeName) (a : Answer)
    (h : Holds volume history judge n m (state.Serves c)) (script : (w : Taken) (behind : List Taken) → line_of (live history judge) ≡ w ∷ behind → IsWritten events w) (small : n ≤ 2 ^ 32) where
  abbrev R : List Line → state.Told → Type 0
  R due told = AsDue volume (past step (Says name (message.Answer a)) judge due ∷ history) (judged_all events judge due) n m due told

  module _ (ours : is_ours volume.geometry judge name a ≡ true) (high : 2 ^ 32 ≤ a.read) where
    rq_off : list_any (hits a) (read_questions (left_of (live history judge))) ≡ false
    rq_off =
        reads-low a 0 n (left_of (live history judge))
        (between-take 0 n (left_of (live history judge)) (line_of (live history judge)) (subst (λ rs. Between 0 rs n) (sym (left-line (live history judge))) h.mirrors.order.rises)) small high

    reads_no : list_any (λ q. is_answer volume.geometry judge q name a) (read_questions (left_of (live history judge))) ≡ false
    reads_no = no-answer volume events history judge n m c step name a h ours _ rq_off

    module _ (w : Taken) (behind : List Taken) (batch : Batch) (line_is : line_of (live history judge) ≡ w ∷ behind) (writes : w.request ≡ request.Write batch) where
      abbrev hq : List Question
      hq = questions_from w.event 1 (blocks_of volume.geometry batch)

      abbrev unk : Question → Bool
      unk o = not (is_known volume.geometry o history)

      head_is : head_questions volume.geometry (line_of (live history judge)) ≡ hq
      head_is = ap (head_questions volume.geometry) line_is ∙ ap (questions_of volume.geometry w.event) writes

      found_as_due : (o : Option Question) → find (hits a) hq ≡ o
          → R (due_answer_to volume.geometry events history judge name a o) (head_answered volume c name a (option_map (open_of volume.geometry history) (find (hits a) (filter unk hq))))
      found_as_due None is =
          let none : list_any (hits a) hq ≡ false = find-none (hits a) hq is in
          subst (λ o. R [] (head_answered volume c name a (option_map (open_of volume.geometry history) o)))
          (sym (find-off (hits a) (filter unk hq) (any-filter (hits a) unk hq none)))
          (none_as_due volume events history judge n m c step name a h ours
          (list_any-append (hits a) (read_questions (left_of (live history judge))) (head_questions volume.geometry (line_of (live history judge)))
          ∙ ap₂ (λ x y. x || y) rq_off (ap (list_any (hits a)) head_is ∙ none)))
      found_as_due (Some q) is =
          let shape : Shape = volume.geometry in
          let f : FoundHead a w.event (λ b. nat_lt b (blocks shape)) hq q = found-head a w.event (λ b. nat_lt b (blocks shape)) (blocks_of shape batch) 1 q (blocks-inside shape batch) is in
          let hit : hits a q ≡ true = ap₂ (λ x y. x && y) (eq-eqb a.read q.number f.asked) (eq-eqb a.block q.block f.block) in
          let found : find (hits a) (filter unk hq) ≡ (if unk q then Some q else None) =
          ap (λ qs. find (hits a) (filter unk qs)) f.whole
          ∙ find-filter a unk q f.front f.behind (off-hits a q.number f.front f.asked f.front_off) (off-hits a q.number f.behind f.asked f.behind_off) hit in
          let within : region_of shape a.block < regions shape = subst (λ b. region_of shape b < regions shape) (sym f.block) (in_region shape q.block (ltb-true q.block (blocks shape) f.within)) in
          subst (λ o. R (due_answer_to shape events history judge name a (Some q)) (head_answered volume c name a (option_map (open_of shape history) o))) (sym found)
          (by_test (λ t. is_known shape q history ≡ t → R (if t then [] else due_verdict shape events history judge q name.replica a (verdict_of shape judge a))
          (head_answered volume c name a (option_map (open_of shape history) (if not t then Some q else None))))
          (is_known shape q history)
          (λ _ known. known_as_due volume events history judge n m c step name a h ours reads_no w behind batch line_is writes (script w behind line_is batch writes) small high q f known
          (still_known shape q history _ known))
          (λ _ _. subst (λ v. R (due_verdict shape events history judge q name.replica a (verdict_of shape judge a)) (head_judged volume c name a (open_of shape history q) v))
          (sym (same-worth shape judge c a h.mirrors.counts within))
          (head_judged_as_due volume events history judge n m c step name a h ours reads_no w behind batch line_is writes (script w behind line_is batch writes) small high q f (verdict_of shape judge a) refl))
          refl)

      write_as_due : R (due_answer volume.geometry events history judge name a) (head_answered volume c name a (open_at a c.asked))
      write_as_due =
          subst (λ o. R (due_answer_to volume.geometry events history judge name a o) (head_answered volume c name a (open_at a c.asked)))
          (sym (find-ours volume events history judge n m c step name a h ours
          ∙ find-back (hits a) (read_questions (left_of (live history judge))) (head_questions volume.geometry (line_of (live history judge))) rq_off ∙ ap (find (hits a)) head_is))
          (subst (λ o. R (due_answer_to volume.geometry events history judge name a (find (hits a) hq)) (head_answered volume c name a o))
          (sym (ap (open_at a) (h.mirrors.table.asked ∙ ap (λ qs. map (open_of volume.geometry history) (filter unk qs)) head_is)
          ∙ open-find a (open_of volume.geometry history) (λ o. refl) (filter unk hq)))
          (found_as_due (find (hits a) hq) refl))

    -- whatever stands at the head
    head_as_due : (l : List Taken) → line_of (live history judge) ≡ l → R (due_answer volume.geometry events history judge name a) (head_answered volume c name a (open_at a c.asked))
    head_as_due [] line_is =
        let none : head_questions volume.geometry (line_of (live history judge)) ≡ [] = ap (head_questions volume.geometry) line_is in
        subst (λ o. R (due_answer_to volume.geometry events history judge name a o) (head_answered volume c name a (open_at a c.asked)))
        (sym (find-ours volume events history judge n m c step name a h ours
        ∙ find-back (hits a) (read_questions (left_of (live history judge))) (head_questions volume.geometry (line_of (live history judge))) rq_off ∙ ap (find (hits a)) none))
        (subst (λ os. R [] (head_answered volume c name a (open_at a os)))
        (sym (h.mirrors.table.asked ∙ ap (λ qs. map (open_of volume.geometry history) (filter (λ o. not (is_known volume.geometry o history)) qs)) none))
        (none_as_due volume events history judge n m c step name a h ours
        (list_any-append (hits a) (read_questions (left_of (live history judge))) (head_questions volume.geometry (line_of (live history judge)))
        ∙ ap₂ (λ x y. x || y) rq_off (ap (list_any (hits a)) none))))
    head_as_due (w ∷ behind) line_is =
        let b = write_is w.request (head-writes (live history judge) w behind line_is) in
        write_as_due w behind b.0 line_is b.1

  foreign : (q : Question) → is_ours volume.geometry judge name a ≡ false → is_answer volume.geometry judge q name a ≡ false
  foreign q off = answer-is volume.geometry judge q name a ∙ ap (λ t. t && hits a q) off

  none_found : is_ours volume.geometry judge name a ≡ false → (qs : List Question) → list_any (λ q. is_answer volume.geometry judge q name a) qs ≡ false
  none_found off [] = refl
  none_found off (q ∷ qs) = ap₂ (λ x y. x || y) (foreign q off) (none_found off qs)

  foreign_as_due : is_ours volume.geometry judge name a ≡ false → R (due_answer volume.geometry events history judge name a) (ignored (state.Serves c))
  foreign_as_due off =
      subst (λ o. R (due_answer_to volume.geometry events history judge name a o) (ignored (state.Serves c)))
      (sym (find-off (λ q. is_answer volume.geometry judge q name a) (questions volume.geometry (live history judge)) (none_found off _)))
      (ignored_as_due volume events history judge n m c step name h (message.Answer a) (λ q. agree-off volume.geometry history judge step name a [] q (foreign q off)) (λ s who. refl))

  -- any answer
  pub answered_as_due : R (due_answer volume.geometry events history judge name a) (answered_here volume c name a)
  unfolding answered_here
  answered_as_due =
      subst (λ e. R (due_answer volume.geometry events history judge name a)
      (if not ((a.session == e) && is_fitting volume.geometry name a) then ignored (state.Serves c)
      else (if nat_lt a.read (2 ^ 32) then read_answered volume.geometry c name a (open_at a c.reads) else head_answered volume c name a (open_at a c.asked))))
      (sym h.mirrors.counts.session)
      (by_test (λ t. is_ours volume.geometry judge name a ≡ t → R (due_answer volume.geometry events history judge name a)
      (if not t then ignored (state.Serves c)
      else (if nat_lt a.read (2 ^ 32) then read_answered volume.geometry c name a (open_at a c.reads) else head_answered volume c name a (open_at a c.asked))))
      (is_ours volume.geometry judge name a)
      (λ _ ours. by_test (λ t. nat_lt a.read (2 ^ 32) ≡ t → R (due_answer volume.geometry events history judge name a)
      (if t then read_answered volume.geometry c name a (open_at a c.reads) else head_answered volume c name a (open_at a c.asked)))
      (nat_lt a.read (2 ^ 32))
      (λ _ low. read_answered_as_due volume events history judge n m c step name a h ours (ltb-true a.read (2 ^ 32) low))
      (λ _ high. head_as_due ours (ltb-false a.read (2 ^ 32) high) (line_of (live history judge)) refl) refl)
      (λ _ off. foreign_as_due off) refl)
