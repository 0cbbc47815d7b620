-- An answer with the number of a question of the head.
use Rattle.std.proofs.Common.{◌≡◌, ℕ, ◌+◌, ◌^◌, ◌≤◌, Bool, true, false, not, ◌∙◌, nat_lt, if◌then◌else◌, List, [], ◌∷◌, ◌++◌, map, Option, Some, refl, ap, ap₂, sym, subst, arith}
use Rattle.std.specs.Prelude.{filter}
use Rattle.std.specs.List.{list_any}
use Rattle.salus_types.specs.Volume.{blocks}
use Rattle.salus_types.specs.declared.names.NodeName.{NodeName}
use Rattle.salus_types.specs.declared.strike.Strike.{Strike}
use Rattle.salus_message.specs.declared.replies.Answer.{Answer}
use Rattle.schedule_text.specs.declared.schedule.Volume.{Volume}
use Rattle.schedule_text.specs.declared.schedule.Event.{Event}
use Rattle.schedule_text.specs.declared.schedule.Event.TheVariants as event
use Rattle.printed_lines.specs.declared.line.Line.{Line}
use Rattle.printed_lines.specs.declared.line.Line.TheVariants as line
use Rattle.salus_model.specs.declared.trace.Request.TheVariants as request
use Rattle.salus_model.specs.declared.trace.TraceStep.{TraceStep}
use Rattle.volume_model.specs.Contents.{Batch}
use Rattle.volume_model.specs.Parts.{blocks_of}
use Rattle.salus_model.specs.Judge.{Judge, event_at, last_number, submitted}
use Rattle.salus_model.specs.Hearing.{Past}
use Rattle.salus_model.specs.Waiting.{Taken, left_of, live, Question, questions_from, is_asked}
use Rattle.salus_model.specs.Answering.{Verdict, Stale, Good, Struck, verdict_of, is_answer, is_known, all_struck}
use Rattle.salus_model.specs.Due.{with_barriers, due_good, due_struck, due_verdict}
use Rattle.client_rules.specs.State as state
use Rattle.client_rules.specs.State.{ignored}
use Rattle.client_rules.specs.Tables.{line_of, read_questions, struck, struck_at}
use Rattle.client_rules.specs.Submitting.{with_batch, next_parts, part_letters, batch_asked}
use Rattle.client_rules.specs.Serving.{head_faulted, submits, head_known, head_struck, head_judged, before, leaves}
use Rattle.list_lemmas.proofs.Tests.{by_test}
use Rattle.list_lemmas.proofs.Lists.{filter_same}
use Rattle.law_lines.specs.Mirror.{Between, open_of}
use Rattle.law_lines.specs.Mirrors.{Holds}
use Rattle.law_lines.proofs.Ordered.{head-above}
use Rattle.law_lines.proofs.Hitting.{is_ours, known-struck, struck-table, struck-strikes}
use Rattle.law_lines.proofs.OpenReads.{with_ended}
use Rattle.law_lines.proofs.ReadRows.{Row, stale_as_due}
use Rattle.law_lines.proofs.HeadEnds.{head_ends_as_due}
use Rattle.law_lines.proofs.Submitted.{fault_ends, submit_ends}
use Rattle.law_lines.proofs.HeadFound.{FoundHead, is_nil}
use Rattle.law_lines.proofs.HeadRows.{all-filter, newer, kept_as_due, same_counts, hq_asked, asked_is, line_here, table_with, dropped, left_is, known_then, others_test, number_high}

module _ (volume : Volume) (events : List Event) (history : List Past) (judge : Judge) (n m : ℕ) (c : state.Serving) (step : TraceStep) (name : NodeName) (a : Answer)
    (h : Holds volume history judge n m (state.Serves c)) (ours : is_ours volume.geometry judge name a ≡ true)
    (reads_off : list_any (λ q. is_answer volume.geometry judge q name a) (read_questions (left_of (live history judge))) ≡ false)
    (w : Taken) (behind : List Taken) (batch : Batch) (line_is : line_of (live history judge) ≡ w ∷ behind) (writes : w.request ≡ request.Write batch)
    (script : event_at events w.event ≡ Some (event.Write batch)) (small : n ≤ 2 ^ 32) (high : 2 ^ 32 ≤ a.read) where
  abbrev R : List Line → state.Told → Type 0
  R due told = Row volume events history judge n m c step name a h ours due told

  abbrev unk : Question → Bool
  unk o = not (is_known volume.geometry o history)

  module _ (q : Question) (f : FoundHead a w.event (λ b. nat_lt b (blocks volume.geometry)) (questions_from w.event 1 (blocks_of volume.geometry batch)) q) where
    abbrev rest : List Question
    rest = filter unk f.front ++ filter unk f.behind

    -- the last block makes the write the next batch
    submit_as_due : R (with_barriers events judge (live history judge) (line.Submit q.event (last_number judge + 1) ∷ [])) (submits volume c c.line)
    submit_as_due =
        let next : Judge = submitted events judge w.event (last_number judge + 1) in
        let one : R (with_barriers events judge (live history judge) (line.Submit w.event (last_number judge + 1) ∷ []))
        (before (part_letters volume.geometry (next_parts volume c batch)) (line.Submit w.event (last_number judge + 1) ∷ []) (leaves volume.geometry (with_batch volume c batch) behind)) =
        head_ends_as_due volume events history judge n m c step name a h ours reads_off w behind line_is next (with_batch volume c batch)
        (submit_ends volume events judge w.event c batch script h.mirrors.counts) (line.Submit w.event (last_number judge + 1)) (part_letters volume.geometry (next_parts volume c batch)) refl refl in
        subst (λ l. R (with_barriers events judge (live history judge) (line.Submit q.event (last_number judge + 1) ∷ [])) (submits volume c l)) (sym (line_here volume events history judge n m c step name a h ours reads_off w behind batch line_is writes script small high))
        (subst (λ v. R (with_barriers events judge (live history judge) (line.Submit v (last_number judge + 1) ∷ [])) (submits volume c (w ∷ behind))) (sym f.event)
        (subst (λ k. R (with_barriers events judge (live history judge) (line.Submit w.event (last_number judge + 1) ∷ []))
        (before (part_letters volume.geometry (next_parts volume c (batch_asked w.request))) (line.Submit w.event (k + 1) ∷ []) (leaves volume.geometry (with_batch volume c (batch_asked w.request)) behind)))
        (sym h.mirrors.counts.last)
        (subst (λ b. R (with_barriers events judge (live history judge) (line.Submit w.event (last_number judge + 1) ∷ []))
        (before (part_letters volume.geometry (next_parts volume c b)) (line.Submit w.event (last_number judge + 1) ∷ []) (leaves volume.geometry (with_batch volume c b) behind)))
        (sym (ap batch_asked writes)) one)))

    good_as_due : verdict_of volume.geometry judge a ≡ Good → (xs : List Question) → rest ≡ xs
        → R (if is_nil xs then with_barriers events judge (live history judge) (line.Submit q.event (last_number judge + 1) ∷ []) else [])
        (head_known volume c a (map (open_of volume.geometry history) xs))
    good_as_due good [] is = submit_as_due
    good_as_due good (x ∷ xs) is =
        kept_as_due volume events history judge n m c step name a h ours reads_off _ refl
        (same_counts volume events history judge n m c step name a h ours reads_off _ _)
        (table_with volume events history judge n m c step name a h ours reads_off w behind batch line_is writes script small high (map (open_of volume.geometry history) (x ∷ xs)) (c.known ++ a ∷ [])
        (ap (map (open_of volume.geometry history)) (sym is)
        ∙ sym (dropped volume events history judge n m c step name a h ours reads_off w behind batch line_is writes script small high q f
        (known_then volume events history judge n m c step name a h ours reads_off w behind batch line_is writes script small high q f good))))

    fault_as_due : (strikes : List (Option Strike)) → R (with_barriers events judge (live history judge) (line.Fault q.event q.block strikes ∷ [])) (head_faulted volume.geometry c (line.Fault q.event q.block strikes) c.line)
    fault_as_due strikes =
        subst (λ l. R (with_barriers events judge (live history judge) (line.Fault q.event q.block strikes ∷ [])) (head_faulted volume.geometry c (line.Fault q.event q.block strikes) l))
        (sym (line_here volume events history judge n m c step name a h ours reads_off w behind batch line_is writes script small high))
        (head_ends_as_due volume events history judge n m c step name a h ours reads_off w behind line_is (with_ended judge w.event) c
        (fault_ends volume.geometry judge w.event c h.mirrors.counts
        (let above = head-above judge.latest n w behind (subst (λ l. Between judge.latest l n) line_is h.mirrors.order.later) in omega (arith, above)) h.mirrors.order.front) (line.Fault q.event q.block strikes) [] refl (ap (with_ended judge) f.event))

    struck_as_due : (s : Strike) → verdict_of volume.geometry judge a ≡ Struck s → R [] (ignored (state.Serves (record c { asked = struck_at a name.replica s c.asked })))
    struck_as_due s strikes =
        kept_as_due volume events history judge n m c step name a h ours reads_off _ refl
        (same_counts volume events history judge n m c step name a h ours reads_off _ _)
        (table_with volume events history judge n m c step name a h ours reads_off w behind batch line_is writes script small high (struck_at a name.replica s c.asked) c.known
        (ap (struck_at a name.replica s) (asked_is volume events history judge n m c step name a h ours reads_off w behind batch line_is writes script small high)
        ∙ struck-table volume.geometry history judge step name a [] s strikes ours (filter unk (questions_from w.event 1 (blocks_of volume.geometry batch)))
        (all-filter (λ o. is_asked volume.geometry history judge o) unk _ (hq_asked volume events history judge n m c step name a h ours reads_off w behind batch line_is writes script small high))
        ∙ ap (map (open_of volume.geometry (newer volume events history judge n m c step name a h ours reads_off)))
        (filter_same _ _ (λ o. ap not (sym (known-struck volume.geometry history judge step name a [] s strikes o))) (questions_from w.event 1 (blocks_of volume.geometry batch)))))

    pub head_judged_as_due : (v : Verdict) → verdict_of volume.geometry judge a ≡ v
        → R (due_verdict volume.geometry events history judge q name.replica a v) (head_judged volume c name a (open_of volume.geometry history q) v)
    head_judged_as_due Stale is = stale_as_due volume events history judge n m c step name a h ours is (open_of volume.geometry history q)
    head_judged_as_due Good is =
        subst (λ os. R (due_good volume.geometry events history judge q a) (head_known volume c a os))
        (sym (left_is volume events history judge n m c step name a h ours reads_off w behind batch line_is writes script small high q f))
        (subst (λ ls. R ls (head_known volume c a (map (open_of volume.geometry history) rest)))
        (sym (ap₂ (λ t u. if t then line.Read q.event q.block a.bytes ∷ []
        else (if u then with_barriers events judge (live history judge) (line.Submit q.event (last_number judge + 1) ∷ []) else []))
        (number_high volume events history judge n m c step name a h ours reads_off w behind batch line_is writes script small high q f)
        (others_test volume events history judge n m c step name a h ours reads_off w behind batch line_is writes script small high q f)))
        (good_as_due is rest refl))
    head_judged_as_due (Struck s) is =
        let strikes : List (Option Strike) = (struck name.replica s (open_of volume.geometry history q)).strikes in
        subst (λ xs. R (due_struck events history judge q xs) (head_struck volume.geometry c name a (open_of volume.geometry history q) s))
        (struck-strikes volume.geometry history judge step name a [] s q)
        (by_test (λ t. R (if t then with_barriers events judge (live history judge) (line.Fault q.event q.block strikes ∷ []) else [])
        (if t then head_faulted volume.geometry c (line.Fault q.event q.block strikes) c.line else ignored (state.Serves (record c { asked = struck_at a name.replica s c.asked }))))
        (all_struck strikes) (λ _. fault_as_due strikes) (λ _. struck_as_due s is))
