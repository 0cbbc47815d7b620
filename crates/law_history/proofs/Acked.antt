-- Batches are acknowledged in order.
use Rattle.std.proofs.Common.{◌≡◌, ℕ, suc, ◌+◌, ◌-◌, ◌∙◌, List, [], ◌∷◌, ◌++◌, length, drop, refl, ap, sym, arith}
use Rattle.std.proofs.lemmas.Bool.{cond_both}
use Rattle.std.proofs.lemmas.List.{length-drop, drop-drop}
use Rattle.salus_types.specs.Volume.{Shape}
use Rattle.schedule_text.specs.declared.schedule.Event.{Event}
use Rattle.printed_lines.specs.declared.line.Line.{Line}
use Rattle.printed_lines.specs.declared.line.Line.TheVariants as line
use Rattle.volume_model.specs.Contents.{Batch}
use Rattle.salus_model.specs.Judge.{Judge, judged_all, AlongLines}
use Rattle.salus_model.specs.Hearing.{News}
use Rattle.salus_model.specs.Waiting.{Taken, unended}
use Rattle.salus_model.specs.Due.{ack_due, acks_due, all_claim, barriers_due}
use Rattle.law_lemmas.proofs.Judged.{judged_all-append}
use Rattle.law_history.proofs.Fairly.{IsFair, AreFair, along_joined}
use Rattle.law_history.proofs.Joined.{AreGood}
use Rattle.law_history.proofs.Barriers.{with_barriers-fair, barriers-judged}

module _ (shape : Shape) (events : List Event) (all : List Taken) (m : ℕ) (requests : List Taken) (good : AreGood shape events m requests) where
  fair_ack : (judge : Judge) (batch : Batch) (batches : List Batch) → drop judge.acked judge.now.list ≡ batch ∷ batches
      → AreFair shape events all m judge (ack_due events judge requests)
  unfolding AlongLines
  fair_ack judge batch batches left =
      let some : length judge.now.list - judge.acked ≡ suc (length batches) = sym (length-drop judge.acked judge.now.list) ∙ ap length left in
      with_barriers-fair shape events all m judge requests (line.Ack (judge.acked + 1) ∷ []) good
      (record { next = refl; submitted = omega arith }, tt)

  -- after it the front is one more, and the list is the same
  left_after : (judge : Judge) (batch : Batch) (batches : List Batch) → drop judge.acked judge.now.list ≡ batch ∷ batches
      → drop (judged_all events judge (ack_due events judge requests)).acked (judged_all events judge (ack_due events judge requests)).now.list ≡ batches
  unfolding judged_all
  left_after judge batch batches left =
      let acked : Judge = record judge { acked = judge.acked + 1 } in
      let after = barriers-judged shape events all m acked (unended acked requests) in
      let whole : judged_all events judge (ack_due events judge requests) ≡ record acked { answered = after.0 } =
      judged_all-append events judge (line.Ack (judge.acked + 1) ∷ []) (barriers_due acked (unended acked requests)) ∙ after.1 in
      ap (λ j. drop j.acked j.now.list) whole ∙ (sym (drop-drop 1 judge.acked judge.now.list) ∙ ap (drop 1) left)

  pub acks-fair : (news : List News) (batches : List Batch) (judge : Judge) → drop judge.acked judge.now.list ≡ batches
      → AreFair shape events all m judge (acks_due shape events requests news judge batches)
  unfolding AlongLines acks_due
  acks-fair news [] judge left = tt
  acks-fair news (batch ∷ batches) judge left =
      let after : Judge = judged_all events judge (ack_due events judge requests) in
      cond_both {A = List Line} (all_claim shape judge.now.session (judge.acked + 1) batch news)
      (ack_due events judge requests ++ acks_due shape events requests news after batches) [] (AreFair shape events all m judge)
      (λ t. along_joined (IsFair shape events all m) events judge (ack_due events judge requests) (acks_due shape events requests news after batches)
      (fair_ack judge batch batches left) (acks-fair news batches after (left_after judge batch batches left)))
      (λ t. tt)
