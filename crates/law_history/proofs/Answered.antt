-- The lines that are due for an answer are fair: a read's block, a write's number, or a fault.
use Rattle.std.proofs.Common.{◌≡◌, ℕ, ◌+◌, ◌<◌, ◌∙◌, true, false, ◌==◌, not, List, [], ◌∷◌, slice_get, Option, None, Some, inl, inr, refl, ap, sym, subst}
use Rattle.std.specs.Prelude.{find}
use Rattle.std.proofs.lemmas.Bool.{cond_both, eqb-true, eq-eqb, false≢true, not_from_false, not-true}
use Rattle.salus_types.specs.Volume.{Shape, blocks}
use Rattle.salus_types.specs.declared.names.NodeName.{NodeName}
use Rattle.salus_types.specs.declared.strike.Strike.{Strike}
use Rattle.merkle_region.specs.Tree.{path_strings, IsAmong, NoTwoCollide}
use Rattle.salus_message.specs.declared.replies.Answer.{Answer}
use Rattle.schedule_text.specs.declared.schedule.Event.{Event}
use Rattle.printed_lines.specs.declared.line.Line.{Line}
use Rattle.printed_lines.specs.declared.line.Line.TheVariants as line
use Rattle.salus_model.specs.declared.trace.Request.{Request}
use Rattle.volume_model.specs.Contents.{place_of}
use Rattle.salus_model.specs.Judge.{Judge, last_number, array, AlongLines, IsNextBatch}
use Rattle.salus_model.specs.Hearing.{Past, since, opens}
use Rattle.salus_model.specs.Waiting.{Taken, is_write, has_ended, all_taken, live, Question, questions}
use Rattle.salus_model.specs.Answering.{Verdict, Stale, Good, Struck, verdict_of, is_answer, is_fitting, is_known, strikes_with, all_struck}
use Rattle.salus_model.specs.Due.{with_barriers, others_known, due_good, due_struck, due_verdict, due_answer_to, due_answer}
use Rattle.list_lemmas.proofs.Members.{among_filter, among_filter-in, find_among}
use Rattle.list_lemmas.proofs.Tests.{and_four}
use Rattle.law_lemmas.proofs.Numbered.{IsSized}
use Rattle.law_history.proofs.Chosen.{HasContents}
use Rattle.law_history.proofs.Fairly.{IsRequested, AreFair, IsKept, unended_parts}
use Rattle.law_history.proofs.Joined.{AreGood, good_filter}
use Rattle.law_history.proofs.Barriers.{with_barriers-fair}
use Rattle.law_history.proofs.Questioned.{IsAskedBy, IsQuestion, question}
use Rattle.law_history.proofs.Carrying.{good_block}

module _ (shape : Shape) (events : List Event) (history : List Past) (m : ℕ) (judge : Judge) (sized : IsSized shape judge.now)
    (good : AreGood shape events m (all_taken (since opens history))) (kept : IsKept (all_taken (since opens history)) m judge) where
  -- all requests of the session, and those that no line has ended
  abbrev all : List Taken
  all = all_taken (since opens history)

  good_live : AreGood shape events m (live history judge)
  unfolding live
  good_live = good_filter shape events m (λ r. not (has_ended judge r.event)) all good

  live_among : (r : Taken) → IsAmong r (live history judge) → IsAmong r all × (has_ended judge r.event ≡ false)
  unfolding live
  live_among r among =
      let from = among_filter (λ x. not (has_ended judge x.event)) r all among in (from.0, not-true (has_ended judge r.event) from.1)

  among_live : (r : Taken) → IsAmong r all → has_ended judge r.event ≡ false → IsAmong r (live history judge)
  unfolding live
  among_live r among waits = among_filter-in (λ x. not (has_ended judge x.event)) all r among (not_from_false (has_ended judge r.event) waits)

  -- ---- a read

  fair_read : (q : Question) (a : Answer) (r : Request) → IsAskedBy r q → q.number ≡ q.event → IsRequested shape events q.event r → has_ended judge q.event ≡ false
      → a.block ≡ q.block → (a.block < blocks shape → slice_get (array judge) a.block ≡ Some a.bytes) → AreFair shape events all m judge (line.Read q.event q.block a.bytes ∷ [])
  unfolding AlongLines
  fair_read q a r (inr (batch, write, other)) number asked waits same block = absurd (other number)
  fair_read q a r (inl (is, own)) number asked waits same block =
      let read = subst (IsRequested shape events q.event) is asked in (
        record {
          asked = read.0;
          inside = read.1;
          once = (unended_parts judge q.event waits).0;
          block = subst (λ b. slice_get (array judge) b ≡ Some a.bytes) same (block (subst (λ b. b < blocks shape) (sym same) read.1));
        },
        tt,
      )

  -- ---- a write

  next_batch : (q : Question) (r : Request) → IsAskedBy r q → (q.number == q.event) ≡ false → IsRequested shape events q.event r → judge.latest < q.event
      → IsNextBatch shape events judge q.event (last_number judge + 1)
  next_batch q r (inl (is, own)) number asked late = absurd (false≢true (sym number ∙ eq-eqb q.number q.event own))
  next_batch q r (inr (batch, is, other)) number asked late =
      let write = subst (IsRequested shape events q.event) is asked in
      record { batch = batch; asked = write.0; inside = write.1; later = late; next = refl }

  write_asked : (q : Question) (r : Request) → IsAskedBy r q → (q.number == q.event) ≡ false → is_write r ≡ true
  write_asked q r (inl (is, own)) number = absurd (false≢true (sym number ∙ eq-eqb q.number q.event own))
  write_asked q r (inr (batch, is, other)) number = ap is_write is

  fair_submit : (q : Question) → IsQuestion (live history judge) q → (q.number == q.event) ≡ false
      → AreFair shape events all m judge (line.Submit q.event (last_number judge + 1) ∷ [])
  unfolding AlongLines
  fair_submit q of number =
      let from = live_among of.taken of.among in
      let asked : IsRequested shape events q.event of.taken.request = subst (λ v. IsRequested shape events v of.taken.request) (sym of.event) (good.each of.taken from.0) in
      let late : judge.latest < q.event = subst (λ v. judge.latest < v) (sym of.event)
      (kept.late of.taken from.0 (write_asked q of.taken.request of.by number) from.1) in
      let low : q.event < m = subst (λ v. v < m) (sym of.event) (good.below of.taken from.0) in (
        (
          next_batch q of.taken.request of.by number asked late,
          (λ r among write waits. of.first r (among_live r among waits) write),
          low,
        ),
        tt,
      )

  -- ---- an answer

  fair_good : (q : Question) (a : Answer) → IsQuestion (live history judge) q → a.block ≡ q.block
      → (a.block < blocks shape → slice_get (array judge) a.block ≡ Some a.bytes) → AreFair shape events all m judge (due_good shape events history judge q a)
  unfolding AlongLines
  fair_good q a of same block =
      cond_both {A = List Line} (q.number == q.event) (line.Read q.event q.block a.bytes ∷ []) _ (AreFair shape events all m judge)
      (λ t.
      let from = live_among of.taken of.among in
      fair_read q a of.taken.request of.by (eqb-true q.number q.event t)
      (subst (λ v. IsRequested shape events v of.taken.request) (sym of.event) (good.each of.taken from.0))
      (subst (λ v. has_ended judge v ≡ false) (sym of.event) from.1) same block)
      (λ t. cond_both {A = List Line} (others_known shape history (questions shape (live history judge)) q)
      (with_barriers events judge (live history judge) (line.Submit q.event (last_number judge + 1) ∷ [])) [] (AreFair shape events all m judge)
      (λ u. with_barriers-fair shape events all m judge (live history judge) (line.Submit q.event (last_number judge + 1) ∷ []) good_live (fair_submit q of t))
      (λ u. tt))

  fair_struck : (q : Question) (strikes : List (Option Strike)) → AreFair shape events all m judge (due_struck events history judge q strikes)
  unfolding AlongLines
  fair_struck q strikes =
      cond_both {A = List Line} (all_struck strikes) (with_barriers events judge (live history judge) (line.Fault q.event q.block strikes ∷ [])) [] (AreFair shape events all m judge)
      (λ t. with_barriers-fair shape events all m judge (live history judge) (line.Fault q.event q.block strikes ∷ []) good_live (tt, tt))
      (λ t. tt)

  fair_verdict : (q : Question) (by : ℕ) (a : Answer) (v : Verdict) → IsQuestion (live history judge) q → a.block ≡ q.block
      → (v ≡ Good → a.block < blocks shape → slice_get (array judge) a.block ≡ Some a.bytes) → AreFair shape events all m judge (due_verdict shape events history judge q by a v)
  unfolding AlongLines
  fair_verdict q by a Stale of same block = tt
  fair_verdict q by a Good of same block = fair_good q a of same (block refl)
  fair_verdict q by a (Struck s) of same block = fair_struck q (strikes_with shape q history by s)

  fair_answer_to : (name : NodeName) (a : Answer) (o : Option Question) → find (λ q. is_answer shape judge q name a) (questions shape (live history judge)) ≡ o
      → (verdict_of shape judge a ≡ Good → a.block < blocks shape → slice_get (array judge) a.block ≡ Some a.bytes)
      → AreFair shape events all m judge (due_answer_to shape events history judge name a o)
  unfolding AlongLines
  fair_answer_to name a None found block = tt
  fair_answer_to name a (Some q) found block =
      let from = find_among (λ x. is_answer shape judge x name a) q (questions shape (live history judge)) found in
      let parts = and_four (a.session == judge.now.session) (a.read == q.number) (a.block == q.block) (is_fitting shape name a) from.1 in
      let of = question shape (live history judge) 0 good_live.ascends q from.0 in
      cond_both {A = List Line} (is_known shape q history) [] (due_verdict shape events history judge q name.replica a (verdict_of shape judge a)) (AreFair shape events all m judge)
      (λ t. tt)
      (λ t. fair_verdict q name.replica a (verdict_of shape judge a) of (eqb-true a.block q.block parts.2) block)

  pub answer-fair : (strings : List (List ℕ)) → NoTwoCollide strings → HasContents shape strings judge.now → (name : NodeName) (a : Answer)
      → ((x : List ℕ) → IsAmong x (path_strings (place_of shape a.block) a.bytes a.path) → IsAmong x strings)
      → AreFair shape events all m judge (due_answer shape events history judge name a)
  answer-fair strings none contents name a seen =
      fair_answer_to name a (find (λ q. is_answer shape judge q name a) (questions shape (live history judge))) refl
      (λ e inside. good_block shape judge sized strings none contents a inside seen e)
