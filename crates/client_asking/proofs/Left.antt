-- Requests that leave the waiting line, one after another.
use Rattle.std.proofs.Common.{◌≡◌, ◌∙◌, ℕ, ◌+◌, ◌<◌, ◌≤◌, Bool, true, false, if◌then◌else◌, List, [], ◌∷◌, ◌++◌, map, length, None, Some, refl, sym, ap, ap₂, subst, arith, append_assoc, append-nil, length-append}
use Rattle.std.specs.Prelude.{flat_map}
use Rattle.std.specs.List.{AllByRecursion}
use Rattle.std.proofs.lemmas.List.{map-append}
use Rattle.std.proofs.lemmas.List.Sums.{sum_by-cons}
use Rattle.std.proofs.lemmas.Grind.{flat_map-append}
use Rattle.salus_types.specs.Volume.{Shape, blocks}
use Rattle.list_lemmas.proofs.Each.{all_both}
use Rattle.salus_types.specs.declared.records.Out.{Out}
use Rattle.salus_model.specs.declared.trace.Request.{Request}
use Rattle.salus_model.specs.declared.trace.Request.TheVariants as request
use Rattle.salus_model.specs.Waiting.{Taken, Question, left_of, is_write, is_read, is_barrier, writes_among, reads_among, barriers_among, questions}
use Rattle.client_rules.specs.State.{Open, Serving}
use Rattle.client_rules.specs.Tables.{asks, fresh, line_of, read_question, read_questions, head_questions, waiter_of, answered_of}
use Rattle.client_pipeline.specs.Pipeline.{KeptPipeline, Stays}
use Rattle.posting.specs.Letters.{out_of_letter}
use Rattle.client_asking.specs.declared.step.Step.{Step}
use Rattle.client_asking.specs.Leaving.{Bears, HaveLeft, left_with}
use Rattle.client_asking.specs.Lining.{Rise, AreUpTo, AreWithin, HasRoom, IsAccepted, numbers_taken}
use Rattle.client_asking.proofs.Rising.{rise_without, rise_free, up_to_without}

-- ---- what leaves, and what stays in line

pub parted : (rs : List Taken) → rs ≡ left_of rs ++ line_of rs
unfolding left_of line_of
parted [] = refl
parted (r ∷ rs) = by_write (is_write r.request) (parted rs)
  where
    by_write : (t : Bool) → rs ≡ left_of rs ++ line_of rs → r ∷ rs ≡ (if t then [] else r ∷ left_of rs) ++ (if t then r ∷ rs else line_of rs)
    by_write true rest = refl
    by_write false rest = ap (λ l. r ∷ l) rest

first_left : (rs : List Taken) (t : Taken) (rest : List Taken) → left_of rs ≡ t ∷ left_of rest → line_of rs ≡ line_of rest → rs ≡ t ∷ rest
first_left rs t rest left line = parted rs ∙ ap₂ (λ l m. l ++ m) left line ∙ ap (λ l. t ∷ l) (sym (parted rest))

-- what leaves as the line's oldest request
pub oldest_left : (rs : List Taken) (t : Taken) (rest : List Taken) → left_of rs ≡ t ∷ left_of rest → line_of rest ≡ line_of rs → rs ≡ t ∷ rest
oldest_left rs t rest left line = first_left rs t rest left (sym line)

-- ---- one after another

questions_more : (gone more : List Taken) → read_questions (gone ++ more) ≡ read_questions gone ++ read_questions more
questions_more gone more = flat_map-append (λ (r : Taken). read_question r.event r.request) gone more

module _ (shape : Shape) (c : Serving) where
  letters : List Question → List Out
  letters qs = map out_of_letter (flat_map (λ q. asks shape c q) qs)

  letters_more : (gone more : List Taken) → map out_of_letter (flat_map (λ q. asks shape c q) (read_questions (gone ++ more)))
      ≡ map out_of_letter (flat_map (λ q. asks shape c q) (read_questions gone)) ++ map out_of_letter (flat_map (λ q. asks shape c q) (read_questions more))
  letters_more gone more =
      ap (λ qs. map out_of_letter (flat_map (λ q. asks shape c q) qs)) (questions_more gone more)
      ∙ ap (map out_of_letter) (flat_map-append (λ q. asks shape c q) (read_questions gone) (read_questions more))
      ∙ map-append out_of_letter (flat_map (λ q. asks shape c q) (read_questions gone)) (flat_map (λ q. asks shape c q) (read_questions more))

  left_twice : (gone more : List Taken) → left_with shape (left_with shape c gone) more ≡ left_with shape c (gone ++ more)
  left_twice gone more =
      ap₂ (λ reads barriers. record c { reads = reads; barriers = barriers })
      (append_assoc c.reads (map (fresh shape) (read_questions gone)) (map (fresh shape) (read_questions more)) ∙ ap (λ l. c.reads ++ l) (sym (map-append (fresh shape) (read_questions gone) (read_questions more)) ∙ ap (map (fresh shape)) (sym (questions_more gone more))))
      (append_assoc c.barriers (flat_map (λ r. waiter_of c r) gone) (flat_map (λ r. waiter_of c r) more) ∙ ap (λ l. c.barriers ++ l) (sym (flat_map-append (λ r. waiter_of c r) gone more)))

  joined_lists : {X : Type 0} (a b d g : List X) (before between : List X) → between ≡ before ++ a → d ≡ between ++ b → g ≡ a ++ b → d ≡ before ++ g
  joined_lists a b d g before between first second whole =
      second ∙ ap (λ l. l ++ b) first ∙ append_assoc before a b ∙ ap (λ l. before ++ l) (sym whole)

  -- those that leave first, and then those that leave after them
  pub left_both : (gone more : List Taken) (before between after : Step) (p q : KeptPipeline) (reads others : List Open)
      → HaveLeft shape gone c before p reads between → HaveLeft shape more (left_with shape c gone) between q others after
      → HaveLeft shape (gone ++ more) c before q others after
  left_both gone more before between after p q reads others first second = record {
    bears = subst (λ x. Bears q others x) (left_twice gone more) second.bears;
    outs = joined_lists _ _ after.outs.items _ before.outs.items between.outs.items first.outs second.outs (letters_more gone more);
    lines = joined_lists _ _ after.lines.items _ before.lines.items between.lines.items first.lines second.lines (flat_map-append (λ r. answered_of c r) gone more);
  }

  -- nothing leaves
  pub left_none : (before : Step) (p : KeptPipeline) (reads : List Open) → Bears p reads c → HaveLeft shape [] c before p reads before
  left_none before p reads bears = record {
    bears = subst (λ x. Bears p reads x) (ap₂ (λ rs bs. record c { reads = rs; barriers = bs }) (sym (append-nil c.reads)) (sym (append-nil c.barriers))) bears;
    outs = sym (append-nil before.outs.items);
    lines = sym (append-nil before.lines.items);
  }

-- ---- room

-- a fact of numbers that it keeps when one of them is gone
abbrev KeptWithout : (List ℕ → Type 0) → Type 0
KeptWithout P = (before : List ℕ) (n : ℕ) (behind : List ℕ) → P (before ++ n ∷ behind) → P (before ++ behind)

numbers_without : (P : List ℕ → Type 0) (shape : Shape) (reads : List Open) (v : ℕ) (r : Request) (rest : List Taken) → KeptWithout P
    → P (numbers_taken reads (record { event = v; request = r } ∷ rest)) → P (numbers_taken (reads ++ map (fresh shape) (read_question v r)) rest)
numbers_without P shape reads v (request.Read b) rest without are =
    subst P (sym (append_assoc (map (λ (o : Open). o.question.number) reads) (v ∷ []) (map (λ (t : Taken). t.event) rest)) ∙ ap (λ ns. ns ++ map (λ (t : Taken). t.event) rest)
    (sym (map-append (λ (o : Open). o.question.number) reads (fresh shape (record { event = v; number = v; block = b }) ∷ [])))) are
numbers_without P shape reads v (request.Write batch) rest without are =
    subst (λ rs. P (numbers_taken rs rest)) (sym (append-nil reads)) (without (map (λ (o : Open). o.question.number) reads) v (map (λ (t : Taken). t.event) rest) are)
numbers_without P shape reads v request.Barrier rest without are =
    subst (λ rs. P (numbers_taken rs rest)) (sym (append-nil reads)) (without (map (λ (o : Open). o.question.number) reads) v (map (λ (t : Taken). t.event) rest) are)
numbers_without P shape reads v (request.Restart e) rest without are =
    subst (λ rs. P (numbers_taken rs rest)) (sym (append-nil reads)) (without (map (λ (o : Open). o.question.number) reads) v (map (λ (t : Taken). t.event) rest) are)
numbers_without P shape reads v (request.Reassign e g) rest without are =
    subst (λ rs. P (numbers_taken rs rest)) (sym (append-nil reads)) (without (map (λ (o : Open). o.question.number) reads) v (map (λ (t : Taken). t.event) rest) are)

read_counts : (v : ℕ) (r : Request) → length (read_question v r) ≡ (if is_read r then 1 else 0)
read_counts v (request.Read b) = refl
read_counts v (request.Write batch) = refl
read_counts v request.Barrier = refl
read_counts v (request.Restart e) = refl
read_counts v (request.Reassign e g) = refl

pub reads_cons : (t : Taken) (rest : List Taken) → reads_among (t ∷ rest) ≡ (if is_read t.request then 1 else 0) + reads_among rest
reads_cons t rest = sum_by-cons (λ (r : Taken). if is_read r.request then 1 else 0) t rest

pub barriers_cons : (t : Taken) (rest : List Taken) → barriers_among (t ∷ rest) ≡ (if is_barrier t.request then 1 else 0) + barriers_among rest
barriers_cons t rest = sum_by-cons (λ (r : Taken). if is_barrier r.request then 1 else 0) t rest

pub writes_cons : (t : Taken) (rest : List Taken) → writes_among (t ∷ rest) ≡ (if is_write t.request then 1 else 0) + writes_among rest
writes_cons t rest = sum_by-cons (λ (r : Taken). if is_write r.request then 1 else 0) t rest

pub length_map : {X Y : Type 0} (f : X → Y) (xs : List X) → length (map f xs) ≡ length xs
length_map f [] = refl
length_map f (x ∷ xs) = let rest = length_map f xs in omega arith

abbrev Opens : Shape → List Open → Taken → List Open → Type 0
Opens shape reads t others = others ≡ reads ++ map (fresh shape) (read_question t.event t.request)

pub up_to_left : (shape : Shape) (reads others : List Open) (t : Taken) (rest : List Taken) (high : ℕ) → Opens shape reads t others
    → AreUpTo high (numbers_taken reads (t ∷ rest)) → AreUpTo high (numbers_taken others rest)
up_to_left shape reads others t rest high opens up_to =
    subst (λ rs. AreUpTo high (numbers_taken rs rest)) (sym opens)
    (numbers_without (λ ns. AreUpTo high ns) shape reads t.event t.request rest (λ before n behind are. up_to_without high before n behind are) up_to)

opened_within : (shape : Shape) (v : ℕ) (r : Request) → IsAccepted shape r → AreWithin shape (map (fresh shape) (read_question v r))
opened_within shape v (request.Read b) accepted = (accepted, tt)
opened_within shape v (request.Write batch) accepted = tt
opened_within shape v request.Barrier accepted = tt
opened_within shape v (request.Restart e) accepted = tt
opened_within shape v (request.Reassign e g) accepted = tt

pub room_left : (p q : KeptPipeline) (reads others : List Open) (t : Taken) (rest : List Taken) → HasRoom p reads (t ∷ rest) → Opens p.window.shape reads t others
    → length q.window.barriers ≤ length p.window.barriers + barriers_among (t ∷ []) → Stays p q → HasRoom q others rest
room_left p q reads others t rest room opens few stays = record {
  accepted = subst (λ s. AllByRecursion (λ (r : Taken). IsAccepted s r.request) rest) (sym stays.shape) room.accepted.1;
  within = subst (λ s. AreWithin s others) (sym stays.shape)
      (subst (λ rs. AreWithin p.window.shape rs) (sym opens)
      (all_both (λ (o : Open). o.question.block < blocks p.window.shape) reads (map (fresh p.window.shape) (read_question t.event t.request)) room.within
      (opened_within p.window.shape t.event t.request room.accepted.0)));
  rises = subst (λ rs. Rise 0 (numbers_taken rs rest)) (sym opens)
      (numbers_without (λ ns. Rise 0 ns) p.window.shape reads t.event t.request rest (λ before n behind are. rise_without 0 before n behind are) room.rises);
  few_reads =
      let more : length others ≡ length reads + (if is_read t.request then 1 else 0) =
      ap length opens ∙ length-append reads _ ∙ ap (λ n. length reads + n) (length_map (fresh p.window.shape) (read_question t.event t.request) ∙ read_counts t.event t.request) in
      let whole = reads_cons t rest in omega (arith, room.few_reads);
  few_barriers = λ some.
      let whole = barriers_cons t rest in let one = barriers_cons t [] in
      let before = room.few_barriers (omega arith) in omega arith;
  few_batches = λ some.
      let whole = writes_cons t rest in
      let before = room.few_batches (omega arith) in omega (arith, stays.last, stays.acked);
}

-- ---- what one of them needs

pub read_room : (p : KeptPipeline) (reads : List Open) (t : Taken) (rest : List Taken) → HasRoom p reads (t ∷ rest) → is_read t.request ≡ true → length reads < 64
read_room p reads t rest room reads_it =
    let whole : reads_among (t ∷ rest) ≡ 1 + reads_among rest = reads_cons t rest ∙ ap (λ b. (if b then 1 else 0) + reads_among rest) reads_it in omega (arith, room.few_reads)

pub barrier_room : (p : KeptPipeline) (reads : List Open) (t : Taken) (rest : List Taken) → HasRoom p reads (t ∷ rest) → is_barrier t.request ≡ true → length p.window.barriers < 64
barrier_room p reads t rest room reads_it =
    let whole : barriers_among (t ∷ rest) ≡ 1 + barriers_among rest = barriers_cons t rest ∙ ap (λ b. (if b then 1 else 0) + barriers_among rest) reads_it in
    let few = room.few_barriers (omega arith) in omega arith
