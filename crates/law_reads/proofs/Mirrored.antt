-- The open reads of a client that mirrors its history: their numbers differ, and a read that is asked is among them.
use Rattle.std.proofs.Common.{◌≡◌, ◌∙◌, inl, inr, ⊎_elim, ℕ, ◌+◌, ◌*◌, ◌^◌, ◌<◌, ◌≤◌, ◌==◌, ◌&&◌, true, if◌then◌else◌, List, [], ◌∷◌, ◌++◌, sym, ap, subst, arith, eqb-true}
use Rattle.salus_types.specs.Volume.{Shape}
use Rattle.merkle_region.specs.Tree.{IsAmong}
use Rattle.merkle_region.proofs.Membership.{among_left, among_right, among_either}
use Rattle.salus_model.specs.declared.trace.Request.{Request}
use Rattle.salus_model.specs.declared.trace.Request.TheVariants as request
use Rattle.volume_model.specs.Parts.{blocks_of}
use Rattle.salus_model.specs.Judge.{Judge}
use Rattle.salus_model.specs.Hearing.{Past, is_serving, phase_of}
use Rattle.salus_model.specs.Waiting.{Taken, is_write, left_of, live, Question, same_question, questions_from, questions_of, questions, is_asked}
use Rattle.client_rules.specs.State as state
use Rattle.client_rules.specs.State.{Open}
use Rattle.client_rules.specs.Tables.{read_question, read_questions}
use Rattle.list_lemmas.proofs.Members.{any_among, among_map, among_map-in}
use Rattle.list_lemmas.proofs.Tests.{by_test, and_left, and_right}
use Rattle.law_lines.specs.Mirror.{Between, open_of, MirrorsServing}
use Rattle.law_lines.proofs.Ordered.{between-ends}
use Rattle.law_reads.specs.Reading.{HaveOwnNumbers}
use Rattle.law_reads.specs.Serving.{IsOpenRead}

-- ---- numbers of reads

one_number : (v : ℕ) (r : Request) (q : Question) → IsAmong q (read_question v r) → q.number ≡ v
one_number v (request.Read b) q (inl is) = ap (λ (x : Question). x.number) is
one_number v (request.Read b) q (inr none) = absurd none
one_number v (request.Write batch) q among = absurd among
one_number v request.Barrier q among = absurd among
one_number v (request.Restart e) q among = absurd among
one_number v (request.Reassign e g) q among = absurd among

one_question : (v : ℕ) (r : Request) (p q : Question) → IsAmong p (read_question v r) → IsAmong q (read_question v r) → p ≡ q
one_question v (request.Read b) p q (inl is) (inl so) = is ∙ sym so
one_question v (request.Read b) p q (inr none) other = absurd none
one_question v (request.Read b) p q (inl is) (inr none) = absurd none
one_question v (request.Write batch) p q among other = absurd among
one_question v request.Barrier p q among other = absurd among
one_question v (request.Restart e) p q among other = absurd among
one_question v (request.Reassign e g) p q among other = absurd among

-- they lie between the bounds
pub number_between : (low n : ℕ) (rs : List Taken) (q : Question) → Between low rs n → IsAmong q (read_questions rs) → (low < q.number) × (q.number < n)
unfolding Between
number_between low n [] q b among = absurd among
number_between low n (r ∷ rs) q b among =
    let first : low < r.event = b.0 in
    ⊎_elim (λ (here : IsAmong q (read_question r.event r.request)).
    let is : q.number ≡ r.event = one_number r.event r.request q here in
    let last : r.event < n = between-ends r.event n rs b.1 in
    (omega (arith, first, is), omega (arith, last, is)))
    (λ (behind : IsAmong q (read_questions rs)).
    let more = number_between r.event n rs q b.1 behind in
    let low_more : r.event < q.number = more.0 in
    (omega (arith, first, low_more), more.1))
    (among_either q (read_question r.event r.request) (read_questions rs) among)

question_of_number : (low n : ℕ) (rs : List Taken) (p q : Question) → Between low rs n → IsAmong p (read_questions rs) → IsAmong q (read_questions rs) → p.number ≡ q.number → p ≡ q
unfolding Between
question_of_number low n [] p q b among other same = absurd among
question_of_number low n (r ∷ rs) p q b among other same =
    let split_p = among_either p (read_question r.event r.request) (read_questions rs) among in
    let split_q = among_either q (read_question r.event r.request) (read_questions rs) other in
    ⊎_elim (λ (p_here : IsAmong p (read_question r.event r.request)).
    ⊎_elim (λ (q_here : IsAmong q (read_question r.event r.request)). one_question r.event r.request p q p_here q_here)
    (λ (q_behind : IsAmong q (read_questions rs)).
    let is : p.number ≡ r.event = one_number r.event r.request p p_here in
    let up : r.event < q.number = (number_between r.event n rs q b.1 q_behind).0 in
    absurd (omega (arith, is, up, same))) split_q)
    (λ (p_behind : IsAmong p (read_questions rs)).
    ⊎_elim (λ (q_here : IsAmong q (read_question r.event r.request)).
    let is : q.number ≡ r.event = one_number r.event r.request q q_here in
    let up : r.event < p.number = (number_between r.event n rs p b.1 p_behind).0 in
    absurd (omega (arith, is, up, same)))
    (λ (q_behind : IsAmong q (read_questions rs)). question_of_number r.event n rs p q b.1 p_behind q_behind same) split_q) split_p

-- those that have left are among all
left_among : (rs : List Taken) (q : Question) → IsAmong q (read_questions (left_of rs)) → IsAmong q (read_questions rs)
unfolding left_of
left_among [] q among = among
left_among (r ∷ rs) q among =
    by_test (λ t. IsAmong q (read_questions (if t then [] else r ∷ left_of rs)) → IsAmong q (read_question r.event r.request ++ read_questions rs)) (is_write r.request)
    (λ _ none. absurd none)
    (λ _ some. ⊎_elim (λ (here : IsAmong q (read_question r.event r.request)). among_left q (read_question r.event r.request) (read_questions rs) here)
    (λ (behind : IsAmong q (read_questions (left_of rs))). among_right q (read_question r.event r.request) (read_questions rs) (left_among rs q behind))
    (among_either q (read_question r.event r.request) (read_questions (left_of rs)) some)) among

-- ---- a question with a small number is that of a read that has left

high_number : (v j : ℕ) (bs : List ℕ) (q : Question) → 1 ≤ j → IsAmong q (questions_from v j bs) → 2 ^ 32 ≤ q.number
unfolding questions_from
high_number v j [] q up among = absurd among
high_number v j (b ∷ bs) q up (inl is) = let number : q.number ≡ 2 ^ 32 * j + v = ap (λ (x : Question). x.number) is in omega (arith, number, up)
high_number v j (b ∷ bs) q up (inr more) = high_number v (j + 1) bs q (omega (arith, up)) more

first_question : (shape : Shape) (v : ℕ) (r : Request) (rs left : List Taken) (q : Question) → q.number < 2 ^ 32
    → IsAmong q (if is_write r then questions_of shape v r else questions_of shape v r ++ questions shape rs) → (IsAmong q (questions shape rs) → IsAmong q (read_questions left))
    → IsAmong q (read_questions (if is_write r then [] else record { event = v; request = r } ∷ left))
first_question shape v (request.Write batch) rs left q small among rest = let high : 2 ^ 32 ≤ q.number = high_number v 1 (blocks_of shape batch) q (omega arith) among in absurd (omega (arith, high, small))
first_question shape v (request.Read b) rs left q small (inl is) rest = inl is
first_question shape v (request.Read b) rs left q small (inr more) rest = inr (rest more)
first_question shape v request.Barrier rs left q small among rest = rest among
first_question shape v (request.Restart e) rs left q small among rest = rest among
first_question shape v (request.Reassign e g) rs left q small among rest = rest among

small_left : (shape : Shape) (rs : List Taken) (q : Question) → q.number < 2 ^ 32 → IsAmong q (questions shape rs) → IsAmong q (read_questions (left_of rs))
unfolding questions left_of
small_left shape [] q small among = absurd among
small_left shape (r ∷ rs) q small among = first_question shape r.event r.request rs (left_of rs) q small among (λ more. small_left shape rs q small more)

-- each question is of a request's event
from_event : (v j : ℕ) (bs : List ℕ) (q : Question) → IsAmong q (questions_from v j bs) → q.event ≡ v
unfolding questions_from
from_event v j [] q among = absurd among
from_event v j (b ∷ bs) q (inl is) = ap (λ (x : Question). x.event) is
from_event v j (b ∷ bs) q (inr more) = from_event v (j + 1) bs q more

of_event : (shape : Shape) (v : ℕ) (r : Request) (q : Question) → IsAmong q (questions_of shape v r) → q.event ≡ v
of_event shape v (request.Write batch) q among = from_event v 1 (blocks_of shape batch) q among
of_event shape v (request.Read b) q (inl is) = ap (λ (x : Question). x.event) is
of_event shape v (request.Read b) q (inr none) = absurd none
of_event shape v request.Barrier q among = absurd among
of_event shape v (request.Restart e) q among = absurd among
of_event shape v (request.Reassign e g) q among = absurd among

event_below : (shape : Shape) (low n : ℕ) (rs : List Taken) (q : Question) → Between low rs n → IsAmong q (questions shape rs) → q.event < n
unfolding Between questions
event_below shape low n [] q b among = absurd among
event_below shape low n (r ∷ rs) q b among =
    let last : r.event < n = between-ends r.event n rs b.1 in
    by_test (λ t. IsAmong q (if t then questions_of shape r.event r.request else questions_of shape r.event r.request ++ questions shape rs) → q.event < n) (is_write r.request)
    (λ _ here. let is : q.event ≡ r.event = of_event shape r.event r.request q here in omega (arith, is, last))
    (λ _ some. ⊎_elim (λ (here : IsAmong q (questions_of shape r.event r.request)). let is : q.event ≡ r.event = of_event shape r.event r.request q here in omega (arith, is, last))
    (λ (behind : IsAmong q (questions shape rs)). event_below shape r.event n rs q b.1 behind)
    (among_either q (questions_of shape r.event r.request) (questions shape rs) some)) among

-- ---- a client that serves

module _ (shape : Shape) (history : List Past) (judge : Judge) (n : ℕ) (c : state.Serving) (m : MirrorsServing shape history judge n c) where
  abbrev rq : List Question
  rq = read_questions (left_of (live history judge))

  pub own_numbers : HaveOwnNumbers c.reads
  own_numbers o p o_in p_in same =
      let a = among_map (open_of shape history) o rq (subst (λ (l : List Open). IsAmong o l) m.table.reads o_in) in
      let d = among_map (open_of shape history) p rq (subst (λ (l : List Open). IsAmong p l) m.table.reads p_in) in
      let numbers : d.0.number ≡ a.0.number = ap (λ (x : Open). x.question.number) (sym d.2) ∙ (same ∙ ap (λ (x : Open). x.question.number) a.2) in
      let one : d.0 ≡ a.0 =
      question_of_number 0 n (live history judge) d.0 a.0 m.order.rises (left_among (live history judge) d.0 d.1) (left_among (live history judge) a.0 a.1) numbers in
      d.2 ∙ (ap (open_of shape history) one ∙ sym a.2)

  pub number_below : (o : Open) → IsAmong o c.reads → o.question.number < n
  number_below o o_in =
      let a = among_map (open_of shape history) o rq (subst (λ (l : List Open). IsAmong o l) m.table.reads o_in) in
      let low : a.0.number < n = (number_between 0 n (live history judge) a.0 m.order.rises (left_among (live history judge) a.0 a.1)).1 in
      subst (λ (k : ℕ). k < n) (sym (ap (λ (x : Open). x.question.number) a.2)) low

  -- a read that is asked is open
  pub asked_open : (v b : ℕ) → n ≤ 2 ^ 32 → is_asked shape history judge (record { event = v; number = v; block = b }) ≡ true → IsOpenRead v b c
  asked_open v b low asked =
      let q : Question = record { event = v; number = v; block = b } in
      let found = any_among (same_question q) (questions shape (live history judge)) (and_right (is_serving (phase_of history)) _ asked) in
      let x : Question = found.0 in
      let front : ((v == x.event) && (v == x.number)) ≡ true = and_left ((v == x.event) && (v == x.number)) (b == x.block) found.2 in
      let event : v ≡ x.event = eqb-true v x.event (and_left (v == x.event) (v == x.number) front) in
      let below : x.event < n = event_below shape 0 n (live history judge) x m.order.rises found.1 in
      let number : v ≡ x.number = eqb-true v x.number (and_right (v == x.event) (v == x.number) front) in
      record {
        read = open_of shape history x;
        among = subst (λ (l : List Open). IsAmong (open_of shape history x) l) (sym m.table.reads)
            (among_map-in (open_of shape history) rq x (small_left shape (live history judge) x (omega (arith, number, event, below, low)) found.1));
        of = record {
          event = sym event;
          number = sym number;
          block = sym (eqb-true b x.block (and_right ((v == x.event) && (v == x.number)) (b == x.block) found.2));
        };
      }
