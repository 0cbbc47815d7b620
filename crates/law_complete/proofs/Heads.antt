-- The questions of the write at the head of the waiting line: each has a number of its own, which tells the write's event.
use Rattle.std.proofs.Common.{◌≡◌, ◌∙◌, inl, inr, ℕ, ◌+◌, ◌*◌, ◌^◌, ◌<◌, ◌≤◌, not, true, List, [], ◌∷◌, refl, sym, ap, subst, arith, le_refl}
use Rattle.std.specs.Prelude.{filter}
use Rattle.std.proofs.lemmas.Bool.{true≢false}
use Rattle.salus_types.specs.Volume.{Shape}
use Rattle.merkle_region.specs.Tree.{IsAmong}
use Rattle.volume_model.specs.Parts.{blocks_of}
use Rattle.salus_model.specs.declared.trace.Request.{Request}
use Rattle.salus_model.specs.declared.trace.Request.TheVariants as request
use Rattle.salus_model.specs.Judge.{Judge}
use Rattle.salus_model.specs.Hearing.{Past}
use Rattle.salus_model.specs.Waiting.{Taken, is_write, left_of, live, Question, questions_from, questions_of}
use Rattle.salus_model.specs.Answering.{is_known}
use Rattle.client_rules.specs.State as state
use Rattle.client_rules.specs.State.{Open}
use Rattle.client_rules.specs.Tables.{line_of, head_questions}
use Rattle.list_lemmas.proofs.Members.{among_map, among_filter}
use Rattle.law_lines.specs.Mirror.{Between, open_of, MirrorsServing}
use Rattle.law_lines.proofs.Ordered.{between-ends, between-back, left-line, head-writes}
use Rattle.law_heads.specs.Heads.{AreOfHead}

-- ---- numbers

-- the number is that of a question of event v, the j-th or a later one
pub record IsNumbered (v j : ℕ) (q : Question) : Type 0 where
  pub event : q.event ≡ v
  pub i : ℕ
  pub up : j ≤ i
  pub number : q.number ≡ 2 ^ 32 * i + v

from_numbered : (v j : ℕ) (bs : List ℕ) (q : Question) → IsAmong q (questions_from v j bs) → IsNumbered v j q
unfolding questions_from
from_numbered v j [] q among = absurd among
from_numbered v j (b ∷ bs) q (inl is) = record { event = ap (λ (x : Question). x.event) is; i = j; up = le_refl j; number = ap (λ (x : Question). x.number) is }
from_numbered v j (b ∷ bs) q (inr more) =
    let rest = from_numbered v (j + 1) bs q more in
    let up : j + 1 ≤ rest.i = rest.up in
    record { event = rest.event; i = rest.i; up = omega (arith, up); number = rest.number }

-- none of the later ones has that number
later_number : (v j : ℕ) (bs : List ℕ) (p q : Question) → p.number ≡ 2 ^ 32 * j + v → IsAmong q (questions_from v (j + 1) bs) → p.number ≡ q.number → ⊥
later_number v j bs p q is among same =
    let rest = from_numbered v (j + 1) bs q among in
    let up : j + 1 ≤ rest.i = rest.up in
    let number : q.number ≡ 2 ^ 32 * rest.i + v = rest.number in
    absurd (omega (arith, up, number, is, same))

from_one : (v j : ℕ) (bs : List ℕ) (p q : Question) → IsAmong p (questions_from v j bs) → IsAmong q (questions_from v j bs) → p.number ≡ q.number → p ≡ q
unfolding questions_from
from_one v j [] p q p_in q_in same = absurd p_in
from_one v j (b ∷ bs) p q (inl is) (inl so) same = is ∙ sym so
from_one v j (b ∷ bs) p q (inl is) (inr more) same = absurd (later_number v j bs p q (ap (λ (x : Question). x.number) is) more same)
from_one v j (b ∷ bs) p q (inr more) (inl so) same = absurd (later_number v j bs q p (ap (λ (x : Question). x.number) so) more (sym same))
from_one v j (b ∷ bs) p q (inr more) (inr other) same = from_one v (j + 1) bs p q more other same

-- Two questions of a request that have the same number are one.
pub one_question : (shape : Shape) (v : ℕ) (r : Request) (p q : Question) → IsAmong p (questions_of shape v r) → IsAmong q (questions_of shape v r) → p.number ≡ q.number → p ≡ q
one_question shape v (request.Write batch) p q p_in q_in same = from_one v 1 (blocks_of shape batch) p q p_in q_in same
one_question shape v (request.Read b) p q (inl is) (inl so) same = is ∙ sym so
one_question shape v (request.Read b) p q (inr none) q_in same = absurd none
one_question shape v (request.Read b) p q (inl is) (inr none) same = absurd none
one_question shape v request.Barrier p q p_in q_in same = absurd p_in
one_question shape v (request.Restart e) p q p_in q_in same = absurd p_in
one_question shape v (request.Reassign e g) p q p_in q_in same = absurd p_in

write_numbered : (shape : Shape) (v : ℕ) (r : Request) (q : Question) → is_write r ≡ true → IsAmong q (questions_of shape v r) → IsNumbered v 1 q
write_numbered shape v (request.Write batch) q writes among = from_numbered v 1 (blocks_of shape batch) q among
write_numbered shape v (request.Read b) q writes among = absurd (true≢false (sym writes))
write_numbered shape v request.Barrier q writes among = absurd among
write_numbered shape v (request.Restart e) q writes among = absurd among
write_numbered shape v (request.Reassign e g) q writes among = absurd among

-- ---- requests in order

above_low : (low n : ℕ) (rs : List Taken) (r : Taken) → Between low rs n → IsAmong r rs → low < r.event
unfolding Between
above_low low n [] r between among = absurd among
above_low low n (x ∷ rs) r between (inl same) = subst (λ (y : Taken). low < y.event) (sym same) between.0
above_low low n (x ∷ rs) r between (inr among) =
    let first : low < x.event = between.0 in
    let rest : x.event < r.event = above_low x.event n rs r between.1 among in
    omega (arith, first, rest)

-- an event is below the bound
pub below_high : (low n : ℕ) (rs : List Taken) (r : Taken) → Between low rs n → IsAmong r rs → r.event < n
unfolding Between
below_high low n [] r between among = absurd among
below_high low n (x ∷ rs) r between (inl same) = subst (λ (y : Taken). y.event < n) (sym same) (between-ends x.event n rs between.1)
below_high low n (x ∷ rs) r between (inr among) = below_high x.event n rs r between.1 among

-- requests of one event are one
pub one_event : (low n : ℕ) (rs : List Taken) (x y : Taken) → Between low rs n → IsAmong x rs → IsAmong y rs → x.event ≡ y.event → x ≡ y
unfolding Between
one_event low n [] x y between x_in y_in same = absurd x_in
one_event low n (r ∷ rs) x y between (inl is) (inl so) same = is ∙ sym so
one_event low n (r ∷ rs) x y between (inl is) (inr more) same =
    let event : x.event ≡ r.event = ap (λ (z : Taken). z.event) is in
    let up : r.event < y.event = above_low r.event n rs y between.1 more in
    absurd (omega (arith, event, up, same))
one_event low n (r ∷ rs) x y between (inr more) (inl so) same =
    let event : y.event ≡ r.event = ap (λ (z : Taken). z.event) so in
    let up : r.event < x.event = above_low r.event n rs x between.1 more in
    absurd (omega (arith, event, up, same))
one_event low n (r ∷ rs) x y between (inr more) (inr other) same = one_event r.event n rs x y between.1 more other same

-- ---- a client that serves

-- the question is one of the write at the head
pub record IsOfHead (shape : Shape) (line : List Taken) (q : Question) : Type 0 where
  pub w : Taken
  pub behind : List Taken
  pub is : line ≡ w ∷ behind
  pub among : IsAmong q (questions_of shape w.event w.request)
  pub numbered : IsNumbered w.event 1 q

module _ (shape : Shape) (history : List Past) (judge : Judge) (n : ℕ) (c : state.Serving) (m : MirrorsServing shape history judge n c) where
  abbrev requests : List Taken
  requests = live history judge

  -- its line is in order
  pub line_between : Between 0 c.line n
  line_between =
      subst (λ (l : List Taken). Between 0 l n) (sym m.table.line)
      (between-back 0 n (left_of requests) (line_of requests) (subst (λ (l : List Taken). Between 0 l n) (sym (left-line requests)) m.order.rises))

  head_by : (line : List Taken) → line_of requests ≡ line → (q : Question) → IsAmong q (head_questions shape line) → IsOfHead shape line q
  head_by [] is q among = absurd among
  head_by (w ∷ behind) is q among = record { w = w; behind = behind; is = refl; among = among; numbered = write_numbered shape w.event w.request q (head-writes requests w behind is) among }

  -- what is asked of the head is its question
  pub of_head : (o : Open) → IsAmong o c.asked → IsOfHead shape c.line o.question
  of_head o o_in =
      let qs : List Question = filter (λ q. not (is_known shape q history)) (head_questions shape (line_of requests)) in
      let found = among_map (open_of shape history) o qs (subst (λ (l : List Open). IsAmong o l) m.table.asked o_in) in
      let inside : IsAmong found.0 (head_questions shape (line_of requests)) = (among_filter (λ q. not (is_known shape q history)) found.0 (head_questions shape (line_of requests)) found.1).0 in
      subst (λ (l : List Taken). IsOfHead shape l o.question) (sym m.table.line)
      (subst (λ (q : Question). IsOfHead shape (line_of requests) q) (ap (λ (x : Open). x.question) (sym found.2)) (head_by (line_of requests) refl found.0 inside))

  pub are_of_head : AreOfHead c
  are_of_head = record {
    high = λ o among. (let numbered = (of_head o among).numbered in let up : 1 ≤ numbered.i = numbered.up in let number : o.question.number ≡ 2 ^ 32 * numbered.i + _ = numbered.number in omega (arith, up, number));
    waits = λ empty o among. none_in (of_head o among) empty;
  } where
    none_in : {q : Question} {line : List Taken} → IsOfHead shape line q → line ≡ [] → ⊥
    none_in head empty = absurd (cc)
