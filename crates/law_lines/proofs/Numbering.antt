-- The numbers of reads are below 2^32, and those of the head's questions are not. What is asked, and what isn't.
use Rattle.std.proofs.Common.{◌≡◌, ℕ, ◌+◌, ◌*◌, ◌^◌, ◌<◌, ◌≤◌, Bool, true, false, ◌&&◌, ◌||◌, ◌==◌, ◌∙◌, List, [], ◌∷◌, ◌++◌, refl, ap, ap₂, sym, subst, arith, eq-eqb, append_assoc, append-nil}
use Rattle.std.specs.List.{list_any, list_all}
use Rattle.std.proofs.lemmas.List.Folds.{list_any-append}
use Rattle.salus_types.specs.Volume.{Shape}
use Rattle.salus_message.specs.declared.replies.Answer.{Answer}
use Rattle.salus_model.specs.declared.trace.Request.{Request}
use Rattle.salus_model.specs.declared.trace.Request.TheVariants as request
use Rattle.volume_model.specs.Parts.{blocks_of}
use Rattle.salus_model.specs.Judge.{Judge}
use Rattle.salus_model.specs.Hearing.{Past, phase_of, is_serving, Serving}
use Rattle.salus_model.specs.Waiting.{Taken, is_write, left_of, live, Question, same_question, questions_from, questions_of, questions, is_asked}
use Rattle.client_rules.specs.Tables.{read_question, read_questions, line_of, head_questions}
use Rattle.list_lemmas.proofs.Tests.{unequal, unequal_up, or_true}
use Rattle.list_lemmas.proofs.Lists.{list_all_same}
use Rattle.law_lines.specs.Mirror.{Between, AfterHead}
use Rattle.law_lines.proofs.Ordered.{between-ends, left-line, questions-split, head-writes}
use Rattle.law_lines.proofs.Hitting.{hits}
use Rattle.law_lines.proofs.Finding.{between-front}

-- ---- numbers

no-hit : (a : Answer) (q : Question) → (a.read == q.number) ≡ false → hits a q ≡ false
no-hit a q off = ap (λ t. t && (a.block == q.block)) off

high-number : (x j v : ℕ) → x < 2 ^ 32 → 1 ≤ j → x < 2 ^ 32 * j + v
high-number x j v low up = omega (arith, low, up)

from-high : (a : Answer) (v j : ℕ) (bs : List ℕ) → a.read < 2 ^ 32 → 1 ≤ j → list_any (hits a) (questions_from v j bs) ≡ false
unfolding questions_from
from-high a v j [] low up = refl
from-high a v j (b ∷ bs) low up =
    ap₂ (λ x y. x || y)
    (no-hit a (record { event = v; number = 2 ^ 32 * j + v; block = b }) (unequal_up a.read (2 ^ 32 * j + v) (high-number a.read j v low up)))
    (from-high a v (j + 1) bs low (omega (arith, up)))

write-high : (shape : Shape) (a : Answer) (v : ℕ) (r : Request) → a.read < 2 ^ 32 → is_write r ≡ true → list_any (hits a) (questions_of shape v r) ≡ false
write-high shape a v (request.Write batch) low is = from-high a v 1 (blocks_of shape batch) low (omega arith)
write-high shape a v (request.Read b) low is = absurd (cc)
write-high shape a v request.Barrier low is = refl
write-high shape a v (request.Restart e) low is = refl
write-high shape a v (request.Reassign e g) low is = refl

-- no question of the head has a number of a read
pub head-high : (shape : Shape) (a : Answer) (requests line : List Taken) → line_of requests ≡ line → a.read < 2 ^ 32 → list_any (hits a) (head_questions shape line) ≡ false
head-high shape a requests [] is low = refl
head-high shape a requests (w ∷ behind) is low = write-high shape a w.event w.request low (head-writes requests w behind is)

read-low : (a : Answer) (v : ℕ) (r : Request) → v < 2 ^ 32 → 2 ^ 32 ≤ a.read → list_any (hits a) (read_question v r) ≡ false
read-low a v (request.Write batch) low up = refl
read-low a v (request.Read b) low up =
    ap (λ t. t || false) (no-hit a (record { event = v; number = v; block = b }) (unequal v a.read (omega (arith, low, up))))
read-low a v request.Barrier low up = refl
read-low a v (request.Restart e) low up = refl
read-low a v (request.Reassign e g) low up = refl

-- and no read one of the head's
pub reads-low : (a : Answer) (low n : ℕ) (rs : List Taken) → Between low rs n → n ≤ 2 ^ 32 → 2 ^ 32 ≤ a.read → list_any (hits a) (read_questions rs) ≡ false
unfolding Between
reads-low a low n [] b small up = refl
reads-low a low n (r ∷ rs) b small up =
    let less = between-ends r.event n rs b.1 in
    list_any-append (hits a) (read_question r.event r.request) (read_questions rs)
    ∙ ap₂ (λ x y. x || y) (read-low a r.event r.request (omega (arith, less, small)) up) (reads-low a r.event n rs b.1 small up)

-- ---- what is asked

itself : (q : Question) → same_question q q ≡ true
itself q = ap₂ (λ x y. x && y) (ap₂ (λ x y. x && y) (eq-eqb q.event q.event refl) (eq-eqb q.number q.number refl)) (eq-eqb q.block q.block refl)

all-among : (before qs : List Question) → list_all (λ q. list_any (same_question q) (before ++ qs)) qs ≡ true
all-among before [] = refl
all-among before (q ∷ qs) =
    let here : list_any (same_question q) (before ++ q ∷ qs) ≡ true =
    list_any-append (same_question q) before (q ∷ qs) ∙ ap (λ t. list_any (same_question q) before || (t || list_any (same_question q) qs)) (itself q) ∙ or_true _ in
    let same : (before ++ q ∷ []) ++ qs ≡ before ++ q ∷ qs = append_assoc before (q ∷ []) qs in
    ap₂ (λ x y. x && y) here (ap (λ all. list_all (λ x. list_any (same_question x) all) qs) (sym same) ∙ all-among (before ++ q ∷ []) qs)

not-same : (q o : Question) → o.event < q.event → same_question q o ≡ false
not-same q o less = ap (λ t. (t && (q.number == o.number)) && (q.block == o.block)) (unequal o.event q.event less)

read-before : (q : Question) (v : ℕ) (r : Request) → v < q.event → list_any (same_question q) (read_question v r) ≡ false
read-before q v (request.Write batch) less = refl
read-before q v (request.Read b) less = ap (λ t. t || false) (not-same q (record { event = v; number = v; block = b }) less)
read-before q v request.Barrier less = refl
read-before q v (request.Restart e) less = refl
read-before q v (request.Reassign e g) less = refl

reads-before : (q : Question) (low n : ℕ) (rs : List Taken) → Between low rs n → n ≤ q.event → list_any (same_question q) (read_questions rs) ≡ false
unfolding Between
reads-before q low n [] b up = refl
reads-before q low n (r ∷ rs) b up =
    let less = between-ends r.event n rs b.1 in
    list_any-append (same_question q) (read_question r.event r.request) (read_questions rs)
    ∙ ap₂ (λ x y. x || y) (read-before q r.event r.request (omega (arith, less, up))) (reads-before q r.event n rs b.1 up)

from-before : (q : Question) (v j : ℕ) (bs : List ℕ) → v < q.event → list_any (same_question q) (questions_from v j bs) ≡ false
unfolding questions_from
from-before q v j [] less = refl
from-before q v j (b ∷ bs) less = ap₂ (λ x y. x || y) (not-same q (record { event = v; number = 2 ^ 32 * j + v; block = b }) less) (from-before q v (j + 1) bs less)

one-before : (shape : Shape) (q : Question) (v : ℕ) (r : Request) → v < q.event → list_any (same_question q) (questions_of shape v r) ≡ false
one-before shape q v (request.Write batch) less = from-before q v 1 (blocks_of shape batch) less
one-before shape q v (request.Read b) less = ap (λ t. t || false) (not-same q (record { event = v; number = v; block = b }) less)
one-before shape q v request.Barrier less = refl
one-before shape q v (request.Restart e) less = refl
one-before shape q v (request.Reassign e g) less = refl

after-asked : (shape : Shape) (q : Question) (n : ℕ) (left line : List Taken) → Between 0 (left ++ line) n → AfterHead line n q.event
    → list_any (same_question q) (read_questions left ++ head_questions shape line) ≡ false
after-asked shape q n left [] b after =
    list_any-append (same_question q) (read_questions left) []
    ∙ ap (λ t. t || false) (reads-before q 0 n left (subst (λ rs. Between 0 rs n) (append-nil left) b) after)
after-asked shape q n left (w ∷ behind) b after =
    list_any-append (same_question q) (read_questions left) (questions_of shape w.event w.request)
    ∙ ap₂ (λ x y. x || y) (reads-before q 0 w.event left (between-front 0 n left w behind b) (omega (arith, after))) (one-before shape q w.event w.request after)

module _ (shape : Shape) (history : List Past) (judge : Judge) (serves : phase_of history ≡ Serving) where
  abbrev asked_so : Question → Bool
  asked_so q = list_any (same_question q) (questions shape (live history judge))

  asked-is : (q : Question) → is_asked shape history judge q ≡ asked_so q
  asked-is q = ap (λ p. is_serving p && asked_so q) serves

  pub all-asked : list_all (λ q. is_asked shape history judge q) (read_questions (left_of (live history judge)) ++ head_questions shape (line_of (live history judge))) ≡ true
  all-asked =
      list_all_same (λ q. is_asked shape history judge q) asked_so asked-is _
      ∙ ap (λ qs. list_all asked_so qs) (sym (questions-split shape (live history judge)))
      ∙ all-among [] (questions shape (live history judge))

  -- what comes after the head isn't asked
  pub after-unasked : (n : ℕ) (q : Question) → Between 0 (live history judge) n → AfterHead (line_of (live history judge)) n q.event → is_asked shape history judge q ≡ false
  after-unasked n q b after =
      asked-is q ∙ ap (list_any (same_question q)) (questions-split shape (live history judge))
      ∙ after-asked shape q n (left_of (live history judge)) (line_of (live history judge)) (subst (λ rs. Between 0 rs n) (sym (left-line (live history judge))) b) after
