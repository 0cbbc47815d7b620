-- The client's tables count as what is live does, so it refuses the same requests.
use Rattle.std.proofs.Common.{◌≡◌, ℕ, ◌+◌, Bool, true, false, cond, ◌&&◌, ◌∙◌, List, [], ◌∷◌, ◌++◌, length, refl, ap, ap₂, sym, arith, length-append}
use Rattle.std.specs.Prelude.{flat_map, count_by, fold}
use Rattle.std.specs.List.{list_all}
use Rattle.std.proofs.lemmas.List.{length-map}
use Rattle.std.proofs.lemmas.Bool.{or_parts, and_parts}
use Rattle.salus_types.specs.Volume.{Shape}
use Rattle.salus_model.specs.declared.trace.Request.{Request}
use Rattle.salus_model.specs.declared.trace.Request.TheVariants as request
use Rattle.salus_model.specs.Judge.{Judge}
use Rattle.salus_model.specs.Hearing.{Past}
use Rattle.salus_model.specs.Waiting.{Taken, is_write, is_read, is_barrier, left_of, writes_among, reads_among, barriers_among, refusal_serving}
use Rattle.client_rules.specs.State as state
use Rattle.client_rules.specs.Tables.{line_of, read_question, read_questions}
use Rattle.client_rules.specs.Serving.{refusal_here}
use Rattle.law_lines.specs.Mirror.{open_of, waiter_at, is_inside, MirrorsCounts, MirrorsLine}
use Rattle.law_lines.proofs.Ordered.{AreFree, free-left, left-line}

fold-from : (f : Taken → ℕ) (a b : ℕ) (xs : List Taken) → fold (λ x r. x + f r) (a + b) xs ≡ a + fold (λ x r. x + f r) b xs
fold-from f a b [] = refl
fold-from f a b (x ∷ xs) = let same : a + b + f x ≡ a + (b + f x) = omega arith in ap (λ y. fold (λ x r. x + f r) y xs) same ∙ fold-from f a (b + f x) xs

-- one more
pub count-cons : (p : Taken → Bool) (x : Taken) (xs : List Taken) → count_by p (x ∷ xs) ≡ cond (p x) 1 0 + count_by p xs
count-cons p x xs =
    let swap : 0 + cond (p x) 1 0 ≡ cond (p x) 1 0 + 0 = omega arith in
    ap (λ y. fold (λ a r. a + cond (p r) 1 0) y xs) swap ∙ fold-from (λ r. cond (p r) 1 0) (cond (p x) 1 0) 0 xs

pub count-append : (p : Taken → Bool) (xs ys : List Taken) → count_by p (xs ++ ys) ≡ count_by p xs + count_by p ys
count-append p [] ys = omega arith
count-append p (x ∷ xs) ys =
    let rest = count-append p xs ys in
    let one = count-cons p x (xs ++ ys) in
    let two = count-cons p x xs in
    omega (arith, rest, one, two)

free-none : (rs : List Taken) → AreFree rs → writes_among rs ≡ 0
free-none [] free = refl
free-none (r ∷ rs) free = let s = or_parts (is_write r.request) _ free in count-cons (λ x. is_write x.request) r rs ∙ ap₂ (λ t n. cond t 1 0 + n) s.0 (free-none rs s.1)

count-read : (v : ℕ) (what : Request) → length (read_question v what) ≡ cond (is_read what) 1 0
count-read v (request.Write batch) = refl
count-read v (request.Read b) = refl
count-read v request.Barrier = refl
count-read v (request.Restart e) = refl
count-read v (request.Reassign e g) = refl

pub count-reads : (rs : List Taken) → length (read_questions rs) ≡ reads_among rs
count-reads [] = refl
count-reads (r ∷ rs) = length-append (read_question r.event r.request) (read_questions rs) ∙ ap₂ (λ x y. x + y) (count-read r.event r.request) (count-reads rs)
    ∙ sym (count-cons (λ x. is_read x.request) r rs)

count-waiter : (judge : Judge) (r : Taken) (t : Bool) → is_barrier r.request ≡ t → length (waiter_at judge r) ≡ cond t 1 0
count-waiter judge r true is = rw is refl
count-waiter judge r false is = rw is refl

pub count-barriers : (judge : Judge) (rs : List Taken) → length (flat_map (waiter_at judge) rs) ≡ barriers_among rs
count-barriers judge [] = refl
count-barriers judge (r ∷ rs) =
    length-append (waiter_at judge r) (flat_map (waiter_at judge) rs)
    ∙ ap₂ (λ x y. x + y) (count-waiter judge r (is_barrier r.request) refl) (count-barriers judge rs)
    ∙ sym (count-cons (λ x. is_barrier x.request) r rs)

one_kind : (shape : Shape) (what : Request) → is_write what ≡ false → is_inside shape what ≡ true → cond (is_read what) 1 0 + cond (is_barrier what) 1 0 ≡ 1
one_kind shape (request.Write batch) free inside = absurd (cc)
one_kind shape (request.Read b) free inside = refl
one_kind shape request.Barrier free inside = refl
one_kind shape (request.Restart e) free inside = absurd (cc)
one_kind shape (request.Reassign e g) free inside = absurd (cc)

-- what has left are reads and barriers
pub count-left : (shape : Shape) (rs : List Taken) → AreFree rs → list_all (λ r. is_inside shape r.request) rs ≡ true → reads_among rs + barriers_among rs ≡ length rs
count-left shape [] free inside = refl
count-left shape (r ∷ rs) free inside =
    let s = or_parts (is_write r.request) _ free in
    let t = and_parts (is_inside shape r.request) _ inside in
    let one = one_kind shape r.request s.0 t.0 in
    let rest = count-left shape rs s.1 t.1 in
    let reads = count-cons (λ x. is_read x.request) r rs in
    let waiters = count-cons (λ x. is_barrier x.request) r rs in
    omega (arith, one, rest, reads, waiters)

pub inside-front : (shape : Shape) (xs ys : List Taken) → list_all (λ r. is_inside shape r.request) (xs ++ ys) ≡ true → list_all (λ r. is_inside shape r.request) xs ≡ true
inside-front shape [] ys inside = refl
inside-front shape (x ∷ xs) ys inside = let t = and_parts (is_inside shape x.request) _ inside in ap₂ (λ a b. a && b) t.0 (inside-front shape xs ys t.1)

module _ (shape : Shape) (history : List Past) (judge : Judge) (requests : List Taken) (c : state.Serving)
    (counts : MirrorsCounts shape judge c) (table : MirrorsLine shape history judge requests c) (inside : list_all (λ r. is_inside shape r.request) requests ≡ true) where
  split : (p : Taken → Bool) → count_by p requests ≡ count_by p (left_of requests) + count_by p (line_of requests)
  split p = ap (count_by p) (sym (left-line requests)) ∙ count-append p (left_of requests) (line_of requests)

  pub same-writes : writes_among c.line ≡ writes_among requests
  same-writes =
      let all = split (λ r. is_write r.request) in
      let none = free-none (left_of requests) (free-left requests) in
      ap writes_among table.line ∙ omega (arith, all, none)

  open-count : length c.reads ≡ reads_among (left_of requests)
  open-count = ap length table.reads ∙ length-map (read_questions (left_of requests)) (open_of shape history) ∙ count-reads (left_of requests)

  pub same-reads : length c.reads + reads_among c.line ≡ reads_among requests
  same-reads = let all = split (λ r. is_read r.request) in ap₂ (λ x y. x + y) open-count (ap reads_among table.line) ∙ sym all

  waiter-count : length c.barriers ≡ barriers_among (left_of requests)
  waiter-count = ap length table.barriers ∙ count-barriers judge (left_of requests)

  pub same-barriers : length c.barriers + barriers_among c.line ≡ barriers_among requests
  same-barriers = let all = split (λ r. is_barrier r.request) in ap₂ (λ x y. x + y) waiter-count (ap barriers_among table.line) ∙ sym all

  pub same-all : length c.reads + length c.barriers + length c.line ≡ length requests
  same-all =
      let kinds = count-left shape (left_of requests) (free-left requests)
      (inside-front shape (left_of requests) (line_of requests) (ap (list_all (λ r. is_inside shape r.request)) (left-line requests) ∙ inside)) in
      let reads = open-count in
      let waiters = waiter-count in
      let line = ap length table.line in
      let all = ap length (sym (left-line requests)) ∙ length-append (left_of requests) (line_of requests) in
      omega (arith, kinds, reads, waiters, line, all)

  -- the first refusal that applies is the same
  pub same-refusal : (r : Request) → refusal_here shape c r ≡ refusal_serving shape judge requests r
  same-refusal (request.Write batch) = rw (counts.last, counts.acked, same-writes) refl
  same-refusal (request.Read b) = rw same-reads refl
  same-refusal request.Barrier = rw same-barriers refl
  same-refusal (request.Restart e) = refl
  same-refusal (request.Reassign e g) = rw (same-all, same-writes, same-reads, counts.last, counts.acked) refl
