-- The question that an answer is to, among those that are asked.
use Rattle.std.proofs.Common.{◌≡◌, ℕ, ◌≤◌, Bool, true, false, not, cond, ◌||◌, ◌==◌, ◌∙◌, List, [], ◌∷◌, ◌++◌, map, Option, None, Some, refl, ap, sym, arith, eqb-true, eq-eqb}
use Rattle.std.specs.Prelude.{filter, find}
use Rattle.std.specs.List.{list_any}
use Rattle.std.specs.Option.{option_map}
use Rattle.std.proofs.lemmas.Bool.{and_parts, or_parts}
use Rattle.salus_message.specs.declared.replies.Answer.{Answer}
use Rattle.salus_model.specs.declared.trace.Request.{Request}
use Rattle.salus_model.specs.declared.trace.Request.TheVariants as request
use Rattle.salus_model.specs.Waiting.{Taken, Question}
use Rattle.client_rules.specs.State.{Open}
use Rattle.client_rules.specs.Tables.{open_at, closed_at, read_question, read_questions}
use Rattle.list_lemmas.proofs.Tests.{by_test, or_false, unequal, unequal_up}
use Rattle.law_lines.specs.Mirror.{Between}
use Rattle.law_lines.proofs.Ordered.{between-ends}
use Rattle.law_lines.proofs.Settled.{without}
use Rattle.law_lines.proofs.Hitting.{hits}

-- ---- finding in lists

pub find-front : {X : Type 0} (p : X → Bool) (xs ys : List X) → list_any p ys ≡ false → find p (xs ++ ys) ≡ find p xs
find-front p [] [] none = refl
find-front p [] (y ∷ ys) none = let s = or_parts (p y) _ none in rw s.0 (find-front p [] ys s.1)
find-front p (x ∷ xs) ys none = ap (cond (p x) (Some x)) (find-front p xs ys none)

pub find-back : {X : Type 0} (p : X → Bool) (xs ys : List X) → list_any p xs ≡ false → find p (xs ++ ys) ≡ find p ys
find-back p [] ys none = refl
find-back p (x ∷ xs) ys none = let s = or_parts (p x) _ none in rw s.0 (find-back p xs ys s.1)

pub find-none : {X : Type 0} (p : X → Bool) (xs : List X) → find p xs ≡ None → list_any p xs ≡ false
find-none p [] = λ none. refl
find-none p (x ∷ xs) = by_test (λ t. cond t (Some x) (find p xs) ≡ None → (t || list_any p xs) ≡ false) (p x) (λ _ none. absurd (cc)) (λ _ none. find-none p xs none)

-- the client looks at the table's questions
pub open-find : (a : Answer) (f : Question → Open) → ((q : Question) → (f q).question ≡ q) → (qs : List Question) → open_at a (map f qs) ≡ option_map f (find (hits a) qs)
open-find a f same [] = refl
open-find a f same (q ∷ qs) =
    ap (λ t. cond t (Some (f q)) (open_at a (map f qs))) (ap (hits a) (same q))
    ∙ by_test (λ t. cond t (Some (f q)) (open_at a (map f qs)) ≡ option_map f (cond t (Some q) (find (hits a) qs))) (hits a q) (λ _. refl) (λ _. open-find a f same qs)

pub closed-map : (number : ℕ) (f : Question → Open) → ((q : Question) → (f q).question ≡ q) → (qs : List Question)
    → closed_at number (map f qs) ≡ map f (filter (λ q. not (q.number == number)) qs)
closed-map number f same [] = refl
closed-map number f same (q ∷ qs) =
    ap (λ t. cond (not t) (f q ∷ closed_at number (map f qs)) (closed_at number (map f qs))) (ap (λ x. x.number == number) (same q))
    ∙ by_test (λ t. cond (not t) (f q ∷ closed_at number (map f qs)) (closed_at number (map f qs)) ≡ map f (cond (not t) (q ∷ filter (λ x. not (x.number == number)) qs) (filter (λ x. not (x.number == number)) qs)))
    (q.number == number) (λ _. closed-map number f same qs) (λ _. ap (λ l. f q ∷ l) (closed-map number f same qs))

-- ---- an event in the order

pub between-front : (low n : ℕ) (xs : List Taken) (r : Taken) (ys : List Taken) → Between low (xs ++ r ∷ ys) n → Between low xs r.event
unfolding Between
between-front low n [] r ys b = b.0
between-front low n (x ∷ xs) r ys b = (b.0, between-front x.event n xs r ys b.1)

pub between-behind : (low n : ℕ) (xs : List Taken) (r : Taken) (ys : List Taken) → Between low (xs ++ r ∷ ys) n → Between r.event ys n
unfolding Between
between-behind low n [] r ys b = b.1
between-behind low n (x ∷ xs) r ys b = between-behind x.event n xs r ys b.1

pub between-take : (low n : ℕ) (xs ys : List Taken) → Between low (xs ++ ys) n → Between low xs n
unfolding Between
between-take low n [] ys b = between-ends low n ys b
between-take low n (x ∷ xs) ys b = (b.0, between-take x.event n xs ys b.1)

keep-front : (v low : ℕ) (xs : List Taken) → Between low xs v → without (v ∷ []) xs ≡ xs
unfolding Between
keep-front v low [] b = refl
keep-front v low (x ∷ xs) b =
    let less = between-ends x.event v xs b.1 in rw (unequal x.event v less) (ap (λ l. x ∷ l) (keep-front v x.event xs b.1))

keep-behind : (v low n : ℕ) (xs : List Taken) → v ≤ low → Between low xs n → without (v ∷ []) xs ≡ xs
unfolding Between
keep-behind v low n [] up b = refl
keep-behind v low n (x ∷ xs) up b =
    let h = b.0 in rw (unequal_up v x.event (omega (arith, up, h))) (ap (λ l. x ∷ l) (keep-behind v x.event n xs (omega (arith, up, h)) b.1))

-- one is taken out
without-at : (low n : ℕ) (xs : List Taken) (r : Taken) (ys : List Taken) → Between r.event ys n → Between low xs r.event → without (r.event ∷ []) (xs ++ r ∷ ys) ≡ xs ++ ys
unfolding Between
without-at low n [] r ys behind front =
    let same : (r.event == r.event) ≡ true = eq-eqb r.event r.event refl in rw same (keep-behind r.event r.event n ys (omega arith) behind)
without-at low n (x ∷ xs) r ys behind front =
    let less = between-ends x.event r.event xs front.1 in rw (unequal x.event r.event less) (ap (λ l. x ∷ l) (without-at x.event n xs r ys behind front.1))

pub without-one : (low n : ℕ) (xs : List Taken) (r : Taken) (ys : List Taken) → Between low (xs ++ r ∷ ys) n → without (r.event ∷ []) (xs ++ r ∷ ys) ≡ xs ++ ys
without-one low n xs r ys b = without-at low n xs r ys (between-behind low n xs r ys b) (between-front low n xs r ys b)

-- ---- reads

-- an open read that the answer is to
pub record FoundRead (a : Answer) (left : List Taken) (q : Question) : Type 0 where
  pub front : List Taken
  pub behind : List Taken
  pub whole : left ≡ front ++ record { event = q.event; request = request.Read q.block } ∷ behind
  pub number : q.number ≡ q.event
  pub asked : a.read ≡ q.number
  pub block : a.block ≡ q.block

found-here : (a : Answer) (v : ℕ) (what : Request) (q : Question) (rest : Option Question)
    → (t : Bool) → list_any (hits a) (read_question v what) ≡ t → find (hits a) (read_question v what) ≡ Some q
    → (what ≡ request.Read q.block) × (v ≡ q.event) × (q.number ≡ q.event) × (a.read ≡ q.number) × (a.block ≡ q.block)
found-here a v (request.Write batch) q rest t any = λ is. absurd (cc)
found-here a v (request.Read b) q rest t any =
    by_test (λ u. hits a (record { event = v; number = v; block = b }) ≡ u → cond u (Some (record { event = v; number = v; block = b })) None ≡ Some q
    → (request.Read b ≡ request.Read q.block) × (v ≡ q.event) × (q.number ≡ q.event) × (a.read ≡ q.number) × (a.block ≡ q.block))
    (hits a (record { event = v; number = v; block = b }))
    (λ _ hit is.
    let same : record { event = v; number = v; block = b } ≡ q = cc in
    let s = and_parts (a.read == v) (a.block == b) hit in
    (ap (λ x. request.Read x.block) same, ap (λ x. x.event) same, sym (ap (λ x. x.number) same) ∙ ap (λ x. x.event) same, eqb-true a.read v s.0 ∙ ap (λ x. x.number) same, eqb-true a.block b s.1 ∙ ap (λ x. x.block) same))
    (λ _ off is. absurd (cc)) refl
found-here a v request.Barrier q rest t any = λ is. absurd (cc)
found-here a v (request.Restart e) q rest t any = λ is. absurd (cc)
found-here a v (request.Reassign e g) q rest t any = λ is. absurd (cc)

-- found in a list of at most one, and so found before others
one-find : (a : Answer) (v : ℕ) (what : Request) (rest : List Question) (q : Question) → list_any (hits a) (read_question v what) ≡ true
    → find (hits a) (read_question v what ++ rest) ≡ Some q → find (hits a) (read_question v what) ≡ Some q
one-find a v (request.Write batch) rest q any is = absurd (cc)
one-find a v (request.Read b) rest q any is =
    let hit : hits a (record { event = v; number = v; block = b }) ≡ true = sym (or_false _) ∙ any in
    ap (λ t. cond t (Some (record { event = v; number = v; block = b })) None) hit
    ∙ sym (ap (λ t. cond t (Some (record { event = v; number = v; block = b })) (find (hits a) rest)) hit) ∙ is
one-find a v request.Barrier rest q any is = absurd (cc)
one-find a v (request.Restart e) rest q any is = absurd (cc)
one-find a v (request.Reassign e g) rest q any is = absurd (cc)

read-taken : (r : Taken) (q : Question) → r.request ≡ request.Read q.block → r.event ≡ q.event → r ≡ record { event = q.event; request = request.Read q.block }
read-taken r q what v = λ i. record { event = v i; request = what i }

pub found-read : (a : Answer) (left : List Taken) (q : Question) → find (hits a) (read_questions left) ≡ Some q → FoundRead a left q
found-read a [] q is = absurd (cc)
found-read a (r ∷ rs) q is =
    by_test (λ t. list_any (hits a) (read_question r.event r.request) ≡ t → FoundRead a (r ∷ rs) q) (list_any (hits a) (read_question r.event r.request))
    (λ _ any.
    let f = found-here a r.event r.request q None true any (one-find a r.event r.request (read_questions rs) q any is) in
    record { front = []; behind = rs; whole = ap (λ x. x ∷ rs) (read-taken r q f.0 f.1); number = f.2; asked = f.3; block = f.4 })
    (λ _ none.
    let f = found-read a rs q (sym (find-back (hits a) (read_question r.event r.request) (read_questions rs) none) ∙ is) in
    record { front = r ∷ f.front; behind = f.behind; whole = ap (λ l. r ∷ l) f.whole; number = f.number; asked = f.asked; block = f.block }) refl
