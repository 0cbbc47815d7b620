-- Requests in order, and how the first write splits them.
use Rattle.std.proofs.Common.{◌≡◌, ℕ, ◌+◌, ◌<◌, ◌≤◌, Bool, true, false, cond, ◌∙◌, if◌then◌else◌, List, [], ◌∷◌, ◌++◌, refl, ap, sym, arith, append_assoc, append-nil}
use Rattle.std.specs.Prelude.{filter}
use Rattle.std.specs.List.{list_any}
use Rattle.std.proofs.lemmas.Bool.{or_parts}
use Rattle.salus_types.specs.Volume.{Shape}
use Rattle.salus_model.specs.declared.trace.Request.{Request}
use Rattle.salus_model.specs.declared.trace.Request.TheVariants as request
use Rattle.salus_model.specs.Waiting.{Taken, is_write, left_of, questions_of, questions}
use Rattle.client_rules.specs.Tables.{line_of, read_question, read_questions, head_questions}
use Rattle.list_lemmas.proofs.Tests.{by_test}
use Rattle.law_lines.specs.Mirror.{Between}

-- ---- order

pub between-more : (low n : ℕ) (rs : List Taken) (r : Taken) → n ≤ r.event → Between low rs n → Between low (rs ++ r ∷ []) (r.event + 1)
unfolding Between
between-more low n [] r up b = (omega (arith, up, b), omega arith)
between-more low n (x ∷ rs) r up b = (b.0, between-more x.event n rs r up b.1)

pub between-up : (low n m : ℕ) (rs : List Taken) → n ≤ m → Between low rs n → Between low rs m
unfolding Between
between-up low n m [] up b = omega (arith, up, b)
between-up low n m (x ∷ rs) up b = (b.0, between-up x.event n m rs up b.1)

pub between-low : (low lower n : ℕ) (rs : List Taken) → lower ≤ low → Between low rs n → Between lower rs n
unfolding Between
between-low low lower n [] down b = omega (arith, down, b)
between-low low lower n (x ∷ rs) down b = (let h = b.0 in omega (arith, down, h), b.1)

pub between-ends : (low n : ℕ) (rs : List Taken) → Between low rs n → low < n
unfolding Between
between-ends low n [] b = b
between-ends low n (x ∷ rs) b = let h = b.0 in let t = between-ends x.event n rs b.1 in omega (arith, h, t)

pub head-above : (low n : ℕ) (r : Taken) (rs : List Taken) → Between low (r ∷ rs) n → low < r.event
unfolding Between
head-above low n r rs b = b.0

pub head-below : (low n : ℕ) (r : Taken) (rs : List Taken) → Between low (r ∷ rs) n → r.event < n
unfolding Between
head-below low n r rs b = between-ends r.event n rs b.1

-- the later part
pub between-back : (low n : ℕ) (xs ys : List Taken) → Between low (xs ++ ys) n → Between low ys n
unfolding Between
between-back low n [] ys b = b
between-back low n (x ∷ xs) ys b = let h = b.0 in between-low x.event low n ys (omega (arith, h)) (between-back x.event n xs ys b.1)

-- some of them
pub between-filter : (p : Taken → Bool) (low n : ℕ) (rs : List Taken) → Between low rs n → Between low (filter p rs) n
unfolding Between
between-filter p low n [] b = b
between-filter p low n (x ∷ rs) b =
    by_test (λ t. Between low (cond t (x ∷ filter p rs) (filter p rs)) n) (p x)
    (λ _. (b.0, between-filter p x.event n rs b.1))
    (λ _. let h = b.0 in between-low x.event low n (filter p rs) (omega (arith, h)) (between-filter p x.event n rs b.1))

-- ---- the first write

pub left-line : (rs : List Taken) → left_of rs ++ line_of rs ≡ rs
unfolding left_of line_of
left-line [] = refl
left-line (r ∷ rs) =
    by_test (λ t. (if t then [] else r ∷ left_of rs) ++ (if t then r ∷ rs else line_of rs) ≡ r ∷ rs) (is_write r.request)
    (λ _. refl) (λ _. ap (λ l. r ∷ l) (left-line rs))

-- no write is among them
abbrev pub AreFree : List Taken → Type 0
AreFree rs = list_any (λ r. is_write r.request) rs ≡ false

pub left_of-free : (xs ys : List Taken) → AreFree xs → left_of (xs ++ ys) ≡ xs ++ left_of ys
unfolding left_of
left_of-free [] ys free = refl
left_of-free (x ∷ xs) ys free = let s = or_parts (is_write x.request) _ free in rw s.0 (ap (λ l. x ∷ l) (left_of-free xs ys s.1))

pub line_of-free : (xs ys : List Taken) → AreFree xs → line_of (xs ++ ys) ≡ line_of ys
unfolding line_of
line_of-free [] ys free = refl
line_of-free (x ∷ xs) ys free = let s = or_parts (is_write x.request) _ free in rw s.0 (line_of-free xs ys s.1)

pub free-left : (rs : List Taken) → AreFree (left_of rs)
unfolding left_of
free-left [] = refl
free-left (r ∷ rs) =
    by_test (λ t. is_write r.request ≡ t → AreFree (if t then [] else r ∷ left_of rs)) (is_write r.request)
    (λ _ _. refl) (λ _ miss. rw miss (free-left rs)) refl

pub free-filter : (p : Taken → Bool) (rs : List Taken) → AreFree rs → AreFree (filter p rs)
free-filter p [] free = refl
free-filter p (r ∷ rs) free =
    let s = or_parts (is_write r.request) _ free in
    by_test (λ t. AreFree (cond t (r ∷ filter p rs) (filter p rs))) (p r) (λ _. rw s.0 (free-filter p rs s.1)) (λ _. free-filter p rs s.1)

pub left_of-line : (rs : List Taken) → left_of (line_of rs) ≡ []
unfolding left_of line_of
left_of-line [] = refl
left_of-line (r ∷ rs) =
    by_test (λ t. is_write r.request ≡ t → left_of (if t then r ∷ rs else line_of rs) ≡ []) (is_write r.request)
    (λ _ hit. rw hit refl) (λ _ _. left_of-line rs) refl

pub line_of-line : (rs : List Taken) → line_of (line_of rs) ≡ line_of rs
unfolding line_of
line_of-line [] = refl
line_of-line (r ∷ rs) =
    by_test (λ t. is_write r.request ≡ t → line_of (if t then r ∷ rs else line_of rs) ≡ (if t then r ∷ rs else line_of rs)) (is_write r.request)
    (λ _ hit. rw hit refl) (λ _ _. line_of-line rs) refl

-- a line that isn't empty begins with a write
pub head-writes : (rs : List Taken) (w : Taken) (behind : List Taken) → line_of rs ≡ w ∷ behind → is_write w.request ≡ true
unfolding line_of
head-writes [] w behind = λ is. cc
head-writes (r ∷ rs) w behind =
    by_test (λ t. is_write r.request ≡ t → (if t then r ∷ rs else line_of rs) ≡ w ∷ behind → is_write w.request ≡ true) (is_write r.request)
    (λ _ hit is. let same : r ≡ w = cc in ap (λ x. is_write x.request) (sym same) ∙ hit) (λ _ _. head-writes rs w behind) refl

-- what joins behind a write stays behind it
pub join-blocked : (rs more : List Taken) (w : Taken) (behind : List Taken) → line_of rs ≡ w ∷ behind
    → (left_of (rs ++ more) ≡ left_of rs) × (line_of (rs ++ more) ≡ line_of rs ++ more)
unfolding left_of line_of
join-blocked [] more w behind = λ is. absurd (cc)
join-blocked (r ∷ rs) more w behind =
    by_test (λ t. is_write r.request ≡ t → (if t then r ∷ rs else line_of rs) ≡ w ∷ behind
    → ((if t then [] else r ∷ left_of (rs ++ more)) ≡ (if t then [] else r ∷ left_of rs))
    × ((if t then r ∷ (rs ++ more) else line_of (rs ++ more)) ≡ (if t then r ∷ rs else line_of rs) ++ more)) (is_write r.request)
    (λ _ _ _. (refl, refl)) (λ _ _ is. let next = join-blocked rs more w behind is in (ap (λ l. r ∷ l) next.0, next.1)) refl

-- where the line is empty no write is there
pub free-empty : (rs : List Taken) → line_of rs ≡ [] → AreFree rs
free-empty rs empty = rw (← left-line rs, empty, append-nil) (free-left rs)

-- ---- questions

read-question : (shape : Shape) (v : ℕ) (r : Request) → is_write r ≡ false → questions_of shape v r ≡ read_question v r
read-question shape v (request.Write batch) miss = cc
read-question shape v (request.Read b) miss = refl
read-question shape v request.Barrier miss = refl
read-question shape v (request.Restart e) miss = refl
read-question shape v (request.Reassign e g) miss = refl

pub questions-split : (shape : Shape) (rs : List Taken) → questions shape rs ≡ read_questions (left_of rs) ++ head_questions shape (line_of rs)
unfolding questions left_of line_of
questions-split shape [] = refl
questions-split shape (r ∷ rs) =
    by_test (λ t. is_write r.request ≡ t → (if t then questions_of shape r.event r.request else questions_of shape r.event r.request ++ questions shape rs)
    ≡ read_questions (if t then [] else r ∷ left_of rs) ++ head_questions shape (if t then r ∷ rs else line_of rs)) (is_write r.request)
    (λ _ _. refl)
    (λ _ miss. ap (λ q. q ++ questions shape rs) (read-question shape r.event r.request miss)
    ∙ ap (λ l. read_question r.event r.request ++ l) (questions-split shape rs)
    ∙ sym (append_assoc (read_question r.event r.request) (read_questions (left_of rs)) (head_questions shape (line_of rs)))) refl
