-- The leaving rule gives the barriers that are due, and tables that mirror what is live then.
use Rattle.std.proofs.Common.{◌≡◌, ℕ, ◌+◌, ◌*◌, ◌^◌, ◌<◌, ◌≤◌, Bool, true, false, not, cond, ◌&&◌, ◌||◌, ◌∙◌, nat_le, if◌then◌else◌, List, [], ◌∷◌, ◌++◌, map, replicate, zero, suc, Option, None, refl, ap, ap₂, sym, arith}
use Rattle.std.specs.Prelude.{filter, flat_map}
use Rattle.std.specs.List.{list_any, range_with_len}
use Rattle.std.proofs.lemmas.List.{map-append}
use Rattle.std.proofs.lemmas.List.Folds.{list_any-append}
use Rattle.salus_types.specs.Volume.{Shape}
use Rattle.salus_types.specs.declared.strike.Strike.{Strike}
use Rattle.printed_lines.specs.declared.line.Line.{Line}
use Rattle.printed_lines.specs.declared.line.Line.TheVariants as line
use Rattle.salus_model.specs.declared.trace.Request.{Request}
use Rattle.salus_model.specs.declared.trace.Request.TheVariants as request
use Rattle.volume_model.specs.Parts.{blocks_of}
use Rattle.salus_model.specs.Judge.{Judge, last_number, front_of}
use Rattle.salus_model.specs.Hearing.{Past}
use Rattle.salus_model.specs.Waiting.{Taken, is_write, is_barrier, left_of, Question, questions_from, questions_of}
use Rattle.salus_model.specs.Answering.{is_known, first_strike}
use Rattle.salus_model.specs.Due.{barrier_due}
use Rattle.client_rules.specs.State.{Serving}
use Rattle.client_rules.specs.Tables.{fresh, read_question, read_questions, head_questions, waiter_of, answered_of}
use Rattle.list_lemmas.proofs.Tests.{by_test}
use Rattle.law_lines.specs.Mirror.{Between, IsUntouched, open_of, waiter_at, AfterHead}
use Rattle.law_lines.proofs.Settled.{is_due, barrier_due-is}

-- ---- new questions

none_map : (a n : ℕ) (f : ℕ → Option Strike) → ((r : ℕ) → f r ≡ None) → map f (range_with_len a n) ≡ replicate n None
none_map a zero f none = refl
none_map a (suc n) f none = ap₂ (λ x xs. x ∷ xs) (none a) (none_map (a + 1) n f none)

pub fresh-untouched : (shape : Shape) (history : List Past) (q : Question) → IsUntouched shape history q → fresh shape q ≡ open_of shape history q
fresh-untouched shape history q u =
    ap (λ s. record { question = q; strikes = s }) (sym (none_map 0 shape.replicas (λ r. first_strike shape q r history) u.unstruck))

module _ (shape : Shape) (history : List Past) (low : ℕ) (untouched : (q : Question) → low < q.event → IsUntouched shape history q) where
  read-fresh : (r : Taken) (v : ℕ) (what : Request) → low < v → map (fresh shape) (read_question v what) ≡ map (open_of shape history) (read_question v what)
  read-fresh r v (request.Write batch) up = refl
  read-fresh r v (request.Read b) up = ap (λ o. o ∷ []) (fresh-untouched shape history _ (untouched _ up))
  read-fresh r v request.Barrier up = refl
  read-fresh r v (request.Restart e) up = refl
  read-fresh r v (request.Reassign e g) up = refl

  read-unknown : (v : ℕ) (what : Request) → low < v → list_any (λ q. is_known shape q history) (read_question v what) ≡ false
  read-unknown v (request.Write batch) up = refl
  read-unknown v (request.Read b) up = ap (λ t. t || false) (untouched (record { event = v; number = v; block = b }) up).unknown
  read-unknown v request.Barrier up = refl
  read-unknown v (request.Restart e) up = refl
  read-unknown v (request.Reassign e g) up = refl

  pub reads-fresh : (below n : ℕ) (rs : List Taken) → low ≤ below → Between below rs n
      → map (fresh shape) (read_questions (left_of rs)) ≡ map (open_of shape history) (read_questions (left_of rs))
  unfolding left_of Between
  reads-fresh below n [] up b = refl
  reads-fresh below n (r ∷ rs) up b =
      let h = b.0 in
      by_test (λ t. map (fresh shape) (read_questions (if t then [] else r ∷ left_of rs)) ≡ map (open_of shape history) (read_questions (if t then [] else r ∷ left_of rs)))
      (is_write r.request) (λ _. refl)
      (λ _. map-append (fresh shape) (read_question r.event r.request) (read_questions (left_of rs))
      ∙ ap₂ (λ x y. x ++ y) (read-fresh r r.event r.request (omega (arith, up, h))) (reads-fresh r.event n rs (omega (arith, up, h)) b.1)
      ∙ sym (map-append (open_of shape history) (read_question r.event r.request) (read_questions (left_of rs))))

  pub reads-unknown : (below n : ℕ) (rs : List Taken) → low ≤ below → Between below rs n → list_any (λ q. is_known shape q history) (read_questions (left_of rs)) ≡ false
  unfolding left_of Between
  reads-unknown below n [] up b = refl
  reads-unknown below n (r ∷ rs) up b =
      let h = b.0 in
      by_test (λ t. list_any (λ q. is_known shape q history) (read_questions (if t then [] else r ∷ left_of rs)) ≡ false) (is_write r.request) (λ _. refl)
      (λ _. list_any-append (λ q. is_known shape q history) (read_question r.event r.request) (read_questions (left_of rs))
      ∙ ap₂ (λ x y. x || y) (read-unknown r.event r.request (omega (arith, up, h))) (reads-unknown r.event n rs (omega (arith, up, h)) b.1))

  from-fresh : (v j : ℕ) (bs : List ℕ) → low < v
      → map (fresh shape) (questions_from v j bs) ≡ map (open_of shape history) (filter (λ q. not (is_known shape q history)) (questions_from v j bs))
  unfolding questions_from
  from-fresh v j [] up = refl
  from-fresh v j (b ∷ bs) up =
      rw (untouched (record { event = v; number = 2 ^ 32 * j + v; block = b }) up).unknown (ap₂ (λ x xs. x ∷ xs) (fresh-untouched shape history _ (untouched _ up)) (from-fresh v (j + 1) bs up))

  one-fresh : (v : ℕ) (what : Request) → low < v
      → map (fresh shape) (questions_of shape v what) ≡ map (open_of shape history) (filter (λ q. not (is_known shape q history)) (questions_of shape v what))
  one-fresh v (request.Write batch) up = from-fresh v 1 (blocks_of shape batch) up
  one-fresh v (request.Read b) up = rw (untouched (record { event = v; number = v; block = b }) up).unknown (ap (λ o. o ∷ []) (fresh-untouched shape history _ (untouched _ up)))
  one-fresh v request.Barrier up = refl
  one-fresh v (request.Restart e) up = refl
  one-fresh v (request.Reassign e g) up = refl

  pub head-fresh : (n : ℕ) (rs : List Taken) → Between low rs n
      → map (fresh shape) (head_questions shape rs) ≡ map (open_of shape history) (filter (λ q. not (is_known shape q history)) (head_questions shape rs))
  unfolding Between
  head-fresh n [] b = refl
  head-fresh n (r ∷ rs) b = one-fresh r.event r.request b.0

  pub after-untouched : (n : ℕ) (rs : List Taken) → Between low rs n → (q : Question) → AfterHead rs n q.event → IsUntouched shape history q
  unfolding Between
  after-untouched n [] b q up = untouched q (omega (arith, b, up))
  after-untouched n (r ∷ rs) b q up = let h = b.0 in untouched q (omega (arith, h, up))

-- ---- barriers that leave

module _ (judge : Judge) (c : Serving) (last : c.last ≡ last_number judge) (acked : c.acked ≡ judge.acked)
    (front : (v : ℕ) → judge.latest < v → front_of judge v ≡ last_number judge) where
  here : (r : Taken) → judge.latest < r.event → front_of judge r.event ≡ c.last
  here r up = front r.event up ∙ sym last

  one-answered : (r : Taken) → judge.latest < r.event → answered_of c r ≡ barrier_due judge r.event r.request
  one-answered r up = rw (barrier_due-is judge r, here r up, ← acked) refl

  one-waits : (r : Taken) (xs : List Taken) → judge.latest < r.event
      → waiter_of c r ++ flat_map (λ x. waiter_at judge x) xs ≡ flat_map (λ x. waiter_at judge x) (cond (not (is_due judge r)) (r ∷ xs) xs)
  one-waits r xs up = rw (here r up, ← acked) (waits (is_barrier r.request) (nat_le c.last c.acked) refl)
    where
      waits : (b t : Bool) → is_barrier r.request ≡ b
          → (if b && not t then record { event = r.event; front = c.last } ∷ [] else []) ++ flat_map (λ x. waiter_at judge x) xs
          ≡ flat_map (λ x. waiter_at judge x) (cond (not (b && t)) (r ∷ xs) xs)
      waits true true is = refl
      waits true false is = rw (is, here r up) refl
      waits false t is = rw is refl

  pub left-answered : (low n : ℕ) (rs : List Taken) → judge.latest ≤ low → Between low rs n
      → flat_map (λ r. answered_of c r) (left_of rs) ≡ flat_map (λ r. barrier_due judge r.event r.request) (left_of rs)
  unfolding left_of Between
  left-answered low n [] up b = refl
  left-answered low n (r ∷ rs) up b =
      let h = b.0 in
      by_test (λ t. flat_map (λ r. answered_of c r) (if t then [] else r ∷ left_of rs) ≡ flat_map (λ r. barrier_due judge r.event r.request) (if t then [] else r ∷ left_of rs))
      (is_write r.request) (λ _. refl)
      (λ _. ap₂ (λ x y. x ++ y) (one-answered r (omega (arith, up, h))) (left-answered r.event n rs (omega (arith, up, h)) b.1))

  pub left-waits : (low n : ℕ) (rs : List Taken) → judge.latest ≤ low → Between low rs n
      → flat_map (λ r. waiter_of c r) (left_of rs) ≡ flat_map (λ r. waiter_at judge r) (filter (λ r. not (is_due judge r)) (left_of rs))
  unfolding left_of Between
  left-waits low n [] up b = refl
  left-waits low n (r ∷ rs) up b =
      let h = b.0 in
      by_test (λ t. flat_map (λ r. waiter_of c r) (if t then [] else r ∷ left_of rs)
      ≡ flat_map (λ r. waiter_at judge r) (filter (λ r. not (is_due judge r)) (if t then [] else r ∷ left_of rs)))
      (is_write r.request) (λ _. refl)
      (λ _. ap (λ l. waiter_of c r ++ l) (left-waits r.event n rs (omega (arith, up, h)) b.1)
      ∙ one-waits r (filter (λ x. not (is_due judge x)) (left_of rs)) (omega (arith, up, h)))

-- where none of them is due, all of them stay
cons_not_nil : (t : Bool) (l : Line) (ls : List Line) → (if t then l ∷ [] else []) ++ ls ≡ [] → (t ≡ false) × (ls ≡ [])
cons_not_nil true l ls none = absurd (cc)
cons_not_nil false l ls none = (refl, none)

pub all-stay : (judge : Judge) (rs : List Taken) → flat_map (λ r. barrier_due judge r.event r.request) rs ≡ [] → filter (λ r. not (is_due judge r)) rs ≡ rs
all-stay judge [] none = refl
all-stay judge (r ∷ rs) none =
    let s = cons_not_nil (is_due judge r) (line.Barrier r.event (front_of judge r.event)) (flat_map (λ x. barrier_due judge x.event x.request) rs)
    (ap (λ l. l ++ flat_map (λ x. barrier_due judge x.event x.request) rs) (sym (barrier_due-is judge r)) ∙ none) in
    rw s.0 (ap (λ l. r ∷ l) (all-stay judge rs s.1))

-- a barrier that is answered is no read
stays-read : (t : Bool) (judge : Judge) (v : ℕ) (what : Request) (r : Taken) (xs : List Taken) → r.event ≡ v → r.request ≡ what
    → read_questions (cond (not (is_barrier what && t)) (r ∷ xs) xs) ≡ read_question v what ++ read_questions xs
stays-read t judge v (request.Write batch) r xs ev is = rw (ev, is) refl
stays-read t judge v (request.Read b) r xs ev is = rw (ev, is) refl
stays-read true judge v request.Barrier r xs ev is = refl
stays-read false judge v request.Barrier r xs ev is = rw (ev, is) refl
stays-read t judge v (request.Restart e) r xs ev is = rw (ev, is) refl
stays-read t judge v (request.Reassign e g) r xs ev is = rw (ev, is) refl

pub reads-stay : (judge : Judge) (rs : List Taken) → read_questions (filter (λ r. not (is_due judge r)) rs) ≡ read_questions rs
reads-stay judge [] = refl
reads-stay judge (r ∷ rs) =
    stays-read (nat_le (front_of judge r.event) judge.acked) judge r.event r.request r (filter (λ x. not (is_due judge x)) rs) refl refl
    ∙ ap (λ l. read_question r.event r.request ++ l) (reads-stay judge rs)
