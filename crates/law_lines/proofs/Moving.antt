-- What the leaving rule makes of a client whose requests so far are mirrored.
use Rattle.std.proofs.Common.{◌≡◌, ℕ, ◌<◌, ◌≤◌, Bool, true, false, not, cond, ◌&&◌, ◌||◌, ◌∙◌, List, [], ◌∷◌, ◌++◌, map, refl, ap, ap₂, sym, subst, arith}
use Rattle.std.specs.Prelude.{filter, flat_map}
use Rattle.std.specs.List.{list_any, list_all}
use Rattle.std.proofs.lemmas.List.{map-append}
use Rattle.std.proofs.lemmas.Grind.{flat_map-append}
use Rattle.std.proofs.lemmas.List.Elements.{filter-append}
use Rattle.std.proofs.lemmas.List.Folds.{list_any-append}
use Rattle.salus_types.specs.Volume.{Shape}
use Rattle.salus_model.specs.Judge.{Judge, last_number, front_of}
use Rattle.salus_model.specs.Hearing.{Past}
use Rattle.salus_model.specs.Waiting.{Taken, left_of, Question}
use Rattle.salus_model.specs.Answering.{is_known}
use Rattle.salus_model.specs.Due.{barrier_due, barriers_due}
use Rattle.client_rules.specs.State.{Serving}
use Rattle.client_rules.specs.Tables.{fresh, line_of, read_questions, head_questions, waiter_of, answered_of}
use Rattle.client_rules.specs.Serving.{after_leaving}
use Rattle.law_lines.specs.Mirror.{Between, IsUntouched, open_of, waiter_at, AfterHead, is_inside, MirrorsCounts, MirrorsLine, IsInOrder}
use Rattle.law_lines.proofs.Ordered.{AreFree, between-low, between-back, between-filter, left-line, left_of-free, line_of-free}
use Rattle.law_lines.proofs.Settled.{is_due, due_events, with_answered, stays, settled, settled-left, settled-line, settled-none}
use Rattle.law_lines.proofs.Leaving.{reads-fresh, reads-unknown, head-fresh, after-untouched, left-answered, left-waits, all-stay, reads-stay}

-- The requests that have left before are mirrored, and those of the rest come later than all that was asked.
pub record CanLeave (shape : Shape) (history : List Past) (judge : Judge) (c : Serving) (left rest : List Taken) (low n : ℕ) : Type 0 where
  pub counts : MirrorsCounts shape judge c
  pub free : AreFree left
  pub reads : c.reads ≡ map (open_of shape history) (read_questions left)
  pub barriers : c.barriers ≡ flat_map (waiter_at judge) left
  pub none : flat_map (λ r. barrier_due judge r.event r.request) left ≡ []
  pub unknown : list_any (λ q. is_known shape q history) (read_questions left) ≡ false
  pub rises : Between 0 (left ++ rest) n
  pub later : Between low rest n
  pub up : judge.latest ≤ low
  pub inside : list_all (λ r. is_inside shape r.request) (left ++ rest) ≡ true
  pub untouched : (q : Question) → low < q.event → IsUntouched shape history q
  pub front : (v : ℕ) → judge.latest < v → front_of judge v ≡ last_number judge

-- the judge after the barriers that are due
abbrev pub settled_judge : Judge → List Taken → Judge
settled_judge judge requests = with_answered judge (due_events judge (left_of requests))

-- What is left is mirrored, and the lines are those of the barriers that are due.
pub record HasLeft (shape : Shape) (history : List Past) (judge : Judge) (requests : List Taken) (n : ℕ) (c : Serving) : Type 0 where
  pub counts : MirrorsCounts shape (settled_judge judge requests) c
  pub table : MirrorsLine shape history (settled_judge judge requests) (stays judge requests) c
  pub order : IsInOrder shape history (settled_judge judge requests) (stays judge requests) n

inside-one : (shape : Shape) (r : Taken) (rs kept : List Taken) (t u : Bool) → is_inside shape r.request ≡ u
    → (list_all (λ x. is_inside shape x.request) rs ≡ true → list_all (λ x. is_inside shape x.request) kept ≡ true)
    → (u && list_all (λ x. is_inside shape x.request) rs) ≡ true → list_all (λ x. is_inside shape x.request) (cond t (r ∷ kept) kept) ≡ true
inside-one shape r rs kept t false is rest all = absurd (cc all)
inside-one shape r rs kept true true is rest all = rw is (rest all)
inside-one shape r rs kept false true is rest all = rest all

pub inside-filter : (shape : Shape) (p : Taken → Bool) (rs : List Taken) → list_all (λ r. is_inside shape r.request) rs ≡ true
    → list_all (λ r. is_inside shape r.request) (filter p rs) ≡ true
inside-filter shape p [] inside = refl
inside-filter shape p (r ∷ rs) inside = inside-one shape r rs (filter p rs) (p r) (is_inside shape r.request) refl (inside-filter shape p rs) inside

-- ---- the requests that stay, whatever moved

module _ (shape : Shape) (history : List Past) (judge : Judge) (requests : List Taken) (n : ℕ) (b : Between 0 requests n) where
  pub stays-rises : Between 0 (stays judge requests) n
  stays-rises = subst (λ rs. Between 0 rs n) (settled judge 0 n requests b) (between-filter _ 0 n requests b)

  pub stays-inside : list_all (λ r. is_inside shape r.request) requests ≡ true → list_all (λ r. is_inside shape r.request) (stays judge requests) ≡ true
  stays-inside inside =
      subst (λ rs. list_all (λ r. is_inside shape r.request) rs ≡ true) (settled judge 0 n requests b) (inside-filter shape _ requests inside)

  pub stays-reads : read_questions (left_of (stays judge requests)) ≡ read_questions (left_of requests)
  stays-reads = ap read_questions (settled-left judge requests) ∙ reads-stay judge (left_of requests)

  pub stays-none : barriers_due (settled_judge judge requests) (stays judge requests) ≡ []
  stays-none =
      ap (λ rs. flat_map (λ r. barrier_due judge r.event r.request) rs) (settled-left judge requests) ∙ settled-none judge (left_of requests)

  -- the order of what stays
  pub stays-order : Between judge.latest (line_of requests) n → list_all (λ r. is_inside shape r.request) requests ≡ true
      → list_any (λ q. is_known shape q history) (read_questions (left_of requests)) ≡ false
      → ((q : Question) → AfterHead (line_of requests) n q.event → IsUntouched shape history q)
      → ((v : ℕ) → judge.latest < v → front_of judge v ≡ last_number judge)
      → IsInOrder shape history (settled_judge judge requests) (stays judge requests) n
  stays-order later inside unknown untouched front = record {
    rises = stays-rises;
    later = subst (λ l. Between judge.latest l n) (sym (settled-line judge requests)) later;
    inside = stays-inside inside;
    waiting = stays-none;
    unknown = ap (λ qs. list_any (λ q. is_known shape q history) qs) stays-reads ∙ unknown;
    untouched = λ q after. untouched q (subst (λ l. AfterHead l n q.event) (settled-line judge requests) after);
    front = front;
  }

module _ (shape : Shape) (history : List Past) (judge : Judge) (c : Serving) (left rest : List Taken) (low n : ℕ)
    (can : CanLeave shape history judge c left rest low n) where
  all : List Taken
  all = left ++ rest

  left_all : left_of (left ++ rest) ≡ left ++ left_of rest
  left_all = left_of-free left rest can.free

  line_all : line_of (left ++ rest) ≡ line_of rest
  line_all = line_of-free left rest can.free

  line-later : Between low (line_of rest) n
  line-later = between-back low n (left_of rest) (line_of rest) (subst (λ rs. Between low rs n) (sym (left-line rest)) can.later)

  -- the lines are those of the barriers that are due
  pub leaving-lines : flat_map (λ r. answered_of c r) (left_of rest) ≡ barriers_due judge (left ++ rest)
  leaving-lines =
      left-answered judge c can.counts.last can.counts.acked can.front low n rest can.up can.later
      ∙ sym (ap (flat_map (λ r. barrier_due judge r.event r.request)) left_all
      ∙ flat_map-append (λ r. barrier_due judge r.event r.request) left (left_of rest)
      ∙ ap (λ l. l ++ flat_map (λ r. barrier_due judge r.event r.request) (left_of rest)) can.none)

  all-reads : read_questions (left_of (left ++ rest)) ≡ read_questions left ++ read_questions (left_of rest)
  all-reads = ap read_questions left_all ∙ flat_map-append _ left (left_of rest)

  mirrored-reads : c.reads ++ map (fresh shape) (read_questions (left_of rest)) ≡ map (open_of shape history) (read_questions (left_of (stays judge (left ++ rest))))
  mirrored-reads =
      ap₂ (λ x y. x ++ y) can.reads (reads-fresh shape history low can.untouched low n rest (omega arith) can.later)
      ∙ sym (map-append (open_of shape history) (read_questions left) (read_questions (left_of rest)))
      ∙ ap (map (open_of shape history)) (sym (stays-reads shape history judge (left ++ rest) n can.rises ∙ all-reads))

  mirrored-barriers : c.barriers ++ flat_map (λ r. waiter_of c r) (left_of rest) ≡ flat_map (waiter_at judge) (left_of (stays judge (left ++ rest)))
  mirrored-barriers =
      ap₂ (λ x y. x ++ y) can.barriers (left-waits judge c can.counts.last can.counts.acked can.front low n rest can.up can.later)
      ∙ ap (λ l. flat_map (waiter_at judge) l ++ flat_map (waiter_at judge) (filter (λ r. not (is_due judge r)) (left_of rest))) (sym (all-stay judge left can.none))
      ∙ sym (flat_map-append (waiter_at judge) (filter (λ r. not (is_due judge r)) left) (filter (λ r. not (is_due judge r)) (left_of rest)))
      ∙ ap (flat_map (waiter_at judge)) (sym (filter-append (λ r. not (is_due judge r)) left (left_of rest)))
      ∙ ap (λ l. flat_map (waiter_at judge) (filter (λ r. not (is_due judge r)) l)) (sym left_all)
      ∙ ap (flat_map (waiter_at judge)) (sym (settled-left judge (left ++ rest)))

  mirrored-line : line_of rest ≡ line_of (stays judge (left ++ rest))
  mirrored-line = sym (settled-line judge (left ++ rest) ∙ line_all)

  mirrored-asked : map (fresh shape) (head_questions shape (line_of rest))
      ≡ map (open_of shape history) (filter (λ q. not (is_known shape q history)) (head_questions shape (line_of (stays judge (left ++ rest)))))
  mirrored-asked =
      head-fresh shape history low can.untouched n (line_of rest) line-later
      ∙ ap (λ l. map (open_of shape history) (filter (λ q. not (is_known shape q history)) (head_questions shape l))) mirrored-line

  pub has_left : HasLeft shape history judge (left ++ rest) n (after_leaving shape c rest)
  has_left = record {
    counts = record {
      session = can.counts.session;
      last = can.counts.last;
      acked = can.counts.acked;
      contents = can.counts.contents;
      numbers = can.counts.numbers;
      leaders = can.counts.leaders;
      within = can.counts.within;
      based = can.counts.based;
      leads = can.counts.leads;
    };
    table = record { line = mirrored-line; reads = mirrored-reads; asked = mirrored-asked; barriers = mirrored-barriers };
    order = stays-order shape history judge (left ++ rest) n can.rises
        (subst (λ l. Between judge.latest l n) (sym line_all) (between-low low judge.latest n (line_of rest) can.up line-later))
        can.inside
        (ap (λ qs. list_any (λ q. is_known shape q history) qs) all-reads
        ∙ list_any-append (λ q. is_known shape q history) (read_questions left) (read_questions (left_of rest))
        ∙ ap₂ (λ x y. x || y) can.unknown (reads-unknown shape history low can.untouched low n rest (omega arith) can.later))
        (λ q after. after-untouched shape history low can.untouched n (line_of rest) line-later q (subst (λ l. AfterHead l n q.event) line_all after))
        can.front;
  }
