-- Barriers that wait: their fronts don't fall, so where the oldest isn't due none is.
use Rattle.std.proofs.Common.{◌≡◌, ℕ, ◌+◌, ◌<◌, ◌≤◌, ◌∙◌, Bool, true, false, not, ◌&&◌, cond, nat_le, if◌then◌else◌, List, [], ◌∷◌, ◌++◌, map, length, drop, Option, Some, None, refl, ap, ap₂, sym, subst, arith, length-append, le-leb, leb-true, leb-false}
use Rattle.std.specs.Prelude.{filter, slice_get}
use Rattle.std.proofs.lemmas.Bool.{lt-leb}
use Rattle.printed_lines.specs.declared.line.Line.TheVariants as line
use Rattle.salus_model.specs.Waiting.{Taken, is_barrier}
use Rattle.client_rules.specs.State.{Serving, Waiter}
use Rattle.client_rules.specs.Tables.{is_reached, waiter_line, waiter_of, answered_of}
use Rattle.client_window.specs.declared.barrier.Barrier.{Barrier}
use Rattle.client_window.specs.Viewing.{waiters}
use Rattle.client_window.specs.Window.{AreWaiting}
use Rattle.client_window.specs.Answering.{due_lines, still_waiting, oldest_due, NoneDue, IsFirstDue, IsLeft}

abbrev waiter : ℕ → ℕ → Waiter
waiter event front = record { event = event; front = front }

from_lower : (low lower : ℕ) (bs : List Waiter) (last : ℕ) → lower ≤ low → AreWaiting low bs last → AreWaiting lower bs last
unfolding AreWaiting
from_lower low lower [] last less waiting = omega arith
from_lower low lower (b ∷ bs) last less waiting = (omega (arith, waiting.0), waiting.1)

-- the first is taken out
pub waiting_less : (b : Waiter) (bs : List Waiter) (last : ℕ) → AreWaiting 0 (b ∷ bs) last → AreWaiting 0 bs last
unfolding AreWaiting
waiting_less b bs last waiting = from_lower b.front 0 bs last (omega arith) waiting.1

-- one more waits for the last number
pub waiting_more : (low : ℕ) (bs : List Waiter) (event last : ℕ) → AreWaiting low bs last → AreWaiting low (bs ++ waiter event last ∷ []) last
unfolding AreWaiting
waiting_more low [] event last waiting = (waiting, omega arith)
waiting_more low (b ∷ bs) event last waiting = (waiting.0, waiting_more b.front bs event last waiting.1)

-- the last number has risen
pub waiting_longer : (low : ℕ) (bs : List Waiter) (last later : ℕ) → last ≤ later → AreWaiting low bs last → AreWaiting low bs later
unfolding AreWaiting
waiting_longer low [] last later up waiting = omega arith
waiting_longer low (b ∷ bs) last later up waiting = (waiting.0, waiting_longer b.front bs last later up waiting.1)

-- none is due where all fronts are above
none_reached : (acked low : ℕ) (bs : List Waiter) (last : ℕ) → acked < low → AreWaiting low bs last
    → (filter (λ w. is_reached acked w) bs ≡ []) × (filter (λ w. not (is_reached acked w)) bs ≡ bs)
unfolding AreWaiting
none_reached acked low [] last less waiting = (refl, refl)
none_reached acked low (b ∷ bs) last less waiting =
    let above : acked < b.front = omega (arith, waiting.0) in
    let late : nat_le b.front acked ≡ false = lt-leb b.front acked above in
    let rest = none_reached acked b.front bs last above waiting.1 in (
      ap (λ t. cond t (b ∷ filter (λ w. is_reached acked w) bs) (filter (λ w. is_reached acked w) bs)) late ∙ rest.0,
      ap (λ t. cond (not t) (b ∷ filter (λ w. not (is_reached acked w)) bs) (filter (λ w. not (is_reached acked w)) bs)) late ∙ ap (λ l. b ∷ l) rest.1,
    )

-- where the first isn't due, none is
pub none_due : (acked : ℕ) (items : List Barrier) (o : Barrier) (last : ℕ) → slice_get items 0 ≡ Some o → acked < o.front → AreWaiting 0 (waiters items) last → NoneDue acked (waiters items)
unfolding AreWaiting
none_due acked [] o last is above waiting = absurd (cc)
none_due acked (x ∷ items) o last is above waiting =
    let same : x ≡ o = cc in
    let above_it : acked < x.front = subst (λ (b : Barrier). acked < b.front) (sym same) above in
    let late : nat_le x.front acked ≡ false = lt-leb x.front acked above_it in
    let rest = none_reached acked x.front (waiters items) last above_it waiting.1 in (
      ap (λ t. map waiter_line (cond t (waiter x.event x.front ∷ filter (λ w. is_reached acked w) (waiters items)) (filter (λ w. is_reached acked w) (waiters items)))) late ∙ ap (map waiter_line) rest.0,
      ap (λ t. cond (not t) (waiter x.event x.front ∷ filter (λ w. not (is_reached acked w)) (waiters items)) (filter (λ w. not (is_reached acked w)) (waiters items))) late ∙ ap (λ l. waiter x.event x.front ∷ l) rest.1,
    )

-- where it is, it leaves first
pub first_due : (acked : ℕ) (items left : List Barrier) (o : Barrier) → slice_get items 0 ≡ Some o → left ≡ drop 1 items → o.front ≤ acked → IsFirstDue acked (waiters items) (waiters left) (o.event, o.front)
first_due acked [] left o is rest reached = absurd (cc)
first_due acked (x ∷ items) left o is rest reached =
    let same : x ≡ o = cc in
    let early : x.front ≤ acked = subst (λ (b : Barrier). b.front ≤ acked) (sym same) reached in
    let now : nat_le x.front acked ≡ true = le-leb x.front acked early in
    subst (λ l. IsFirstDue acked (waiters (x ∷ items)) (waiters l) (o.event, o.front)) (sym rest)
    (subst (λ (b : Barrier). IsFirstDue acked (waiters (x ∷ items)) (waiters items) (b.event, b.front)) same
    (record {
      first = waiter x.event x.front;
      oldest = refl;
      event = refl;
      front = refl;
      reached = early;
      lines = ap (λ t. map waiter_line (cond t (waiter x.event x.front ∷ filter (λ w. is_reached acked w) (waiters items)) (filter (λ w. is_reached acked w) (waiters items)))) now;
      waiting = ap (λ t. cond (not t) (waiter x.event x.front ∷ filter (λ w. not (is_reached acked w)) (waiters items)) (filter (λ w. not (is_reached acked w)) (waiters items))) now;
    }))

-- without its first
pub waiting_rest : (items left : List Barrier) (last : ℕ) → left ≡ drop 1 items → AreWaiting 0 (waiters items) last → AreWaiting 0 (waiters left) last
waiting_rest [] left last rest waiting = subst (λ l. AreWaiting 0 (waiters l) last) (sym rest) waiting
waiting_rest (x ∷ items) left last rest waiting =
    subst (λ l. AreWaiting 0 (waiters l) last) (sym rest) (waiting_less (waiter x.event x.front) (waiters items) last waiting)

pub fewer : (items left : List Barrier) (most : ℕ) → left ≡ drop 1 items → length (waiters items) ≤ most → length (waiters left) ≤ most
fewer [] left most rest few = subst (λ l. length (waiters l) ≤ most) (sym rest) few
fewer (x ∷ items) left most rest few = subst (λ l. length (waiters l) ≤ most) (sym rest) (let n : length (waiters items) + 1 ≡ length (waiters (x ∷ items)) = omega arith in omega arith)

-- ---- a barrier that leaves the waiting line

filter-append : (p : Waiter → Bool) (xs ys : List Waiter) → filter p (xs ++ ys) ≡ filter p xs ++ filter p ys
filter-append p [] ys = refl
filter-append p (x ∷ xs) ys =
    elim (p x) as (λ t. cond t (x ∷ filter p (xs ++ ys)) (filter p (xs ++ ys)) ≡ cond t (x ∷ filter p xs) (filter p xs) ++ filter p ys) [
      | true ↦ ap (λ l. x ∷ l) (filter-append p xs ys)
      | false ↦ filter-append p xs ys
    ]

due_now : (b : Bool) (event last : ℕ) → map waiter_line (cond b (waiter event last ∷ []) []) ≡ (if b then line.Barrier event last ∷ [] else [])
due_now true event last = refl
due_now false event last = refl

waits_now : (b : Bool) (event last : ℕ) → cond (not b) (waiter event last ∷ []) [] ≡ (if not b then waiter event last ∷ [] else [])
waits_now true event last = refl
waits_now false event last = refl

map-append : (xs ys : List Waiter) → map waiter_line (xs ++ ys) ≡ map waiter_line xs ++ map waiter_line ys
map-append [] ys = refl
map-append (x ∷ xs) ys = ap (λ l. waiter_line x ∷ l) (map-append xs ys)

-- where none was due, it is answered, or waits
pub leaves_line : (c : Serving) (r : Taken) (event : ℕ) → NoneDue c.acked c.barriers → is_barrier r.request ≡ true → r.event ≡ event
    → IsLeft c r (c.barriers ++ waiter event c.last ∷ [])
leaves_line c r event none is at =
    subst (λ v. IsLeft c r (c.barriers ++ waiter v c.last ∷ [])) at
    (record {
      lines =
          ap (map waiter_line) (filter-append (λ w. is_reached c.acked w) c.barriers (waiter r.event c.last ∷ []))
          ∙ map-append (filter (λ w. is_reached c.acked w) c.barriers) (filter (λ w. is_reached c.acked w) (waiter r.event c.last ∷ []))
          ∙ ap (λ l. l ++ map waiter_line (filter (λ w. is_reached c.acked w) (waiter r.event c.last ∷ []))) none.0
          ∙ due_now (nat_le c.last c.acked) r.event c.last
          ∙ sym (ap (λ t. if t && nat_le c.last c.acked then line.Barrier r.event c.last ∷ [] else []) is);
      waiting =
          filter-append (λ w. not (is_reached c.acked w)) c.barriers (waiter r.event c.last ∷ [])
          ∙ ap (λ l. l ++ filter (λ w. not (is_reached c.acked w)) (waiter r.event c.last ∷ [])) none.1
          ∙ ap (λ l. c.barriers ++ l) (waits_now (nat_le c.last c.acked) r.event c.last
          ∙ sym (ap (λ t. if t && not (nat_le c.last c.acked) then waiter r.event c.last ∷ [] else []) is));
    })

-- ---- a barrier comes

waiters-more : (items : List Barrier) (event front : ℕ) → waiters (items ++ record { event = event; front = front } ∷ []) ≡ waiters items ++ waiter event front ∷ []
waiters-more [] event front = refl
waiters-more (x ∷ items) event front = ap (λ l. waiter x.event x.front ∷ l) (waiters-more items event front)

pub comes_last : (items now : List Barrier) (event last : ℕ) → now ≡ items ++ record { event = event; front = last } ∷ [] → AreWaiting 0 (waiters items) last → AreWaiting 0 (waiters now) last
comes_last items now event last is waiting =
    subst (λ l. AreWaiting 0 l last) (sym (ap waiters is ∙ waiters-more items event last)) (waiting_more 0 (waiters items) event last waiting)

pub comes_few : (items now : List Barrier) (event last most : ℕ) → now ≡ items ++ record { event = event; front = last } ∷ [] → length (waiters items) < most → length (waiters now) ≤ most
comes_few items now event last most is few =
    let long : length (waiters now) ≡ length (waiters items) + 1 = ap length (ap waiters is ∙ waiters-more items event last) ∙ length-append (waiters items) (waiter event last ∷ []) in
    omega arith
