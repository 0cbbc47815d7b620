-- Every write that was taken asks for a block: it has at least one, and those out of the volume are refused.
use Rattle.std.proofs.Common.{◌≡◌, ℕ, ◌-◌, ◌<◌, ◌≤◌, ◌==◌, ◌||◌, nat_lt, nat_le, Bool, true, false, if◌then◌else◌, List, [], ◌∷◌, map, length, Option, None, Some, refl, sym, ap, subst, arith}
use Rattle.std.specs.Prelude.{find, slice_get}
use Rattle.std.specs.Option.{option_or, option_map}
use Rattle.std.specs.List.{list_any, AllByRecursion, range_with_len}
use Rattle.std.proofs.lemmas.Bool.{eq-eqb, leb-false}
use Rattle.salus_types.specs.Volume.{Shape, blocks}
use Rattle.schedule_text.specs.Limits.{IsEventWithin}
use Rattle.schedule_text.specs.declared.schedule.Event.{Event}
use Rattle.schedule_text.specs.declared.schedule.Event.TheVariants as event
use Rattle.printed_lines.specs.declared.line.RequestRefusal.{RequestRefusal}
use Rattle.salus_model.specs.declared.trace.Request.{Request}
use Rattle.salus_model.specs.declared.trace.Request.TheVariants as request
use Rattle.merkle_region.specs.Tree.{IsAmong}
use Rattle.volume_model.specs.Contents.{Batch}
use Rattle.volume_model.specs.Parts.{blocks_of}
use Rattle.salus_model.specs.Judge.{Judge}
use Rattle.salus_model.specs.Hearing.{Past, since, opens}
use Rattle.salus_model.specs.Waiting.{Taken, taken_in, all_taken, live, left_of, range_refusal}
use Rattle.client_rules.specs.State.{Serving}
use Rattle.client_rules.specs.Tables.{line_of}
use Rattle.client_rules.specs.Serving.{refusal_here}
use Rattle.list_lemmas.proofs.Each.{all_both, all_split, all_filter}
use Rattle.list_lemmas.proofs.Lists.{get_among}
use Rattle.list_lemmas.proofs.Members.{among_all, all_among, among_filter-in, among_range-in}
use Rattle.list_lemmas.proofs.Tests.{by_test}
use Rattle.law_lines.specs.Ready.{IsScripted}
use Rattle.law_lines.proofs.Ordered.{left-line}
use Rattle.law_answers.proofs.Turns.{none_found}

-- a write asks for a block
abbrev pub HasBlocks : Shape → Request → Type 0
HasBlocks shape (request.Write batch) = (b : ℕ) × IsAmong b (blocks_of shape batch)
HasBlocks shape other = Unit {0}

abbrev pub AllHaveBlocks : Shape → List Taken → Type 0
AllHaveBlocks shape rs = AllByRecursion (λ r. HasBlocks shape r.request) rs

first_none : (x y : Option RequestRefusal) → option_or x y ≡ None → x ≡ None
first_none None y is = refl
first_none (Some cause) y is = absurd (cc)

none_mapped : {A B : Type 0} (f : A → B) (o : Option A) → option_map f o ≡ None → o ≡ None
none_mapped f None is = refl
none_mapped f (Some x) is = absurd (cc)

batch_has : (shape : Shape) (c : Serving) (batch : Batch) → 1 ≤ length batch → refusal_here shape c (request.Write batch) ≡ None → HasBlocks shape (request.Write batch)
batch_has shape c [] few none = absurd (omega (arith, few))
batch_has shape c (w ∷ batch) few none =
    let found : find (λ n. nat_le (blocks shape) n) (map (λ w. w.block) (w ∷ batch)) ≡ None =
    none_mapped _ (find (λ n. nat_le (blocks shape) n) (map (λ w. w.block) (w ∷ batch))) (first_none (range_refusal (blocks shape) (map (λ w. w.block) (w ∷ batch))) _ none) in
    let all = none_found (λ n. nat_le (blocks shape) n) (map (λ w. w.block) (w ∷ batch)) found in
    let low : w.block < blocks shape = leb-false (blocks shape) w.block all.0 in (
      w.block,
      among_filter-in (λ b. list_any (λ u. u.block == b) (w ∷ batch)) (range_with_len 0 (blocks shape)) w.block
          (among_range-in (blocks shape) 0 w.block (omega arith) (omega (arith, low)))
          (ap (λ (x : Bool). x || list_any (λ u. u.block == w.block) batch) (eq-eqb w.block w.block refl)),
    )

some_of : {A : Type 0} (b : Bool) (o : Option A) (x : A) → (if b then o else None) ≡ Some x → o ≡ Some x
some_of true o x is = is
some_of false o x is = absurd (cc)

-- a request of the schedule that isn't refused
pub request_has : (shape : Shape) (events : List Event) (c : Serving) (v : ℕ) (q : Request) → AllByRecursion (IsEventWithin shape) events → IsScripted events v q → refusal_here shape c q ≡ None
    → HasBlocks shape q
request_has shape events c v (request.Write batch) within script none =
    let among : IsAmong (event.Write batch) events = get_among events (v - 1) (event.Write batch) (some_of (nat_lt 0 v) (slice_get events (v - 1)) (event.Write batch) script) in
    let of = among_all (IsEventWithin shape) events (event.Write batch) among within in
    batch_has shape c batch of.1.0 none
request_has shape events c v (request.Read b) within script none = tt
request_has shape events c v request.Barrier within script none = tt
request_has shape events c v (request.Restart e) within script none = tt
request_has shape events c v (request.Reassign e g) within script none = tt

pub next_blocks : (shape : Shape) (p : Past) (history : List Past) → ((r : Taken) → IsAmong r (taken_in p) → HasBlocks shape r.request)
    → AllHaveBlocks shape (all_taken (since opens history)) → AllHaveBlocks shape (all_taken (since opens (p ∷ history)))
unfolding since all_taken
next_blocks shape p history new all =
    by_test (λ (w : Bool). AllHaveBlocks shape (all_taken (if w then [] else p ∷ since opens history))) (opens p) (λ _. tt)
    (λ _. all_both (λ r. HasBlocks shape r.request) (all_taken (since opens history)) (taken_in p) all (all_among (λ (r : Taken). HasBlocks shape r.request) (taken_in p) new))

-- so has the head of the line
pub head_has : (shape : Shape) (history : List Past) (judge : Judge) (w : Taken) (behind : List Taken) → line_of (live history judge) ≡ w ∷ behind
    → AllHaveBlocks shape (all_taken (since opens history)) → HasBlocks shape w.request
unfolding live
head_has shape history judge w behind is all =
    (subst (AllHaveBlocks shape) is
    (all_split (λ r. HasBlocks shape r.request) (left_of (live history judge)) (line_of (live history judge))
    (subst (AllHaveBlocks shape) (sym (left-line (live history judge))) (all_filter (λ r. HasBlocks shape r.request) _ (all_taken (since opens history)) all))).1).0
