-- Messages that are added to those of a world, and marks.
use Rattle.std.specs.Iterator.{Yields}
use Rattle.std.specs.Vec.Iter.{into_iter_items, into_iter_steps}
use Rattle.std.specs.declared.vec.IntoIter.{IntoIter}
use Rattle.std.proofs.lemmas.Bool.{eqb-true, eqb-false, ltb-true, ltb-false}
use Rattle.list_lemmas.proofs.Tests.{by_bool, way_with}
use Rattle.std.proofs.Common.{◌≡◌, ◌∙◌, ℕ, zero, suc, ◌+◌, ◌<◌, ◌≤◌, ◌==◌, nat_lt, append_assoc, append-nil, if◌then◌else◌, Bool, true, false, ◌||◌, List, [], ◌∷◌, ◌++◌, map, length, slice_get, slice_set, Some, refl, sym, ap, ap₂, subst, arith}
use Rattle.std.specs.Prelude.{filter}
use Rattle.std.specs.List.{AllByRecursion}
use Rattle.std.proofs.lemmas.List.{map-append, length-map}
use Rattle.std.proofs.lemmas.Option.{none-some, same_Some}
use Rattle.salus_types.specs.Volume.{Shape}
use Rattle.salus_types.specs.declared.names.Sender.{Sender}
use Rattle.salus_types.specs.declared.records.Out.{Out}
use Rattle.salus_model.specs.declared.sending.Sent.{Sent}
use Rattle.salus_model.specs.declared.trace.TraceStep.{TraceStep}
use Rattle.salus_model.specs.Following.{Posted, posted, posts_of, hands}
use Rattle.run_steps.specs.Waiting.{AreMarked}
use Rattle.run_steps.specs.Parties.{is_party, post_of, posts_by}
use Rattle.run_steps.proofs.Marking.{marks_still, marks_more, marks_handed}
use Rattle.salus_world.specs.Growing.{new_message, new_messages, mark_of, marks_of}

module _ (shape : Shape) (from : Sender) (outs : List Out) (old new : List Sent) (grown : new ≡ old ++ new_messages shape from outs) where
  as_posts : (l : List Out) → posts_of (map (λ out. new_message from out) l) ≡ map (λ out. post_of from out) l
  as_posts [] = refl
  as_posts (out ∷ l) = ap (λ (r : List Posted). post_of from out ∷ r) (as_posts l)

  pub grown_posts : posts_of new ≡ posts_of old ++ posts_by shape from outs
  grown_posts =
      ap posts_of grown ∙ (map-append posted old (new_messages shape from outs)
      ∙ ap (λ (l : List Posted). posts_of old ++ l) (as_posts (filter (λ out. is_party shape out.to) outs)))

  all_unmarked : (l : List Out) → AllByRecursion (λ b. b ≡ false) (marks_of (map (λ out. new_message from out) l))
  all_unmarked [] = tt
  all_unmarked (out ∷ l) = (refl, all_unmarked l)

  pub grown_marks : (earlier : List TraceStep) (dropped : List ℕ) (lowest : ℕ) → AreMarked earlier dropped lowest (marks_of old) → AreMarked earlier dropped lowest (marks_of new)
  grown_marks earlier dropped lowest marked =
      subst (λ (l : List Bool). AreMarked earlier dropped lowest l) (sym (ap marks_of grown ∙ map-append mark_of old (new_messages shape from outs)))
      (marks_more earlier dropped lowest (marks_of old) marked (marks_of (new_messages shape from outs)) (all_unmarked (filter (λ out. is_party shape out.to) outs)))

-- a message was marked as handed over by a step
pub handed_marks : (earlier : List TraceStep) (dropped : List ℕ) (lowest : ℕ) (old mid : List Sent) (step : TraceStep) (i : ℕ) → AreMarked earlier dropped lowest (marks_of old) → marks_of mid ≡ slice_set (marks_of old) i true
    → i < length old → ((k : ℕ) → hands k step.handed ≡ (i + 1 == k)) → AreMarked (step ∷ earlier) dropped lowest (marks_of mid)
handed_marks earlier dropped lowest old mid step i marked is inside hands_it =
    subst (λ (l : List Bool). AreMarked (step ∷ earlier) dropped lowest l) (sym is)
    (marks_handed earlier dropped lowest (marks_of old) marked step i (let long = length-map old mark_of in omega (arith, inside, long)) hands_it)

-- ---- a mark is set

set_posts : (sent : List Sent) (i : ℕ) (m n : Sent) → slice_get sent i ≡ Some m → posted n ≡ posted m → posts_of (slice_set sent i n) ≡ posts_of sent
set_posts [] i m n at same = refl
set_posts (x ∷ sent) zero m n at same = ap (λ (p : Posted). p ∷ posts_of sent) (same ∙ ap posted (sym (same_Some x m at)))
set_posts (x ∷ sent) (suc i) m n at same = ap (λ (l : List Posted). posted x ∷ l) (set_posts sent i m n at same)

set_marks : (sent : List Sent) (i : ℕ) (n : Sent) → mark_of n ≡ true → marks_of (slice_set sent i n) ≡ slice_set (marks_of sent) i true
set_marks [] i n is = refl
set_marks (x ∷ sent) zero n is = ap (λ (b : Bool). b ∷ marks_of sent) is
set_marks (x ∷ sent) (suc i) n is = ap (λ (l : List Bool). mark_of x ∷ l) (set_marks sent i n is)

-- in the message that an index finds
pub marked_posts : (old new : List Sent) (i : ℕ) (m n : Sent) → slice_get old i ≡ Some m → new ≡ slice_set old i n → posted n ≡ posted m → posts_of new ≡ posts_of old
marked_posts old new i m n at set same = ap posts_of set ∙ set_posts old i m n at same

pub marked_marks : (old new : List Sent) (i : ℕ) (n : Sent) → new ≡ slice_set old i n → mark_of n ≡ true → marks_of new ≡ slice_set (marks_of old) i true
marked_marks old new i n set is = ap marks_of set ∙ set_marks old i n is

pub or_yes : (b : Bool) → (b || true) ≡ true
or_yes true = refl
or_yes false = refl

-- ---- loops

-- what was given and what is left are all the items
pub taken_front : {X A : Type 0} (s : IntoIter X A) (xs : List X) (t : IntoIter X A) → Yields into_iter_steps s xs t → into_iter_items s ≡ xs ++ into_iter_items t
taken_front s [] t y = ap into_iter_items y
taken_front s (x ∷ xs) t y = y.1.0 ∙ ap (λ ys. x ∷ ys) (taken_front y.0 xs t y.2)

-- where nothing is left, all were given
pub all_given : {X : Type 0} (all given left : List X) → all ≡ given ++ left → length left ≡ 0 → given ≡ all
all_given all given [] e none = sym (e ∙ append-nil given)
all_given all given (x ∷ left) e none = absurd (omega arith)

filter_both : {A : Type 0} (test : A → Bool) (xs ys : List A) → filter test (xs ++ ys) ≡ filter test xs ++ filter test ys
filter_both test [] ys = refl
filter_both test (x ∷ xs) ys = way_with (test x) (x ∷ filter test (xs ++ ys)) (filter test (xs ++ ys)) (λ l. l ≡ (if test x then x ∷ filter test xs else filter test xs) ++ filter test ys)
    (λ is. ap (λ l. x ∷ l) (filter_both test xs ys) ∙ sym (ap (λ (b : Bool). (if b then x ∷ filter test xs else filter test xs) ++ filter test ys) is))
    (λ is. filter_both test xs ys ∙ sym (ap (λ (b : Bool). (if b then x ∷ filter test xs else filter test xs) ++ filter test ys) is))

-- one message more
pub messages_more : (shape : Shape) (from : Sender) (first : List Sent) (outs : List Out) (out : Out) → (first ++ new_messages shape from outs) ++ new_messages shape from (out ∷ []) ≡ first ++ new_messages shape from (outs ++ out ∷ [])
messages_more shape from first outs out =
    append_assoc first (new_messages shape from outs) (new_messages shape from (out ∷ [])) ∙ ap (λ (l : List Sent). first ++ l) (each outs)
  where
    each : (outs : List Out) → new_messages shape from outs ++ new_messages shape from (out ∷ []) ≡ new_messages shape from (outs ++ out ∷ [])
    each outs = sym (map-append (λ o. new_message from o) (filter (λ o. is_party shape o.to) outs) (filter (λ o. is_party shape o.to) (out ∷ []))) ∙ ap (λ (l : List Out). map (λ o. new_message from o) l) (sym (filter_both (λ o. is_party shape o.to) outs (out ∷ [])))

pub posted_one : (shape : Shape) (from : Sender) (first : List Sent) (outs : List Out) (out : Out) → is_party shape out.to ≡ true → (first ++ new_messages shape from outs) ++ new_message from out ∷ [] ≡ first ++ new_messages shape from (outs ++ out ∷ [])
posted_one shape from first outs out is =
    ap (λ (b : Bool). (first ++ new_messages shape from outs) ++ map (λ o. new_message from o) (if b then out ∷ [] else [])) (sym is) ∙ messages_more shape from first outs out

pub posted_none : (shape : Shape) (from : Sender) (first : List Sent) (outs : List Out) (out : Out) → is_party shape out.to ≡ false → first ++ new_messages shape from outs ≡ first ++ new_messages shape from (outs ++ out ∷ [])
posted_none shape from first outs out is =
    sym (append-nil (first ++ new_messages shape from outs))
    ∙ (ap (λ (b : Bool). (first ++ new_messages shape from outs) ++ map (λ o. new_message from o) (if b then out ∷ [] else [])) (sym is) ∙ messages_more shape from first outs out)

-- one mark more is passed
pub passed_more : (marks : List Bool) (from i : ℕ) → ((k : ℕ) → from ≤ k → k < i → slice_get marks k ≡ Some true) → slice_get marks i ≡ Some true → (k : ℕ) → from ≤ k → k < i + 1 → slice_get marks k ≡ Some true
passed_more marks from i so_far here k low high =
    by_bool (k == i) (slice_get marks k ≡ Some true) (λ e. subst (λ (j : ℕ). slice_get marks j ≡ Some true) (sym (eqb-true k i e)) here)
    (λ e. let differs = eqb-false k i e in so_far k low (below k i high differs))
  where
    below : (k i : ℕ) → k < i + 1 → (k ≡ i → ⊥) → k < i
    below k i high differs = by_bool (nat_lt k i) (k < i) (λ e. ltb-true k i e) (λ e. let more = ltb-false k i e in absurd (differs (omega (arith, more, high))))

pub mark_at : (sent : List Sent) (i : ℕ) (m : Sent) (b : Bool) → slice_get sent i ≡ Some m → mark_of m ≡ b → slice_get (marks_of sent) i ≡ Some b
mark_at [] i m b at is = absurd (none-some m at)
mark_at (x ∷ sent) zero m b at is = ap (λ (y : Sent). Some (mark_of y)) (same_Some x m at) ∙ ap (λ (t : Bool). Some t) is
mark_at (x ∷ sent) (suc i) m b at is = mark_at sent i m b at is
