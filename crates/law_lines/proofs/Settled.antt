-- The barriers that are due are answered, and what is live then.
use Rattle.std.proofs.Common.{◌≡◌, ℕ, ◌<◌, ◌≤◌, Bool, true, false, not, cond, ◌&&◌, ◌||◌, ◌==◌, ◌∙◌, nat_le, if◌then◌else◌, List, [], ◌∷◌, ◌++◌, map, refl, ap, sym, arith, append_assoc, append-nil, eq-eqb, eqb-true}
use Rattle.std.specs.Prelude.{filter, flat_map}
use Rattle.std.specs.List.{list_any}
use Rattle.std.proofs.lemmas.List.Folds.{list_any-append}
use Rattle.std.proofs.lemmas.Bool.{false_from_ne_true}
use Rattle.schedule_text.specs.declared.schedule.Event.{Event}
use Rattle.printed_lines.specs.declared.line.Line.{Line}
use Rattle.printed_lines.specs.declared.line.Line.TheVariants as line
use Rattle.salus_model.specs.declared.trace.Request.{Request}
use Rattle.salus_model.specs.declared.trace.Request.TheVariants as request
use Rattle.salus_model.specs.Judge.{Judge, is_among, front_of, judged_all}
use Rattle.salus_model.specs.Waiting.{Taken, is_write, is_barrier, left_of, has_ended, unended}
use Rattle.salus_model.specs.Due.{barrier_due}
use Rattle.client_rules.specs.State.{Waiter}
use Rattle.client_rules.specs.Tables.{line_of, is_reached, waiter_line}
use Rattle.list_lemmas.proofs.Tests.{by_test, or_false, by_either}
use Rattle.law_lines.specs.Mirror.{Between, waiter_at}
use Rattle.law_lines.proofs.Ordered.{free-left, free-filter, between-ends, left_of-free, left_of-line, line_of-free, line_of-line}

-- ---- what has ended

-- without the requests of these events
abbrev pub without : List ℕ → List Taken → List Taken
without vs rs = filter (λ r. not (is_among r.event vs)) rs

filter-step : (t u : Bool) (r : Taken) (xs ys : List Taken) → xs ≡ ys → cond (not (t || u)) (r ∷ xs) xs ≡ cond (not t) (cond (not u) (r ∷ ys) ys) ys
filter-step true u r xs ys same = same
filter-step false true r xs ys same = same
filter-step false false r xs ys same = ap (λ l. r ∷ l) same

cond_filter : (f : Taken → Bool) (t : Bool) (r : Taken) (xs : List Taken) → filter f (cond t (r ∷ xs) xs) ≡ cond t (cond (f r) (r ∷ filter f xs) (filter f xs)) (filter f xs)
cond_filter f true r xs = refl
cond_filter f false r xs = refl

-- where these events besides have ended
pub unended-more : (judge next : Judge) (vs : List ℕ) → ((v : ℕ) → has_ended next v ≡ (has_ended judge v || is_among v vs))
    → (rs : List Taken) → unended next rs ≡ without vs (unended judge rs)
unended-more judge next vs more [] = refl
unended-more judge next vs more (r ∷ rs) =
    ap (λ t. cond (not t) (r ∷ unended next rs) (unended next rs)) (more r.event)
    ∙ filter-step (has_ended judge r.event) (is_among r.event vs) r (unended next rs) (without vs (unended judge rs)) (unended-more judge next vs more rs)
    ∙ sym (cond_filter (λ x. not (is_among x.event vs)) (not (has_ended judge r.event)) r (unended judge rs))

and_same : (t : Bool) (r : Taken) (xs ys : List Taken) → xs ≡ ys → cond t (cond t (r ∷ xs) xs) xs ≡ cond t (r ∷ ys) ys
and_same true r xs ys same = ap (λ l. r ∷ l) same
and_same false r xs ys same = same

pub unended-twice : (judge : Judge) (rs : List Taken) → unended judge (unended judge rs) ≡ unended judge rs
unended-twice judge [] = refl
unended-twice judge (r ∷ rs) =
    cond_filter (λ x. not (has_ended judge x.event)) (not (has_ended judge r.event)) r (unended judge rs)
    ∙ and_same (not (has_ended judge r.event)) r (unended judge (unended judge rs)) (unended judge rs) (unended-twice judge rs)

-- later events aren't among earlier ones
pub without-later : (vs : List ℕ) (low n : ℕ) (rs : List Taken) → ((v : ℕ) → is_among v vs ≡ true → v ≤ low) → Between low rs n → without vs rs ≡ rs
unfolding Between
without-later vs low n [] early b = refl
without-later vs low n (r ∷ rs) early b =
    let h = b.0 in
    by_test (λ t. is_among r.event vs ≡ t → cond (not t) (r ∷ without vs rs) (without vs rs) ≡ r ∷ rs) (is_among r.event vs)
    (λ _ hit. let e = early r.event hit in absurd (omega (arith, e, h)))
    (λ _ _. ap (λ l. r ∷ l) (without-later vs r.event n rs (λ v among. let e = early v among in omega (arith, e, h)) b.1)) refl

-- ---- the barriers that are due

abbrev pub is_due : Judge → Taken → Bool
is_due judge r = is_barrier r.request && nat_le (front_of judge r.event) judge.acked

abbrev pub due_event : Judge → Taken → List ℕ
due_event judge r = if is_due judge r then r.event ∷ [] else []

abbrev pub due_events : Judge → List Taken → List ℕ
due_events judge rs = flat_map (λ r. due_event judge r) rs

due_request_is : (judge : Judge) (v : ℕ) (r : Request)
    → barrier_due judge v r ≡ (if is_barrier r && nat_le (front_of judge v) judge.acked then line.Barrier v (front_of judge v) ∷ [] else [])
due_request_is judge v (request.Write batch) = refl
due_request_is judge v (request.Read b) = refl
due_request_is judge v request.Barrier = refl
due_request_is judge v (request.Restart e) = refl
due_request_is judge v (request.Reassign e g) = refl

pub barrier_due-is : (judge : Judge) (r : Taken) → barrier_due judge r.event r.request ≡ (if is_due judge r then line.Barrier r.event (front_of judge r.event) ∷ [] else [])
barrier_due-is judge r = due_request_is judge r.event r.request

unfoldable pub pushed : List ℕ → List ℕ → List ℕ
pushed vs [] = vs
pushed vs (u ∷ us) = pushed (u ∷ vs) us

abbrev pub with_answered : Judge → List ℕ → Judge
with_answered judge vs = record judge { answered = pushed judge.answered vs }

-- the judge after those lines: their barriers are answered
pub judged-barriers : (events : List Event) (told judge : Judge) (rs : List Taken)
    → judged_all events judge (flat_map (λ r. barrier_due told r.event r.request) rs) ≡ with_answered judge (due_events told rs)
unfolding judged_all pushed
judged-barriers events told judge [] = refl
judged-barriers events told judge (r ∷ rs) =
    rw (barrier_due-is told r)
    (by_test (λ t. judged_all events judge ((if t then line.Barrier r.event (front_of told r.event) ∷ [] else []) ++ flat_map (λ x. barrier_due told x.event x.request) rs)
    ≡ with_answered judge ((if t then r.event ∷ [] else []) ++ due_events told rs)) (is_due told r)
    (λ _. judged-barriers events told (record judge { answered = r.event ∷ judge.answered }) rs)
    (λ _. judged-barriers events told judge rs))

swap_or : (e b x : Bool) → (x || (e || b)) ≡ ((x || b) || e)
swap_or true true true = refl
swap_or true true false = refl
swap_or true false true = refl
swap_or true false false = refl
swap_or false true true = refl
swap_or false true false = refl
swap_or false false true = refl
swap_or false false false = refl

among-pushed : (v : ℕ) (vs us : List ℕ) → is_among v (pushed vs us) ≡ (is_among v vs || is_among v us)
unfolding pushed
among-pushed v vs [] = sym (or_false (is_among v vs))
among-pushed v vs (u ∷ us) =
    among-pushed v (u ∷ vs) us ∙ turn (u == v) (is_among v vs) (is_among v us)
  where
    turn : (a b c : Bool) → ((a || b) || c) ≡ (b || (a || c))
    turn true true c = refl
    turn true false c = refl
    turn false true c = refl
    turn false false c = refl

end_or : (a b c e : Bool) → (a || (b || e) || c) ≡ ((a || b || c) || e)
end_or true b c e = refl
end_or false true c e = refl
end_or false false true true = refl
end_or false false true false = refl
end_or false false false true = refl
end_or false false false false = refl

pub ended-answered : (judge : Judge) (us : List ℕ) (v : ℕ) → has_ended (with_answered judge us) v ≡ (has_ended judge v || is_among v us)
ended-answered judge us v =
    ap (λ t. is_among v judge.ended || t || list_any (λ s. s.event == v) judge.submits) (among-pushed v judge.answered us)
    ∙ end_or (is_among v judge.ended) (is_among v judge.answered) (list_any (λ s. s.event == v) judge.submits) (is_among v us)

-- ---- what stays

-- the events that are due are later than what stands before
dues-later : (judge : Judge) (low n : ℕ) (rs : List Taken) (v : ℕ) → Between low rs n → is_among v (due_events judge (left_of rs)) ≡ true → low < v
unfolding left_of Between
dues-later judge low n [] v b = λ among. absurd (cc)
dues-later judge low n (r ∷ rs) v b =
    let h = b.0 in
    by_test (λ t. is_among v (due_events judge (if t then [] else r ∷ left_of rs)) ≡ true → low < v) (is_write r.request)
    (λ _ among. absurd (cc))
    (λ _. by_test (λ t. is_among v ((if t then r.event ∷ [] else []) ++ due_events judge (left_of rs)) ≡ true → low < v) (is_due judge r)
    (λ _. by_test (λ t. (r.event == v) ≡ t → (t || is_among v (due_events judge (left_of rs))) ≡ true → low < v) (r.event == v)
    (λ _ at _. let same : r.event ≡ v = grind (arith, at) in omega (arith, h, same))
    (λ _ _ among. let late = dues-later judge r.event n rs v b.1 among in omega (arith, h, late)) refl)
    (λ _ among. let late = dues-later judge r.event n rs v b.1 among in omega (arith, h, late)))

-- and earlier than what comes
pub dues-below : (judge : Judge) (low n : ℕ) (rs : List Taken) (v : ℕ) → Between low rs n → is_among v (due_events judge (left_of rs)) ≡ true → v < n
unfolding left_of Between
dues-below judge low n [] v b = λ among. absurd (cc)
dues-below judge low n (r ∷ rs) v b =
    let h = between-ends r.event n rs b.1 in
    by_test (λ t. is_among v (due_events judge (if t then [] else r ∷ left_of rs)) ≡ true → v < n) (is_write r.request)
    (λ _ among. absurd (cc))
    (λ _. by_test (λ t. is_among v ((if t then r.event ∷ [] else []) ++ due_events judge (left_of rs)) ≡ true → v < n) (is_due judge r)
    (λ _. by_test (λ t. (r.event == v) ≡ t → (t || is_among v (due_events judge (left_of rs))) ≡ true → v < n) (r.event == v)
    (λ _ at _. let same : r.event ≡ v = eqb-true r.event v at in omega (arith, h, same))
    (λ _ _ among. dues-below judge r.event n rs v b.1 among) refl)
    (λ _ among. dues-below judge r.event n rs v b.1 among))

abbrev pub stays : Judge → List Taken → List Taken
stays judge rs = filter (λ r. not (is_due judge r)) (left_of rs) ++ line_of rs

among_one : (t : Bool) (v : ℕ) → is_among v (if t then v ∷ [] else []) ≡ t
among_one true v = let same : (v == v) ≡ true = eq-eqb v v refl in ap (λ u. u || false) same
among_one false v = refl

one_within : (t : Bool) (u v : ℕ) → is_among v (if t then u ∷ [] else []) ≡ true → v ≤ u
one_within false u v = λ among. absurd (cc)
one_within true u v =
    by_test (λ t. (u == v) ≡ t → (t || false) ≡ true → v ≤ u) (u == v) (λ _ at _. let same : u ≡ v = grind (arith, at) in omega (arith, same)) (λ _ _ among. absurd (cc)) refl

-- an event is among two lists
pub in_both : (v : ℕ) (xs ys : List ℕ) → is_among v (xs ++ ys) ≡ (is_among v xs || is_among v ys)
in_both v xs ys = list_any-append (λ u. u == v) xs ys

joined_stays : (t : Bool) (r : Taken) (xs line w : List Taken) → w ≡ xs ++ line → cond (not t) (r ∷ w) w ≡ cond (not t) (r ∷ xs) xs ++ line
joined_stays true r xs line w same = same
joined_stays false r xs line w same = ap (λ l. r ∷ l) same

settled-free : (judge : Judge) (early : List ℕ) (low n : ℕ) (r : Taken) (rs : List Taken) → ((v : ℕ) → is_among v early ≡ true → v ≤ low) → low < r.event
    → Between r.event rs n
    → (((v : ℕ) → is_among v (early ++ due_event judge r) ≡ true → v ≤ r.event) → without ((early ++ due_event judge r) ++ due_events judge (left_of rs)) rs ≡ stays judge rs)
    → without (early ++ (due_event judge r ++ due_events judge (left_of rs))) (r ∷ rs)
    ≡ cond (not (is_due judge r)) (r ∷ filter (λ x. not (is_due judge x)) (left_of rs)) (filter (λ x. not (is_due judge x)) (left_of rs)) ++ line_of rs
settled-free judge early low n r rs before above b rest =
    let none_early : is_among r.event early ≡ false = false_from_ne_true (is_among r.event early) (λ hit. let e = before r.event hit in omega (arith, e, above)) in
    let none_late : is_among r.event (due_events judge (left_of rs)) ≡ false =
    false_from_ne_true (is_among r.event (due_events judge (left_of rs))) (λ hit. let late = dues-later judge r.event n rs r.event b hit in omega (arith, late)) in
    let here : is_among r.event (early ++ (due_event judge r ++ due_events judge (left_of rs))) ≡ is_due judge r =
    in_both r.event early (due_event judge r ++ due_events judge (left_of rs))
    ∙ ap (λ t. t || is_among r.event (due_event judge r ++ due_events judge (left_of rs))) none_early
    ∙ in_both r.event (due_event judge r) (due_events judge (left_of rs))
    ∙ ap (λ t. is_among r.event (due_event judge r) || t) none_late
    ∙ or_false (is_among r.event (due_event judge r))
    ∙ among_one (is_due judge r) r.event in
    let within : (v : ℕ) → is_among v (early ++ due_event judge r) ≡ true → v ≤ r.event =
    λ v among. by_either (is_among v early) (is_among v (due_event judge r)) (v ≤ r.event) (sym (in_both v early (due_event judge r)) ∙ among)
    (λ hit. let e = before v hit in omega (arith, e, above)) (λ hit. one_within (is_due judge r) r.event v hit) in
    let others : without (early ++ (due_event judge r ++ due_events judge (left_of rs))) rs ≡ stays judge rs =
    ap (λ vs. without vs rs) (sym (append_assoc early (due_event judge r) (due_events judge (left_of rs)))) ∙ rest within in
    let all : List Taken = without (early ++ (due_event judge r ++ due_events judge (left_of rs))) rs in
    ap (λ t. cond (not t) (r ∷ all) all) here
    ∙ joined_stays (is_due judge r) r (filter (λ x. not (is_due judge x)) (left_of rs)) (line_of rs) all others

settled-step : (judge : Judge) (early : List ℕ) (low n : ℕ) (rs : List Taken) → ((v : ℕ) → is_among v early ≡ true → v ≤ low) → Between low rs n
    → without (early ++ due_events judge (left_of rs)) rs ≡ stays judge rs
unfolding left_of line_of Between
settled-step judge early low n [] before b = refl
settled-step judge early low n (r ∷ rs) before b =
    by_test (λ t. without (early ++ due_events judge (if t then [] else r ∷ left_of rs)) (r ∷ rs)
    ≡ filter (λ x. not (is_due judge x)) (if t then [] else r ∷ left_of rs) ++ (if t then r ∷ rs else line_of rs)) (is_write r.request)
    (λ _. ap (λ vs. without vs (r ∷ rs)) (append-nil early) ∙ without-later early low n (r ∷ rs) before b)
    (λ _. settled-free judge early low n r rs before b.0 b.1 (λ within. settled-step judge (early ++ due_event judge r) r.event n rs within b.1))

-- Where all barriers that are due are answered, the other requests stay.
pub settled : (judge : Judge) (low n : ℕ) (rs : List Taken) → Between low rs n
    → without (due_events judge (left_of rs)) rs ≡ filter (λ r. not (is_due judge r)) (left_of rs) ++ line_of rs
settled judge low n rs b = settled-step judge [] low n rs (λ v among. absurd (cc)) b

-- what has left then, and what is in the line
pub settled-left : (judge : Judge) (rs : List Taken) → left_of (filter (λ r. not (is_due judge r)) (left_of rs) ++ line_of rs) ≡ filter (λ r. not (is_due judge r)) (left_of rs)
settled-left judge rs =
    left_of-free (filter (λ r. not (is_due judge r)) (left_of rs)) (line_of rs) (free-filter (λ r. not (is_due judge r)) (left_of rs) (free-left rs))
    ∙ ap (λ l. filter (λ r. not (is_due judge r)) (left_of rs) ++ l) (left_of-line rs)
    ∙ append-nil (filter (λ r. not (is_due judge r)) (left_of rs))

pub settled-line : (judge : Judge) (rs : List Taken) → line_of (filter (λ r. not (is_due judge r)) (left_of rs) ++ line_of rs) ≡ line_of rs
settled-line judge rs =
    line_of-free (filter (λ r. not (is_due judge r)) (left_of rs)) (line_of rs) (free-filter (λ r. not (is_due judge r)) (left_of rs) (free-left rs)) ∙ line_of-line rs

-- none of those that stay is due
none_due : (t : Bool) (l : Line) (xs : List Taken) (r : Taken) (judge : Judge) → flat_map (λ x. barrier_due judge x.event x.request) xs ≡ []
    → is_due judge r ≡ t → flat_map (λ x. barrier_due judge x.event x.request) (cond (not t) (r ∷ xs) xs) ≡ []
none_due true l xs r judge none is = none
none_due false l xs r judge none is = rw (barrier_due-is judge r, is) none

pub settled-none : (judge : Judge) (rs : List Taken) → flat_map (λ x. barrier_due judge x.event x.request) (filter (λ r. not (is_due judge r)) rs) ≡ []
settled-none judge [] = refl
settled-none judge (r ∷ rs) = none_due (is_due judge r) (line.Ack 0) (filter (λ x. not (is_due judge x)) rs) r judge (settled-none judge rs) refl

-- ---- the table of barriers

waiters-step : (b t : Bool) (w : Waiter) (acked : ℕ) (ws : List Waiter) → is_reached acked w ≡ t
    → filter (λ x. not (is_reached acked x)) ((if b then w ∷ [] else []) ++ ws) ≡ (if b && t then [] else (if b then w ∷ [] else [])) ++ filter (λ x. not (is_reached acked x)) ws
waiters-step true true w acked ws is = rw is refl
waiters-step true false w acked ws is = rw is refl
waiters-step false t w acked ws is = refl

lines-step : (b t : Bool) (w : Waiter) (acked : ℕ) (ws : List Waiter) → is_reached acked w ≡ t
    → map waiter_line (filter (λ x. is_reached acked x) ((if b then w ∷ [] else []) ++ ws))
    ≡ (if b && t then waiter_line w ∷ [] else []) ++ map waiter_line (filter (λ x. is_reached acked x) ws)
lines-step true true w acked ws is = rw is refl
lines-step true false w acked ws is = rw is refl
lines-step false t w acked ws is = refl

-- the lines of the waiters that are reached are those of the barriers that are due
pub waiters-lines : (judge : Judge) (rs : List Taken)
    → map waiter_line (filter (λ w. is_reached judge.acked w) (flat_map (λ r. waiter_at judge r) rs)) ≡ flat_map (λ r. barrier_due judge r.event r.request) rs
waiters-lines judge [] = refl
waiters-lines judge (r ∷ rs) =
    lines-step (is_barrier r.request) (nat_le (front_of judge r.event) judge.acked) (record { event = r.event; front = front_of judge r.event }) judge.acked
    (flat_map (λ x. waiter_at judge x) rs) refl
    ∙ ap (λ l. (if is_due judge r then line.Barrier r.event (front_of judge r.event) ∷ [] else []) ++ l) (waiters-lines judge rs)
    ∙ ap (λ l. l ++ flat_map (λ x. barrier_due judge x.event x.request) rs) (sym (barrier_due-is judge r))

kept-step : (b t : Bool) (r : Taken) (judge : Judge) (rs : List Taken) → is_barrier r.request ≡ b
    → (if b && t then [] else (if b then record { event = r.event; front = front_of judge r.event } ∷ [] else [])) ++ flat_map (λ x. waiter_at judge x) rs
    ≡ flat_map (λ x. waiter_at judge x) (cond (not (b && t)) (r ∷ rs) rs)
kept-step true true r judge rs is = refl
kept-step true false r judge rs is = rw is refl
kept-step false t r judge rs is = rw is refl

-- the waiters that aren't reached are those of the requests that stay
pub waiters-kept : (judge : Judge) (rs : List Taken)
    → filter (λ w. not (is_reached judge.acked w)) (flat_map (λ r. waiter_at judge r) rs) ≡ flat_map (λ r. waiter_at judge r) (filter (λ r. not (is_due judge r)) rs)
waiters-kept judge [] = refl
waiters-kept judge (r ∷ rs) =
    waiters-step (is_barrier r.request) (nat_le (front_of judge r.event) judge.acked) (record { event = r.event; front = front_of judge r.event }) judge.acked
    (flat_map (λ x. waiter_at judge x) rs) refl
    ∙ ap (λ l. (if is_due judge r then [] else waiter_at judge r) ++ l) (waiters-kept judge rs)
    ∙ kept-step (is_barrier r.request) (nat_le (front_of judge r.event) judge.acked) r judge (filter (λ x. not (is_due judge x)) rs) refl
