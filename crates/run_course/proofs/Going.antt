-- A run by one more event, and what follows for a whole run.
use Rattle.std.proofs.Common.{◌≡◌, ◌∙◌, ℕ, zero, suc, ◌+◌, ◌-◌, ◌<◌, ◌≤◌, ◌==◌, Bool, true, false, if◌then◌else◌, List, [], ◌∷◌, ◌++◌, length, take, get_or, reverse, flat_map, refl, sym, ap, ap₂, subst, arith, append_assoc, length-append}
use Rattle.std.specs.List.{AllByRecursion}
use Rattle.std.proofs.lemmas.List.{append-nil, reverse-append, take_more, length-take-le}
use Rattle.std.proofs.lemmas.Bool.{eq-eqb, ne_eqb, cond-true, cond-false}
use Rattle.schedule_text.specs.declared.schedule.Volume.{Volume}
use Rattle.schedule_text.specs.declared.schedule.Event.{Event}
use Rattle.printed_lines.specs.declared.line.Line.{Line}
use Rattle.salus_model.specs.declared.trace.TraceStep.{TraceStep}
use Rattle.salus_model.specs.Judge.{start_judge}
use Rattle.salus_model.specs.Following.{Posted, sent_by, is_skipped, dropped_after, IsEventDone, FollowsFrom}
use Rattle.salus_model.specs.Hearing.{Past, Silence}
use Rattle.salus_model.specs.Due.{skip_line, of_event, past_event, sent_after, lines_from}
use Rattle.law_lines.specs.Running.{told_pasts}
use Rattle.run_course.specs.Course.{Course, IsEvent, Goes, sent_so_far, event_lines}

pub goes_push : (posts : List Posted) (n : ℕ) (events : List Event) (e : Event) (first mid last : Course) → Goes posts n events first mid → IsEvent posts (n + length events) e mid last → Goes posts n (events ++ e ∷ []) first last
unfolding Goes
goes_push posts n [] e first mid last so_far next =
    let here : IsEvent posts n e mid last = subst (λ (k : ℕ). IsEvent posts k e mid last) (omega arith) next in
    (last, subst (λ (c : Course). IsEvent posts n e c last) (sym so_far) here, refl)
goes_push posts n (x ∷ events) e first mid last so_far next =
    let here : IsEvent posts (n + 1 + length events) e mid last = subst (λ (k : ℕ). IsEvent posts k e mid last) (omega arith) next in
    (so_far.0, so_far.1, goes_push posts (n + 1) events e so_far.0 mid last so_far.2 here)

pub goes_none : (posts : List Posted) (n : ℕ) (first : Course) → Goes posts n [] first first
unfolding Goes
goes_none posts n first = refl

-- the next of the events
pub goes_next : (posts : List Posted) (events : List Event) (i : ℕ) (d : Event) (first mid last : Course) → i < length events → Goes posts 1 (take i events) first mid → IsEvent posts (i + 1) (get_or events i d) mid last → Goes posts 1 (take (i + 1) events) first last
goes_next posts events i d first mid last inside so_far next =
    let count : length (take i events) ≡ i = length-take-le i events (omega arith) in
    subst (λ (l : List Event). Goes posts 1 l first last) (sym (take_more events i d inside))
    (goes_push posts 1 (take i events) (get_or events i d) first mid last so_far (subst (λ (k : ℕ). IsEvent posts k (get_or events i d) mid last) (omega arith) next))

-- ---- the trace follows the schedule

record Followed (posts : List Posted) (n : ℕ) (events : List Event) (was now : Course) : Type 0 where
  steps : List TraceStep
  trace : now.trace ≡ was.trace ++ steps
  follows : FollowsFrom posts (reverse was.trace) was.dropped n events steps

goes_follows : (posts : List Posted) (n : ℕ) (events : List Event) (was now : Course) → Goes posts n events was now → sent_so_far now ≡ length posts → Followed posts n events was now
unfolding Goes FollowsFrom
goes_follows posts n [] was now same all = record {
  steps = [];
  trace = ap (λ (c : Course). c.trace) (sym same) ∙ sym (append-nil was.trace);
  follows = (refl, ap (λ (c : Course). sent_so_far c) same ∙ all);
}
goes_follows posts n (e ∷ events) was now goes all =
    let mid : Course = goes.0 in
    let one : IsEvent posts n e was mid = goes.1 in
    let more : Followed posts (n + 1) events mid now = goes_follows posts (n + 1) events mid now goes.2 all in
    let back : reverse mid.trace ≡ reverse one.here ++ reverse was.trace = ap reverse one.trace ∙ reverse-append was.trace one.here in
    record {
      steps = one.here ++ more.steps;
      trace = more.trace ∙ (ap (λ (l : List TraceStep). l ++ more.steps) one.trace ∙ append_assoc was.trace one.here more.steps);
      follows = (
        one.here,
        more.steps,
        refl,
        one.done,
        subst (λ (l : List ℕ). FollowsFrom posts (reverse one.here ++ reverse was.trace) l (n + 1) events more.steps) one.dropped
            (subst (λ (l : List TraceStep). FollowsFrom posts l mid.dropped (n + 1) events more.steps) back more.follows),
      );
    }

-- ---- the lines

-- the told steps of two runs, one after the other
told_both : (volume : Volume) (xs ys : List TraceStep) (ls ms : List (List Line)) → length ls ≡ length xs → told_pasts volume (xs ++ ys) (ls ++ ms) ≡ told_pasts volume xs ls ++ told_pasts volume ys ms
unfolding told_pasts
told_both volume [] ys [] ms same = refl
told_both volume [] ys (l ∷ ls) ms same = absurd (omega arith)
told_both volume (x ∷ xs) ys [] ms same = absurd (omega arith)
told_both volume (x ∷ xs) ys (l ∷ ls) ms same =
    ap (λ (ps : List Past). record { step = x; news = Silence; before = start_judge volume.geometry; lines = l } ∷ ps) (told_both volume xs ys ls ms (omega arith))

-- of event n are those of these steps, where all that come later are of later events
of_these : (volume : Volume) (n : ℕ) (xs ys : List TraceStep) (ls ms : List (List Line)) → length ls ≡ length xs → AllByRecursion (λ step. step.event ≡ n) xs → AllByRecursion (λ step. n + 1 ≤ step.event) ys
    → of_event n (told_pasts volume xs ls ++ told_pasts volume ys ms) ≡ told_pasts volume xs ls
unfolding told_pasts of_event
of_these volume n [] [] [] ms same here later = refl
of_these volume n [] (y ∷ ys) [] [] same here later = refl
of_these volume n [] (y ∷ ys) [] (m ∷ ms) same here later = cond-false (y.event == n) _ [] (ne_eqb y.event n (λ e. let up : n + 1 ≤ y.event = later.0 in omega arith))
of_these volume n [] ys (l ∷ ls) ms same here later = absurd (omega arith)
of_these volume n (x ∷ xs) ys [] ms same here later = absurd (omega arith)
of_these volume n (x ∷ xs) ys (l ∷ ls) ms same here later =
    cond-true (x.event == n) _ [] (eq-eqb x.event n here.0)
    ∙ ap (λ (ps : List Past). record { step = x; news = Silence; before = start_judge volume.geometry; lines = l } ∷ ps) (of_these volume n xs ys ls ms (omega arith) here.1 later)

past_these : (volume : Volume) (n : ℕ) (xs ys : List TraceStep) (ls ms : List (List Line)) → length ls ≡ length xs → AllByRecursion (λ step. step.event ≡ n) xs → AllByRecursion (λ step. n + 1 ≤ step.event) ys
    → past_event n (told_pasts volume xs ls ++ told_pasts volume ys ms) ≡ told_pasts volume ys ms
unfolding told_pasts past_event
past_these volume n [] [] [] ms same here later = refl
past_these volume n [] (y ∷ ys) [] [] same here later = refl
past_these volume n [] (y ∷ ys) [] (m ∷ ms) same here later = cond-false (y.event == n) (past_event n (told_pasts volume ys ms)) _ (ne_eqb y.event n (λ e. let up : n + 1 ≤ y.event = later.0 in omega arith))
past_these volume n [] ys (l ∷ ls) ms same here later = absurd (omega arith)
past_these volume n (x ∷ xs) ys [] ms same here later = absurd (omega arith)
past_these volume n (x ∷ xs) ys (l ∷ ls) ms same here later =
    cond-true (x.event == n) (past_event n (told_pasts volume xs ls ++ told_pasts volume ys ms)) _ (eq-eqb x.event n here.0) ∙ past_these volume n xs ys ls ms (omega arith) here.1 later

lines_these : (volume : Volume) (xs : List TraceStep) (ls : List (List Line)) → length ls ≡ length xs → flat_map (λ (p : Past). p.lines) (told_pasts volume xs ls) ≡ flat_map (λ l. l) ls
unfolding told_pasts
lines_these volume [] [] same = refl
lines_these volume [] (l ∷ ls) same = absurd (omega arith)
lines_these volume (x ∷ xs) [] same = absurd (omega arith)
lines_these volume (x ∷ xs) (l ∷ ls) same = ap (λ (m : List Line). l ++ m) (lines_these volume xs ls (omega arith))

sent_these : (volume : Volume) (xs earlier : List TraceStep) (ls : List (List Line)) → length ls ≡ length xs → sent_after (sent_by earlier) (told_pasts volume xs ls) ≡ sent_by (reverse xs ++ earlier)
unfolding told_pasts sent_after
sent_these volume [] earlier [] same = refl
sent_these volume [] earlier (l ∷ ls) same = absurd (omega arith)
sent_these volume (x ∷ xs) earlier [] same = absurd (omega arith)
sent_these volume (x ∷ xs) earlier (l ∷ ls) same =
    sent_these volume xs (x ∷ earlier) ls (omega arith)
    ∙ ap sent_by (sym (append_assoc (reverse xs) (x ∷ []) earlier) ∙ ap (λ (r : List TraceStep). r ++ earlier) (sym (reverse-append (x ∷ []) xs)))

record Printed (volume : Volume) (all : List Event) (posts : List Posted) (n : ℕ) (events : List Event) (was now : Course) : Type 0 where
  steps : List TraceStep
  said : List (List Line)
  trace : now.trace ≡ was.trace ++ steps
  told : now.told ≡ was.told ++ said
  each : length said ≡ length steps
  later : AllByRecursion (λ step. n ≤ step.event) steps
  lines : now.lines ≡ was.lines ++ lines_from volume all posts (sent_so_far was) n events (told_pasts volume steps said)

all_later : (n : ℕ) (steps : List TraceStep) → AllByRecursion (λ step. n + 1 ≤ step.event) steps → AllByRecursion (λ step. n ≤ step.event) steps
all_later n [] all = tt
all_later n (x ∷ steps) all = (let up : n + 1 ≤ x.event = all.0 in omega arith, all_later n steps all.1)

these_later : (n : ℕ) (here rest : List TraceStep) → AllByRecursion (λ step. step.event ≡ n) here → AllByRecursion (λ step. n ≤ step.event) rest → AllByRecursion (λ step. n ≤ step.event) (here ++ rest)
these_later n [] rest here later = later
these_later n (x ∷ xs) rest here later = (let same : x.event ≡ n = here.0 in omega arith, these_later n xs rest here.1 later)

-- the lines of one event, before those of the others
split_lines : (volume : Volume) (all : List Event) (posts : List Posted) (n : ℕ) (e : Event) (events : List Event) (was mid : Course) (xs ys : List TraceStep) (ls ms : List (List Line)) → length ls ≡ length xs → AllByRecursion (λ step. step.event ≡ n) xs → AllByRecursion (λ step. n + 1 ≤ step.event) ys
    → sent_so_far mid ≡ sent_by (reverse xs ++ reverse was.trace)
    → lines_from volume all posts (sent_so_far was) n (e ∷ events) (told_pasts volume (xs ++ ys) (ls ++ ms)) ≡ event_lines posts n e was ls ++ lines_from volume all posts (sent_so_far mid) (n + 1) events (told_pasts volume ys ms)
unfolding lines_from
split_lines volume all posts n e events was mid xs ys ls ms same here later count =
    let both = told_both volume xs ys ls ms same in
    let sent : ℕ = sent_so_far was in
    let skips : Bool = is_skipped posts sent e in
    let mine : of_event n (told_pasts volume (xs ++ ys) (ls ++ ms)) ≡ told_pasts volume xs ls = ap (of_event n) both ∙ of_these volume n xs ys ls ms same here later in
    let theirs : past_event n (told_pasts volume (xs ++ ys) (ls ++ ms)) ≡ told_pasts volume ys ms = ap (past_event n) both ∙ past_these volume n xs ys ls ms same here later in
    let number : sent_after sent (of_event n (told_pasts volume (xs ++ ys) (ls ++ ms))) ≡ sent_so_far mid = ap (sent_after sent) mine ∙ (sent_these volume xs (reverse was.trace) ls same ∙ sym count) in
    let print : flat_map (λ (p : Past). p.lines) (of_event n (told_pasts volume (xs ++ ys) (ls ++ ms))) ≡ flat_map (λ l. l) ls = ap (λ (ps : List Past). flat_map (λ (p : Past). p.lines) ps) mine ∙ lines_these volume xs ls same in
    ap₂ (λ (a b : List Line). a ++ b) (ap (λ (l : List Line). if skips then skip_line n e else l) print)
    (ap (λ (s : ℕ). lines_from volume all posts s (n + 1) events (past_event n (told_pasts volume (xs ++ ys) (ls ++ ms)))) number ∙ ap (λ (ps : List Past). lines_from volume all posts (sent_so_far mid) (n + 1) events ps) theirs)

goes_prints : (volume : Volume) (all : List Event) (posts : List Posted) (n : ℕ) (events : List Event) (was now : Course) → Goes posts n events was now → Printed volume all posts n events was now
unfolding Goes lines_from
goes_prints volume all posts n [] was now same = record {
  steps = [];
  said = [];
  trace = ap (λ (c : Course). c.trace) (sym same) ∙ sym (append-nil was.trace);
  told = ap (λ (c : Course). c.told) (sym same) ∙ sym (append-nil was.told);
  each = refl;
  later = tt;
  lines = ap (λ (c : Course). c.lines) (sym same) ∙ sym (append-nil was.lines);
}
goes_prints volume all posts n (e ∷ events) was now goes =
    let mid : Course = goes.0 in
    let one : IsEvent posts n e was mid = goes.1 in
    let more : Printed volume all posts (n + 1) events mid now = goes_prints volume all posts (n + 1) events mid now goes.2 in
    let back : sent_so_far mid ≡ sent_by (reverse one.here ++ reverse was.trace) = ap sent_by (ap reverse one.trace ∙ reverse-append was.trace one.here) in
    let split = split_lines volume all posts n e events was mid one.here more.steps one.said more.said one.each one.numbered more.later back in
    record {
      steps = one.here ++ more.steps;
      said = one.said ++ more.said;
      trace = more.trace ∙ (ap (λ (l : List TraceStep). l ++ more.steps) one.trace ∙ append_assoc was.trace one.here more.steps);
      told = more.told ∙ (ap (λ (l : List (List Line)). l ++ more.said) one.told ∙ append_assoc was.told one.said more.said);
      each = length-append one.said more.said ∙ (ap₂ (λ (a b : ℕ). a + b) one.each more.each ∙ sym (length-append one.here more.steps));
      later = these_later n one.here more.steps one.numbered (all_later n more.steps more.later);
      lines = more.lines ∙ (ap (λ (l : List Line). l ++ lines_from volume all posts (sent_so_far mid) (n + 1) events (told_pasts volume more.steps more.said)) one.lines
          ∙ (append_assoc was.lines (event_lines posts n e was one.said) (lines_from volume all posts (sent_so_far mid) (n + 1) events (told_pasts volume more.steps more.said)) ∙ ap (λ (l : List Line). was.lines ++ l) (sym split)));
    }

-- ---- a whole run

pub record Whole (volume : Volume) (posts : List Posted) (events : List Event) (now : Course) : Type 0 where
  pub follows : FollowsFrom posts [] [] 1 events now.trace
  pub lines : now.lines ≡ lines_from volume events posts 0 1 events (told_pasts volume now.trace now.told)

pub goes_whole : (volume : Volume) (posts : List Posted) (events : List Event) (now : Course) → Goes posts 1 events (record { trace = []; dropped = []; told = []; lines = [] }) now → sent_so_far now ≡ length posts → Whole volume posts events now
goes_whole volume posts events now goes all =
    let begin : Course = record { trace = []; dropped = []; told = []; lines = [] } in
    let followed : Followed posts 1 events begin now = goes_follows posts 1 events begin now goes all in
    let printed : Printed volume events posts 1 events begin now = goes_prints volume events posts 1 events begin now goes in
    record {
      follows = subst (λ (l : List TraceStep). FollowsFrom posts [] [] 1 events l) (sym followed.trace) followed.follows;
      lines = printed.lines ∙ ap₂ (λ (t : List TraceStep) (s : List (List Line)). lines_from volume events posts 0 1 events (told_pasts volume t s)) (sym printed.trace) (sym printed.told);
    }
