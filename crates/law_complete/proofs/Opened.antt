-- A session that can't be opened any more stays so: it was opened before, or it is known and isn't the one staged last. A session
-- that another takes the place of is one of these.
use Rattle.std.proofs.Common.{◌≡◌, ◌⊎◌, ◌∙◌, inl, inr, ⊎_elim, ℕ, ◌<◌, ◌==◌, ◌||◌, Bool, true, false, if◌then◌else◌, List, [], ◌∷◌, length, take, Option, None, Some, refl, sym, ap, subst, arith, eq-eqb, eqb-true}
use Rattle.std.specs.Prelude.{find}
use Rattle.std.specs.List.{list_any}
use Rattle.std.proofs.lemmas.Bool.{true≢false, or_left, or_right, ne_eqb}
use Rattle.std.proofs.lemmas.List.{length-take-le}
use Rattle.std.proofs.lemmas.Option.{none-some, same_Some}
use Rattle.salus_types.specs.Volume.{Shape}
use Rattle.schedule_text.specs.declared.schedule.Event.{Event}
use Rattle.printed_lines.specs.declared.line.Line.{Line}
use Rattle.printed_lines.specs.declared.line.Line.TheVariants as line
use Rattle.volume_model.specs.Parts.{Session}
use Rattle.salus_model.specs.Judge.{Judge, is_among, known_at, begun_from, opened_as, judged, judged_all, IsPrefixOf, IsOpened, IsLegalLine, AlongLines, first_session, start_judge}
use Rattle.salus_model.specs.Hearing.{is_open_line}
use Rattle.list_lemmas.proofs.Tests.{by_bool}
use Rattle.law_lemmas.proofs.Owned.{known-session}
use Rattle.law_lemmas.proofs.Settled.{now-known, open-at}
use Rattle.law_phases.proofs.Sees.{new_session, stage_comes, stage-new}

-- ---- sessions that are opened no more

-- the session that these have of that number
abbrev pub session_in : List Session → ℕ → Option Session
session_in others e = find (λ known. known.session == e) others

-- one of the other sessions, which isn't the one staged last
pub record IsUnstaged (e : ℕ) (others : List Session) (staged : Option ℕ) : Type 0 where
  pub known : Session
  pub at : session_in others e ≡ Some known
  pub later : staged ≡ Some e → ⊥

pub record IsGoneFrom (e now : ℕ) (others : List Session) (opened : List ℕ) (staged : Option ℕ) : Type 0 where
  pub away : now ≡ e → ⊥
  pub shut : (is_among e opened ≡ true) ⊎ IsUnstaged e others staged

-- session e isn't the one opened last, and no line opens it any more
abbrev pub IsGone : ℕ → Judge → Type 0
IsGone e judge = IsGoneFrom e judge.now.session judge.others judge.opened judge.staged

pub record IsOrderlyFrom (now : Session) (others : List Session) (opened : List ℕ) (staged : Option ℕ) : Type 0 where
  -- the session staged last is known
  pub known : (e : ℕ) → staged ≡ Some e → (k : Session) × ((if now.session == e then Some now else session_in others e) ≡ Some k)
  -- the session opened last isn't opened again
  pub once : (is_among now.session opened ≡ true) ⊎ (staged ≡ Some now.session → ⊥)
  -- one with batches of its own is that, or is opened no more
  pub own : (k : Session) (e : ℕ) → (if now.session == e then Some now else session_in others e) ≡ Some k → k.base < length k.list → (now.session ≡ e) ⊎ IsGoneFrom e now.session others opened staged

abbrev pub IsOrderly : Judge → Type 0
IsOrderly judge = IsOrderlyFrom judge.now judge.others judge.opened judge.staged

-- ---- one line

none_is_some : (e : ℕ) → None ≡ Some e → ⊥
none_is_some e same = absurd (cc)

module _ (shape : Shape) (events : List Event) (judge : Judge) where
  -- what a line leaves
  record Lasts (l : Line) : Type 0 where
    orderly : IsOrderly (judged events judge l)
    still : (e : ℕ) → IsGone e judge → IsGone e (judged events judge l)
    now : ((is_open_line l ≡ false) × ((judged events judge l).now.session ≡ judge.now.session)) ⊎ IsGone judge.now.session (judged events judge l)

  -- ---- a batch more

  submit_known : (t : Bool) (e : ℕ) (now more : Session) (o : Option Session) (k : Session) → (if t then Some now else o) ≡ Some k → (j : Session) × ((if t then Some more else o) ≡ Some j)
  submit_known true e now more o k is = (more, refl)
  submit_known false e now more o k is = (k, is)

  submit_lasts : (v s : ℕ) → IsOrderly judge → Lasts (line.Submit v s)
  submit_lasts v s i = record {
    orderly = record {
      known = λ e is. let k = i.known e is in submit_known (judge.now.session == e) e judge.now (judged events judge (line.Submit v s)).now (session_in judge.others e) k.0 k.1;
      once = i.once;
      own = λ k e at over. by_bool (judge.now.session == e) ((judge.now.session ≡ e) ⊎ IsGone e judge) (λ same. inl (eqb-true judge.now.session e same))
          (λ other. i.own k e (ap (λ (t : Bool). if t then Some judge.now else session_in judge.others e) other
          ∙ (sym (ap (λ (t : Bool). if t then Some (judged events judge (line.Submit v s)).now else session_in judge.others e) other) ∙ at)) over);
    };
    still = λ e gone. gone;
    now = inl (refl, refl);
  }

  -- ---- a session is staged

  module _ (e f s : ℕ) (legal : IsPrefixOf events judge e f s) (i : IsOrderly judge) where
    abbrev staged : Judge
    staged = judged events judge (line.Stage e f s)

    others_are : staged.others ≡ new_session shape events judge e f s legal ∷ judge.others
    others_are = ap (λ o. begun_from judge e s o) legal.known

    not_fresh : (k : Session) (n : ℕ) → known_at judge n ≡ Some k → e ≡ n → ⊥
    not_fresh k n at same = none-some k (sym legal.fresh ∙ (ap (known_at judge) same ∙ at))

    staged_still : (n : ℕ) → IsGone n judge → IsGone n staged
    staged_still n gone = record {
      away = gone.away;
      shut = ⊎_elim (λ (was : is_among n judge.opened ≡ true). inl was) (λ (other : IsUnstaged n judge.others judge.staged).
          (let apart : e ≡ n → ⊥ = not_fresh other.known n (ap (λ (t : Bool). if t then Some judge.now else session_in judge.others n) (ne_eqb judge.now.session n gone.away) ∙ other.at) in
          inr (record {
            known = other.known;
            at = ap (λ (l : List Session). session_in l n) others_are
                ∙ (ap (λ (t : Bool). if t then Some (new_session shape events judge e f s legal) else session_in judge.others n) (ne_eqb e n apart) ∙ other.at);
            later = λ is. apart (same_Some e n is);
          }))) gone.shut;
    }

    staged_own : (k : Session) (n : ℕ) → known_at staged n ≡ Some k → k.base < length k.list → (judge.now.session ≡ n) ⊎ IsGone n staged
    staged_own k n at over = elim (stage_comes shape events judge e f s legal k n at) [
      | inl old ↦ ⊎_elim (λ (here : judge.now.session ≡ n). inl here) (λ (gone : IsGone n judge). inr (staged_still n gone)) (i.own k n old over)
      | inr new ↦
          let short : length (take s legal.from.list) ≡ s = length-take-le s legal.from.list legal.within in
          let more : s < length (take s legal.from.list) = subst (λ (x : Session). x.base < length x.list) new.1 over in
          absurd (omega (arith, short, more))
    ]

    stage_lasts : Lasts (line.Stage e f s)
    stage_lasts = record {
      orderly = record {
        known = λ n is. (new_session shape events judge e f s legal, subst (λ (m : ℕ). known_at staged m ≡ Some (new_session shape events judge e f s legal)) (same_Some e n is) (stage-new shape events judge e f s legal));
        once = inr (λ is. not_fresh judge.now judge.now.session (now-known judge) (same_Some e judge.now.session is));
        own = staged_own;
      };
      still = staged_still;
      now = inl (refl, refl);
    }

  -- ---- a session is opened

  module _ (e : ℕ) (legal : IsOpened judge e) (i : IsOrderly judge) where
    abbrev known : Session
    known = (i.known e legal.last).0

    at : known_at judge e ≡ Some known
    at = (i.known e legal.last).1

    abbrev opened : Judge
    opened = record judge { now = known; acked = known.base; others = judge.now ∷ judge.others; submits = []; opened = e ∷ judge.opened }

    opened_is : judged events judge (line.Open e) ≡ opened
    opened_is = ap (opened_as judge e) at

    number : known.session ≡ e
    number = known-session judge e known at

    not_open : is_among e judge.opened ≡ true → ⊥
    not_open was = true≢false (sym was ∙ legal.once)

    -- a session that is opened no more isn't this one
    other_than : (n : ℕ) → IsGone n judge → e ≡ n → ⊥
    other_than n gone same =
        ⊎_elim (λ (was : is_among n judge.opened ≡ true). not_open (subst (λ (m : ℕ). is_among m judge.opened ≡ true) (sym same) was))
        (λ (other : IsUnstaged n judge.others judge.staged). other.later (legal.last ∙ ap Some same)) gone.shut

    opened_still : (n : ℕ) → IsGone n judge → IsGone n opened
    opened_still n gone = record {
      away = λ is. other_than n gone (sym number ∙ is);
      shut = ⊎_elim (λ (was : is_among n judge.opened ≡ true). inl (or_right (e == n) (is_among n judge.opened) was)) (λ (other : IsUnstaged n judge.others judge.staged). inr (record {
        known = other.known;
        at = ap (λ (t : Bool). if t then Some judge.now else session_in judge.others n) (ne_eqb judge.now.session n gone.away) ∙ other.at;
        later = other.later;
      })) gone.shut;
    }

    -- the session that was open till then
    not_again : judge.now.session ≡ e → ⊥
    not_again same =
        ⊎_elim (λ (was : is_among judge.now.session judge.opened ≡ true). not_open (subst (λ (m : ℕ). is_among m judge.opened ≡ true) same was))
        (λ (later : judge.staged ≡ Some judge.now.session → ⊥). later (legal.last ∙ ap Some (sym same))) i.once

    left : IsGone judge.now.session opened
    left = record {
      away = λ is. not_again (sym is ∙ number);
      shut = ⊎_elim (λ (was : is_among judge.now.session judge.opened ≡ true). inl (or_right (e == judge.now.session) (is_among judge.now.session judge.opened) was))
          (λ (later : judge.staged ≡ Some judge.now.session → ⊥). inr (record {
            known = judge.now;
            at = ap (λ (t : Bool). if t then Some judge.now else session_in judge.others judge.now.session) (eq-eqb judge.now.session judge.now.session refl);
            later = later;
          })) i.once;
    }

    known_then : (n : ℕ) → known_at opened n ≡ known_at judge n
    known_then n = ap (λ (j : Judge). known_at j n) (sym opened_is) ∙ open-at judge e n

    opened_own : (k : Session) (n : ℕ) → known_at opened n ≡ Some k → k.base < length k.list → (known.session ≡ n) ⊎ IsGone n opened
    opened_own k n here over = inr (⊎_elim (λ (was : judge.now.session ≡ n). subst (λ (m : ℕ). IsGone m opened) was left) (opened_still n) (i.own k n (sym (known_then n) ∙ here) over))

    open_lasts : Lasts (line.Open e)
    open_lasts = record {
      orderly = subst IsOrderly (sym opened_is) (record {
        known = λ n is. let k = i.known n is in (k.0, known_then n ∙ k.1);
        once = inl (or_left (e == known.session) (is_among known.session judge.opened) (eq-eqb e known.session (sym number)));
        own = opened_own;
      });
      still = λ n gone. subst (IsGone n) (sym opened_is) (opened_still n gone);
      now = inr (subst (IsGone judge.now.session) (sym opened_is) left);
    }

  -- ---- any line

  calm_lasts : (l : Line) → is_open_line l ≡ false → IsOrderly (judged events judge l) → ((e : ℕ) → IsGone e judge → IsGone e (judged events judge l)) → (judged events judge l).now.session ≡ judge.now.session → Lasts l
  calm_lasts l none i still same = record { orderly = i; still = still; now = inl (none, same) }

  line_lasts : (l : Line) → IsLegalLine shape events judge l → IsOrderly judge → Lasts l
  line_lasts (line.Submit v s) legal i = submit_lasts v s i
  line_lasts (line.Ack s) legal i = calm_lasts (line.Ack s) refl i (λ e gone. gone) refl
  line_lasts (line.Read v b x) legal i = calm_lasts (line.Read v b x) refl i (λ e gone. gone) refl
  line_lasts (line.Fault v b strikes) legal i = calm_lasts (line.Fault v b strikes) refl i (λ e gone. gone) refl
  line_lasts (line.Barrier v s) legal i = calm_lasts (line.Barrier v s) refl i (λ e gone. gone) refl
  line_lasts (line.Refused v cause) legal i = calm_lasts (line.Refused v cause) refl i (λ e gone. gone) refl
  line_lasts (line.Skip v k) legal i = calm_lasts (line.Skip v k) refl i (λ e gone. gone) refl
  line_lasts (line.Stage e f s) legal i = stage_lasts e f s legal i
  line_lasts (line.Open e) legal i = open_lasts e legal i
  line_lasts (line.Lost e) legal i = calm_lasts (line.Lost e) refl i (λ e gone. gone) refl

-- ---- the lines of a step

module _ (shape : Shape) (events : List Event) where
  -- what they leave: either none of them opens a session, or the one that was open is opened no more
  pub record AllLast (lines : List Line) (judge : Judge) : Type 0 where
    pub orderly : IsOrderly (judged_all events judge lines)
    pub still : (e : ℕ) → IsGone e judge → IsGone e (judged_all events judge lines)
    pub now : ((list_any is_open_line lines ≡ false) × ((judged_all events judge lines).now.session ≡ judge.now.session)) ⊎ IsGone judge.now.session (judged_all events judge lines)

  pub lines_last : (lines : List Line) (judge : Judge) → AlongLines (IsLegalLine shape events) events judge lines → IsOrderly judge → AllLast lines judge
  unfolding AlongLines judged_all
  lines_last [] judge legal i = record { orderly = i; still = λ e gone. gone; now = inl (refl, refl) }
  lines_last (l ∷ lines) judge legal i =
      let one : Lasts shape events judge l = line_lasts shape events judge l legal.0 i in
      let rest : AllLast lines (judged events judge l) = lines_last lines (judged events judge l) legal.1 one.orderly in
      record {
        orderly = rest.orderly;
        still = λ e gone. rest.still e (one.still e gone);
        now = both l lines judge one rest;
      }
    where
      both : (l : Line) (lines : List Line) (judge : Judge) → Lasts shape events judge l → AllLast lines (judged events judge l)
          → ((list_any is_open_line (l ∷ lines) ≡ false) × ((judged_all events (judged events judge l) lines).now.session ≡ judge.now.session)) ⊎ IsGone judge.now.session (judged_all events (judged events judge l) lines)
      both l lines judge one rest = elim one.now [
        | inr gone ↦ inr (rest.still judge.now.session gone)
        | inl same ↦ ⊎_elim (λ (also : (list_any is_open_line lines ≡ false) × ((judged_all events (judged events judge l) lines).now.session ≡ (judged events judge l).now.session)).
            inl (ap (λ (b : Bool). b || list_any is_open_line lines) same.0 ∙ also.0, also.1 ∙ same.1))
            (λ (gone : IsGone (judged events judge l).now.session (judged_all events (judged events judge l) lines)). inr (subst (λ (e : ℕ). IsGone e (judged_all events (judged events judge l) lines)) same.1 gone)) rest.now
      ]

-- before any line
pub start_orderly : (shape : Shape) → IsOrderly (start_judge shape)
start_orderly shape = record {
  known = λ e is. absurd (none_is_some e is);
  once = inr (λ is. none_is_some 1 is);
  own = λ k e at over. first e k ((first_session shape).session == e) at over;
}
  where
    first : (e : ℕ) (k : Session) (t : Bool) → (if t then Some (first_session shape) else None) ≡ Some k → k.base < length k.list → (1 ≡ e) ⊎ IsGone e (start_judge shape)
    first e k true at over = let more : 0 < 0 = subst (λ (x : Session). x.base < length x.list) (sym (same_Some (first_session shape) k at)) over in absurd (omega (arith, more))
    first e k false at over = absurd (none-some k at)
