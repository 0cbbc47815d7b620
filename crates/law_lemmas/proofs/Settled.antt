-- What the sessions that are known keep to.
use Rattle.std.proofs.Common.{◌≡◌, ◌⊎◌, ℕ, ◌+◌, ◌<◌, ◌≤◌, ◌∙◌, Bool, true, false, ◌==◌, cond, List, [], ◌∷◌, length, take, Option, None, Some, inl, inr, refl, ap, sym, subst, arith}
use Rattle.std.specs.Prelude.{find}
use Rattle.std.proofs.lemmas.Bool.{cases_Bool, eqb-true, eq-eqb, cond-true, cond_both, or_cases, false≢true}
use Rattle.std.proofs.lemmas.Option.{none-some, same_Some}
use Rattle.std.proofs.lemmas.List.{length-take-le, length-replicate}
use Rattle.salus_types.specs.Volume.{Shape, blocks}
use Rattle.schedule_text.specs.declared.schedule.Event.{Event}
use Rattle.printed_lines.specs.declared.line.Line.TheVariants as line
use Rattle.volume_model.specs.Parts.{Session}
use Rattle.salus_model.specs.Judge.{Judge, is_among, known_at, begun_from, opened_as, judged, IsPrefixOf, first_session, start_judge}
use Rattle.law_lemmas.proofs.Owned.{known_among, known-session}
use Rattle.law_lemmas.proofs.Growing.{IsGoing, Grows, extended-nothing, going-comes, sized-extended}
use Rattle.law_lemmas.proofs.Numbered.{IsSized}

abbrev pub EachKnown : Judge → (Session → Type 0) → Type 0
EachKnown judge P = (known : Session) (e : ℕ) → known_at judge e ≡ Some known → P known

-- each session that is known or was opened is below m
pub record IsBelow (judge : Judge) (m : ℕ) : Type 0 where
  pub known : (known : Session) (e : ℕ) → known_at judge e ≡ Some known → e < m
  pub opened : (e : ℕ) → is_among e judge.opened ≡ true → e < m

pub record IsSettled (shape : Shape) (judge : Judge) (top : ℕ) : Type 0 where
  pub sized : EachKnown judge (IsSized shape)
  pub below : IsBelow judge (top + 1)

pub now-known : (judge : Judge) → known_at judge judge.now.session ≡ Some judge.now
now-known judge = cond-true (judge.now.session == judge.now.session) (Some judge.now) _ (eq-eqb judge.now.session judge.now.session refl)

-- ---- the session goes on

module _ (before after : Judge) (going : IsGoing before after) where
  pub going-below : (m : ℕ) → IsBelow before m → IsBelow after m
  going-below m below = record {
    known = λ known e at. elim (going-comes before after going known e at) [ inl old ↦ below.known old.0 e old.2 | inr none ↦ absurd none ];
    opened = λ e among. below.opened e (subst (λ l. is_among e l ≡ true) going.opened among);
  }

  pub going-settled : (shape : Shape) (top : ℕ) → IsSettled shape before top → IsSettled shape after top
  going-settled shape top settled = record {
    sized = λ known e at. elim (going-comes before after going known e at) [
      | inl old ↦ subst (IsSized shape) (sym old.3) (sized-extended shape old.0 old.1 (settled.sized old.0 e old.2))
      | inr none ↦ absurd none
    ];
    below = going-below (top + 1) settled.below;
  }

pub below-wider : (judge : Judge) (m more : ℕ) → m ≤ more → IsBelow judge m → IsBelow judge more
below-wider judge m more h below = record {
  known = λ known e at. (let low = below.known known e at in omega arith);
  opened = λ e among. (let low = below.opened e among in omega arith);
}

pub settled-wider : (shape : Shape) (judge : Judge) (top more : ℕ) → top ≤ more → IsSettled shape judge top → IsSettled shape judge more
settled-wider shape judge top more h settled = record { sized = settled.sized; below = below-wider judge (top + 1) (more + 1) (omega arith) settled.below }

-- ---- a session is staged

-- the lowest unknown session isn't known, and wasn't opened
pub not_known : (judge : Judge) (e : ℕ) (o : Option Session) → known_at judge e ≡ o → IsBelow judge e → known_at judge e ≡ None
not_known judge e None is below = is
not_known judge e (Some known) is below = (let low = below.known known e is in absurd (omega arith))

pub not_opened : (judge : Judge) (e : ℕ) → IsBelow judge e → is_among e judge.opened ≡ false
not_opened judge e below = elim (cases_Bool (is_among e judge.opened)) [
  | inl is ↦ (let low = below.opened e is in absurd (omega arith))
  | inr isnt ↦ isnt
]

module _ (events : List Event) (judge : Judge) (e f s : ℕ) (legal : IsPrefixOf events judge e f s) where
  abbrev pub begun : Session
  begun = record { session = e; base = s; origin = legal.from.origin; list = take s legal.from.list }

  abbrev pub staged_after : Judge
  staged_after = judged events judge (line.Stage e f s)

  abbrev pub found_in : ℕ → Option Session
  found_in k = find (λ x. x.session == k) judge.others

  staged_at : (k : ℕ) → known_at staged_after k ≡ cond (judge.now.session == k) (Some judge.now) (cond (e == k) (Some begun) (found_in k))
  staged_at k = ap (λ o. cond (judge.now.session == k) (Some judge.now) (find (λ x. x.session == k) (begun_from judge e s o))) legal.known

  staged_old : (k : ℕ) (known : Session) (t u : Bool) → (e == k) ≡ u → (u ≡ true → cond t (Some judge.now) (found_in k) ≡ None) → cond t (Some judge.now) (found_in k) ≡ Some known
      → cond t (Some judge.now) (cond u (Some begun) (found_in k)) ≡ Some known
  staged_old k known true u is fresh at = at
  staged_old k known false true is fresh at = absurd (none-some known (sym (fresh refl) ∙ at))
  staged_old k known false false is fresh at = at

  pub stage-grows : Grows judge staged_after
  stage-grows = λ known k at. (
    [],
    staged_at k ∙ (staged_old k known (judge.now.session == k) (e == k) refl
        (λ t. subst (λ i. known_at judge i ≡ None) (eqb-true e k t) legal.fresh) at
        ∙ ap Some (sym (extended-nothing known))),
  )

  staged_new : (k : ℕ) (known : Session) (t u : Bool) → cond t (Some judge.now) (cond u (Some begun) (found_in k)) ≡ Some known
      → (cond t (Some judge.now) (found_in k) ≡ Some known) ⊎ ((u ≡ true) × (known ≡ begun))
  staged_new k known true u at = inl at
  staged_new k known false true at = inr (refl, sym (same_Some begun known at))
  staged_new k known false false at = inl at

  stage-comes : (known : Session) (k : ℕ) → known_at staged_after k ≡ Some known → (known_at judge k ≡ Some known) ⊎ ((e ≡ k) × (known ≡ begun))
  stage-comes known k at = elim (staged_new k known (judge.now.session == k) (e == k) (sym (staged_at k) ∙ at)) [
    | inl old ↦ inl old
    | inr new ↦ inr (eqb-true e k new.0, new.1)
  ]

  begun-sized : (shape : Shape) → IsSized shape legal.from → IsSized shape begun
  begun-sized shape sized =
      let short : length (take s legal.from.list) ≡ s = length-take-le s legal.from.list legal.within in
      record { long = sized.long; begun = omega arith }

  pub stage-settled : (shape : Shape) (top : ℕ) → e ≤ top → IsSettled shape judge top → IsSettled shape staged_after top
  stage-settled shape top within settled = record {
    sized = λ known k at. elim (stage-comes known k at) [
      | inl old ↦ settled.sized known k old
      | inr new ↦ subst (IsSized shape) (sym new.1) (begun-sized shape (settled.sized legal.from f legal.known))
    ];
    below = record {
      known = λ known k at. elim (stage-comes known k at) [
        | inl old ↦ settled.below.known known k old
        | inr new ↦ (let same : e ≡ k = new.0 in omega arith)
      ];
      opened = settled.below.opened;
    };
  }

-- ---- a session is opened

module _ (judge : Judge) (e : ℕ) where
  opened_same : (o : Option Session) → known_at judge e ≡ o → (k : ℕ) → known_at (opened_as judge e o) k ≡ known_at judge k
  opened_same None is k = refl
  opened_same (Some known) is k =
      cond_both {A = Option Session} (known.session == k) (Some known) (known_at judge k) (λ o. o ≡ known_at judge k)
      (λ t.
      let same : e ≡ k = sym (known-session judge e known is) ∙ eqb-true known.session k t in
      sym is ∙ ap (known_at judge) same)
      (λ t. refl)

  abbrev pub opened_after : Judge
  opened_after = opened_as judge e (known_at judge e)

  pub open-at : (k : ℕ) → known_at opened_after k ≡ known_at judge k
  open-at k = opened_same (known_at judge e) refl k

  opened_list : (o : Option Session) → (opened_as judge e o).opened ≡ e ∷ judge.opened
  opened_list None = refl
  opened_list (Some known) = refl

  opened_latest : (o : Option Session) → (opened_as judge e o).latest ≡ judge.latest
  opened_latest None = refl
  opened_latest (Some known) = refl

  opened_answered : (o : Option Session) → (opened_as judge e o).answered ≡ judge.answered
  opened_answered None = refl
  opened_answered (Some known) = refl

  pub open-latest : opened_after.latest ≡ judge.latest
  open-latest = opened_latest (known_at judge e)

  pub open-answered : opened_after.answered ≡ judge.answered
  open-answered = opened_answered (known_at judge e)

  opened_acked : (shape : Shape) (o : Option Session) → known_at judge e ≡ o → EachKnown judge (IsSized shape) → judge.acked ≤ length judge.now.list
      → (opened_as judge e o).acked ≤ length (opened_as judge e o).now.list
  opened_acked shape None is sized low = low
  opened_acked shape (Some known) is sized low = (sized known e is).begun

  pub open-acked : (shape : Shape) → EachKnown judge (IsSized shape) → judge.acked ≤ length judge.now.list → opened_after.acked ≤ length opened_after.now.list
  open-acked shape sized low = opened_acked shape (known_at judge e) refl sized low

  pub open-grows : Grows judge opened_after
  open-grows = λ known k at. ([], open-at k ∙ (at ∙ ap Some (sym (extended-nothing known))))

  pub open-settled : (shape : Shape) (top : ℕ) → e ≤ top → IsSettled shape judge top → IsSettled shape opened_after top
  open-settled shape top within settled = record {
    sized = λ known k at. settled.sized known k (sym (open-at k) ∙ at);
    below = record {
      known = λ known k at. settled.below.known known k (sym (open-at k) ∙ at);
      opened = λ k among. elim (or_cases (e == k) (is_among k judge.opened) (sym (ap (is_among k) (opened_list (known_at judge e))) ∙ among)) [
        | inl here ↦ (let same : e ≡ k = eqb-true e k here in omega arith)
        | inr old ↦ settled.below.opened k old
      ];
    };
  }

-- ---- at first

first_known : (shape : Shape) (e : ℕ) (known : Session) → known_at (start_judge shape) e ≡ Some known → first_session shape ≡ known
first_known shape e known at = elim (known_among (start_judge shape) e known at) [ inl same ↦ sym same | inr nothing ↦ absurd nothing ]

pub start_settled : (shape : Shape) → IsSettled shape (start_judge shape) 1
start_settled shape = record {
  sized = λ known e at. subst (IsSized shape) (first_known shape e known at) (record { long = length-replicate (blocks shape) _; begun = omega arith });
  below = record {
    known = λ known e at.
        let same : known.session ≡ e = known-session (start_judge shape) e known at in
        let one : 1 ≡ known.session = ap (λ k. k.session) (first_known shape e known at) in
        omega arith;
    opened = λ e among. absurd (false≢true among);
  };
}
