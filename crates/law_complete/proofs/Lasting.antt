-- What a step in which the client heard of a session's own batch tells at the end: if that session is the one opened last, none was
-- opened since.
use Rattle.std.proofs.Common.{◌≡◌, ◌⊎◌, ◌∙◌, inl, inr, ⊎_elim, ℕ, ◌<◌, ◌≤◌, Bool, false, if◌then◌else◌, List, [], ◌∷◌, length, refl, sym, ap, subst, arith}
use Rattle.std.specs.List.{list_any}
use Rattle.std.proofs.lemmas.Option.{same_Some}
use Rattle.salus_types.specs.Volume.{Shape}
use Rattle.schedule_text.specs.declared.schedule.Event.{Event}
use Rattle.merkle_region.specs.Tree.{IsAmong}
use Rattle.volume_model.specs.Parts.{Session}
use Rattle.salus_model.specs.Judge.{Judge, judged_all}
use Rattle.salus_model.specs.Hearing.{Past, since, opens, is_open_line}
use Rattle.law_lemmas.proofs.Growing.{Grows, extended}
use Rattle.law_lemmas.proofs.Settled.{now-known}
use Rattle.law_complete.proofs.HearingKnown.{IsKnownUpTo}
use Rattle.law_complete.proofs.Opened.{IsGone, IsOrderly, AllLast}

-- What was opened no more before the step isn't since; and the session that was open then is, with no other opened since, or it is
-- opened no more.
pub record IsLasting (history : List Past) (judge : Judge) (q : Past) : Type 0 where
  pub orderly : IsOrderly q.before
  pub still : (e : ℕ) → IsGone e q.before → IsGone e judge
  pub now : (IsAmong q (since opens history) × (q.before.now.session ≡ judge.now.session)) ⊎ IsGone q.before.now.session judge

module _ (shape : Shape) (events : List Event) (history : List Past) (p : Past) (all : AllLast shape events p.lines p.before) where
  abbrev after : Judge
  after = judged_all events p.before p.lines

  unopened : list_any is_open_line p.lines ≡ false → (q : Past) → IsAmong q (p ∷ since opens history) → IsAmong q (since opens (p ∷ history))
  unfolding since
  unopened none q among = subst (λ (b : Bool). IsAmong q (if b then [] else p ∷ since opens history)) (sym none) among

  -- the step itself
  lasting_new : IsOrderly p.before → IsLasting (p ∷ history) after p
  lasting_new orderly = record {
    orderly = orderly;
    still = all.still;
    now = ⊎_elim (λ (same : (list_any is_open_line p.lines ≡ false) × (after.now.session ≡ p.before.now.session)). inl (unopened same.0 p (inl refl), sym same.1)) (λ (gone : IsGone p.before.now.session after). inr gone) all.now;
  }

  -- one before it
  lasting_old : (q : Past) → IsLasting history p.before q → IsLasting (p ∷ history) after q
  lasting_old q was = record {
    orderly = was.orderly;
    still = λ e gone. all.still e (was.still e gone);
    now = by was.now;
  }
    where
      by : (IsAmong q (since opens history) × (q.before.now.session ≡ p.before.now.session)) ⊎ IsGone q.before.now.session p.before
          → (IsAmong q (since opens (p ∷ history)) × (q.before.now.session ≡ after.now.session)) ⊎ IsGone q.before.now.session after
      by (inr gone) = inr (all.still q.before.now.session gone)
      by (inl here) =
          ⊎_elim (λ (same : (list_any is_open_line p.lines ≡ false) × (after.now.session ≡ p.before.now.session)). inl (unopened same.0 q (inr here.0), here.1 ∙ sym same.1))
          (λ (gone : IsGone p.before.now.session after). inr (subst (λ (e : ℕ). IsGone e after) (sym here.1) gone)) all.now

  pub lasting_then : IsOrderly p.before → ((q : Past) → IsAmong q history → IsLasting history p.before q) → (q : Past) → IsAmong q (p ∷ history) → IsLasting (p ∷ history) after q
  lasting_then orderly old q (inl same) = subst (λ (r : Past). IsLasting (p ∷ history) after r) (sym same) (lasting_new orderly)
  lasting_then orderly old q (inr among) = lasting_old q (old q among)

-- At the end: a batch of the session opened last, above its base, was known when the step was done; so the session was open then.
pub known_since : (history : List Past) (judge : Judge) (q : Past) → IsLasting history judge q → Grows q.before judge → (front : ℕ) → IsKnownUpTo q.before judge.now.session front → judge.now.base < front
    → IsAmong q (since opens history)
known_since history judge q lasts grows front k over =
    let e : ℕ = judge.now.session in
    let more = grows k.known e k.at in
    let same : extended k.known more.0 ≡ judge.now = same_Some (extended k.known more.0) judge.now (sym more.1 ∙ now-known judge) in
    let base : k.known.base ≡ judge.now.base = ap (λ (s : Session). s.base) same in
    let within : front ≤ length k.known.list = k.within in
    ⊎_elim (λ (here : q.before.now.session ≡ e).
    ⊎_elim (λ (in_it : IsAmong q (since opens history) × (q.before.now.session ≡ e)). in_it.0) (λ (gone : IsGone q.before.now.session judge). absurd (gone.away (sym here))) lasts.now)
    (λ (gone : IsGone e q.before). absurd ((lasts.still e gone).away refl)) (lasts.orderly.own k.known e k.at (omega (arith, base, within, over)))
