-- Every session that legal lines make known keeps to what its records need to count.
use Rattle.std.proofs.Common.{◌≡◌, ◌⊎◌, ℕ, zero, suc, ◌+◌, ◌-◌, ◌<◌, ◌≤◌, ◌∙◌, Bool, true, false, ◌==◌, nat_lt, cond, List, [], ◌∷◌, ◌++◌, length, take, Option, None, Some, inl, inr, refl, ap, sym, subst, arith, length-append}
use Rattle.std.specs.Prelude.{slice_get}
use Rattle.std.specs.List.{AllByRecursion, list_any}
use Rattle.std.specs.Option.{option_to_list}
use Rattle.std.proofs.lemmas.Bool.{eq-eqb, or_left, cond_both}
use Rattle.std.proofs.lemmas.Option.{none-some, same_Some, slice_get_within}
use Rattle.std.proofs.lemmas.List.{length-take-le, length-replicate}
use Rattle.salus_types.specs.Volume.{Shape, blocks}
use Rattle.salus_types.specs.declared.records.Write.{Write}
use Rattle.merkle_region.specs.Tree.{IsAmong}
use Rattle.schedule_text.specs.declared.schedule.Volume.{Volume}
use Rattle.schedule_text.specs.declared.schedule.Event.{Event}
use Rattle.schedule_text.specs.declared.schedule.Event.TheVariants as event
use Rattle.schedule_text.specs.Grammar.{RisesFrom, session_of, sessions_of}
use Rattle.schedule_text.specs.Limits.{IsEventWithin, IsWithinLimits}
use Rattle.printed_lines.specs.declared.line.Line.{Line}
use Rattle.printed_lines.specs.declared.line.Line.TheVariants as line
use Rattle.volume_model.specs.Contents.{Batch, region_of}
use Rattle.volume_model.specs.Parts.{Session}
use Rattle.salus_model.specs.Judge.{Judge, event_at, batch_of, known_at, judged, judged_all, first_session, start_judge, IsNextBatch, AsksToOpen, IsPrefixOf, IsLegalLine, AlongLines}
use Rattle.list_lemmas.proofs.Each.{all_both}
use Rattle.list_lemmas.proofs.Lists.{get_among}
use Rattle.list_lemmas.proofs.Members.{among_all, among_flat_map-in}
use Rattle.law_lemmas.proofs.Regional.{in_region}
use Rattle.law_lemmas.proofs.Growing.{extended}
use Rattle.law_lemmas.proofs.Owned.{known_among}
use Rattle.law_lemmas.proofs.Settled.{now-known, open-at, open-latest}
use Rattle.law_records.specs.Sessions.{TouchesSome, IsCountable}
use Rattle.law_phases.specs.Opening.{AreCountable}
use Rattle.law_phases.proofs.Sees.{submit-at, found_in, new_session, stage_comes}

-- ---- events

at_event : (events : List Event) (v : ℕ) (e : Event) → event_at events v ≡ Some e → slice_get events (v - 1) ≡ Some e
at_event events v e at =
    cond_both {A = Option Event} (nat_lt 0 v) (slice_get events (v - 1)) None (λ o. o ≡ Some e → slice_get events (v - 1) ≡ Some e) (λ t is. is) (λ t none. absurd (none-some e none)) at

rising_above : (latest : ℕ) (sessions : List ℕ) (e : ℕ) → RisesFrom latest sessions → IsAmong e sessions → latest < e
rising_above latest [] e rises m = absurd m
rising_above latest (x ∷ sessions) e rises (inl is) = let above = rises.0 in omega (arith, above, is)
rising_above latest (x ∷ sessions) e rises (inr m) = let above = rises.0 in let more = rising_above x sessions e rises.1 m in omega (arith, above, more)

session_rises : (events : List Event) (v e : ℕ) (ev : Event) → RisesFrom 1 (sessions_of events) → event_at events v ≡ Some ev → session_of ev ≡ Some e → 1 < e
session_rises events v e ev rises at session =
    rising_above 1 (sessions_of events) e rises
    (among_flat_map-in (λ x. option_to_list (session_of x)) ev e events (get_among events (v - 1) ev (at_event events v ev at))
    (subst (λ o. IsAmong e (option_to_list o)) (sym session) (inl refl)))

pub asked_rises : (events : List Event) (v e : ℕ) → RisesFrom 1 (sessions_of events) → AsksToOpen e (event_at events v) → 1 < e
asked_rises events v e rises (inl restart) = session_rises events v e (event.Restart e) rises restart refl
asked_rises events v e rises (inr reassign) = session_rises events v e (event.Reassign e reassign.0) rises reassign.1 refl

-- ---- a batch that is written

some_touched : (shape : Shape) (batch : Batch) → 1 ≤ length batch → AllByRecursion (λ w. w.block < blocks shape) batch → TouchesSome shape batch
some_touched shape [] few inside = absurd (omega arith)
some_touched shape (w ∷ batch) few inside = record {
  region = region_of shape w.block;
  inside = in_region shape w.block inside.0;
  touched = or_left (region_of shape w.block == region_of shape w.block) (list_any (λ (x : Write). region_of shape x.block == region_of shape w.block) batch) (eq-eqb (region_of shape w.block) (region_of shape w.block) refl);
}

some_taken : {A : Type 0} (P : A → Type 0) (s : ℕ) (xs : List A) → AllByRecursion P xs → AllByRecursion P (take s xs)
some_taken P zero xs all = tt
some_taken P (suc s) [] all = tt
some_taken P (suc s) (x ∷ xs) all = (all.0, some_taken P s xs all.1)

module _ (volume : Volume) (events : List Event) (limits : IsWithinLimits (record { volume = volume; events = events })) where
  abbrev shape : Shape
  shape = volume.geometry

  few_blocks : (v : ℕ) (batch : Batch) → event_at events v ≡ Some (event.Write batch) → 1 ≤ length batch
  few_blocks v batch at =
      (among_all (IsEventWithin shape) events (event.Write batch) (get_among events (v - 1) (event.Write batch) (at_event events v (event.Write batch) at)) limits.events).1.0

  still : (a b : Judge) → ((e : ℕ) → known_at b e ≡ known_at a e) → b.latest ≡ a.latest → AreCountable shape events a → AreCountable shape events b
  still a b same latest all = record {
    each = λ known e at. all.each known e (sym (same e) ∙ at);
    few = λ known e at. subst (λ n. length known.list ≤ n) (sym latest) (all.few known e (sym (same e) ∙ at));
    low = subst (λ n. n ≤ length events) (sym latest) all.low;
  }

  known_either : (judge : Judge) (v s : ℕ) (batch : Batch) → batch_of (event_at events v) ≡ batch ∷ [] → (known : Session) (e : ℕ) → known_at (judged events judge (line.Submit v s)) e ≡ Some known
      → (known ≡ extended judge.now (batch ∷ [])) ⊎ (known_at judge e ≡ Some known)
  known_either judge v s batch one known e at = by (judge.now.session == e) refl (sym (submit-at shape events judge v s batch one e) ∙ at) where
    by : (t : Bool) → (judge.now.session == e) ≡ t → cond t (Some (extended judge.now (batch ∷ []))) (found_in shape events judge v s batch one e) ≡ Some known
        → (known ≡ extended judge.now (batch ∷ [])) ⊎ (known_at judge e ≡ Some known)
    by true is here = inl (sym (same_Some (extended judge.now (batch ∷ [])) known here))
    by false is there = inr (ap (λ t. cond t (Some judge.now) (found_in shape events judge v s batch one e)) is ∙ there)

  submit_countable : (judge : Judge) (v s : ℕ) → IsNextBatch shape events judge v s → AreCountable shape events judge → AreCountable shape events (judged events judge (line.Submit v s))
  submit_countable judge v s next all =
      let one : batch_of (event_at events v) ≡ next.batch ∷ [] = ap batch_of next.asked in
      let below : v - 1 < length events = slice_get_within events (v - 1) (event.Write next.batch) (at_event events v (event.Write next.batch) next.asked) in
      let later = next.later in
      record {
        each = λ known e at. elim (known_either judge v s next.batch one known e at) [
          | inl more ↦ subst (IsCountable shape) (sym more) grown
          | inr old ↦ all.each known e old
        ];
        few = λ known e at. elim (known_either judge v s next.batch one known e at) [
          | inl more ↦ subst (λ (k : Session). length k.list ≤ v) (sym more) longer
          | inr old ↦ (let low = all.few known e old in omega arith)
        ];
        low = omega arith;
      }
    where
      longer : length (judge.now.list ++ next.batch ∷ []) ≤ v
      longer =
          let few = all.few judge.now judge.now.session (now-known judge) in
          let later = next.later in
          let long : length (judge.now.list ++ next.batch ∷ []) ≡ length judge.now.list + 1 = length-append judge.now.list (next.batch ∷ []) in
          omega arith

      grown : IsCountable shape (extended judge.now (next.batch ∷ []))
      grown =
          let now : IsCountable shape judge.now = all.each judge.now judge.now.session (now-known judge) in
          let begun = now.begun in
          let high = longer in
          let below : v - 1 < length events = slice_get_within events (v - 1) (event.Write next.batch) (at_event events v (event.Write next.batch) next.asked) in
          let many = limits.few in
          let long : length (judge.now.list ++ next.batch ∷ []) ≡ length judge.now.list + 1 = length-append judge.now.list (next.batch ∷ []) in
          record {
            positive = now.positive;
            long = now.long;
            begun = omega arith;
            small = omega arith;
            some = all_both (TouchesSome shape) judge.now.list (next.batch ∷ []) now.some (some_touched shape next.batch (few_blocks v next.batch next.asked) next.inside, tt);
          }

  stage_countable : (judge : Judge) (e f s : ℕ) → IsPrefixOf events judge e f s → AreCountable shape events judge → AreCountable shape events (judged events judge (line.Stage e f s))
  stage_countable judge e f s legal all = record {
    each = λ known k at. elim (stage_comes shape events judge e f s legal known k at) [
      | inl old ↦ all.each known k old
      | inr new ↦ subst (IsCountable shape) (sym new.1) fresh
    ];
    few = λ known k at. elim (stage_comes shape events judge e f s legal known k at) [
      | inl old ↦ all.few known k old
      | inr new ↦ subst (λ (x : Session). length x.list ≤ judge.latest) (sym new.1) short
    ];
    low = all.low;
  }
    where
      taken : length (take s legal.from.list) ≡ s
      taken = length-take-le s legal.from.list legal.within

      short : length (take s legal.from.list) ≤ judge.latest
      short = let few = all.few legal.from f legal.known in let within = legal.within in let same = taken in omega arith

      fresh : IsCountable shape (new_session shape events judge e f s legal)
      fresh =
          let from : IsCountable shape legal.from = all.each legal.from f legal.known in
          let above : 1 < e = asked_rises events legal.event e limits.rising legal.asked in
          let same = taken in
          let small = from.small in
          let within = legal.within in
          record {
            positive = omega arith;
            long = from.long;
            begun = omega arith;
            small = omega arith;
            some = some_taken (TouchesSome shape) s legal.from.list from.some;
          }

  line_countable : (judge : Judge) (l : Line) → IsLegalLine shape events judge l → AreCountable shape events judge → AreCountable shape events (judged events judge l)
  line_countable judge (line.Submit v s) legal all = submit_countable judge v s legal all
  line_countable judge (line.Ack s) legal all = still judge _ (λ e. refl) refl all
  line_countable judge (line.Read v b x) legal all = still judge _ (λ e. refl) refl all
  line_countable judge (line.Fault v b strikes) legal all = still judge _ (λ e. refl) refl all
  line_countable judge (line.Barrier v s) legal all = still judge _ (λ e. refl) refl all
  line_countable judge (line.Refused v cause) legal all = all
  line_countable judge (line.Skip v k) legal all = all
  line_countable judge (line.Stage e f s) legal all = stage_countable judge e f s legal all
  line_countable judge (line.Open e) legal all = still judge _ (open-at judge e) (open-latest judge e) all
  line_countable judge (line.Lost e) legal all = all

  pub lines_countable : (lines : List Line) (judge : Judge) → AlongLines (IsLegalLine shape events) events judge lines → AreCountable shape events judge → AreCountable shape events (judged_all events judge lines)
  unfolding AlongLines judged_all
  lines_countable [] judge legal all = all
  lines_countable (l ∷ lines) judge legal all = lines_countable lines (judged events judge l) legal.1 (line_countable judge l legal.0 all)

  pub start_countable : AreCountable shape events (start_judge shape)
  start_countable = record {
    each = λ known e at.
        let same : known ≡ first_session shape = only known (known_among (start_judge shape) e known at) in
        subst (IsCountable shape) (sym same) (record { positive = omega arith; long = length-replicate (blocks shape) _; begun = omega arith; small = omega arith; some = tt });
    few = λ known e at. subst (λ (k : Session). length k.list ≤ 0) (sym (only known (known_among (start_judge shape) e known at))) (omega arith);
    low = omega arith;
  }
    where
      only : (known : Session) → IsAmong known (first_session shape ∷ []) → known ≡ first_session shape
      only known (inl is) = is
      only known (inr none) = absurd none
