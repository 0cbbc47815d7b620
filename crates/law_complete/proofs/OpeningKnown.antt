-- Of every session that legal lines make known: its blocks have the volume's length, and it is the first or one of the schedule.
use Rattle.std.proofs.Common.{◌≡◌, ◌⊎◌, ℕ, ◌-◌, ◌*◌, ◌<◌, ◌∙◌, ◌==◌, ◌&&◌, Bool, true, false, nat_lt, cond, List, [], ◌∷◌, length, take, Option, None, Some, inl, inr, refl, ap, ap₂, sym, subst, eq-eqb}
use Rattle.std.specs.Prelude.{slice_get, drop, flat_map}
use Rattle.std.specs.List.{AllByRecursion, list_all}
use Rattle.std.specs.Option.{option_to_list}
use Rattle.std.proofs.lemmas.Bool.{cond_both}
use Rattle.std.proofs.lemmas.Option.{none-some, same_Some}
use Rattle.salus_types.specs.Volume.{Shape, regions, region_blocks, blocks}
use Rattle.merkle_region.specs.Tree.{IsAmong}
use Rattle.schedule_text.specs.declared.schedule.Volume.{Volume}
use Rattle.schedule_text.specs.declared.schedule.Event.{Event}
use Rattle.schedule_text.specs.declared.schedule.Event.TheVariants as event
use Rattle.schedule_text.specs.Grammar.{pair_values, session_of, sessions_of}
use Rattle.schedule_text.specs.Limits.{IsWithin, IsEventWithin, IsWithinLimits}
use Rattle.printed_lines.specs.declared.line.Line.{Line}
use Rattle.printed_lines.specs.declared.line.Line.TheVariants as line
use Rattle.holding_model.specs.Fitting.{has_shape}
use Rattle.volume_model.specs.Contents.{Batch, blocks_in, fold_batches}
use Rattle.volume_model.specs.Parts.{Session, contents_after}
use Rattle.salus_model.specs.Judge.{Judge, event_at, batch_of, known_at, judged, judged_all, first_session, start_judge, IsNextBatch, AsksToOpen, IsPrefixOf, IsLegalLine, AlongLines}
use Rattle.list_lemmas.proofs.Each.{all_both}
use Rattle.list_lemmas.proofs.Lists.{get_among}
use Rattle.list_lemmas.proofs.Members.{among_all, among_flat_map-in}
use Rattle.law_records.proofs.Counted.{all_members}
use Rattle.law_lemmas.proofs.Growing.{extended}
use Rattle.law_lemmas.proofs.Owned.{known_among}
use Rattle.law_lemmas.proofs.Settled.{now-known, open-at}
use Rattle.law_lemmas.proofs.Regional.{length-blocks_in}
use Rattle.law_ranged.proofs.Sized.{each_take, each_drop, Sized, BatchSized, apply_sized, zero_sized}
use Rattle.law_phases.proofs.Sees.{submit-at, found_in, new_session, stage_comes}

pub record IsPlain (shape : Shape) (events : List Event) (known : Session) : Type 0 where
  pub origin : Sized shape known.origin
  pub list : AllByRecursion (BatchSized shape) known.list
  pub scheduled : (known.session ≡ 1) ⊎ IsAmong known.session (sessions_of events)

abbrev pub EachPlain : Shape → List Event → Judge → Type 0
EachPlain shape events judge = (known : Session) (e : ℕ) → known_at judge e ≡ Some known → IsPlain shape events known

-- ---- events

at_event : (events : List Event) (v : ℕ) (e : Event) → event_at events v ≡ Some e → slice_get events (v - 1) ≡ Some e
at_event events v e at =
    cond_both {A = Option Event} (nat_lt 0 v) (slice_get events (v - 1)) None (λ o. o ≡ Some e → slice_get events (v - 1) ≡ Some e) (λ t is. is) (λ t none. absurd (none-some e none)) at

session_listed : (events : List Event) (v e : ℕ) (ev : Event) → event_at events v ≡ Some ev → session_of ev ≡ Some e → IsAmong e (sessions_of events)
session_listed events v e ev at session =
    among_flat_map-in (λ x. option_to_list (session_of x)) ev e events (get_among events (v - 1) ev (at_event events v ev at)) (subst (λ o. IsAmong e (option_to_list o)) (sym session) (inl refl))

asked_listed : (events : List Event) (v e : ℕ) → AsksToOpen e (event_at events v) → IsAmong e (sessions_of events)
asked_listed events v e (inl restart) = session_listed events v e (event.Restart e) restart refl
asked_listed events v e (inr reassign) = session_listed events v e (event.Reassign e reassign.0) reassign.1 refl

front : {A B : Type 0} → A × B → A
front p = p.0

back : {A B : Type 0} → A × B → B
back p = p.1

module _ (volume : Volume) (events : List Event) (limits : IsWithinLimits (record { volume = volume; events = events })) where
  abbrev shape : Shape
  shape = volume.geometry

  batch_sized : (batch : Batch) → AllByRecursion (IsWithin shape) (flat_map pair_values batch) → BatchSized shape batch
  batch_sized [] all = tt
  batch_sized (w ∷ batch) all = (front (back all), batch_sized batch (back (back all)))

  event_sized : (v : ℕ) (batch : Batch) → event_at events v ≡ Some (event.Write batch) → BatchSized shape batch
  event_sized v batch at =
      batch_sized batch (front (among_all (IsEventWithin shape) events (event.Write batch) (get_among events (v - 1) (event.Write batch) (at_event events v (event.Write batch) at)) limits.events))

  still : (a b : Judge) → ((e : ℕ) → known_at b e ≡ known_at a e) → EachPlain shape events a → EachPlain shape events b
  still a b same all known e at = all known e (sym (same e) ∙ at)

  known_either : (judge : Judge) (v s : ℕ) (batch : Batch) → batch_of (event_at events v) ≡ batch ∷ [] → (known : Session) (e : ℕ) → known_at (judged events judge (line.Submit v s)) e ≡ Some known
      → (known ≡ extended judge.now (batch ∷ [])) ⊎ (known_at judge e ≡ Some known)
  known_either judge v s batch one known e at = by (judge.now.session == e) refl (sym (submit-at shape events judge v s batch one e) ∙ at) where
    by : (t : Bool) → (judge.now.session == e) ≡ t → cond t (Some (extended judge.now (batch ∷ []))) (found_in shape events judge v s batch one e) ≡ Some known
        → (known ≡ extended judge.now (batch ∷ [])) ⊎ (known_at judge e ≡ Some known)
    by true is here = inl (sym (same_Some (extended judge.now (batch ∷ [])) known here))
    by false is there = inr (ap (λ t. cond t (Some judge.now) (found_in shape events judge v s batch one e)) is ∙ there)

  submit_plain : (judge : Judge) (v s : ℕ) → IsNextBatch shape events judge v s → EachPlain shape events judge → EachPlain shape events (judged events judge (line.Submit v s))
  submit_plain judge v s next all known e at = elim (known_either judge v s next.batch (ap batch_of next.asked) known e at) [
    | inl more ↦ subst (IsPlain shape events) (sym more) grown
    | inr old ↦ all known e old
  ]
    where
      grown : IsPlain shape events (extended judge.now (next.batch ∷ []))
      grown =
          let now : IsPlain shape events judge.now = all judge.now judge.now.session (now-known judge) in
          record {
            origin = now.origin;
            list = all_both (BatchSized shape) judge.now.list (next.batch ∷ []) now.list (event_sized v next.batch next.asked, tt);
            scheduled = now.scheduled;
          }

  stage_plain : (judge : Judge) (e f s : ℕ) → IsPrefixOf events judge e f s → EachPlain shape events judge → EachPlain shape events (judged events judge (line.Stage e f s))
  stage_plain judge e f s legal all known k at = elim (stage_comes shape events judge e f s legal known k at) [
    | inl old ↦ all known k old
    | inr new ↦ subst (IsPlain shape events) (sym new.1) fresh
  ]
    where
      fresh : IsPlain shape events (new_session shape events judge e f s legal)
      fresh =
          let from : IsPlain shape events legal.from = all legal.from f legal.known in
          record { origin = from.origin; list = each_take (BatchSized shape) s legal.from.list from.list; scheduled = inr (asked_listed events legal.event e legal.asked) }

  line_plain : (judge : Judge) (l : Line) → IsLegalLine shape events judge l → EachPlain shape events judge → EachPlain shape events (judged events judge l)
  line_plain judge (line.Submit v s) legal all = submit_plain judge v s legal all
  line_plain judge (line.Ack s) legal all = still judge (judged events judge (line.Ack s)) (λ e. refl) all
  line_plain judge (line.Read v b x) legal all = still judge (judged events judge (line.Read v b x)) (λ e. refl) all
  line_plain judge (line.Fault v b strikes) legal all = still judge (judged events judge (line.Fault v b strikes)) (λ e. refl) all
  line_plain judge (line.Barrier v s) legal all = still judge (judged events judge (line.Barrier v s)) (λ e. refl) all
  line_plain judge (line.Refused v cause) legal all = all
  line_plain judge (line.Skip v k) legal all = all
  line_plain judge (line.Stage e f s) legal all = stage_plain judge e f s legal all
  line_plain judge (line.Open e) legal all = still judge (judged events judge (line.Open e)) (open-at judge e) all
  line_plain judge (line.Lost e) legal all = all

  pub lines_plain : (lines : List Line) (judge : Judge) → AlongLines (IsLegalLine shape events) events judge lines → EachPlain shape events judge → EachPlain shape events (judged_all events judge lines)
  unfolding AlongLines judged_all
  lines_plain [] judge legal all = all
  lines_plain (l ∷ lines) judge legal all = lines_plain lines (judged events judge l) legal.1 (line_plain judge l legal.0 all)

  pub start_plain : EachPlain shape events (start_judge shape)
  start_plain known e at =
      subst (IsPlain shape events) (sym (only known (known_among (start_judge shape) e known at))) (record { origin = zero_sized shape limits.volume; list = tt; scheduled = inl refl })
    where
      only : (known : Session) → IsAmong known (first_session shape ∷ []) → known ≡ first_session shape
      only known (inl is) = is
      only known (inr none) = absurd none

-- ---- blocks

module _ (shape : Shape) where
  fold_sized : (batches : List Batch) (contents : List (List ℕ)) → AllByRecursion (BatchSized shape) batches → Sized shape contents → Sized shape (fold_batches contents batches)
  unfolding fold_batches
  fold_sized [] contents all sized = sized
  fold_sized (batch ∷ batches) contents all sized = fold_sized batches _ all.1 (apply_sized shape batch contents all.0 sized)

  each_long : (n : ℕ) (xs : List (List ℕ)) → AllByRecursion (λ x. length x ≡ n) xs → list_all (λ x. length x == n) xs ≡ true
  each_long n xs all = all_members (λ x. length x == n) xs (λ x among. eq-eqb (length x) n (among_all (λ x. length x ≡ n) xs x among all))

  -- the region's blocks after the first batches of a plain session have the shape of a region
  pub plain_shaped : (events : List Event) (known : Session) → IsPlain shape events known → (s g : ℕ) → length (contents_after known s) ≡ blocks shape → g < regions shape
      → has_shape shape (blocks_in shape (contents_after known s) g) ≡ true
  unfolding has_shape
  plain_shaped events known plain s g long inside =
      let contents : List (List ℕ) = contents_after known s in
      let sized : Sized shape contents = fold_sized (take s known.list) known.origin (each_take (BatchSized shape) s known.list plain.list) plain.origin in
      ap₂ (λ (a b : Bool). a && b) (eq-eqb (length (blocks_in shape contents g)) (region_blocks shape) (length-blocks_in shape contents g long inside))
      (each_long shape.block (blocks_in shape contents g) (each_take (λ x. length x ≡ shape.block) (region_blocks shape) (drop (g * region_blocks shape) contents) (each_drop (λ x. length x ≡ shape.block) (g * region_blocks shape) contents sized)))
