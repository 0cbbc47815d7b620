-- What a node has told of votes, staging and switching stands in each of the contents that its disk may mean, until it is replaced.
use Rattle.std.proofs.Common.{◌≡◌, ◌∙◌, inl, inr, ⊎_elim, ℕ, ◌<◌, ◌≤◌, nat_le, Bool, true, false, if◌then◌else◌, List, [], ◌∷◌, ◌++◌, map, Option, None, Some, sym, ap, subst, arith}
use Rattle.std.specs.Option.{option_map_or}
use Rattle.std.specs.List.{AllByRecursion}
use Rattle.std.proofs.lemmas.List.{append-nil}
use Rattle.std.proofs.lemmas.Bool.{leb-false}
use Rattle.salus_types.specs.Volume.{Shape}
use Rattle.salus_types.specs.declared.names.NodeName.{NodeName}
use Rattle.salus_types.specs.declared.records.Record.{Record}
use Rattle.salus_types.specs.declared.records.Base.{Base}
use Rattle.salus_types.specs.declared.records.Held.{Held}
use Rattle.salus_message.specs.declared.small.Prepared.{Prepared}
use Rattle.salus_message.specs.declared.wire.Message.{Message}
use Rattle.salus_message.specs.declared.wire.Message.TheVariants as message
use Rattle.merkle_region.specs.Tree.{IsAmong}
use Rattle.salus_model.specs.declared.trace.Handed.{Handed}
use Rattle.salus_model.specs.declared.trace.Handed.TheVariants as handed
use Rattle.salus_model.specs.declared.trace.TraceStep.{TraceStep}
use Rattle.holding_model.specs.Fitting.{has_content}
use Rattle.salus_model.specs.Following.{Posted}
use Rattle.salus_model.specs.Licences.{HoldsPart, HoldsStill}
use Rattle.holding_model.specs.Changing.{Change, AddsPart, AddsBase, SwitchesTo, FoldsTo, changed, after_changes, contents_through}
use Rattle.replica_rules.specs.Nodes.{NodeState, loaded_as}
use Rattle.replica_rules.specs.Rules.{Sending, Input, planned, Handled, handled}
use Rattle.replica_rules.proofs.Agreeing.{AllHeld, IsHeldVote, PlansRight, fresh_agrees, planned_right}
use Rattle.run_rules.specs.Knowing.{KnownNode, silenced, fresh, after_input, outs_of, input_of, after_handed, outs_to, reloaded, known_to, IsLoadOf, LoadsRight}
use Rattle.run_rules.specs.Running.{addresses, after, known_of, IsStepOf, AllSteps}
use Rattle.list_lemmas.proofs.Each.{all_both, all_map, all_then, OfSome, all_zip}
use Rattle.merkle_region.proofs.Membership.{among_left}
use Rattle.list_lemmas.proofs.Members.{among_all, among_filter-in}
use Rattle.list_lemmas.proofs.Tests.{by_bool}
use Rattle.law_handed.specs.Lasting.{Stays, AllStand, told_by, told_after, told_of}
use Rattle.law_handed.proofs.Staying.{IsOnward, staged_on, switched_on, IsSound, planned_sound}
use Rattle.law_handed.proofs.Folding.{vote_through_fold}
use Rattle.law_handed.proofs.Sane.{Sane, foldable_of}
use Rattle.law_handed.proofs.Soundly.{MayChange, MayAll, PlanSane, fresh_sane, planned_sane}

module _ (shape : Shape) where
  onward_of : (held : Held) (change : Change) → MayChange shape held change → IsOnward held change
  onward_of held (AddsPart rec) may = tt
  onward_of held (AddsBase base) may = tt
  onward_of held (SwitchesTo e) may = may
  onward_of held (FoldsTo n) may = tt

  abbrev IsPart : Prepared → Held → Type 0
  IsPart m held = (rec : Record) × (rec.header.session ≡ m.session) × (rec.header.seq ≡ m.seq) × (rec.header.root ≡ m.root) × HoldsPart held m rec

  abbrev IsInBase : Prepared → Held → Type 0
  IsInBase m held = (b : Base) × IsAmong b held.bases × (b.rec.header.session ≡ m.session) × (m.seq ≤ b.rec.header.seq) × (has_content b.rec.writes b.rec.run ≡ true)

  -- ---- through a change

  vote_on : (m : Prepared) (held : Held) (change : Change) → MayChange shape held change → HoldsStill (message.Prepared m) held → HoldsStill (message.Prepared m) (changed shape held change)
  unfolding changed
  vote_on m held (AddsPart new) may still =
      ⊎_elim (λ (less : m.session < held.session). inl less) (λ (old : IsPart m held).
      ⊎_elim (λ (among : IsAmong old.0 held.parts). inr (old.0, old.1, old.2, old.3, record { either = inl (among_left old.0 held.parts (new ∷ []) among) }))
      (λ (in_base : IsInBase m held). inr (old.0, old.1, old.2, old.3, record { either = inr in_base })) old.4.either) still
  vote_on m held (AddsBase new) may still =
      ⊎_elim (λ (less : m.session < held.session). inl less) (λ (old : IsPart m held).
      ⊎_elim (λ (among : IsAmong old.0 held.parts). inr (old.0, old.1, old.2, old.3, record { either = inl among }))
      (λ (b : IsInBase m held). inr (old.0, old.1, old.2, old.3, record { either = inr (b.0, among_left b.0 held.bases (new ∷ []) b.1, b.2, b.3, b.4) })) old.4.either) still
  vote_on m held (SwitchesTo e) may still =
      ⊎_elim (λ (less : m.session < held.session). let more : m.session < e = omega arith in inl more) (λ (old : IsPart m held).
      by_bool (nat_le e m.session) (HoldsStill (message.Prepared m) (changed shape held (SwitchesTo e)))
      (λ later.
      ⊎_elim (λ (among : IsAmong old.0 held.parts).
      inr (old.0, old.1, old.2, old.3, record { either = inl (among_filter-in (λ r. nat_le e r.header.session) held.parts old.0 among (ap (λ x. nat_le e x) old.1 ∙ later)) }))
      (λ (b : IsInBase m held).
      inr (old.0, old.1, old.2, old.3, record { either = inr (b.0, among_filter-in (λ c. nat_le e c.rec.header.session) held.bases b.0 b.1 (ap (λ x. nat_le e x) b.2 ∙ later), b.2, b.3, b.4) })) old.4.either)
      (λ past. inl (leb-false e m.session past))) still
  vote_on m held (FoldsTo n) may still = vote_through_fold shape m held n (foldable_of shape held may.0 may.1) still

  stands_on : (m : Message) (held : Held) (change : Change) → MayChange shape held change → HoldsStill m held → HoldsStill m (changed shape held change)
  stands_on (message.Prepared m) held change may still = vote_on m held change may still
  stands_on (message.Staged m) held change may still = staged_on shape m.session held change (onward_of held change may) still
  stands_on (message.Switched m) held change may still = switched_on shape m.session held change (onward_of held change may) still
  stands_on (message.Part m) held change may still = tt
  stands_on (message.Committed m) held change may still = tt
  stands_on (message.Ask m) held change may still = tt
  stands_on (message.Answer m) held change may still = tt
  stands_on (message.Gather m) held change may still = tt
  stands_on (message.Gathered m) held change may still = tt
  stands_on (message.Stage m) held change may still = tt
  stands_on (message.Switch m) held change may still = tt
  stands_on (message.Dump m) held change may still = tt
  stands_on (message.Dumped m) held change may still = tt

  all_on : (told : List Message) (held : Held) (change : Change) → MayChange shape held change → AllStand told held → AllStand told (changed shape held change)
  all_on told held change may all = all_then (λ m. HoldsStill m held) (λ m. HoldsStill m (changed shape held change)) (λ m still. stands_on m held change may still) told all

  all_after : (told : List Message) (held : Held) (changes : List Change) → MayAll shape held changes → AllStand told held → AllStand told (after_changes shape held changes)
  unfolding MayAll after_changes
  all_after told held [] may all = all
  all_after told held (change ∷ changes) may all = all_after told (changed shape held change) changes may.1 (all_on told held change may.0 all)

  all_through : (told : List Message) (held : Held) (changes : List Change) → MayAll shape held changes → AllStand told held → AllByRecursion (AllStand told) (contents_through shape held changes)
  unfolding MayAll contents_through
  all_through told held [] may all = (all, tt)
  all_through told held (change ∷ changes) may all = (all, all_through told (changed shape held change) changes may.1 (all_on told held change may.0 all))

-- ---- what is sent stands

stands_now : (m : Message) (held : Held) → IsHeldVote held m → Stays m held → HoldsStill m held
stands_now (message.Prepared m) held vote stays = inr (vote.0, vote.2, vote.3, vote.5, record { either = inl vote.1 })
stands_now (message.Staged m) held vote stays = stays
stands_now (message.Switched m) held vote stays = stays
stands_now (message.Part m) held vote stays = tt
stands_now (message.Committed m) held vote stays = tt
stands_now (message.Ask m) held vote stays = tt
stands_now (message.Answer m) held vote stays = tt
stands_now (message.Gather m) held vote stays = tt
stands_now (message.Gathered m) held vote stays = tt
stands_now (message.Stage m) held vote stays = tt
stands_now (message.Switch m) held vote stays = tt
stands_now (message.Dump m) held vote stays = tt
stands_now (message.Dumped m) held vote stays = tt

-- ---- along a run

-- what is in memory is as it should be
pub record IsInOrder (shape : Shape) (state : NodeState) : Type 0 where
  pub agrees : OfSome (λ m. AllHeld state.held m.parts) state.memory
  pub sane : OfSome (Sane shape state.held) state.memory

pub record Standing (shape : Shape) (told : List Message) (known : KnownNode) : Type 0 where
  pub order : IsInOrder shape known.state
  pub now : AllStand told known.state.held
  pub each : AllByRecursion (AllStand told) known.contents

more_none : (shape : Shape) (told : List Message) (known : KnownNode) → Standing shape told known → Standing shape (told ++ []) known
more_none shape told known s = subst (λ (l : List Message). Standing shape l known) (sym (append-nil told)) s

none_stand : (contents : List Held) → AllByRecursion (AllStand []) contents
none_stand [] = tt
none_stand (held ∷ contents) = (tt, none_stand contents)

module _ (shape : Shape) (g : ℕ) where
  abbrev said : List Message → List Sending → List Message
  said told outs = told ++ map (λ out. out.message) outs

  fresh_order : (held : Held) → IsInOrder shape (loaded_as shape g held)
  unfolding loaded_as
  fresh_order held = record { agrees = fresh_agrees shape g held; sane = fresh_sane shape g held }

  input_any : (told : List Message) (state : NodeState) (silent : Bool) (contents : List Held) (input : Input) (failed : Bool)
      → let known : KnownNode = record { state = state; silent = silent; contents = contents } in Standing shape told known → Standing shape (said told (outs_of shape g known input failed)) (after_input shape g known input failed)
  input_any told state true contents input failed s = more_none shape told (record { state = state; silent = true; contents = contents }) s
  input_any told state false contents input true s =
      let h : Handled = handled shape g state input in
      let plan : PlanSane shape state.held (planned shape g state input) = planned_sane shape g state s.order.sane input in
      more_none shape told (silenced shape state h.changes) (record { order = s.order; now = s.now; each = all_through shape told state.held h.changes plan.may s.now })
  input_any told state false contents input false s =
      let h : Handled = handled shape g state input in
      let plan : PlanSane shape state.held (planned shape g state input) = planned_sane shape g state s.order.sane input in
      let right : PlansRight shape state.held (planned shape g state input) = planned_right shape g state s.order.agrees input in
      let sound : IsSound shape state (planned shape g state input) = planned_sound shape g state input in
      let held : Held = h.node.held in
      let old : AllStand told held = all_after shape told state.held h.changes plan.may s.now in
      let new : AllStand (map (λ out. out.message) h.outs) held =
      all_map (λ m. HoldsStill m held) (λ out. out.message) h.outs
      (all_then (λ out. IsHeldVote held out.message × Stays out.message held) (λ out. HoldsStill out.message held) (λ out both. stands_now out.message held both.0 both.1) h.outs
      (all_zip (λ out. IsHeldVote held out.message) (λ out. Stays out.message held) h.outs right.stand sound.stand)) in
      let all : AllStand (said told h.outs) held = all_both (λ m. HoldsStill m held) told (map (λ out. out.message) h.outs) old new in
      record { order = record { agrees = right.agrees; sane = plan.sane }; now = all; each = (all, tt) }

  handed_stands : (posts : List Posted) (told : List Message) (known : KnownNode) (what : Handed) (failed : Bool) → Standing shape told known
      → Standing shape (said told (outs_to shape g posts known what failed)) (after_handed shape g posts known what failed)
  handed_stands posts told known what failed s = of_input (input_of posts what) where
    of_input : (o : Option Input) → Standing shape (said told (option_map_or (λ input. outs_of shape g known input failed) o [])) (option_map_or (λ input. after_input shape g known input failed) o known)
    of_input None = more_none shape told known s
    of_input (Some input) = input_any told known.state known.silent known.contents input failed s

  load_stands : (told : List Message) (contents : List Held) (known : KnownNode) (loaded : Option Held) → IsLoadOf contents loaded → AllByRecursion (AllStand told) contents → Standing shape told (reloaded shape g known loaded)
  unfolding loaded_as
  load_stands told contents known None load each = absurd load
  load_stands told contents known (Some held) load each =
      let all : AllStand told held = among_all (AllStand told) contents held load each in
      record { order = fresh_order held; now = all; each = (all, tt) }

  none_loaded : (told : List Message) (known : KnownNode) (loaded : Option Held) → loaded ≡ None → Standing shape told known → Standing shape told (reloaded shape g known loaded)
  none_loaded told known loaded same s = subst (λ (o : Option Held). Standing shape told (reloaded shape g known o)) (sym same) s

  anew_stands : (known : KnownNode) (loaded : Option Held) → Standing shape [] known → Standing shape [] (reloaded shape g known loaded)
  unfolding loaded_as
  anew_stands known None s = s
  anew_stands known (Some held) s = record { order = fresh_order held; now = tt; each = (tt, tt) }

  step_stands : (posts : List Posted) (told : List Message) (known : KnownNode) (what : Handed) (failed : Bool) (loaded : Option Held) → LoadsRight shape g posts known what failed loaded → Standing shape told known
      → Standing shape (told_by told (outs_to shape g posts known what failed) what) (known_to shape g posts known what failed loaded)
  step_stands posts told known (handed.Deliver k) failed loaded right s = none_loaded _ _ loaded right (handed_stands posts told known (handed.Deliver k) failed s)
  step_stands posts told known (handed.Lie from bytes) failed loaded right s = none_loaded _ _ loaded right (handed_stands posts told known (handed.Lie from bytes) failed s)
  step_stands posts told known handed.Tick failed loaded right s = none_loaded _ _ loaded right (handed_stands posts told known handed.Tick failed s)
  step_stands posts told known (handed.Stop k) failed loaded right s =
      load_stands _ (after_handed shape g posts known (handed.Stop k) failed).contents (after_handed shape g posts known (handed.Stop k) failed) loaded right (handed_stands posts told known (handed.Stop k) failed s).each
  step_stands posts told known handed.Crash failed loaded right s = load_stands (told ++ []) known.contents known loaded right.1 (more_none shape told known s).each
  step_stands posts told known handed.Replace failed loaded right s = anew_stands known loaded (record { order = s.order; now = tt; each = none_stand known.contents })
  step_stands posts told known (handed.Asked r) failed loaded right s = none_loaded (told ++ []) known loaded right.1 (more_none shape told known s)
  step_stands posts told known handed.ClientCrash failed loaded right s = none_loaded (told ++ []) known loaded right.1 (more_none shape told known s)

module _ (shape : Shape) (posts : List Posted) (name : NodeName) where
  own_stands : (own : Bool) (told : List Message) (known : KnownNode) (before : ℕ) (step : TraceStep) → IsStepOf own shape posts name known before step → Standing shape told known
      → Standing shape (if own then told_by told (outs_to shape name.region posts known step.handed step.failed) step.handed else told) (if own then known_to shape name.region posts known step.handed step.failed step.loaded else known)
  own_stands true told known before step right s = step_stands shape name.region posts told known step.handed step.failed step.loaded right.loads s
  own_stands false told known before step right s = s

  pub stands_along : (told : List Message) (known : KnownNode) (before : ℕ) (steps : List TraceStep) → AllSteps shape posts name known before steps → Standing shape told known
      → Standing shape (told_of shape posts name known told steps) (known_of shape posts name known steps)
  unfolding AllSteps known_of told_of
  stands_along told known before [] right s = s
  stands_along told known before (step ∷ steps) right s =
      stands_along (told_after shape posts name known told step) (after shape posts name known step) step.sent steps right.1 (own_stands (addresses name step) told known before step right.0 s)

  -- The law: what a node has told since it was replaced stands in each of the contents that its disk may mean: for a vote
  -- the part, or a folded base that goes at least as far, or a later session; for staging a base of the session, or a later
  -- session; for a switch at least the session.
  pub told_stands : (first : Held) (steps : List TraceStep) → AllSteps shape posts name (fresh shape name.region first) 0 steps
      → AllByRecursion (AllStand (told_of shape posts name (fresh shape name.region first) [] steps)) (known_of shape posts name (fresh shape name.region first) steps).contents
  unfolding loaded_as
  told_stands first steps right =
      (stands_along [] (fresh shape name.region first) 0 steps right (record { order = fresh_order shape name.region first; now = tt; each = (tt, tt) })).each
