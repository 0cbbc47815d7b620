-- What a node has told of staging and switching stays in what its disk may mean.
use Rattle.std.proofs.Common.{◌≡◌, ◌∙◌, ◌⊎◌, inl, inr, ⊎_elim, ℕ, ◌<◌, ◌≤◌, ◌==◌, ◌&&◌, nat_le, nat_lt, Bool, true, false, if◌then◌else◌, List, [], ◌∷◌, ◌++◌, length, map, Option, None, Some, bytes_eq, refl, sym, subst, arith}
use Rattle.std.specs.Prelude.{filter}
use Rattle.std.specs.Option.{option_map_or}
use Rattle.std.specs.List.{AllByRecursion}
use Rattle.std.proofs.lemmas.List.{append-nil}
use Rattle.std.proofs.lemmas.Bool.{eqb-true, eqb-false, ltb-true, ltb-false, leb-false}
use Rattle.salus_types.specs.Volume.{Shape}
use Rattle.salus_types.specs.declared.names.NodeName.{NodeName}
use Rattle.salus_types.specs.declared.records.Record.{Record}
use Rattle.salus_types.specs.declared.records.Base.{Base}
use Rattle.salus_types.specs.declared.records.Held.{Held}
use Rattle.salus_message.specs.declared.wire.Message.{Message}
use Rattle.salus_message.specs.declared.wire.Message.TheVariants as message
use Rattle.merkle_region.specs.Tree.{root_of, IsAmong}
use Rattle.salus_model.specs.declared.trace.Handed.{Handed}
use Rattle.salus_model.specs.declared.trace.Handed.TheVariants as handed
use Rattle.salus_model.specs.declared.trace.TraceStep.{TraceStep}
use Rattle.holding_model.specs.Fitting.{has_shape}
use Rattle.volume_model.specs.Recovering.{is_of}
use Rattle.salus_model.specs.Following.{Posted}
use Rattle.salus_model.specs.Licences.{HoldsBase}
use Rattle.replica_rules.specs.Views.{view_root}
use Rattle.holding_model.specs.Changing.{Change, AddsPart, AddsBase, SwitchesTo, FoldsTo, is_folded, is_open_base, base_after, base_after_all, folded, changed, after_changes, contents_through}
use Rattle.replica_rules.specs.Nodes.{NodeState, stands_for, base_held, loaded_as}
use Rattle.replica_rules.specs.Rules.{Sending, Turn, Plan, plan_of, ignored, told_client, is_carried, by_gather, says_staged, staged, staged_again, staged_whole, staged_from, staged_anew, is_staged_here, by_stage, same_record, says_switched, switched, by_switch, Input, planned, Handled, handled}
use Rattle.replica_rules.proofs.Turns.{IsAdded, IsPlain, planned_is}
use Rattle.run_rules.specs.Knowing.{KnownNode, silenced, fresh, after_input, outs_of, input_of, after_handed, outs_to, reloaded, known_to, IsLoadOf, LoadsRight}
use Rattle.run_rules.specs.Running.{addresses, after, known_of, IsStepOf, AllSteps}
use Rattle.list_lemmas.proofs.Each.{either_way, all_both, all_map, all_then, OfSome, some_way, any_way, all_pass}
use Rattle.merkle_region.proofs.Membership.{among_left, among_right}
use Rattle.list_lemmas.proofs.Members.{among_all, among_map-in, among_filter-in, found_among}
use Rattle.list_lemmas.proofs.Tests.{by_bool, way_with, and_left}
use Rattle.law_handed.specs.Lasting.{Stays, AllStay, told_by, told_after, told_of}

-- ---- through a change

-- a switch goes to a later session
abbrev pub IsOnward : Held → Change → Type 0
IsOnward held (SwitchesTo e) = held.session < e
IsOnward held (AddsPart rec) = Unit {0}
IsOnward held (AddsBase base) = Unit {0}
IsOnward held (FoldsTo n) = Unit {0}

abbrev pub StillStaged : ℕ → Held → Type 0
StillStaged e held = (e < held.session) ⊎ HoldsBase e held

module _ (shape : Shape) where
  pub base_session : (s : ℕ) (base : Base) (parts : List Record) → base.rec.header.session ≡ s → AllByRecursion (λ rec. rec.header.session ≡ s) parts → (base_after_all shape base parts).rec.header.session ≡ s
  unfolding base_after_all
  base_session s base [] same all = same
  base_session s base (rec ∷ parts) same all = base_session s (base_after shape base rec) parts all.0 all.1

  pub gone_session : (held : Held) (n : ℕ) → AllByRecursion (λ rec. rec.header.session ≡ held.session) (filter (λ rec. is_folded held n rec) held.parts)
  gone_session held n =
      all_then (λ rec. is_folded held n rec ≡ true) (λ rec. rec.header.session ≡ held.session) (λ rec pass. eqb-true rec.header.session held.session (and_left (rec.header.session == held.session) (nat_le rec.header.seq n) pass))
      (filter (λ rec. is_folded held n rec) held.parts) (all_pass (λ rec. is_folded held n rec) held.parts)

  folded_staged : (e : ℕ) (held : Held) (n : ℕ) (parts : List Record) → StillStaged e held → StillStaged e (folded shape held n parts)
  folded_staged e held n [] still = still
  folded_staged e held n (rec ∷ parts) still =
      let gone : List Record = filter (λ r. is_folded held n r) held.parts in
      let here : List Base = filter (λ b. is_open_base held b) held.bases in
      let later : List Base = filter (λ b. nat_lt held.session b.rec.header.session) held.bases in
      let now : Held = folded shape held n (rec ∷ parts) in
      ⊎_elim (λ (less : e < held.session). inl less) (λ (base : HoldsBase e held).
      by_bool (is_open_base held base.0) (StillStaged e now)
      (λ pass. inr (
        base_after_all shape base.0 gone,
        among_left (base_after_all shape base.0 gone) (map (λ b. base_after_all shape b gone) here) later
            (among_map-in (λ b. base_after_all shape b gone) here base.0 (among_filter-in (λ b. is_open_base held b) held.bases base.0 base.1 pass)),
        base_session held.session base.0 gone (eqb-true base.0.rec.header.session held.session pass) (gone_session held n) ∙ sym (eqb-true base.0.rec.header.session held.session pass) ∙ base.2,
      ))
      (λ fail. by_bool (nat_lt held.session base.0.rec.header.session) (StillStaged e now)
      (λ above. inr (base.0, among_right base.0 (map (λ b. base_after_all shape b gone) here) later (among_filter-in (λ b. nat_lt held.session b.rec.header.session) held.bases base.0 base.1 above), base.2))
      (λ under. let differ : base.0.rec.header.session ≡ held.session → ⊥ = eqb-false base.0.rec.header.session held.session fail in
      let most : base.0.rec.header.session ≤ held.session = ltb-false held.session base.0.rec.header.session under in
      let same : base.0.rec.header.session ≡ e = base.2 in
      let less : e < held.session = omega (arith, differ) in inl less))) still

  pub staged_on : (e : ℕ) (held : Held) (change : Change) → IsOnward held change → StillStaged e held → StillStaged e (changed shape held change)
  unfolding changed
  staged_on e held (AddsPart rec) on still = ⊎_elim (λ less. inl less) (λ base. inr base) still
  staged_on e held (AddsBase new) on still = ⊎_elim (λ less. inl less) (λ base. inr (base.0, among_left base.0 held.bases (new ∷ []) base.1, base.2)) still
  staged_on e held (SwitchesTo next) on still =
      ⊎_elim (λ (less : e < held.session). let more : e < next = omega arith in inl more) (λ (base : HoldsBase e held).
      by_bool (nat_le next base.0.rec.header.session) (StillStaged e (changed shape held (SwitchesTo next)))
      (λ pass. inr (base.0, among_filter-in (λ b. nat_le next b.rec.header.session) held.bases base.0 base.1 pass, base.2))
      (λ fail. let under : base.0.rec.header.session < next = leb-false next base.0.rec.header.session fail in
      let same : base.0.rec.header.session ≡ e = base.2 in
      let less : e < next = omega arith in inl less)) still
  staged_on e held (FoldsTo n) on still = folded_staged e held n (filter (λ rec. is_folded held n rec) held.parts) still

  folded_switched : (e : ℕ) (held : Held) (n : ℕ) (parts : List Record) → e ≤ held.session → e ≤ (folded shape held n parts).session
  folded_switched e held n [] at = at
  folded_switched e held n (rec ∷ parts) at = at

  pub switched_on : (e : ℕ) (held : Held) (change : Change) → IsOnward held change → e ≤ held.session → e ≤ (changed shape held change).session
  unfolding changed
  switched_on e held (AddsPart rec) on at = at
  switched_on e held (AddsBase base) on at = at
  switched_on e held (SwitchesTo next) on at = omega arith
  switched_on e held (FoldsTo n) on at = folded_switched e held n (filter (λ rec. is_folded held n rec) held.parts) at

  stays_on : (m : Message) (held : Held) (change : Change) → IsOnward held change → Stays m held → Stays m (changed shape held change)
  stays_on (message.Staged m) held change on stays = staged_on m.session held change on stays
  stays_on (message.Switched m) held change on stays = switched_on m.session held change on stays
  stays_on (message.Part m) held change on stays = tt
  stays_on (message.Prepared m) held change on stays = tt
  stays_on (message.Committed m) held change on stays = tt
  stays_on (message.Ask m) held change on stays = tt
  stays_on (message.Answer m) held change on stays = tt
  stays_on (message.Gather m) held change on stays = tt
  stays_on (message.Gathered m) held change on stays = tt
  stays_on (message.Stage m) held change on stays = tt
  stays_on (message.Switch m) held change on stays = tt
  stays_on (message.Dump m) held change on stays = tt
  stays_on (message.Dumped m) held change on stays = tt

  -- ---- through a handling

  -- each change goes on from the one before
  unfoldable pub GoOnward : Held → List Change → Type 0
  GoOnward held [] = Unit {0}
  GoOnward held (change ∷ changes) = IsOnward held change × GoOnward (changed shape held change) changes

  added_onward : (held : Held) (changes : List Change) → AllByRecursion IsAdded changes → GoOnward held changes
  unfolding GoOnward
  added_onward held [] all = tt
  added_onward held (AddsPart rec ∷ changes) all = (tt, added_onward (changed shape held (AddsPart rec)) changes all.1)
  added_onward held (FoldsTo n ∷ changes) all = (tt, added_onward (changed shape held (FoldsTo n)) changes all.1)
  added_onward held (AddsBase base ∷ changes) all = absurd all.0
  added_onward held (SwitchesTo e ∷ changes) all = absurd all.0

  all_on : (told : List Message) (held : Held) (change : Change) → IsOnward held change → AllStay told held → AllStay told (changed shape held change)
  all_on told held change on all = all_then (λ m. Stays m held) (λ m. Stays m (changed shape held change)) (λ m stays. stays_on m held change on stays) told all

  all_after : (told : List Message) (held : Held) (changes : List Change) → GoOnward held changes → AllStay told held → AllStay told (after_changes shape held changes)
  unfolding GoOnward after_changes
  all_after told held [] on all = all
  all_after told held (change ∷ changes) on all = all_after told (changed shape held change) changes on.1 (all_on told held change on.0 all)

  all_through : (told : List Message) (held : Held) (changes : List Change) → GoOnward held changes → AllStay told held → AllByRecursion (AllStay told) (contents_through shape held changes)
  unfolding GoOnward contents_through
  all_through told held [] on all = (all, tt)
  all_through told held (change ∷ changes) on all = (all, all_through told (changed shape held change) changes on.1 (all_on told held change on.0 all))

  -- a plan whose changes go onward, and behind whose messages stands what is held then
  pub record IsSound (node : NodeState) (plan : Plan) : Type 0 where
    pub onward : GoOnward node.held plan.changes
    pub stand : AllByRecursion (λ out. Stays out.message (after_changes shape node.held plan.changes)) plan.outs

  nothing_sound : (node : NodeState) → IsSound node (ignored node)
  unfolding GoOnward
  nothing_sound node = record { onward = tt; stand = tt }

  turn_sound : (node : NodeState) (turn : Turn) → IsPlain (λ m. (held : Held) → Stays m held) turn → IsSound node (plan_of turn)
  turn_sound node turn is = record {
    onward = added_onward node.held turn.changes is.changes;
    stand = all_then (λ out. (held : Held) → Stays out.message held) (λ out. Stays out.message (after_changes shape node.held turn.changes)) (λ out stays. stays (after_changes shape node.held turn.changes)) turn.outs is.outs;
  }

  gather_sound : (node : NodeState) (e : ℕ) → IsSound node (by_gather node e)
  unfolding by_gather GoOnward
  gather_sound node e = either_way (is_carried node.held) (told_client node (message.Gathered (record { session = e; held = node.held }))) (ignored node) (IsSound node) (record { onward = tt; stand = (tt, tt) }) (nothing_sound node)

  staged_sound : (node : NodeState) (rec : Record) (blocks : List (List ℕ)) → IsSound node (staged node rec blocks)
  unfolding GoOnward after_changes changed
  staged_sound node rec blocks =
      let new : Base = record { rec = rec; blocks = blocks } in
      record { onward = (tt, tt); stand = (inr (new, among_right new node.held.bases (new ∷ []) (inl refl), refl), tt) }

  says_staged_sound : (node : NodeState) (e : ℕ) → HoldsBase e node.held → IsSound node (says_staged node e)
  unfolding GoOnward after_changes
  says_staged_sound node e holds = record { onward = tt; stand = (inr holds, tt) }

  base_holds : (g e : ℕ) (held : Held) → OfSome (λ (base : Base). HoldsBase e held) (base_held shape g e held)
  base_holds g e held = turned (base_held shape g e held) (found_among (λ base. stands_for shape g e base) held.bases) where
    turned : (o : Option Base) → OfSome (λ base. IsAmong base held.bases × (stands_for shape g e base ≡ true)) o → OfSome (λ (base : Base). HoldsBase e held) o
    turned None of = tt
    turned (Some base) of =
        (base, of.0, eqb-true base.rec.header.session e (and_left (base.rec.header.session == e) (base.rec.header.region == g) (and_left (is_of e g base.rec.header) (has_shape shape base.blocks) of.1)))

  staged_anew_sound : (node : NodeState) (base : Base) → IsSound node (staged_anew shape node base)
  staged_anew_sound node base =
      either_way (length base.blocks == 0) (option_map_or (λ m. staged_from shape node base.rec m) node.memory (ignored node)) (staged_whole shape node base) (IsSound node)
      (any_way (IsSound node) (λ m. staged_from shape node base.rec m) (ignored node) node.memory
      (λ m. either_way (bytes_eq (view_root shape m.replica.view) base.rec.header.root) (staged node base.rec m.replica.view.blocks) (ignored node) (IsSound node) (staged_sound node base.rec m.replica.view.blocks) (nothing_sound node)) (nothing_sound node))
      (either_way (has_shape shape base.blocks && bytes_eq (root_of shape.height base.blocks) base.rec.header.root) (staged node base.rec base.blocks) (ignored node) (IsSound node) (staged_sound node base.rec base.blocks) (nothing_sound node))

  stage_sound : (g : ℕ) (node : NodeState) (base : Base) → IsSound node (by_stage shape g node base)
  unfolding by_stage
  stage_sound g node base =
      let e : ℕ = base.rec.header.session in
      either_way (is_staged_here g node base.rec.header) (option_map_or (λ old. staged_again node base.rec old) (base_held shape g e node.held) (staged_anew shape node base)) (ignored node) (IsSound node)
      (some_way (λ (old : Base). HoldsBase e node.held) (IsSound node) (λ old. staged_again node base.rec old) (staged_anew shape node base) (base_held shape g e node.held) (base_holds g e node.held)
      (λ old holds. either_way (same_record old.rec base.rec) (says_staged node e) (ignored node) (IsSound node) (says_staged_sound node e holds) (nothing_sound node)) (staged_anew_sound node base)) (nothing_sound node)

  says_switched_sound : (node : NodeState) (e : ℕ) → e ≤ node.held.session → IsSound node (says_switched node e)
  unfolding GoOnward after_changes
  says_switched_sound node e at = record { onward = tt; stand = (at, tt) }

  switched_sound : (g : ℕ) (node : NodeState) (e : ℕ) → node.held.session < e → IsSound node (switched shape g node e)
  unfolding GoOnward after_changes changed
  switched_sound g node e less = record { onward = (less, tt); stand = (omega arith, tt) }

  switch_sound : (g : ℕ) (node : NodeState) (e : ℕ) → IsSound node (by_switch shape g node e)
  unfolding by_switch
  switch_sound g node e =
      way_with (e == node.held.session) (says_switched node e) (if nat_lt node.held.session e then option_map_or (λ base. switched shape g node e) (base_held shape g e node.held) (ignored node) else ignored node) (IsSound node)
      (λ pass. let same : e ≡ node.held.session = eqb-true e node.held.session pass in says_switched_sound node e (omega arith))
      (λ fail. way_with (nat_lt node.held.session e) (option_map_or (λ base. switched shape g node e) (base_held shape g e node.held) (ignored node)) (ignored node) (IsSound node)
      (λ above. any_way (IsSound node) (λ base. switched shape g node e) (ignored node) (base_held shape g e node.held) (λ base. switched_sound g node e (ltb-true node.held.session e above)) (nothing_sound node))
      (λ under. nothing_sound node))

  pub planned_sound : (g : ℕ) (node : NodeState) (input : Input) → IsSound node (planned shape g node input)
  planned_sound g node input =
      planned_is (λ m. (held : Held) → Stays m held) (λ m held. tt) (λ m held. tt) (λ m held. tt) (λ m held. tt) shape g node (IsSound node) (nothing_sound node) (turn_sound node) (gather_sound node) (stage_sound g node) (switch_sound g node) input

-- ---- along a run

pub record Promised (told : List Message) (known : KnownNode) : Type 0 where
  pub now : AllStay told known.state.held
  pub each : AllByRecursion (AllStay told) known.contents

none_promised : (known : KnownNode) → Promised [] known
none_promised known = record { now = tt; each = all_nothing known.contents } where
  all_nothing : (contents : List Held) → AllByRecursion (AllStay []) contents
  all_nothing [] = tt
  all_nothing (held ∷ contents) = (tt, all_nothing contents)

more_none : (told : List Message) (known : KnownNode) → Promised told known → Promised (told ++ []) known
more_none told known p = subst (λ (l : List Message). Promised l known) (sym (append-nil told)) p

module _ (shape : Shape) (g : ℕ) where
  abbrev said : List Message → List Sending → List Message
  said told outs = told ++ map (λ out. out.message) outs

  input_any : (told : List Message) (state : NodeState) (silent : Bool) (contents : List Held) (input : Input) (failed : Bool)
      → let known : KnownNode = record { state = state; silent = silent; contents = contents } in Promised told known → Promised (said told (outs_of shape g known input failed)) (after_input shape g known input failed)
  input_any told state true contents input failed p = more_none told (record { state = state; silent = true; contents = contents }) p
  input_any told state false contents input true p =
      let h : Handled = handled shape g state input in
      let sound : IsSound shape state (planned shape g state input) = planned_sound shape g state input in
      more_none told (silenced shape state h.changes) (record { now = p.now; each = all_through shape told state.held h.changes sound.onward p.now })
  input_any told state false contents input false p =
      let h : Handled = handled shape g state input in
      let sound : IsSound shape state (planned shape g state input) = planned_sound shape g state input in
      let old : AllStay told h.node.held = all_after shape told state.held h.changes sound.onward p.now in
      let new : AllStay (map (λ out. out.message) h.outs) h.node.held = all_map (λ m. Stays m h.node.held) (λ out. out.message) h.outs sound.stand in
      let both : AllStay (said told h.outs) h.node.held = all_both (λ m. Stays m h.node.held) told (map (λ out. out.message) h.outs) old new in
      record { now = both; each = (both, tt) }

  handed_kept : (posts : List Posted) (told : List Message) (known : KnownNode) (what : Handed) (failed : Bool) → Promised told known
      → Promised (said told (outs_to shape g posts known what failed)) (after_handed shape g posts known what failed)
  handed_kept posts told known what failed p = of_input (input_of posts what) where
    of_input : (o : Option Input) → Promised (said told (option_map_or (λ input. outs_of shape g known input failed) o [])) (option_map_or (λ input. after_input shape g known input failed) o known)
    of_input None = more_none told known p
    of_input (Some input) = input_any told known.state known.silent known.contents input failed p

  load_kept : (told : List Message) (contents : List Held) (known : KnownNode) (loaded : Option Held) → IsLoadOf contents loaded → AllByRecursion (AllStay told) contents → Promised told (reloaded shape g known loaded)
  unfolding loaded_as
  load_kept told contents known None load each = absurd load
  load_kept told contents known (Some held) load each =
      let all : AllStay told held = among_all (AllStay told) contents held load each in
      record { now = all; each = (all, tt) }

  none_kept : (told : List Message) (known : KnownNode) (loaded : Option Held) → loaded ≡ None → Promised told known → Promised told (reloaded shape g known loaded)
  none_kept told known loaded same p = subst (λ (o : Option Held). Promised told (reloaded shape g known o)) (sym same) p

  step_kept : (posts : List Posted) (told : List Message) (known : KnownNode) (what : Handed) (failed : Bool) (loaded : Option Held) → LoadsRight shape g posts known what failed loaded → Promised told known
      → Promised (told_by told (outs_to shape g posts known what failed) what) (known_to shape g posts known what failed loaded)
  step_kept posts told known (handed.Deliver k) failed loaded right p = none_kept _ _ loaded right (handed_kept posts told known (handed.Deliver k) failed p)
  step_kept posts told known (handed.Lie from bytes) failed loaded right p = none_kept _ _ loaded right (handed_kept posts told known (handed.Lie from bytes) failed p)
  step_kept posts told known handed.Tick failed loaded right p = none_kept _ _ loaded right (handed_kept posts told known handed.Tick failed p)
  step_kept posts told known (handed.Stop k) failed loaded right p =
      load_kept _ (after_handed shape g posts known (handed.Stop k) failed).contents (after_handed shape g posts known (handed.Stop k) failed) loaded right (handed_kept posts told known (handed.Stop k) failed p).each
  step_kept posts told known handed.Crash failed loaded right p = load_kept (told ++ []) known.contents known loaded right.1 (more_none told known p).each
  step_kept posts told known handed.Replace failed loaded right p = none_promised (known_to shape g posts known handed.Replace failed loaded)
  step_kept posts told known (handed.Asked r) failed loaded right p = none_kept (told ++ []) known loaded right.1 (more_none told known p)
  step_kept posts told known handed.ClientCrash failed loaded right p = none_kept (told ++ []) known loaded right.1 (more_none told known p)

module _ (shape : Shape) (posts : List Posted) (name : NodeName) where
  own_kept : (own : Bool) (told : List Message) (known : KnownNode) (before : ℕ) (step : TraceStep) → IsStepOf own shape posts name known before step → Promised told known
      → Promised (if own then told_by told (outs_to shape name.region posts known step.handed step.failed) step.handed else told) (if own then known_to shape name.region posts known step.handed step.failed step.loaded else known)
  own_kept true told known before step right p = step_kept shape name.region posts told known step.handed step.failed step.loaded right.loads p
  own_kept false told known before step right p = p

  pub promised_along : (told : List Message) (known : KnownNode) (before : ℕ) (steps : List TraceStep) → AllSteps shape posts name known before steps → Promised told known
      → Promised (told_of shape posts name known told steps) (known_of shape posts name known steps)
  unfolding AllSteps known_of told_of
  promised_along told known before [] right p = p
  promised_along told known before (step ∷ steps) right p =
      promised_along (told_after shape posts name known told step) (after shape posts name known step) step.sent steps right.1 (own_kept (addresses name step) told known before step right.0 p)

  -- The law: what a node has told of staging and switching since it was replaced stands in each of the contents that its
  -- disk may mean.
  pub told_stays : (first : Held) (steps : List TraceStep) → AllSteps shape posts name (fresh shape name.region first) 0 steps
      → AllByRecursion (AllStay (told_of shape posts name (fresh shape name.region first) [] steps)) (known_of shape posts name (fresh shape name.region first) steps).contents
  told_stays first steps right = (promised_along [] (fresh shape name.region first) 0 steps right (none_promised (fresh shape name.region first))).each
