-- Each base that a node may hold has the root that its record names, where those had theirs that it held at first.
use Rattle.std.proofs.Common.{◌≡◌, ℕ, nat_le, nat_lt, Bool, true, false, if◌then◌else◌, List, [], ◌∷◌, map, Option, None, Some, sym, subst}
use Rattle.std.specs.Prelude.{filter}
use Rattle.std.specs.Option.{option_map_or}
use Rattle.std.specs.List.{AllByRecursion}
use Rattle.std.proofs.lemmas.Slice.Eq.{bytes_eq-Decides}
use Rattle.salus_types.specs.Volume.{Shape}
use Rattle.salus_types.specs.declared.names.NodeName.{NodeName}
use Rattle.salus_types.specs.declared.records.Record.{Record}
use Rattle.salus_types.specs.declared.records.Base.{Base}
use Rattle.salus_types.specs.declared.records.Held.{Held}
use Rattle.merkle_region.specs.Tree.{root_of}
use Rattle.holding_model.specs.Fitting.{blocks_after}
use Rattle.holding_model.specs.Changing.{Change, AddsPart, AddsBase, SwitchesTo, FoldsTo, is_folded, is_open_base, base_after, base_after_all, folded, changed, after_changes, contents_through}
use Rattle.salus_model.specs.declared.trace.Handed.{Handed}
use Rattle.salus_model.specs.declared.trace.Handed.TheVariants as handed
use Rattle.salus_model.specs.declared.trace.TraceStep.{TraceStep}
use Rattle.salus_model.specs.Following.{Posted}
use Rattle.replica_rules.specs.Views.{View, view_of_base}
use Rattle.replica_rules.specs.Nodes.{NodeState, loaded_as}
use Rattle.replica_rules.specs.Rules.{Input, planned, Handled, handled}
use Rattle.run_rules.specs.Knowing.{KnownNode, fresh, after_input, input_of, after_handed, reloaded, known_to, IsLoadOf, LoadsRight}
use Rattle.run_rules.specs.Running.{IsStepOf}
use Rattle.list_lemmas.proofs.Each.{all_both, all_filter, OfSome}
use Rattle.list_lemmas.proofs.Members.{among_all}
use Rattle.law_handed.proofs.Whole.{Leads}
use Rattle.law_handed.proofs.Sane.{IsWhole, Sane, gone_leads}
use Rattle.law_handed.proofs.Soundly.{HasItsRoot, MayChange, MayAll, PlanSane, fresh_sane, planned_sane}

module _ (shape : Shape) where
  abbrev pub AllRooted : Held → Type 0
  AllRooted held = AllByRecursion (HasItsRoot shape) held.bases

  -- ---- through a change

  -- each part was accepted, so the base after the last has its root
  root_after : (base : Base) (parts : List Record) (now : View) → HasItsRoot shape base → Leads shape (view_of_base base) parts now → HasItsRoot shape (base_after_all shape base parts)
  unfolding Leads base_after_all
  root_after base [] now root leads = root
  root_after base (rec ∷ parts) now root leads =
      root_after (base_after shape base rec) parts now ((bytes_eq-Decides (root_of shape.height (blocks_after shape base.blocks rec)) rec.header.root).0 leads.0.accepted) leads.1

  folded_rooted : (held : Held) (n : ℕ) (parts : List Record) (view : View) → IsWhole shape held view → AllRooted held → AllRooted (folded shape held n parts)
  folded_rooted held n [] view w all = all
  folded_rooted held n (rec ∷ parts) view w all =
      let here : List Base = filter (λ base. is_open_base held base) held.bases in
      let later : List Base = filter (λ base. nat_lt held.session base.rec.header.session) held.bases in
      let gone : List Record = filter (λ other. is_folded held n other) held.parts in
      let ours : AllByRecursion (HasItsRoot shape) (w.base ∷ []) = subst (λ (l : List Base). AllByRecursion (HasItsRoot shape) l) w.only (all_filter (HasItsRoot shape) (λ base. is_open_base held base) held.bases all) in
      let next : HasItsRoot shape (base_after_all shape w.base gone) = root_after w.base gone (view_of_base (base_after_all shape w.base gone)) ours.0 (gone_leads shape held n view w) in
      all_both (HasItsRoot shape) (map (λ base. base_after_all shape base gone) here) later
      (subst (λ (l : List Base). AllByRecursion (HasItsRoot shape) (map (λ base. base_after_all shape base gone) l)) (sym w.only) (next, tt))
      (all_filter (HasItsRoot shape) (λ base. nat_lt held.session base.rec.header.session) held.bases all)

  pub switched_rooted : (held : Held) (e : ℕ) → AllRooted held → AllRooted (changed shape held (SwitchesTo e))
  unfolding changed
  switched_rooted held e all = all_filter (HasItsRoot shape) (λ base. nat_le e base.rec.header.session) held.bases all

  changed_rooted : (held : Held) (change : Change) → MayChange shape held change → AllRooted held → AllRooted (changed shape held change)
  unfolding changed
  changed_rooted held (AddsPart rec) may all = all
  changed_rooted held (AddsBase base) may all = all_both (HasItsRoot shape) held.bases (base ∷ []) all (may, tt)
  changed_rooted held (SwitchesTo e) may all = switched_rooted held e all
  changed_rooted held (FoldsTo n) may all = folded_rooted held n (filter (λ rec. is_folded held n rec) held.parts) may.0 may.1 all

  after_rooted : (held : Held) (changes : List Change) → MayAll shape held changes → AllRooted held → AllRooted (after_changes shape held changes)
  unfolding MayAll after_changes
  after_rooted held [] may all = all
  after_rooted held (change ∷ changes) may all = after_rooted (changed shape held change) changes may.1 (changed_rooted held change may.0 all)

  through_rooted : (held : Held) (changes : List Change) → MayAll shape held changes → AllRooted held → AllByRecursion AllRooted (contents_through shape held changes)
  unfolding MayAll contents_through
  through_rooted held [] may all = (all, tt)
  through_rooted held (change ∷ changes) may all = (all, through_rooted (changed shape held change) changes may.1 (changed_rooted held change may.0 all))

  -- ---- along a run

  pub record KnownRooted (known : KnownNode) : Type 0 where
    pub sane : OfSome (Sane shape known.state.held) known.state.memory
    pub held : AllRooted known.state.held
    pub each : AllByRecursion AllRooted known.contents

  module _ (g : ℕ) where
    pub fresh_rooted : (held : Held) → AllRooted held → KnownRooted (fresh shape g held)
    unfolding loaded_as
    fresh_rooted held all = record { sane = fresh_sane shape g held; held = all; each = (all, tt) }

    input_rooted : (state : NodeState) (silent : Bool) (contents : List Held) (input : Input) (failed : Bool)
        → let known : KnownNode = record { state = state; silent = silent; contents = contents } in KnownRooted known → KnownRooted (after_input shape g known input failed)
    input_rooted state true contents input failed s = s
    input_rooted state false contents input true s =
        let plan : PlanSane shape state.held (planned shape g state input) = planned_sane shape g state s.sane input in
        record { sane = s.sane; held = s.held; each = through_rooted state.held (handled shape g state input).changes plan.may s.held }
    input_rooted state false contents input false s =
        let h : Handled = handled shape g state input in
        let plan : PlanSane shape state.held (planned shape g state input) = planned_sane shape g state s.sane input in
        let now : AllRooted h.node.held = after_rooted state.held h.changes plan.may s.held in
        record { sane = plan.sane; held = now; each = (now, tt) }

    handed_rooted : (known : KnownNode) (failed : Bool) (o : Option Input) → KnownRooted known → KnownRooted (option_map_or (λ input. after_input shape g known input failed) o known)
    handed_rooted known failed None s = s
    handed_rooted known failed (Some input) s = input_rooted known.state known.silent known.contents input failed s

    loaded_rooted : (contents : List Held) (known : KnownNode) (loaded : Option Held) → IsLoadOf contents loaded → AllByRecursion AllRooted contents → KnownRooted (reloaded shape g known loaded)
    loaded_rooted contents known None load each = absurd load
    loaded_rooted contents known (Some held) load each = fresh_rooted held (among_all AllRooted contents held load each)

    unloaded_rooted : (known : KnownNode) (loaded : Option Held) → loaded ≡ None → KnownRooted known → KnownRooted (reloaded shape g known loaded)
    unloaded_rooted known loaded same s = subst (λ (o : Option Held). KnownRooted (reloaded shape g known o)) (sym same) s

    step_rooted : (posts : List Posted) (known : KnownNode) (what : Handed) (failed : Bool) (loaded : Option Held) → LoadsRight shape g posts known what failed loaded
        → KnownRooted known → KnownRooted (after_handed shape g posts known what failed) → KnownRooted (known_to shape g posts known what failed loaded)
    step_rooted posts known (handed.Deliver k) failed loaded right s mid = unloaded_rooted _ loaded right mid
    step_rooted posts known (handed.Lie from bytes) failed loaded right s mid = unloaded_rooted _ loaded right mid
    step_rooted posts known handed.Tick failed loaded right s mid = unloaded_rooted _ loaded right mid
    step_rooted posts known (handed.Stop k) failed loaded right s mid = loaded_rooted (after_handed shape g posts known (handed.Stop k) failed).contents _ loaded right mid.each
    step_rooted posts known handed.Crash failed loaded right s mid = loaded_rooted known.contents known loaded right.1 s.each
    step_rooted posts known handed.Replace failed loaded right s mid = subst (λ (o : Option Held). KnownRooted (reloaded shape g known o)) (sym right.1) (fresh_rooted _ tt)
    step_rooted posts known (handed.Asked r) failed loaded right s mid = unloaded_rooted known loaded right.1 s
    step_rooted posts known handed.ClientCrash failed loaded right s mid = unloaded_rooted known loaded right.1 s

  pub own_rooted : (posts : List Posted) (name : NodeName) (own : Bool) (known : KnownNode) (before : ℕ) (step : TraceStep) → IsStepOf own shape posts name known before step → KnownRooted known
      → KnownRooted (if own then known_to shape name.region posts known step.handed step.failed step.loaded else known)
  own_rooted posts name true known before step right s =
      step_rooted name.region posts known step.handed step.failed step.loaded right.loads s (handed_rooted name.region known step.failed (input_of posts step.handed) s)
  own_rooted posts name false known before step right s = s
