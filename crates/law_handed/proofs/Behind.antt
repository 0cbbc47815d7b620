-- What stands behind what a node says when it gathers, stages and switches: all that it held before the step, a base of that
-- session in what it holds then, and the session that is open then.
use Rattle.std.proofs.Common.{◌≡◌, inl, ℕ, ◌==◌, ◌&&◌, nat_lt, true, if◌then◌else◌, List, [], ◌∷◌, length, bytes_eq, Option, None, Some, refl, sym}
use Rattle.std.specs.Option.{option_map_or}
use Rattle.std.specs.List.{AllByRecursion}
use Rattle.std.proofs.lemmas.Bool.{eqb-true}
use Rattle.salus_types.specs.Volume.{Shape}
use Rattle.salus_types.specs.declared.records.Record.{Record}
use Rattle.salus_types.specs.declared.records.Base.{Base}
use Rattle.salus_types.specs.declared.records.Held.{Held}
use Rattle.salus_message.specs.declared.wire.Message.{Message}
use Rattle.salus_message.specs.declared.wire.Message.TheVariants as message
use Rattle.merkle_region.specs.Tree.{root_of, IsAmong}
use Rattle.holding_model.specs.Fitting.{has_shape}
use Rattle.holding_model.specs.Changing.{changed, after_changes}
use Rattle.volume_model.specs.Recovering.{is_of}
use Rattle.salus_model.specs.Licences.{HoldsBase}
use Rattle.replica_rules.specs.Views.{view_root}
use Rattle.replica_rules.specs.Nodes.{NodeState, stands_for, base_held}
use Rattle.replica_rules.specs.Rules.{Turn, Plan, plan_of, ignored, told_client, is_carried, by_gather, says_staged, staged, staged_again, staged_whole, staged_from, staged_anew, is_staged_here, by_stage, same_record, says_switched, switched, by_switch, Input, planned}
use Rattle.replica_rules.proofs.Turns.{IsPlain, planned_is}
use Rattle.list_lemmas.proofs.Each.{either_way, all_then, OfSome, some_way, any_way}
use Rattle.merkle_region.proofs.Membership.{among_right}
use Rattle.list_lemmas.proofs.Tests.{way_with, and_left}
use Rattle.list_lemmas.proofs.Members.{found_among}

-- by what is held before the step, and after it
abbrev pub Behind : Held → Held → Message → Type 0
Behind before now (message.Gathered m) = m.held ≡ before
Behind before now (message.Staged m) = HoldsBase m.session now
Behind before now (message.Switched m) = now.session ≡ m.session
Behind before now other = Unit {0}

module _ (shape : Shape) (g : ℕ) (node : NodeState) where
  abbrev now_held : Plan → Held
  now_held plan = after_changes shape node.held plan.changes

  abbrev pub AllBehind : Plan → Type 0
  AllBehind plan = AllByRecursion (λ out. Behind node.held (now_held plan) out.message) plan.outs

  turn_behind : (turn : Turn) → IsPlain (λ m. (before now : Held) → Behind before now m) turn → AllBehind (plan_of turn)
  turn_behind turn is = all_then (λ out. (before now : Held) → Behind before now out.message) (λ out. Behind node.held (after_changes shape node.held turn.changes) out.message)
      (λ out each. each node.held (after_changes shape node.held turn.changes)) turn.outs is.outs

  gather_behind : (e : ℕ) → AllBehind (by_gather node e)
  unfolding by_gather
  gather_behind e = either_way (is_carried node.held) (told_client node (message.Gathered (record { session = e; held = node.held }))) (ignored node) AllBehind (refl, tt) tt

  staged_behind : (rec : Record) (blocks : List (List ℕ)) → AllBehind (staged node rec blocks)
  unfolding after_changes changed
  staged_behind rec blocks = let new : Base = record { rec = rec; blocks = blocks } in ((new, among_right new node.held.bases (new ∷ []) (inl refl), refl), tt)

  says_staged_behind : (e : ℕ) → HoldsBase e node.held → AllBehind (says_staged node e)
  unfolding after_changes
  says_staged_behind e holds = (holds, tt)

  base_holds : (e : ℕ) → OfSome (λ (base : Base). HoldsBase e node.held) (base_held shape g e node.held)
  base_holds e = turned (base_held shape g e node.held) (found_among (λ base. stands_for shape g e base) node.held.bases) where
    turned : (o : Option Base) → OfSome (λ base. IsAmong base node.held.bases × (stands_for shape g e base ≡ true)) o → OfSome (λ (base : Base). HoldsBase e node.held) o
    turned None of = tt
    turned (Some base) of =
        (base, of.0, eqb-true base.rec.header.session e (and_left (base.rec.header.session == e) (base.rec.header.region == g) (and_left (is_of e g base.rec.header) (has_shape shape base.blocks) of.1)))

  staged_anew_behind : (base : Base) → AllBehind (staged_anew shape node base)
  staged_anew_behind base =
      either_way (length base.blocks == 0) (option_map_or (λ m. staged_from shape node base.rec m) node.memory (ignored node)) (staged_whole shape node base) AllBehind
      (any_way AllBehind (λ m. staged_from shape node base.rec m) (ignored node) node.memory
      (λ m. either_way (bytes_eq (view_root shape m.replica.view) base.rec.header.root) (staged node base.rec m.replica.view.blocks) (ignored node) AllBehind (staged_behind base.rec m.replica.view.blocks) tt) tt)
      (either_way (has_shape shape base.blocks && bytes_eq (root_of shape.height base.blocks) base.rec.header.root) (staged node base.rec base.blocks) (ignored node) AllBehind (staged_behind base.rec base.blocks) tt)

  stage_behind : (base : Base) → AllBehind (by_stage shape g node base)
  unfolding by_stage
  stage_behind base =
      let e : ℕ = base.rec.header.session in
      either_way (is_staged_here g node base.rec.header) (option_map_or (λ old. staged_again node base.rec old) (base_held shape g e node.held) (staged_anew shape node base)) (ignored node) AllBehind
      (some_way (λ (old : Base). HoldsBase e node.held) AllBehind (λ old. staged_again node base.rec old) (staged_anew shape node base) (base_held shape g e node.held) (base_holds e)
      (λ old holds. either_way (same_record old.rec base.rec) (says_staged node e) (ignored node) AllBehind (says_staged_behind e holds) tt) (staged_anew_behind base)) tt

  says_switched_behind : (e : ℕ) → e ≡ node.held.session → AllBehind (says_switched node e)
  unfolding after_changes
  says_switched_behind e same = (sym same, tt)

  switched_behind : (e : ℕ) → AllBehind (switched shape g node e)
  unfolding after_changes changed
  switched_behind e = (refl, tt)

  switch_behind : (e : ℕ) → AllBehind (by_switch shape g node e)
  unfolding by_switch
  switch_behind e =
      way_with (e == node.held.session) (says_switched node e) (if nat_lt node.held.session e then option_map_or (λ base. switched shape g node e) (base_held shape g e node.held) (ignored node) else ignored node) AllBehind
      (λ pass. says_switched_behind e (eqb-true e node.held.session pass))
      (λ fail. either_way (nat_lt node.held.session e) (option_map_or (λ base. switched shape g node e) (base_held shape g e node.held) (ignored node)) (ignored node) AllBehind
      (any_way AllBehind (λ base. switched shape g node e) (ignored node) (base_held shape g e node.held) (λ base. switched_behind e) tt) tt)

  pub planned_behind : (input : Input) → AllBehind (planned shape g node input)
  planned_behind input =
      planned_is (λ m. (before now : Held) → Behind before now m) (λ m before now. tt) (λ m before now. tt) (λ m before now. tt) (λ m before now. tt) shape g node AllBehind tt turn_behind gather_behind stage_behind switch_behind input
