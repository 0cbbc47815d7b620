-- A gathering is answered with all that is held, where one message carries it, and by no other rule.
use Rattle.std.proofs.Common.{◌≡◌, ℕ, true, ◌==◌, ◌&&◌, nat_lt, if◌then◌else◌, length, bytes_eq, refl}
use Rattle.std.specs.Option.{option_map_or}
use Rattle.std.specs.List.{AllByRecursion}
use Rattle.salus_types.specs.Volume.{Shape}
use Rattle.salus_types.specs.declared.records.Base.{Base}
use Rattle.salus_types.specs.declared.records.Held.{Held}
use Rattle.salus_message.specs.declared.wire.Message.{Message}
use Rattle.salus_message.specs.declared.wire.Message.TheVariants as message
use Rattle.merkle_region.specs.Tree.{root_of}
use Rattle.holding_model.specs.Fitting.{has_shape}
use Rattle.replica_rules.specs.Views.{view_root}
use Rattle.replica_rules.specs.Nodes.{NodeState, base_held}
use Rattle.replica_rules.specs.Rules.{Plan, ignored, told_client, is_carried, by_gather, says_staged, staged, staged_again, staged_whole, staged_from, staged_anew, is_staged_here, by_stage, same_record, says_switched, switched, by_switch, Input, planned}
use Rattle.replica_rules.proofs.Turns.{planned_is}
use Rattle.list_lemmas.proofs.Each.{either_way, any_way}
use Rattle.list_lemmas.proofs.Tests.{way_with}

-- a message that tells all that is held tells this, and one message carries it
abbrev pub TellsCarried : Held → Message → Type 0
TellsCarried held (message.Gathered m) = (m.held ≡ held) × (is_carried held ≡ true)
TellsCarried held other = Unit {0}

module _ (shape : Shape) (g : ℕ) (node : NodeState) where
  abbrev TellOf : Plan → Type 0
  TellOf plan = AllByRecursion (λ out. TellsCarried node.held out.message) plan.outs

  by_gather_tell : (e : ℕ) → TellOf (by_gather node e)
  unfolding by_gather
  by_gather_tell e = way_with (is_carried node.held) (told_client node (message.Gathered (record { session = e; held = node.held }))) (ignored node) TellOf (λ pass. ((refl, pass), tt)) (λ fail. tt)

  staged_anew_tell : (base : Base) → TellOf (staged_anew shape node base)
  staged_anew_tell base =
      either_way (length base.blocks == 0) (option_map_or (λ m. staged_from shape node base.rec m) node.memory (ignored node)) (staged_whole shape node base) TellOf
      (any_way TellOf (λ m. staged_from shape node base.rec m) (ignored node) node.memory
      (λ m. either_way (bytes_eq (view_root shape m.replica.view) base.rec.header.root) (staged node base.rec m.replica.view.blocks) (ignored node) TellOf (tt, tt) tt) tt)
      (either_way (has_shape shape base.blocks && bytes_eq (root_of shape.height base.blocks) base.rec.header.root) (staged node base.rec base.blocks) (ignored node) TellOf (tt, tt) tt)

  by_stage_tell : (base : Base) → TellOf (by_stage shape g node base)
  unfolding by_stage
  by_stage_tell base =
      either_way (is_staged_here g node base.rec.header)
      (option_map_or (λ old. staged_again node base.rec old) (base_held shape g base.rec.header.session node.held) (staged_anew shape node base)) (ignored node) TellOf
      (any_way TellOf (λ old. staged_again node base.rec old) (staged_anew shape node base) (base_held shape g base.rec.header.session node.held)
      (λ old. either_way (same_record old.rec base.rec) (says_staged node base.rec.header.session) (ignored node) TellOf (tt, tt) tt) (staged_anew_tell base)) tt

  by_switch_tell : (e : ℕ) → TellOf (by_switch shape g node e)
  unfolding by_switch
  by_switch_tell e =
      either_way (e == node.held.session) (says_switched node e) (if nat_lt node.held.session e then option_map_or (λ base. switched shape g node e) (base_held shape g e node.held) (ignored node) else ignored node) TellOf (tt, tt)
      (either_way (nat_lt node.held.session e) (option_map_or (λ base. switched shape g node e) (base_held shape g e node.held) (ignored node)) (ignored node) TellOf
      (any_way TellOf (λ base. switched shape g node e) (ignored node) (base_held shape g e node.held) (λ base. (tt, tt)) tt) tt)

  pub planned_carry : (input : Input) → TellOf (planned shape g node input)
  planned_carry input =
      planned_is (TellsCarried node.held) (λ m. tt) (λ m. tt) (λ m. tt) (λ m. tt) shape g node TellOf tt (λ turn is. is.outs) by_gather_tell by_stage_tell by_switch_tell input
