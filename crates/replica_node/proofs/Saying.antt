-- Plans by rules that need what is held.
use Rattle.std.proofs.Common.{◌≡◌, ◌∙◌, ℕ, ◌<◌, ◌≤◌, nat_lt, Bool, true, false, if◌then◌else◌, List, [], Option, None, Some, refl, sym, ap, subst, arith}
use Rattle.std.specs.Prelude.{IfOk, OnOk, Result, Ok, Err}
use Rattle.salus_types.specs.declared.names.NodeName.{NodeName}
use Rattle.salus_types.specs.declared.names.Sender.{Sender}
use Rattle.salus_types.specs.declared.names.Sender.TheVariants as sender
use Rattle.salus_message.specs.declared.wire.Message.{Message}
use Rattle.salus_message.specs.declared.wire.MessageError.{MessageError}
use Rattle.std.specs.Option.{option_map_or}
use Rattle.std.proofs.lemmas.Bool.{eq-eqb, ltb-true, ltb-false}
use Rattle.salus_types.specs.Volume.{Shape}
use Rattle.salus_types.specs.declared.records.Base.{Base}
use Rattle.salus_types.specs.declared.records.Held.{Held}
use Rattle.salus_types.specs.declared.records.Out.{Out}
use Rattle.holding_model.specs.Changing.{AddsBase, SwitchesTo, changed, after_changes}
use Rattle.replica_rules.specs.Nodes.{Memory, NodeState, base_held, loaded_as}
use Rattle.replica_rules.specs.Rules.{Plan, ignored, says_switched, switched, by_switch, from_node, from_result, from_sender, is_node}
use Rattle.list_lemmas.proofs.Tests.{by_bool, unequal, unequal_up}
use Rattle.open_session.specs.Kept.{KeptSession}
use Rattle.open_session.specs.Standing.{IsOpened}
use Rattle.replica_node.specs.declared.planned.Planned.{Planned}
use Rattle.replica_node.specs.declared.planned.Planned.TheVariants as planned
use Rattle.replica_node.specs.Standing.{StandsIn}
use Rattle.replica_node.specs.Serving.{FoldsWell, IsPlaced, Serves}
use Rattle.replica_node.specs.Planning.{IsPlan, IsReady, node_with, IsPlanned, changes_by}
use Rattle.replica_node.specs.Saying.{Says, StagesAbove}
use Rattle.replica_node.proofs.Holding.{base_well}
use Rattle.std.proofs.lemmas.Option.{none-some, same_Some}
use Rattle.replica_node.proofs.Loading.{opened_folds}

pub says_nothing : (node : NodeState) → Says node (planned.Told []) (ignored node)
says_nothing node = record { memory = refl; outs = refl; changes = λ session. refl }

pub ignored_says : (made : Planned) (node : NodeState) → made ≡ planned.Told [] → Says node made (ignored node)
ignored_says made node is = subst (λ (p : Planned). Says node p (ignored node)) (sym is) (says_nothing node)

pub told_stages : (made : Planned) (outs : List Out) (low : ℕ) → made ≡ planned.Told outs → StagesAbove low made
told_stages made outs low is = subst (λ (p : Planned). StagesAbove low p) (sym is) tt

serves_next : (shape : Shape) (g : ℕ) (held next : Held) (session : Option KeptSession) → Serves shape g held session → (FoldsWell shape.block held → FoldsWell shape.block next) → Serves shape g next session
serves_next shape g held next session serves step = record { placed = serves.placed; folds = λ kept is whole. step (serves.folds kept is whole) }

said_ready : (shape : Shape) (g : ℕ) (held : Held) (session : Option KeptSession) (made : Planned) → Serves shape g held session → StagesAbove held.session made → IsReady shape g held session (changes_by session made)
unfolding after_changes
said_ready shape g held session (planned.Told outs) serves only = record { each = tt; after = serves }
said_ready shape g held session (planned.Turned turn) serves only = absurd only
said_ready shape g held session (planned.Staged base outs) serves only = record {
  each = ((only.0, only.1), tt);
  after = serves_next shape g held (changed shape held (AddsBase base)) session serves (λ well. base_well shape shape.block held base only.2 well);
}
said_ready shape g held session (planned.Switched e outs) serves only = absurd only

-- a plan that leaves the memory as it is
pub said_planned : (shape : Shape) (g : ℕ) (held : Held) (session : Option KeptSession) (rule : NodeState → Plan) (made : Planned) → Serves shape g held session
    → ((memory : Option Memory) → StandsIn session memory → Says (node_with held memory) made (rule (node_with held memory))) → StagesAbove held.session made → IsPlanned shape g held session session rule made
said_planned shape g held session rule made serves says only = record {
  plan = λ memory stands. let s : Says (node_with held memory) made (rule (node_with held memory)) = says memory stands in
      record { memory = subst (λ (m : Option Memory). StandsIn session m) (sym s.memory) stands; outs = s.outs; changes = s.changes session };
  ready = said_ready shape g held session made serves only;
}

pub ignored_planned : (shape : Shape) (g : ℕ) (held : Held) (session : Option KeptSession) (rule : NodeState → Plan) (made : Planned) → Serves shape g held session → ((memory : Option Memory) → rule (node_with held memory) ≡ ignored (node_with held memory)) → made ≡ planned.Told []
    → IsPlanned shape g held session session rule made
ignored_planned shape g held session rule made serves nothing is =
    said_planned shape g held session rule made serves (λ memory stands. subst (λ (p : Plan). Says (node_with held memory) made p) (sym (nothing memory)) (ignored_says made (node_with held memory) is)) (told_stages made [] held.session is)

-- ---- opening

pub opened_stands : (shape : Shape) (g : ℕ) (opened : Option KeptSession) (memory : Option Memory) → IsOpened shape g opened memory → StandsIn opened memory
opened_stands shape g None None is = tt
opened_stands shape g None (Some m) is = is
opened_stands shape g (Some kept) None is = is
opened_stands shape g (Some kept) (Some m) is = is.2

pub opened_placed : (shape : Shape) (g : ℕ) (opened : Option KeptSession) (memory : Option Memory) → IsOpened shape g opened memory → IsPlaced shape g opened
opened_placed shape g None memory is = λ kept some. absurd (none-some kept some)
opened_placed shape g (Some kept) None is = absurd is
opened_placed shape g (Some kept) (Some m) is = λ other some. subst (λ (k : KeptSession). (k.shape ≡ shape) × (k.region ≡ g)) (same_Some kept other some) (is.0, is.1)

pub opened_serves : (shape : Shape) (g : ℕ) (held : Held) (opened : Option KeptSession) → IsOpened shape g opened (loaded_as shape g held).memory → Serves shape g held opened
opened_serves shape g held opened is = record {
  placed = opened_placed shape g opened (loaded_as shape g held).memory is;
  folds = opened_folds shape g held opened (opened_stands shape g opened (loaded_as shape g held).memory is);
}

pub switched_planned : (shape : Shape) (g : ℕ) (held : Held) (old opened : Option KeptSession) (e : ℕ) (made : Planned) (outs : List Out) → made ≡ planned.Switched e outs
    → IsPlan opened (planned.Switched e outs) (switched shape g (node_with held None) e) → Serves shape g (changed shape held (SwitchesTo e)) opened → IsPlanned shape g held old opened (λ node. switched shape g node e) made
unfolding after_changes
switched_planned shape g held old opened e made outs is plan serves =
    subst (λ (p : Planned). IsPlanned shape g held old opened (λ node. switched shape g node e) p) (sym is)
    (record { plan = λ memory stands. record { memory = plan.memory; outs = plan.outs; changes = refl }; ready = record { each = (tt, tt); after = serves } })

-- ---- which way a switch goes

pub switch_same : (shape : Shape) (g : ℕ) (node : NodeState) (e : ℕ) → e ≡ node.held.session → by_switch shape g node e ≡ says_switched node e
unfolding by_switch
switch_same shape g node e same =
    ap (λ (b : Bool). if b then says_switched node e else (if nat_lt node.held.session e then option_map_or (λ base. switched shape g node e) (base_held shape g e node.held) (ignored node) else ignored node)) (eq-eqb e node.held.session same)

above_test : (low high : ℕ) → low < high → nat_lt low high ≡ true
above_test low high less = by_bool (nat_lt low high) (nat_lt low high ≡ true) (λ e. e) (λ no. absurd (let f : high ≤ low = ltb-false low high no in omega arith))

below_test : (low high : ℕ) → high < low → nat_lt low high ≡ false
below_test low high less = by_bool (nat_lt low high) (nat_lt low high ≡ false) (λ yes. absurd (let f : low < high = ltb-true low high yes in omega arith)) (λ e. e)

pub switch_below : (shape : Shape) (g : ℕ) (node : NodeState) (e : ℕ) → e < node.held.session → by_switch shape g node e ≡ ignored node
unfolding by_switch
switch_below shape g node e less =
    ap (λ (b : Bool). if b then says_switched node e else (if nat_lt node.held.session e then option_map_or (λ base. switched shape g node e) (base_held shape g e node.held) (ignored node) else ignored node)) (unequal_up e node.held.session less)
    ∙ ap (λ (b : Bool). if b then option_map_or (λ base. switched shape g node e) (base_held shape g e node.held) (ignored node) else ignored node) (below_test node.held.session e less)

switch_above : (shape : Shape) (g : ℕ) (node : NodeState) (e : ℕ) → node.held.session < e → by_switch shape g node e ≡ option_map_or (λ base. switched shape g node e) (base_held shape g e node.held) (ignored node)
unfolding by_switch
switch_above shape g node e less =
    ap (λ (b : Bool). if b then says_switched node e else (if nat_lt node.held.session e then option_map_or (λ base. switched shape g node e) (base_held shape g e node.held) (ignored node) else ignored node)) (unequal node.held.session e less)
    ∙ ap (λ (b : Bool). if b then option_map_or (λ base. switched shape g node e) (base_held shape g e node.held) (ignored node) else ignored node) (above_test node.held.session e less)

pub switch_none : (shape : Shape) (g : ℕ) (node : NodeState) (e : ℕ) → node.held.session < e → base_held shape g e node.held ≡ None → by_switch shape g node e ≡ ignored node
switch_none shape g node e less none = switch_above shape g node e less ∙ ap (λ (o : Option Base). option_map_or (λ base. switched shape g node e) o (ignored node)) none

pub switch_some : (shape : Shape) (g : ℕ) (node : NodeState) (e : ℕ) (base : Base) → node.held.session < e → base_held shape g e node.held ≡ Some base → by_switch shape g node e ≡ switched shape g node e
switch_some shape g node e base less some = switch_above shape g node e less ∙ ap (λ (o : Option Base). option_map_or (λ b. switched shape g node e) o (ignored node)) some

-- ---- results

module _ {E : Type 0} (result : Result Planned E) (shape : Shape) (g : ℕ) (held : Held) (session : Option KeptSession) where
  pub said_way : (rule : NodeState → Plan) → Serves shape g held session → IfOk result (λ made. (memory : Option Memory) → StandsIn session memory → Says (node_with held memory) made (rule (node_with held memory)))
      → IfOk result (StagesAbove held.session) → IfOk result (IsPlanned shape g held session session rule)
  said_way rule serves says only = elim result as (λ r. IfOk r (λ made. (memory : Option Memory) → StandsIn session memory → Says (node_with held memory) made (rule (node_with held memory))) → IfOk r (StagesAbove held.session) → IfOk r (IsPlanned shape g held session session rule)) [
    | Ok made ↦ λ s o. said_planned shape g held session rule made serves s o
    | Err e ↦ λ s o. tt
  ] says only

  pub says_way : (rule told : NodeState → Plan) → Serves shape g held session → ((memory : Option Memory) → rule (node_with held memory) ≡ told (node_with held memory)) → IfOk result (λ made. (node : NodeState) → Says node made (told node))
      → IfOk result (StagesAbove held.session) → IfOk result (IsPlanned shape g held session session rule)
  says_way rule told serves same says only = elim result as (λ r. IfOk r (λ made. (node : NodeState) → Says node made (told node)) → IfOk r (StagesAbove held.session) → IfOk r (IsPlanned shape g held session session rule)) [
    | Ok made ↦ λ s o. said_planned shape g held session rule made serves (λ memory stands. subst (λ (p : Plan). Says (node_with held memory) made p) (sym (same memory)) (s (node_with held memory))) o
    | Err e ↦ λ s o. tt
  ] says only

  pub ignored_way : (rule : NodeState → Plan) → Serves shape g held session → ((memory : Option Memory) → rule (node_with held memory) ≡ ignored (node_with held memory)) → IfOk result (λ made. made ≡ planned.Told []) → IfOk result (IsPlanned shape g held session session rule)
  ignored_way rule serves nothing told = elim result as (λ r. IfOk r (λ made. made ≡ planned.Told []) → IfOk r (IsPlanned shape g held session session rule)) [
    | Ok made ↦ λ t. ignored_planned shape g held session rule made serves nothing t
    | Err e ↦ λ t. tt
  ] told

pub planned_same : {E : Type 0} (result : Result Planned E) (shape : Shape) (g : ℕ) (held : Held) (old new : Option KeptSession) (rule other : NodeState → Plan) → ((memory : Option Memory) → other (node_with held memory) ≡ rule (node_with held memory)) → IfOk result (IsPlanned shape g held old new rule) → IfOk result (IsPlanned shape g held old new other)
planned_same (Ok made) shape g held old new rule other same is = record { plan = λ memory stands. subst (λ (p : Plan). IsPlan new made p) (sym (same memory)) (is.plan memory stands); ready = is.ready }
planned_same (Err e) shape g held old new rule other same is = tt

pub any_memory : {E : Type 0} (result : Result Planned E) (held : Held) (session : Option KeptSession) (rule : NodeState → Plan) → IfOk result (λ made. (memory : Option Memory) → Says (node_with held memory) made (rule (node_with held memory)))
    → IfOk result (λ made. (memory : Option Memory) → StandsIn session memory → Says (node_with held memory) made (rule (node_with held memory)))
any_memory (Ok made) held session rule says = λ memory stands. says memory
any_memory (Err e) held session rule says = tt

pub undecoded_way : {E : Type 0} (result : Result Planned E) (shape : Shape) (g : ℕ) (held : Held) (session : Option KeptSession) (from : Sender) (meaning : Result Message MessageError) (e : MessageError) → Serves shape g held session
    → OnOk result (meaning ≡ Err e) → IfOk result (λ made. made ≡ planned.Told []) → IfOk result (IsPlanned shape g held session session (λ node. from_result shape g node from meaning))
undecoded_way (Ok made) shape g held session from meaning e serves is told =
    subst (λ (r : Result Message MessageError). IsPlanned shape g held session session (λ node. from_result shape g node from r) made) (sym is) (ignored_planned shape g held session (λ node. from_result shape g node from (Err e)) made serves (λ memory. refl) told)
undecoded_way (Err error) shape g held session from meaning e serves is told = tt

pub on_ok_given : {T E : Type 0} (result : Result T E) (P : Type 0) → P → OnOk result P
on_ok_given (Ok value) P p = p
on_ok_given (Err error) P p = tt

module _ (R : Message → Type 0) (m : Message) where
  pub from_case : {A : Type 0} (v : A → Message) → ((x : A) → R (v x)) → (x : A) × (m ≡ v x) → R m
  from_case v each p = subst R (sym p.1) (each p.0)

pub sender_node : (shape : Shape) (g : ℕ) (node : NodeState) (from : Sender) (name : NodeName) (m : Message) → from ≡ sender.Node name → is_node shape name ≡ true → from_sender shape g node from m ≡ from_node shape node name m
sender_node shape g node from name m is on = ap (λ (s : Sender). from_sender shape g node s m) is ∙ ap (λ (b : Bool). if b then from_node shape node name m else ignored node) on

pub sender_other : (shape : Shape) (g : ℕ) (node : NodeState) (from : Sender) (name : NodeName) (m : Message) → from ≡ sender.Node name → is_node shape name ≡ false → from_sender shape g node from m ≡ ignored node
sender_other shape g node from name m is off = ap (λ (s : Sender). from_sender shape g node s m) is ∙ ap (λ (b : Bool). if b then from_node shape node name m else ignored node) off
