-- Which way a gathering and a staging go.
use Rattle.std.proofs.Common.{◌≡◌, ◌∙◌, ℕ, ◌<◌, ◌≤◌, ◌==◌, ◌&&◌, nat_le, Bool, true, false, if◌then◌else◌, List, [], ◌∷◌, length, Option, None, Some, bytes_eq, refl, sym, ap, subst, arith}
use Rattle.std.specs.Prelude.{IfOk, Result, Ok, Err}
use Rattle.std.specs.List.{AllByRecursion, list_all}
use Rattle.std.specs.Option.{option_map_or}
use Rattle.std.proofs.lemmas.Bool.{eqb-true, leb-true, leb-false}
use Rattle.std.proofs.lemmas.Slice.Eq.{bytes_eq-Decides}
use Rattle.std.proofs.lemmas.List.Elements.{All-from_recursion}
use Rattle.salus_types.specs.Volume.{Shape, IsBlock, region_blocks}
use Rattle.salus_types.specs.declared.names.Sender.TheVariants as sender
use Rattle.salus_types.specs.declared.records.Record.{Record}
use Rattle.salus_types.specs.declared.records.Base.{Base}
use Rattle.salus_types.specs.declared.records.Held.{Held}
use Rattle.salus_types.specs.declared.records.Out.{Out}
use Rattle.client_tag.specs.Ranges.{IsBetween, AreBlocks}
use Rattle.client_tag.specs.Spelling.{size_of}
use Rattle.salus_message.specs.declared.wire.Message.{Message}
use Rattle.salus_message.specs.declared.wire.Message.TheVariants as message
use Rattle.merkle_region.specs.Tree.{root_of}
use Rattle.holding_model.specs.Fitting.{has_shape}
use Rattle.replica_rules.specs.Views.{View, view_root}
use Rattle.replica_rules.specs.Nodes.{Memory, NodeState, base_held}
use Rattle.replica_rules.specs.Rules.{Plan, ignored, told_client, by_gather, says_staged, staged, staged_again, staged_whole, staged_from, staged_anew, is_staged_here, by_stage, same_record}
use Rattle.posting.specs.Posting.{out_to}
use Rattle.list_lemmas.proofs.Each.{all_then}
use Rattle.list_lemmas.proofs.Tests.{by_bool, and_left, unequal}
use Rattle.std.proofs.lemmas.Option.{none-some}
use Rattle.replica_rules.specs.Replicas.{Replica}
use Rattle.open_session.specs.Kept.{KeptSession}
use Rattle.replica_node.specs.Standing.{StandsIn}
use Rattle.replica_node.specs.declared.planned.Planned.{Planned}
use Rattle.replica_node.specs.declared.planned.Planned.TheVariants as planned
use Rattle.replica_node.specs.Planning.{node_with}
use Rattle.replica_node.specs.Saying.{Says}
use Rattle.replica_node.specs.Serving.{AreSized}
use Rattle.replica_node.proofs.Saying.{ignored_says}
use Rattle.replica_node.proofs.Holding.{shape_sized}

pub same_says : {E X : Type 0} (result : Result Planned E) (at : X → NodeState) (rule told : NodeState → Plan) → ((x : X) → rule (at x) ≡ told (at x)) → IfOk result (λ made. (x : X) → Says (at x) made (told (at x))) → IfOk result (λ made. (x : X) → Says (at x) made (rule (at x)))
same_says (Ok made) at rule told same says = λ x. subst (λ (p : Plan). Says (at x) made p) (sym (same x)) (says x)
same_says (Err e) at rule told same says = tt

pub nothing_says : {E X : Type 0} (result : Result Planned E) (at : X → NodeState) (rule : NodeState → Plan) → ((x : X) → rule (at x) ≡ ignored (at x)) → IfOk result (λ made. made ≡ planned.Told []) → IfOk result (λ made. (x : X) → Says (at x) made (rule (at x)))
nothing_says (Ok made) at rule nothing told = λ x. subst (λ (p : Plan). Says (at x) made p) (sym (nothing x)) (ignored_says made (at x) told)
nothing_says (Err e) at rule nothing told = tt

pub told_says : (node : NodeState) (m : Message) (outs : List Out) → outs ≡ out_to sender.Client m ∷ [] → Says node (planned.Told outs) (told_client node m)
told_says node m outs is = record { memory = refl; outs = is; changes = λ session. refl }

-- ---- a gathering

gather_by : (node : NodeState) (e : ℕ) (bases parts : Bool) → nat_le (length node.held.bases) 1048576 ≡ bases → nat_le (length node.held.parts) 1048576 ≡ parts
    → by_gather node e ≡ (if bases && parts then told_client node (message.Gathered (record { session = e; held = node.held })) else ignored node)
unfolding by_gather
gather_by node e bases parts first second =
    ap (λ (b : Bool). if b && nat_le (length node.held.parts) 1048576 then told_client node (message.Gathered (record { session = e; held = node.held })) else ignored node) first
    ∙ ap (λ (b : Bool). if bases && b then told_client node (message.Gathered (record { session = e; held = node.held })) else ignored node) second

few_test : (n : ℕ) → n ≤ 1048576 → nat_le n 1048576 ≡ true
few_test n few = by_bool (nat_le n 1048576) (nat_le n 1048576 ≡ true) (λ e. e) (λ no. absurd (let f : 1048576 < n = leb-false n 1048576 no in omega arith))

many_test : (n : ℕ) → 1048576 < n → nat_le n 1048576 ≡ false
many_test n many = by_bool (nat_le n 1048576) (nat_le n 1048576 ≡ false) (λ yes. absurd (let f : n ≤ 1048576 = leb-true n 1048576 yes in omega arith)) (λ e. e)

pub gather_told : (node : NodeState) (e : ℕ) → length node.held.bases ≤ 1048576 → length node.held.parts ≤ 1048576 → by_gather node e ≡ told_client node (message.Gathered (record { session = e; held = node.held }))
gather_told node e bases parts = gather_by node e true true (few_test (length node.held.bases) bases) (few_test (length node.held.parts) parts)

pub gather_bases : (node : NodeState) (e : ℕ) → 1048576 < length node.held.bases → by_gather node e ≡ ignored node
gather_bases node e many = gather_by node e false (nat_le (length node.held.parts) 1048576) (many_test (length node.held.bases) many) refl

and_none : {A : Type 0} (b : Bool) (x y : A) → (if b && false then x else y) ≡ y
and_none true x y = refl
and_none false x y = refl

pub gather_parts : (node : NodeState) (e : ℕ) → 1048576 < length node.held.parts → by_gather node e ≡ ignored node
gather_parts node e many =
    gather_by node e (nat_le (length node.held.bases) 1048576) false refl (many_test (length node.held.parts) many)
    ∙ and_none (nat_le (length node.held.bases) 1048576) (told_client node (message.Gathered (record { session = e; held = node.held }))) (ignored node)

-- ---- a staging

pub again_same : (node : NodeState) (rec : Record) (old : Base) → same_record old.rec rec ≡ true → staged_again node rec old ≡ says_staged node rec.header.session
again_same node rec old same = ap (λ (b : Bool). if b then says_staged node rec.header.session else ignored node) same

root_test : (a b : List ℕ) → a ≡ b → bytes_eq a b ≡ true
root_test a b same = (bytes_eq-Decides a b).1 same

other_test : (a b : List ℕ) → (a ≡ b → ⊥) → bytes_eq a b ≡ false
other_test a b differ = by_bool (bytes_eq a b) (bytes_eq a b ≡ false) (λ yes. absurd (differ ((bytes_eq-Decides a b).0 yes))) (λ e. e)

pub whole_staged : (shape : Shape) (node : NodeState) (base : Base) → has_shape shape base.blocks ≡ true → root_of shape.height base.blocks ≡ base.rec.header.root → staged_whole shape node base ≡ staged node base.rec base.blocks
whole_staged shape node base shaped root =
    ap (λ (b : Bool). if b && bytes_eq (root_of shape.height base.blocks) base.rec.header.root then staged node base.rec base.blocks else ignored node) shaped
    ∙ ap (λ (b : Bool). if b then staged node base.rec base.blocks else ignored node) (root_test (root_of shape.height base.blocks) base.rec.header.root root)

pub from_same : (shape : Shape) (node : NodeState) (rec : Record) (m : Memory) (view : View) → m.replica.view ≡ view → view_root shape view ≡ rec.header.root → staged_from shape node rec m ≡ staged node rec view.blocks
from_same shape node rec m view is root =
    ap (λ (v : View). if bytes_eq (view_root shape v) rec.header.root then staged node rec v.blocks else ignored node) is
    ∙ ap (λ (b : Bool). if b then staged node rec view.blocks else ignored node) (root_test (view_root shape view) rec.header.root root)

pub from_other : (shape : Shape) (node : NodeState) (rec : Record) (m : Memory) (view : View) → m.replica.view ≡ view → (view_root shape view ≡ rec.header.root → ⊥) → staged_from shape node rec m ≡ ignored node
from_other shape node rec m view is differ =
    ap (λ (v : View). if bytes_eq (view_root shape v) rec.header.root then staged node rec v.blocks else ignored node) is
    ∙ ap (λ (b : Bool). if b then staged node rec view.blocks else ignored node) (other_test (view_root shape view) rec.header.root differ)

pub anew_whole : (shape : Shape) (node : NodeState) (base : Base) → (base.blocks ≡ [] → ⊥) → staged_anew shape node base ≡ staged_whole shape node base
anew_whole shape node base some =
    ap (λ (b : Bool). if b then option_map_or (λ m. staged_from shape node base.rec m) node.memory (ignored node) else staged_whole shape node base) (not_empty base.blocks some) where
      not_empty : (blocks : List (List ℕ)) → (blocks ≡ [] → ⊥) → (length blocks == 0) ≡ false
      not_empty [] there = absurd (there refl)
      not_empty (b ∷ blocks) there = unequal 0 (length (b ∷ blocks)) (omega arith)

pub anew_empty : (shape : Shape) (node : NodeState) (base : Base) → base.blocks ≡ [] → staged_anew shape node base ≡ option_map_or (λ m. staged_from shape node base.rec m) node.memory (ignored node)
anew_empty shape node base none =
    ap (λ (l : List (List ℕ)). if length l == 0 then option_map_or (λ m. staged_from shape node base.rec m) node.memory (ignored node) else staged_whole shape node (record { rec = base.rec; blocks = l })) none

pub stage_not_here : (shape : Shape) (g : ℕ) (node : NodeState) (base : Base) → is_staged_here g node base.rec.header ≡ false → by_stage shape g node base ≡ ignored node
unfolding by_stage
stage_not_here shape g node base off =
    ap (λ (b : Bool). if b then option_map_or (λ held. staged_again node base.rec held) (base_held shape g base.rec.header.session node.held) (staged_anew shape node base) else ignored node) off

pub stage_here : (shape : Shape) (g : ℕ) (node : NodeState) (base : Base) (found : Option Base) → is_staged_here g node base.rec.header ≡ true → base_held shape g base.rec.header.session node.held ≡ found
    → by_stage shape g node base ≡ option_map_or (λ held. staged_again node base.rec held) found (staged_anew shape node base)
unfolding by_stage
stage_here shape g node base found on is =
    ap (λ (b : Bool). if b then option_map_or (λ held. staged_again node base.rec held) (base_held shape g base.rec.header.session node.held) (staged_anew shape node base) else ignored node) on
    ∙ ap (λ (o : Option Base). option_map_or (λ held. staged_again node base.rec held) o (staged_anew shape node base)) is

-- ---- the blocks of a view

one_size : (n : ℕ) (blocks : List (List ℕ)) → AllByRecursion (λ x. length x ≡ n) blocks → AllByRecursion (λ x. length x ≡ size_of blocks) blocks
one_size n [] all = tt
one_size n (x ∷ blocks) all = all_then (λ y. length y ≡ n) (λ y. length y ≡ length x) (λ y same. same ∙ sym all.0) (x ∷ blocks) all

pub few_blocks : (shape : Shape) (blocks : List (List ℕ)) → has_shape shape blocks ≡ true → region_blocks shape ≤ 1024 → length blocks ≡ region_blocks shape → IsBlock shape.block → AreBlocks blocks
few_blocks shape blocks shaped few count small =
    let sized : AreSized shape.block blocks = shape_sized shape blocks shaped in
    record {
      few_blocks = omega arith;
      one_size = All-from_recursion (λ x. length x ≡ size_of blocks) blocks (one_size shape.block blocks sized.each);
      small_blocks = All-from_recursion (λ x. IsBetween 1 4096 (length x)) blocks (all_then (λ x. length x ≡ shape.block) (λ x. IsBetween 1 4096 (length x)) (λ x same. subst (IsBetween 1 4096) (sym same) small) blocks sized.each);
    }

pub shape_count : (shape : Shape) (blocks : List (List ℕ)) → has_shape shape blocks ≡ true → length blocks ≡ region_blocks shape
unfolding has_shape
shape_count shape blocks is = eqb-true (length blocks) (region_blocks shape) (and_left (length blocks == region_blocks shape) (list_all (λ x. length x == shape.block) blocks) is)

-- ---- with what is known of the memory

module _ {E X : Type 0} (result : Result Planned E) (at : X → NodeState) (P : X → Type 0) where
  pub under_says : (rule told : NodeState → Plan) → ((x : X) → P x → rule (at x) ≡ told (at x)) → IfOk result (λ made. (node : NodeState) → Says node made (told node)) → IfOk result (λ made. (x : X) → P x → Says (at x) made (rule (at x)))
  under_says rule told same says = elim result as (λ r. IfOk r (λ made. (node : NodeState) → Says node made (told node)) → IfOk r (λ made. (x : X) → P x → Says (at x) made (rule (at x)))) [
    | Ok made ↦ λ s x p. subst (λ (l : Plan). Says (at x) made l) (sym (same x p)) (s (at x))
    | Err e ↦ λ s. tt
  ] says

  pub under_nothing : (rule : NodeState → Plan) → ((x : X) → P x → rule (at x) ≡ ignored (at x)) → IfOk result (λ made. made ≡ planned.Told []) → IfOk result (λ made. (x : X) → P x → Says (at x) made (rule (at x)))
  under_nothing rule nothing told = elim result as (λ r. IfOk r (λ made. made ≡ planned.Told []) → IfOk r (λ made. (x : X) → P x → Says (at x) made (rule (at x)))) [
    | Ok made ↦ λ t x p. subst (λ (l : Plan). Says (at x) made l) (sym (nothing x p)) (ignored_says made (at x) t)
    | Err e ↦ λ t. tt
  ] told

pub held_says : {E : Type 0} (result : Result Planned E) (held : Held) (session : Option KeptSession) (rule told : NodeState → Plan) → ((memory : Option Memory) → rule (node_with held memory) ≡ told (node_with held memory))
    → IfOk result (λ made. (node : NodeState) → StandsIn session node.memory → Says node made (told node)) → IfOk result (λ made. (memory : Option Memory) → StandsIn session memory → Says (node_with held memory) made (rule (node_with held memory)))
held_says (Ok made) held session rule told same says = λ memory stands. subst (λ (p : Plan). Says (node_with held memory) made p) (sym (same memory)) (says (node_with held memory) stands)
held_says (Err e) held session rule told same says = tt

none_memory : (session : Option KeptSession) (memory : Option Memory) → session ≡ None → StandsIn session memory → memory ≡ None
none_memory None None is stands = refl
none_memory None (Some m) is stands = absurd stands
none_memory (Some kept) memory is stands = absurd (none-some kept (sym is))

pub anew_none : (shape : Shape) (node : NodeState) (base : Base) (session : Option KeptSession) → base.blocks ≡ [] → session ≡ None → StandsIn session node.memory → staged_anew shape node base ≡ ignored node
anew_none shape node base session none is stands =
    anew_empty shape node base none ∙ ap (λ (o : Option Memory). option_map_or (λ m. staged_from shape node base.rec m) o (ignored node)) (none_memory session node.memory is stands)

from_some : (shape : Shape) (node : NodeState) (rec : Record) (kept : KeptSession) (made : Planned) → ((m : Memory) → m.replica.view ≡ kept.replica.view → (n : NodeState) → Says n made (staged_from shape n rec m))
    → (memory : Option Memory) → StandsIn (Some kept) memory → Says node made (option_map_or (λ m. staged_from shape node rec m) memory (ignored node))
from_some shape node rec kept made says None stands = absurd stands
from_some shape node rec kept made says (Some m) stands = says m (sym (ap (λ (r : Replica). r.view) stands.replica)) node

pub from_says : {E : Type 0} (result : Result Planned E) (shape : Shape) (base : Base) (session : Option KeptSession) (kept : KeptSession) → session ≡ Some kept → kept.shape ≡ shape → base.blocks ≡ []
    → ((m : Memory) → m.replica.view ≡ kept.replica.view → IfOk result (λ made. (node : NodeState) → Says node made (staged_from kept.shape node base.rec m)))
    → IfOk result (λ made. (node : NodeState) → StandsIn session node.memory → Says node made (staged_anew shape node base))
from_says (Ok made) shape base session kept is place none says = λ node stands.
    subst (λ (p : Plan). Says node made p) (sym (anew_empty shape node base none))
    (from_some shape node base.rec kept made (subst (λ (s : Shape). (m : Memory) → m.replica.view ≡ kept.replica.view → (n : NodeState) → Says n made (staged_from s n base.rec m)) place says) node.memory
    (subst (λ (o : Option KeptSession). StandsIn o node.memory) is stands))
from_says (Err e) shape base session kept is place none says = tt
