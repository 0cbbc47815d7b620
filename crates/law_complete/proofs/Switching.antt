-- A node that switches begins anew: with no vote, no claim and no header, and its leader at the view's number.
use Rattle.std.proofs.Common.{◌≡◌, ◌∙◌, ◌⊎◌, inl, inr, ℕ, ◌<◌, ◌≤◌, ◌==◌, nat_le, nat_lt, Bool, false, if◌then◌else◌, List, [], ◌∷◌, Option, None, Some, refl, sym, ap, subst, arith, eqb-true}
use Rattle.std.specs.Prelude.{filter, option_map, Result}
use Rattle.std.specs.Option.{option_map_or}
use Rattle.std.specs.List.{AllByRecursion}
use Rattle.std.proofs.lemmas.Bool.{ltb-true, ne_eqb}
use Rattle.std.proofs.lemmas.Option.{same_Some}
use Rattle.salus_types.specs.Volume.{Shape}
use Rattle.salus_types.specs.declared.names.Sender.TheVariants as sender
use Rattle.salus_types.specs.declared.records.Record.{Record}
use Rattle.salus_types.specs.declared.records.Base.{Base}
use Rattle.salus_types.specs.declared.records.Held.{Held}
use Rattle.salus_message.specs.declared.wire.Message.{Message}
use Rattle.salus_message.specs.declared.wire.MessageError.{MessageError}
use Rattle.merkle_region.specs.Tree.{IsAmong}
use Rattle.holding_model.specs.Fitting.{has_shape}
use Rattle.volume_model.specs.Recovering.{is_of}
use Rattle.holding_model.specs.Changing.{Change, SwitchesTo, changed, after_changes}
use Rattle.replica_rules.specs.Views.{view_of_base}
use Rattle.replica_rules.specs.Leading.{new_leader, noted_with}
use Rattle.replica_rules.specs.Nodes.{Memory, NodeState, stands_for, base_held, open_parts, all_tried, begun_with, memory_of, open_base, loaded_as}
use Rattle.replica_rules.specs.Rules.{Plan, ignored, says_switched, switched, by_switch, from_result, Input, Receives, Ticks, planned, handled}
use Rattle.list_lemmas.proofs.Each.{either_way, any_way, all_then, all_filter}
use Rattle.list_lemmas.proofs.Members.{among_filter, find_among}
use Rattle.list_lemmas.proofs.Tests.{by_bool, way_with, and_left}
use Rattle.law_served.proofs.Node.{BringsSwitch}

pub none_some : {A : Type 0} (x : A) → None ≡ Some x → ⊥
none_some x same = absurd (cc)

-- ---- a node that was loaded with no part of its session

pub new_memory : (shape : Shape) (g : ℕ) (held : Held) → open_parts held ≡ [] → (m : Memory) → (loaded_as shape g held).memory ≡ Some m → m.leader ≡ new_leader m.replica.view.number []
unfolding loaded_as all_tried
new_memory shape g held empty m is = by (open_base shape g held) is
  where
    of : (base : Base) → (memory_of shape g held base).leader ≡ new_leader (memory_of shape g held base).replica.view.number []
    of base =
        subst (λ (l : List Record). new_leader base.rec.header.seq (noted_with g [] (all_tried shape g (view_of_base base) l).parts) ≡ new_leader (all_tried shape g (view_of_base base) l).view.number []) (sym empty) refl

    by : (o : Option Base) → option_map (λ b. memory_of shape g held b) o ≡ Some m → m.leader ≡ new_leader m.replica.view.number []
    by None none = absurd (none_some m none)
    by (Some base) some = subst (λ (k : Memory). k.leader ≡ new_leader k.replica.view.number []) (same_Some (memory_of shape g held base) m some) (of base)

-- the base that it was loaded with, from which its view begins
pub record IsLoadedFrom (shape : Shape) (g : ℕ) (held : Held) (m : Memory) : Type 0 where
  pub base : Base
  pub among : IsAmong base held.bases
  pub session : base.rec.header.session ≡ held.session
  pub number : m.replica.view.number ≡ base.rec.header.seq
  pub parts : m.parts ≡ []
  pub begun : m.begun ≡ begun_with base

pub loaded_from : (shape : Shape) (g : ℕ) (held : Held) → open_parts held ≡ [] → (m : Memory) → (loaded_as shape g held).memory ≡ Some m → IsLoadedFrom shape g held m
unfolding loaded_as all_tried
loaded_from shape g held empty m is =
    by_bool (held.session == 0) (IsLoadedFrom shape g held m)
    (λ zero. absurd (none_some m (ap (λ (t : Bool). option_map (λ b. memory_of shape g held b) (if t then None else base_held shape g held.session held)) (sym zero) ∙ is)))
    (λ some. by (base_held shape g held.session held) refl (ap (λ (t : Bool). option_map (λ b. memory_of shape g held b) (if t then None else base_held shape g held.session held)) (sym some) ∙ is))
  where
    by : (o : Option Base) → base_held shape g held.session held ≡ o → option_map (λ b. memory_of shape g held b) o ≡ Some m → IsLoadedFrom shape g held m
    by None found none = absurd (none_some m none)
    by (Some base) found some =
        let there = find_among (λ b. stands_for shape g held.session b) base held.bases found in
        record {
          base = base;
          among = there.0;
          session = eqb-true base.rec.header.session held.session
              (and_left (base.rec.header.session == held.session) (base.rec.header.region == g) (and_left (is_of held.session g base.rec.header) (has_shape shape base.blocks) there.1));
          number = ap (λ (k : Memory). k.replica.view.number) (sym (same_Some (memory_of shape g held base) m some))
              ∙ ap (λ (l : List Record). (all_tried shape g (view_of_base base) l).view.number) empty;
          parts = ap (λ (k : Memory). k.parts) (sym (same_Some (memory_of shape g held base) m some)) ∙ ap (λ (l : List Record). (all_tried shape g (view_of_base base) l).parts) empty;
          begun = ap (λ (k : Memory). k.begun) (sym (same_Some (memory_of shape g held base) m some));
        }

none_pass : {A : Type 0} (test : A → Bool) (xs : List A) → AllByRecursion (λ x. test x ≡ false) xs → filter test xs ≡ []
none_pass test [] all = refl
none_pass test (x ∷ xs) all = ap (λ (t : Bool). if t then x ∷ filter test xs else filter test xs) all.0 ∙ none_pass test xs all.1

-- ---- a switch

module _ (shape : Shape) (g : ℕ) (node : NodeState) where
  abbrev now : ℕ
  now = node.held.session

  pub record IsSwitching (plan : Plan) : Type 0 where
    pub e : ℕ
    pub up : now < e
    pub is : plan ≡ switched shape g node e

  abbrev pub StaysOrSwitches : Plan → Type 0
  StaysOrSwitches plan = ((after_changes shape node.held plan.changes).session ≡ now) ⊎ IsSwitching plan

  nothing : (plan : Plan) → plan.changes ≡ [] → StaysOrSwitches plan
  unfolding after_changes
  nothing plan none = inl (ap (λ (l : List Change). (after_changes shape node.held l).session) none)

  by_session : (e : ℕ) → StaysOrSwitches (by_switch shape g node e)
  unfolding by_switch
  by_session e =
      either_way (e == now) (says_switched node e) (if nat_lt now e then option_map_or (λ base. switched shape g node e) (base_held shape g e node.held) (ignored node) else ignored node) StaysOrSwitches
      (nothing (says_switched node e) refl)
      (way_with (nat_lt now e) (option_map_or (λ base. switched shape g node e) (base_held shape g e node.held) (ignored node)) (ignored node) StaysOrSwitches
      (λ up. any_way StaysOrSwitches (λ (base : Base). switched shape g node e) (ignored node) (base_held shape g e node.held) (λ base. inr (record { e = e; up = ltb-true now e up; is = refl })) (nothing (ignored node) refl))
      (λ _. nothing (ignored node) refl))

  -- An input that brings a switch leaves the session, or has it switched.
  pub switch_brought : (input : Input) (e : ℕ) → BringsSwitch input e → StaysOrSwitches (planned shape g node input)
  unfolding planned
  switch_brought (Receives sender.Client bytes) e read =
      subst (λ (r : Result Message MessageError). StaysOrSwitches (from_result shape g node sender.Client r)) (sym read) (by_session e)
  switch_brought (Receives (sender.Node name) bytes) e none = absurd none
  switch_brought Ticks e none = absurd none

  switch_empty : (e : ℕ) → now < e → AllByRecursion (λ (rec : Record). rec.header.session ≤ now) node.held.parts → open_parts (changed shape node.held (SwitchesTo e)) ≡ []
  unfolding changed
  switch_empty e up low =
      none_pass (λ (rec : Record). rec.header.session == e) (filter (λ rec. nat_le e rec.header.session) node.held.parts)
      (all_filter (λ (rec : Record). (rec.header.session == e) ≡ false) (λ rec. nat_le e rec.header.session) node.held.parts
      (all_then (λ (rec : Record). rec.header.session ≤ now) (λ rec. (rec.header.session == e) ≡ false) (λ rec below. ne_eqb rec.header.session e (λ is. omega (arith, below, up, is))) node.held.parts low))

  -- So its leader is new.
  pub new_leader_then : (input : Input) → IsSwitching (planned shape g node input) → AllByRecursion (λ (rec : Record). rec.header.session ≤ now) node.held.parts → (m : Memory)
      → (handled shape g node input).node.memory ≡ Some m → m.leader ≡ new_leader m.replica.view.number []
  new_leader_then input w low m there =
      new_memory shape g (changed shape node.held (SwitchesTo w.e)) (switch_empty w.e w.up low) m (ap (λ (p : Plan). p.memory) (sym w.is) ∙ there)

  -- and its view begins with a base that it held
  pub record BeginsFrom (m : Memory) (e : ℕ) : Type 0 where
    pub base : Base
    pub among : IsAmong base node.held.bases
    pub session : base.rec.header.session ≡ e
    pub number : m.replica.view.number ≡ base.rec.header.seq
    pub parts : m.parts ≡ []
    pub begun : m.begun ≡ begun_with base

  pub begins_from : (input : Input) (w : IsSwitching (planned shape g node input)) → AllByRecursion (λ (rec : Record). rec.header.session ≤ now) node.held.parts → (m : Memory)
      → (handled shape g node input).node.memory ≡ Some m → BeginsFrom m w.e
  unfolding changed
  begins_from input w low m there = by (loaded_from shape g (changed shape node.held (SwitchesTo w.e)) (switch_empty w.e w.up low) m (ap (λ (p : Plan). p.memory) (sym w.is) ∙ there))
    where
      by : IsLoadedFrom shape g (changed shape node.held (SwitchesTo w.e)) m → BeginsFrom m w.e
      by from = record { base = from.base; among = (among_filter (λ b. nat_le w.e b.rec.header.session) from.base node.held.bases from.among).0; session = from.session; number = from.number; parts = from.parts; begun = from.begun }

  pub switched_session : (input : Input) (w : IsSwitching (planned shape g node input)) → (handled shape g node input).node.held.session ≡ w.e
  unfolding after_changes changed
  switched_session input w = ap (λ (p : Plan). (after_changes shape node.held p.changes).session) w.is
