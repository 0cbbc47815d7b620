-- The nodes of a world, of which one has changed.
use Rattle.std.proofs.Common.{◌≡◌, ◌∙◌, ◌⊎◌, inl, inr, ℕ, zero, suc, ◌+◌, ◌*◌, ◌/◌, ◌%◌, ◌<◌, ◌≤◌, ◌==◌, Bool, true, false, List, [], ◌∷◌, ◌++◌, length, slice_get, slice_set, Some, refl, sym, ap, ap₂, subst, arith}
use Rattle.std.proofs.lemmas.Bool.{eq-eqb}
use Rattle.std.proofs.lemmas.Nat.{same_from_place, mul-add-lt, div-mul-add, mod-mul-add, div_below}
use Rattle.std.proofs.lemmas.List.{length_push}
use Rattle.std.proofs.lemmas.Option.{none-some, same_Some}
use Rattle.salus_types.specs.Volume.{Shape, regions, nodes}
use Rattle.salus_types.specs.declared.names.NodeName.{NodeName}
use Rattle.schedule_text.specs.Limits.{IsOfVolume}
use Rattle.volume_model.specs.Groups.{same_node}
use Rattle.unanimous_certificate.specs.Kept.{node_place}
use Rattle.run_rules.specs.Knowing.{KnownNode, fresh}
use Rattle.salus_types.specs.declared.records.Held.{Held}
use Rattle.list_lemmas.proofs.Tests.{by_bool}
use Rattle.disk_model.specs.declared.disk.Disk.{Ghosts}
use Rattle.disk_node.specs.declared.node.DiskNode.{DiskNode}
use Rattle.disk_node.specs.Fitting.{Fits, IsUnharmed, held_in}
use Rattle.run_steps.proofs.Stepping.{one_node, same_name}
use Rattle.run_steps.proofs.Marking.{get_set_here, get_set_other, length_set}
use Rattle.salus_world.specs.Places.{name_at, FitAll, SureAll, AllUnharmed, IsFormatted, AreFormatted, ChangesAt}

-- ---- places

pub place_below : (shape : Shape) (name : NodeName) → IsOfVolume shape name → node_place shape name < nodes shape
place_below shape name of =
    let below : node_place shape name < shape.replicas * regions shape = mul-add-lt name.region shape.replicas name.replica (regions shape) of.0 of.1 in
    omega (arith, below)

pub name_of_place : (shape : Shape) (name : NodeName) → IsOfVolume shape name → name_at shape (node_place shape name) ≡ name
name_of_place shape name of =
    ap₂ (λ (g r : ℕ). record { region = g; replica = r }) (div-mul-add name.region shape.replicas name.replica of.1) (mod-mul-add name.region shape.replicas name.replica of.1)

other_place : (shape : Shape) (a b : NodeName) → IsOfVolume shape a → IsOfVolume shape b → same_node a b ≡ false → node_place shape a ≡ node_place shape b → ⊥
other_place shape a b of also differs same =
    let both = same_from_place a.region a.replica b.region b.replica shape.replicas of.1 also.1 same in
    not_both (rw (eq-eqb a.region b.region both.0, eq-eqb a.replica b.replica both.1) refl) differs
  where
    not_both : {b : Bool} → b ≡ true → b ≡ false → ⊥
    not_both is also = cc

module _ {D : Type 0} {g : Ghosts D} {lane : _} (shape : Shape) (old new : List (DiskNode D g lane)) (name : NodeName) (of : IsOfVolume shape name) (How : DiskNode D g lane → DiskNode D g lane → Type 0) (change : ChangesAt (node_place shape name) old new How) where
  -- the node that has changed, and one that hasn't
  this_node : (node : DiskNode D g lane) → slice_get new (node_place shape name) ≡ Some node → node ≡ change.is
  this_node node at = get_set_here old (node_place shape name) change.is node (subst (λ (l : List (DiskNode D g lane)). slice_get l (node_place shape name) ≡ Some node) change.set at)

  that_node : (other : NodeName) → IsOfVolume shape other → same_node name other ≡ false → (node : DiskNode D g lane) → slice_get new (node_place shape other) ≡ Some node → slice_get old (node_place shape other) ≡ Some node
  that_node other also differs node at =
      sym (get_set_other old (node_place shape name) (node_place shape other) change.is (other_place shape name other of also differs))
      ∙ subst (λ (l : List (DiskNode D g lane)). slice_get l (node_place shape other) ≡ Some node) change.set at

  pub count_stays : length new ≡ length old
  count_stays = ap length change.set ∙ length_set old (node_place shape name) change.is

  pub changed_fits : (known later : NodeName → KnownNode) → FitAll shape known old → Fits shape name (later name) change.is
      → ((other : NodeName) → same_node name other ≡ false → later other ≡ known other) → FitAll shape later new
  changed_fits known later fits here others = λ other also node at.
      by_bool (same_node name other) (Fits shape other (later other) node)
      (λ e.
      let is : name ≡ other = one_node name other e in
      subst (λ (n : NodeName). Fits shape n (later n) node) is
      (subst (λ (m : DiskNode D g lane). Fits shape name (later name) m) (sym (this_node node (subst (λ (n : NodeName). slice_get new (node_place shape n) ≡ Some node) (sym is) at))) here))
      (λ e. subst (λ (k : KnownNode). Fits shape other k node) (sym (others other e)) (fits other also node (that_node other also e node at)))

  pub changed_sure : (harmed later : NodeName → Bool) → SureAll shape harmed old → (later name ≡ false → IsUnharmed change.is)
      → ((other : NodeName) → same_node name other ≡ false → later other ≡ false → harmed other ≡ false) → SureAll shape later new
  changed_sure harmed later sure here others = λ other also node at calm.
      by_bool (same_node name other) (IsUnharmed node)
      (λ e.
      let is : name ≡ other = one_node name other e in
      subst (λ (m : DiskNode D g lane). IsUnharmed m) (sym (this_node node (subst (λ (n : NodeName). slice_get new (node_place shape n) ≡ Some node) (sym is) at)))
      (here (subst (λ (n : NodeName). later n ≡ false) (sym is) calm)))
      (λ e. sure other also node (that_node other also e node at) (others other e calm))

-- ---- formatted nodes

module _ {D : Type 0} {g : Ghosts D} {lane : _} (shape : Shape) (key : List ℕ) (made : List (DiskNode D g lane)) (are : AreFormatted shape key (nodes shape) made) where
  pub at_name : (name : NodeName) → IsOfVolume shape name → (node : DiskNode D g lane) → slice_get made (node_place shape name) ≡ Some node → IsFormatted shape key name node
  at_name name of node at = subst (λ (n : NodeName). IsFormatted shape key n node) (name_of_place shape name of) (are.each (node_place shape name) node at)

  -- by what each holds
  pub formatted_fit : (held : NodeName → Held) → ((name : NodeName) → IsOfVolume shape name → (node : DiskNode D g lane) → slice_get made (node_place shape name) ≡ Some node → held_in node ≡ held name)
      → FitAll shape (λ name. fresh shape name.region (held name)) made
  formatted_fit held holds = λ name of node at. subst (λ (h : Held). Fits shape name (fresh shape name.region h) node) (holds name of node at) (at_name name of node at).fits

pub region_at : (shape : Shape) (place : ℕ) → 1 ≤ shape.replicas → place < nodes shape → (name_at shape place).region < regions shape
region_at shape place some inside = div_below place shape.replicas (regions shape) some inside

pub got_last : {A : Type 0} (xs : List A) (y : A) (i : ℕ) (x : A) → slice_get (xs ++ y ∷ []) i ≡ Some x → (slice_get xs i ≡ Some x) ⊎ ((i ≡ length xs) × (x ≡ y))
got_last [] y zero x at = inr (refl, sym (same_Some y x at))
got_last [] y (suc i) x at = absurd (none-some x at)
got_last (z ∷ xs) y zero x at = inl at
got_last (z ∷ xs) y (suc i) x at = elim (got_last xs y i x at) [ inl is ↦ inl is | inr is ↦ inr (ap suc is.0, is.1) ]

-- one more node is formatted
pub formatted_more : {D : Type 0} {g : Ghosts D} {lane : _} (shape : Shape) (key : List ℕ) (place : ℕ) (made : List (DiskNode D g lane)) (node : DiskNode D g lane) (name : NodeName) → AreFormatted shape key place made → name ≡ name_at shape place
    → IsFormatted shape key name node → AreFormatted shape key (place + 1) (made ++ node ∷ [])
formatted_more {D = D} {g = g} {lane = lane} shape key place made node name are is one =
    let P : ℕ → DiskNode D g lane → Type 0 = λ p m. IsFormatted shape key (name_at shape p) m in
    let here : P place node = subst (λ (n : NodeName). IsFormatted shape key n node) is one in
    record {
      long = length_push made node ∙ ap (λ (k : ℕ). k + 1) are.long;
      each = λ p m at. elim (got_last made node p m at) [
        | inl old ↦ are.each p m old
        | inr new ↦ subst (λ (x : DiskNode D g lane). P p x) (sym new.1) (subst (λ (k : ℕ). P k node) (sym (new.0 ∙ are.long)) here)
      ];
    }

pub none_formatted : {D : Type 0} {g : Ghosts D} {lane : _} (shape : Shape) (key : List ℕ) → AreFormatted {D = D} {g = g} {lane = lane} shape key 0 []
none_formatted shape key = record { long = refl; each = λ p m at. absurd (none-some m at) }

-- one more of which no call is to fail
pub unharmed_more : {D : Type 0} {g : Ghosts D} {lane : _} (made : List (DiskNode D g lane)) (node : DiskNode D g lane) → AllUnharmed made → IsUnharmed node → AllUnharmed (made ++ node ∷ [])
unharmed_more {D = D} {g = g} {lane = lane} made node all one = λ place x at. elim (got_last made node place x at) [
  | inl old ↦ all place x old
  | inr new ↦ subst (λ (n : DiskNode D g lane). IsUnharmed n) (sym new.1) one
]
