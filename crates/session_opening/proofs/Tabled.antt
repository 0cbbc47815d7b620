-- The table of those who have answered says what the rules' list says.
use Rattle.std.proofs.Common.{◌≡◌, ◌∙◌, ℕ, suc, ◌+◌, ◌*◌, ◌<◌, ◌≤◌, Bool, true, false, ◌==◌, ◌||◌, not, cond, List, [], ◌∷◌, ◌++◌, length, inl, inr, refl, sym, ap, ap₂, subst, arith}
use Rattle.std.specs.Prelude.{filter}
use Rattle.std.specs.List.{list_any}
use Rattle.std.proofs.Math.Nat.{mul-le-mul_right}
use Rattle.std.proofs.lemmas.Bool.{cases_eq, cases_order, eq-eqb, eqb-true, and_from, and_parts, false_from_ne_true}
use Rattle.std.proofs.lemmas.List.{length-set, length-replicate, get_or-replicate, get_or-set_other}
use Rattle.std.proofs.lemmas.Grind.{get_or-set_at}
use Rattle.std.proofs.lemmas.List.Folds.{list_any-append}
use Rattle.salus_types.specs.Volume.{Shape, regions, nodes}
use Rattle.salus_types.specs.declared.names.NodeName.{NodeName}
use Rattle.schedule_text.specs.Limits.{IsOfVolume}
use Rattle.volume_model.specs.Groups.{same_node, all_nodes}
use Rattle.list_lemmas.proofs.Tests.{or_false, or_true}
use Rattle.client_rules.specs.Opening.{has_answered, with_name, all_answered, not_answered}
use Rattle.volume_restart.specs.declared.restart.Phase.{Phase}
use Rattle.volume_restart.specs.Answers.{Table, all_said, has_said, nobody, place_of, with_said}
use Rattle.volume_restart.specs.Restarting.{Restarting, shape_of, waits_in}
use Rattle.volume_restart.proofs.Tables.{place_within}
use Rattle.session_opening.specs.Answered.{IsSaid, is_waited_for}
use Rattle.session_opening.proofs.Nodes.{all_same_on, filter_same_on, filter_whole, nodes_within}

-- ---- two nodes have two places

same_region : (a b p q n : ℕ) → p < n → q < n → a * n + p ≡ b * n + q → a ≡ b
same_region a b p q n low high same = elim (cases_order a b) [
  | inl e ↦ e
  | inr (inl less) ↦ let least : suc a * n ≤ b * n = mul-le-mul_right n less in absurd (omega (arith, least, low, high, same))
  | inr (inr more) ↦ let least : suc b * n ≤ a * n = mul-le-mul_right n more in absurd (omega (arith, least, low, high, same))
]

module _ (shape : Shape) (a b : NodeName) (a_of : IsOfVolume shape a) (b_of : IsOfVolume shape b) (same : place_of shape b ≡ place_of shape a) where
  region_same : b.region ≡ a.region
  region_same = same_region b.region a.region b.replica a.replica shape.replicas b_of.1 a_of.1 same

  replica_same : b.replica ≡ a.replica
  replica_same = let e : b.region * shape.replicas ≡ a.region * shape.replicas = ap (λ r. r * shape.replicas) region_same in omega (arith, e, same)

  one_node : b ≡ a
  one_node = ap₂ (λ (g r : ℕ). record { region = g; replica = r }) region_same replica_same

itself : (a : NodeName) → same_node a a ≡ true
itself a = and_from (a.region == a.region) (a.replica == a.replica) (eq-eqb a.region a.region refl) (eq-eqb a.replica a.replica refl)

other_node : (shape : Shape) (a b : NodeName) → (place_of shape b ≡ place_of shape a → ⊥) → same_node a b ≡ false
other_node shape a b differ = false_from_ne_true (same_node a b) (λ same.
    let parts = and_parts (a.region == b.region) (a.replica == b.replica) same in
    differ (ap₂ (λ g r. g * shape.replicas + r) (sym (eqb-true a.region b.region parts.0)) (sym (eqb-true a.replica b.replica parts.1))))

-- ---- a name more

module _ (a : NodeName) (names : List NodeName) where
  added : (b : NodeName) → list_any (λ n. same_node n b) (names ++ a ∷ []) ≡ (has_answered b names || same_node a b)
  added b = list_any-append (λ n. same_node n b) names (a ∷ []) ∙ ap (λ t. has_answered b names || t) (or_false (same_node a b))

  has_itself : has_answered a (with_name a names) ≡ true
  has_itself = go (has_answered a names) refl where
    go : (t : Bool) → has_answered a names ≡ t → has_answered a (cond t names (names ++ a ∷ [])) ≡ true
    go true is = is
    go false is = added a ∙ ap (λ t. has_answered a names || t) (itself a) ∙ or_true (has_answered a names)

  has_others : (b : NodeName) → same_node a b ≡ false → has_answered b (with_name a names) ≡ has_answered b names
  has_others b differ = go (has_answered a names) where
    go : (t : Bool) → has_answered b (cond t names (names ++ a ∷ [])) ≡ has_answered b names
    go true = refl
    go false = added b ∙ ap (λ t. has_answered b names || t) differ ∙ or_false (has_answered b names)

  pub new_name : has_answered a names ≡ false → with_name a names ≡ names ++ a ∷ []
  new_name none = ap (λ t. cond t names (names ++ a ∷ [])) none

-- ---- the table

module _ (t : Table) (a : NodeName) (a_of : IsOfVolume t.shape a) (names : List NodeName) (said : IsSaid t names) where
  within : place_of t.shape a < length t.said
  within = subst (λ n. place_of t.shape a < n) (sym said.count) (place_within a.region a.replica (regions t.shape) t.shape.replicas a_of.0 a_of.1)

  says_more : (b : NodeName) → IsOfVolume t.shape b → has_said (with_said t a) b ≡ has_answered b (with_name a names)
  says_more b b_of = elim (cases_eq (place_of t.shape b) (place_of t.shape a)) [
    | inl same ↦
        get_or-set_at t.said (place_of t.shape a) (place_of t.shape b) true false same within
        ∙ sym (subst (λ n. has_answered n (with_name a names) ≡ true) (sym (one_node t.shape a b a_of b_of same)) (has_itself a names))
    | inr differ ↦
        get_or-set_other t.said (place_of t.shape a) (place_of t.shape b) true false differ ∙ said.same b b_of
        ∙ sym (has_others a names b (other_node t.shape a b differ))
  ]

  pub said_more : IsSaid (with_said t a) (with_name a names)
  said_more = record { count = length-set t.said (place_of t.shape a) true ∙ said.count; same = says_more }

pub nobody_said : (shape : Shape) → IsSaid (nobody shape) []
nobody_said shape = record {
  count = length-replicate (nodes shape) false;
  same = λ b b_of. get_or-replicate (nodes shape) (place_of shape b) false false (place_within b.region b.replica (regions shape) shape.replicas b_of.0 b_of.1);
}

pub all_said_is : (t : Table) (names : List NodeName) → IsSaid t names → all_said t ≡ all_answered t.shape names
all_said_is t names said = all_same_on (IsOfVolume t.shape) (λ n. has_said t n) (λ n. has_answered n names) (all_nodes t.shape) (nodes_within t.shape) said.same

-- ---- who is waited for

pub waited_in : (r : Restarting) (name : NodeName) (p : Phase) → r.phase ≡ p → is_waited_for r name ≡ waits_in p r name
waited_in r name p is = ap (λ q. waits_in q r name) is

module _ (r : Restarting) (names : List NodeName) (said : IsSaid r.answers names) (plain : (n : NodeName) → is_waited_for r n ≡ not (has_said r.answers n)) where
  pub waits_as : (n : NodeName) → IsOfVolume (shape_of r) n → is_waited_for r n ≡ not (has_answered n names)
  waits_as n n_of = plain n ∙ ap not (said.same n n_of)

  pub waited_all : filter (is_waited_for r) (all_nodes (shape_of r)) ≡ not_answered (shape_of r) names
  waited_all = filter_same_on (IsOfVolume (shape_of r)) (is_waited_for r) (λ n. not (has_answered n names)) (all_nodes (shape_of r)) (nodes_within (shape_of r)) waits_as

pub none_answered : (shape : Shape) → not_answered shape [] ≡ all_nodes shape
none_answered shape = filter_whole (λ n. not (has_answered n [])) (all_nodes shape) (λ n. refl)
