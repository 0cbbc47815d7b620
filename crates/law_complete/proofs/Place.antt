-- Where a step stands in what a node was handed since it began its session.
use Rattle.std.proofs.Common.{◌≡◌, ◌∙◌, ◌⊎◌, inl, inr, ⊎_elim, ◌<◌, ◌≤◌, List, [], ◌∷◌, ◌++◌, Option, Some, refl, sym, ap, ap₂, subst, arith, append_assoc}
use Rattle.salus_types.specs.declared.names.NodeName.{NodeName}
use Rattle.schedule_text.specs.declared.schedule.Volume.{Volume}
use Rattle.merkle_region.specs.Tree.{IsAmong}
use Rattle.merkle_region.proofs.Membership.{among_left, among_right}
use Rattle.volume_model.specs.Parts.{Session}
use Rattle.salus_model.specs.declared.trace.TraceStep.{TraceStep}
use Rattle.salus_model.specs.Following.{Posted}
use Rattle.replica_rules.specs.Rules.{Input}
use Rattle.law_complete.specs.Beginning.{as_list, input_at, inputs_in, node_after, HasBegun}

-- Of two front parts of a list one is a shorter front part of the other, or it is the other with more behind it.
pub front_or_behind : {A : Type 0} (first since xs ys : List A) → first ++ since ≡ xs ++ ys → ((u : A) × (ws : List A) × (first ≡ xs ++ u ∷ ws)) ⊎ ((ws : List A) × (since ≡ ws ++ ys))
front_or_behind [] since xs ys same = inr (xs, same)
front_or_behind (a ∷ first) since [] ys same = inl (a, first, refl)
front_or_behind {A = A} (a ∷ first) since (x ∷ xs) ys same =
    let head : a ≡ x = cc in
    let tail : first ++ since ≡ xs ++ ys = cc in
    ⊎_elim (λ (in_front : (u : A) × (ws : List A) × (first ≡ xs ++ u ∷ ws)). inl (in_front.0, in_front.1, ap₂ (λ (b : A) (l : List A). b ∷ l) head in_front.2))
    (λ (there : (ws : List A) × (since ≡ ws ++ ys)). inr there) (front_or_behind first since xs ys tail)

-- what a step hands to the node is among what these steps hand to it
pub inputs_among : (posts : List Posted) (name : NodeName) (steps : List TraceStep) (t : TraceStep) (input : Input) → IsAmong t steps → input_at posts name t ≡ Some input → IsAmong input (inputs_in posts name steps)
unfolding inputs_in
inputs_among posts name [] t input nothing is = absurd nothing
inputs_among posts name (s ∷ steps) t input (inl same) is =
    among_left input (as_list (input_at posts name s)) (inputs_in posts name steps) (subst (λ (o : Option Input). IsAmong input (as_list o)) (sym is ∙ ap (input_at posts name) same) (inl refl))
inputs_among posts name (s ∷ steps) t input (inr later) is = among_right input (as_list (input_at posts name s)) (inputs_in posts name steps) (inputs_among posts name steps t input later is)

-- A step behind one after which the node had the session was handed to the node since it began the session.
pub brought_behind : (volume : Volume) (posts : List Posted) (known : Session) (name : NodeName) (trace : List TraceStep) (b : HasBegun volume posts known name trace)
    → (front rest : List TraceStep) → trace ≡ front ++ rest → (xs zs : List TraceStep) → front ≡ xs ++ zs → known.session ≤ (node_after volume posts name xs).held.session
    → (u : TraceStep) → IsAmong u rest → (input : Input) → input_at posts name u ≡ Some input → IsAmong input (inputs_in posts name b.since)
brought_behind volume posts known name trace b front rest whole xs zs front_is reached u among input is =
    let both : b.first ++ b.since ≡ xs ++ (zs ++ rest) = sym b.whole ∙ (whole ∙ (ap (λ (l : List TraceStep). l ++ rest) front_is ∙ append_assoc xs zs rest)) in
    ⊎_elim (λ (before : (v : TraceStep) × (ws : List TraceStep) × (b.first ≡ xs ++ v ∷ ws)).
    (let low : (node_after volume posts name xs).held.session < known.session = b.low xs before.1 before.0 before.2 in absurd (omega (arith, low, reached))))
    (λ (there : (ws : List TraceStep) × (b.since ≡ ws ++ (zs ++ rest))).
    inputs_among posts name b.since u input (subst (λ (l : List TraceStep). IsAmong u l) (sym there.1) (among_right u there.0 (zs ++ rest) (among_right u zs rest among))) is)
    (front_or_behind b.first b.since xs (zs ++ rest) both)
