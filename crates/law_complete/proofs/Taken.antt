-- A node that sends something to a node was handed a part of its session by then.
use Rattle.std.proofs.Common.{◌≡◌, ◌∙◌, ℕ, ◌||◌, Bool, true, false, if◌then◌else◌, List, [], ◌∷◌, ◌++◌, Option, None, Some, refl, sym, ap, subst}
use Rattle.std.specs.Option.{option_map_or}
use Rattle.std.specs.List.{AllByRecursion}
use Rattle.salus_types.specs.Volume.{Shape}
use Rattle.salus_types.specs.declared.names.NodeName.{NodeName}
use Rattle.merkle_region.specs.Tree.{IsAmong}
use Rattle.salus_model.specs.declared.trace.TraceStep.{TraceStep}
use Rattle.salus_model.specs.Following.{Posted}
use Rattle.replica_rules.specs.Nodes.{Memory, NodeState}
use Rattle.replica_rules.specs.Rules.{Sending, Input, handled}
use Rattle.run_rules.specs.Knowing.{KnownNode, input_of, outs_of, outs_to}
use Rattle.run_rules.specs.Running.{addresses, after, known_of}
use Rattle.list_lemmas.proofs.Members.{among_all}
use Rattle.list_lemmas.proofs.Tests.{by_bool}
use Rattle.law_claimed.specs.Handling.{StaysAlong}
use Rattle.law_complete.specs.Beginning.{as_list, input_at, inputs_in}
use Rattle.law_complete.proofs.Sent.{IsCalmFor, state_then, speaks_on}
use Rattle.law_complete.proofs.Idle.{ToClient, brings_own, Owns, owns, IsIdle, StaysIdle, idle_then}

module _ (shape : Shape) (posts : List Posted) (name : NodeName) (b e : ℕ) where
  abbrev g : ℕ
  g = name.region

  -- one of these steps hands a part of the session to the node
  pub record IsTaken (steps : List TraceStep) : Type 0 where
    pub xs : List TraceStep
    pub u : TraceStep
    pub zs : List TraceStep
    pub whole : steps ≡ xs ++ u ∷ zs
    pub input : Input
    pub at : input_at posts name u ≡ Some input
    pub owns : Owns shape name.region e input

  later : (d : TraceStep) (steps : List TraceStep) → IsTaken steps → IsTaken (d ∷ steps)
  later d steps taken = record { xs = d ∷ taken.xs; u = taken.u; zs = taken.zs; whole = ap (λ (l : List TraceStep). d ∷ l) taken.whole; input = taken.input; at = taken.at; owns = taken.owns }

  abbrev brings_it : Option Input → Bool
  brings_it o = option_map_or (λ input. brings_own shape name.region e input) o false

  taken_here : (t : TraceStep) (rest : List TraceStep) (o : Option Input) → input_at posts name t ≡ o → brings_it o ≡ true → IsTaken (t ∷ rest)
  taken_here t rest None at own = absurd (cc)
  taken_here t rest (Some input) at own = record { xs = []; u = t; zs = rest; whole = refl; input = input; at = at; owns = owns shape name.region e input own }

  abbrev next_of : Option Input → NodeState → NodeState
  next_of o node = option_map_or (λ input. (handled shape name.region node input).node) o node

  stays_here : (o : Option Input) (node : NodeState) (inputs : List Input) → StaysAlong shape name.region node (as_list o ++ inputs) → StaysAlong shape name.region (next_of o node) inputs
  unfolding StaysAlong
  stays_here None node inputs stays = stays
  stays_here (Some input) node inputs stays = stays.1

  idle_here : (o : Option Input) (node : NodeState) (inputs : List Input) (m : Memory) → node.memory ≡ Some m → m.replica.session ≡ e → IsIdle shape name.region b m → brings_it o ≡ false
      → StaysAlong shape name.region node (as_list o ++ inputs) → StaysIdle shape name.region b e (next_of o node).memory
  unfolding StaysAlong
  idle_here None node inputs m there same idle other stays = record { k = m; is = there; session = same; idle = idle }
  idle_here (Some input) node inputs m there same idle other stays =
      subst (λ (x : ℕ). StaysIdle shape name.region b x (handled shape name.region node input).node.memory) same
      (idle_then shape name.region b node m there idle input (subst (λ (x : ℕ). brings_own shape name.region x input ≡ false) (sym same) other) stays.0).0

  -- an idle node sends nothing to a node, by an input that brings no part of the session
  outs_here : (known : KnownNode) (failed : Bool) (o : Option Input) (inputs : List Input) (m : Memory) → known.state.memory ≡ Some m → m.replica.session ≡ e → IsIdle shape name.region b m → brings_it o ≡ false
      → StaysAlong shape name.region known.state (as_list o ++ inputs) → (out : Sending) → IsAmong out (option_map_or (λ input. outs_of shape name.region known input failed) o []) → ToClient out
  unfolding StaysAlong
  outs_here known failed None inputs m there same idle other stays out among = absurd among
  outs_here known failed (Some input) inputs m there same idle other stays out among =
      let goes = (idle_then shape name.region b known.state m there idle input (subst (λ (x : ℕ). brings_own shape name.region x input ≡ false) (sym same) other) stays.0).1 in
      among_all ToClient (outs_of shape name.region known input failed) out among (silenced (known.silent || failed) (handled shape name.region known.state input).outs goes)
    where
      silenced : (w : Bool) (outs : List Sending) → AllByRecursion ToClient outs → AllByRecursion ToClient (if w then [] else outs)
      silenced true outs all = tt
      silenced false outs all = all

  outs_addressed : (known : KnownNode) (t : TraceStep) → addresses name t ≡ true → (out : Sending) → IsAmong out (outs_to shape name.region posts known t.handed t.failed)
      → IsAmong out (option_map_or (λ input. outs_of shape name.region known input t.failed) (input_at posts name t) [])
  outs_addressed known t mine out among =
      subst (λ (w : Bool). IsAmong out (option_map_or (λ input. outs_of shape name.region known input t.failed) (if w then input_of posts t.handed else None) [])) (sym mine) among

  module _ (t : TraceStep) (rest : List TraceStep) (mine : addresses name t ≡ true) (out : Sending) (off : ToClient out → ⊥) where
    -- By the step in which it sends to a node it was handed a part of its session.
    pub taken_before : (done : List TraceStep) (known : KnownNode) → known.silent ≡ false → AllByRecursion (IsCalmFor shape posts name) done → (m : Memory) → known.state.memory ≡ Some m → m.replica.session ≡ e
        → IsIdle shape name.region b m → StaysAlong shape name.region known.state (inputs_in posts name (done ++ t ∷ rest))
        → IsAmong out (outs_to shape name.region posts (known_of shape posts name known done) t.handed t.failed) → IsTaken (done ++ t ∷ [])
    unfolding inputs_in known_of
    taken_before [] known speaks calm m there same idle stays among =
        by_bool (brings_it (input_at posts name t)) (IsTaken (t ∷ [])) (λ own. taken_here t [] (input_at posts name t) refl own)
        (λ other. absurd (off (outs_here known t.failed (input_at posts name t) (inputs_in posts name rest) m there same idle other stays out (outs_addressed known t mine out among))))
    taken_before (d ∷ done) known speaks calm m there same idle stays among =
        by_bool (brings_it (input_at posts name d)) (IsTaken (d ∷ (done ++ t ∷ []))) (λ own. taken_here d (done ++ t ∷ []) (input_at posts name d) refl own)
        (λ other.
        let state : (after shape posts name known d).state ≡ next_of (input_at posts name d) known.state = state_then shape posts name known 0 d speaks calm.0 in
        let goes : StaysIdle shape name.region b e (next_of (input_at posts name d) known.state).memory =
        idle_here (input_at posts name d) known.state (inputs_in posts name (done ++ t ∷ rest)) m there same idle other stays in
        later d (done ++ t ∷ [])
        (taken_before done (after shape posts name known d) (speaks_on shape posts name known 0 d speaks calm.0) calm.1 goes.k (ap (λ (s : NodeState). s.memory) state ∙ goes.is) goes.session goes.idle
        (subst (λ (s : NodeState). StaysAlong shape name.region s (inputs_in posts name (done ++ t ∷ rest))) (sym state) (stays_here (input_at posts name d) known.state (inputs_in posts name (done ++ t ∷ rest)) stays)) among))
