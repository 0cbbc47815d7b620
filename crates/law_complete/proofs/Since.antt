-- One step more.
use Rattle.std.proofs.Common.{◌≡◌, ◌∙◌, ℕ, Bool, false, if◌then◌else◌, List, [], ◌∷◌, ◌++◌, Option, None, Some, refl, sym, ap, ap₂, subst, append_assoc, append-nil}
use Rattle.std.specs.Option.{option_map_or}
use Rattle.salus_types.specs.Volume.{Shape}
use Rattle.salus_types.specs.declared.names.NodeName.{NodeName}
use Rattle.salus_types.specs.declared.records.Held.{Held}
use Rattle.salus_model.specs.declared.trace.Handed.{Handed}
use Rattle.salus_model.specs.declared.trace.TraceStep.{TraceStep}
use Rattle.salus_model.specs.Following.{Posted}
use Rattle.replica_rules.specs.Nodes.{NodeState}
use Rattle.replica_rules.specs.Rules.{Input, handled}
use Rattle.run_rules.specs.Knowing.{KnownNode, after_handling, after_input, input_of, known_to}
use Rattle.run_rules.specs.Running.{after, known_of}
use Rattle.law_claimed.specs.Handling.{after_all, StaysAlong}
use Rattle.law_complete.specs.Beginning.{as_list, input_at, inputs_in}

-- ---- the steps

pub known_more : (shape : Shape) (posts : List Posted) (name : NodeName) (known : KnownNode) (xs : List TraceStep) (t : TraceStep)
    → known_of shape posts name known (xs ++ t ∷ []) ≡ after shape posts name (known_of shape posts name known xs) t
unfolding known_of
known_more shape posts name known [] t = refl
known_more shape posts name known (x ∷ xs) t = known_more shape posts name (after shape posts name known x) xs t

pub inputs_more : (posts : List Posted) (name : NodeName) (steps : List TraceStep) (t : TraceStep) → inputs_in posts name (steps ++ t ∷ []) ≡ inputs_in posts name steps ++ as_list (input_at posts name t)
unfolding inputs_in
inputs_more posts name [] t = append-nil (as_list (input_at posts name t))
inputs_more posts name (s ∷ steps) t =
    ap (λ (l : List Input). as_list (input_at posts name s) ++ l) (inputs_more posts name steps t) ∙ sym (append_assoc (as_list (input_at posts name s)) (inputs_in posts name steps) (as_list (input_at posts name t)))

-- ---- before the last step

pub none_before : {A : Type 0} (x : A) (xs ys : List A) → [] ≡ xs ++ x ∷ ys → ⊥
none_before x [] ys same = absurd (cc)
none_before x (y ∷ xs) ys same = absurd (cc)

-- what is a front part of the steps with one more, and not all of them, is one of the steps
split_before : {A : Type 0} (done : List A) (t : A) (xs ys : List A) (u : A) → done ++ t ∷ [] ≡ xs ++ u ∷ ys → (zs : List A) × (done ≡ xs ++ zs)
split_before {A = A} [] t [] ys u same = ([], refl)
split_before {A = A} [] t (x ∷ xs) ys u same = absurd (none_before u xs ys cc)
split_before {A = A} (d ∷ done) t [] ys u same = (d ∷ done, refl)
split_before {A = A} (d ∷ done) t (x ∷ xs) ys u same =
    let head : d ≡ x = cc in
    let found = split_before done t xs ys u cc in
    (found.0, ap₂ (λ (a : A) (l : List A). a ∷ l) head found.1)

-- So what holds of the steps, and of each shorter front part of them, holds of each shorter one of those with one more.
pub before_last : (P : List TraceStep → Type 0) (done : List TraceStep) (t : TraceStep) → P done → ((xs ys : List TraceStep) (u : TraceStep) → done ≡ xs ++ u ∷ ys → P xs)
    → (xs ys : List TraceStep) (u : TraceStep) → done ++ t ∷ [] ≡ xs ++ u ∷ ys → P xs
before_last P done t here each xs ys u same = let found = split_before done t xs ys u same in by found.0 found.1
  where
    by : (zs : List TraceStep) → done ≡ xs ++ zs → P xs
    by [] is = subst P (is ∙ append-nil xs) here
    by (z ∷ zs) is = each xs zs z is

-- ---- the inputs

pub after_more : (shape : Shape) (g : ℕ) (node : NodeState) (xs : List Input) (input : Input) → after_all shape g node (xs ++ input ∷ []) ≡ (handled shape g (after_all shape g node xs) input).node
unfolding after_all
after_more shape g node [] input = refl
after_more shape g node (x ∷ xs) input = after_more shape g (handled shape g node x).node xs input

pub stays_more : (shape : Shape) (g : ℕ) (node : NodeState) (xs : List Input) (input : Input) → StaysAlong shape g node xs
    → (handled shape g (after_all shape g node xs) input).node.held.session ≡ (after_all shape g node xs).held.session → StaysAlong shape g node (xs ++ input ∷ [])
unfolding after_all StaysAlong
stays_more shape g node [] input stays same = (same, tt)
stays_more shape g node (x ∷ xs) input stays same = (stays.0, stays_more shape g (handled shape g node x).node xs input stays.1 same)

-- ---- a node that speaks

-- it handles the input, if there is one
pub handles : (shape : Shape) (g : ℕ) (posts : List Posted) (known : KnownNode) (what : Handed) (failed : Bool) (loaded : Option Held) → known.silent ≡ false → failed ≡ false → loaded ≡ None
    → (known_to shape g posts known what failed loaded).state ≡ option_map_or (λ input. (handled shape g known.state input).node) (input_of posts what) known.state
handles shape g posts known what failed loaded speaks calm unloaded =
    ap (λ (l : Option Held). (known_to shape g posts known what failed l).state) unloaded
    ∙ (ap (λ (f : Bool). (known_to shape g posts known what f None).state) calm ∙ by (input_of posts what))
  where
    by : (o : Option Input) → (option_map_or (λ input. after_input shape g known input false) o known).state ≡ option_map_or (λ input. (handled shape g known.state input).node) o known.state
    by None = refl
    by (Some input) = ap (λ (b : Bool). (if b then known else after_handling shape known.state (handled shape g known.state input) false).state) speaks
