-- What a node sends that speaks: each message that its rules give by what it was handed goes out in one of its steps.
use Rattle.std.proofs.Common.{◌≡◌, ◌⊎◌, ◌∙◌, inl, inr, ℕ, ◌||◌, Bool, true, false, if◌then◌else◌, List, [], ◌∷◌, ◌++◌, Option, None, Some, refl, sym, ap, ap₂, subst}
use Rattle.std.specs.Option.{option_map_or}
use Rattle.std.specs.List.{AllByRecursion}
use Rattle.std.proofs.lemmas.Bool.{true≢false}
use Rattle.salus_types.specs.Volume.{Shape}
use Rattle.salus_types.specs.declared.names.NodeName.{NodeName}
use Rattle.salus_types.specs.declared.names.Sender.{Sender}
use Rattle.salus_types.specs.declared.names.Sender.TheVariants as sender
use Rattle.salus_message.specs.Spelling.{message_bytes}
use Rattle.schedule_text.specs.declared.schedule.Event.{Event}
use Rattle.merkle_region.specs.Tree.{IsAmong}
use Rattle.merkle_region.proofs.Membership.{among_either}
use Rattle.volume_model.specs.Groups.{same_party}
use Rattle.salus_model.specs.declared.trace.TraceStep.{TraceStep}
use Rattle.salus_model.specs.Following.{Posted}
use Rattle.salus_model.specs.Complete.{IsSound}
use Rattle.replica_rules.specs.Nodes.{NodeState}
use Rattle.replica_rules.specs.Rules.{Sending, Input, handled}
use Rattle.run_rules.specs.Calm.{CalmFrom}
use Rattle.run_rules.specs.Knowing.{KnownNode, input_of, outs_of, outs_to, known_to}
use Rattle.run_rules.specs.Running as running
use Rattle.run_rules.specs.Running.{addresses, after, known_of, posts_between, AllSteps, IsNodeStep}
use Rattle.list_lemmas.proofs.Members.{among_map-in}
use Rattle.list_lemmas.proofs.Tests.{by_bool}
use Rattle.law_lemmas.proofs.Named.{one-node}
use Rattle.law_reads.proofs.Events.{Of}
use Rattle.law_reads.proofs.Sound.{calm_step, unloaded_step, speaks_then}
use Rattle.law_claimed.specs.Handling.{outs_of_all}
use Rattle.law_complete.specs.Beginning.{as_list, input_at, inputs_in}
use Rattle.law_complete.proofs.Since.{handles}

-- the party is the node
pub party_node : (name : NodeName) (w : Sender) → same_party w (sender.Node name) ≡ true → w ≡ sender.Node name
party_node name sender.Client hit = absurd (true≢false (sym hit))
party_node name (sender.Node other) hit = ap (λ (k : NodeName). sender.Node k) (one-node other name hit)

module _ (shape : Shape) (posts : List Posted) (name : NodeName) where
  -- in the step, if it is the node's, no call fails and nothing is loaded
  abbrev pub IsCalmFor : TraceStep → Type 0
  IsCalmFor t = addresses name t ≡ true → (t.failed ≡ false) × (t.loaded ≡ None)

  abbrev pub posting : Sending → Posted
  posting out = record { from = sender.Node name; to = out.to; bytes = message_bytes out.message }

  -- how many messages were sent after these steps, before which it were so many
  unfoldable pub sent_past : ℕ → List TraceStep → ℕ
  sent_past before [] = before
  sent_past before (t ∷ steps) = sent_past t.sent steps

  -- ---- a step

  module _ (known : KnownNode) (before : ℕ) (t : TraceStep) (speaks : known.silent ≡ false) (calm : IsCalmFor t) where
    next : KnownNode
    next = after shape posts name known t

    pub speaks_on : (after shape posts name known t).silent ≡ false
    speaks_on =
        by_bool (addresses name t) ((after shape posts name known t).silent ≡ false)
        (λ mine. ap (λ (w : Bool). (if w then known_to shape name.region posts known t.handed t.failed t.loaded else known).silent) mine
        ∙ speaks_then shape posts name.region known t.handed t.failed t.loaded speaks (calm mine).0 (calm mine).1)
        (λ away. ap (λ (w : Bool). (if w then known_to shape name.region posts known t.handed t.failed t.loaded else known).silent) away ∙ speaks)

    pub state_then : (after shape posts name known t).state ≡ option_map_or (λ input. (handled shape name.region known.state input).node) (input_at posts name t) known.state
    state_then =
        by_bool (addresses name t) ((after shape posts name known t).state ≡ option_map_or (λ input. (handled shape name.region known.state input).node) (input_at posts name t) known.state)
        (λ mine. ap (λ (w : Bool). (if w then known_to shape name.region posts known t.handed t.failed t.loaded else known).state) mine
        ∙ (handles shape name.region posts known t.handed t.failed t.loaded speaks (calm mine).0 (calm mine).1
        ∙ ap (λ (w : Bool). option_map_or (λ input. (handled shape name.region known.state input).node) (if w then input_of posts t.handed else None) known.state) (sym mine)))
        (λ away. ap (λ (w : Bool). (if w then known_to shape name.region posts known t.handed t.failed t.loaded else known).state) away
        ∙ ap (λ (w : Bool). option_map_or (λ input. (handled shape name.region known.state input).node) (if w then input_of posts t.handed else None) known.state) (sym away))

    -- what it sends by the input of the step
    abbrev outs_here : List Sending
    outs_here = option_map_or (λ input. (handled shape name.region known.state input).outs) (input_at posts name t) []

    outs_same : t.failed ≡ false → (o : Option Input) → option_map_or (λ input. outs_of shape name.region known input t.failed) o [] ≡ option_map_or (λ input. (handled shape name.region known.state input).outs) o []
    outs_same unfailed None = refl
    outs_same unfailed (Some input) = ap₂ (λ (s f : Bool). if s || f then [] else (handled shape name.region known.state input).outs) speaks unfailed

    is_mine : (out : Sending) → IsAmong out outs_here → addresses name t ≡ true
    is_mine out among =
        by_bool (addresses name t) (addresses name t ≡ true) (λ mine. mine)
        (λ away. absurd (subst (λ (w : Bool). IsAmong out (option_map_or (λ input. (handled shape name.region known.state input).outs) (if w then input_of posts t.handed else None) [])) away among))

    sends : (out : Sending) → IsAmong out outs_here → IsAmong out (outs_to shape name.region posts known t.handed t.failed)
    sends out among =
        let mine : addresses name t ≡ true = is_mine out among in
        subst (λ (l : List Sending). IsAmong out l) (sym (outs_same (calm mine).0 (input_of posts t.handed)))
        (subst (λ (w : Bool). IsAmong out (option_map_or (λ input. (handled shape name.region known.state input).outs) (if w then input_of posts t.handed else None) [])) mine among)

    posts_it : running.IsStepOf (addresses name t) shape posts name known before t → (out : Sending) → IsAmong out outs_here → IsAmong (posting out) (posts_between posts before t.sent)
    posts_it right out among =
        let mine : addresses name t ≡ true = is_mine out among in
        let step : IsNodeStep shape posts name known before t = subst (λ (w : Bool). running.IsStepOf w shape posts name known before t) mine right in
        subst (λ (l : List Posted). IsAmong (posting out) l) (sym step.messages) (among_map-in posting (outs_to shape name.region posts known t.handed t.failed) out (sends out among))

  -- ---- the steps

  -- the step, after these, in which a message went out
  pub record WasSent (known : KnownNode) (before : ℕ) (steps : List TraceStep) (out : Sending) : Type 0 where
    pub done : List TraceStep
    pub t : TraceStep
    pub rest : List TraceStep
    pub whole : steps ≡ done ++ t ∷ rest
    pub mine : addresses name t ≡ true
    pub sent : IsAmong out (outs_to shape name.region posts (known_of shape posts name known done) t.handed t.failed)
    pub posted : IsAmong (posting out) (posts_between posts (sent_past before done) t.sent)

  -- a step earlier
  sent_later : (known : KnownNode) (before : ℕ) (t : TraceStep) (steps : List TraceStep) (out : Sending) → WasSent (after shape posts name known t) t.sent steps out → WasSent known before (t ∷ steps) out
  unfolding known_of sent_past
  sent_later known before t steps out was = record { done = t ∷ was.done; t = was.t; rest = was.rest; whole = ap (λ (l : List TraceStep). t ∷ l) was.whole; mine = was.mine; sent = was.sent; posted = was.posted }

  pub outs_split : (o : Option Input) (node : NodeState) (inputs : List Input) (out : Sending) → IsAmong out (outs_of_all shape name.region node (as_list o ++ inputs))
      → IsAmong out (option_map_or (λ input. (handled shape name.region node input).outs) o []) ⊎ IsAmong out (outs_of_all shape name.region (option_map_or (λ input. (handled shape name.region node input).node) o node) inputs)
  unfolding outs_of_all
  outs_split None node inputs out among = inr among
  outs_split (Some input) node inputs out among = among_either out (handled shape name.region node input).outs (outs_of_all shape name.region (handled shape name.region node input).node inputs) among

  -- Each message that the rules give by what the node was handed in these steps was sent in one of them.
  pub outs_sent : (steps : List TraceStep) (known : KnownNode) (before : ℕ) → known.silent ≡ false → AllSteps shape posts name known before steps → AllByRecursion IsCalmFor steps
      → (out : Sending) → IsAmong out (outs_of_all shape name.region known.state (inputs_in posts name steps)) → WasSent known before steps out
  unfolding inputs_in outs_of_all AllSteps known_of sent_past
  outs_sent [] known before speaks right calm out among = absurd among
  outs_sent (t ∷ steps) known before speaks right calm out among = elim (outs_split (input_at posts name t) known.state (inputs_in posts name steps) out among) [
    | inl here ↦ record {
      done = [];
      t = t;
      rest = steps;
      whole = refl;
      mine = is_mine known before t speaks calm.0 out here;
      sent = sends known before t speaks calm.0 out here;
      posted = posts_it known before t speaks calm.0 right.0 out here;
    }
    | inr later ↦
        sent_later known before t steps out
        (outs_sent steps (after shape posts name known t) t.sent (speaks_on known before t speaks calm.0) right.1 calm.1 out
        (subst (λ (s : NodeState). IsAmong out (outs_of_all shape name.region s (inputs_in posts name steps))) (sym (state_then known before t speaks calm.0)) later))
  ]

  -- ---- the steps behind some

  pub speaks_along : (xs : List TraceStep) (known : KnownNode) → known.silent ≡ false → AllByRecursion IsCalmFor xs → (known_of shape posts name known xs).silent ≡ false
  unfolding known_of
  speaks_along [] known speaks calm = speaks
  speaks_along (x ∷ xs) known speaks calm = speaks_along xs (after shape posts name known x) (speaks_on known 0 x speaks calm.0) calm.1

  pub known_behind : (xs ys : List TraceStep) (known : KnownNode) → known_of shape posts name known (xs ++ ys) ≡ known_of shape posts name (known_of shape posts name known xs) ys
  unfolding known_of
  known_behind [] ys known = refl
  known_behind (x ∷ xs) ys known = known_behind xs ys (after shape posts name known x)

  pub steps_behind : (xs ys : List TraceStep) (known : KnownNode) (before : ℕ) → AllSteps shape posts name known before (xs ++ ys) → AllSteps shape posts name (known_of shape posts name known xs) (sent_past before xs) ys
  unfolding AllSteps known_of sent_past
  steps_behind [] ys known before right = right
  steps_behind (x ∷ xs) ys known before right = steps_behind xs ys (after shape posts name known x) x.sent right.1

-- ---- a sound node

-- In a run in which calls fail only where they may, each step is calm for a sound node.
module _ (shape : Shape) (events : List Event) (posts : List Posted) (trace : List TraceStep) (name : NodeName) (sound : IsSound events trace name) where
  calm_from : (steps earlier : List TraceStep) (known : KnownNode) (before : ℕ) → AllSteps shape posts name known before steps → CalmFrom events earlier steps → AllByRecursion (Of events posts) steps
      → ((t : TraceStep) → IsAmong t steps → IsAmong t trace) → AllByRecursion (IsCalmFor shape posts name) steps
  unfolding AllSteps CalmFrom
  calm_from [] earlier known before right calm of inside = tt
  calm_from (t ∷ steps) earlier known before right calm of inside = (
    λ mine. (
      calm_step events posts trace name sound earlier t (inside t (inl refl)) (party_node name t.party mine) calm.0,
      unloaded_step events posts trace name sound shape known before t (inside t (inl refl)) (party_node name t.party mine) of.0
          (subst (λ (w : Bool). running.IsStepOf w shape posts name known before t) mine right.0),
    ),
    calm_from steps (t ∷ earlier) (after shape posts name known t) t.sent right.1 calm.1 of.1 (λ s among. inside s (inr among)),
  )

  pub calm_all : (known : KnownNode) → AllSteps shape posts name known 0 trace → CalmFrom events [] trace → AllByRecursion (Of events posts) trace → AllByRecursion (IsCalmFor shape posts name) trace
  calm_all known right calm of = calm_from trace [] known 0 right calm of (λ t among. among)
