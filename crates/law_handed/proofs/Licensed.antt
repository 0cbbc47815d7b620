-- The licences of votes, and of what a node says when it gathers, stages and switches.
use Rattle.std.proofs.Common.{◌≡◌, ◌⊎◌, inl, inr, ℕ, ◌==◌, Bool, true, false, List, [], ◌∷◌, ◌++◌, length, Option, None, Some}
use Rattle.std.specs.Option.{option_map_or}
use Rattle.std.specs.List.{AllByRecursion}
use Rattle.std.proofs.lemmas.Bool.{eqb-true}
use Rattle.salus_types.specs.Volume.{Shape, region_blocks}
use Rattle.salus_types.specs.declared.names.NodeName.{NodeName}
use Rattle.salus_types.specs.declared.names.Sender.{Sender}
use Rattle.salus_types.specs.declared.names.Sender.TheVariants as sender
use Rattle.salus_types.specs.declared.records.Record.{Record}
use Rattle.salus_types.specs.declared.records.Held.{Held}
use Rattle.salus_message.specs.declared.wire.Message.{Message}
use Rattle.salus_message.specs.declared.wire.Message.TheVariants as message
use Rattle.merkle_region.specs.Tree.{IsAmong}
use Rattle.holding_model.specs.Fitting.{has_shape}
use Rattle.salus_model.specs.declared.trace.Handed.{Handed}
use Rattle.salus_model.specs.declared.trace.TraceStep.{TraceStep}
use Rattle.salus_model.specs.Following.{Posted}
use Rattle.salus_model.specs.Licences.{Letter, letters_in, letters_to, WasHanded, IsLicensed}
use Rattle.replica_rules.specs.Nodes.{NodeState}
use Rattle.replica_rules.specs.Rules.{Sending, Input, planned, Handled, handled}
use Rattle.replica_rules.proofs.Agreeing.{IsHeldVote, PlansRight, planned_right}
use Rattle.run_rules.specs.Knowing.{KnownNode, fresh, after_input, outs_of, input_of, after_handed, outs_to}
use Rattle.run_rules.specs.Running.{known_of, AllSteps}
use Rattle.list_lemmas.proofs.Each.{all_then, all_zip}
use Rattle.merkle_region.proofs.Membership.{among_left, among_right}
use Rattle.list_lemmas.proofs.Members.{among_all, all_among}
use Rattle.list_lemmas.proofs.Tests.{and_left}
use Rattle.law_handed.specs.Fitting.{PartFits, HeldFits, IsClosed, FromGiven, LetterGiven}
use Rattle.law_handed.proofs.Voted.{Agrees, fresh_agreed, agrees_along}
use Rattle.law_handed.proofs.Ranged.{KnownFits, handed_fits, input_spelled, contents_fit}
use Rattle.law_handed.proofs.Counting.{IsCounted, after_counted}
use Rattle.law_handed.proofs.Behind.{Behind, AllBehind, planned_behind}

-- all but the licences of a claim and of blocks
abbrev pub IsBackedApart : Shape → List Letter → Record → List Held → ((Held → Type 0) → Type 0) → ℕ → Message → Type 0
IsBackedApart shape letters formatted held everywhere g (message.Prepared m) = IsLicensed shape letters formatted held everywhere g (message.Prepared m)
IsBackedApart shape letters formatted held everywhere g (message.Gathered m) = IsLicensed shape letters formatted held everywhere g (message.Gathered m)
IsBackedApart shape letters formatted held everywhere g (message.Staged m) = IsLicensed shape letters formatted held everywhere g (message.Staged m)
IsBackedApart shape letters formatted held everywhere g (message.Switched m) = IsLicensed shape letters formatted held everywhere g (message.Switched m)
IsBackedApart shape letters formatted held everywhere g other = Unit {0}

-- ---- the letters that brought the parts

module _ (letters : List Letter) where
  -- the client handed it over as a part
  abbrev pub Came : Record → Type 0
  Came rec = WasHanded letters sender.Client (message.Part (record { rec = rec }))

  -- it is the formatted base's, or the client handed it over, as a part or with a base
  abbrev pub IsNamed : Record → Record → Type 0
  IsNamed formatted rec = (rec ≡ formatted) ⊎ Came rec ⊎ ((blocks : List (List ℕ)) × WasHanded letters sender.Client (message.Stage (record { base = record { rec = rec; blocks = blocks } })))

-- where the node began with no base but the formatted one
module _ (letters : List Letter) (formatted : Record) (Begun : Type 0) (shape : Shape) where
  abbrev pub Named : Record → Type 0
  Named rec = Begun → IsNamed letters formatted rec

  abbrev pub Counted : List (List ℕ) → Type 0
  Counted blocks = Begun → IsCounted shape blocks

  abbrev pub HeldNamed : Held → Type 0
  HeldNamed held = HeldFits shape (Came letters) Named Counted held

  pub came_closed : IsClosed shape (Came letters) Named Counted
  unfolding has_shape
  came_closed = record {
    folds = λ rec came begun. inr (inl came);
    after = λ blocks rec many fits begun. after_counted shape blocks rec (many begun) fits.inside;
    shaped = λ blocks shaped begun. eqb-true (length blocks) (region_blocks shape) (and_left (length blocks == region_blocks shape) _ shaped);
  }

  abbrev pub KnownNamed : KnownNode → Type 0
  KnownNamed known = KnownFits shape (Came letters) Named Counted came_closed known

  given_of : (from : Sender) (m : Message) → IsAmong (record { from = from; message = m }) letters → FromGiven (Came letters) Named from m
  given_of sender.Client (message.Part m) at = at
  given_of sender.Client (message.Stage m) at = λ begun. inr (inr (m.base.blocks, at))
  given_of sender.Client (message.Ask m) at = tt
  given_of sender.Client (message.Gather m) at = tt
  given_of sender.Client (message.Switch m) at = tt
  given_of sender.Client (message.Dump m) at = tt
  given_of sender.Client (message.Prepared m) at = tt
  given_of sender.Client (message.Committed m) at = tt
  given_of sender.Client (message.Answer m) at = tt
  given_of sender.Client (message.Gathered m) at = tt
  given_of sender.Client (message.Staged m) at = tt
  given_of sender.Client (message.Switched m) at = tt
  given_of sender.Client (message.Dumped m) at = tt
  given_of (sender.Node name) m at = tt

  pub all_given : (some : List Letter) → ((l : Letter) → IsAmong l some → IsAmong l letters) → AllByRecursion (LetterGiven (Came letters) Named) some
  all_given some inside = all_among (LetterGiven (Came letters) Named) some (λ l at. given_of l.from l.message (inside l at))

  -- ---- one message

  backed : (g : ℕ) (before now : Held) → HeldNamed now → (m : Message) → IsHeldVote now m → Behind before now m
      → IsBackedApart shape letters formatted (before ∷ []) (λ P. AllByRecursion P (now ∷ [])) g m
  backed g before now fits (message.Prepared m) vote behind =
      (vote.0, record { came = (among_all (PartFits shape (Came letters)) now.parts vote.0 vote.1 fits.parts).given; session = vote.2; seq = vote.3; region = vote.4; root = vote.5 }, (record { either = inl vote.1 }, tt))
  backed g before now fits (message.Gathered m) vote behind = inl behind
  backed g before now fits (message.Staged m) vote behind = (behind, tt)
  backed g before now fits (message.Switched m) vote behind = (behind, tt)
  backed g before now fits (message.Part m) vote behind = tt
  backed g before now fits (message.Committed m) vote behind = tt
  backed g before now fits (message.Ask m) vote behind = tt
  backed g before now fits (message.Answer m) vote behind = tt
  backed g before now fits (message.Gather m) vote behind = tt
  backed g before now fits (message.Stage m) vote behind = tt
  backed g before now fits (message.Switch m) vote behind = tt
  backed g before now fits (message.Dump m) vote behind = tt
  backed g before now fits (message.Dumped m) vote behind = tt

  -- ---- an input

  module _ (g : ℕ) where
    abbrev AllBacked : Held → KnownNode → List Sending → Type 0
    AllBacked before known outs = AllByRecursion (λ out. IsBackedApart shape letters formatted (before ∷ []) (λ P. AllByRecursion P known.contents) g out.message) outs

    input_backed : (state : NodeState) (silent : Bool) (contents : List Held) (input : Input) (failed : Bool)
        → let known : KnownNode = record { state = state; silent = silent; contents = contents } in Agrees known
        → KnownNamed (after_input shape g known input failed) → AllBacked state.held (after_input shape g known input failed) (outs_of shape g known input failed)
    input_backed state true contents input failed agrees fits = tt
    input_backed state false contents input true agrees fits = tt
    input_backed state false contents input false agrees fits =
        let h : Handled = handled shape g state input in
        let right : PlansRight shape state.held (planned shape g state input) = planned_right shape g state agrees input in
        let behind : AllBehind shape g state (planned shape g state input) = planned_behind shape g state input in
        all_then (λ out. IsHeldVote h.node.held out.message × Behind state.held h.node.held out.message) (λ out. IsBackedApart shape letters formatted (state.held ∷ []) (λ P. AllByRecursion P (h.node.held ∷ [])) g out.message)
        (λ out both. backed g state.held h.node.held fits.held out.message both.0 both.1) h.outs
        (all_zip (λ out. IsHeldVote h.node.held out.message) (λ out. Behind state.held h.node.held out.message) h.outs right.stand behind)

    some_backed : (known : KnownNode) (failed : Bool) (o : Option Input) → Agrees known
        → KnownNamed (option_map_or (λ input. after_input shape g known input failed) o known)
        → AllBacked known.state.held (option_map_or (λ input. after_input shape g known input failed) o known) (option_map_or (λ input. outs_of shape g known input failed) o [])
    some_backed known failed None agrees fits = tt
    some_backed known failed (Some input) agrees fits = input_backed known.state known.silent known.contents input failed agrees fits

-- ---- along a run

module _ (shape : Shape) (posts : List Posted) (name : NodeName) (first : Held) (steps : List TraceStep) (right : AllSteps shape posts name (fresh shape name.region first) 0 steps)
    (formatted : Record) (Begun : Type 0) (what : Handed) where
  abbrev pub letters_then : List Letter
  letters_then = letters_to posts name steps ++ letters_in posts what

  abbrev pub known_then : KnownNode
  known_then = known_of shape posts name (fresh shape name.region first) steps

  -- after the steps all that is held fits, by the letters up to the next one
  known_named : HeldNamed letters_then formatted Begun shape first → KnownNamed letters_then formatted Begun shape known_then
  known_named held =
      contents_fit shape (Came letters_then) (Named letters_then formatted Begun shape) (Counted letters_then formatted Begun shape) (came_closed letters_then formatted Begun shape) posts name first steps right held
      (all_given letters_then formatted Begun shape (letters_to posts name steps) (λ l at. among_left l (letters_to posts name steps) (letters_in posts what) at))

  -- The law, after any steps: each vote of the next step is for a part that the client handed over and that is in each of the
  -- contents that the disk may mean then; and what is said of gathering, staging and switching holds.
  pub messages_backed : (failed : Bool) → HeldNamed letters_then formatted Begun shape first
      → AllByRecursion (λ out. IsBackedApart shape letters_then formatted (known_then.state.held ∷ [])
      (λ P. AllByRecursion P (after_handed shape name.region posts known_then what failed).contents) name.region out.message) (outs_to shape name.region posts known_then what failed)
  messages_backed failed held =
      let after = handed_fits shape (Came letters_then) (Named letters_then formatted Begun shape) (Counted letters_then formatted Begun shape) (came_closed letters_then formatted Begun shape) name.region posts known_then what failed
      (known_named held)
      (input_spelled shape (Came letters_then) (Named letters_then formatted Begun shape) (Counted letters_then formatted Begun shape) (came_closed letters_then formatted Begun shape) name.region posts what
      (all_given letters_then formatted Begun shape (letters_in posts what) (λ l at. among_right l (letters_to posts name steps) (letters_in posts what) at))) in
      some_backed letters_then formatted Begun shape name.region known_then failed (input_of posts what) (agrees_along shape posts name (fresh shape name.region first) steps (fresh_agreed shape name.region first)) after
