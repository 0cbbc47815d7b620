-- Along a run: where what a node held at first fits, by what is given of the records that are handed to it, each of the
-- contents that its disk may mean fits, and so does what it shows as held.
use Rattle.std.proofs.Common.{◌≡◌, ℕ, ◌||◌, Bool, true, false, if◌then◌else◌, List, [], ◌∷◌, ◌++◌, Option, None, Some, sym, subst}
use Rattle.std.specs.Prelude.{option_map, Result, Ok, Err}
use Rattle.std.specs.Option.{option_map_or}
use Rattle.std.specs.List.{AllByRecursion}
use Rattle.salus_types.specs.Volume.{Shape}
use Rattle.salus_types.specs.declared.names.NodeName.{NodeName}
use Rattle.salus_types.specs.declared.names.Sender.{Sender}
use Rattle.salus_types.specs.declared.names.Sender.TheVariants as sender
use Rattle.salus_types.specs.declared.records.Record.{Record}
use Rattle.salus_types.specs.declared.records.Held.{Held}
use Rattle.salus_message.specs.declared.wire.Message.{Message}
use Rattle.salus_message.specs.declared.wire.Message.TheVariants as message
use Rattle.salus_message.specs.declared.wire.MessageError.{MessageError}
use Rattle.salus_message.specs.Reading.{message_at}
use Rattle.salus_model.specs.declared.trace.Handed.{Handed}
use Rattle.salus_model.specs.declared.trace.Handed.TheVariants as handed
use Rattle.salus_model.specs.declared.trace.TraceStep.{TraceStep}
use Rattle.salus_model.specs.Following.{Posted, posted_at}
use Rattle.salus_model.specs.Licences.{Letter, letter_of, letter_in_post, letters_in, letters_to}
use Rattle.replica_rules.specs.Nodes.{loaded_as}
use Rattle.replica_rules.specs.Rules.{Input, is_carried, planned, Handled, handled}
use Rattle.run_rules.specs.Knowing.{KnownNode, speaking, silenced, fresh, after_handling, after_input, outs_of, input_of_post, input_of, after_handed, outs_to, reloaded, known_to, IsLoadOf, LoadsRight}
use Rattle.run_rules.specs.Running.{addresses, after, known_of, IsStepOf, AllSteps}
use Rattle.list_lemmas.proofs.Each.{either_way, all_then, OfSome, some_way}
use Rattle.list_lemmas.proofs.Members.{among_all}
use Rattle.law_handed.specs.Fitting.{IsSpelled, HeldFits, IsClosed, FromGiven, LetterGiven, IsShaped, ShowsFitting}
use Rattle.law_handed.proofs.Blocks.{spelled_closed}
use Rattle.law_handed.proofs.Shaping.{MemoryFits, ResultGiven, InputGiven, fresh_of, planned_of, contents_through_of, handled_of}
use Rattle.law_handed.proofs.Carrying.{TellsCarried, planned_carry}

-- ---- lists

pub all_front : {A : Type 0} (P : A → Type 0) (xs ys : List A) → AllByRecursion P (xs ++ ys) → AllByRecursion P xs
all_front P [] ys all = tt
all_front P (x ∷ xs) ys all = (all.0, all_front P xs ys all.1)

pub all_back : {A : Type 0} (P : A → Type 0) (xs ys : List A) → AllByRecursion P (xs ++ ys) → AllByRecursion P ys
all_back P [] ys all = all
all_back P (x ∷ xs) ys all = all_back P xs ys all.1

-- ---- a node

module _ (shape : Shape) (OfPart OfBase : Record → Type 0) (Whole : List (List ℕ) → Type 0) (closed : IsClosed shape OfPart OfBase Whole) where
  abbrev Fit : Held → Type 0
  Fit held = HeldFits shape OfPart OfBase Whole held

  abbrev Given : Input → Type 0
  Given input = InputGiven shape OfPart OfBase Whole closed input

  pub record KnownFits (known : KnownNode) : Type 0 where
    pub held : Fit known.state.held
    pub kept : MemoryFits shape OfPart OfBase Whole closed known.state.memory
    pub each : AllByRecursion Fit known.contents

  module _ (g : ℕ) where
    pub fresh_fits : (held : Held) → Fit held → KnownFits (fresh shape g held)
    unfolding loaded_as
    fresh_fits held of = record { held = of; kept = fresh_of shape OfPart OfBase Whole closed g held of; each = (of, tt) }

    input_fits : (known : KnownNode) (input : Input) (failed : Bool) → KnownFits known → Given input → KnownFits (after_input shape g known input failed)
    input_fits known input failed s good =
        let h : Handled = handled shape g known.state input in
        let now : Fit h.node.held = handled_of shape OfPart OfBase Whole closed g known.state input s.held s.kept good in
        either_way known.silent known (after_handling shape known.state h failed) (KnownFits) s
        (either_way failed (silenced shape known.state h.changes) (speaking h.node) (KnownFits)
        (record { held = s.held; kept = s.kept; each = contents_through_of shape OfPart OfBase Whole closed known.state.held h.changes s.held (planned_of shape OfPart OfBase Whole closed g known.state input s.held s.kept good).changes })
        (record { held = now; kept = (planned_of shape OfPart OfBase Whole closed g known.state input s.held s.kept good).kept; each = (now, tt) }))

    pub handed_fits : (posts : List Posted) (known : KnownNode) (what : Handed) (failed : Bool) → KnownFits known → OfSome Given (input_of posts what) → KnownFits (after_handed shape g posts known what failed)
    handed_fits posts known what failed s good =
        some_way Given (KnownFits) (λ input. after_input shape g known input failed) known (input_of posts what) good (λ input one. input_fits known input failed s one) s

    reload_fits : (known : KnownNode) (loaded : Option Held) → KnownFits known → OfSome Fit loaded → KnownFits (reloaded shape g known loaded)
    reload_fits known None s of = s
    reload_fits known (Some held) s of = fresh_fits held of

    of_load : (contents : List Held) (loaded : Option Held) → IsLoadOf contents loaded → AllByRecursion Fit contents → OfSome Fit loaded
    of_load contents None load each = absurd load
    of_load contents (Some held) load each = among_all Fit contents held load each

    none_loaded : (loaded : Option Held) → loaded ≡ None → OfSome Fit loaded
    none_loaded loaded same = subst (λ (o : Option Held). OfSome Fit o) (sym same) tt

    loaded_of : (posts : List Posted) (known : KnownNode) (what : Handed) (failed : Bool) (loaded : Option Held) → LoadsRight shape g posts known what failed loaded → KnownFits known
        → KnownFits (after_handed shape g posts known what failed) → OfSome Fit loaded
    loaded_of posts known (handed.Deliver k) failed loaded right s mid = none_loaded loaded right
    loaded_of posts known (handed.Lie from bytes) failed loaded right s mid = none_loaded loaded right
    loaded_of posts known handed.Tick failed loaded right s mid = none_loaded loaded right
    loaded_of posts known (handed.Stop k) failed loaded right s mid = of_load (after_handed shape g posts known (handed.Stop k) failed).contents loaded right mid.each
    loaded_of posts known handed.Crash failed loaded right s mid = of_load known.contents loaded right.1 s.each
    loaded_of posts known handed.Replace failed loaded right s mid = subst (λ (o : Option Held). OfSome Fit o) (sym right.1) (record { bases = tt; parts = tt })
    loaded_of posts known (handed.Asked r) failed loaded right s mid = none_loaded loaded right.1
    loaded_of posts known handed.ClientCrash failed loaded right s mid = none_loaded loaded right.1

    step_fits : (posts : List Posted) (known : KnownNode) (what : Handed) (failed : Bool) (loaded : Option Held) → LoadsRight shape g posts known what failed loaded → KnownFits known
        → OfSome Given (input_of posts what) → KnownFits (known_to shape g posts known what failed loaded)
    step_fits posts known what failed loaded right s good =
        let mid : KnownFits (after_handed shape g posts known what failed) = handed_fits posts known what failed s good in
        reload_fits (after_handed shape g posts known what failed) loaded mid (loaded_of posts known what failed loaded right s mid)

    -- ---- the letters

    from_spelled : (from : Sender) (m : Message) → AllByRecursion (LetterGiven OfPart OfBase) (record { from = from; message = m } ∷ []) → FromGiven OfPart OfBase from m
    from_spelled sender.Client m all = all.0
    from_spelled (sender.Node name) m all = tt

    result_spelled : (from : Sender) (r : Result Message MessageError) → AllByRecursion (LetterGiven OfPart OfBase) (letter_of from r) → ResultGiven shape OfPart OfBase Whole closed from r
    result_spelled from (Ok m) all = from_spelled from m all
    result_spelled from (Err e) all = tt

    post_spelled : (o : Option Posted) → AllByRecursion (LetterGiven OfPart OfBase) (letter_in_post o) → OfSome Given (option_map (λ m. input_of_post m) o)
    post_spelled None all = tt
    post_spelled (Some m) all = result_spelled m.from (message_at m.bytes) all

    pub input_spelled : (posts : List Posted) (what : Handed) → AllByRecursion (LetterGiven OfPart OfBase) (letters_in posts what) → OfSome Given (input_of posts what)
    input_spelled posts (handed.Deliver k) all = post_spelled (posted_at posts k) all
    input_spelled posts (handed.Stop k) all = post_spelled (posted_at posts k) all
    input_spelled posts (handed.Lie from bytes) all = result_spelled from (message_at bytes) all
    input_spelled posts handed.Tick all = tt
    input_spelled posts handed.Crash all = tt
    input_spelled posts handed.Replace all = tt
    input_spelled posts (handed.Asked r) all = tt
    input_spelled posts handed.ClientCrash all = tt

  -- ---- along a run

  module _ (posts : List Posted) (name : NodeName) where
    pub own_fits : (own : Bool) (known : KnownNode) (before : ℕ) (step : TraceStep) → IsStepOf own shape posts name known before step → KnownFits known
        → AllByRecursion (LetterGiven OfPart OfBase) (if own then letters_in posts step.handed else [])
        → KnownFits (if own then known_to shape name.region posts known step.handed step.failed step.loaded else known)
    own_fits true known before step right s all = step_fits name.region posts known step.handed step.failed step.loaded right.loads s (input_spelled name.region posts step.handed all)
    own_fits false known before step right s all = s

    fits_along : (known : KnownNode) (before : ℕ) (steps : List TraceStep) → AllSteps shape posts name known before steps → AllByRecursion (LetterGiven OfPart OfBase) (letters_to posts name steps) → KnownFits known
        → KnownFits (known_of shape posts name known steps)
    unfolding AllSteps known_of
    fits_along known before [] right all s = s
    fits_along known before (step ∷ steps) right all s =
        let new : List Letter = if addresses name step then letters_in posts step.handed else [] in
        fits_along (after shape posts name known step) step.sent steps right.1 (all_back (LetterGiven OfPart OfBase) new (letters_to posts name steps) all)
        (own_fits (addresses name step) known before step right.0 s (all_front (LetterGiven OfPart OfBase) new (letters_to posts name steps) all))

    -- The law: each of the contents that the node's disk may mean fits the volume.
    pub contents_fit : (first : Held) (steps : List TraceStep) → AllSteps shape posts name (fresh shape name.region first) 0 steps → Fit first
        → AllByRecursion (LetterGiven OfPart OfBase) (letters_to posts name steps) → KnownFits (known_of shape posts name (fresh shape name.region first) steps)
    contents_fit first steps right fits all = fits_along (fresh shape name.region first) 0 steps right all (fresh_fits name.region first fits)

module _ (shape : Shape) (posts : List Posted) (name : NodeName) where
  shows_fitting : (held : Held) → HeldFits shape IsSpelled IsSpelled (IsShaped shape) held → (m : Message) → TellsCarried held m → ShowsFitting shape m
  shows_fitting held of (message.Gathered m) tells = record { fits = subst (λ (h : Held). HeldFits shape IsSpelled IsSpelled (IsShaped shape) h) (sym tells.0) of; carried = subst (λ (h : Held). is_carried h ≡ true) (sym tells.0) tells.1 }
  shows_fitting held of (message.Part m) tells = tt
  shows_fitting held of (message.Stage m) tells = tt
  shows_fitting held of (message.Ask m) tells = tt
  shows_fitting held of (message.Gather m) tells = tt
  shows_fitting held of (message.Switch m) tells = tt
  shows_fitting held of (message.Dump m) tells = tt
  shows_fitting held of (message.Prepared m) tells = tt
  shows_fitting held of (message.Committed m) tells = tt
  shows_fitting held of (message.Answer m) tells = tt
  shows_fitting held of (message.Staged m) tells = tt
  shows_fitting held of (message.Switched m) tells = tt
  shows_fitting held of (message.Dumped m) tells = tt

  abbrev SpelledKnown : KnownNode → Type 0
  SpelledKnown known = KnownFits shape IsSpelled IsSpelled (IsShaped shape) (spelled_closed shape) known

  outs_fit : (known : KnownNode) → SpelledKnown known → (input : Input) (failed : Bool) → AllByRecursion (λ out. ShowsFitting shape out.message) (outs_of shape name.region known input failed)
  outs_fit known s input failed =
      either_way (known.silent || failed) [] (handled shape name.region known.state input).outs (AllByRecursion (λ out. ShowsFitting shape out.message)) tt
      (all_then (λ out. TellsCarried known.state.held out.message) (λ out. ShowsFitting shape out.message) (λ out tells. shows_fitting known.state.held s.held out.message tells)
      (planned shape name.region known.state input).outs (planned_carry shape name.region known.state input))

  some_outs : (known : KnownNode) → SpelledKnown known → (failed : Bool) (o : Option Input) → AllByRecursion (λ out. ShowsFitting shape out.message) (option_map_or (λ input. outs_of shape name.region known input failed) o [])
  some_outs known s failed None = tt
  some_outs known s failed (Some input) = outs_fit known s input failed

  -- hence so does what it shows as held, whatever it is handed next
  pub shown_fits : (first : Held) (steps : List TraceStep) → AllSteps shape posts name (fresh shape name.region first) 0 steps → HeldFits shape IsSpelled IsSpelled (IsShaped shape) first
      → AllByRecursion (LetterGiven IsSpelled IsSpelled) (letters_to posts name steps) → (what : Handed) (failed : Bool)
      → AllByRecursion (λ out. ShowsFitting shape out.message) (outs_to shape name.region posts (known_of shape posts name (fresh shape name.region first) steps) what failed)
  shown_fits first steps right fits all what failed =
      let known : KnownNode = known_of shape posts name (fresh shape name.region first) steps in
      some_outs known (contents_fit shape IsSpelled IsSpelled (IsShaped shape) (spelled_closed shape) posts name first steps right fits all) failed (input_of posts what)
