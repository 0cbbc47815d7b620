-- Each record in what a node may hold was handed to it before, or was held at first.
use Rattle.std.proofs.Common.{◌≡◌, inl, inr, ⊎_elim, ℕ, ◌||◌, Bool, true, false, if◌then◌else◌, List, [], ◌∷◌, ◌++◌, map, Option, None, Some, refl, sym, subst, append_assoc}
use Rattle.std.specs.Prelude.{option_map, Result, Ok, Err}
use Rattle.std.specs.Option.{option_map_or}
use Rattle.std.specs.List.{AllByRecursion}
use Rattle.std.proofs.lemmas.List.{append-nil}
use Rattle.salus_types.specs.Volume.{Shape}
use Rattle.salus_types.specs.declared.names.NodeName.{NodeName}
use Rattle.salus_types.specs.declared.names.Sender.{Sender}
use Rattle.salus_types.specs.declared.names.Sender.TheVariants as sender
use Rattle.salus_types.specs.declared.records.Record.{Record}
use Rattle.salus_types.specs.declared.records.Held.{Held}
use Rattle.salus_message.specs.declared.wire.Message.{Message}
use Rattle.salus_message.specs.declared.wire.Message.TheVariants as message
use Rattle.salus_message.specs.declared.wire.MessageError.{MessageError}
use Rattle.salus_message.specs.Reading.{message_at}
use Rattle.salus_model.specs.declared.trace.Handed.{Handed}
use Rattle.salus_model.specs.declared.trace.Handed.TheVariants as handed
use Rattle.salus_model.specs.declared.trace.TraceStep.{TraceStep}
use Rattle.salus_model.specs.Following.{Posted, posted_at}
use Rattle.salus_model.specs.Licences.{Letter, letter_of, letter_in_post, letters_in, letters_to}
use Rattle.replica_rules.specs.Nodes.{Memory, loaded_as}
use Rattle.replica_rules.specs.Rules.{Sending, Input, planned, Handled, handled}
use Rattle.replica_rules.proofs.Keeping.{OfHeld, OfMemory, OfLetter, OfResult, OfInput, fresh_of, planned_of, contents_through_of, handled_of}
use Rattle.replica_rules.proofs.Telling.{TellsHeld, planned_tell}
use Rattle.run_rules.specs.Knowing.{KnownNode, speaking, silenced, fresh, after_handling, after_input, outs_of, input_of_post, input_of, after_handed, outs_to, reloaded, known_to, IsLoadOf, LoadsRight}
use Rattle.run_rules.specs.Running.{addresses, after, known_of, IsStepOf, AllSteps}
use Rattle.list_lemmas.proofs.Each.{either_way, all_both, all_map, all_then, OfSome, some_way}
use Rattle.merkle_region.proofs.Membership.{among_left, among_right}
use Rattle.list_lemmas.proofs.Members.{among_all, all_among, among_map-in}
use Rattle.law_handed.specs.Bringing.{HasOrigin, HeldWasHanded, TellsWhatWasHanded}

-- ---- a node, by whatever holds of the records that it is handed

-- it holds of each record in each of the contents, and of each part that is kept early
pub record Stands (Good : Record → Type 0) (known : KnownNode) : Type 0 where
  pub held : OfHeld Good known.state.held
  pub kept : OfMemory Good known.state.memory
  pub each : AllByRecursion (OfHeld Good) known.contents

module _ (Good : Record → Type 0) (shape : Shape) (g : ℕ) where
  fresh_stands : (held : Held) → OfHeld Good held → Stands Good (fresh shape g held)
  unfolding loaded_as
  fresh_stands held of = record { held = of; kept = fresh_of Good shape g held; each = (of, tt) }

  input_stands : (known : KnownNode) (input : Input) (failed : Bool) → Stands Good known → OfInput Good input → Stands Good (after_input shape g known input failed)
  input_stands known input failed s good =
      let h : Handled = handled shape g known.state input in
      let now : OfHeld Good h.node.held = handled_of Good shape g known.state input s.held s.kept good in
      either_way known.silent known (after_handling shape known.state h failed) (Stands Good) s
      (either_way failed (silenced shape known.state h.changes) (speaking h.node) (Stands Good)
      (record { held = s.held; kept = s.kept; each = contents_through_of Good shape known.state.held h.changes s.held (planned_of Good shape g known.state input s.kept good).changes })
      (record { held = now; kept = (planned_of Good shape g known.state input s.kept good).kept; each = (now, tt) }))

  handed_stands : (posts : List Posted) (known : KnownNode) (what : Handed) (failed : Bool) → Stands Good known → OfSome (OfInput Good) (input_of posts what) → Stands Good (after_handed shape g posts known what failed)
  handed_stands posts known what failed s good =
      some_way (OfInput Good) (Stands Good) (λ input. after_input shape g known input failed) known (input_of posts what) good (λ input one. input_stands known input failed s one) s

  reload_stands : (known : KnownNode) (loaded : Option Held) → Stands Good known → OfSome (OfHeld Good) loaded → Stands Good (reloaded shape g known loaded)
  reload_stands known None s of = s
  reload_stands known (Some held) s of = fresh_stands held of

  of_load : (contents : List Held) (loaded : Option Held) → IsLoadOf contents loaded → AllByRecursion (OfHeld Good) contents → OfSome (OfHeld Good) loaded
  of_load contents None load each = absurd load
  of_load contents (Some held) load each = among_all (OfHeld Good) contents held load each

  none_loaded : (loaded : Option Held) → loaded ≡ None → OfSome (OfHeld Good) loaded
  none_loaded loaded same = subst (λ (o : Option Held). OfSome (OfHeld Good) o) (sym same) tt

  loaded_of : (posts : List Posted) (known : KnownNode) (what : Handed) (failed : Bool) (loaded : Option Held) → LoadsRight shape g posts known what failed loaded → Stands Good known
      → Stands Good (after_handed shape g posts known what failed) → OfSome (OfHeld Good) loaded
  loaded_of posts known (handed.Deliver k) failed loaded right s mid = none_loaded loaded right
  loaded_of posts known (handed.Lie from bytes) failed loaded right s mid = none_loaded loaded right
  loaded_of posts known handed.Tick failed loaded right s mid = none_loaded loaded right
  loaded_of posts known (handed.Stop k) failed loaded right s mid = of_load (after_handed shape g posts known (handed.Stop k) failed).contents loaded right mid.each
  loaded_of posts known handed.Crash failed loaded right s mid = of_load known.contents loaded right.1 s.each
  loaded_of posts known handed.Replace failed loaded right s mid = subst (λ (o : Option Held). OfSome (OfHeld Good) o) (sym right.1) (record { bases = tt; parts = tt })
  loaded_of posts known (handed.Asked r) failed loaded right s mid = none_loaded loaded right.1
  loaded_of posts known handed.ClientCrash failed loaded right s mid = none_loaded loaded right.1

  pub step_stands : (posts : List Posted) (known : KnownNode) (what : Handed) (failed : Bool) (loaded : Option Held) → LoadsRight shape g posts known what failed loaded → Stands Good known
      → OfSome (OfInput Good) (input_of posts what) → Stands Good (known_to shape g posts known what failed loaded)
  step_stands posts known what failed loaded right s good =
      let mid : Stands Good (after_handed shape g posts known what failed) = handed_stands posts known what failed s good in
      reload_stands (after_handed shape g posts known what failed) loaded mid (loaded_of posts known what failed loaded right s mid)

stands_then : (P Q : Record → Type 0) → ((rec : Record) → P rec → Q rec) → (known : KnownNode) → Stands P known → Stands Q known
stands_then P Q f known s = record {
  held = held_then known.state.held s.held;
  kept = kept_then known.state.memory s.kept;
  each = all_then (OfHeld P) (OfHeld Q) held_then known.contents s.each;
} where
  held_then : (held : Held) → OfHeld P held → OfHeld Q held
  held_then held of = record { bases = all_then (λ base. P base.rec) (λ base. Q base.rec) (λ base p. f base.rec p) held.bases of.bases; parts = all_then P Q f held.parts of.parts }

  kept_then : (memory : Option Memory) → OfMemory P memory → OfMemory Q memory
  kept_then None of = tt
  kept_then (Some m) of = all_then P Q f m.replica.early of

-- ---- the letters

module _ (first : Held) where
  -- with more letters no origin is lost
  more_letters : (letters more : List Letter) (rec : Record) → HasOrigin first letters rec → HasOrigin first (letters ++ more) rec
  more_letters letters more rec origin =
      ⊎_elim (λ old. inl old) (λ brought. inr (⊎_elim (λ part. inl (among_left _ letters more part)) (λ base. inr (base.0, among_left _ letters more base.1)) brought)) origin

  -- a letter brings the records of its message
  letter_brings : (letters : List Letter) (from : Sender) (m : Message) → OfLetter (HasOrigin first (letters ++ record { from = from; message = m } ∷ [])) from m
  letter_brings letters sender.Client (message.Part m) = inr (inl (among_right _ letters (record { from = sender.Client; message = message.Part m } ∷ []) (inl refl)))
  letter_brings letters sender.Client (message.Stage m) = inr (inr (m.base.blocks, among_right _ letters (record { from = sender.Client; message = message.Stage m } ∷ []) (inl refl)))
  letter_brings letters sender.Client (message.Ask m) = tt
  letter_brings letters sender.Client (message.Gather m) = tt
  letter_brings letters sender.Client (message.Switch m) = tt
  letter_brings letters sender.Client (message.Dump m) = tt
  letter_brings letters sender.Client (message.Prepared m) = tt
  letter_brings letters sender.Client (message.Committed m) = tt
  letter_brings letters sender.Client (message.Answer m) = tt
  letter_brings letters sender.Client (message.Gathered m) = tt
  letter_brings letters sender.Client (message.Staged m) = tt
  letter_brings letters sender.Client (message.Switched m) = tt
  letter_brings letters sender.Client (message.Dumped m) = tt
  letter_brings letters (sender.Node name) m = tt

  result_brings : (letters : List Letter) (from : Sender) (r : Result Message MessageError) → OfResult (HasOrigin first (letters ++ letter_of from r)) from r
  result_brings letters from (Ok m) = letter_brings letters from m
  result_brings letters from (Err e) = tt

  post_brings : (letters : List Letter) (o : Option Posted) → OfSome (OfInput (HasOrigin first (letters ++ letter_in_post o))) (option_map (λ m. input_of_post m) o)
  post_brings letters None = tt
  post_brings letters (Some m) = result_brings letters m.from (message_at m.bytes)

  input_brings : (posts : List Posted) (letters : List Letter) (what : Handed) → OfSome (OfInput (HasOrigin first (letters ++ letters_in posts what))) (input_of posts what)
  input_brings posts letters (handed.Deliver k) = post_brings letters (posted_at posts k)
  input_brings posts letters (handed.Stop k) = post_brings letters (posted_at posts k)
  input_brings posts letters (handed.Lie from bytes) = result_brings letters from (message_at bytes)
  input_brings posts letters handed.Tick = tt
  input_brings posts letters handed.Crash = tt
  input_brings posts letters handed.Replace = tt
  input_brings posts letters (handed.Asked r) = tt
  input_brings posts letters handed.ClientCrash = tt

  -- ---- along a run

  module _ (shape : Shape) (posts : List Posted) (name : NodeName) where
    step_by : (own : Bool) (letters : List Letter) (known : KnownNode) (before : ℕ) (step : TraceStep) → IsStepOf own shape posts name known before step → Stands (HasOrigin first letters) known
        → Stands (HasOrigin first (letters ++ (if own then letters_in posts step.handed else []))) (if own then known_to shape name.region posts known step.handed step.failed step.loaded else known)
    step_by true letters known before step right s =
        let now : List Letter = letters ++ letters_in posts step.handed in
        step_stands (HasOrigin first now) shape name.region posts known step.handed step.failed step.loaded right.loads
        (stands_then (HasOrigin first letters) (HasOrigin first now) (more_letters letters (letters_in posts step.handed)) known s) (input_brings posts letters step.handed)
    step_by false letters known before step right s = stands_then (HasOrigin first letters) (HasOrigin first (letters ++ [])) (more_letters letters []) known s

    pub stands_along : (letters : List Letter) (known : KnownNode) (before : ℕ) (steps : List TraceStep) → AllSteps shape posts name known before steps → Stands (HasOrigin first letters) known
        → Stands (HasOrigin first (letters ++ letters_to posts name steps)) (known_of shape posts name known steps)
    unfolding AllSteps known_of
    stands_along letters known before [] right s = subst (λ (l : List Letter). Stands (HasOrigin first l) known) (sym (append-nil letters)) s
    stands_along letters known before (step ∷ steps) right s =
        let new : List Letter = if addresses name step then letters_in posts step.handed else [] in
        let now : KnownNode = after shape posts name known step in
        let here : Stands (HasOrigin first (letters ++ new)) now = step_by (addresses name step) letters known before step right.0 s in
        subst (λ (l : List Letter). Stands (HasOrigin first l) (known_of shape posts name now steps)) (append_assoc letters new (letters_to posts name steps)) (stands_along (letters ++ new) now step.sent steps right.1 here)

  held_at_first : OfHeld (HasOrigin first []) first
  held_at_first = record {
    bases = all_among (λ base. HasOrigin first [] base.rec) first.bases (λ base among. inl (among_left base.rec (map (λ b. b.rec) first.bases) first.parts (among_map-in (λ b. b.rec) first.bases base among)));
    parts = all_among (HasOrigin first []) first.parts (λ rec among. inl (among_right rec (map (λ b. b.rec) first.bases) first.parts among));
  }

  whole_held : (letters : List Letter) (held : Held) → OfHeld (HasOrigin first letters) held → HeldWasHanded first letters held
  whole_held letters held of = all_both (HasOrigin first letters) (map (λ b. b.rec) held.bases) held.parts (all_map (HasOrigin first letters) (λ b. b.rec) held.bases of.bases) of.parts

  module _ (shape : Shape) (posts : List Posted) (name : NodeName) (steps : List TraceStep) (right : AllSteps shape posts name (fresh shape name.region first) 0 steps) where
    now_known : KnownNode
    now_known = known_of shape posts name (fresh shape name.region first) steps

    now_stands : Stands (HasOrigin first (letters_to posts name steps)) now_known
    unfolding now_known
    now_stands = stands_along shape posts name [] (fresh shape name.region first) 0 steps right (fresh_stands (HasOrigin first []) shape name.region first held_at_first)

    -- The law: each record in each of the contents that the node's disk may mean was brought in the client's name by what
    -- was handed to the node, or was held at first.
    pub held_was_handed : AllByRecursion (HeldWasHanded first (letters_to posts name steps)) (known_of shape posts name (fresh shape name.region first) steps).contents
    unfolding now_known
    held_was_handed = all_then (OfHeld (HasOrigin first (letters_to posts name steps))) (HeldWasHanded first (letters_to posts name steps)) (whole_held (letters_to posts name steps)) now_known.contents now_stands.each

    message_tells : (held : Held) → HeldWasHanded first (letters_to posts name steps) held → (m : Message) → TellsHeld held m → TellsWhatWasHanded first (letters_to posts name steps) m
    message_tells held of (message.Gathered m) tells = subst (λ (h : Held). HeldWasHanded first (letters_to posts name steps) h) (sym tells) of
    message_tells held of (message.Part m) tells = tt
    message_tells held of (message.Stage m) tells = tt
    message_tells held of (message.Ask m) tells = tt
    message_tells held of (message.Gather m) tells = tt
    message_tells held of (message.Switch m) tells = tt
    message_tells held of (message.Dump m) tells = tt
    message_tells held of (message.Prepared m) tells = tt
    message_tells held of (message.Committed m) tells = tt
    message_tells held of (message.Answer m) tells = tt
    message_tells held of (message.Staged m) tells = tt
    message_tells held of (message.Switched m) tells = tt
    message_tells held of (message.Dumped m) tells = tt

    tells_brought : Sending → Type 0
    tells_brought out = TellsWhatWasHanded first (letters_to posts name steps) out.message

    outs_tell : (known : KnownNode) → Stands (HasOrigin first (letters_to posts name steps)) known → (input : Input) (failed : Bool)
        → AllByRecursion tells_brought (outs_of shape name.region known input failed)
    unfolding tells_brought
    outs_tell known s input failed =
        either_way (known.silent || failed) [] (handled shape name.region known.state input).outs (AllByRecursion tells_brought) tt
        (all_then (λ out. TellsHeld known.state.held out.message) tells_brought (λ out tells. message_tells known.state.held (whole_held (letters_to posts name steps) known.state.held s.held) out.message tells)
        (planned shape name.region known.state input).outs (planned_tell shape name.region known.state input))

    -- hence whatever is handed to it next, each record of a message that tells all that it holds has such an origin
    pub gathered_was_handed : (what : Handed) (failed : Bool)
        → AllByRecursion (λ out. TellsWhatWasHanded first (letters_to posts name steps) out.message) (outs_to shape name.region posts (known_of shape posts name (fresh shape name.region first) steps) what failed)
    unfolding now_known tells_brought
    gathered_was_handed what failed = told (input_of posts what) where
      told : (o : Option Input) → AllByRecursion tells_brought (option_map_or (λ input. outs_of shape name.region now_known input failed) o [])
      told None = tt
      told (Some input) = outs_tell now_known now_stands input failed
