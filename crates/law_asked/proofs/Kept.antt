-- Each ask that a node keeps, and each that it answers, was posted by the client.
use Rattle.std.proofs.Common.{◌≡◌, ◌∙◌, ℕ, ◌<◌, ◌≤◌, Bool, true, false, List, [], Option, None, Some, refl, sym, subst, le_trans}
use Rattle.std.specs.Prelude.{option_map, Result, Ok, Err}
use Rattle.std.specs.Option.{option_map_or}
use Rattle.std.specs.List.{AllByRecursion}
use Rattle.std.proofs.lemmas.Bool.{eq-eqb, true≢false}
use Rattle.salus_types.specs.Volume.{Shape}
use Rattle.salus_types.specs.declared.names.Sender.{Sender}
use Rattle.salus_types.specs.declared.names.Sender.TheVariants as sender
use Rattle.salus_types.specs.declared.records.Held.{Held}
use Rattle.salus_message.specs.declared.small.Ask.{Ask}
use Rattle.salus_message.specs.declared.wire.Message.{Message}
use Rattle.salus_message.specs.declared.wire.Message.TheVariants as message
use Rattle.salus_message.specs.declared.wire.MessageError.{MessageError}
use Rattle.salus_message.specs.Reading.{message_at}
use Rattle.schedule_text.specs.declared.schedule.Event.{Event}
use Rattle.salus_model.specs.declared.trace.Handed.{Handed}
use Rattle.salus_model.specs.declared.trace.Handed.TheVariants as handed
use Rattle.salus_model.specs.declared.trace.TraceStep.{TraceStep}
use Rattle.salus_model.specs.Following.{Posted, posted_at, sent_by, hands}
use Rattle.salus_model.specs.Guarding.{is_lied_for}
use Rattle.replica_rules.specs.Nodes.{NodeState}
use Rattle.replica_rules.specs.Nodes.{Memory}
use Rattle.replica_rules.specs.Rules.{Sending, Input, Receives, Ticks, handled}
use Rattle.run_rules.specs.Knowing.{KnownNode, speaking, silenced, after_handling, after_input, outs_of, input_of_post, input_of, after_handed, outs_to, reloaded, known_to}
use Rattle.list_lemmas.proofs.Each.{either_way, OfSome, some_way, all_then}
use Rattle.law_lemmas.proofs.WellSent.{IsWellSent}
use Rattle.law_answers.specs.Owing.{BringsAsk}
use Rattle.law_answers.proofs.Rules.{OfMessage, OfResult, OfInput}
use Rattle.law_reads.proofs.Events.{OfHanded}
use Rattle.law_asked.proofs.Handled.{AsksOf, AnswersFor, loaded_none, planned_keeps}

-- one of the first messages that were sent is that ask of the client
pub record WasAsked (posts : List Posted) (sent : ℕ) (a : Ask) : Type 0 where
  pub k : ℕ
  pub counted : 0 < k
  pub low : k ≤ sent
  pub post : Posted
  pub at : posted_at posts k ≡ Some post
  pub from : post.from ≡ sender.Client
  pub reads : message_at post.bytes ≡ Ok (message.Ask a)

pub asked_later : (posts : List Posted) (sent more : ℕ) → sent ≤ more → (a : Ask) → WasAsked posts sent a → WasAsked posts more a
asked_later posts sent more up a was = record { k = was.k; counted = was.counted; low = le_trans was.low up; post = was.post; at = was.at; from = was.from; reads = was.reads }

-- ---- what is handed over

-- it was sent before, or it is a lie in a name for which the schedule lies
abbrev pub IsHandedOver : List Event → ℕ → Handed → Type 0
IsHandedOver events sent (handed.Deliver k) = (0 < k) × (k ≤ sent)
IsHandedOver events sent (handed.Stop k) = (0 < k) × (k ≤ sent)
IsHandedOver events sent (handed.Lie from bytes) = is_lied_for events from ≡ true
IsHandedOver events sent other = Unit {0}

over_by : (events : List Event) (posts : List Posted) (earlier : List TraceStep) (t : TraceStep) → IsWellSent posts earlier t → OfHanded events posts t.party t.handed → (what : Handed) → t.handed ≡ what
    → IsHandedOver events (sent_by earlier) what
over_by events posts earlier t well of (handed.Deliver k) is = well.before k (subst (λ (h : Handed). hands k h ≡ true) (sym is) (eq-eqb k k refl))
over_by events posts earlier t well of (handed.Stop k) is = well.before k (subst (λ (h : Handed). hands k h ≡ true) (sym is) (eq-eqb k k refl))
over_by events posts earlier t well of (handed.Lie from bytes) is = subst (λ (h : Handed). OfHanded events posts t.party h) is of
over_by events posts earlier t well of handed.Tick is = tt
over_by events posts earlier t well of handed.Crash is = tt
over_by events posts earlier t well of handed.Replace is = tt
over_by events posts earlier t well of (handed.Asked r) is = tt
over_by events posts earlier t well of handed.ClientCrash is = tt

pub handed_over : (events : List Event) (posts : List Posted) (earlier : List TraceStep) (t : TraceStep) → IsWellSent posts earlier t → OfHanded events posts t.party t.handed
    → IsHandedOver events (sent_by earlier) t.handed
handed_over events posts earlier t well of = over_by events posts earlier t well of t.handed refl

-- an ask that an input brings
pub brought : (P : Ask → Type 0) (input : Input) (a : Ask) → OfInput (λ rec. Unit {0}) P input → BringsAsk input a → P a
brought P (Receives sender.Client bytes) a of brings = subst (λ (r : Result Message MessageError). OfResult (λ rec. Unit {0}) P sender.Client r) brings of
brought P (Receives (sender.Node name) bytes) a of brings = absurd brings
brought P Ticks a of brings = absurd brings

module _ (events : List Event) (posts : List Posted) (sent : ℕ) (client : is_lied_for events sender.Client ≡ false) where
  abbrev Asked : Ask → Type 0
  Asked a = WasAsked posts sent a

  abbrev Given : Input → Type 0
  Given input = OfInput (λ rec. Unit {0}) Asked input

  message_asked : (k : ℕ) → 0 < k → k ≤ sent → (post : Posted) → posted_at posts k ≡ Some post → post.from ≡ sender.Client → (m : Message) → message_at post.bytes ≡ Ok m → OfMessage (λ rec. Unit {0}) Asked m
  message_asked k counted low post at from (message.Ask a) is = record { k = k; counted = counted; low = low; post = post; at = at; from = from; reads = is }
  message_asked k counted low post at from other is = tt

  node_asked : (bytes : List ℕ) (name : _) (r : Result Message MessageError) → OfResult (λ rec. Unit {0}) Asked (sender.Node name) r
  node_asked bytes name (Ok m) = tt
  node_asked bytes name (Err e) = tt

  sender_asked : (k : ℕ) → 0 < k → k ≤ sent → (post : Posted) → posted_at posts k ≡ Some post → (from : Sender) → post.from ≡ from → (r : Result Message MessageError) → message_at post.bytes ≡ r
      → OfResult (λ rec. Unit {0}) Asked from r
  sender_asked k counted low post at sender.Client from (Ok m) is = message_asked k counted low post at from m is
  sender_asked k counted low post at sender.Client from (Err e) is = tt
  sender_asked k counted low post at (sender.Node name) from r is = node_asked post.bytes name r

  post_asked : (k : ℕ) → 0 < k → k ≤ sent → (o : Option Posted) → posted_at posts k ≡ o → OfSome Given (option_map (λ m. input_of_post m) o)
  post_asked k counted low None at = tt
  post_asked k counted low (Some post) at = sender_asked k counted low post at post.from refl (message_at post.bytes) refl

  lie_asked : (from : Sender) (bytes : List ℕ) → is_lied_for events from ≡ true → OfResult (λ rec. Unit {0}) Asked from (message_at bytes)
  lie_asked sender.Client bytes lied = absurd (true≢false (sym lied ∙ client))
  lie_asked (sender.Node name) bytes lied = node_asked bytes name (message_at bytes)

  pub input_asked : (what : Handed) → IsHandedOver events sent what → OfSome Given (input_of posts what)
  input_asked (handed.Deliver k) over = post_asked k over.0 over.1 (posted_at posts k) refl
  input_asked (handed.Stop k) over = post_asked k over.0 over.1 (posted_at posts k) refl
  input_asked (handed.Lie from bytes) over = lie_asked from bytes over
  input_asked handed.Tick over = tt
  input_asked handed.Crash over = tt
  input_asked handed.Replace over = tt
  input_asked (handed.Asked r) over = tt
  input_asked handed.ClientCrash over = tt

  -- ---- a step of the node

  module _ (shape : Shape) (g : ℕ) where
    abbrev pub KeepsAsked : KnownNode → Type 0
    KeepsAsked known = AsksOf shape Asked known.state.memory

    input_keeps : (known : KnownNode) (failed : Bool) (input : Input) → KeepsAsked known → Given input → KeepsAsked (after_input shape g known input failed)
    input_keeps known failed input was given =
        either_way known.silent known (after_handling shape known.state (handled shape g known.state input) failed) KeepsAsked was
        (either_way failed (silenced shape known.state (handled shape g known.state input).changes) (speaking (handled shape g known.state input).node) KeepsAsked was
        (planned_keeps shape Asked g known.state was input given).kept)

    reloaded_keeps : (known : KnownNode) (loaded : Option Held) → KeepsAsked known → KeepsAsked (reloaded shape g known loaded)
    reloaded_keeps known None was = was
    reloaded_keeps known (Some held) was = loaded_none shape Asked g held

    pub step_keeps : (known : KnownNode) (what : Handed) (failed : Bool) (loaded : Option Held) → IsHandedOver events sent what → KeepsAsked known → KeepsAsked (known_to shape g posts known what failed loaded)
    step_keeps known what failed loaded over was =
        reloaded_keeps (after_handed shape g posts known what failed) loaded
        (some_way Given KeepsAsked (λ input. after_input shape g known input failed) known (input_of posts what) (input_asked what over) (λ input given. input_keeps known failed input was given) was)

    -- what it answers then
    abbrev Answers : KnownNode → List Sending → Type 0
    Answers known outs = AllByRecursion (λ out. AnswersFor shape Asked known.state.memory out.message) outs

    input_answers : (state : NodeState) (silent : Bool) (contents : List Held) (input : Input) (failed : Bool) → AsksOf shape Asked state.memory → Given input
        → let known : KnownNode = record { state = state; silent = silent; contents = contents } in Answers (after_input shape g known input failed) (outs_of shape g known input failed)
    input_answers state true contents input failed was given = tt
    input_answers state false contents input true was given = tt
    input_answers state false contents input false was given = (planned_keeps shape Asked g state was input given).sent

    some_answers : (known : KnownNode) (failed : Bool) (o : Option Input) → KeepsAsked known → OfSome Given o
        → Answers (option_map_or (λ input. after_input shape g known input failed) o known) (option_map_or (λ input. outs_of shape g known input failed) o [])
    some_answers known failed None was given = tt
    some_answers known failed (Some input) was given = input_answers known.state known.silent known.contents input failed was given

    -- where nothing is loaded
    pub step_answers : (known : KnownNode) (what : Handed) (failed : Bool) (loaded : Option Held) → loaded ≡ None → IsHandedOver events sent what → KeepsAsked known
        → Answers (known_to shape g posts known what failed loaded) (outs_to shape g posts known what failed)
    step_answers known what failed loaded unloaded over was =
        subst (λ (o : Option Held). Answers (known_to shape g posts known what failed o) (outs_to shape g posts known what failed)) (sym unloaded)
        (some_answers known failed (input_of posts what) was (input_asked what over))

-- more was sent
pub keeps_later : (posts : List Posted) (sent more : ℕ) → sent ≤ more → (shape : Shape) (o : Option Memory) → AsksOf shape (WasAsked posts sent) o → AsksOf shape (WasAsked posts more) o
keeps_later posts sent more up shape None was = tt
keeps_later posts sent more up shape (Some m) was = all_then (WasAsked posts sent) (WasAsked posts more) (asked_later posts sent more up) m.replica.asks was
