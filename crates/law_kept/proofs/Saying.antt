-- What nodes hold was tagged by the client, and what honest ones said that they hold is sound; both stay so as more is known.
use Rattle.std.proofs.Common.{◌≡◌, ◌∙◌, ℕ, ◌<◌, ◌≤◌, Bool, true, false, if◌then◌else◌, List, [], Option, None, Some, Result, Ok, Err, inl, refl, sym}
use Rattle.std.specs.Prelude.{option_map}
use Rattle.std.proofs.lemmas.Bool.{false≢true}
use Rattle.salus_types.specs.Volume.{Shape}
use Rattle.salus_types.specs.declared.names.NodeName.{NodeName}
use Rattle.salus_types.specs.declared.names.Sender.{Sender}
use Rattle.salus_types.specs.declared.names.Sender.TheVariants as sender
use Rattle.salus_types.specs.declared.records.Record.{Record}
use Rattle.salus_types.specs.declared.records.Base.{Base}
use Rattle.salus_types.specs.declared.records.Held.{Held}
use Rattle.salus_message.specs.declared.carried.Gathered.{Gathered}
use Rattle.salus_message.specs.declared.wire.Message.{Message}
use Rattle.salus_message.specs.declared.wire.Message.TheVariants as message
use Rattle.salus_message.specs.declared.wire.MessageError.{MessageError}
use Rattle.salus_message.specs.Reading.{message_at}
use Rattle.merkle_region.specs.Tree.{IsAmong}
use Rattle.schedule_text.specs.Limits.{IsOfVolume}
use Rattle.schedule_text.specs.declared.schedule.Event.{Event}
use Rattle.schedule_text.specs.declared.schedule.Volume.{Volume}
use Rattle.volume_model.specs.Groups.{is_client}
use Rattle.salus_model.specs.declared.trace.Handed.{Handed}
use Rattle.salus_model.specs.declared.trace.Handed.TheVariants as handed
use Rattle.salus_model.specs.declared.trace.TraceStep.{TraceStep}
use Rattle.salus_model.specs.Judge.{Judge}
use Rattle.salus_model.specs.Following.{Posted, posted_at}
use Rattle.salus_model.specs.Forgery.{IsTagged, records_in, records_of}
use Rattle.salus_model.specs.Guarding.{is_lied_for}
use Rattle.replica_rules.specs.Nodes.{Memory}
use Rattle.replica_rules.proofs.Keeping.{OfHeld, OfMemory, OfLetter, OfResult, OfInput}
use Rattle.run_rules.specs.Knowing.{KnownNode, input_of_post, input_of, known_to}
use Rattle.run_rules.specs.Running.{addresses, after, IsStepOf}
use Rattle.list_lemmas.proofs.Each.{OfSome, all_then}
use Rattle.law_lemmas.proofs.Growing.{Grows, tagged-grows}
use Rattle.law_lemmas.proofs.Settled.{EachKnown}
use Rattle.law_lemmas.proofs.Numbered.{IsSized}
use Rattle.law_history.specs.Handing.{records_posted}
use Rattle.law_handed.proofs.Origins.{Stands, step_stands}
use Rattle.kept_model.specs.Nodes.{node_number, is_honest}
use Rattle.kept_model.specs.Sound.{IsSoundHeld}
use Rattle.law_matched.specs.Silent.{IsHandedRight}
use Rattle.law_phases.proofs.Lasting.{held_lasts}

module _ (volume : Volume) (events : List Event) (posts : List Posted) where
  abbrev shape : Shape
  shape = volume.geometry

  -- each record that the node may hold was tagged
  abbrev pub Owns : Judge → KnownNode → Type 0
  Owns judge known = Stands (λ rec. IsTagged shape volume.key judge rec) known

  -- what an honest node of the volume said that it holds is sound, in the first messages that were sent
  abbrev pub SaidSound : Judge → ℕ → Type 0
  SaidSound judge sent =
      (k : ℕ) → 0 < k → k ≤ sent → (post : Posted) → posted_at posts k ≡ Some post → (name : NodeName) → IsOfVolume shape name → post.from ≡ sender.Node name
      → is_honest shape events (node_number shape name) ≡ true → (x : Gathered) → message_at post.bytes ≡ Ok (message.Gathered x) → IsSoundHeld shape volume.key judge name.region x.held

  -- each record that the client posted was tagged, in the first messages that were sent
  abbrev pub PostedOwn : Judge → ℕ → Type 0
  PostedOwn judge sent = (k : ℕ) → 0 < k → k ≤ sent → (rec : Record) → IsAmong rec (records_posted (posted_at posts k)) → IsTagged shape volume.key judge rec

  -- ---- more is known

  module _ (before after : Judge) (sized : EachKnown before (IsSized shape)) (grows : Grows before after) where
    tagged_more : (rec : Record) → IsTagged shape volume.key before rec → IsTagged shape volume.key after rec
    tagged_more rec tagged = tagged-grows shape volume.key before after rec sized grows tagged

    held_more : (held : Held) → OfHeld (λ rec. IsTagged shape volume.key before rec) held → OfHeld (λ rec. IsTagged shape volume.key after rec) held
    held_more held of = record {
      bases = all_then (λ (base : Base). IsTagged shape volume.key before base.rec) (λ (base : Base). IsTagged shape volume.key after base.rec) (λ base tagged. tagged_more base.rec tagged) held.bases of.bases;
      parts = all_then (λ rec. IsTagged shape volume.key before rec) (λ rec. IsTagged shape volume.key after rec) tagged_more held.parts of.parts;
    }

    memory_more : (memory : Option Memory) → OfMemory (λ rec. IsTagged shape volume.key before rec) memory → OfMemory (λ rec. IsTagged shape volume.key after rec) memory
    memory_more None of = tt
    memory_more (Some m) of = all_then (λ rec. IsTagged shape volume.key before rec) (λ rec. IsTagged shape volume.key after rec) tagged_more m.replica.early of

    pub owns_more : (known : KnownNode) → Owns before known → Owns after known
    owns_more known owns = record {
      held = held_more known.state.held owns.held;
      kept = memory_more known.state.memory owns.kept;
      each = all_then (OfHeld (λ rec. IsTagged shape volume.key before rec)) (OfHeld (λ rec. IsTagged shape volume.key after rec)) held_more known.contents owns.each;
    }

    pub posted_more : (sent : ℕ) → PostedOwn before sent → PostedOwn after sent
    posted_more sent own = λ k counted low rec among. tagged_more rec (own k counted low rec among)

    pub said_later : (sent : ℕ) → SaidSound before sent → SaidSound after sent
    said_later sent said = λ k counted low post at name inside from honest x reads. held_lasts shape volume.key before after grows sized name.region x.held (said k counted low post at name inside from honest x reads)

  -- ---- what is handed to a node

  module _ (judge : Judge) (sent : ℕ) (client : is_lied_for events sender.Client ≡ false) (own : PostedOwn judge sent) where
    abbrev Good : Record → Type 0
    Good rec = IsTagged shape volume.key judge rec

    letter_of_client : (m : Message) → ((rec : Record) → IsAmong rec (records_in m) → Good rec) → OfLetter Good sender.Client m
    letter_of_client (message.Part m) good = good m.rec (inl refl)
    letter_of_client (message.Stage m) good = good m.base.rec (inl refl)
    letter_of_client (message.Ask m) good = tt
    letter_of_client (message.Gather m) good = tt
    letter_of_client (message.Switch m) good = tt
    letter_of_client (message.Dump m) good = tt
    letter_of_client (message.Prepared m) good = tt
    letter_of_client (message.Committed m) good = tt
    letter_of_client (message.Answer m) good = tt
    letter_of_client (message.Gathered m) good = tt
    letter_of_client (message.Staged m) good = tt
    letter_of_client (message.Switched m) good = tt
    letter_of_client (message.Dumped m) good = tt

    result_good : (from : Sender) (r : Result Message MessageError) → ((rec : Record) → IsAmong rec (if is_client from then records_of r else []) → Good rec) → OfResult Good from r
    result_good sender.Client (Ok m) good = letter_of_client m good
    result_good (sender.Node name) (Ok m) good = tt
    result_good from (Err e) good = tt

    post_good : (o : Option Posted) → ((rec : Record) → IsAmong rec (records_posted o) → Good rec) → OfSome (OfInput Good) (option_map (λ m. input_of_post m) o)
    post_good None good = tt
    post_good (Some m) good = result_good m.from (message_at m.bytes) good

    lie_good : (from : Sender) (bytes : List ℕ) → is_lied_for events from ≡ true → OfResult Good from (message_at bytes)
    lie_good sender.Client bytes lied = absurd (false≢true (sym client ∙ lied))
    lie_good (sender.Node name) bytes lied = by (message_at bytes) where
      by : (r : Result Message MessageError) → OfResult Good (sender.Node name) r
      by (Ok m) = tt
      by (Err e) = tt

    pub input_good : (what : Handed) → IsHandedRight events sent what → OfSome (OfInput Good) (input_of posts what)
    input_good (handed.Deliver k) right = post_good (posted_at posts k) (own k right.0 right.1)
    input_good (handed.Stop k) right = post_good (posted_at posts k) (own k right.0 right.1)
    input_good (handed.Lie from bytes) right = lie_good from bytes right
    input_good handed.Tick right = tt
    input_good handed.Crash right = tt
    input_good handed.Replace right = tt
    input_good (handed.Asked r) right = tt
    input_good handed.ClientCrash right = tt

    owns_by : (mine : Bool) (name : NodeName) (known : KnownNode) (t : TraceStep) → IsStepOf mine shape posts name known sent t → IsHandedRight events sent t.handed → Owns judge known
        → Owns judge (if mine then known_to shape name.region posts known t.handed t.failed t.loaded else known)
    owns_by true name known t step right owns = step_stands Good shape name.region posts known t.handed t.failed t.loaded step.loads owns (input_good t.handed right)
    owns_by false name known t step right owns = owns

    -- a step more of any party
    pub owns_next : (name : NodeName) (known : KnownNode) (t : TraceStep) → IsStepOf (addresses name t) shape posts name known sent t → IsHandedRight events sent t.handed → Owns judge known
        → Owns judge (after shape posts name known t)
    owns_next name known t step right owns = owns_by (addresses name t) name known t step right owns
