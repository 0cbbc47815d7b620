-- A server that loads nothing has a view that can be read back: whole blocks, and a number in its width.
use Rattle.std.proofs.Common.{◌≡◌, ℕ, ◌^◌, Bool, List, Option, None, Some, sym, subst}
use Rattle.std.specs.Prelude.{Result, Ok, Err}
use Rattle.std.specs.List.{AllByRecursion}
use Rattle.salus_types.specs.Volume.{Shape}
use Rattle.salus_types.specs.declared.names.Sender.{Sender}
use Rattle.salus_types.specs.declared.names.Sender.TheVariants as sender
use Rattle.salus_types.specs.declared.records.Held.{Held}
use Rattle.salus_message.specs.declared.wire.Message.{Message}
use Rattle.salus_message.specs.declared.wire.Message.TheVariants as message
use Rattle.salus_message.specs.declared.wire.MessageError.{MessageError}
use Rattle.salus_message.specs.Reading.{message_at}
use Rattle.salus_model.specs.declared.trace.Handed.{Handed}
use Rattle.salus_model.specs.Following.{Posted}
use Rattle.salus_model.specs.Licences.{letters_in}
use Rattle.replica_rules.specs.Nodes.{Memory}
use Rattle.replica_rules.specs.Rules.{Input, Receives, Ticks, handled}
use Rattle.run_rules.specs.Knowing.{KnownNode, speaking, silenced, after_handling, after_input, input_of, known_to}
use Rattle.list_lemmas.proofs.Each.{either_way, all_then, OfSome, some_way}
use Rattle.law_answers.proofs.Rules.{OfMessage, OfResult, OfInput}
use Rattle.law_handed.specs.Fitting.{IsSpelled, PartFits, BaseFits, HeldFits, MessageGiven, LetterGiven, IsShaped}
use Rattle.law_handed.proofs.Blocks.{spelled_closed}
use Rattle.law_handed.proofs.Shaping.{KeptFits, ResultGiven, InputGiven}
use Rattle.law_handed.proofs.Ranged.{KnownFits, input_spelled}
use Rattle.law_reads.proofs.Low.{IsLow, HeldLow, MemoryLow, planned_low}
use Rattle.law_reads.proofs.Readable.{IsReadable}

module _ (shape : Shape) where
  abbrev pub Fits : KnownNode → Type 0
  Fits known = KnownFits shape IsSpelled IsSpelled (IsShaped shape) (spelled_closed shape) known

  abbrev pub IsGood : Option Memory → Type 0
  IsGood memory = MemoryLow shape (2 ^ 64) memory

  pub held_low : (held : Held) → HeldFits shape IsSpelled IsSpelled (IsShaped shape) held → HeldLow shape (2 ^ 64) held
  held_low held of = record {
    bases = all_then (BaseFits IsSpelled (IsShaped shape)) (λ base. IsLow shape (2 ^ 64) base.rec) (λ base fits. fits.given.widths.header_typed.seq_width) held.bases of.bases;
    parts = all_then (PartFits shape IsSpelled) (IsLow shape (2 ^ 64)) (λ rec fits. fits.given.widths.header_typed.seq_width) held.parts of.parts;
  }

  message_low : (m : Message) → MessageGiven IsSpelled IsSpelled m → OfMessage (IsLow shape (2 ^ 64)) (λ a. Unit {0}) m
  message_low (message.Part m) given = given.widths.header_typed.seq_width
  message_low (message.Ask m) given = tt
  message_low (message.Stage m) given = tt
  message_low (message.Gather m) given = tt
  message_low (message.Switch m) given = tt
  message_low (message.Dump m) given = tt
  message_low (message.Prepared m) given = tt
  message_low (message.Committed m) given = tt
  message_low (message.Answer m) given = tt
  message_low (message.Gathered m) given = tt
  message_low (message.Staged m) given = tt
  message_low (message.Switched m) given = tt
  message_low (message.Dumped m) given = tt

  result_low : (from : Sender) (r : Result Message MessageError) → ResultGiven shape IsSpelled IsSpelled (IsShaped shape) (spelled_closed shape) from r → OfResult (IsLow shape (2 ^ 64)) (λ a. Unit {0}) from r
  result_low sender.Client (Ok m) given = message_low m given
  result_low (sender.Node name) (Ok m) given = tt
  result_low from (Err e) given = tt

  input_low : (input : Input) → InputGiven shape IsSpelled IsSpelled (IsShaped shape) (spelled_closed shape) input → OfInput (IsLow shape (2 ^ 64)) (λ a. Unit {0}) input
  input_low (Receives from bytes) given = result_low from (message_at bytes) given
  input_low Ticks given = tt

  handled_low : (g : ℕ) (known : KnownNode) (failed : Bool) (input : Input) → Fits known → IsGood known.state.memory → InputGiven shape IsSpelled IsSpelled (IsShaped shape) (spelled_closed shape) input
      → IsGood (after_input shape g known input failed).state.memory
  handled_low g known failed input fits low given =
      either_way known.silent known (after_handling shape known.state (handled shape g known.state input) failed) (λ (k : KnownNode). IsGood k.state.memory) low
      (either_way failed (silenced shape known.state (handled shape g known.state input).changes) (speaking (handled shape g known.state input).node) (λ (k : KnownNode). IsGood k.state.memory) low
      (planned_low shape (2 ^ 64) g known.state (held_low known.state.held fits.held) low input (input_low input given)))

  -- a step in which nothing is loaded
  pub low_step : (g : ℕ) (posts : List Posted) (known : KnownNode) (what : Handed) (failed : Bool) (loaded : Option Held) → Fits known → IsGood known.state.memory
      → AllByRecursion (LetterGiven IsSpelled IsSpelled) (letters_in posts what) → loaded ≡ None → IsGood (known_to shape g posts known what failed loaded).state.memory
  low_step g posts known what failed loaded fits low letters none =
      subst (λ (o : Option Held). IsGood (known_to shape g posts known what failed o).state.memory) (sym none)
      (some_way (InputGiven shape IsSpelled IsSpelled (IsShaped shape) (spelled_closed shape)) (λ (k : KnownNode). IsGood k.state.memory) (λ input. after_input shape g known input failed) known (input_of posts what)
      (input_spelled shape IsSpelled IsSpelled (IsShaped shape) (spelled_closed shape) g posts what letters) (λ input given. handled_low g known failed input fits low given) low)

  pub readable_of : (known : KnownNode) → Fits known → IsGood known.state.memory → (m : Memory) → known.state.memory ≡ Some m → IsReadable shape m.replica.view
  readable_of known fits low m is = record {
    whole = (subst (λ (o : Option Memory). OfSome (λ k. KeptFits shape IsSpelled IsSpelled (IsShaped shape) (spelled_closed shape) k.replica) o) is fits.kept).whole;
    low = (subst (λ (o : Option Memory). IsGood o) is low).view;
  }
