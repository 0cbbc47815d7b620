-- Messages read from left to right.
use Rattle.std.specs.Prelude.{ℕ, List, [], ◌∷◌, length, codes, Option, None, Some, Result, Ok, Err, ◌==◌, if◌then◌else◌}
use Rattle.salus_types.specs.declared.records.Record.{Record}
use Rattle.salus_types.specs.declared.records.Base.{Base}
use Rattle.salus_codec.specs.declared.errors.FieldError.{FieldError}
use Rattle.salus_codec.specs.declared.errors.FieldError.TheVariants as error
use Rattle.salus_codec.specs.Reading.{Field, bytes_at, u8_at, u16_at, u32_at, u64_at}
use Rattle.salus_codec.specs.Formats.{both, made, within, sized, counted}
use Rattle.client_tag.specs.Reading.{record_at, blocks_at, base_at}
use Rattle.salus_message.specs.declared.small.Prepared.{Prepared}
use Rattle.salus_message.specs.declared.small.Committed.{Committed}
use Rattle.salus_message.specs.declared.small.Ask.{Ask}
use Rattle.salus_message.specs.declared.small.Dump.{Dump}
use Rattle.salus_message.specs.declared.replies.Answer.{Answer}
use Rattle.salus_message.specs.declared.carried.Gathered.{Gathered}
use Rattle.salus_message.specs.declared.carried.Dumped.{Dumped}
use Rattle.salus_message.specs.declared.kinds.Kind.{Kind}
use Rattle.salus_message.specs.declared.kinds.Kind.TheVariants as kind
use Rattle.salus_message.specs.declared.wire.Message.{Message}
use Rattle.salus_message.specs.declared.wire.Message.TheVariants as message
use Rattle.salus_message.specs.declared.wire.MessageError.{MessageError}
use Rattle.salus_message.specs.declared.wire.MessageError.TheVariants as refusal
use Rattle.salus_message.specs.Kinds.{kind_at}

unfoldable pub prepared_at : List ℕ → Field Prepared
prepared_at = made (λ x. record { session = x.0; seq = x.1.0; region = x.1.1.0; root = x.1.1.1 }) (both u64_at (both u64_at (both u16_at (bytes_at 32))))

unfoldable pub committed_at : List ℕ → Field Committed
committed_at = made (λ x. record { session = x.0; front = x.1 }) (both u64_at u64_at)

-- session, read, block and at
unfoldable pub asked_at : List ℕ → Field (ℕ × (ℕ × (ℕ × ℕ)))
asked_at = both u64_at (both u64_at (both u32_at u64_at))

unfoldable pub ask_at : List ℕ → Field Ask
ask_at = made (λ x. record { session = x.0; read = x.1.0; block = x.1.1.0; at = x.1.1.1 }) asked_at

unfoldable pub path_at : List ℕ → Field (List (List ℕ))
path_at = counted (within 0 12 u8_at) (bytes_at 32)

unfoldable pub answer_at : List ℕ → Field Answer
answer_at = made (λ x. record { session = x.0.0; read = x.0.1.0; block = x.0.1.1.0; at = x.0.1.1.1; bytes = x.1.0; path = x.1.1 })
    (both asked_at (both (sized (within 1 4096 u16_at)) path_at))

unfoldable pub bases_at : List ℕ → Field (List Base)
bases_at = counted (within 0 1048576 u32_at) base_at

unfoldable pub records_at : List ℕ → Field (List Record)
records_at = counted (within 0 1048576 u32_at) record_at

unfoldable pub gathered_at : List ℕ → Field Gathered
gathered_at = made (λ x. record { session = x.0; held = record { session = x.1.0; bases = x.1.1.0; parts = x.1.1.1 } })
    (both u64_at (both u64_at (both bases_at records_at)))

unfoldable pub dump_at : List ℕ → Field Dump
dump_at = made (λ x. record { session = x.0; region = x.1 }) (both u64_at u16_at)

unfoldable pub dumped_at : List ℕ → Field Dumped
dumped_at = made (λ x. record { session = x.0; region = x.1.0; at = x.1.1.0; blocks = x.1.1.1 }) (both u64_at (both u16_at (both u64_at blocks_at)))

-- the fields of a message of that kind
abbrev pub fields_at : Kind → List ℕ → Field Message
fields_at kind.Part = made (λ x. message.Part (record { rec = x })) record_at
fields_at kind.Prepared = made message.Prepared prepared_at
fields_at kind.Committed = made message.Committed committed_at
fields_at kind.Ask = made message.Ask ask_at
fields_at kind.Answer = made message.Answer answer_at
fields_at kind.Gather = made (λ x. message.Gather (record { session = x })) u64_at
fields_at kind.Gathered = made message.Gathered gathered_at
fields_at kind.Stage = made (λ x. message.Stage (record { base = x })) base_at
fields_at kind.Staged = made (λ x. message.Staged (record { session = x })) u64_at
fields_at kind.Switch = made (λ x. message.Switch (record { session = x })) u64_at
fields_at kind.Switched = made (λ x. message.Switched (record { session = x })) u64_at
fields_at kind.Dump = made message.Dump dump_at
fields_at kind.Dumped = made message.Dumped dumped_at

-- what a field's fault is to a message
abbrev pub fault_of : FieldError → MessageError
fault_of error.Short = refusal.Short
fault_of error.Count = refusal.Count
fault_of error.NoMemory = refusal.NoMemory

-- nothing may remain
abbrev pub whole : Field Message → Result Message MessageError
whole (Ok x) = if length x.1 == 0 then Ok x.0 else Err refusal.Trailing
whole (Err e) = Err (fault_of e)

abbrev pub of_kind : Option Kind → List ℕ → Result Message MessageError
of_kind None rest = Err refusal.Tag
of_kind (Some k) rest = whole (fields_at k rest)

unfoldable pub message_at : List ℕ → Result Message MessageError
message_at [] = Err refusal.Short
message_at (byte ∷ rest) = of_kind (kind_at byte) rest

-- the words by which users see what is wrong with a message
abbrev pub message_words : MessageError → List ℕ
message_words refusal.Short = codes "too few bytes"
message_words refusal.Tag = codes "unknown kind"
message_words refusal.Count = codes "field out of range"
message_words refusal.Trailing = codes "bytes left over"
message_words refusal.NoMemory = codes "out of memory"

-- the fault that reading ends with where the decoder answers this error; want of memory is none
abbrev pub message_fault : MessageError → Option (Result Message MessageError)
message_fault refusal.Short = Some (Err refusal.Short)
message_fault refusal.Tag = Some (Err refusal.Tag)
message_fault refusal.Count = Some (Err refusal.Count)
message_fault refusal.Trailing = Some (Err refusal.Trailing)
message_fault refusal.NoMemory = None
