-- When a call may fail, and what a failure leaves behind: the count of faults rises.
use Rattle.std.specs.Prelude.{◌≡◌, ◌==◌, ℕ, ◌-◌, Bool, true, false, List, [], map, filter, nat_lt, option_map, Option, Result, IfSome, Some, Ok, Err, MatchResult}
use Rattle.std.specs.List.{list_any}
use Rattle.salus_types.specs.Outcome.{Rose}
use Rattle.salus_io.specs.declared.source.Failed.{Failed}
use Rattle.salus_io.specs.declared.sink.SinkFault.{SinkFault}
use Rattle.salus_io.specs.declared.sink.SinkFault.TheVariants as sink_fault
use Rattle.salus_io.specs.declared.whole.ReadError.{ReadError}
use Rattle.salus_io.specs.declared.whole.ReadError.TheVariants as read_error

-- a read fails only where the count rises
abbrev pub HasSourceCause : {T : Type 0} → ℕ → ℕ → Result T Failed → Type 0
HasSourceCause before now result = MatchResult result (λ _. now ≡ before) (λ _. Rose before now)

-- a failure of a sink raises the count, and want of memory leaves it
abbrev pub SinkCause : ℕ → ℕ → SinkFault → Type 0
SinkCause before now sink_fault.Failed = Rose before now
SinkCause before now sink_fault.NoMemory = now ≡ before

-- a write fails only where the count rises
abbrev pub HasSinkCause : {T : Type 0} → ℕ → ℕ → Result T SinkFault → Type 0
HasSinkCause before now result = MatchResult result (λ _. now ≡ before) (SinkCause before now)

-- a failure of the source raises the count, and nothing else does
abbrev pub ReadCause : ℕ → ℕ → ReadError → Type 0
ReadCause before now read_error.Failed = Rose before now
ReadCause before now read_error.TooLong = now ≡ before
ReadCause before now read_error.NoMemory = now ≡ before

-- a source isn't read for a failure only where the count rises
abbrev pub HasReadCause : {T : Type 0} → ℕ → ℕ → Result T ReadError → Type 0
HasReadCause before now result = MatchResult result (λ _. now ≡ before) (ReadCause before now)

-- the sink failed
abbrev pub is_sink_failure : {T : Type 0} → Result T SinkFault → Bool
is_sink_failure (Ok x) = false
is_sink_failure (Err sink_fault.Failed) = true
is_sink_failure (Err sink_fault.NoMemory) = false

-- the source failed
abbrev pub is_read_failure : {T : Type 0} → Result T ReadError → Bool
is_read_failure (Ok x) = false
is_read_failure (Err read_error.Failed) = true
is_read_failure (Err read_error.TooLong) = false
is_read_failure (Err read_error.NoMemory) = false

-- the next call is among those that are to fail
abbrev pub fails_next : List ℕ → Bool
fails_next calls = list_any (λ call. call == 1) calls

-- the calls that are to fail, as they are numbered after a call
abbrev pub after_call : List ℕ → List ℕ
after_call calls = filter (λ call. nat_lt 0 call) (map (λ call. call - 1) calls)

-- where it is told which calls are to fail, the one that was made failed exactly if it was one of them
abbrev pub FailsAsListed : Option (List ℕ) → Option (List ℕ) → Bool → Type 0
FailsAsListed old new failed = IfSome old (λ calls. failed ≡ fails_next calls) × (new ≡ option_map after_call old)

-- where no call is to fail none did, and none is to fail
abbrev pub StaysSure : Option (List ℕ) → Option (List ℕ) → Bool → Type 0
StaysSure old new failed = old ≡ Some [] → (new ≡ Some []) × (failed ≡ false)
