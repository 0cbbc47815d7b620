-- The first byte of a message says its kind.
use Rattle.std.specs.Prelude.{ℕ, zero, suc, List, [], ◌∷◌, Option, None, slice_get}
use Rattle.salus_message.specs.declared.kinds.Kind.{Kind}
use Rattle.salus_message.specs.declared.kinds.Kind.TheVariants as kind
use Rattle.salus_message.specs.declared.wire.Message.{Message}
use Rattle.salus_message.specs.declared.wire.Message.TheVariants as message

abbrev pub byte_of : Kind → ℕ
byte_of kind.Part = 1
byte_of kind.Prepared = 2
byte_of kind.Committed = 3
byte_of kind.Ask = 4
byte_of kind.Answer = 5
byte_of kind.Gather = 6
byte_of kind.Gathered = 7
byte_of kind.Stage = 8
byte_of kind.Staged = 9
byte_of kind.Switch = 10
byte_of kind.Switched = 11
byte_of kind.Dump = 12
byte_of kind.Dumped = 13

-- all kinds, by rising bytes
abbrev pub all_kinds : List Kind
all_kinds =
    kind.Part ∷ kind.Prepared ∷ kind.Committed ∷ kind.Ask ∷ kind.Answer ∷ kind.Gather ∷ kind.Gathered
    ∷ kind.Stage ∷ kind.Staged ∷ kind.Switch ∷ kind.Switched ∷ kind.Dump ∷ kind.Dumped ∷ []

-- the kind whose byte it is
abbrev pub kind_at : ℕ → Option Kind
kind_at zero = None
kind_at (suc n) = slice_get all_kinds n

abbrev pub kind_of : Message → Kind
kind_of (message.Part m) = kind.Part
kind_of (message.Prepared m) = kind.Prepared
kind_of (message.Committed m) = kind.Committed
kind_of (message.Ask m) = kind.Ask
kind_of (message.Answer m) = kind.Answer
kind_of (message.Gather m) = kind.Gather
kind_of (message.Gathered m) = kind.Gathered
kind_of (message.Stage m) = kind.Stage
kind_of (message.Staged m) = kind.Staged
kind_of (message.Switch m) = kind.Switch
kind_of (message.Switched m) = kind.Switched
kind_of (message.Dump m) = kind.Dump
kind_of (message.Dumped m) = kind.Dumped
