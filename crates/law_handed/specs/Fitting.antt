-- What is held fits the volume, by what is given of the records that are handed over.
use Rattle.std.specs.Prelude.{◌≡◌, ℕ, true, List}
use Rattle.std.specs.List.{AllByRecursion}
use Rattle.salus_types.specs.Volume.{Shape}
use Rattle.salus_types.specs.declared.names.Sender.{Sender}
use Rattle.salus_types.specs.declared.names.Sender.TheVariants as sender
use Rattle.salus_types.specs.declared.records.Record.{Record}
use Rattle.salus_types.specs.declared.records.Base.{Base}
use Rattle.salus_types.specs.declared.records.Held.{Held}
use Rattle.client_tag.specs.Ranges.{IsRecord, IsTyped}
use Rattle.salus_message.specs.declared.wire.Message.{Message}
use Rattle.salus_message.specs.declared.wire.Message.TheVariants as message
use Rattle.salus_model.specs.Licences.{Letter}
use Rattle.holding_model.specs.Fitting.{record_fits, blocks_after, has_shape}
use Rattle.replica_rules.specs.Rules.{is_carried}

-- counts and lengths are in their ranges, and numbers in their widths
pub record IsSpelled (rec : Record) : Type 0 where
  pub counts : IsRecord rec
  pub widths : IsTyped rec

-- A part of which that is given, and whose writes are of the region's places and of the volume's length.
pub record PartFits (shape : Shape) (Given : Record → Type 0) (rec : Record) : Type 0 where
  pub given : Given rec
  pub inside : record_fits shape rec ≡ true

-- a base of whose record and blocks that is given
pub record BaseFits (Given : Record → Type 0) (Whole : List (List ℕ) → Type 0) (base : Base) : Type 0 where
  pub given : Given base.rec
  pub whole : Whole base.blocks

-- so it is of each part and each base that is held
pub record HeldFits (shape : Shape) (OfPart OfBase : Record → Type 0) (Whole : List (List ℕ) → Type 0) (held : Held) : Type 0 where
  pub bases : AllByRecursion (BaseFits OfBase Whole) held.bases
  pub parts : AllByRecursion (PartFits shape OfPart) held.parts

-- What is given is enough: what is given of a part is given of a base that it was folded into, blocks stay whole by a part,
-- and blocks of the region's shape are whole.
pub record IsClosed (shape : Shape) (OfPart OfBase : Record → Type 0) (Whole : List (List ℕ) → Type 0) : Type 0 where
  pub folds : (rec : Record) → OfPart rec → OfBase rec
  pub after : (blocks : List (List ℕ)) (rec : Record) → Whole blocks → PartFits shape OfPart rec → Whole (blocks_after shape blocks rec)
  pub shaped : (blocks : List (List ℕ)) → has_shape shape blocks ≡ true → Whole blocks

-- that is given of the record that a message of the client brings
abbrev pub MessageGiven : (OfPart OfBase : Record → Type 0) → Message → Type 0
MessageGiven OfPart OfBase (message.Part m) = OfPart m.rec
MessageGiven OfPart OfBase (message.Stage m) = OfBase m.base.rec
MessageGiven OfPart OfBase other = Unit {0}

abbrev pub FromGiven : (OfPart OfBase : Record → Type 0) → Sender → Message → Type 0
FromGiven OfPart OfBase sender.Client m = MessageGiven OfPart OfBase m
FromGiven OfPart OfBase (sender.Node name) m = Unit {0}

abbrev pub LetterGiven : (OfPart OfBase : Record → Type 0) → Letter → Type 0
LetterGiven OfPart OfBase letter = FromGiven OfPart OfBase letter.from letter.message

-- one block for each place, each of the volume's length
abbrev pub IsShaped : Shape → List (List ℕ) → Type 0
IsShaped shape blocks = has_shape shape blocks ≡ true

-- what is shown as held fits, with records that have a spelling, and one message carries it
pub record IsShownWhole (shape : Shape) (held : Held) : Type 0 where
  pub fits : HeldFits shape IsSpelled IsSpelled (IsShaped shape) held
  pub carried : is_carried held ≡ true

abbrev pub ShowsFitting : Shape → Message → Type 0
ShowsFitting shape (message.Gathered m) = IsShownWhole shape m.held
ShowsFitting shape other = Unit {0}
