-- What the changes of a plan name, and which can be stored.
use Rattle.std.specs.Prelude.{◌≡◌, ℕ, ◌<◌, List, [], ◌∷◌, length, map, take}
use Rattle.salus_types.specs.Volume.{Shape}
use Rattle.salus_types.specs.declared.records.Held.{Held}
use Rattle.client_tag.specs.Ranges.{IsRecord, IsBase}
use Rattle.holding_model.specs.Changing.{Change, AddsPart, AddsBase, SwitchesTo, FoldsTo, changed, after_changes}
use Rattle.datanode_checkpoint.specs.Folds.{CanBeFolded}
use Rattle.node_storage.specs.declared.change.Change.{Change as Named}
use Rattle.node_storage.specs.declared.change.Change.TheVariants as named

-- the change that is named
abbrev pub change_of : Named → Change
change_of (named.Part rec) = AddsPart rec.now
change_of (named.Base base) = AddsBase base.now
change_of (named.Switch session) = SwitchesTo session
change_of (named.Fold seq) = FoldsTo seq

abbrev pub changes_of : List Named → List Change
changes_of names = map (λ name. change_of name) names

-- an entry can carry what is added, and what is folded fits the open session's one base
abbrev pub IsStorable : Held → Change → Type 0
IsStorable held (AddsPart rec) = IsRecord rec
IsStorable held (AddsBase base) = IsBase base × (0 < length base.blocks)
IsStorable held (SwitchesTo session) = Unit {0}
IsStorable held (FoldsTo seq) = CanBeFolded held

-- each can be stored over what is held then
abbrev pub AreStorable : Shape → Held → List Change → Type 0
AreStorable shape held [] = Unit {0}
AreStorable shape held (change ∷ changes) = IsStorable held change × AreStorable shape (changed shape held change) changes

-- they can be stored one after the other, for some shape; records that can be stored have no run, so it is the same for each
pub record CanBeStored (held : Held) (changes : List Change) : Type 0 where
  pub shape : Shape
  pub each : AreStorable shape held changes

-- after a front part of the changes, without the last
pub record IsAfterSome (shape : Shape) (old : Held) (changes : List Change) (new : Held) : Type 0 where
  pub count : ℕ
  pub short : count < length changes
  pub is : new ≡ after_changes shape old (take count changes)
