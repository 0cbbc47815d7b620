-- One change, stored by the call that it names.
use Rattle.std.proofs.Common.{◌≡◌, ℕ, Bor, Result, Ok, Err, OnOk, sym, ◌∙◌, ap, subst}
use Rattle.salus_types.specs.Volume.{Shape}
use Rattle.salus_types.specs.declared.records.Record.{Record}
use Rattle.salus_types.specs.declared.records.Base.{Base}
use Rattle.salus_types.specs.declared.records.Held.{Held}
use Rattle.disk_model.specs.Disk.{History, Through}
use Rattle.holding_model.specs.Holding.{OfPart, OfBase, ToSession, held_after}
use Rattle.holding_model.specs.Changing.{Change, changed}
use Rattle.datanode_store.specs.Live.{MeansLiveEither}
use Rattle.node_storage.specs.declared.change.Change.{Change as Named}
use Rattle.node_storage.specs.declared.change.Change.TheVariants as named
use Rattle.node_storage.specs.Storing.{change_of}

-- for every shape this is held then
abbrev pub Gives : Held → Change → Held → Type 0
Gives held change next = (shape : Shape) → changed shape held change ≡ next

pub part_gives : (name : Named) (rec : Bor Record) (held : Held) → name ≡ named.Part rec → Gives held (change_of name) (held_after held (OfPart rec.now))
unfolding changed
part_gives name rec held is shape = ap (λ (n : Named). changed shape held (change_of n)) is

pub base_gives : (name : Named) (base : Bor Base) (held : Held) → name ≡ named.Base base → Gives held (change_of name) (held_after held (OfBase base.now))
unfolding changed
base_gives name base held is shape = ap (λ (n : Named). changed shape held (change_of n)) is

pub switch_gives : (name : Named) (session : ℕ) (held : Held) → name ≡ named.Switch session → Gives held (change_of name) (held_after held (ToSession session))
unfolding changed
switch_gives name session held is shape = ap (λ (n : Named). changed shape held (change_of n)) is

pub ok_given : {T E : Type 0} (result : Result T E) (held new next : Held) (change : Change) → Gives held change next → OnOk result (new ≡ next) → OnOk result ((shape : Shape) → new ≡ changed shape held change)
ok_given (Ok value) held new next change gives is = λ shape. is ∙ sym (gives shape)
ok_given (Err error) held new next change gives is = is

pub either_given : (old new : History) (held next : Held) (change : Change) → Gives held change next → Through old new (MeansLiveEither held next) → (shape : Shape) → Through old new (MeansLiveEither held (changed shape held change))
either_given old new held next change gives passed shape = subst (λ (h : Held). Through old new (MeansLiveEither held h)) (sym (gives shape)) passed
