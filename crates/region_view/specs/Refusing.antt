-- Why a view doesn't take a record.
use Rattle.std.specs.Prelude.{◌≡◌, ℕ, false, List}
use Rattle.salus_types.specs.declared.records.Record.{Record}
use Rattle.replica_rules.specs.Views.{view_after, view_root, is_accepted}
use Rattle.region_view.specs.Kept.{KeptView}
use Rattle.region_view.specs.declared.view.ApplyError.{ApplyError}
use Rattle.region_view.specs.declared.view.ApplyError.TheVariants.{RootDiffers, NoMemory}

-- the blocks after the record haven't the root that it names; the one that it names, and the one that they have
pub record HasOtherRoot (kept : KeptView) (rec : Record) (held got : List ℕ) : Type 0 where
  pub refused : is_accepted kept.shape kept.view rec ≡ false
  pub named : held ≡ rec.header.root
  pub reached : got ≡ view_root kept.shape (view_after kept.shape kept.view rec)

-- the root differs, or there was no memory
abbrev pub IsRefusalOf : KeptView → Record → ApplyError → Type 0
IsRefusalOf kept rec (RootDiffers held got) = HasOtherRoot kept rec held got
IsRefusalOf kept rec NoMemory = Unit {0}
