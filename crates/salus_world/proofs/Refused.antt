-- Why there is no node over a disk.
use Rattle.std.proofs.Common.{◌≡◌, ◌∙◌, ℕ, Bool, true, false, List, slice_get, is_some, Option, None, Some, IsTrue, refl, sym, ap}
use Rattle.std.specs.Prelude.{[], option_map}
use Rattle.std.specs.Option.{option_map_or}
use Rattle.std.specs.List.{AllByRecursion}
use Rattle.std.proofs.lemmas.Bool.{true≢false}
use Rattle.salus_types.specs.Volume.{Shape}
use Rattle.salus_types.specs.declared.names.NodeName.{NodeName}
use Rattle.disk_model.specs.declared.disk.Disk.{Ghosts}
use Rattle.disk_model.specs.declared.memory.MemDisk.{MemDisk}
use Rattle.disk_model.specs.Disk.{History, Now}
use Rattle.disk_model.specs.Failures.{is_unharmed}
use Rattle.disk_model.specs.Told.{moments_of}
use Rattle.disk_model.proofs.Passing.{now_map}
use Rattle.datanode_log.specs.Causes.{IsCaused}
use Rattle.datanode_store.specs.declared.error.StoreError.{StoreError}
use Rattle.datanode_store.specs.Causes.{is_device, IsOutside}
use Rattle.run_rules.specs.Knowing.{KnownNode}
use Rattle.replica_node.specs.declared.node.ReplicaNode.{ReplicaNode}
use Rattle.replica_node.specs.Standing.{history_of}
use Rattle.disk_node.specs.declared.node.DiskNode.{DiskNode}
use Rattle.disk_node.specs.Knowing.{seen_of}
use Rattle.disk_node.specs.Fitting.{Fits, FitsIn, moments_in}
use Rattle.salus_world.specs.declared.error.WorldError.{WorldError}
use Rattle.salus_world.specs.declared.error.WorldError.TheVariants as error
use Rattle.salus_world.specs.Places.{AllThere}
use Rattle.salus_world.specs.Refusing.{IsRefused, IsRefusedAs}
use Rattle.salus_world.proofs.Splitting.{all_at}

pub refused_as : {D : Type 0} (history : D → History) (faults : D → ℕ) (is_sure : D → Bool) (old : List D) (place : ℕ) (was is : D) (why : StoreError) (e : WorldError D) → slice_get old place ≡ Some was → IsRefusedAs place is why e
    → IsCaused (faults was) (faults is) (is_device why) → Now (history is) (λ now. IsOutside why) → (IsTrue (is_sure was) → is_device why ≡ false) → IsRefused history faults is_sure old e
refused_as history faults is_sure old place was is why (error.Device disks) there said caused outside sure = record {
  place = place;
  was = was;
  is = is;
  there = there;
  now_there = said.0;
  rose = caused.rose (ap is_device said.1);
  harmed = λ surely. absurd (true≢false (sym (ap is_device said.1) ∙ sure surely));
}
refused_as history faults is_sure old place was is why (error.Node name other disks) there said caused outside sure = record {
  place = place;
  disk = is;
  there = said.0;
  untold = now_map (λ now. IsOutside why) (λ now. ⊥) (λ now out. said.1 out) (history is) outside;
}
refused_as history faults is_sure old place was is why error.NoMemory there said caused outside sure = tt

-- over disks in memory memory alone is wanting
pub only_memory : (faults : MemDisk → ℕ) (old : List MemDisk) (e : WorldError MemDisk) → AllByRecursion (λ disk. IsTrue (is_unharmed disk.failures)) old → IsRefused moments_of faults (λ disk. is_unharmed disk.failures) old e → e ≡ error.NoMemory
only_memory faults old (error.Device disks) sure refused = absurd (refused.harmed (all_at (λ disk. IsTrue (is_unharmed disk.failures)) old refused.place refused.was sure refused.there))
only_memory faults old (error.Node name why disks) sure refused = absurd refused.untold
only_memory faults old error.NoMemory sure refused = refl

-- ---- a node that is there

some_node : {D : Type 0} {g : Ghosts D} {lane : _} (shape : Shape) (name : NodeName) (known : KnownNode) (o : Option (ReplicaNode D g lane)) → FitsIn shape name known (option_map (λ n. seen_of n) o) → is_some o ≡ true
some_node shape name known None fits = absurd fits
some_node shape name known (Some n) fits = refl

pub fits_there : {D : Type 0} {g : Ghosts D} {lane : _} (shape : Shape) (name : NodeName) (known : KnownNode) (node : DiskNode D g lane) → Fits shape name known node → is_some node.node ≡ true
fits_there shape name known node fits = some_node shape name known node.node fits.there

-- what its disk tells
told_some : {D : Type 0} {g : Ghosts D} {lane : _} (tells : (disk : D) (P : Type 0) → Now (g.history disk) (λ m. P) → P) (P : Type 0) (o : Option (ReplicaNode D g lane)) → is_some o ≡ true → Now (option_map_or (λ n. history_of n) o []) (λ m. P) → P
told_some tells P None there here = absurd (true≢false (sym there))
told_some tells P (Some n) there here = tells n.checkpoint.store.log.disk.disk P here

pub told_in : {D : Type 0} {g : Ghosts D} {lane : _} (tells : (disk : D) (P : Type 0) → Now (g.history disk) (λ m. P) → P) (P : Type 0) (node : DiskNode D g lane) → is_some node.node ≡ true → Now (moments_in node) (λ m. P) → P
told_in tells P node there here = told_some tells P node.node there here

none_mapped : {A B : Type 0} (f : A → B) (o : Option A) → option_map f o ≡ None → is_some o ≡ true → ⊥
none_mapped f None is there = true≢false (sym there)
none_mapped f (Some x) is there = cc

pub no_disk : {A B : Type 0} (f : A → B) (o : Option A) (r : Option B) → r ≡ option_map f o → r ≡ None → is_some o ≡ true → ⊥
no_disk f o r is none there = none_mapped f o (sym is ∙ none) there
