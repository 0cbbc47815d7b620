-- Empty disks in memory.
use Rattle.std.proofs.Common.{◌≡◌, ◌∙◌, ℕ, ◌+◌, List, [], ◌∷◌, ◌++◌, length, IsTrue, refl, sym, ap, subst}
use Rattle.std.specs.List.{AllByRecursion}
use Rattle.std.proofs.lemmas.List.{length_push}
use Rattle.disk_model.specs.declared.memory.MemDisk.{MemDisk}
use Rattle.disk_model.specs.Disk.{History, Now, clean}
use Rattle.disk_model.specs.Failures.{is_unharmed}
use Rattle.disk_model.specs.Told.{now_of, moments_of}
use Rattle.list_lemmas.proofs.Each.{all_both}
use Rattle.salus_world.specs.Memory.{AreEmpty}

pub made_empty : (disk : MemDisk) (content : List ℕ) → moments_of disk ≡ clean content ∷ [] → content ≡ [] → (now_of disk).seen ≡ []
made_empty disk content is none = subst (λ (h : History). Now h (λ m. m.seen ≡ [])) (sym is) none

pub one_more : (count : ℕ) (disks grown : List MemDisk) (disk : MemDisk) → grown ≡ disks ++ disk ∷ [] → AreEmpty count disks → (now_of disk).seen ≡ [] → IsTrue (is_unharmed disk.failures) → AreEmpty (count + 1) grown
one_more count disks grown disk is are holds sure = subst (λ (l : List MemDisk). AreEmpty (count + 1) l) (sym is) (record {
  long = length_push disks disk ∙ ap (λ (k : ℕ). k + 1) are.long;
  hold = all_both (λ d. (now_of d).seen ≡ []) disks (disk ∷ []) are.hold (holds, tt);
  sure = all_both (λ d. IsTrue (is_unharmed d.failures)) disks (disk ∷ []) are.sure (sure, tt);
})

pub none_made : (disks : List MemDisk) → disks ≡ [] → AreEmpty 0 disks
none_made disks is = subst (λ (l : List MemDisk). AreEmpty 0 l) (sym is) (record { long = refl; hold = tt; sure = tt })
