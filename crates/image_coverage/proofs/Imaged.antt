-- What an image means is known; so what holds of all that is known holds of what images mean.
use Rattle.std.proofs.Common.{⊎_elim, ℕ, List, [], ◌∷◌, inl, inr, sym, ◌∙◌}
use Rattle.std.proofs.lemmas.Option.{same_Some}
use Rattle.salus_types.specs.declared.names.NodeName.{NodeName}
use Rattle.salus_types.specs.declared.records.Held.{Held}
use Rattle.disk_model.specs.Disk.{History, EachImage, Now}
use Rattle.datanode_store.specs.Live.{MeansLive, MeansOneLive}
use Rattle.merkle_region.specs.Tree.{IsAmong}
use Rattle.schedule_text.specs.Limits.{IsOfVolume}
use Rattle.schedule_text.specs.declared.schedule.Event.{Event}
use Rattle.schedule_text.specs.declared.schedule.Volume.{Volume}
use Rattle.salus_model.specs.Following.{Posted}
use Rattle.salus_model.specs.Hearing.{Past}
use Rattle.run_rules.specs.Knowing.{KnownNode}
use Rattle.law_covered.specs.Coverage.{AreCovered, MayMean}
use Rattle.image_coverage.specs.OnDisk.{IsOnDisk, OnDisks, DisksMean}

-- a file means one thing, so one of those that it may mean
meant : (held : Held) (contents : List Held) (file : List ℕ) → MeansLive held file → MeansOneLive contents file → IsAmong held contents
meant held [] file means one = absurd one
meant held (other ∷ contents) file means one =
    ⊎_elim (λ (here : MeansLive other file). inl (same_Some held other (sym means.live.holds ∙ here.live.holds))) (λ (more : MeansOneLive contents file). inr (meant held contents file means more)) one

known_image : (moments : History) (contents : List Held) (held : Held) → Now moments (λ now. EachImage now (MeansOneLive contents)) → IsOnDisk moments held → IsAmong held contents
known_image [] contents held each on = absurd on
known_image (moment ∷ past) contents held each on = meant held contents on.0 on.2 (each on.0 on.1)

-- what is covered in all of some contents is covered in fewer
module _ (volume : Volume) (events : List Event) (posts : List Posted) (history : List Past) (May Fewer : NodeName → Held → Type 0)
    (less : (name : NodeName) → IsOfVolume volume.geometry name → (held : Held) → Fewer name held → May name held) where
  pub covered_less : AreCovered volume events posts history May → AreCovered volume events posts history Fewer
  covered_less all = record {
    present = λ name inside counting held may. all.present name inside counting held (less name inside held may);
    acknowledged = λ s low name inside counting held may. all.acknowledged s low name inside counting held (less name inside held may);
    claimed = λ k other claim valid low said either name inside counting held may. all.claimed k other claim valid low said either name inside counting held (less name inside held may);
    placed = λ name inside counting held may base among open_one other valid counts_too has may_too.
        all.placed name inside counting held (less name inside held may) base among open_one other valid counts_too has (less other valid has may_too);
    switched = λ k switch low said name inside counting held may. all.switched k switch low said name inside counting held (less name inside held may);
  }

pub covered_on_disks : (volume : Volume) (events : List Event) (posts : List Posted) (history : List Past) (known : NodeName → KnownNode) (disks : NodeName → History)
    → DisksMean volume.geometry known disks → AreCovered volume events posts history (MayMean volume events posts known) → AreCovered volume events posts history (OnDisks disks)
covered_on_disks volume events posts history known disks mean all =
    covered_less volume events posts history (MayMean volume events posts known) (OnDisks disks) (λ name inside held on. known_image (disks name) (known name).contents held (mean name inside) on) all
