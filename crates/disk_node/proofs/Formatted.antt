-- What a formatted disk holds, where it tells what it holds.
use Rattle.std.proofs.Common.{◌≡◌, inl, [], ◌∷◌, refl, sym, subst}
use Rattle.salus_types.specs.declared.records.Base.{Base}
use Rattle.salus_types.specs.declared.records.Held.{Held}
use Rattle.disk_model.specs.Disk.{Moment, History, Now, EachImage, IsImage, clean}
use Rattle.disk_model.proofs.Passing.{now_map, each_clean}
use Rattle.datanode_store.specs.declared.error.StoreError.{StoreError}
use Rattle.datanode_store.specs.Causes.{IsOutside}
use Rattle.datanode_store.specs.Live.{MeansLive, MeansOneLive}
use Rattle.datanode_checkpoint.specs.Files.{formatted as empty_file}
use Rattle.holding_model.specs.Holding.{OfBase, ToSession, held_after, nothing_held}
use Rattle.disk_node.specs.Opened.{opened_with}
use Rattle.disk_node.proofs.Readable.{same_meaning}
use Rattle.disk_node.proofs.Uniform.{empty_means}

-- where a disk tells after a call it told before it
pub told_back : (old new : History) (P : Type 0) → (old ≡ [] → new ≡ []) → Now old (λ m. P) → Now new (λ m. P)
told_back [] new P untold here = subst (λ (h : History). Now h (λ m. P)) (sym (untold refl)) tt
told_back (m ∷ past) [] P untold here = tt
told_back (m ∷ past) (n ∷ later) P untold here = here

-- each image of a new checkpoint holds nothing
pub empty_images : (history : History) → Now history (λ now. now ≡ clean empty_file) → Now history (λ now. EachImage now (MeansOneLive (nothing_held ∷ [])))
empty_images history here =
    now_map (λ now. now ≡ clean empty_file) (λ now. EachImage now (MeansOneLive (nothing_held ∷ [])))
    (λ now is. subst (λ (m : Moment). EachImage m (MeansOneLive (nothing_held ∷ []))) (sym is) (each_clean empty_file (MeansOneLive (nothing_held ∷ [])) (inl empty_means))) history here

-- what is read of it is nothing
pub empty_read : (history : History) (held : Held) → Now history (λ now. now ≡ clean empty_file) → Now history (λ now. MeansLive held now.seen) → Now history (λ m. held ≡ nothing_held)
empty_read [] held is means = tt
empty_read (m ∷ past) held is means = same_meaning held nothing_held empty_file (subst (λ (now : Moment). MeansLive held now.seen) is means) empty_means

-- after the base is stored and the session opened
pub opened_means : (history : History) (held : Held) (base : Base) → Now history (λ m. held ≡ nothing_held) → Now history (λ now. EachImage now (MeansLive (held_after (held_after held (OfBase base)) (ToSession 1))))
    → Now history (λ now. EachImage now (MeansLive (opened_with base)))
opened_means [] held base is means = tt
opened_means (m ∷ past) held base is means = subst (λ (h : Held). EachImage m (MeansLive (held_after (held_after h (OfBase base)) (ToSession 1)))) is means

-- what is loaded from a disk of which each image means one thing
pub read_one : (history : History) (held one : Held) → Now history (λ now. IsImage now now.seen) → Now history (λ now. EachImage now (MeansLive one)) → Now history (λ now. MeansLive held now.seen) → Now history (λ m. held ≡ one)
read_one [] held one reads each means = tt
read_one (m ∷ past) held one reads each means = same_meaning held one m.seen means (each m.seen reads)

pub one_of : (history : History) (one : Held) → Now history (λ now. EachImage now (MeansLive one)) → Now history (λ now. EachImage now (MeansOneLive (one ∷ [])))
one_of history one here = now_map (λ now. EachImage now (MeansLive one)) (λ now. EachImage now (MeansOneLive (one ∷ []))) (λ now each file is. inl (each file is)) history here

-- a load refuses a new checkpoint only from outside
pub empty_refused : (history : History) (error : StoreError) → Now history (λ now. now ≡ clean empty_file) → Now history (λ now. (held : Held) → MeansLive held now.seen → IsOutside error) → Now history (λ m. IsOutside error)
empty_refused [] error is written = tt
empty_refused (m ∷ past) error is written = written nothing_held (subst (λ (now : Moment). MeansLive nothing_held now.seen) (sym is) empty_means)

-- and so a disk of which each image means something
pub one_refused : (history : History) (error : StoreError) (one : Held) → Now history (λ now. IsImage now now.seen) → Now history (λ now. EachImage now (MeansLive one)) → Now history (λ now. (held : Held) → MeansLive held now.seen → IsOutside error)
    → Now history (λ m. IsOutside error)
one_refused [] error one reads each written = tt
one_refused (m ∷ past) error one reads each written = written one (each m.seen reads)
