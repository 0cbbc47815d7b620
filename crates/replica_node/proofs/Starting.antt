-- What each image means before anything is stored.
use Rattle.std.proofs.Common.{◌≡◌, inl, List, [], ◌∷◌, ℕ, subst}
use Rattle.salus_types.specs.Volume.{Shape}
use Rattle.salus_types.specs.declared.records.Held.{Held}
use Rattle.disk_model.specs.Disk.{History, Now, EachImage, Through}
use Rattle.disk_model.proofs.Passing.{through_same, now_map}
use Rattle.holding_model.specs.Changing.{Change, contents_through}
use Rattle.datanode_store.specs.Live.{MeansLive, MeansOneLive}

first_among : (shape : Shape) (held : Held) (changes : List Change) (file : List ℕ) → MeansLive held file → MeansOneLive (contents_through shape held changes) file
unfolding contents_through
first_among shape held [] file means = inl means
first_among shape held (change ∷ changes) file means = inl means

-- what is held is the first of the contents
pub starts : (shape : Shape) (held : Held) (changes : List Change) (h : History) → Now h (λ now. EachImage now (MeansLive held)) → Through h h (MeansOneLive (contents_through shape held changes))
starts shape held changes h means =
    let P : List ℕ → Type 0 = MeansOneLive (contents_through shape held changes) in
    through_same h P (now_map (λ m. EachImage m (MeansLive held)) (λ m. EachImage m P) (λ m each file is. first_among shape held changes file (each file is)) h means)

pub starts_at : (shape : Shape) (held here : Held) (changes : List Change) (h : History) → here ≡ held → Now h (λ now. EachImage now (MeansLive here)) → Through h h (MeansOneLive (contents_through shape held changes))
starts_at shape held here changes h same means = starts shape held changes h (subst (λ (one : Held). Now h (λ now. EachImage now (MeansLive one))) same means)
