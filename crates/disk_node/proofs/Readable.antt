-- What a file that can be loaded means, and what a load makes of it.
use Rattle.std.proofs.Common.{◌≡◌, ⊎_elim, inl, inr, ℕ, true, false, List, [], ◌∷◌, Option, None, Some, is_some, refl, sym, ◌∙◌, ap, subst}
use Rattle.std.proofs.lemmas.Bool.{true≢false}
use Rattle.std.proofs.lemmas.Option.{same_Some}
use Rattle.salus_types.specs.declared.records.Held.{Held}
use Rattle.disk_model.specs.Disk.{Moment, History, Now, EachImage}
use Rattle.merkle_region.specs.Tree.{IsAmong}
use Rattle.disk_lane.specs.Heads.{live_bytes}
use Rattle.datanode_log.specs.Entries.{entries_of}
use Rattle.holding_model.specs.Holding.{held_of}
use Rattle.datanode_store.specs.declared.error.StoreError.{StoreError}
use Rattle.datanode_store.specs.declared.error.StoreError.TheVariants.{Foreign, Damaged, BadRecord, Device, NoMemory}
use Rattle.datanode_store.specs.Causes.{is_device, IsOutside}
use Rattle.datanode_store.specs.Live.{MeansLive, MeansOneLive}
use Rattle.disk_node.specs.Loadable.{CanBeLoaded, AllLoadable}

-- a file that means something can be loaded
pub live_loadable : (held : Held) (file : List ℕ) → MeansLive held file → CanBeLoaded file
live_loadable held file means = record {
  long = means.long;
  marked = means.marked;
  log = means.live.log;
  holds = ap (λ (o : Option Held). is_some o) means.live.holds;
}

pub one_loadable : (contents : List Held) (file : List ℕ) → MeansOneLive contents file → CanBeLoaded file
one_loadable [] file means = absurd means
one_loadable (held ∷ contents) file means = ⊎_elim (λ (here : MeansLive held file). live_loadable held file here) (λ (other : MeansOneLive contents file). one_loadable contents file other) means

-- what is so now, where that is told
pub now_told : (history : History) (P : Moment → Type 0) → Now history P → (now : Moment) (past : List Moment) → history ≡ now ∷ past → P now
now_told history P here now past is = subst (λ (h : History). Now h P) is here

-- where each image means one of some contents, each can be loaded
pub meant_loadable : (contents : List Held) (history : History) → Now history (λ now. EachImage now (MeansOneLive contents)) → AllLoadable history
meant_loadable contents history here = λ now past is file there. one_loadable contents file (now_told history (λ m. EachImage m (MeansOneLive contents)) here now past is file there)

some_of : {A : Type 0} (o : Option A) → is_some o ≡ true → (x : A) × (o ≡ Some x)
some_of None none = absurd (true≢false (sym none))
some_of (Some x) some = (x, refl)

-- and a file that can be loaded means something
pub loadable_means : (file : List ℕ) → CanBeLoaded file → (held : Held) × MeansLive held file
loadable_means file can =
    let found = some_of (held_of (entries_of (live_bytes file))) can.holds in
    (found.0, record { long = can.long; marked = can.marked; live = record { log = can.log; holds = found.1 } })

-- a file means one thing
pub same_meaning : (a b : Held) (file : List ℕ) → MeansLive a file → MeansLive b file → a ≡ b
same_meaning a b file first second = same_Some a b (sym first.live.holds ∙ second.live.holds)

-- which is one of those that it may mean
pub among_of : (held : Held) (contents : List Held) (file : List ℕ) → MeansLive held file → MeansOneLive contents file → IsAmong held contents
among_of held [] file means one = absurd one
among_of held (other ∷ contents) file means one =
    ⊎_elim (λ (here : MeansLive other file). inl (same_meaning held other file means here)) (λ (more : MeansOneLive contents file). inr (among_of held contents file means more)) one

-- where the device doesn't fail, memory alone is wanting
pub memory_alone : (error : StoreError) → IsOutside error → is_device error ≡ false → error ≡ NoMemory
memory_alone Foreign outside calm = absurd outside
memory_alone (Damaged at) outside calm = absurd outside
memory_alone (BadRecord at) outside calm = absurd outside
memory_alone Device outside calm = absurd (true≢false calm)
memory_alone NoMemory outside calm = refl
