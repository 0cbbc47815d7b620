-- What a file of two lanes means.
use Rattle.std.specs.Prelude.{◌≡◌, ◌⊎◌, ℕ, ◌≤◌, List, [], ◌∷◌, length, take}
use Rattle.salus_types.specs.declared.records.Held.{Held}
use Rattle.disk_lane.specs.Heads.{file_mark, live_bytes}
use Rattle.datanode_store.specs.Meaning.{Means}

-- no load refuses the file, and the log of its live lane holds this
pub record MeansLive (held : Held) (file : List ℕ) : Type 0 where
  pub long : 16 ≤ length file
  pub marked : take 8 file ≡ file_mark
  pub live : Means held (live_bytes file)

-- what was held, or what is
abbrev pub MeansLiveEither : Held → Held → List ℕ → Type 0
MeansLiveEither old new file = MeansLive old file ⊎ MeansLive new file

-- one of these
abbrev pub MeansOneLive : List Held → List ℕ → Type 0
MeansOneLive [] file = ⊥
MeansOneLive (held ∷ contents) file = MeansLive held file ⊎ MeansOneLive contents file
