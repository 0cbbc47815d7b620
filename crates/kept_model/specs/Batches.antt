-- The batches and sessions that the lines make known, as the abstract model has them: each batch is the list of the regions
-- that it touches, ascending, so its leader is the first.
use Rattle.std.specs.Prelude.{ℕ, List, [], map, Option, None, Some}
use Rattle.salus_types.specs.Volume.{Shape}
use Rattle.volume_model.specs.Contents.{Batch}
use Rattle.volume_model.specs.Parts.{Session, touched_by}
use Rattle.salus_model.specs.Judge.{Judge, known_at}

abbrev pub touching : Shape → List Batch → List (List ℕ)
touching shape batches = map (λ batch. touched_by shape batch) batches

-- the batches of a session, and none of one that isn't known
abbrev pub list_of : Shape → Option Session → List (List ℕ)
list_of shape None = []
list_of shape (Some known) = touching shape known.list

-- with how many batches it starts
abbrev pub start_of : Option Session → ℕ
start_of None = 0
start_of (Some known) = known.base

-- of the session of that number
abbrev pub list_at : Shape → Judge → ℕ → List (List ℕ)
list_at shape judge e = list_of shape (known_at judge e)

abbrev pub start_at : Judge → ℕ → ℕ
start_at judge e = start_of (known_at judge e)
