-- The strings whose digests a run shows, and the premise that no two different ones share a digest.
use Rattle.std.specs.Prelude.{ℕ, if◌then◌else◌, List, [], ◌∷◌, ◌++◌, flat_map}
use Rattle.salus_types.specs.Volume.{Shape}
use Rattle.salus_message.specs.declared.wire.Message.{Message}
use Rattle.salus_message.specs.declared.wire.Message.TheVariants as message
use Rattle.merkle_region.specs.Tree.{tree_strings, path_strings, NoTwoCollide}
use Rattle.schedule_text.specs.declared.schedule.Volume.{Volume}
use Rattle.schedule_text.specs.declared.schedule.Event.{Event}
use Rattle.salus_model.specs.declared.trace.TraceStep.{TraceStep}
use Rattle.volume_model.specs.Contents.{Batch, place_of, all_regions, apply, contents_strings}
use Rattle.salus_model.specs.Judge.{Judge, all_known}
use Rattle.salus_model.specs.Following.{Posted}
use Rattle.salus_model.specs.Hearing.{News, Says, Past, judge_of}
use Rattle.holding_model.specs.Fitting.{has_shape}
use Rattle.salus_model.specs.Due.{history_from}

-- ---- the arrays

-- those of the contents at first and after each batch
unfoldable pub strings_along : Shape → List (List ℕ) → List Batch → List (List ℕ)
strings_along shape contents [] = contents_strings shape contents
strings_along shape contents (batch ∷ batches) = contents_strings shape contents ++ strings_along shape (apply contents batch) batches

-- those of every front part of every list that is known
unfoldable pub known_strings : Shape → Judge → List (List ℕ)
known_strings shape judge = flat_map (λ known. strings_along shape known.origin known.list) (all_known judge)

-- ---- what nodes showed

-- those of a region's blocks, if they have its shape
abbrev pub blocks_strings : Shape → List (List ℕ) → List (List ℕ)
blocks_strings shape blocks = if has_shape shape blocks then tree_strings shape.height blocks else []

-- those of the block and path of an answer, and of the blocks of a base or a region
abbrev pub message_strings : Shape → Message → List (List ℕ)
message_strings shape (message.Answer m) = path_strings (place_of shape m.block) m.bytes m.path
message_strings shape (message.Gathered m) = flat_map (λ base. blocks_strings shape base.blocks) m.held.bases
message_strings shape (message.Dumped m) = blocks_strings shape m.blocks
message_strings shape other = []

abbrev pub news_strings : Shape → News → List (List ℕ)
news_strings shape (Says name m) = message_strings shape m
news_strings shape other = []

-- ---- all of them

-- at one step: those of the lists that are known before it, and of what it shows
abbrev pub strings_at : Shape → Past → List (List ℕ)
strings_at shape p = known_strings shape p.before ++ news_strings shape p.news

-- at each step of the history
unfoldable pub strings_of : Shape → List Past → List (List ℕ)
strings_of shape [] = []
strings_of shape (p ∷ history) = strings_at shape p ++ strings_of shape history

-- and of the lists that are known after it
abbrev pub seen_strings : Shape → List Event → List Past → List (List ℕ)
seen_strings shape events history = known_strings shape (judge_of shape events history) ++ strings_of shape history

-- no two different strings seen share a SHA-256 digest
abbrev pub NoCollision : Volume → List Event → List Posted → List TraceStep → Type 0
NoCollision volume events posts trace = NoTwoCollide (seen_strings volume.geometry events (history_from volume events posts [] trace))
