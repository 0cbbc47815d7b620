-- The strings of the client's contents, and of what a step shows, are among those seen in the run.
use Rattle.std.proofs.Common.{List, [], ◌∷◌}
use Rattle.std.specs.Prelude.{ℕ, flat_map}
use Rattle.salus_types.specs.Volume.{Shape}
use Rattle.merkle_region.specs.Tree.{IsAmong, NoTwoCollide}
use Rattle.merkle_region.proofs.Membership.{among_left, among_right, none-within}
use Rattle.schedule_text.specs.declared.schedule.Volume.{Volume}
use Rattle.schedule_text.specs.declared.schedule.Event.{Event}
use Rattle.salus_model.specs.declared.trace.TraceStep.{TraceStep}
use Rattle.volume_model.specs.Contents.{Batch, apply, fold_batches, contents_strings}
use Rattle.salus_model.specs.Judge.{Judge, array}
use Rattle.salus_model.specs.Following.{Posted}
use Rattle.salus_model.specs.Hearing.{Past}
use Rattle.salus_model.specs.Seen.{strings_along, known_strings, strings_at, strings_of}
use Rattle.salus_model.specs.Due.{past_of, history_from}

-- those of the contents after all batches
last_strings : (shape : Shape) (batches : List Batch) (contents : List (List ℕ)) (x : List ℕ) → IsAmong x (contents_strings shape (fold_batches contents batches)) → IsAmong x (strings_along shape contents batches)
unfolding strings_along fold_batches
last_strings shape [] contents x among = among
last_strings shape (batch ∷ batches) contents x among =
    among_right x (contents_strings shape contents) (strings_along shape (apply contents batch) batches) (last_strings shape batches (apply contents batch) x among)

-- those of the array that the lines say
pub array_strings : (shape : Shape) (judge : Judge) (x : List ℕ) → IsAmong x (contents_strings shape (array judge)) → IsAmong x (known_strings shape judge)
unfolding known_strings
array_strings shape judge x among =
    among_left x (strings_along shape judge.now.origin judge.now.list) (flat_map (λ known. strings_along shape known.origin known.list) judge.others)
    (last_strings shape judge.now.list judge.now.origin x among)

module _ (volume : Volume) (events : List Event) (posts : List Posted) where
  -- what was seen stays seen
  seen_on : (steps : List TraceStep) (history : List Past) (x : List ℕ) → IsAmong x (strings_of volume.geometry history) → IsAmong x (strings_of volume.geometry (history_from volume events posts history steps))
  unfolding strings_of history_from
  seen_on [] history x among = among
  seen_on (step ∷ steps) history x among =
      let p : Past = past_of volume events posts history step in
      seen_on steps (p ∷ history) x (among_right x (strings_at volume.geometry p) (strings_of volume.geometry history) among)

  -- so where none of those seen in the run collide, none of a step's do
  pub step_strings : (step : TraceStep) (steps : List TraceStep) (history : List Past) → NoTwoCollide (strings_of volume.geometry (history_from volume events posts history (step ∷ steps)))
      → NoTwoCollide (strings_at volume.geometry (past_of volume events posts history step))
  unfolding strings_of history_from
  step_strings step steps history none =
      let p : Past = past_of volume events posts history step in
      none-within (strings_at volume.geometry p) (strings_of volume.geometry (history_from volume events posts (p ∷ history) steps))
      (λ x among. seen_on steps (p ∷ history) x (among_left x (strings_at volume.geometry p) (strings_of volume.geometry history) among)) none
