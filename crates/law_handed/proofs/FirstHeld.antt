-- What a formatted node of a volume holds at first: the formatted base alone.
use Rattle.std.proofs.Common.{◌≡◌, ℕ, suc, ◌+◌, ◌*◌, ◌-◌, ◌<◌, ◌≤◌, List, length, drop, replicate, refl, arith}
use Rattle.std.proofs.Math.Nat.{mul-le-mul_right}
use Rattle.std.proofs.lemmas.List.{length-take-le, length-drop, length-replicate}
use Rattle.salus_types.specs.Volume.{Shape, regions, region_blocks, blocks}
use Rattle.salus_types.specs.declared.names.NodeName.{NodeName}
use Rattle.schedule_text.specs.declared.schedule.Volume.{Volume}
use Rattle.volume_model.specs.Contents.{zero_contents, blocks_in, fold_batches}
use Rattle.volume_model.specs.Parts.{base_of}
use Rattle.run_rules.specs.Running.{new_session, formatted}
use Rattle.law_handed.specs.Licensing.{BeginsFormatted}

zero_count : (shape : Shape) (g : ℕ) → g < regions shape → length (blocks_in shape (zero_contents shape) g) ≡ region_blocks shape
zero_count shape g inside =
    let all : List (List ℕ) = zero_contents shape in
    let long : length all ≡ blocks shape = length-replicate (blocks shape) (replicate shape.block 0) in
    let room : suc g * region_blocks shape ≤ regions shape * region_blocks shape = mul-le-mul_right (region_blocks shape) inside in
    let one : suc g * region_blocks shape ≡ g * region_blocks shape + region_blocks shape = omega arith in
    let rest : length (drop (g * region_blocks shape) all) ≡ length all - g * region_blocks shape = length-drop (g * region_blocks shape) all in
    length-take-le (region_blocks shape) (drop (g * region_blocks shape) all) (omega arith)

pub formatted_begins : (volume : Volume) (name : NodeName) → name.region < regions volume.geometry
    → BeginsFormatted volume.geometry (base_of volume.geometry volume.key (new_session volume.geometry) name.region) (formatted volume name)
unfolding base_of fold_batches
formatted_begins volume name inside = record { bases = (record { is = refl; count = zero_count volume.geometry name.region inside; root = refl }, tt); parts = refl }
