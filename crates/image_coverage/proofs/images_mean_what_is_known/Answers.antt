use Rattle.image_coverage.proofs.Imaged.{covered_on_disks}
use Rattle.image_coverage.proofs.images_mean_what_is_known.Goals as goal

pub returns : goal.returns
returns c = covered_on_disks
