-- A node that is there, and one that was loaded anew.
use Rattle.std.proofs.Common.{◌≡◌, ◌∙◌, ℕ, List, Option, Some, subst}
use Rattle.salus_types.specs.Volume.{Shape}
use Rattle.salus_types.specs.declared.names.NodeName.{NodeName}
use Rattle.disk_model.specs.Disk.{Moment, EachImage, IsImage}
use Rattle.datanode_store.specs.Live.{MeansLive, MeansOneLive}
use Rattle.run_rules.specs.Knowing.{KnownNode, fresh}
use Rattle.disk_node.specs.Knowing.{Seen, FitsSeen, IsLoaded}
use Rattle.disk_node.specs.Fitting.{FitsIn}
use Rattle.disk_node.proofs.Readable.{among_of}

-- after a crash it is loaded with what the image means, which is one of the contents that its disk may have meant
pub loaded_again : (shape : Shape) (name : NodeName) (known : KnownNode) (old new : Seen) (now : Moment) (image : List ℕ) (s : Shape) (n : NodeName) → FitsSeen shape name known old → EachImage now (MeansOneLive known.contents) → IsImage now image
    → MeansLive new.held image → s ≡ old.shape → n ≡ old.name → FitsSeen s n (fresh s n.region new.held) new → IsLoaded shape name known new
loaded_again shape name known old new now image s n fits each is means same_shape same_name anew = record {
  among = among_of new.held known.contents image means (each image is);
  fits = subst (λ (one : Shape). FitsSeen one name (fresh one name.region new.held) new) (same_shape ∙ fits.shape_is) (subst (λ (one : NodeName). FitsSeen s one (fresh s one.region new.held) new) (same_name ∙ fits.name_is) anew);
}

pub there_at : (shape : Shape) (name : NodeName) (known : KnownNode) (o : Option Seen) (node : Seen) → o ≡ Some node → FitsIn shape name known o → FitsSeen shape name known node
there_at shape name known o node is fits = subst (λ (x : Option Seen). FitsIn shape name known x) is fits
