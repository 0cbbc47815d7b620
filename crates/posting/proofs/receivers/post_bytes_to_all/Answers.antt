use Rattle.salus_types.specs.declared.names.Sender.TheVariants as sender
use Rattle.volume_model.specs.Groups.{group_of}
use Rattle.posting.specs.Posting.{bytes_to}
use Rattle.posting.proofs.Ranged.{groups-more}
use Rattle.posting.proofs.receivers.post_bytes_to_all.Goals as goal

pub regions-preserved : goal.regions-preserved
regions-preserved c =
    groups-more _ _ _ (λ g. group_of c.args.geometry.now g) (λ name. bytes_to c.args.bytes.now (sender.Node name)) c.regions.region c.regions.invariant c.in_ok-post_bytes_to_group.ensures
