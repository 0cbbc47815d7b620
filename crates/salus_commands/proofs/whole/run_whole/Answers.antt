use Rattle.std.proofs.Common.{[]}
use Rattle.salus_types.specs.declared.names.NodeName.{NodeName}
use Rattle.salus_model.specs.Following.{posts_of}
use Rattle.run_rules.specs.Knowing.{KnownNode, fresh}
use Rattle.run_rules.specs.Running.{known_of, formatted}
use Rattle.run_course.proofs.Going.{goes_whole}
use Rattle.salus_commands.proofs.Disked.{covered_last, disks_mean}
use Rattle.salus_commands.proofs.whole.run_whole.Goals as goal

pub returns : goal.returns
returns c =
    let volume = c.args.schedule.volume in
    let events = c.args.schedule.events in
    let ends = c.in_ok-ran.ensures in
    let r = ends.runs in
    let trace = r.course.trace in
    let posts = posts_of c.in_ok-ran.ran.messages in
    let first : NodeName → KnownNode = λ name. fresh volume.geometry name.region (formatted volume name) in
    let known : NodeName → KnownNode = λ name. known_of volume.geometry posts name (first name) trace in
    let follows = (goes_whole volume posts events r.course r.goes r.all).follows in
    record {
      ends = ends;
      disks = λ none unforged guarded.
          let client = c.every_run_is_apart.ensures.steps volume events posts trace c.requires follows none unforged r.nodes r.client in
          let all = c.counting_nodes_cover.ensures volume events posts trace c.requires follows none unforged (record { nodes = r.nodes; client = client }) guarded in
          c.images_mean_what_is_known.ensures volume events posts _ known _ (disks_mean volume.geometry known c.in_ok-ran.ran.nodes.items ends.nodes) (covered_last volume events posts trace [] first all);
    }
