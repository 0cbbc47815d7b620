use Rattle.law_refined.proofs.Refining.{loaded_stands, nothing_stands, nothing_blank, step_refines}
use Rattle.law_refined.proofs.Formatted.{formatted_stands}
use Rattle.law_refined.proofs.Onward.{node_wider, node_onward}
use Rattle.holding_model.specs.Holding.{nothing_held}
use Rattle.run_rules.specs.Running.{formatted}
use Rattle.law_refined.proofs.nodes_refine.Goals as goal

pub returns : goal.returns
returns c = record {
  formatted = λ volume name v client votes claims limits inside known start. loaded_stands volume.geometry v name.region client votes claims (formatted volume name) (formatted_stands volume name client limits inside known start);
  replaced = λ shape v g client votes claims. loaded_stands shape v g client votes claims nothing_held (nothing_stands shape g client);
  blank = nothing_blank;
  steps = λ shape v name w posts known what failed loaded limits numbered place guarded blank stands images stays fits right.
      (step_refines shape limits v name numbered place w guarded blank posts known what failed loaded stays right stands images fits).refines;
  stands = λ shape v name w posts known what failed loaded limits numbered place guarded blank stands images stays fits right.
      (step_refines shape limits v name numbered place w guarded blank posts known what failed loaded stays right stands images fits).stands;
  wider = λ shape v g client votes more_votes claims more_claims known vote claim stands. node_wider shape v g client votes more_votes claims more_claims vote claim known stands;
  onward = λ shape v g client other votes claims known on blank stands. node_onward shape v g client other votes claims on known blank stands;
}
