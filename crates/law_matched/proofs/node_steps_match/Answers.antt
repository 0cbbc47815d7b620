use Rattle.law_matched.proofs.Matched.{step_matches, stays_kept}
use Rattle.law_matched.proofs.Handing.{handed_right}
use Rattle.law_matched.proofs.Reaching.{node_reached}
use Rattle.law_matched.proofs.node_steps_match.Goals as goal

pub returns : goal.returns
returns c = record {
  right = handed_right;
  reached = λ volume events posts history known sent name step limits honest reached inside party own right guarded.
      node_reached volume limits events honest posts history known sent reached name inside step party own right guarded;
  steps = λ shape events posts history known sent w name step limits honest matches stand guarded clients blank inside party own stays right.
      step_matches shape limits events honest posts history known sent w matches stand guarded clients blank name inside step party own stays (stays_kept step.handed stays) right;
}
