use Rattle.merkle_region.specs.Tree.{IsAmong}
use Rattle.law_answers.proofs.Parts.{handled_turns, handled_comes}
use Rattle.law_answers.proofs.Reached.{all_reached}
use Rattle.law_answers.proofs.nodes_take_parts_in_turn.Goals as goal

pub returns : goal.returns
returns c = record {
  turns = λ shape g parts views node input m chain. handled_turns shape (λ rec. IsAmong rec parts) (λ view. IsAmong view views) chain g node input m;
  comes = λ shape g parts views node bytes m rec chain. handled_comes shape (λ r. IsAmong r parts) (λ view. IsAmong view views) chain g node bytes m rec;
  reached = λ shape parts views r chain. all_reached shape (λ rec. IsAmong rec parts) (λ view. IsAmong view views) chain r;
}
