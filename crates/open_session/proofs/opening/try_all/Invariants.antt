use Rattle.std.proofs.Common.{◌≡◌, drop}
use Rattle.replica_rules.specs.Nodes.{all_tried}
use Rattle.open_session.specs.Opening.{parts_of}
use Rattle.open_session.proofs.Trying.{before_parts}
use Rattle.open_session.proofs.opening.try_all.Given as goal

abbrev pub invariant-parts : goal.invariant-parts
invariant-parts l = record {
  shape : l.view.shape ≡ l.initial.view.shape;
  left : all_tried l.initial.view.shape l.region l.initial.view.view (parts_of l.session l.parts) ≡ before_parts l.tried.items (all_tried l.view.shape l.region l.view.view (parts_of l.session (drop l.rec-index l.parts)));
}
