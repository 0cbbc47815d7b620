-- A node that has begun the session, and has reached its parts with right votes, serves it.
use Rattle.std.proofs.Common.{◌≡◌, ◌∙◌, List, Option, Some, sym, ap}
use Rattle.std.specs.Option.{option_map_or}
use Rattle.salus_types.specs.declared.names.NodeName.{NodeName}
use Rattle.schedule_text.specs.declared.schedule.Volume.{Volume}
use Rattle.volume_model.specs.Parts.{Session}
use Rattle.salus_model.specs.declared.trace.TraceStep.{TraceStep}
use Rattle.salus_model.specs.Following.{Posted}
use Rattle.replica_rules.specs.Nodes.{Memory, NodeState}
use Rattle.law_claimed.specs.Handling.{after_all}
use Rattle.law_claimed.specs.Session.{Serves}
use Rattle.law_complete.specs.Beginning.{inputs_in, node_after, front_at, HasBegun, HasReachedAll, AreRooted}

abbrev pub serves_of : (volume : Volume) (posts : List Posted) (known : Session) (name : NodeName) (done : List TraceStep) → HasBegun volume posts known name done → HasReachedAll volume posts known name done
    → AreRooted volume posts known name done → Serves volume.geometry volume.key known (front_at volume posts done) name
serves_of volume posts known name done b reached rooted =
    let now : (m : Memory) → (after_all volume.geometry name.region (node_after volume posts name b.first) (inputs_in posts name b.since)).memory ≡ Some m → (node_after volume posts name done).memory ≡ Some m =
    λ m is. ap (λ (k : NodeState). k.memory) (sym b.now) ∙ is in
    record {
      start = node_after volume posts name b.first;
      before = b.before;
      there = b.there;
      session = b.session;
      number = b.number;
      turn = b.turn;
      leader = b.leader;
      inputs = inputs_in posts name b.since;
      only = b.only;
      stays = b.stays;
      reached = λ m is rec part. reached m (now m is) rec part;
      rooted = λ m is other x. rooted m (now m is) other x;
      front_is = λ m is. sym (ap (λ (o : Option Memory). option_map_or (λ k. k.leader.front) o 0) (now m is));
    }
