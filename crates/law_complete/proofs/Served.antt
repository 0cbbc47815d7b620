-- At the end of a quiet run every node of the volume serves the session that the client serves, with all its messages brought.
use Rattle.std.proofs.Common.{◌≡◌, ℕ, ◌+◌, ◌≤◌, nat_lt, true, List, [], length, sym, append-nil}
use Rattle.std.proofs.lemmas.Bool.{ltb-true}
use Rattle.salus_types.specs.Volume.{Shape, regions}
use Rattle.salus_types.specs.declared.names.NodeName.{NodeName}
use Rattle.salus_types.specs.declared.names.Sender.TheVariants as sender
use Rattle.salus_message.specs.declared.wire.Message.{Message}
use Rattle.schedule_text.specs.Limits.{IsOfVolume, IsWithinLimits}
use Rattle.schedule_text.specs.declared.schedule.Volume.{Volume}
use Rattle.schedule_text.specs.declared.schedule.Event.{Event}
use Rattle.merkle_region.specs.Tree.{IsAmong}
use Rattle.volume_model.specs.Parts.{Session}
use Rattle.salus_model.specs.declared.trace.TraceStep.{TraceStep}
use Rattle.salus_model.specs.Following.{Posted, Follows}
use Rattle.salus_model.specs.Forgery.{NoForgery}
use Rattle.salus_model.specs.Hearing.{judge_of}
use Rattle.salus_model.specs.Complete.{AllTaken}
use Rattle.salus_model.specs.Quiet.{Quiet}
use Rattle.salus_model.specs.Seen.{NoCollision}
use Rattle.client_rules.specs.State as state
use Rattle.client_rules.specs.Rules.{new_client}
use Rattle.replica_rules.specs.Rules.{is_node}
use Rattle.run_rules.specs.Calm.{Calm}
use Rattle.run_rules.specs.Rooms.{rooms_of}
use Rattle.run_rules.specs.Run.{IsByRules, formatted_first}
use Rattle.run_rules.specs.Running.{formatted}
use Rattle.run_rules.specs.Serving.{client_of}
use Rattle.list_lemmas.proofs.Tests.{and_left, and_right}
use Rattle.law_claimed.specs.Accounting.{history_of}
use Rattle.law_claimed.specs.Handling.{outs_of_all}
use Rattle.law_claimed.specs.Knowing.{IsOwnBatch, Leads}
use Rattle.law_claimed.specs.Session.{Brings, IsServed}
use Rattle.law_claimed.proofs.Sessions.{all_batches_claimed}
use Rattle.law_records.specs.Sessions.{IsCountable}
use Rattle.law_complete.proofs.FaultsQuietly.{none_lied, quiet_sound}
use Rattle.law_complete.specs.Beginning.{inputs_in, node_after, front_at, HasBegun, HasReachedAll, AreRooted}
use Rattle.law_complete.proofs.SessionsLaw.{nodes_begin}
use Rattle.law_complete.proofs.Reached.{parts_reached}
use Rattle.law_complete.proofs.Serving.{serves_of}
use Rattle.law_complete.proofs.Ending.{leads_touched}

-- a node that is listed is one of the volume
pub listed_inside : (shape : Shape) (name : NodeName) → is_node shape name ≡ true → IsOfVolume shape name
listed_inside shape name listed =
    (ltb-true name.region (regions shape) (and_left (nat_lt name.region (regions shape)) (nat_lt name.replica shape.replicas) listed), ltb-true name.replica shape.replicas (and_right (nat_lt name.region (regions shape)) (nat_lt name.replica shape.replicas) listed))

-- each message of one node to another in the session was brought to it
abbrev pub AllBrought : Volume → List Posted → Session → List TraceStep → Type 0
AllBrought volume posts known done =
    (p q : NodeName) → IsOfVolume volume.geometry p → IsOfVolume volume.geometry q → (bp : HasBegun volume posts known p done) (bq : HasBegun volume posts known q done) (m : Message)
    → IsAmong (record { to = sender.Node q; message = m }) (outs_of_all volume.geometry p.region (node_after volume posts p bp.first) (inputs_in posts p bp.since))
    → Brings p m (inputs_in posts q bq.since)

-- a batch that is 16 or more behind the last one is claimed
abbrev pub AreClaimedBehind : Volume → List Posted → Session → List TraceStep → Type 0
AreClaimedBehind volume posts known done =
    (s : ℕ) → IsOwnBatch known s → (name : NodeName) → Leads volume.geometry known s name → s + 16 ≤ length known.list → s ≤ front_at volume posts done name

module _ (volume : Volume) (events : List Event) (posts : List Posted) (trace : List TraceStep) (limits : IsWithinLimits (record { volume = volume; events = events })) (follows : Follows events posts trace)
    (apart : NoCollision volume events posts trace) (unforged : NoForgery volume events posts trace) (calm : Calm events trace) (by : IsByRules volume (formatted_first volume) posts trace) (quiet : Quiet events posts trace)
    (s : state.Serving) (is : client_of volume posts (new_client volume.geometry) trace ≡ state.Serves s) where
  abbrev known : Session
  known = (judge_of volume.geometry events (history_of volume events posts trace)).now

  begun : (name : NodeName) → IsOfVolume volume.geometry name → HasBegun volume posts known name trace
  begun name inside =
      nodes_begin volume events posts trace limits follows apart unforged calm by (none_lied events quiet.events_quiet sender.Client) name inside (quiet_sound events quiet.events_quiet posts trace follows name)
      trace [] (sym (append-nil trace)) s is

  reached : (name : NodeName) → IsOfVolume volume.geometry name → AllTaken posts (rooms_of volume.geometry posts (formatted volume)) trace name → HasReachedAll volume posts known name trace
  reached name inside taken =
      parts_reached volume events posts trace limits follows apart unforged calm by (none_lied events quiet.events_quiet sender.Client) name inside (quiet_sound events quiet.events_quiet posts trace follows name)
      trace [] (sym (append-nil trace)) s is taken

  module _ (countable : IsCountable volume.geometry known) (taken : (name : NodeName) → IsOfVolume volume.geometry name → AllTaken posts (rooms_of volume.geometry posts (formatted volume)) trace name)
      (rooted : (name : NodeName) → IsOfVolume volume.geometry name → AreRooted volume posts known name trace) (brought : AllBrought volume posts known trace) (behind : AreClaimedBehind volume posts known trace) where
    served : IsServed volume.geometry volume.key known (front_at volume posts trace)
    served = record {
      long = countable.long;
      begun = countable.begun;
      led = leads_touched volume.geometry known countable;
      serves = λ name listed. let inside = listed_inside volume.geometry name listed in
          serves_of volume posts known name trace (begun name inside) (reached name inside (taken name inside)) (rooted name inside);
      brought = λ p q p_is q_is m among.
          let at = listed_inside volume.geometry p p_is in
          let to = listed_inside volume.geometry q q_is in
          brought p q at to (begun p at) (begun q to) m among;
      window = behind;
    }

    -- So each batch of the session is claimed by each replica of its leader.
    pub claimed_at_end : (b : ℕ) → IsOwnBatch known b → (name : NodeName) → Leads volume.geometry known b name → b ≤ front_at volume posts trace name
    claimed_at_end b own name leads = all_batches_claimed volume.geometry volume.key known (front_at volume posts trace) served b own name leads
