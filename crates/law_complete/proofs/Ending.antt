-- At the end of a run by the rules: the session that is served is one of the volume's, and each of its batches has a leader.
use Rattle.std.proofs.Common.{◌≡◌, ◌∙◌, ℕ, ◌-◌, ◌<◌, true, false, List, [], sym, ap, subst, refl, arith, append-nil}
use Rattle.std.proofs.lemmas.Bool.{true≢false}
use Rattle.salus_types.specs.Volume.{Shape, regions}
use Rattle.salus_types.specs.declared.names.NodeName.{NodeName}
use Rattle.salus_types.specs.declared.names.Sender.TheVariants as sender
use Rattle.schedule_text.specs.Limits.{IsOfVolume, IsWithinLimits}
use Rattle.schedule_text.specs.declared.schedule.Volume.{Volume}
use Rattle.schedule_text.specs.declared.schedule.Event.{Event}
use Rattle.merkle_region.specs.Tree.{IsAmong, NoTwoCollide}
use Rattle.volume_model.specs.Contents.{all_regions}
use Rattle.volume_model.specs.Parts.{Session, batch_at, leader_of, touches, touched_by}
use Rattle.salus_model.specs.declared.trace.TraceStep.{TraceStep}
use Rattle.salus_model.specs.Judge.{Judge}
use Rattle.salus_model.specs.Following.{Posted, Follows}
use Rattle.salus_model.specs.Forgery.{NoForgery}
use Rattle.salus_model.specs.Guarding.{is_lied_for}
use Rattle.salus_model.specs.Hearing.{Past, is_serving, phase_of, judge_of}
use Rattle.salus_model.specs.Due.{history_from}
use Rattle.salus_model.specs.Complete.{IsSound}
use Rattle.salus_model.specs.Seen.{strings_of, NoCollision}
use Rattle.client_rules.specs.State as state
use Rattle.client_rules.specs.Rules.{new_client}
use Rattle.run_rules.specs.Calm.{Calm, CalmFrom}
use Rattle.run_rules.specs.Knowing.{KnownNode, fresh}
use Rattle.run_rules.specs.Run.{IsByRules, formatted_first}
use Rattle.run_rules.specs.Running.{formatted}
use Rattle.run_rules.specs.Serving.{client_of}
use Rattle.list_lemmas.proofs.Members.{among_filter-in, among_range-in}
use Rattle.law_lemmas.proofs.Settled.{now-known}
use Rattle.law_lines.specs.Mirrors.{Mirrors}
use Rattle.law_history.proofs.Steps.{steps_of_all}
use Rattle.law_records.specs.Sessions.{TouchesSome, IsCountable}
use Rattle.law_records.proofs.Leaders.{leader_of-inside, leader_of-led, some_at}
use Rattle.law_claimed.specs.Accounting.{history_of}
use Rattle.law_claimed.specs.Knowing.{IsOwnBatch}
use Rattle.law_asked.proofs.Along.{AreGiven}
use Rattle.law_asked.proofs.Run.{first_along, run_given}
use Rattle.law_served.proofs.Fronts.{node_listed, first_on}
use Rattle.law_served.proofs.Coming.{IsEnd, first_coming, end_of}

-- a client that serves is seen to
served_by : (volume : Volume) (history : List Past) (judge : Judge) (n : ℕ) (c : state.Client) → Mirrors volume history judge n c → is_serving (phase_of history) ≡ true → (s : state.Serving) × (c ≡ state.Serves s)
served_by volume history judge n (state.Serves s) mirrors serving = (s, refl)
served_by volume history judge n state.Closed mirrors serving = absurd (true≢false (sym serving ∙ ap is_serving mirrors))
served_by volume history judge n (state.Gathers g) mirrors serving = absurd (true≢false (sym serving ∙ ap is_serving mirrors.phase))
served_by volume history judge n (state.Fetches f) mirrors serving = absurd (true≢false (sym serving ∙ ap is_serving mirrors.phase))
served_by volume history judge n (state.Stages b) mirrors serving = absurd (true≢false (sym serving ∙ ap is_serving mirrors.phase))
served_by volume history judge n (state.Switches b) mirrors serving = absurd (true≢false (sym serving ∙ ap is_serving mirrors.phase))

-- each batch of a session touches its leader
module _ (shape : Shape) (known : Session) (countable : IsCountable shape known) where
  some_touched : (s : ℕ) → IsOwnBatch known s → TouchesSome shape (batch_at known s)
  some_touched s own =
      let above = own.above in
      let within = own.within in
      some_at shape known.list (s - 1) (omega (arith, above, within)) countable.some

  pub leads_touched : (s : ℕ) → IsOwnBatch known s → IsAmong (leader_of shape (batch_at known s)) (touched_by shape (batch_at known s))
  leads_touched s own =
      let some = some_touched s own in
      let inside : leader_of shape (batch_at known s) < regions shape = leader_of-inside shape (batch_at known s) some in
      among_filter-in (λ g. touches shape (batch_at known s) g) (all_regions shape) (leader_of shape (batch_at known s))
      (among_range-in (regions shape) 0 (leader_of shape (batch_at known s)) (omega arith) (omega (arith, inside))) (leader_of-led shape (batch_at known s) some)

module _ (volume : Volume) (events : List Event) (posts : List Posted) (trace : List TraceStep) (limits : IsWithinLimits (record { volume = volume; events = events })) (follows : Follows events posts trace)
    (apart : NoCollision volume events posts trace) (unforged : NoForgery volume events posts trace) (calm : Calm events trace) (by : IsByRules volume (formatted_first volume) posts trace)
    (unlied : is_lied_for events sender.Client ≡ false) (name : NodeName) (inside : IsOfVolume volume.geometry name) (sound : IsSound events trace name) where
  abbrev history : List Past
  history = history_of volume events posts trace

  abbrev judge : Judge
  judge = judge_of volume.geometry events history

  abbrev strings : List (List ℕ)
  strings = strings_of volume.geometry (history_from volume events posts [] trace)

  abbrev none : NoTwoCollide strings
  none = steps_of_all volume events posts trace apart

  abbrev start : KnownNode
  start = fresh volume.geometry name.region (formatted volume name)

  -- what holds along a run, at its end
  end : IsEnd volume events posts trace limits strings none unlied name sound (by.nodes name) inside (node_listed volume.geometry name inside) trace history
  end =
      end_of volume events posts trace limits strings none unlied name sound (by.nodes name) inside (node_listed volume.geometry name inside) trace [] [] [] 1 1 (new_client volume.geometry) start
      (first_along volume events posts trace limits strings none unlied name sound (by.nodes name))
      (first_on volume events posts trace limits strings none unlied name sound (by.nodes name) inside)
      (first_coming volume events posts trace limits strings none unlied name sound (by.nodes name) inside (node_listed volume.geometry name inside))
      (subst (λ (l : List TraceStep). AreGiven volume events posts trace limits strings none unlied name sound (by.nodes name) [] 1 2 (new_client volume.geometry) start [] l) (sym (append-nil trace))
      (run_given volume events posts trace limits follows apart unforged by unlied name sound))
      (subst (λ (l : List TraceStep). CalmFrom events [] l) (sym (append-nil trace)) calm)

  pub client_serves : is_serving (phase_of (history_of volume events posts trace)) ≡ true → (s : state.Serving) × (client_of volume posts (new_client volume.geometry) trace ≡ state.Serves s)
  client_serves serving = let s = served_by volume history judge end.n end.c end.before.holds.mirrors serving in (s.0, end.before.client_is ∙ s.1)

  pub now_countable : IsCountable volume.geometry (judge_of volume.geometry events (history_of volume events posts trace)).now
  now_countable = end.coming.countable.each judge.now judge.now.session (now-known judge)
