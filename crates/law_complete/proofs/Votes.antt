-- The law, of a quiet run.
use Rattle.std.proofs.Common.{◌≡◌, ◌∙◌, ℕ, ◌<◌, ◌≤◌, false, List, [], ◌++◌, Option, None, Some, sym, ap, subst, arith}
use Rattle.salus_types.specs.declared.names.NodeName.{NodeName}
use Rattle.salus_types.specs.declared.names.Sender.{Sender}
use Rattle.salus_types.specs.declared.names.Sender.TheVariants as sender
use Rattle.salus_message.specs.declared.small.Prepared.{Prepared}
use Rattle.salus_message.specs.declared.wire.Message.TheVariants as message
use Rattle.schedule_text.specs.Limits.{IsOfVolume, IsWithinLimits}
use Rattle.schedule_text.specs.declared.schedule.Volume.{Volume}
use Rattle.schedule_text.specs.declared.schedule.Event.{Event}
use Rattle.merkle_region.specs.Tree.{IsAmong, NoTwoCollide}
use Rattle.merkle_region.proofs.Membership.{among_right}
use Rattle.salus_model.specs.declared.trace.TraceStep.{TraceStep}
use Rattle.salus_model.specs.Judge.{Judge}
use Rattle.salus_model.specs.Following.{Posted, sent_by, Follows}
use Rattle.salus_model.specs.Forgery.{NoForgery}
use Rattle.salus_model.specs.Guarding.{is_lied_for}
use Rattle.salus_model.specs.Hearing.{Past, judge_of}
use Rattle.salus_model.specs.Due.{history_from}
use Rattle.salus_model.specs.Licences.{Letter, letters_to}
use Rattle.salus_model.specs.Quiet.{Quiet}
use Rattle.salus_model.specs.Complete.{IsSound}
use Rattle.salus_model.specs.Seen.{strings_of, NoCollision}
use Rattle.client_rules.specs.State as state
use Rattle.client_rules.specs.Rules.{new_client}
use Rattle.replica_rules.specs.Leading.{Leader}
use Rattle.replica_rules.specs.Nodes.{Memory, NodeState}
use Rattle.replica_rules.specs.Voting.{Vote}
use Rattle.run_rules.specs.Calm.{Calm}
use Rattle.run_rules.specs.Knowing.{fresh}
use Rattle.run_rules.specs.Run.{IsByRules, formatted_first}
use Rattle.run_rules.specs.Running.{formatted}
use Rattle.run_rules.specs.Serving.{client_of}
use Rattle.list_lemmas.proofs.Each.{OfSome}
use Rattle.law_lemmas.proofs.Numbered.{IsSized}
use Rattle.law_lemmas.proofs.Settled.{EachKnown}
use Rattle.law_history.specs.Handing.{steps_in}
use Rattle.law_history.proofs.Steps.{steps_of_all}
use Rattle.law_asked.proofs.Along as asked
use Rattle.law_asked.proofs.Run.{first_along, run_given}
use Rattle.law_claimed.specs.Session.{IsRooted}
use Rattle.law_complete.proofs.FaultsQuietly.{none_lied, quiet_sound}
use Rattle.law_complete.specs.Beginning.{inputs_in, node_after, HasBegun, AreRooted}
use Rattle.law_complete.proofs.SessionsLaw.{nodes_begin}
use Rattle.law_complete.proofs.VotesAlong.{end_of}
use Rattle.law_complete.proofs.VotesKept.{AreGood, BringOnlyGood, kept_good}
use Rattle.law_complete.proofs.Posted.{WasPosted, WerePosted, input_letter, letters_apart}
use Rattle.law_complete.proofs.VotesRight.{IsRightVote, rooted_vote}

module _ (volume : Volume) (events : List Event) (posts : List Posted) (trace : List TraceStep) (limits : IsWithinLimits (record { volume = volume; events = events })) (follows : Follows events posts trace)
    (apart : NoCollision volume events posts trace) (unforged : NoForgery volume events posts trace) (by : IsByRules volume (formatted_first volume) posts trace) (quiet : Quiet events posts trace)
    (done rest : List TraceStep) (whole : trace ≡ done ++ rest) where
  abbrev history : List Past
  history = history_from volume events posts [] done

  abbrev judge : Judge
  judge = judge_of volume.geometry events history

  abbrev sent : ℕ
  sent = sent_by (steps_in history)

  abbrev strings : List (List ℕ)
  strings = strings_of volume.geometry (history_from volume events posts [] trace)

  abbrev none : NoTwoCollide strings
  none = steps_of_all volume events posts trace apart

  abbrev honest : (who : Sender) → is_lied_for events who ≡ false
  honest who = none_lied events quiet.events_quiet who

  -- of one node: what was handed to it was posted, and each vote that it has posted is right
  record At (name : NodeName) : Type 0 where
    came : WerePosted posts sent (letters_to posts name done)
    voted : (v : Prepared) → WasPosted posts sent (record { from = sender.Node name; message = message.Prepared v }) → IsRightVote volume.geometry volume.key judge v
    sized : EachKnown judge (IsSized volume.geometry)

  at_end : (name : NodeName) → At name
  at_end name =
      let unlied = honest sender.Client in
      let sound : IsSound events trace name = quiet_sound events quiet.events_quiet posts trace follows name in
      let right = by.nodes name in
      let given = run_given volume events posts trace limits follows apart unforged by unlied name sound in
      let end = end_of volume events posts trace limits strings none unlied name sound right honest given.given done rest [] [] 1 1 (new_client volume.geometry) (fresh volume.geometry name.region (formatted volume name))
      (first_along volume events posts trace limits strings none unlied name sound right)
      (subst (λ (l : List TraceStep). asked.AreGiven volume events posts trace limits strings none unlied name sound right [] 1 2 (new_client volume.geometry) (fresh volume.geometry name.region (formatted volume name)) [] l) whole given)
      (record { keeps = tt; full = λ rec was. absurd (none_first _ was); came = λ l nothing. absurd nothing; voted = λ v was. absurd (none_first _ was) }) in
      record { came = end.votes.came; voted = end.votes.voted; sized = end.sized }
    where
      none_first : (l : Letter) → WasPosted posts 0 l → ⊥
      none_first l was = let counted : 0 < was.k = was.counted in let low : was.k ≤ 0 = was.low in omega (arith, counted, low)

  -- ---- of the votes that a node keeps

  module _ (name : NodeName) (b : HasBegun volume posts judge.now name done) where
    -- the vote was posted by its sender
    abbrev IsPosted : NodeName → Vote → Type 0
    IsPosted other vote =
        WasPosted posts sent (record { from = sender.Node other; message = message.Prepared (record { session = judge.now.session; seq = vote.seq; region = other.region; root = vote.root }) })

    brought : BringOnlyGood volume.geometry name.region IsPosted judge.now.session (inputs_in posts name b.since)
    brought other bytes among v reads of region =
        let letter : Letter = record { from = sender.Node other; message = message.Prepared v } in
        let late : IsAmong letter (letters_to posts name b.since) = input_letter (sender.Node other) bytes (message.Prepared v) reads posts name b.since among in
        let there : IsAmong letter (letters_to posts name done) =
        subst (λ (l : List Letter). IsAmong letter l) (sym (ap (λ (l : List TraceStep). letters_to posts name l) b.whole ∙ letters_apart posts name b.first b.since))
        (among_right letter (letters_to posts name b.first) (letters_to posts name b.since) late) in
        subst (λ (n : ℕ). WasPosted posts sent (record { from = sender.Node other; message = message.Prepared (record { session = judge.now.session; seq = v.seq; region = n; root = v.root }) })) region
        (subst (λ (n : ℕ). WasPosted posts sent (record { from = sender.Node other; message = message.Prepared (record { session = n; seq = v.seq; region = v.region; root = v.root }) })) of ((at_end name).came letter there))

    kept : (m : Memory) → (node_after volume posts name done).memory ≡ Some m → AreGood volume.geometry name.region IsPosted m
    kept m there =
        kept_good volume.geometry name.region IsPosted judge.now.session (inputs_in posts name b.since) (node_after volume posts name b.first) b.before b.there b.session b.stays brought
        (λ other x. subst (λ (l : Leader). OfSome (IsPosted other) (l.votes other x)) (sym b.leader) tt) m (ap (λ (k : NodeState). k.memory) b.now ∙ there)

    rooted_of : (other : NodeName) (o : Option Vote) → OfSome (IsPosted other) o → IsRooted volume.geometry judge.now other o
    rooted_of other None posted = tt
    rooted_of other (Some vote) posted =
        rooted_vote volume.geometry volume.key judge (at_end other).sized other vote.seq vote.root
        ((at_end other).voted (record { session = judge.now.session; seq = vote.seq; region = other.region; root = vote.root }) posted)

    all_rooted : AreRooted volume posts judge.now name done
    all_rooted m there other x = rooted_of other (m.leader.votes other x) (kept m there other x)

-- THE LAW.
pub votes_rooted : (volume : Volume) (events : List Event) (posts : List Posted) (trace : List TraceStep) → IsWithinLimits (record { volume = volume; events = events })
    → Follows events posts trace → NoCollision volume events posts trace → NoForgery volume events posts trace → Calm events trace → IsByRules volume (formatted_first volume) posts trace
    → Quiet events posts trace → (name : NodeName) → IsOfVolume volume.geometry name → (done rest : List TraceStep) → trace ≡ done ++ rest
    → (s : state.Serving) → client_of volume posts (new_client volume.geometry) done ≡ state.Serves s → AreRooted volume posts (judge_of volume.geometry events (history_from volume events posts [] done)).now name done
votes_rooted volume events posts trace limits follows apart unforged calm by quiet name inside done rest whole s is =
    all_rooted volume events posts trace limits follows apart unforged by quiet done rest whole name
    (nodes_begin volume events posts trace limits follows apart unforged calm by (none_lied events quiet.events_quiet sender.Client) name inside (quiet_sound events quiet.events_quiet posts trace follows name) done rest whole s is)
