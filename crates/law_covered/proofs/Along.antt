-- Along the run: what nodes hold has the right blocks.
use Rattle.std.proofs.Common.{◌≡◌, ◌∙◌, ℕ, ◌+◌, Bool, true, false, ◌==◌, if◌then◌else◌, List, [], ◌∷◌, inl, inr, refl, ap, sym, subst, arith}
use Rattle.std.proofs.lemmas.Bool.{false≢true, cases_lt, eq-eqb}
use Rattle.salus_types.specs.Volume.{Shape}
use Rattle.salus_types.specs.declared.names.NodeName.{NodeName}
use Rattle.salus_types.specs.declared.names.Sender.{Sender}
use Rattle.salus_types.specs.declared.names.Sender.TheVariants as sender
use Rattle.salus_types.specs.declared.records.Held.{Held}
use Rattle.merkle_region.specs.Tree.{IsAmong, NoTwoCollide}
use Rattle.schedule_text.specs.Limits.{IsOfVolume, IsWithinLimits}
use Rattle.schedule_text.specs.declared.schedule.Volume.{Volume}
use Rattle.schedule_text.specs.declared.schedule.Event.{Event}
use Rattle.salus_model.specs.declared.trace.TraceStep.{TraceStep}
use Rattle.volume_model.specs.Groups.{is_client, same_node, same_party}
use Rattle.salus_model.specs.Judge.{Judge, first_session, start_judge}
use Rattle.salus_model.specs.Following.{Posted}
use Rattle.salus_model.specs.Guarding.{is_lied_for}
use Rattle.salus_model.specs.Hearing.{News, Silence, Past, news_in, news_of, judge_of}
use Rattle.salus_model.specs.Due.{past_of}
use Rattle.client_rules.specs.State as state
use Rattle.client_rules.specs.Rules.{told, client_step, new_client}
use Rattle.run_rules.specs.Knowing.{KnownNode, outs_to, known_to}
use Rattle.run_rules.specs.Running.{formatted, posted_by, addresses, after, IsNodeStep, IsStepOf}
use Rattle.run_rules.specs.Serving as serving
use Rattle.run_rules.specs.Serving.{IsClientStep}
use Rattle.list_lemmas.proofs.Lists.{among_between}
use Rattle.list_lemmas.proofs.Members.{among_map}
use Rattle.salus_model.specs.Seen.{known_strings, news_strings, strings_at, strings_of}
use Rattle.replica_rules.specs.Nodes.{loaded_as}
use Rattle.replica_rules.specs.Rules.{Sending}
use Rattle.salus_message.specs.Spelling.{message_bytes}
use Rattle.volume_model.specs.Parts.{base_of}
use Rattle.salus_types.specs.declared.records.Base.{Base}
use Rattle.merkle_region.proofs.Membership.{among_left}
use Rattle.law_records.proofs.Counted.{both_true}
use Rattle.law_matched.proofs.Numbering.{node_is}
use Rattle.law_lemmas.proofs.Growing.{Grows}
use Rattle.law_lines.specs.Ready.{event_after, session_after}
use Rattle.law_phases.proofs.Going.{lines_grow}
use Rattle.law_kept.proofs.Along.{IsAlong, IsGiven, stepped, row, before}
use Rattle.law_kept.proofs.Starting.{known_first}
use Rattle.law_covered.proofs.Right.{IsRightBase, HasRight, HoldsRight, StagesRight, holds_more, stages_more}
use Rattle.law_covered.proofs.RightNode.{right_next}
use Rattle.law_covered.proofs.RightClient.{KeepsRight, kept_more, stages_right}

-- news that tell nothing leave the client as it is
silent_client : (volume : Volume) (c : state.Client) (v : ℕ) (x : News) → x ≡ Silence → (told volume c v x).client ≡ c
unfolding told
silent_client volume c v x silent = ap (λ (y : News). (told volume c v y).client) silent

-- the party that is addressed
party_is : (name : NodeName) (who : Sender) → same_party who (sender.Node name) ≡ true → who ≡ sender.Node name
party_is name sender.Client is = absurd (false≢true is)
party_is name (sender.Node other) is = ap (λ (m : NodeName). sender.Node m) (node_is other name is)

module _ (volume : Volume) (events : List Event) (posts : List Posted) (limits : IsWithinLimits (record { volume = volume; events = events })) (strings : List (List ℕ)) (none : NoTwoCollide strings)
    (unlied : is_lied_for events sender.Client ≡ false) where
  abbrev shape : Shape
  shape = volume.geometry

  abbrev judge_now : List Past → Judge
  judge_now history = judge_of volume.geometry events history

  -- bases have the right blocks, those of nodes and those that the client stages
  pub record AreRight (history : List Past) (c : state.Client) (known : NodeName → KnownNode) (sent : ℕ) : Type 0 where
    pub nodes : (name : NodeName) → IsOfVolume shape name → HoldsRight shape (judge_now history) name.region (known name)
    pub stages : StagesRight shape posts (judge_now history) sent
    pub keeps : KeepsRight shape (judge_now history) c

  module _ (history : List Past) (n top : ℕ) (c : state.Client) (known : NodeName → KnownNode) (sent : ℕ) (a : IsAlong volume events posts limits strings none history n top c known sent) (t : TraceStep)
      (given : IsGiven volume events posts limits strings none history n top c known sent t) (right : AreRight history c known sent) where
    abbrev x : News
    x = news_of posts t

    abbrev p : Past
    p = past_of volume events posts history t

    abbrev judge : Judge
    judge = judge_now history

    abbrev judge_then : Judge
    judge_then = judge_now (p ∷ history)

    grows : Grows judge judge_then
    grows = lines_grow shape events p.lines judge (stepped volume events posts limits strings none history n top c known sent a t given).legal

    -- what is known, is seen
    contents_seen : (y : List ℕ) → IsAmong y (known_strings shape judge) → IsAmong y strings
    unfolding strings_of
    contents_seen y m = given.within y (among_left y (strings_at shape p) (strings_of shape history) (among_left y (known_strings shape judge) (news_strings shape x) m))

    node_right : (name : NodeName) → IsOfVolume shape name → (mine : Bool) → addresses name t ≡ mine
        → HoldsRight shape judge name.region (if mine then known_to shape name.region posts (known name) t.handed t.failed t.loaded else known name)
    node_right name inside true is =
        right_next volume events posts limits unlied strings none history a.standing.settled.sized known sent a.reached name inside t (party_is name t.party is)
        (subst (λ (yes : Bool). IsStepOf yes shape posts name (known name) sent t) is (given.nodes name)) given.handed (a.owns name inside) a.posted contents_seen right.stages (right.nodes name inside)
    node_right name inside false is = right.nodes name inside

    nodes_then : (name : NodeName) → IsOfVolume shape name → HoldsRight shape judge_then name.region (after shape posts name (known name) t)
    nodes_then name inside = holds_more shape judge judge_then grows name.region (after shape posts name (known name) t) (node_right name inside (addresses name t) refl)

    -- of the client what it stages, and of nodes nothing
    record StagesThen : Type 0 where
      stages : StagesRight shape posts judge_then t.sent
      keeps : KeepsRight shape judge_then (client_step volume posts c t).client

    client_then : t.party ≡ sender.Client → StagesThen
    client_then is =
        let step : IsClientStep volume posts c sent t = subst (λ (mine : Bool). serving.IsStepOf mine volume posts c sent t) (ap (λ (s : Sender). is_client s) is) given.client in
        let both = stages_right volume events posts history sent c t is a.reached.now (before volume events posts limits strings none history n top c known sent a t given) step given.letters n (top + 1) a.holds
        (event_after n t.event x) (session_after (top + 1) x) (row volume events posts limits strings none history n top c known sent a t given).holds right.keeps right.stages in
        record { stages = both.0; keeps = both.1 }

    node_then : (name : NodeName) → t.party ≡ sender.Node name → StagesThen
    node_then name is =
        let own : same_node name name ≡ true = both_true (name.region == name.region) (name.replica == name.replica) (eq-eqb name.region name.region refl) (eq-eqb name.replica name.replica refl) in
        let mine : addresses name t ≡ true = ap (λ (s : Sender). same_party s (sender.Node name)) is ∙ own in
        let step : IsNodeStep shape posts name (known name) sent t = subst (λ (yes : Bool). IsStepOf yes shape posts name (known name) sent t) mine (given.nodes name) in
        let silent : x ≡ Silence = ap (λ (s : Sender). if is_client s then news_in posts t.handed else Silence) is in
        record {
          stages = λ k counted low post at from m reads. elim (cases_lt sent k) [
            | inl above ↦
                let there : IsAmong post (posted_by (sender.Node name) (outs_to shape name.region posts (known name) t.handed t.failed)) = subst (λ (l : List Posted). IsAmong post l) step.messages (among_between posts sent t.sent k post at above low) in
                let made = among_map (λ (out : Sending). record { from = sender.Node name; to = out.to; bytes = message_bytes out.message }) post (outs_to shape name.region posts (known name) t.handed t.failed) there in
                let wrong : sender.Node name ≡ sender.Client = sym (ap (λ (y : Posted). y.from) made.2) ∙ from in
                absurd (false≢true (ap (λ (s : Sender). is_client s) wrong))
            | inr within ↦ stages_more shape judge judge_then grows posts sent right.stages k counted within post at from m reads
          ];
          keeps = subst (KeepsRight shape judge_then) (sym (silent_client volume c t.event x silent)) (kept_more shape judge judge_then grows c right.keeps);
        }

    by_party : (who : Sender) → t.party ≡ who → StagesThen
    by_party sender.Client is = client_then is
    by_party (sender.Node name) is = node_then name is

    pub right_then : AreRight (p ∷ history) (client_step volume posts c t).client (λ name. after shape posts name (known name) t) t.sent
    right_then = let one : StagesThen = by_party t.party refl in record { nodes = nodes_then; stages = one.stages; keeps = one.keeps }

-- ---- at first

module _ (volume : Volume) (events : List Event) (posts : List Posted) (limits : IsWithinLimits (record { volume = volume; events = events })) (strings : List (List ℕ)) (none : NoTwoCollide strings)
    (unlied : is_lied_for events sender.Client ≡ false) where
  first_held : (name : NodeName) → HasRight volume.geometry (start_judge volume.geometry) name.region (formatted volume name)
  unfolding base_of
  first_held name base (inl same) =
      subst (λ (b : Base). IsRightBase volume.geometry (start_judge volume.geometry) name.region b) (sym same)
      (record { known = first_session volume.geometry; at = refl; within = omega arith; blocks = refl })
  first_held name base (inr nothing) = absurd nothing

  first_node : (name : NodeName) → HoldsRight volume.geometry (start_judge volume.geometry) name.region (known_first volume events posts limits name)
  unfolding loaded_as
  first_node name = record { held = first_held name; each = λ held among. elim among [ inl same ↦ subst (λ (h : Held). HasRight volume.geometry (start_judge volume.geometry) name.region h) (sym same) (first_held name) | inr nothing ↦ absurd nothing ] }

  pub first_right : AreRight volume events posts limits strings none unlied [] (new_client volume.geometry) (known_first volume events posts limits) 0
  first_right = record { nodes = λ name inside. first_node name; stages = λ k counted low post at from m reads. absurd (omega (arith, counted, low)); keeps = tt }
