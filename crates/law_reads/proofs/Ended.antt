-- Once every message between the client and the server was handed over, a read that was asked has its block: what it waits
-- for is not under way, and the server keeps none of its asks.
use Rattle.std.proofs.Common.{◌≡◌, ◌∙◌, ◌⊎◌, inl, inr, ℕ, ◌<◌, ◌&&◌, ◌||◌, not, Bool, true, false, List, [], ◌∷◌, ◌++◌, reverse, Option, sym, ap, subst, arith, append_assoc, append-nil}
use Rattle.std.specs.Prelude.{IfSome}
use Rattle.std.proofs.lemmas.Bool.{true≢false}
use Rattle.std.proofs.lemmas.List.{reverse-append}
use Rattle.salus_types.specs.Volume.{Shape, IsVolume}
use Rattle.salus_types.specs.declared.names.NodeName.{NodeName}
use Rattle.salus_types.specs.declared.records.Held.{Held}
use Rattle.schedule_text.specs.declared.schedule.Volume.{Volume}
use Rattle.schedule_text.specs.declared.schedule.Event.{Event}
use Rattle.merkle_region.specs.Tree.{IsAmong}
use Rattle.volume_model.specs.Contents.{region_of}
use Rattle.volume_model.specs.Groups.{group_of}
use Rattle.salus_model.specs.declared.trace.TraceStep.{TraceStep}
use Rattle.salus_model.specs.Following.{Posted, hands, was_handed}
use Rattle.salus_model.specs.Hearing.{Past, news_of, since}
use Rattle.salus_model.specs.Waiting.{all_taken}
use Rattle.salus_model.specs.Due.{past_of, history_from}
use Rattle.salus_model.specs.Complete.{Rooms, is_between, was_taken, AllTaken, has_block, read_question, was_asked}
use Rattle.client_rules.specs.State as state
use Rattle.client_rules.specs.Rules.{new_client}
use Rattle.run_rules.specs.Knowing.{KnownNode, fresh}
use Rattle.run_rules.specs.Running.{known_of}
use Rattle.run_rules.specs.Serving.{client_of}
use Rattle.list_lemmas.proofs.Tests.{by_bool, by_either, and_left, or_true}
use Rattle.law_lemmas.proofs.Named.{node-itself}
use Rattle.law_lines.specs.Ready.{event_after, session_after}
use Rattle.law_lines.proofs.Openings.{HasNodes}
use Rattle.law_lines.proofs.Starting.{start_holds}
use Rattle.law_lines.proofs.Whole.{AllScripted}
use Rattle.law_reads.specs.Serving.{KeepsOne, NoneKept}
use Rattle.law_reads.proofs.Relay.{owed_end}
use Rattle.law_reads.proofs.Underway.{HandsSent}
use Rattle.law_reads.proofs.Served.{IsAskOf, IsReplyOf}
use Rattle.law_reads.proofs.Along.{told_now, known_then, IsAlong, IsGiven, step_along}

not_open : (gave : Bool) → (gave ≡ true) ⊎ ⊥ → gave ≡ true
not_open gave (inl is) = is
not_open gave (inr none) = absurd none

-- what was taken was handed over
taken_handed : (is_full : Rooms) (steps : List TraceStep) (k : ℕ) → was_taken is_full steps k ≡ true → was_handed steps k ≡ true
unfolding was_taken
taken_handed is_full [] k is = is
taken_handed is_full (t ∷ earlier) k is =
    by_either (hands k t.handed && not (is_full earlier t)) (was_taken is_full earlier k) (was_handed (t ∷ earlier) k ≡ true) is
    (λ now. ap (λ (w : Bool). w || was_handed earlier k) (and_left (hands k t.handed) (not (is_full earlier t)) now))
    (λ before. ap (λ (w : Bool). hands k t.handed || w) (taken_handed is_full earlier k before) ∙ or_true (hands k t.handed))

module _ (volume : Volume) (events : List Event) (posts : List Posted) (nodes : HasNodes volume.geometry) (fits : IsVolume volume.geometry) (name : NodeName) (v b : ℕ)
    (region : region_of volume.geometry b ≡ name.region) (group : IsAmong name (group_of volume.geometry (region_of volume.geometry b))) (replica : name.replica < volume.geometry.replicas) where
  abbrev shape : Shape
  shape = volume.geometry

  abbrev Along : List Past → ℕ → ℕ → state.Client → KnownNode → List TraceStep → Type 0
  Along history n m c known earlier = IsAlong volume events posts nodes fits name v b region group replica history n m c known earlier

  -- each of these steps is given, after those before them
  unfoldable pub AreGiven : List Past → ℕ → ℕ → state.Client → KnownNode → List TraceStep → List TraceStep → Type 0
  AreGiven history n m c known earlier [] = Unit {0}
  AreGiven history n m c known earlier (t ∷ steps) =
      IsGiven volume events posts nodes fits name v b region group replica history n m c known earlier t
      × AreGiven (past_of volume events posts history t ∷ history) (event_after n t.event (news_of posts t)) (session_after m (news_of posts t))
      (told_now volume events posts nodes fits name v b region group replica c t).client (known_then volume events posts nodes fits name v b region group replica known t) (t ∷ earlier) steps

  pub record IsEnd (history : List Past) (c : state.Client) (known : KnownNode) (earlier : List TraceStep) : Type 0 where
    pub n : ℕ
    pub m : ℕ
    pub along : Along history n m c known earlier

  turned : (t : TraceStep) (steps earlier : List TraceStep) → reverse steps ++ (t ∷ earlier) ≡ reverse (t ∷ steps) ++ earlier
  turned t steps earlier = sym (ap (λ l. l ++ earlier) (reverse-append (t ∷ []) steps) ∙ append_assoc (reverse steps) (t ∷ []) earlier)

  pub all_along : (steps : List TraceStep) (history : List Past) (n m : ℕ) (c : state.Client) (known : KnownNode) (earlier : List TraceStep) → Along history n m c known earlier
      → AreGiven history n m c known earlier steps
      → IsEnd (history_from volume events posts history steps) (client_of volume posts c steps) (known_of shape posts name known steps) (reverse steps ++ earlier)
  unfolding AreGiven history_from client_of known_of
  all_along [] history n m c known earlier along given = record { n = n; m = m; along = along }
  all_along (t ∷ steps) history n m c known earlier along given =
      let next = step_along volume events posts nodes fits name v b region group replica history n m known earlier t c along given.0 in
      subst (λ (l : List TraceStep). IsEnd (history_from volume events posts history (t ∷ steps)) (client_of volume posts c (t ∷ steps)) (known_of shape posts name known (t ∷ steps)) l) (turned t steps earlier)
      (all_along steps _ _ _ _ _ (t ∷ earlier) next given.1)

  -- ---- at first

  none_at_first : (first : Held) → Along [] 1 2 (new_client shape) (fresh shape name.region first) []
  unfolding was_asked AllScripted since all_taken HandsSent
  none_at_first first = record {
    holds = start_holds volume;
    small_now = omega arith;
    script = tt;
    sent = tt;
    asked = λ was. absurd (true≢false (sym was));
    owed = λ none o there of. absurd there;
  }

  -- ---- at the end

  module _ (is_full : Rooms) (done : List TraceStep) (taken : AllTaken posts is_full done name) where
    ask_handed : (e k : ℕ) → IsAskOf posts name e v b k → was_handed (reverse done) k ≡ true
    ask_handed e k is =
        taken_handed is_full (reverse done) k
        ((subst (λ (o : Option Posted). IfSome o (λ m. is_between name m ≡ true → was_taken is_full (reverse done) k ≡ true)) is.at (taken k)) (ap (λ (w : Bool). w || false) (node-itself name)))

    reply_handed : (e k : ℕ) → IsReplyOf shape posts name e v b k → was_handed (reverse done) k ≡ true
    reply_handed e k is =
        taken_handed is_full (reverse done) k
        ((subst (λ (o : Option Posted). IfSome o (λ m. is_between name m ≡ true → was_taken is_full (reverse done) k ≡ true)) is.at (taken k)) (ap (λ (w : Bool). w && true) (node-itself name)))

    ended : (history : List Past) (c : state.Client) (known : KnownNode) → IsEnd history c known (reverse done) → NoneKept v b c known → was_asked shape events (read_question v b) history ≡ true
        → has_block v history ≡ true
    ended history (state.Serves c) known end none was =
        by_bool (has_block v history) (has_block v history ≡ true) (λ gave. gave)
        (λ not_yet. elim (end.along.asked was) [
          | inl gave ↦ gave
          | inr is_open ↦
              let owed = (end.along.owed not_yet is_open.read is_open.among is_open.of).1 in
              elim (owed_end (IsAskOf posts name c.session v b) (IsReplyOf shape posts name c.session v b) ⊥ (KeepsOne c.session v b known.state.memory) (reverse done)
              (λ k is sent. ask_handed c.session k is) (λ k is sent. reply_handed c.session k is) owed) [
                | inl nothing ↦ absurd nothing
                | inr kept ↦ absurd (none is_open kept)
              ]
        ])
    ended history state.Closed known end none was = not_open (has_block v history) (end.along.asked was)
    ended history (state.Gathers d) known end none was = not_open (has_block v history) (end.along.asked was)
    ended history (state.Fetches d) known end none was = not_open (has_block v history) (end.along.asked was)
    ended history (state.Stages d) known end none was = not_open (has_block v history) (end.along.asked was)
    ended history (state.Switches d) known end none was = not_open (has_block v history) (end.along.asked was)

    -- The law, where each step is given and no ask is kept at the end.
    pub reads_end : (first : Held) → AreGiven [] 1 2 (new_client shape) (fresh shape name.region first) [] done
        → NoneKept v b (client_of volume posts (new_client shape) done) (known_of shape posts name (fresh shape name.region first) done)
        → was_asked shape events (read_question v b) (history_from volume events posts [] done) ≡ true → has_block v (history_from volume events posts [] done) ≡ true
    reads_end first given none was =
        ended (history_from volume events posts [] done) (client_of volume posts (new_client shape) done) (known_of shape posts name (fresh shape name.region first) done)
        (subst (λ (l : List TraceStep). IsEnd (history_from volume events posts [] done) (client_of volume posts (new_client shape) done) (known_of shape posts name (fresh shape name.region first) done) l) (append-nil (reverse done))
        (all_along done [] 1 2 (new_client shape) (fresh shape name.region first) [] (none_at_first first) given)) none was
