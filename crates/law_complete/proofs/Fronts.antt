-- At the end of each front part of a run: what is known of all nodes, and of the abstract world that is reached.
use Rattle.std.proofs.Common.{◌≡◌, ℕ, false, List, [], ◌∷◌, ◌++◌, refl, subst}
use Rattle.salus_types.specs.declared.names.NodeName.{NodeName}
use Rattle.salus_types.specs.declared.names.Sender.TheVariants as sender
use Rattle.merkle_region.specs.Tree.{NoTwoCollide}
use Rattle.schedule_text.specs.Limits.{IsWithinLimits}
use Rattle.schedule_text.specs.declared.schedule.Event.{Event}
use Rattle.schedule_text.specs.declared.schedule.Volume.{Volume}
use Rattle.salus_model.specs.declared.trace.TraceStep.{TraceStep}
use Rattle.salus_model.specs.Due.{past_of, history_from}
use Rattle.salus_model.specs.Following.{Follows, Posted}
use Rattle.salus_model.specs.Forgery.{NoForgery}
use Rattle.salus_model.specs.Guarding.{is_lied_for, Guarded}
use Rattle.salus_model.specs.Hearing.{Past, news_of}
use Rattle.salus_model.specs.Seen.{NoCollision}
use Rattle.client_rules.specs.State as state
use Rattle.client_rules.specs.Rules.{client_step, new_client}
use Rattle.run_rules.specs.Knowing.{KnownNode}
use Rattle.run_rules.specs.Run.{IsByRules, formatted_first}
use Rattle.run_rules.specs.Running.{after, known_of}
use Rattle.law_lines.specs.Ready.{event_after}
use Rattle.law_posts.proofs.Along.{top_after}
use Rattle.law_kept.proofs.Along.{IsAlong, IsGiven}
use Rattle.law_kept.proofs.Next.{along_then}
use Rattle.law_kept.proofs.Starting.{known_first, first_along}
use Rattle.law_kept.proofs.Whole.{AreGiven, given_here, given_rest, strings, none, guarded_first, all_given}

module _ (volume : Volume) (events : List Event) (posts : List Posted) (limits : IsWithinLimits (record { volume = volume; events = events })) (strings_now : List (List ℕ)) (apart : NoTwoCollide strings_now)
    (unlied : is_lied_for events sender.Client ≡ false) where
  -- at the end of these steps, before which that was known of the nodes
  pub record IsEnd (history : List Past) (start : NodeName → KnownNode) (more : List TraceStep) : Type 0 where
    pub n : ℕ
    pub top : ℕ
    pub c : state.Client
    pub known : NodeName → KnownNode
    pub sent : ℕ
    pub along : IsAlong volume events posts limits strings_now apart history n top c known sent
    pub same : (name : NodeName) → known name ≡ known_of volume.geometry posts name (start name) more

  pub end_of : (more rest : List TraceStep) (history : List Past) (n top : ℕ) (c : state.Client) (known : NodeName → KnownNode) (sent : ℕ) → IsAlong volume events posts limits strings_now apart history n top c known sent
      → AreGiven volume events posts limits strings_now apart unlied history n top c known sent (more ++ rest) → IsEnd (history_from volume events posts history more) known more
  unfolding history_from known_of
  end_of [] rest history n top c known sent a given = record { n = n; top = top; c = c; known = known; sent = sent; along = a; same = λ name. refl }
  end_of (t ∷ more) rest history n top c known sent a given =
      let here : IsGiven volume events posts limits strings_now apart history n top c known sent t = given_here volume events posts limits strings_now apart unlied history n top c known sent t (more ++ rest) a given in
      let end : IsEnd (history_from volume events posts (past_of volume events posts history t ∷ history) more) (λ name. after volume.geometry posts name (known name) t) more =
      end_of more rest (past_of volume events posts history t ∷ history) (event_after n t.event (news_of posts t)) (top_after top (news_of posts t)) (client_step volume posts c t).client (λ name. after volume.geometry posts name (known name) t) t.sent
      (along_then volume events posts limits strings_now apart unlied history n top c known sent a t here)
      (given_rest volume events posts limits strings_now apart unlied history n top c known sent t (more ++ rest) given) in
      record { n = end.n; top = end.top; c = end.c; known = end.known; sent = end.sent; along = end.along; same = end.same }

module _ (volume : Volume) (events : List Event) (posts : List Posted) (trace : List TraceStep) (limits : IsWithinLimits (record { volume = volume; events = events })) (follows : Follows events posts trace)
    (apart : NoCollision volume events posts trace) (unforged : NoForgery volume events posts trace) (by : IsByRules volume (formatted_first volume) posts trace) (guarded : Guarded volume events posts trace) where
  abbrev pub End : List TraceStep → Type 0
  End done =
      IsEnd volume events posts limits (strings volume events posts trace limits follows apart unforged by guarded) (none volume events posts trace limits follows apart unforged by guarded) guarded.client
      (history_from volume events posts [] done) (known_first volume events posts limits) done

  pub ends : (done rest : List TraceStep) → trace ≡ done ++ rest → End done
  ends done rest whole =
      let all : List (List ℕ) = strings volume events posts trace limits follows apart unforged by guarded in
      let no_two : NoTwoCollide all = none volume events posts trace limits follows apart unforged by guarded in
      end_of volume events posts limits all no_two guarded.client done rest [] 1 1 (new_client volume.geometry) (known_first volume events posts limits) 0
      (first_along volume events posts limits all no_two (guarded_first volume events posts trace limits follows apart unforged by guarded (history_from volume events posts [] trace) guarded.groups))
      (subst (λ (l : List TraceStep). AreGiven volume events posts limits all no_two guarded.client [] 1 1 (new_client volume.geometry) (known_first volume events posts limits) 0 l) whole
      (all_given volume events posts trace limits follows apart unforged by guarded))
