-- What is reached after some steps, and after one step more of a node.
use Rattle.std.proofs.Common.{◌≡◌, ◌∙◌, ⊎_elim, ℕ, ◌+◌, ◌<◌, nat_lt, Bool, true, false, if◌then◌else◌, List, [], ◌∷◌, refl, sym, ap, subst, arith}
use Rattle.std.specs.List.{list_all, list_any}
use Rattle.std.proofs.lemmas.Bool.{lt-ltb}
use Rattle.salus_types.specs.Volume.{Shape, regions, IsVolume}
use Rattle.salus_types.specs.declared.names.NodeName.{NodeName}
use Rattle.salus_types.specs.declared.names.Sender.{Sender}
use Rattle.salus_types.specs.declared.names.Sender.TheVariants as sender
use Rattle.schedule_text.specs.Limits.{IsOfVolume}
use Rattle.schedule_text.specs.declared.schedule.Event.{Event}
use Rattle.schedule_text.specs.declared.schedule.Volume.{Volume}
use Rattle.merkle_region.specs.Tree.{IsAmong}
use Rattle.volume_model.specs.Contents.{all_regions}
use Rattle.volume_model.specs.Groups.{is_client, group_of}
use Rattle.salus_model.specs.declared.trace.Handed.{Handed}
use Rattle.salus_model.specs.declared.trace.Handed.TheVariants as handed
use Rattle.salus_model.specs.declared.trace.TraceStep.{TraceStep}
use Rattle.salus_model.specs.Following.{Posted}
use Rattle.salus_model.specs.Guarding.{is_lied_for, counts, all_guarded}
use Rattle.salus_model.specs.Hearing.{Past, Silence, news_in, judge_of}
use Rattle.salus_model.specs.Due.{due_news, past_of}
use Rattle.run_rules.specs.Knowing.{KnownNode}
use Rattle.run_rules.specs.Running.{IsNodeStep}
use Rattle.list_lemmas.proofs.Members.{any_among, among_map, among_range, among_range-in}
use Rattle.list_lemmas.proofs.Tests.{and_left, and_right}
use Rattle.law_prefix.specs.World as abstract
use Rattle.law_prefix.specs.Good.{Good}
use Rattle.law_prefix.proofs.Kept.{good_run}
use Rattle.kept_model.specs.Nodes.{node_number, region_of_node, node_of, volume_as}
use Rattle.kept_model.specs.Counting.{counts_as}
use Rattle.law_refined.proofs.Listed.{and_both}
use Rattle.law_refined.proofs.Sending.{run_both}
use Rattle.law_refined.specs.Stepping.{StaysIn}
use Rattle.law_matched.specs.Silent.{silent_past, known_after, IsHandedRight, StepMatches, IsReached}
use Rattle.law_matched.proofs.Numbering.{region_numbered, node_numbered}
use Rattle.law_matched.proofs.Matched.{step_matches, replaced_matches, stays_kept}

all_at : {A : Type 0} (test : A → Bool) (xs : List A) (x : A) → list_all test xs ≡ true → IsAmong x xs → test x ≡ true
all_at test [] x all among = absurd among
all_at test (y ∷ xs) x all among =
    ⊎_elim (λ (same : x ≡ y). ap test same ∙ and_left (test y) (list_all test xs) all) (λ (later : IsAmong x xs). all_at test xs x (and_right (test y) (list_all test xs) all) later) among

-- a step of a node tells the client nothing
pub past_same : (volume : Volume) (events : List Event) (posts : List Posted) (history : List Past) (step : TraceStep) (name : NodeName) → step.party ≡ sender.Node name
    → past_of volume events posts history step ≡ silent_past volume.geometry events history step
unfolding due_news
past_same volume events posts history step name party =
    ap (λ b. record {
      step = step;
      news = if b then news_in posts step.handed else Silence;
      before = judge_of volume.geometry events history;
      lines = due_news volume events history (judge_of volume.geometry events history) step.event (if b then news_in posts step.handed else Silence);
    }) (ap (λ (who : Sender). is_client who) party)

-- each region has a node that counts, as the abstract model has it
pub guarded_as : (shape : Shape) → IsVolume shape → (events : List Event) (history : List Past) → all_guarded shape events history ≡ true → abstract.Guarded (volume_as shape events) (counts_as shape events history)
guarded_as shape limits events history all g inside =
    let some : list_any (λ name. counts events history name) (group_of shape g) ≡ true = all_at (λ r. list_any (λ name. counts events history name) (group_of shape r)) (all_regions shape) g all (among_range-in (regions shape) 0 g (omega arith) (let low : g < regions shape = inside in omega arith)) in
    let found = any_among (λ name. counts events history name) (group_of shape g) some in
    let name : NodeName = found.0 in
    let made = among_map (λ (k : ℕ). record { region = g; replica = k }) name _ found.1 in
    let low = among_range shape.replicas 0 made.0 made.1 in
    let region : name.region ≡ g = ap (λ (n : NodeName). n.region) made.2 in
    let replica : name.replica ≡ made.0 = ap (λ (n : NodeName). n.replica) made.2 in
    let less : made.0 < 0 + shape.replicas = low.1 in
    let few : made.0 < shape.replicas = omega arith in
    let valid : IsOfVolume shape name = (omega arith, omega arith) in
    let number : region_of_node shape (node_number shape name) ≡ g = region_numbered shape limits name valid ∙ region in (
      node_number shape name,
      number,
      and_both (nat_lt (region_of_node shape (node_number shape name)) (regions shape)) (counts events history (node_of shape (node_number shape name)))
          (ap (λ x. nat_lt x (regions shape)) number ∙ lt-ltb g (regions shape) inside) (ap (λ (n : NodeName). counts events history n) (node_numbered shape limits name valid) ∙ found.2),
    )

module _ (volume : Volume) (limits : IsVolume volume.geometry) (events : List Event) (honest_client : is_lied_for events sender.Client ≡ false) (posts : List Posted) (history : List Past) (known : NodeName → KnownNode) (sent : ℕ)
    (reached : IsReached volume.geometry events posts history known sent) (name : NodeName) (inside : IsOfVolume volume.geometry name) (step : TraceStep) (party : step.party ≡ sender.Node name)
    (own : IsNodeStep volume.geometry posts name (known name) sent step) (right : IsHandedRight events sent step.handed) (guarded : all_guarded volume.geometry events (past_of volume events posts history step ∷ history) ≡ true) where
  abbrev shape : Shape
  shape = volume.geometry

  good : Good (volume_as shape events) reached.now × abstract.Guarded (volume_as shape events) reached.now.counts
  good = good_run (volume_as shape events) reached.start reached.now reached.run reached.begun

  abbrev silent : Past
  silent = silent_past shape events history step

  guarded_then : abstract.Guarded (volume_as shape events) (counts_as shape events (silent ∷ history))
  guarded_then = guarded_as shape limits events (silent ∷ history) (subst (λ p. all_guarded shape events (p ∷ history) ≡ true) (past_same volume events posts history step name party) guarded)

  one : StepMatches shape events posts (silent ∷ history) (known_after shape posts known step) step.sent reached.now
  one = by_handed step.handed refl where
    stays : StaysIn step.handed → StepMatches shape events posts (silent ∷ history) (known_after shape posts known step) step.sent reached.now
    stays is =
        step_matches shape limits events honest_client posts history known sent reached.now reached.matches reached.stand good.1 reached.clients good.0.client.blank_known name inside step party own is (stays_kept step.handed is) right

    by_handed : (what : Handed) → step.handed ≡ what → StepMatches shape events posts (silent ∷ history) (known_after shape posts known step) step.sent reached.now
    by_handed (handed.Deliver k) is = stays (subst StaysIn (sym is) tt)
    by_handed (handed.Stop k) is = stays (subst StaysIn (sym is) tt)
    by_handed (handed.Lie from bytes) is = stays (subst StaysIn (sym is) tt)
    by_handed handed.Tick is = stays (subst StaysIn (sym is) tt)
    by_handed handed.Crash is = stays (subst StaysIn (sym is) tt)
    by_handed handed.Replace is =
        replaced_matches shape limits events honest_client posts history known sent reached.now reached.matches reached.stand good.1 reached.clients good.0.client.blank_known name inside step party own is
        (λ q at. good.0.counts_fresh q at) guarded_then
    by_handed (handed.Asked r) is = stays (subst StaysIn (sym is) tt)
    by_handed handed.ClientCrash is = stays (subst StaysIn (sym is) tt)

  pub node_reached : IsReached shape events posts (past_of volume events posts history step ∷ history) (known_after shape posts known step) step.sent
  node_reached =
      subst (λ p. IsReached shape events posts (p ∷ history) (known_after shape posts known step) step.sent) (sym (past_same volume events posts history step name party))
      (record {
        start = reached.start;
        now = one.after;
        begun = reached.begun;
        run = run_both (volume_as shape events) reached.start reached.now one.after reached.run one.run;
        matches = one.matches;
        stand = one.stand;
        clients = one.clients;
      })
