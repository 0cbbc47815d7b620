-- Of a whole run by the rules.
use Rattle.std.proofs.Common.{◌≡◌, ℕ, ◌+◌, ◌^◌, ◌<◌, ◌≤◌, false, List, [], ◌∷◌, ◌++◌, refl, sym, subst, arith, append_assoc, append-nil}
use Rattle.std.proofs.lemmas.Bool.{false≢true}
use Rattle.salus_types.specs.Volume.{Shape}
use Rattle.salus_types.specs.declared.names.NodeName.{NodeName}
use Rattle.salus_types.specs.declared.names.Sender.TheVariants as sender
use Rattle.schedule_text.specs.Limits.{IsWithinLimits}
use Rattle.schedule_text.specs.declared.schedule.Volume.{Volume}
use Rattle.schedule_text.specs.declared.schedule.Event.{Event}
use Rattle.merkle_region.specs.Tree.{NoTwoCollide}
use Rattle.volume_model.specs.Contents.{region_of}
use Rattle.salus_model.specs.declared.trace.TraceStep.{TraceStep}
use Rattle.salus_model.specs.Judge.{start_judge}
use Rattle.salus_model.specs.Following.{Posted, Follows}
use Rattle.salus_model.specs.Forgery.{NoForgery}
use Rattle.salus_model.specs.Guarding.{is_lied_for}
use Rattle.salus_model.specs.Hearing.{Past, since, phase_of}
use Rattle.salus_model.specs.Waiting.{all_taken}
use Rattle.salus_model.specs.Due.{history_from}
use Rattle.salus_model.specs.Complete.{IsSound}
use Rattle.salus_model.specs.Seen.{strings_of, NoCollision}
use Rattle.client_rules.specs.State as state
use Rattle.client_rules.specs.Rules.{new_client}
use Rattle.run_rules.specs.Knowing.{KnownNode, fresh}
use Rattle.run_rules.specs.Run.{IsByRules, formatted_first}
use Rattle.run_rules.specs.Running.{known_of, AllSteps, formatted}
use Rattle.run_rules.specs.Serving.{client_of}
use Rattle.list_lemmas.proofs.Each.{all_then}
use Rattle.law_lemmas.proofs.Settled.{start_settled}
use Rattle.law_lemmas.proofs.WellSent.{well_sent}
use Rattle.law_lines.proofs.Starting.{start_holds}
use Rattle.law_lines.proofs.Scripted.{fits_schedule}
use Rattle.law_lines.proofs.Whole.{AllScripted}
use Rattle.law_history.specs.Choosing.{ChoseRight}
use Rattle.law_history.proofs.Joined.{good_none}
use Rattle.law_history.proofs.Placed.{stands_first}
use Rattle.law_history.proofs.Standing.{grows_still}
use Rattle.law_history.proofs.Steps.{steps_of_all}
use Rattle.law_history.proofs.Supplied.{supplied_from, told_nothing}
use Rattle.law_handed.specs.Fitting as fitting
use Rattle.law_handed.proofs.Blocks.{spelled_closed}
use Rattle.law_handed.proofs.Ranged.{fresh_fits}
use Rattle.law_shown.proofs.Along.{nodes_show}
use Rattle.law_shown.proofs.Bringing.{all_spelled}
use Rattle.law_shown.proofs.Formatting.{formatted_fits}
use Rattle.law_runs.proofs.Rising.{sessions_rise}
use Rattle.law_posts.specs.Spelling.{IsSpellable}
use Rattle.law_posts.proofs.Running.{client_tags}
use Rattle.law_ranged.specs.Ranging.{IsSentWithin}
use Rattle.law_ranged.proofs.Along.{runs_within}
use Rattle.law_gathered.proofs.Stands.{all_scheduled}
use Rattle.law_reads.proofs.Events.{of_events}
use Rattle.law_reads.proofs.Given.{IsSpelled}
use Rattle.law_reads.proofs.Low.{fresh_low}
use Rattle.law_reads.proofs.Views.{held_low}
use Rattle.law_asked.specs.Asking.{AskedAlong, KeptBelow, IsAskedRight}
use Rattle.law_asked.proofs.Handled.{loaded_none}
use Rattle.law_asked.proofs.Kept.{WasAsked}
use Rattle.law_asked.proofs.Along.{IsAlong, AreGiven, over, along_then, given_then}
use Rattle.law_asked.proofs.Fair.{asks_at, fair_at, kept_below}

module _ (volume : Volume) (events : List Event) (posts : List Posted) (trace : List TraceStep) (limits : IsWithinLimits (record { volume = volume; events = events })) (strings : List (List ℕ)) (none : NoTwoCollide strings)
    (unlied : is_lied_for events sender.Client ≡ false) (name : NodeName) (sound : IsSound events trace name)
    (right : AllSteps volume.geometry posts name (fresh volume.geometry name.region (formatted volume name)) 0 trace) where
  abbrev shape : Shape
  shape = volume.geometry

  abbrev start : KnownNode
  start = fresh volume.geometry name.region (formatted volume name)

  abbrev Along : List TraceStep → List Past → ℕ → ℕ → state.Client → KnownNode → Type 0
  Along done history n top c known = IsAlong volume events posts trace limits strings none unlied name sound right done history n top c known

  abbrev Given : List Past → ℕ → ℕ → state.Client → KnownNode → List TraceStep → List TraceStep → Type 0
  Given history n m c known done rest = AreGiven volume events posts trace limits strings none unlied name sound right history n m c known done rest

  asked_from : (v b : ℕ) → region_of volume.geometry b ≡ name.region → (rest done : List TraceStep) (history : List Past) (n top : ℕ) (c : state.Client) (known : KnownNode)
      → Along done history n top c known → Given history n (top + 1) c known done rest → AskedAlong volume posts name v b c rest
  unfolding AskedAlong
  asked_from v b region [] done history n top c known a given = tt
  asked_from v b region (t ∷ rest) done history n top c known a given =
      let handed = over volume events posts trace limits strings none unlied name sound right done history n top c known a t rest given in (
        fair_at volume events posts history _ n (top + 1) _ a.small t handed trace name sound a.standing.settled.sized a.rooted v b region c a.holds,
        asks_at volume events posts history _ n (top + 1) _ a.small t handed unlied v b c a.holds a.asks,
        asked_from v b region rest (done ++ t ∷ []) _ _ _ _ _ (along_then volume events posts trace limits strings none unlied name sound right done history n top c known a t rest given)
            (given_then volume events posts trace limits strings none unlied name sound right done history n top c known a t rest given),
      )

  -- ---- at the end of a front part

  record IsEnd (done : List TraceStep) : Type 0 where
    pub history : List Past
    pub n : ℕ
    pub top : ℕ
    pub c : state.Client
    pub known : KnownNode
    pub along : Along done history n top c known

  end_of : (more rest done : List TraceStep) (history : List Past) (n top : ℕ) (c : state.Client) (known : KnownNode)
      → Along done history n top c known → Given history n (top + 1) c known done (more ++ rest) → IsEnd (done ++ more)
  end_of [] rest done history n top c known a given =
      subst IsEnd (sym (append-nil done)) (record { history = history; n = n; top = top; c = c; known = known; along = a })
  end_of (t ∷ more) rest done history n top c known a given =
      subst IsEnd (append_assoc done (t ∷ []) more)
      (end_of more rest (done ++ t ∷ []) _ _ _ _ _ (along_then volume events posts trace limits strings none unlied name sound right done history n top c known a t (more ++ rest) given)
      (given_then volume events posts trace limits strings none unlied name sound right done history n top c known a t (more ++ rest) given))

  below_at : (b : ℕ) (done : List TraceStep) → IsEnd done → KeptBelow volume.geometry b (client_of volume posts (new_client volume.geometry) done) (known_of volume.geometry posts name start done)
  below_at b done end =
      subst (λ (c : state.Client). KeptBelow volume.geometry b c (known_of volume.geometry posts name start done)) (sym end.along.client_is)
      (subst (λ (k : KnownNode). KeptBelow volume.geometry b end.c k) (sym end.along.known_is)
      (kept_below volume posts end.n (end.top + 1) _ end.c end.known end.along.asks end.along.kept b))

  -- ---- at first

  pub first_along : Along [] [] 1 1 (new_client volume.geometry) start
  unfolding client_of known_of all_taken since phase_of ChoseRight AllScripted
  first_along = record {
    client_is = refl;
    known_is = refl;
    standing = record {
      is = refl;
      settled = start_settled volume.geometry;
      phase = tt;
      good = good_none volume.geometry events 1;
      kept = record { late = λ r among. absurd among; low = omega arith; answered = λ v among. absurd (false≢true among); acked = omega arith };
      heard = λ q among. absurd among;
      reached = record { first = grows_still volume events strings (start_judge volume.geometry) (start_judge volume.geometry) refl; each = λ q among. absurd among; chose = tt };
    };
    holds = start_holds volume;
    some = omega arith;
    small = omega arith;
    script = tt;
    keeps = tt;
    asks = λ a was. (let counted : 0 < was.k = was.counted in let low : was.k ≤ 0 = was.low in absurd (omega (arith, counted, low)));
    posted = λ k counted low rec among. absurd (omega (arith, counted, low));
    kept = loaded_none volume.geometry (WasAsked posts 0) name.region (formatted volume name);
    letters = tt;
    rooted = λ k counted low post at from a reads. absurd (omega (arith, counted, low));
    fit = λ within. fresh_fits volume.geometry fitting.IsSpelled fitting.IsSpelled (fitting.IsShaped volume.geometry) (spelled_closed volume.geometry) name.region (formatted volume name) (formatted_fits volume name limits.volume within);
    low = λ within. fresh_low volume.geometry (2 ^ 64) name.region (formatted volume name) (held_low volume.geometry (formatted volume name) (formatted_fits volume name limits.volume within));
  }

  -- The law, of what is given of a run.
  pub asked_right : Given [] 1 2 (new_client volume.geometry) start [] trace → IsAskedRight volume posts trace (formatted volume) name
  asked_right given = record {
    along = λ v b region. asked_from v b region trace [] [] 1 1 (new_client volume.geometry) start first_along given;
    kept = λ done rest whole b. below_at b done
        (end_of done rest [] [] 1 1 (new_client volume.geometry) start first_along (subst (λ (l : List TraceStep). Given [] 1 2 (new_client volume.geometry) start [] l) whole given));
  }

-- What is given of a run.
pub run_given : (volume : Volume) (events : List Event) (posts : List Posted) (trace : List TraceStep) (limits : IsWithinLimits (record { volume = volume; events = events }))
    → Follows events posts trace → (apart : NoCollision volume events posts trace) → NoForgery volume events posts trace → (by : IsByRules volume (formatted_first volume) posts trace)
    → (unlied : is_lied_for events sender.Client ≡ false) (name : NodeName) (sound : IsSound events trace name)
    → AreGiven volume events posts trace limits (strings_of volume.geometry (history_from volume events posts [] trace)) (steps_of_all volume events posts trace apart) unlied name sound (by.nodes name) [] 1 2
    (new_client volume.geometry) (fresh volume.geometry name.region (formatted volume name)) [] trace
run_given volume events posts trace limits follows apart unforged by unlied name sound =
    let strings : List (List ℕ) = strings_of volume.geometry (history_from volume events posts [] trace) in
    let none : NoTwoCollide strings = steps_of_all volume events posts trace apart in
    let kept = runs_within volume events posts trace limits follows by in
    let few = limits.few in
    let well = well_sent posts events [] [] 1 trace follows in
    let tags = client_tags volume events posts trace limits follows (all_then (IsSentWithin volume.geometry) (λ l. IsSpellable l.message) (λ l sent. (sent.counts, sent.widths)) _ kept.2) by.client in
    let shows = nodes_show volume events posts trace limits.volume follows kept.1 kept.0 by.nodes in
    record {
      whole = refl;
      fit = fits_schedule events posts trace (omega (arith, few)) (sessions_rise events 1 2 (omega arith) limits.rising) follows;
      node = by.nodes name;
      client = by.client;
      well = well;
      of = of_events events posts events (λ e among. among) [] [] 1 trace follows;
      scheduled = all_scheduled events posts events [] [] 1 trace (stands_first events) follows;
      shows = supplied_from volume events strings none posts trace [] (told_nothing volume events strings none posts) well shows tags unforged;
      tags = tags;
      within = λ s among. among;
      spelled = all_then (IsSentWithin volume.geometry) IsSpelled (λ l sent. (sent.counts, sent.widths)) _ kept.2;
      inside = λ t among. among;
      addressed = kept.0;
      given = all_spelled posts name trace kept.1;
    }

-- THE LAW.
pub all_asked_right : (volume : Volume) (events : List Event) (posts : List Posted) (trace : List TraceStep) → IsWithinLimits (record { volume = volume; events = events })
    → Follows events posts trace → NoCollision volume events posts trace → NoForgery volume events posts trace → IsByRules volume (formatted_first volume) posts trace
    → is_lied_for events sender.Client ≡ false → (name : NodeName) → IsSound events trace name → IsAskedRight volume posts trace (formatted volume) name
all_asked_right volume events posts trace limits follows apart unforged by unlied name sound =
    asked_right volume events posts trace limits (strings_of volume.geometry (history_from volume events posts [] trace)) (steps_of_all volume events posts trace apart) unlied name sound (by.nodes name)
    (run_given volume events posts trace limits follows apart unforged by unlied name sound)
