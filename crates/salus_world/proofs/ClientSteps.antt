-- A world goes on by a step of the client.
use Rattle.std.proofs.Common.{◌≡◌, ◌∙◌, ℕ, ◌+◌, ◌^◌, ◌<◌, ◌≤◌, Bool, true, false, if◌then◌else◌, List, [], ◌∷◌, ◌++◌, map, length, reverse, slice_get, Option, None, Some, refl, sym, ap, subst, arith}
use Rattle.std.specs.List.{AllByRecursion}
use Rattle.std.proofs.lemmas.List.{length-map}
use Rattle.salus_types.specs.Volume.{Shape}
use Rattle.salus_types.specs.declared.names.NodeName.{NodeName}
use Rattle.salus_types.specs.declared.names.Sender.{Sender}
use Rattle.salus_types.specs.declared.names.Sender.TheVariants as sender
use Rattle.salus_types.specs.declared.records.Out.{Out}
use Rattle.schedule_text.specs.declared.schedule.Volume.{Volume}
use Rattle.schedule_text.specs.declared.schedule.Event.{Event}
use Rattle.schedule_text.specs.Limits.{IsPartyOfVolume}
use Rattle.printed_lines.specs.declared.line.Line.{Line}
use Rattle.salus_model.specs.declared.trace.Handed.{Handed}
use Rattle.salus_model.specs.declared.trace.Handed.TheVariants as handed
use Rattle.salus_model.specs.declared.trace.Request.{Request}
use Rattle.salus_model.specs.declared.trace.TraceStep.{TraceStep}
use Rattle.salus_model.specs.Following.{Posted, posted, posts_of, posted_at, sent_by, loads}
use Rattle.salus_model.specs.Hearing.{News, Asks, Crashes, Silence, news_from, news_of_post, news_of}
use Rattle.client_rules.specs.State.{Client, Letter}
use Rattle.client_rules.specs.Rules.{told, ticked, is_tick, client_step}
use Rattle.client_premises.specs.Premises.{IsApart}
use Rattle.client_premises.proofs.Along.{next}
use Rattle.posting.specs.Letters.{out_of_letter}
use Rattle.run_rules.specs.Calm.{is_harmed}
use Rattle.run_course.specs.Course.{Course}
use Rattle.list_lemmas.proofs.Each.{all_both}
use Rattle.law_ranged.specs.Ranging.{IsSentWithin}
use Rattle.law_ranged.proofs.Bounded.{ClientFits, RequestFits}
use Rattle.law_ranged.proofs.Opened.{NewsWithin}
use Rattle.client_asking.specs.declared.step.Step.{Step}
use Rattle.client_node.specs.declared.node.ClientNode.{ClientNode}
use Rattle.client_node.specs.Standing.{IsClient, shape_of, newest_of, IsTold}
use Rattle.disk_model.specs.declared.disk.Disk.{Ghosts}
use Rattle.disk_node.specs.declared.node.DiskNode.{DiskNode}
use Rattle.disk_node.specs.Fitting.{Fits}
use Rattle.unanimous_certificate.specs.Kept.{node_place}
use Rattle.run_steps.specs.Steps.{IsFront, known_at, with_step}
use Rattle.run_steps.specs.Waiting.{AreMarked}
use Rattle.run_steps.specs.Parties.{posts_by}
use Rattle.run_steps.proofs.Fronts.{front_before}
use Rattle.run_steps.proofs.Stepping.{newest_first, known_next}
use Rattle.run_steps.proofs.Calming.{calm_next, harmed_still, client_loads}
use Rattle.run_steps.proofs.Sending.{posts_within, posts_own, heard, news_fit, asked_fit}
use Rattle.run_steps.proofs.Making.{Adds, is_step, client_made_by}
use Rattle.salus_world.specs.declared.world.World.{World}
use Rattle.salus_world.specs.Places.{FitAll, SureAll}
use Rattle.salus_world.specs.Growing.{marks_of}
use Rattle.salus_world.specs.Kept.{Origin, IsRun, IsKept, HasStepped}

-- what the client and its messages and lines are after a step, if it was that client before it
abbrev pub IsAnswer : Volume → List Posted → TraceStep → ClientNode → List Out → List Line → Client → Type 0
IsAnswer volume posts step node outs said d =
    IsClient node volume (next volume posts d step) × (outs ≡ map out_of_letter (client_step volume posts d step).outs) × (said ≡ (client_step volume posts d step).lines)

-- its bounds after it, and those of its messages
abbrev pub StaysFit : Volume → List Posted → TraceStep → ℕ → Client → Type 0
StaysFit volume posts step b d = ClientFits volume.geometry b (next volume posts d step) × AllByRecursion (IsSentWithin volume.geometry) (client_step volume posts d step).outs

module _ {D : Type 0} {g : Ghosts D} {lane : _} (origin : Origin) (volume : Volume) (all : List Event) (b next_b n : ℕ) (old new : World D g lane) (c : Course) (kept : IsKept origin volume all b n old c) (what : Handed) (outs : List Out) (said : List Line) where
  abbrev shape : Shape
  shape = volume.geometry

  abbrev sent : List Posted
  sent = posts_of old.sent.items

  abbrev added : List Posted
  added = posts_by shape sender.Client outs

  -- the step in the trace
  abbrev pub the_step : TraceStep
  the_step = record { event = n; party = sender.Client; handed = what; sent = length (sent ++ added); failed = false; loaded = None }

  module _ (loaded_then : false ≡ loads what) (up : b ≤ next_b) (few : next_b ≤ 2 ^ 32)
      (answers : (posts : List Posted) → IsFront sent posts → (d : Client) → IsClient old.client volume d → IsApart volume d (news_of posts the_step) → IsAnswer volume posts the_step new.client outs said d)
      (fits : (posts : List Posted) → IsFront sent posts → (d : Client) → ClientFits shape b d → StaysFit volume posts the_step next_b d)
      (posts_now : posts_of new.sent.items ≡ sent ++ added)
      (marked_now : AreMarked (the_step ∷ reverse c.trace) c.dropped new.lowest (marks_of new.sent.items))
      (nodes_same : new.nodes.items ≡ old.nodes.items) (lines_now : new.lines.items ≡ old.lines.items ++ said) (geometry_same : new.geometry ≡ old.geometry)
      (shape_same : shape_of new.client ≡ shape_of old.client) (newest_now : newest_of new.client < next_b) where
    abbrev trace_now : List TraceStep
    trace_now = c.trace ++ the_step ∷ []

    back : reverse trace_now ≡ the_step ∷ reverse c.trace
    back = newest_first c.trace the_step

    adds : Adds sent c.trace n sender.Client what added the_step
    adds = record {
      number = refl;
      addressed = refl;
      hands_it = refl;
      before = kept.count ∙ sym (length-map old.sent.items posted);
      now = refl;
      own = posts_own shape sender.Client outs;
      loaded_then = loaded_then;
    }

    module _ (posts : List Posted) (front : IsFront (posts_of new.sent.items) posts) where
      front_now : IsFront (sent ++ added) posts
      front_now = subst (λ (l : List Posted). IsFront l posts) posts_now front

      front_old : IsFront sent posts
      front_old = front_before sent added posts front_now

      run : IsRun origin.first volume b c.trace c.told old.nodes.items old.client posts
      run = kept.runs posts front_old

      fit_all : FitAll shape (known_at origin.first volume posts trace_now) new.nodes.items
      fit_all = λ name of node at. subst (λ k. Fits shape name k node) (sym (known_next volume posts origin.first c.trace the_step name))
          (run.nodes_fit name of node (subst (λ (l : List (DiskNode D g lane)). slice_get l (node_place shape name) ≡ Some node) nodes_same at))

      run_now : IsRun origin.first volume next_b trace_now (c.told ++ said ∷ []) new.nodes.items new.client posts
      run_now =
          let both = client_made_by origin.first volume kept.limits posts sent c.trace c.told the_step outs n b next_b what said (λ d. IsClient old.client volume d) (λ d. IsClient new.client volume d)
          adds front_now run.made run.client_is refl refl (λ d is apart. answers posts front_old d is apart) (λ d f. fits posts front_old d f) in
          record { made = both.0; nodes_fit = fit_all; client_is = both.1 }

    sure_now : origin.sure ≡ true → SureAll shape (is_harmed all (the_step ∷ reverse c.trace) n) new.nodes.items
    sure_now surely = λ name of node at calm.
        kept.sure surely name of node (subst (λ (l : List (DiskNode D g lane)). slice_get l (node_place shape name) ≡ Some node) nodes_same at)
        (sym (harmed_still all (reverse c.trace) the_step n name (client_loads all the_step name refl)) ∙ calm)

    pub client_kept : HasStepped origin volume all next_b n sender.Client what old new c
    client_kept = record {
      step = the_step;
      said = said;
      more = record { more = added; whole = posts_now };
      number = refl;
      is_step = λ posts front. is_step sent c.trace n sender.Client what added the_step posts adds (front_now posts front);
      kept = record {
        limits = kept.limits;
        some = (let low = kept.some in omega (arith, low, up));
        few = few;
        runs = run_now;
        count = ap sent_by back ∙ (ap length (sym posts_now) ∙ length-map new.sent.items posted);
        within = subst (λ (l : List Posted). AllByRecursion (λ m. IsPartyOfVolume shape m.from × IsPartyOfVolume shape m.to) l) (sym posts_now)
            (all_both (λ m. IsPartyOfVolume shape m.from × IsPartyOfVolume shape m.to) sent added kept.within (posts_within shape sender.Client outs tt));
        marked = subst (λ (l : List TraceStep). AreMarked l c.dropped new.lowest (marks_of new.sent.items)) (sym back) marked_now;
        calm = λ surely. calm_next all c.trace the_step (kept.calm surely) (λ fails. absurd (cc));
        sure = λ surely. subst (λ (l : List TraceStep). SureAll shape (is_harmed all l n) new.nodes.items) (sym back) (sure_now surely);
        numbered = subst (λ (l : List TraceStep). AllByRecursion (λ s. s.event ≤ n) l) (sym back) (omega arith, kept.numbered);
        lines = lines_now ∙ ap (λ (l : List Line). l ++ said) kept.lines;
        geometry = geometry_same ∙ kept.geometry;
        shape = shape_same ∙ kept.shape;
        newest = newest_now;
        count_nodes = ap length nodes_same ∙ kept.count_nodes;
      };
    }

-- ---- what a step tells the client

module _ (volume : Volume) (posts : List Posted) (n : ℕ) (what : Handed) (count : ℕ) where
  abbrev step_of : TraceStep
  step_of = record { event = n; party = sender.Client; handed = what; sent = count; failed = false; loaded = None }

  pub answer_told : (x : News) (node : ClientNode) (step : Step) (d : Client) → news_of posts step_of ≡ x → is_tick what ≡ false → IsTold volume (told volume d n x) node step
      → IsAnswer volume posts step_of node step.outs.items step.lines.items d
  answer_told x node step d news no_tick is = (
    subst (λ (y : News). IsClient node volume (told volume d n y).client) (sym news) is.client,
    is.outs ∙ ap (λ (l : List Letter). map out_of_letter l) (ap (λ (y : News). (told volume d n y).outs) (sym news) ∙ sym (ap (λ (t : Bool). if t then ticked volume.geometry d else (told volume d n (news_of posts step_of)).outs) no_tick)),
    is.lines ∙ ap (λ (y : News). (told volume d n y).lines) (sym news),
  )
