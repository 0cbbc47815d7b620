-- A world goes on by a step of a node.
use Rattle.std.proofs.Common.{◌≡◌, ◌∙◌, ◌⊎◌, inl, inr, ℕ, zero, suc, ◌+◌, ◌-◌, ◌<◌, ◌≤◌, Bool, true, false, nat_lt, if◌then◌else◌, List, [], ◌∷◌, ◌++◌, map, length, reverse, slice_get, Option, None, Some, refl, sym, ap, subst, append-nil, length-append, arith}
use Rattle.std.specs.Prelude.{is_some, option_map}
use Rattle.std.specs.Option.{option_map_or}
use Rattle.std.specs.List.{AllByRecursion}
use Rattle.std.proofs.lemmas.Bool.{lt-ltb}
use Rattle.std.proofs.lemmas.List.{length-map}
use Rattle.std.proofs.lemmas.Option.{none-some, same_Some}
use Rattle.salus_types.specs.Volume.{Shape}
use Rattle.salus_types.specs.declared.names.NodeName.{NodeName}
use Rattle.salus_types.specs.declared.names.Sender.{Sender}
use Rattle.salus_types.specs.declared.names.Sender.TheVariants as sender
use Rattle.salus_types.specs.declared.records.Held.{Held}
use Rattle.salus_types.specs.declared.records.Out.{Out}
use Rattle.schedule_text.specs.declared.schedule.Volume.{Volume}
use Rattle.schedule_text.specs.declared.schedule.Event.{Event}
use Rattle.schedule_text.specs.Limits.{IsOfVolume, IsPartyOfVolume}
use Rattle.holding_model.specs.Holding.{nothing_held}
use Rattle.salus_model.specs.declared.sending.Sent.{Sent}
use Rattle.salus_model.specs.declared.trace.Handed.{Handed}
use Rattle.salus_model.specs.declared.trace.Handed.TheVariants as handed
use Rattle.salus_model.specs.declared.trace.TraceStep.{TraceStep}
use Rattle.salus_model.specs.Following.{Posted, posted, posts_of, posted_at, sent_by, loads}
use Rattle.salus_model.specs.Complete.{is_stop}
use Rattle.volume_model.specs.Groups.{same_node}
use Rattle.replica_rules.specs.Rules.{Input, Receives}
use Rattle.posting.specs.Sendings.{out_of_sending}
use Rattle.run_rules.specs.Knowing.{KnownNode, fresh, after_input, outs_of, input_of_post, input_of, after_handed, outs_to, known_to, LoadsRight}
use Rattle.run_rules.specs.Calm.{MayFail, is_harmed}
use Rattle.run_course.specs.Course.{Course}
use Rattle.unanimous_certificate.specs.Kept.{node_place}
use Rattle.merkle_region.specs.Tree.{IsAmong}
use Rattle.list_lemmas.proofs.Each.{all_both}
use Rattle.client_node.specs.declared.node.ClientNode.{ClientNode}
use Rattle.client_node.specs.Standing.{IsClient, shape_of, newest_of}
use Rattle.law_ranged.proofs.Bounded.{ClientFits}
use Rattle.disk_model.specs.declared.disk.Disk.{Ghosts}
use Rattle.disk_node.specs.declared.node.DiskNode.{DiskNode}
use Rattle.disk_node.specs.declared.outcome.Outcome.{Outcome}
use Rattle.disk_node.specs.Fitting.{Fits, IsUnharmed, IsAnswered, IsStopped, IsReloaded, held_in}
use Rattle.run_steps.specs.Steps.{IsFront, known_at, OfClient, with_step}
use Rattle.run_steps.specs.Waiting.{AreMarked}
use Rattle.run_steps.specs.Parties.{posts_by}
use Rattle.run_steps.proofs.Fronts.{front_before, posted_front}
use Rattle.run_steps.proofs.Stepping.{same_name, newest_first, known_next, client_stays}
use Rattle.run_steps.proofs.Calming.{calm_next, harmed_still, other_loads, unloading, may_fail}
use Rattle.run_steps.proofs.Sending.{posts_within, posts_own}
use Rattle.run_steps.proofs.Making.{Adds, is_step, node_step}
use Rattle.salus_world.specs.declared.world.World.{World}
use Rattle.salus_world.specs.Places.{FitAll, SureAll, ChangesAt}
use Rattle.salus_world.specs.Growing.{marks_of}
use Rattle.salus_world.specs.Kept.{Origin, IsRun, IsKept, HasStepped}
use Rattle.salus_world.proofs.Seats.{count_stays, changed_fits, changed_sure}

-- ---- what is right for the node that the step addresses

pub record IsRight {D : Type 0} {g : Ghosts D} {lane : _} (shape : Shape) (name : NodeName) (posts : List Posted) (known : KnownNode) (what : Handed) (failed : Bool) (loaded : Option Held) (outs : List Out) (node : DiskNode D g lane) : Type 0 where
  pub fits : Fits shape name (known_to shape name.region posts known what failed loaded) node
  pub sends : outs ≡ map out_of_sending (outs_to shape name.region posts known what failed)
  pub quiet : known.silent ≡ true → failed ≡ false
  pub right : LoadsRight shape name.region posts known what failed loaded

module _ {D : Type 0} {g : Ghosts D} {lane : _} (shape : Shape) (name : NodeName) (posts : List Posted) (known : KnownNode) (what : Handed) (input : Input) (given : input_of posts what ≡ Some input) (outcome : Outcome) (node : DiskNode D g lane) where
  pub right_input : LoadsRight shape name.region posts known what outcome.failed None → IsAnswered shape name known input outcome node → IsRight shape name posts known what outcome.failed None outcome.outs node
  right_input right a = record {
    fits = subst (λ (o : Option Input). Fits shape name (option_map_or (λ i. after_input shape name.region known i outcome.failed) o known) node) (sym given) a.fits;
    sends = a.outs ∙ ap (λ (o : Option Input). map out_of_sending (option_map_or (λ i. outs_of shape name.region known i outcome.failed) o [])) (sym given);
    quiet = a.quiet;
    right = right;
  }

  -- what the disk may mean before the load
  pub stopped_among : (held : Held) → IsAmong held (after_input shape name.region known input outcome.failed).contents → IsAmong held (after_handed shape name.region posts known what outcome.failed).contents
  stopped_among held among = subst (λ (o : Option Input). IsAmong held (option_map_or (λ i. after_input shape name.region known i outcome.failed) o known).contents) (sym given) among

  pub right_stop : LoadsRight shape name.region posts known what outcome.failed (Some (held_in node)) → IsStopped shape name known input outcome node → IsRight shape name posts known what outcome.failed (Some (held_in node)) outcome.outs node
  right_stop right s = record {
    fits = s.loaded.fits;
    sends = s.outs ∙ ap (λ (o : Option Input). map out_of_sending (option_map_or (λ i. outs_of shape name.region known i outcome.failed) o [])) (sym given);
    quiet = s.quiet;
    right = right;
  }

pub right_crash : {D : Type 0} {g : Ghosts D} {lane : _} (shape : Shape) (name : NodeName) (posts : List Posted) (known : KnownNode) (node : DiskNode D g lane) → IsReloaded shape name known node → IsRight shape name posts known handed.Crash false (Some (held_in node)) [] node
right_crash shape name posts known node r = record { fits = r.fits; sends = refl; quiet = λ silent. refl; right = (refl, r.among) }

pub right_replace : {D : Type 0} {g : Ghosts D} {lane : _} (shape : Shape) (name : NodeName) (posts : List Posted) (known : KnownNode) (node : DiskNode D g lane) → Fits shape name (fresh shape name.region nothing_held) node
    → IsRight shape name posts known handed.Replace false (Some nothing_held) [] node
right_replace shape name posts known node fits = record { fits = fits; sends = refl; quiet = λ silent. refl; right = (refl, refl) }

-- ---- the message of an index

got_map : {A B : Type 0} (f : A → B) (xs : List A) (i : ℕ) (x : A) → slice_get xs i ≡ Some x → slice_get (map f xs) i ≡ Some (f x)
got_map f [] i x at = absurd (none-some x at)
got_map f (y ∷ xs) zero x at = ap (λ z. Some (f z)) (same_Some y x at)
got_map f (y ∷ xs) (suc i) x at = got_map f xs i x at

inside : {A : Type 0} (xs : List A) (i : ℕ) (x : A) → slice_get xs i ≡ Some x → i < length xs
inside [] i x at = absurd (none-some x at)
inside (y ∷ xs) zero x at = omega arith
inside (y ∷ xs) (suc i) x at = let rest = inside xs i x at in omega (arith, rest)

pub posted_index : (sent : List Posted) (posts : List Posted) (i : ℕ) (m : Posted) → IsFront sent posts → slice_get sent i ≡ Some m → posted_at posts (i + 1) ≡ Some m
posted_index sent posts i m front at =
    let low = inside sent i m at in
    let up : nat_lt 0 (i + 1) ≡ true = lt-ltb 0 (i + 1) (omega arith) in
    posted_front sent posts (i + 1) front (omega (arith, low))
    ∙ (ap (λ (b : Bool). if b then slice_get sent (i + 1 - 1) else None) up ∙ (ap (λ (k : ℕ). slice_get sent k) (omega arith) ∙ at))

pub posted_sent : (sent : List Sent) (i : ℕ) (m : Sent) → slice_get sent i ≡ Some m → slice_get (posts_of sent) i ≡ Some (posted m)
posted_sent sent i m at = got_map posted sent i m at

-- ---- one step

module _ {D : Type 0} {g : Ghosts D} {lane : _} (origin : Origin) (volume : Volume) (all : List Event) (b n : ℕ) (old new : World D g lane) (c : Course) (kept : IsKept origin volume all b n old c) (name : NodeName) (of : IsOfVolume volume.geometry name) (what : Handed) (failed : Bool) (loaded : Option Held) (outs : List Out) where
  abbrev shape : Shape
  shape = volume.geometry

  abbrev sent : List Posted
  sent = posts_of old.sent.items

  abbrev added : List Posted
  added = posts_by shape (sender.Node name) outs

  -- the step in the trace
  abbrev pub the_step : TraceStep
  the_step = record { event = n; party = sender.Node name; handed = what; sent = length (sent ++ added); failed = failed; loaded = loaded }

  module _ (How : DiskNode D g lane → DiskNode D g lane → Type 0) (change : ChangesAt (node_place shape name) old.nodes.items new.nodes.items How) (loaded_then : is_some loaded ≡ loads what)
      (right : (posts : List Posted) (known : KnownNode) → IsFront sent posts → Fits shape name known change.was → IsRight shape name posts known what failed loaded outs change.is)
      (calm_here : (is_stop what ≡ true) ⊎ (IsUnharmed change.was → failed ≡ false))
      (sure_here : (loads what ≡ false → IsUnharmed change.was) → IsUnharmed change.is)
      (posts_now : posts_of new.sent.items ≡ sent ++ added)
      (marked_now : AreMarked (the_step ∷ reverse c.trace) c.dropped new.lowest (marks_of new.sent.items))
      (client_same : new.client ≡ old.client) (lines_same : new.lines.items ≡ old.lines.items) (geometry_same : new.geometry ≡ old.geometry) where
    abbrev trace_now : List TraceStep
    trace_now = c.trace ++ the_step ∷ []

    back : reverse trace_now ≡ the_step ∷ reverse c.trace
    back = newest_first c.trace the_step

    adds : Adds sent c.trace n (sender.Node name) what added the_step
    adds = record {
      number = refl;
      addressed = refl;
      hands_it = refl;
      before = kept.count ∙ sym (length-map old.sent.items posted);
      now = refl;
      own = posts_own shape (sender.Node name) outs;
      loaded_then = loaded_then;
    }

    module _ (posts : List Posted) (front : IsFront (posts_of new.sent.items) posts) where
      front_now : IsFront (sent ++ added) posts
      front_now = subst (λ (l : List Posted). IsFront l posts) posts_now front

      run : IsRun origin.first volume b c.trace c.told old.nodes.items old.client posts
      run = kept.runs posts (front_before sent added posts front_now)

      abbrev was_known : KnownNode
      was_known = known_at origin.first volume posts c.trace name

      answer : IsRight shape name posts was_known what failed loaded outs change.is
      answer = right posts was_known (front_before sent added posts front_now) (run.nodes_fit name of change.was change.there)

      known_here : known_at origin.first volume posts trace_now name ≡ known_to shape name.region posts was_known what failed loaded
      known_here = known_next volume posts origin.first c.trace the_step name ∙ ap (λ (t : Bool). if t then known_to shape name.region posts was_known what failed loaded else was_known) (same_name name)

      known_there : (other : NodeName) → same_node name other ≡ false → known_at origin.first volume posts trace_now other ≡ known_at origin.first volume posts c.trace other
      known_there other differs =
          known_next volume posts origin.first c.trace the_step other
          ∙ ap (λ (t : Bool). if t then known_to shape other.region posts (known_at origin.first volume posts c.trace other) what failed loaded else known_at origin.first volume posts c.trace other) differs

      run_now : IsRun origin.first volume b trace_now (c.told ++ [] ∷ []) new.nodes.items new.client posts
      run_now = record {
        made = node_step origin.first volume kept.limits posts sent c.trace c.told the_step outs n name what adds front_now run.made answer.quiet answer.right answer.sends;
        nodes_fit = changed_fits shape old.nodes.items new.nodes.items name of How change (known_at origin.first volume posts c.trace) (known_at origin.first volume posts trace_now) run.nodes_fit
            (subst (λ (k : KnownNode). Fits shape name k change.is) (sym known_here) answer.fits) known_there;
        client_is = client_stays volume posts origin.first c.trace the_step (λ d. IsClient new.client volume d × ClientFits shape b d) name refl
            (subst (λ (cl : ClientNode). OfClient origin.first volume posts c.trace (λ d. IsClient cl volume d × ClientFits shape b d)) (sym client_same) run.client_is);
      }

    sure_now : origin.sure ≡ true → SureAll shape (is_harmed all (the_step ∷ reverse c.trace) n) new.nodes.items
    sure_now surely =
        changed_sure shape old.nodes.items new.nodes.items name of How change (is_harmed all (reverse c.trace) n) (is_harmed all (the_step ∷ reverse c.trace) n) (kept.sure surely)
        (λ calm. sure_here (λ stays. kept.sure surely name of change.was change.there (sym (harmed_still all (reverse c.trace) the_step n name (unloading all the_step name stays)) ∙ calm)))
        (λ other differs calm. sym (harmed_still all (reverse c.trace) the_step n other (other_loads all the_step name other refl differs)) ∙ calm)

    may : origin.sure ≡ true → failed ≡ true → MayFail all (reverse c.trace) the_step
    may surely fails = elim calm_here [
      | inl stops ↦ inl stops
      | inr calm ↦ may_fail all (reverse c.trace) the_step n name refl refl (λ harmless. calm (kept.sure surely name of change.was change.there harmless)) fails
    ]

    pub node_kept : HasStepped origin volume all b n (sender.Node name) what old new c
    node_kept = record {
      step = the_step;
      said = [];
      more = record { more = added; whole = posts_now };
      number = refl;
      is_step = λ posts front. is_step sent c.trace n (sender.Node name) what added the_step posts adds (front_now posts front);
      kept = record {
        limits = kept.limits;
        some = kept.some;
        few = kept.few;
        runs = run_now;
        count = ap sent_by back ∙ (ap length (sym posts_now) ∙ length-map new.sent.items posted);
        within = subst (λ (l : List Posted). AllByRecursion (λ m. IsPartyOfVolume shape m.from × IsPartyOfVolume shape m.to) l) (sym posts_now)
            (all_both (λ m. IsPartyOfVolume shape m.from × IsPartyOfVolume shape m.to) sent added kept.within (posts_within shape (sender.Node name) outs of));
        marked = subst (λ (l : List TraceStep). AreMarked l c.dropped new.lowest (marks_of new.sent.items)) (sym back) marked_now;
        calm = λ surely. calm_next all c.trace the_step (kept.calm surely) (may surely);
        sure = λ surely. subst (λ (l : List TraceStep). SureAll shape (is_harmed all l n) new.nodes.items) (sym back) (sure_now surely);
        numbered = subst (λ (l : List TraceStep). AllByRecursion (λ s. s.event ≤ n) l) (sym back) (omega arith, kept.numbered);
        lines = lines_same ∙ (kept.lines ∙ sym (append-nil c.lines));
        geometry = geometry_same ∙ kept.geometry;
        shape = ap shape_of client_same ∙ kept.shape;
        newest = subst (λ (cl : ClientNode). newest_of cl < b) (sym client_same) kept.newest;
        count_nodes = count_stays shape old.nodes.items new.nodes.items name of How change ∙ kept.count_nodes;
      };
    }
