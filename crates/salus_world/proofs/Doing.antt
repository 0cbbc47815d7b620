-- An event of a world is done.
use Rattle.std.proofs.Common.{◌≡◌, ◌∙◌, ◌⊎◌, inl, inr, ℕ, ◌+◌, ◌-◌, ◌^◌, ◌<◌, ◌≤◌, Bool, true, false, not, nat_lt, nat_le, ◌&&◌, ◌||◌, List, [], ◌∷◌, ◌++◌, map, length, reverse, slice_get, slice_set, Option, None, Some, refl, sym, ap, subst, append-nil, arith}
use Rattle.std.specs.List.{AllByRecursion}
use Rattle.std.proofs.lemmas.List.{length-map}
use Rattle.std.proofs.lemmas.Bool.{lt-ltb, le-leb}
use Rattle.salus_types.specs.Volume.{Shape}
use Rattle.salus_types.specs.declared.names.NodeName.{NodeName}
use Rattle.salus_types.specs.declared.names.Sender.{Sender}
use Rattle.salus_types.specs.declared.names.Sender.TheVariants as sender
use Rattle.schedule_text.specs.declared.schedule.Volume.{Volume}
use Rattle.schedule_text.specs.declared.schedule.Event.{Event}
use Rattle.schedule_text.specs.declared.schedule.Event.TheVariants as event
use Rattle.schedule_text.specs.Limits.{IsOfVolume, IsPartyOfVolume}
use Rattle.printed_lines.specs.declared.line.Line.{Line}
use Rattle.salus_model.specs.declared.sending.Sent.{Sent}
use Rattle.salus_model.specs.declared.trace.Handed.{Handed}
use Rattle.salus_model.specs.declared.trace.Handed.TheVariants as handed
use Rattle.salus_model.specs.declared.trace.Request.{Request}
use Rattle.salus_model.specs.declared.trace.Request.TheVariants as request
use Rattle.salus_model.specs.declared.trace.TraceStep.{TraceStep}
use Rattle.salus_model.specs.Judge.{event_at}
use Rattle.salus_model.specs.Following.{Posted, posted, posts_of, posted_at, is_sent, goes_to_client, is_skipped, dropped_after, IsStep, IsOneStep, AreStepsOf}
use Rattle.salus_model.specs.Due.{skip_line}
use Rattle.volume_model.specs.Groups.{same_node}
use Rattle.client_rules.specs.State.{Client}
use Rattle.client_rules.specs.Rules.{new_client}
use Rattle.client_premises.proofs.Along.{behind_map}
use Rattle.run_rules.specs.Calm.{names_failing, is_harmed}
use Rattle.run_course.specs.Course.{Course, IsEvent, sent_so_far}
use Rattle.unanimous_certificate.specs.Kept.{node_place}
use Rattle.list_lemmas.proofs.Each.{all_then}
use Rattle.list_lemmas.proofs.Tests.{by_bool}
use Rattle.law_ranged.proofs.Bounded.{ClientFits, client_wider}
use Rattle.client_node.specs.declared.node.ClientNode.{ClientNode}
use Rattle.client_node.specs.Standing.{IsClient, shape_of, newest_of}
use Rattle.disk_model.specs.declared.disk.Disk.{Ghosts}
use Rattle.disk_model.specs.declared.memory.MemDisk.{MemDisk}
use Rattle.disk_node.specs.declared.node.DiskNode.{DiskNode}
use Rattle.run_steps.specs.Steps.{IsFront, known_at, OfClient, with_step}
use Rattle.run_steps.proofs.Stepping.{same_name}
use Rattle.run_steps.specs.Waiting.{AreMarked}
use Rattle.run_steps.proofs.Fronts.{whole_front}
use Rattle.run_steps.proofs.Calming.{harmed_next}
use Rattle.run_steps.proofs.Eventing.{one_event, no_step, skipped_event}
use Rattle.salus_world.specs.declared.world.World.{World}
use Rattle.salus_world.specs.Places.{FitAll, SureAll, ChangesAt, IsNamed}
use Rattle.salus_world.specs.Growing.{marks_of}
use Rattle.salus_world.specs.Kept.{Origin, IsRun, IsKept, HasStepped, HasDone, event_of}
use Rattle.salus_world.proofs.Seats.{count_stays, changed_fits, changed_sure}
use Rattle.salus_world.proofs.NodeSteps.{posted_index}

-- the same messages follow
pub same_front : (old new : List Posted) → new ≡ old → IsFront old new
same_front old new same = record { more = []; whole = same ∙ sym (append-nil old) }

-- ---- where no step is made

pub quiet_kept : {D : Type 0} {g : Ghosts D} {lane : _} (origin : Origin) (volume : Volume) (all : List Event) (b n : ℕ) (old new : World D g lane) (c : Course) (dropped : List ℕ) (lines : List Line) → IsKept origin volume all b n old c
    → posts_of new.sent.items ≡ posts_of old.sent.items → AreMarked (reverse c.trace) dropped new.lowest (marks_of new.sent.items)
    → new.nodes.items ≡ old.nodes.items → new.client ≡ old.client → new.lines.items ≡ lines → new.geometry ≡ old.geometry
    → IsKept origin volume all b n new (record { trace = c.trace; dropped = dropped; told = c.told; lines = lines })
quiet_kept origin volume all b n old new c dropped lines kept posts marked nodes client said geometry =
    let shape : Shape = volume.geometry in
    record {
      limits = kept.limits;
      some = kept.some;
      few = kept.few;
      runs = λ later front.
          subst (λ (l : List (DiskNode _ _ _)). IsRun origin.first volume b c.trace c.told l new.client later) (sym nodes)
          (subst (λ (cl : ClientNode). IsRun origin.first volume b c.trace c.told old.nodes.items cl later) (sym client)
          (kept.runs later (subst (λ (l : List Posted). IsFront l later) posts front)));
      count = kept.count ∙ (sym (length-map old.sent.items posted) ∙ (ap length (sym posts) ∙ length-map new.sent.items posted));
      within = subst (λ (l : List Posted). AllByRecursion (λ m. IsPartyOfVolume shape m.from × IsPartyOfVolume shape m.to) l) (sym posts) kept.within;
      marked = marked;
      calm = kept.calm;
      sure = λ surely. subst (λ (l : List (DiskNode _ _ _)). SureAll shape (is_harmed all (reverse c.trace) n) l) (sym nodes) (kept.sure surely);
      numbered = kept.numbered;
      lines = said;
      geometry = geometry ∙ kept.geometry;
      shape = ap shape_of client ∙ kept.shape;
      newest = subst (λ (cl : ClientNode). newest_of cl < b) (sym client) kept.newest;
      count_nodes = ap length nodes ∙ kept.count_nodes;
    }

-- ---- the next event

numbered_next : (n : ℕ) (steps : List TraceStep) → AllByRecursion (λ s. s.event ≤ n) steps → AllByRecursion (λ s. s.event ≤ n + 1) steps
numbered_next n steps all = all_then (λ s. s.event ≤ n) (λ s. s.event ≤ n + 1) (λ s low. omega (arith, low)) steps all

-- nodes that are sure when the next event begins, and all else as it was
pub later_kept : {D : Type 0} {g : Ghosts D} {lane : _} (origin : Origin) (volume : Volume) (all : List Event) (b n : ℕ) (world : World D g lane) (c : Course) → IsKept origin volume all b n world c → b ≤ n + 1 → n + 1 ≤ 2 ^ 32
    → (origin.sure ≡ true → SureAll volume.geometry (is_harmed all (reverse c.trace) (n + 1)) world.nodes.items) → IsKept origin volume all (n + 1) (n + 1) world c
later_kept origin volume all b n world c kept up low sure =
    let shape : Shape = volume.geometry in
    record {
      limits = kept.limits;
      some = omega arith;
      few = low;
      runs = λ later front.
          let run : IsRun origin.first volume b c.trace c.told world.nodes.items world.client later = kept.runs later front in
          record {
            made = run.made;
            nodes_fit = run.nodes_fit;
            client_is = behind_map volume later origin.first.client c.trace (λ d. IsClient world.client volume d × ClientFits shape b d) (λ d. IsClient world.client volume d × ClientFits shape (n + 1) d)
                (λ d is. (is.0, client_wider shape b (n + 1) d up is.1)) run.client_is;
          };
      count = kept.count;
      within = kept.within;
      marked = kept.marked;
      calm = kept.calm;
      sure = sure;
      numbered = numbered_next n (reverse c.trace) kept.numbered;
      lines = kept.lines;
      geometry = kept.geometry;
      shape = kept.shape;
      newest = (let below = kept.newest in omega (arith, below, up));
      count_nodes = kept.count_nodes;
    }

pub next_kept : {D : Type 0} {g : Ghosts D} {lane : _} (origin : Origin) (volume : Volume) (all : List Event) (b n : ℕ) (world : World D g lane) (c : Course) → IsKept origin volume all b n world c → 1 ≤ n → b ≤ n + 1 → n + 1 ≤ 2 ^ 32 → IsKept origin volume all (n + 1) (n + 1) world c
next_kept origin volume all b n world c kept some up low =
    later_kept origin volume all b n world c kept up low (λ surely name of node at calm. kept.sure surely name of node at (harmed_next all (reverse c.trace) n name some kept.numbered calm).0)

-- ---- an event of one step

pub stepped_done : {D : Type 0} {g : Ghosts D} {lane : _} (origin : Origin) (volume : Volume) (all : List Event) (b n : ℕ) (e : Event) (old new : World D g lane) (c : Course) (party : Sender) (what : Handed) → 1 ≤ n → b ≤ n + 1 → n < 2 ^ 32
    → (s : HasStepped origin volume all b n party what old new c)
    → ((posts : List Posted) → IsFront (posts_of new.sent.items) posts → is_skipped posts (sent_so_far c) e ≡ false)
    → ((posts : List Posted) → IsFront (posts_of new.sent.items) posts → IsOneStep posts (reverse c.trace) n party what (s.step ∷ []) → AreStepsOf posts (reverse c.trace) c.dropped n e (s.step ∷ []))
    → dropped_after (sent_so_far c) c.dropped e ≡ c.dropped → HasDone origin volume all n e old new c
stepped_done origin volume all b n e old new c party what some up low s goes are same = record {
  course = with_step c s.step s.said;
  more = s.more;
  event = λ posts front. one_event posts n e c s.step s.said (goes posts front) s.number (are posts front (record { step = s.step; only = refl; is_step = s.is_step posts front })) same;
  kept = next_kept origin volume all b n new (with_step c s.step s.said) s.kept some up (omega (arith, low));
}

-- ---- numbers of messages

pub index_sent : (count k i : ℕ) → k ≡ i + 1 → i < count → is_sent count k ≡ true
index_sent count k i is inside = rw (lt-ltb 0 k (omega (arith, is)), le-leb k count (omega (arith, is, inside))) refl

-- an event that is skipped
pub skipped_done : {D : Type 0} {g : Ghosts D} {lane : _} (origin : Origin) (volume : Volume) (all : List Event) (n : ℕ) (e : Event) (old new : World D g lane) (c : Course) → n < 2 ^ 32 → IsKept origin volume all n n old c
    → ((posts : List Posted) → IsFront (posts_of new.sent.items) posts → is_skipped posts (sent_so_far c) e ≡ true) → dropped_after (sent_so_far c) c.dropped e ≡ c.dropped
    → new.sent.items ≡ old.sent.items → new.lowest ≡ old.lowest → new.nodes.items ≡ old.nodes.items → new.client ≡ old.client → new.lines.items ≡ old.lines.items ++ skip_line n e → new.geometry ≡ old.geometry
    → HasDone origin volume all n e old new c
skipped_done origin volume all n e old new c low kept skips same sent lowest nodes client said geometry =
    let posts : posts_of new.sent.items ≡ posts_of old.sent.items = ap posts_of sent in
    let marked : AreMarked (reverse c.trace) c.dropped new.lowest (marks_of new.sent.items) =
    subst (λ (k : ℕ). AreMarked (reverse c.trace) c.dropped k (marks_of new.sent.items)) (sym lowest) (subst (λ (l : List Sent). AreMarked (reverse c.trace) c.dropped old.lowest (marks_of l)) (sym sent) kept.marked) in
    let course : Course = record { trace = c.trace; dropped = c.dropped; told = c.told; lines = c.lines ++ skip_line n e } in
    record {
      course = course;
      more = same_front (posts_of old.sent.items) (posts_of new.sent.items) posts;
      event = λ later front. skipped_event later n e c (skips later front) same;
      kept = next_kept origin volume all n n new course (quiet_kept origin volume all n n old new c c.dropped (c.lines ++ skip_line n e) kept posts marked nodes client (said ∙ ap (λ (l : List Line). l ++ skip_line n e) kept.lines) geometry)
          kept.some (omega arith) (omega (arith, low));
    }

-- ---- an event that names a call to fail

pub failing_done : {g : Ghosts MemDisk} {lane : _} (origin : Origin) (volume : Volume) (all : List Event) (n : ℕ) (name : NodeName) (call : ℕ) (old new : World MemDisk g lane) (c : Course) → n < 2 ^ 32 → event_at all n ≡ Some (event.Fail name call) → IsKept origin volume all n n old c → (of : IsOfVolume volume.geometry name)
    → (change : ChangesAt (node_place volume.geometry name) old.nodes.items new.nodes.items (IsNamed call))
    → new.sent.items ≡ old.sent.items → new.lowest ≡ old.lowest → new.client ≡ old.client → new.lines.items ≡ old.lines.items → new.geometry ≡ old.geometry
    → HasDone origin volume all n (event.Fail name call) old new c
failing_done origin volume all n name call old new c low asked kept of change sent lowest client said geometry =
    let shape : Shape = volume.geometry in
    let posts : posts_of new.sent.items ≡ posts_of old.sent.items = ap posts_of sent in
    let marked : AreMarked (reverse c.trace) c.dropped new.lowest (marks_of new.sent.items) =
    subst (λ (k : ℕ). AreMarked (reverse c.trace) c.dropped k (marks_of new.sent.items)) (sym lowest) (subst (λ (l : List Sent). AreMarked (reverse c.trace) c.dropped old.lowest (marks_of l)) (sym sent) kept.marked) in
    let named : (other : NodeName) → names_failing other (event_at all n) ≡ same_node name other = λ other. ap (λ (o : Option Event). names_failing other o) asked in
    let sure : origin.sure ≡ true → SureAll shape (is_harmed all (reverse c.trace) (n + 1)) new.nodes.items =
    λ surely. changed_sure shape old.nodes.items new.nodes.items name of (IsNamed call) change (is_harmed all (reverse c.trace) n) (is_harmed all (reverse c.trace) (n + 1)) (kept.sure surely)
    (λ calm. absurd (itself name (sym (named name) ∙ (harmed_next all (reverse c.trace) n name kept.some kept.numbered calm).1)))
    (λ other differs calm. (harmed_next all (reverse c.trace) n other kept.some kept.numbered calm).0) in
    let course : Course = record { trace = c.trace; dropped = c.dropped; told = c.told; lines = c.lines } in
    record {
      course = course;
      more = same_front (posts_of old.sent.items) (posts_of new.sent.items) posts;
      event = λ later front. no_step later n (event.Fail name call) c c.dropped refl refl refl;
      kept = record {
        limits = kept.limits;
        some = omega arith;
        few = omega (arith, low);
        runs = λ later front.
            let run : IsRun origin.first volume n c.trace c.told old.nodes.items old.client later = kept.runs later (subst (λ (l : List Posted). IsFront l later) posts front) in
            record {
              made = run.made;
              nodes_fit = changed_fits shape old.nodes.items new.nodes.items name of (IsNamed call) change (known_at origin.first volume later c.trace) (known_at origin.first volume later c.trace) run.nodes_fit
                  (change.how.same shape name (known_at origin.first volume later c.trace name) (run.nodes_fit name of change.was change.there)) (λ other differs. refl);
              client_is = subst (λ (cl : ClientNode). OfClient origin.first volume later c.trace (λ d. IsClient cl volume d × ClientFits shape (n + 1) d)) (sym client)
                  (behind_map volume later origin.first.client c.trace (λ d. IsClient old.client volume d × ClientFits shape n d) (λ d. IsClient old.client volume d × ClientFits shape (n + 1) d)
                  (λ d is. (is.0, client_wider shape n (n + 1) d (omega arith) is.1)) run.client_is);
            };
        count = kept.count ∙ ap length (sym sent);
        within = subst (λ (l : List Posted). AllByRecursion (λ m. IsPartyOfVolume shape m.from × IsPartyOfVolume shape m.to) l) (sym posts) kept.within;
        marked = marked;
        calm = kept.calm;
        sure = sure;
        numbered = numbered_next n (reverse c.trace) kept.numbered;
        lines = said ∙ kept.lines;
        geometry = geometry ∙ kept.geometry;
        shape = ap shape_of client ∙ kept.shape;
        newest = subst (λ (cl : ClientNode). newest_of cl < n + 1) (sym client) (let below = kept.newest in omega (arith, below));
        count_nodes = count_stays shape old.nodes.items new.nodes.items name of (IsNamed call) change ∙ kept.count_nodes;
      };
    }
  where
    itself : (a : NodeName) → same_node a a ≡ false → ⊥
    itself a differs = not_both (same_name a) differs where
      not_both : {b : Bool} → b ≡ true → b ≡ false → ⊥
      not_both is also = cc
