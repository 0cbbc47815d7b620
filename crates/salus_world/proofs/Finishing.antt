-- A `settle` goes on and ends, and so does a run.
use Rattle.std.proofs.Common.{◌≡◌, ◌∙◌, ◌⊎◌, inl, inr, ℕ, zero, suc, ◌+◌, ◌-◌, ◌^◌, ◌<◌, ◌≤◌, Bool, true, false, nat_lt, if◌then◌else◌, List, [], ◌∷◌, ◌++◌, length, reverse, slice_get, Option, None, Some, refl, sym, ap, subst, append-nil, length-append, arith}
use Rattle.std.specs.List.{AllByRecursion}
use Rattle.salus_types.specs.Volume.{IsVolume, nodes}
use Rattle.schedule_text.specs.Limits.{IsPartyOfVolume}
use Rattle.client_rules.specs.Rules.{new_client}
use Rattle.client_premises.specs.Behind.{Behind, ClientStepsBehind, LinesBehind}
use Rattle.run_rules.specs.Running.{known_of, AllSteps}
use Rattle.run_rules.specs.Calm.{is_harmed, CalmFrom}
use Rattle.law_ranged.proofs.Opened.{new_fits}
use Rattle.list_lemmas.proofs.Each.{all_split}
use Rattle.client_node.specs.declared.node.ClientNode.{ClientNode}
use Rattle.client_node.specs.Standing.{IsClient, shape_of, newest_of}
use Rattle.client_premises.proofs.Along.{behind_map}
use Rattle.law_ranged.proofs.Bounded.{ClientFits}
use Rattle.client_rules.specs.State.{Client}
use Rattle.run_rules.specs.Run.{formatted_first}
use Rattle.unanimous_certificate.specs.Kept.{node_place}
use Rattle.disk_model.specs.declared.disk.Disk.{Ghosts}
use Rattle.disk_model.specs.declared.memory.MemDisk.{MemDisk}
use Rattle.disk_node.specs.declared.node.DiskNode.{DiskNode}
use Rattle.run_steps.proofs.Marking.{none_marked}
use Rattle.salus_world.specs.Places.{AreFormatted, FitAll}
use Rattle.salus_world.proofs.Seats.{formatted_fit}
use Rattle.std.proofs.lemmas.Bool.{lt-ltb}
use Rattle.std.proofs.lemmas.List.{length-map, length_push}
use Rattle.salus_types.specs.declared.names.Sender.{Sender}
use Rattle.schedule_text.specs.declared.schedule.Volume.{Volume}
use Rattle.schedule_text.specs.declared.schedule.Event.{Event}
use Rattle.schedule_text.specs.declared.schedule.Event.TheVariants as event
use Rattle.printed_lines.specs.declared.line.Line.{Line}
use Rattle.salus_model.specs.declared.sending.Sent.{Sent}
use Rattle.salus_model.specs.declared.trace.Handed.TheVariants as handed
use Rattle.salus_model.specs.declared.trace.TraceStep.{TraceStep}
use Rattle.salus_model.specs.Judge.{event_at}
use Rattle.salus_model.specs.Following.{Posted, posted, posts_of, sent_by, next_waiting}
use Rattle.run_course.specs.Course.{Course, Goes, IsEvent, no_course, sent_so_far}
use Rattle.run_course.proofs.Going.{goes_push, goes_none}
use Rattle.list_lemmas.proofs.Lists.{get_after}
use Rattle.run_steps.specs.Steps.{IsFront, known_at, OfClient, with_step}
use Rattle.run_steps.specs.Waiting.{AreMarked}
use Rattle.run_steps.specs.Settling.{Settled}
use Rattle.run_steps.proofs.Fronts.{whole_front, front_along}
use Rattle.run_steps.proofs.Marking.{passed_on, next_is, next_none}
use Rattle.run_steps.proofs.Eventing.{none_settled, settled_push, settled_event}
use Rattle.salus_world.specs.declared.world.World.{World}
use Rattle.salus_world.specs.Growing.{mark_of, marks_of}
use Rattle.salus_world.specs.Kept.{Origin, BeginsAt, IsExact, IsKept, HasStepped, HasSettled, HasDone, HasDelivered, HasNoneLeft, HasRun, Went, StepsAt, DeliversNext, Does}
use Rattle.salus_world.specs.declared.ran.Ran.{Ran}
use Rattle.salus_world.specs.Runs.{Runs, Ends, formatted_origin}
use Rattle.salus_world.proofs.Doing.{quiet_kept, next_kept, same_front}
use Rattle.salus_world.proofs.NodeSteps.{posted_index}

some_at : {A : Type 0} (xs : List A) (i : ℕ) → i < length xs → (x : A) × (slice_get xs i ≡ Some x)
some_at [] i inside = absurd (omega arith)
some_at (x ∷ xs) zero inside = (x, refl)
some_at (x ∷ xs) (suc i) inside = some_at xs i (omega arith)

-- ---- settling

module _ {D : Type 0} {g : Ghosts D} {lane : _} (origin : Origin) (volume : Volume) (all : List Event) (n : ℕ) (was : World D g lane) (c : Course) where
  pub nothing_settled : IsKept origin volume all n n was c → HasSettled origin volume all n 0 was was c
  nothing_settled kept = record {
    course = c;
    more = whole_front (posts_of was.sent.items);
    settled = λ posts front. none_settled posts n c;
    kept = kept;
  }

  -- the next one is delivered
  pub one_settled : (done k : ℕ) (now later : World D g lane) → HasSettled origin volume all n done was now c → DeliversNext (Some k) now later → HasSettled origin volume all n (done + 1) was later c
  one_settled done k now later s next =
      let d : HasDelivered origin volume all n n k now later s.course = next origin volume all n n s.course s.kept in
      let one : HasStepped origin volume all n n d.message.to (handed.Deliver k) now later s.course = d.stepped in
      record {
        course = with_step s.course one.step one.said;
        more = front_along (posts_of was.sent.items) (posts_of now.sent.items) (posts_of later.sent.items) s.more one.more;
        settled = λ posts front.
            let before : IsFront (posts_of now.sent.items) posts = front_along (posts_of now.sent.items) (posts_of later.sent.items) posts one.more front in
            settled_push posts n done c s.course one.step one.said (s.settled posts before) one.number
            (record { k = k; lowest = d.lowest; message = d.message; known = d.known posts before; is_step = one.is_step posts front });
        kept = one.kept;
      }

  -- none is left
  pub all_settled : (done number : ℕ) (now mid : World D g lane) → HasSettled origin volume all n done was now c → DeliversNext None now mid → done ≤ number → n < 2 ^ 32 → HasDone origin volume all n (event.Settle number) was mid c
  all_settled done number now mid s next few low =
      let e : HasNoneLeft origin volume all n n now mid s.course = next origin volume all n n s.course s.kept in
      record {
        course = s.course;
        more = front_along (posts_of was.sent.items) (posts_of now.sent.items) (posts_of mid.sent.items) s.more e.more;
        event = λ posts front.
            settled_event posts n number done c s.course (s.settled posts (front_along (posts_of now.sent.items) (posts_of mid.sent.items) posts e.more front)) few (inr e.none);
        kept = next_kept origin volume all n n mid s.course e.kept e.kept.some (omega arith) (omega (arith, low));
      }

  -- as many as wanted
  pub enough_settled : (done number : ℕ) (now : World D g lane) → HasSettled origin volume all n done was now c → done ≡ number → n < 2 ^ 32 → HasDone origin volume all n (event.Settle number) was now c
  enough_settled done number now s same low = record {
    course = s.course;
    more = s.more;
    event = λ posts front. settled_event posts n number done c s.course (s.settled posts front) (omega (arith, same)) (inl same);
    kept = next_kept origin volume all n n now s.course s.kept s.kept.some (omega arith) (omega (arith, low));
  }

-- ---- a run

pub event_here : (before rest : List Event) (e : Event) (n : ℕ) → n ≡ length before + 1 → event_at (before ++ e ∷ rest) n ≡ Some e
event_here before rest e n is =
    ap (λ (b : Bool). if b then slice_get (before ++ e ∷ rest) (n - 1) else None) (lt-ltb 0 n (omega (arith, is)))
    ∙ (ap (λ (k : ℕ). slice_get (before ++ e ∷ rest) k) (omega (arith, is)) ∙ get_after before rest e)

module _ {g : Ghosts MemDisk} {lane : _} (origin : Origin) (volume : Volume) (all : List Event) where
  went_one : (e : Event) (n k : ℕ) (was mid now : World MemDisk g lane) (from c : Course) → was ≡ mid → from ≡ c → n ≡ k → (d : HasDone origin volume all k e mid now c) → IsExact e mid now → Went origin volume all n (e ∷ []) was now from d.course
  unfolding Went
  went_one e n k was mid now from c world course number =
      subst (λ (j : ℕ). (d : HasDone origin volume all j e mid now c) → IsExact e mid now → Went origin volume all n (e ∷ []) was now from d.course) number
      (subst (λ (f : Course). (d : HasDone origin volume all n e mid now f) → IsExact e mid now → Went origin volume all n (e ∷ []) was now from d.course) course
      (subst (λ (w : World MemDisk g lane). (d : HasDone origin volume all n e w now from) → IsExact e w now → Went origin volume all n (e ∷ []) was now from d.course) world
      (λ d exact. (now, d, exact, (refl, refl)))))

  went_push : (n k : ℕ) (events : List Event) (e : Event) (was mid now : World MemDisk g lane) (from c : Course) → Went origin volume all n events was mid from c → k ≡ n + length events → (d : HasDone origin volume all k e mid now c)
      → IsExact e mid now → Went origin volume all n (events ++ e ∷ []) was now from d.course
  unfolding Went
  went_push n k [] e was mid now from c so_far is d exact = went_one e n k was mid now from c so_far.0 so_far.1 (omega (arith, is)) d exact
  went_push n k (x ∷ events) e was mid now from c so_far is d exact =
      (so_far.0, so_far.1, so_far.2, went_push (n + 1) k events e so_far.0 mid now so_far.1.course c so_far.3 (omega (arith, is)) d exact)

  pub none_run : (world : World MemDisk g lane) → IsKept origin volume all 1 1 world no_course → HasRun origin volume all [] world world
  unfolding Went
  none_run world kept = record { course = no_course; goes = λ posts front. goes_none posts 1 no_course; went = (refl, refl); kept = kept }

  pub one_run : (events : List Event) (e : Event) (n : ℕ) (start mid now : World MemDisk g lane) → HasRun origin volume all events start mid → n ≡ length events + 1 → n < 2 ^ 32 → event_at all n ≡ Some e → Does n e mid now → IsExact e mid now
      → HasRun origin volume all (events ++ e ∷ []) start now
  one_run events e n start mid now r is low at does exact =
      let done : HasDone origin volume all n e mid now r.course = does origin volume all r.course low at (subst (λ (k : ℕ). IsKept origin volume all k k mid r.course) (sym is) r.kept) in
      let next : n + 1 ≡ length (events ++ e ∷ []) + 1 = (let long = length_push events e in omega (arith, is, long)) in
      record {
        course = done.course;
        goes = λ posts front.
            goes_push posts 1 events e no_course r.course done.course (r.goes posts (front_along (posts_of mid.sent.items) (posts_of now.sent.items) posts done.more front))
            (subst (λ (k : ℕ). IsEvent posts k e r.course done.course) (omega (arith, is)) (done.event posts front));
        went = went_push 1 n events e start mid now no_course r.course r.went (omega (arith, is)) done exact;
        kept = subst (λ (k : ℕ). IsKept origin volume all k k now done.course) next done.kept;
      }

pub run_ends : (volume : Volume) (all : List Event) (start world : World MemDisk _ _) (ran : Ran) → IsKept (formatted_origin volume) volume all 1 1 start no_course → HasRun (formatted_origin volume) volume all all start world
    → ran.lines ≡ world.lines.items → ran.messages ≡ world.sent.items → ran.nodes.items ≡ world.nodes.items → ran.client ≡ world.client → Ends volume all ran
run_ends volume all start world ran begun r lines messages nodes client =
    let posts : List Posted = posts_of ran.messages in
    let trace : List TraceStep = r.course.trace in
    let front : IsFront (posts_of world.sent.items) posts =
    subst (λ (l : List Sent). IsFront (posts_of world.sent.items) (posts_of l)) (sym messages) (whole_front (posts_of world.sent.items)) in
    let run = r.kept.runs posts front in
    record {
      runs = record {
        course = r.course;
        goes = r.goes posts front;
        all = r.kept.count ∙ (sym (length-map world.sent.items posted) ∙ ap (λ (l : List Sent). length (posts_of l)) (sym messages));
        calm = r.kept.calm refl;
        nodes = run.made.nodes;
        client = run.made.client;
        told = run.made.lines;
        lines_told = lines ∙ r.kept.lines;
      };
      nodes = subst (λ (l : List (DiskNode MemDisk _ _)). FitAll volume.geometry (known_at (formatted_first volume) volume posts trace) l) (sym nodes) run.nodes_fit;
      client = subst (λ (cl : ClientNode). OfClient (formatted_first volume) volume posts trace (λ d. IsClient cl volume d)) (sym client)
          (behind_map volume posts (new_client volume.geometry) trace (λ d. IsClient world.client volume d × ClientFits volume.geometry (length all + 1) d) (λ d. IsClient world.client volume d) (λ d is. is.0) run.client_is);
      first = start;
      last = world;
      begun = begun;
      went = r.went;
      same_nodes = nodes;
      same_client = client;
      same_messages = messages;
    }

-- a message that is there, as it was posted
pub some_posted : (sent : List Sent) (index : ℕ) → index < length sent → (m : Posted) × (slice_get (posts_of sent) index ≡ Some m)
some_posted sent index inside = let long = length-map sent posted in some_at (posts_of sent) index (omega (arith, inside, long))

-- ---- the next event of a schedule

module _ (all done rest : List Event) (e : Event) (split : all ≡ done ++ e ∷ rest) where
  pub next_all : (P : Event → Type 0) → AllByRecursion P all → P e
  next_all P every = (all_split P done (e ∷ rest) (subst (λ (l : List Event). AllByRecursion P l) split every)).1.0

  pub next_below : length done < length all
  next_below = let long = ap length split in let both = length-append done (e ∷ rest) in omega (arith, long, both)

  pub next_at : (n : ℕ) → n ≡ length done + 1 → event_at all n ≡ Some e
  next_at n is = ap (λ (l : List Event). event_at l n) split ∙ event_here done rest e n is

-- ---- the first moment

pub first_kept : {D : Type 0} {g : Ghosts D} {lane : _} (origin : Origin) (volume : Volume) (all : List Event) (w : World D g lane) → IsVolume volume.geometry → AreFormatted volume.geometry volume.key (nodes volume.geometry) w.nodes.items → BeginsAt origin volume w
    → IsClient w.client volume (new_client volume.geometry) → shape_of w.client ≡ volume.geometry → newest_of w.client ≡ 0 → w.sent.items ≡ [] → w.lowest ≡ 0 → w.lines.items ≡ [] → w.geometry ≡ volume.geometry
    → IsKept origin volume all 1 1 w no_course
unfolding AllSteps ClientStepsBehind LinesBehind Behind known_of CalmFrom
first_kept origin volume all w limits made begins client shape newest sent lowest lines geometry =
    let posts : posts_of w.sent.items ≡ [] = ap posts_of sent in
    record {
      limits = limits;
      some = omega arith;
      few = omega arith;
      runs = λ later front. record {
        made = record { nodes = λ name. tt; client = tt; lines = refl };
        nodes_fit = formatted_fit volume.geometry volume.key w.nodes.items made origin.first.held begins.held;
        client_is = subst (λ (d : Client). IsClient w.client volume d × ClientFits volume.geometry 1 d) (sym begins.client) (client, new_fits volume.geometry limits);
      };
      count = sym (ap length sent);
      within = subst (λ (l : List Posted). AllByRecursion (λ m. IsPartyOfVolume volume.geometry m.from × IsPartyOfVolume volume.geometry m.to) l) (sym posts) tt;
      marked = subst (λ (k : ℕ). AreMarked [] [] k (marks_of w.sent.items)) (sym lowest) (subst (λ (l : List Sent). AreMarked [] [] 0 (marks_of l)) (sym sent) none_marked);
      calm = λ surely. tt;
      sure = λ surely name of node at calm. begins.sure surely (node_place volume.geometry name) node at;
      numbered = tt;
      lines = lines;
      geometry = geometry;
      shape = shape;
      newest = omega (arith, newest);
      count_nodes = made.long;
    }

-- the messages that wait are looked for
pub lowered_kept : {D : Type 0} {g : Ghosts D} {lane : _} (origin : Origin) (volume : Volume) (all : List Event) (b n : ℕ) (now mid : World D g lane) (c : Course) → IsKept origin volume all b n now c → mid.sent.items ≡ now.sent.items → mid.nodes.items ≡ now.nodes.items
    → mid.client ≡ now.client → mid.lines.items ≡ now.lines.items → mid.geometry ≡ now.geometry → ((k : ℕ) → now.lowest ≤ k → k < mid.lowest → slice_get (marks_of now.sent.items) k ≡ Some true)
    → IsKept origin volume all b n mid c
lowered_kept origin volume all b n now mid c kept sent nodes client lines geometry passed =
    quiet_kept origin volume all b n now mid c c.dropped c.lines kept (ap posts_of sent)
    (subst (λ (l : List Sent). AreMarked (reverse c.trace) c.dropped mid.lowest (marks_of l)) (sym sent)
    (passed_on (reverse c.trace) c.dropped now.lowest (marks_of now.sent.items) kept.marked mid.lowest passed)) nodes client (lines ∙ kept.lines) geometry

-- ---- the next message that waits

module _ {D : Type 0} {g : Ghosts D} {lane : _} (origin : Origin) (volume : Volume) (all : List Event) (b n : ℕ) (now mid : World D g lane) (c : Course) (kept : IsKept origin volume all b n now c) (sent : mid.sent.items ≡ now.sent.items) (nodes : mid.nodes.items ≡ now.nodes.items) (client : mid.client ≡ now.client)
    (lines : mid.lines.items ≡ now.lines.items) (geometry : mid.geometry ≡ now.geometry) (passed : (k : ℕ) → now.lowest ≤ k → k < mid.lowest → slice_get (marks_of now.sent.items) k ≡ Some true) where
  marked : AreMarked (reverse c.trace) c.dropped mid.lowest (marks_of now.sent.items)
  marked = passed_on (reverse c.trace) c.dropped now.lowest (marks_of now.sent.items) kept.marked mid.lowest passed

  mid_kept : IsKept origin volume all b n mid c
  mid_kept = lowered_kept origin volume all b n now mid c kept sent nodes client lines geometry passed

  count : sent_by (reverse c.trace) ≡ length (marks_of now.sent.items)
  count = kept.count ∙ sym (length-map now.sent.items mark_of)

  same : IsFront (posts_of now.sent.items) (posts_of mid.sent.items)
  same = same_front (posts_of now.sent.items) (posts_of mid.sent.items) (ap posts_of sent)

  -- it is handed over
  pub next_delivered : (later : World D g lane) (k : ℕ) → k ≡ mid.lowest + 1 → mid.lowest < length now.sent.items → slice_get (marks_of now.sent.items) mid.lowest ≡ Some false → StepsAt mid.lowest mid later
      → HasDelivered origin volume all b n k now later c
  next_delivered later k is inside waits steps =
      let i : ℕ = mid.lowest in
      let long = length-map mid.sent.items posted in
      let alike = ap length sent in
      let at = some_at (posts_of mid.sent.items) i (omega (arith, inside, long, alike)) in
      let m : Posted = at.0 in
      let one : HasStepped origin volume all b n m.to (handed.Deliver (i + 1)) mid later c = steps origin volume all b n c m mid_kept at.1 in
      let lowest : next_waiting (reverse c.trace) c.dropped ≡ Some (i + 1) =
      next_is (reverse c.trace) c.dropped i (marks_of now.sent.items) marked count (let marks = length-map now.sent.items mark_of in omega (arith, inside, marks)) waits in
      subst (λ (j : ℕ). HasDelivered origin volume all b n j now later c) (sym is) (record {
        lowest = lowest;
        message = m;
        known = λ posts front. posted_index (posts_of mid.sent.items) posts i m (subst (λ (l : List Posted). IsFront l posts) (ap posts_of (sym sent)) front) at.1;
        stepped = record {
          step = one.step;
          said = one.said;
          more = front_along (posts_of now.sent.items) (posts_of mid.sent.items) (posts_of later.sent.items) same one.more;
          number = one.number;
          is_step = one.is_step;
          kept = one.kept;
        };
      })

  -- there is none
  pub none_left : length now.sent.items ≤ mid.lowest → HasNoneLeft origin volume all b n now mid c
  none_left far = record {
    none = next_none (reverse c.trace) c.dropped mid.lowest (marks_of now.sent.items) marked count (let marks = length-map now.sent.items mark_of in omega (arith, far, marks));
    more = same;
    kept = mid_kept;
  }
