-- A batch that the client submits is posted, its part to each replica of each region that it touches.
use Rattle.std.proofs.Common.{◌≡◌, ◌∙◌, ℕ, ◌+◌, ◌-◌, ◌<◌, true, List, [], ◌∷◌, ◌++◌, length, get_or, Some, refl, sym, ap, subst, arith}
use Rattle.std.specs.List.{AllByRecursion, range_with_len}
use Rattle.std.proofs.Math.Seq.{get_or-append_seam}
use Rattle.salus_types.specs.Volume.{Shape, regions}
use Rattle.salus_types.specs.declared.names.NodeName.{NodeName}
use Rattle.salus_types.specs.declared.records.Record.{Record}
use Rattle.salus_message.specs.declared.wire.Message.TheVariants as message
use Rattle.schedule_text.specs.Limits.{IsOfVolume}
use Rattle.schedule_text.specs.declared.schedule.Volume.{Volume}
use Rattle.schedule_text.specs.declared.schedule.Event.{Event}
use Rattle.schedule_text.specs.declared.schedule.Event.TheVariants as event
use Rattle.printed_lines.specs.declared.line.Line.{Line}
use Rattle.printed_lines.specs.declared.line.Line.TheVariants as line
use Rattle.merkle_region.specs.Tree.{IsAmong}
use Rattle.volume_model.specs.Contents.{Batch, all_regions}
use Rattle.volume_model.specs.Groups.{group_of}
use Rattle.volume_model.specs.Parts.{Session, touches, touched_by, batch_at, part_of}
use Rattle.salus_model.specs.Judge.{Judge, event_at, batch_of, last_number, judged, judged_all}
use Rattle.salus_model.specs.Forgery.{IsPartOf}
use Rattle.client_rules.specs.State as state
use Rattle.client_rules.specs.State.{Letter, to_all}
use Rattle.client_rules.specs.Submitting.{next_part, next_parts, part_letters}
use Rattle.list_lemmas.proofs.Members.{among_map-in, among_filter-in, among_flat_map-in, among_range-in}
use Rattle.law_lines.specs.Mirror.{MirrorsCounts}
use Rattle.law_lines.proofs.Parted.{part-is}
use Rattle.law_served.proofs.Submits.{IsAnswer}

-- ---- what the lines of a batch make of the session

answers_keep : (events : List Event) (lines : List Line) (judge : Judge) → AllByRecursion IsAnswer lines → (judged_all events judge lines).now ≡ judge.now
unfolding judged_all
answers_keep events [] judge plain = refl
answers_keep events (line.Barrier v s ∷ lines) judge plain = answers_keep events lines (judged events judge (line.Barrier v s)) plain.1
answers_keep events (line.Submit v s ∷ lines) judge plain = absurd plain.0
answers_keep events (line.Ack s ∷ lines) judge plain = absurd plain.0
answers_keep events (line.Read v b x ∷ lines) judge plain = absurd plain.0
answers_keep events (line.Fault v b strikes ∷ lines) judge plain = absurd plain.0
answers_keep events (line.Refused v cause ∷ lines) judge plain = absurd plain.0
answers_keep events (line.Skip v k ∷ lines) judge plain = absurd plain.0
answers_keep events (line.Stage e f s ∷ lines) judge plain = absurd plain.0
answers_keep events (line.Open e ∷ lines) judge plain = absurd plain.0
answers_keep events (line.Lost e ∷ lines) judge plain = absurd plain.0

-- the session with one batch more
pub submitted_now : (events : List Event) (judge : Judge) (v s : ℕ) (after : List Line) (batch : Batch) → AllByRecursion IsAnswer after → event_at events v ≡ Some (event.Write batch)
    → (judged_all events judge (line.Submit v s ∷ after)).now ≡ record judge.now { list = judge.now.list ++ batch ∷ [] }
unfolding judged_all
submitted_now events judge v s after batch plain asked =
    answers_keep events after (judged events judge (line.Submit v s)) plain ∙ ap (λ (l : List Batch). record judge.now { list = judge.now.list ++ l }) (ap batch_of asked)

-- ---- its parts

batch_last : (list : List Batch) (batch : Batch) → get_or (list ++ batch ∷ []) (length list + 1 - 1) [] ≡ batch
batch_last list batch = let place : length list + 1 - 1 ≡ length list = omega arith in ap (λ i. get_or (list ++ batch ∷ []) i []) place ∙ get_or-append_seam list batch [] []

module _ (volume : Volume) (judge : Judge) (s : state.Serving) (counts : MirrorsCounts volume.geometry judge s) (batch : Batch) (g : ℕ) (inside : g < regions volume.geometry) (rec : Record) where
  abbrev shape : Shape
  shape = volume.geometry

  abbrev more : Session
  more = record judge.now { list = judge.now.list ++ batch ∷ [] }

  own_part : (part : IsPartOf shape volume.key more g rec) → part.s ≡ last_number judge + 1 → IsAmong rec (next_parts volume s batch)
  own_part part last =
      let here : batch_at more part.s ≡ batch = ap (λ (n : ℕ). batch_at more n) last ∙ batch_last judge.now.list batch in
      let touched : touches shape batch g ≡ true = ap (λ (b : Batch). touches shape b g) (sym here) ∙ part.touched in
      let is : rec ≡ next_part volume s batch g = part.is ∙ (ap (λ (n : ℕ). part_of shape volume.key more n g) last ∙ sym (part-is volume judge s batch counts g inside)) in
      subst (λ (r : Record). IsAmong r (next_parts volume s batch)) (sym is)
      (among_map-in (λ r. next_part volume s batch r) (touched_by shape batch) g
      (among_filter-in (λ r. touches shape batch r) (all_regions shape) g (among_range-in (regions shape) 0 g (omega arith) (omega (arith, inside))) touched))

  -- the part of a session's last batch is one of them
  pub newest_part : (known : Session) → known ≡ more → (part : IsPartOf shape volume.key known g rec) → part.s ≡ last_number judge + 1 → IsAmong rec (next_parts volume s batch)
  newest_part known is = subst (λ (k : Session). (part : IsPartOf shape volume.key k g rec) → part.s ≡ last_number judge + 1 → IsAmong rec (next_parts volume s batch)) (sym is) own_part

-- and goes to each replica of its region
pub part_letter : (shape : Shape) (name : NodeName) → IsOfVolume shape name → (parts : List Record) (rec : Record) → IsAmong rec parts → rec.header.region ≡ name.region
    → IsAmong (record { to = name; message = message.Part (record { rec = rec }) }) (part_letters shape parts)
part_letter shape name inside parts rec among region =
    let replica : name.replica < shape.replicas = inside.1 in
    let here : IsAmong name (group_of shape name.region) =
    among_map-in (λ (r : ℕ). record { region = name.region; replica = r }) (range_with_len 0 shape.replicas) name.replica (among_range-in shape.replicas 0 name.replica (omega arith) (omega (arith, replica))) in
    among_flat_map-in (λ (r : Record). to_all (group_of shape r.header.region) (message.Part (record { rec = r }))) rec (record { to = name; message = message.Part (record { rec = rec }) }) parts among
    (among_map-in (λ (n : NodeName). record { to = n; message = message.Part (record { rec = rec }) }) (group_of shape rec.header.region) name
    (subst (λ (r : ℕ). IsAmong name (group_of shape r)) (sym region) here))
