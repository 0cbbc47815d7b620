-- A fault, or a batch, ends the head as the client's rules say.
use Rattle.std.proofs.Common.{◌≡◌, ℕ, ◌+◌, ◌-◌, ◌<◌, ◌≤◌, Bool, true, false, ◌||◌, ◌==◌, ◌∙◌, if◌then◌else◌, List, [], ◌∷◌, ◌++◌, map, length, take, drop, get_or, Some, refl, ap, ap₂, sym, arith, length-append, length-drop, lt-ltb, le-ltb}
use Rattle.std.specs.List.{list_any}
use Rattle.std.proofs.lemmas.List.{map-append, take_all, drop-append-le}
use Rattle.std.proofs.lemmas.List.FromFn.{get_or-map-range_with_len}
use Rattle.std.proofs.Math.Seq.{get_or-append_seam}
use Rattle.salus_types.specs.Volume.{Shape, regions}
use Rattle.schedule_text.specs.declared.schedule.Volume.{Volume}
use Rattle.schedule_text.specs.declared.schedule.Event.{Event}
use Rattle.schedule_text.specs.declared.schedule.Event.TheVariants as event
use Rattle.volume_model.specs.Contents.{Batch, apply, fold_batches}
use Rattle.volume_model.specs.Parts.{Session, touches, leader_of, last_touch}
use Rattle.salus_model.specs.Judge.{Judge, is_among, event_at, batch_of, last_number, front_of, front_from, submitted}
use Rattle.salus_model.proofs.Growing.{last_touch-append}
use Rattle.client_rules.specs.State as state
use Rattle.client_rules.specs.Tables.{number_at}
use Rattle.client_rules.specs.Submitting.{with_batch}
use Rattle.list_lemmas.proofs.Tests.{unequal}
use Rattle.law_lemmas.proofs.Numbered.{fold_batches-one}
use Rattle.law_lines.specs.Mirror.{leader_now, MirrorsCounts}
use Rattle.law_lines.proofs.OpenReads.{with_ended, ended-one}
use Rattle.law_lines.proofs.HeadEnds.{HeadEnds}

-- ---- a fault

pub fault_ends : (shape : Shape) (judge : Judge) (v : ℕ) (c : state.Serving) → MirrorsCounts shape judge c → judge.latest ≤ v
    → ((u : ℕ) → judge.latest < u → front_of judge u ≡ last_number judge) → HeadEnds shape judge (with_ended judge v) v c c
fault_ends shape judge v c counts latest front = record {
  counts = record {
    session = counts.session;
    last = counts.last;
    acked = counts.acked;
    contents = counts.contents;
    numbers = counts.numbers;
    leaders = counts.leaders;
    within = counts.within;
    based = counts.based;
    leads = counts.leads;
  };
  reads = refl;
  barriers = refl;
  claims = refl;
  fronts = λ u less. refl;
  acked = refl;
  ended = ended-one judge v;
  latest = latest;
  front = front;
  session = refl;
}

-- ---- a batch

-- the batches after the base, with one more
drop-more-one : (base : ℕ) (list : List Batch) (batch : Batch) → base ≤ length list
    → drop base (take (length (list ++ batch ∷ [])) (list ++ batch ∷ [])) ≡ drop base (take (length list) list) ++ batch ∷ []
drop-more-one base list batch within =
    ap (drop base) (take_all (length (list ++ batch ∷ [])) (list ++ batch ∷ []) (omega arith))
    ∙ drop-append-le base list (batch ∷ []) within
    ∙ ap (λ l. drop base l ++ batch ∷ []) (sym (take_all (length list) list (omega arith)))

pub number-more : (shape : Shape) (g base : ℕ) (list : List Batch) (batch : Batch) → base ≤ length list
    → last_touch shape g base (base + 1) (drop base (take (length (list ++ batch ∷ [])) (list ++ batch ∷ [])))
    ≡ (if touches shape batch g then length list + 1 else last_touch shape g base (base + 1) (drop base (take (length list) list)))
number-more shape g base list batch within =
    let taken : take (length list) list ≡ list = take_all (length list) list (omega arith) in
    let count : base + 1 + length (drop base (take (length list) list)) ≡ length list + 1 =
    ap (λ l. base + 1 + length (drop base l)) taken ∙ ap (λ k. base + 1 + k) (length-drop base list) ∙ (omega (arith, within)) in
    ap (last_touch shape g base (base + 1)) (drop-more-one base list batch within)
    ∙ last_touch-append shape g (drop base (take (length list) list)) batch base (base + 1)
    ∙ ap (λ k. if touches shape batch g then k else last_touch shape g base (base + 1) (drop base (take (length list) list))) count

end_last : (t a b c : Bool) → (a || b || (t || c)) ≡ ((a || b || c) || (t || false))
end_last true true b c = refl
end_last true false true c = refl
end_last true false false true = refl
end_last true false false false = refl
end_last false true b c = refl
end_last false false true c = refl
end_last false false false true = refl
end_last false false false false = refl

front-before : (judge : Judge) (s v u : ℕ) → u < v → front_from (record { event = v; seq = s } ∷ judge.submits) judge.now.base u ≡ front_from judge.submits judge.now.base u
unfolding front_from
front-before judge s v u less = ap (λ t. if t then s else front_from judge.submits judge.now.base u) (le-ltb v u (omega (arith, less)))

front-after : (judge : Judge) (s v u : ℕ) → v < u → front_from (record { event = v; seq = s } ∷ judge.submits) judge.now.base u ≡ s
unfolding front_from
front-after judge s v u up = ap (λ t. if t then s else front_from judge.submits judge.now.base u) (lt-ltb v u up)

-- the leader after one batch more
leader-more : (shape : Shape) (known : Session) (batch : Batch) → known.base ≤ length known.list → leader_of shape batch ≡ leader_now shape (record known { list = known.list ++ batch ∷ [] })
leader-more shape known batch based =
    let count : length (known.list ++ batch ∷ []) ≡ length known.list + 1 = length-append known.list (batch ∷ []) in
    let place : length known.list + 1 - 1 ≡ length known.list = omega arith in
    sym (ap (λ k. if k == known.base then 0 else leader_of shape (get_or (known.list ++ batch ∷ []) (k - 1) [])) count
    ∙ ap (λ t. if t then 0 else leader_of shape (get_or (known.list ++ batch ∷ []) (length known.list + 1 - 1) [])) (unequal known.base (length known.list + 1) (omega (arith, based)))
    ∙ ap (λ k. leader_of shape (get_or (known.list ++ batch ∷ []) k [])) place ∙ ap (leader_of shape) (get_or-append_seam known.list batch [] []))

pub submit_ends : (volume : Volume) (events : List Event) (judge : Judge) (v : ℕ) (c : state.Serving) (batch : Batch) → event_at events v ≡ Some (event.Write batch)
    → MirrorsCounts volume.geometry judge c → HeadEnds volume.geometry judge (submitted events judge v (last_number judge + 1)) v c (with_batch volume c batch)
submit_ends volume events judge v c batch at counts =
    let shape : Shape = volume.geometry in
    let list : List Batch = judge.now.list in
    let one : batch_of (event_at events v) ≡ batch ∷ [] = ap batch_of at in
    let within : judge.acked ≤ length list = counts.within in
    let based : judge.now.base ≤ judge.acked = counts.based in
    let more : length (list ++ batch_of (event_at events v)) ≡ length list + 1 = ap (λ l. length (list ++ l)) one ∙ length-append list (batch ∷ []) in
    record {
      counts = record {
        session = counts.session;
        last = ap (λ k. k + 1) counts.last ∙ sym more;
        acked = counts.acked;
        contents = ap (λ cs. apply cs batch) counts.contents ∙ sym (ap (λ l. fold_batches judge.now.origin (list ++ l)) one ∙ fold_batches-one list batch judge.now.origin);
        numbers = λ g inside.
            get_or-map-range_with_len (λ r. if touches shape batch r then c.last + 1 else number_at c r) 0 (regions shape) g g 0 inside (omega arith)
            ∙ ap₂ (λ k l. if touches shape batch g then k + 1 else l) counts.last (counts.numbers g inside)
            ∙ sym (ap (λ l. last_touch shape g judge.now.base (judge.now.base + 1) (drop judge.now.base (take (length (list ++ l)) (list ++ l)))) one
            ∙ number-more shape g judge.now.base list batch (omega (arith, within, based)));
        leaders = map-append (λ u. u.leader) c.unacked _
            ∙ ap (λ l. l ++ leader_of shape batch ∷ []) counts.leaders
            ∙ sym (ap (λ l. map (λ b. leader_of shape b) (drop judge.acked (list ++ l))) one
            ∙ ap (map (λ b. leader_of shape b)) (drop-append-le judge.acked list (batch ∷ []) within)
            ∙ map-append (λ b. leader_of shape b) (drop judge.acked list) (batch ∷ []));
        within = omega (arith, within, more);
        based = based;
        leads = leader-more shape judge.now batch (omega (arith, within, based)) ∙ ap (λ l. leader_now shape (record judge.now { list = list ++ l })) (sym one);
      };
      reads = refl;
      barriers = refl;
      claims = refl;
      fronts = λ u less. front-before judge (last_number judge + 1) v u less;
      acked = refl;
      ended = λ u. end_last (v == u) (is_among u judge.ended) (is_among u judge.answered) (list_any (λ s. s.event == u) judge.submits);
      latest = omega arith;
      front = λ u up. front-after judge (last_number judge + 1) v u up ∙ sym more;
      session = refl;
    }
