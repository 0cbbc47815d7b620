-- Each part of a session that the lines make known has the right shape for its region: so no node takes it for a foreign one.
use Rattle.std.proofs.Common.{◌≡◌, inl, ℕ, zero, suc, ◌+◌, ◌-◌, ◌*◌, ◌^◌, ◌<◌, ◌≤◌, ◌==◌, ◌&&◌, nat_lt, nat_le, Bool, true, false, if◌then◌else◌, List, [], ◌∷◌, map, length, take, get_or, Option, None, Some, refl, sym, subst, arith, eq-eqb}
use Rattle.std.specs.Prelude.{filter, filter_map, flat_map}
use Rattle.std.specs.Option.{option_or}
use Rattle.std.specs.List.{cons_option, list_any, list_all, range_with_len, AllByRecursion}
use Rattle.std.proofs.lemmas.Bool.{le-leb, lt-ltb, leb-true}
use Rattle.salus_types.specs.Volume.{Shape, regions, region_blocks}
use Rattle.salus_types.specs.declared.records.Header.{Header}
use Rattle.salus_types.specs.declared.records.PlaceWrite.{PlaceWrite}
use Rattle.salus_types.specs.declared.records.Record.{Record}
use Rattle.salus_types.specs.declared.records.Write.{Write}
use Rattle.schedule_text.specs.Limits.{IsWithin, IsEventWithin}
use Rattle.schedule_text.specs.Grammar.{pair_values}
use Rattle.schedule_text.specs.declared.schedule.Event.{Event}
use Rattle.schedule_text.specs.declared.schedule.Event.TheVariants as event
use Rattle.printed_lines.specs.declared.line.Line.{Line}
use Rattle.printed_lines.specs.declared.line.Line.TheVariants as line
use Rattle.holding_model.specs.Fitting.{ascends_from, record_fits, has_content}
use Rattle.volume_model.specs.Contents.{Batch, all_regions}
use Rattle.volume_model.specs.Parts.{Session, touches, touched_by, batch_at, bytes_left, placed, part_of}
use Rattle.volume_model.specs.Recovering.{header_fits, record_counts}
use Rattle.client_tag.specs.Tags.{is_genuine}
use Rattle.salus_model.specs.Judge.{Judge, event_at, batch_of, begun_from, opened_as, known_at, all_known, judged, judged_all}
use Rattle.salus_model.specs.Forgery.{IsPartOf}
use Rattle.replica_rules.specs.Views.{header_is_right, touches_here, has_right_shape}
use Rattle.list_lemmas.proofs.Each.{all_both, all_split}
use Rattle.list_lemmas.proofs.Lists.{get_among}
use Rattle.list_lemmas.proofs.Members.{among_all, among_filter, among_filter-in, among_range, among_range-in, any_from}
use Rattle.list_lemmas.proofs.Tests.{and_left, and_right, way_with}
use Rattle.law_lemmas.proofs.Numbered.{IsSized}
use Rattle.law_lemmas.proofs.Owned.{known_among}
use Rattle.law_records.specs.Sessions.{IsCountable}
use Rattle.law_records.proofs.Content.{part-content}
use Rattle.law_records.proofs.Counted.{both_true, all_members, own-counts}
use Rattle.law_reads.proofs.Sessions.{session_chain}

-- ---- batches of whole blocks

-- each block that the batch writes has the volume's length
abbrev pub IsLong : Shape → Batch → Type 0
IsLong shape batch = AllByRecursion (λ (w : Write). length w.bytes ≡ shape.block) batch

abbrev pub AreLong : Shape → Session → Type 0
AreLong shape known = AllByRecursion (IsLong shape) known.list

-- so of every session that is known
abbrev pub AllLong : Shape → Judge → Type 0
AllLong shape judge = AllByRecursion (AreLong shape) (all_known judge)

module _ (shape : Shape) where
  pairs_long : (batch : Batch) → AllByRecursion (IsWithin shape) (flat_map pair_values batch) → IsLong shape batch
  pairs_long [] within = tt
  pairs_long (w ∷ batch) within = let parts = all_split (IsWithin shape) (pair_values w) (flat_map pair_values batch) within in (parts.0.1.0, pairs_long batch parts.1)

  event_long : (o : Option Event) → ((e : Event) → o ≡ Some e → IsEventWithin shape e) → AllByRecursion (IsLong shape) (batch_of o)
  event_long None within = tt
  event_long (Some (event.Write batch)) within = (pairs_long batch (within (event.Write batch) refl).0, tt)
  event_long (Some (event.Read block)) within = tt
  event_long (Some event.Barrier) within = tt
  event_long (Some (event.Deliver k)) within = tt
  event_long (Some (event.Settle count)) within = tt
  event_long (Some (event.Drop k)) within = tt
  event_long (Some (event.Lie from to bytes)) within = tt
  event_long (Some (event.Stop k calls keep fill)) within = tt
  event_long (Some (event.Crash node keep fill)) within = tt
  event_long (Some (event.Fail node call)) within = tt
  event_long (Some (event.Replace node)) within = tt
  event_long (Some event.ClientCrash) within = tt
  event_long (Some (event.Restart session)) within = tt
  event_long (Some (event.Reassign session region)) within = tt
  event_long (Some (event.Tick party)) within = tt

  all_taken : (n : ℕ) (list : List Batch) → AllByRecursion (IsLong shape) list → AllByRecursion (IsLong shape) (take n list)
  all_taken zero list all = tt
  all_taken (suc n) [] all = tt
  all_taken (suc n) (batch ∷ list) all = (all.0, all_taken n list all.1)

  module _ (events : List Event) (within : AllByRecursion (IsEventWithin shape) events) where
    some_event : (b : Bool) (o : Option Event) (e : Event) → (if b then o else None) ≡ Some e → o ≡ Some e
    some_event true o e is = is
    some_event false o e is = absurd (cc)

    at_long : (v : ℕ) → AllByRecursion (IsLong shape) (batch_of (event_at events v))
    at_long v = event_long (event_at events v) (λ e at. among_all (IsEventWithin shape) events e (get_among events (v - 1) e (some_event (nat_lt 0 v) _ e at)) within)

    pub known_long : (judge : Judge) → AllLong shape judge → (known : Session) (e : ℕ) → known_at judge e ≡ Some known → AreLong shape known
    known_long judge all known e at = among_all (AreLong shape) (all_known judge) known (known_among judge e known at) all

    begun_long : (judge : Judge) (e s : ℕ) (o : Option Session) → ((from : Session) → o ≡ Some from → AreLong shape from) → AllLong shape judge → AllByRecursion (AreLong shape) (begun_from judge e s o)
    begun_long judge e s None from all = all.1
    begun_long judge e s (Some session) from all = (all_taken s session.list (from session refl), all.1)

    opened_long : (judge : Judge) (e : ℕ) (o : Option Session) → ((known : Session) → o ≡ Some known → AreLong shape known) → AllLong shape judge → AllLong shape (opened_as judge e o)
    opened_long judge e None known all = all
    opened_long judge e (Some session) known all = (known session refl, all)

    line_long : (judge : Judge) (l : Line) → AllLong shape judge → AllLong shape (judged events judge l)
    line_long judge (line.Submit v s) all = (all_both (IsLong shape) judge.now.list (batch_of (event_at events v)) all.0 (at_long v), all.1)
    line_long judge (line.Ack s) all = all
    line_long judge (line.Read v b x) all = all
    line_long judge (line.Fault v b strikes) all = all
    line_long judge (line.Barrier v s) all = all
    line_long judge (line.Refused v cause) all = all
    line_long judge (line.Skip v k) all = all
    line_long judge (line.Stage e f s) all = (all.0, begun_long judge e s (known_at judge f) (λ from at. known_long judge all from f at) all)
    line_long judge (line.Open e) all = opened_long judge e (known_at judge e) (λ known at. known_long judge all known e at) all
    line_long judge (line.Lost e) all = all

    -- lines keep it
    pub lines_long : (lines : List Line) (judge : Judge) → AllLong shape judge → AllLong shape (judged_all events judge lines)
    unfolding judged_all
    lines_long [] judge all = all
    lines_long (l ∷ lines) judge all = lines_long lines (judged events judge l) (line_long judge l all)

-- ---- what a batch writes in a region

left_long : (shape : Shape) (batch : Batch) (b : ℕ) (bytes : List ℕ) → IsLong shape batch → bytes_left batch b ≡ Some bytes → length bytes ≡ shape.block
unfolding bytes_left
left_long shape [] b bytes all is = absurd (cc)
left_long shape (w ∷ batch) b bytes all is = of_either (bytes_left batch b) (w.block == b) (λ at. left_long shape batch b bytes all.1 at) is where
  of_either : (o : Option (List ℕ)) (t : Bool) → (o ≡ Some bytes → length bytes ≡ shape.block) → option_or o (if t then Some w.bytes else None) ≡ Some bytes → length bytes ≡ shape.block
  of_either (Some x) t rest at = rest at
  of_either None true rest at = let same : w.bytes ≡ bytes = cc in subst (λ (y : List ℕ). length y ≡ shape.block) same all.0
  of_either None false rest at = absurd (cc)

ascends_low : (low lower : ℕ) (xs : List ℕ) → lower ≤ low → ascends_from low xs ≡ true → ascends_from lower xs ≡ true
unfolding ascends_from
ascends_low low lower [] down is = refl
ascends_low low lower (x ∷ xs) down is =
    let up : low ≤ x = leb-true low x (and_left (nat_le low x) (ascends_from (x + 1) xs) is) in
    both_true (nat_le lower x) (ascends_from (x + 1) xs) (le-leb lower x (omega (arith, down, up))) (and_right (nat_le low x) (ascends_from (x + 1) xs) is)

module _ (f : ℕ → Option (List ℕ)) where
  abbrev written : ℕ → ℕ → List PlaceWrite
  written a n = filter_map (λ i. placed i (f i)) (range_with_len a n)

  more_ascend : (a : ℕ) (ws : List PlaceWrite) (o : Option (List ℕ)) → ascends_from (a + 1) (map (λ (w : PlaceWrite). w.place) ws) ≡ true
      → ascends_from a (map (λ (w : PlaceWrite). w.place) (cons_option (placed a o) ws)) ≡ true
  unfolding ascends_from
  more_ascend a ws None rest = ascends_low (a + 1) a (map (λ (w : PlaceWrite). w.place) ws) (omega arith) rest
  more_ascend a ws (Some bytes) rest = both_true (nat_le a a) (ascends_from (a + 1) (map (λ (w : PlaceWrite). w.place) ws)) (le-leb a a (omega arith)) rest

  places_ascend : (a n : ℕ) → ascends_from a (map (λ (w : PlaceWrite). w.place) (written a n)) ≡ true
  unfolding ascends_from
  places_ascend a zero = refl
  places_ascend a (suc n) = more_ascend a (written (a + 1) n) (f a) (places_ascend (a + 1) n)

  more_fit : (top block a : ℕ) (ws : List PlaceWrite) (o : Option (List ℕ)) → a < top → ((bytes : List ℕ) → o ≡ Some bytes → length bytes ≡ block)
      → list_all (λ (w : PlaceWrite). nat_lt w.place top && (length w.bytes == block)) ws ≡ true
      → list_all (λ (w : PlaceWrite). nat_lt w.place top && (length w.bytes == block)) (cons_option (placed a o) ws) ≡ true
  more_fit top block a ws None inside is rest = rest
  more_fit top block a ws (Some bytes) inside is rest =
      both_true (nat_lt a top && (length bytes == block)) (list_all (λ (w : PlaceWrite). nat_lt w.place top && (length w.bytes == block)) ws)
      (both_true (nat_lt a top) (length bytes == block) (lt-ltb a top inside) (eq-eqb (length bytes) block (is bytes refl))) rest

  writes_fit_in : (top block a n : ℕ) → a + n ≤ top → ((i : ℕ) (bytes : List ℕ) → f i ≡ Some bytes → length bytes ≡ block)
      → list_all (λ (w : PlaceWrite). nat_lt w.place top && (length w.bytes == block)) (written a n) ≡ true
  writes_fit_in top block a zero inside long = refl
  writes_fit_in top block a (suc n) inside long =
      more_fit top block a (written (a + 1) n) (f a) (omega (arith, inside)) (λ bytes is. long a bytes is) (writes_fit_in top block (a + 1) n (omega (arith, inside)) long)

filtered_ascend : (test : ℕ → Bool) (a n : ℕ) → ascends_from a (filter test (range_with_len a n)) ≡ true
unfolding ascends_from
filtered_ascend test a zero = refl
filtered_ascend test a (suc n) =
    let rest : ascends_from (a + 1) (filter test (range_with_len (a + 1) n)) ≡ true = filtered_ascend test (a + 1) n in
    way_with (test a) (a ∷ filter test (range_with_len (a + 1) n)) (filter test (range_with_len (a + 1) n)) (λ l. ascends_from a l ≡ true)
    (λ _. both_true (nat_le a a) (ascends_from (a + 1) (filter test (range_with_len (a + 1) n))) (le-leb a a (omega arith)) rest)
    (λ _. ascends_low (a + 1) a (filter test (range_with_len (a + 1) n)) (omega arith) rest)

-- ---- a part

batch_long : (shape : Shape) (list : List Batch) (i : ℕ) → i < length list → AllByRecursion (IsLong shape) list → IsLong shape (get_or list i [])
batch_long shape [] i within all = absurd (omega (arith, within))
batch_long shape (b ∷ list) zero within all = all.0
batch_long shape (b ∷ list) (suc i) within all = batch_long shape list i (omega (arith, within)) all.1

module _ (shape : Shape) (key : List ℕ) (known : Session) (countable : IsCountable shape known) (long : AreLong shape known) (g : ℕ) where
  sized : IsSized shape known
  sized = record { long = countable.long; begun = countable.begun }

  part_fits : (s : ℕ) → known.base < s → s ≤ length known.list → record_fits shape (part_of shape key known s g) ≡ true
  unfolding part_of record_fits
  part_fits s above within =
      let batch : Batch = batch_at known s in
      let each : IsLong shape batch = batch_long shape known.list (s - 1) (omega (arith, above, within)) long in
      let f : ℕ → Option (List ℕ) = λ i. bytes_left batch (g * region_blocks shape + i) in
      both_true _ true
      (both_true _ _ (places_ascend f 0 (region_blocks shape)) (writes_fit_in f (region_blocks shape) shape.block 0 (region_blocks shape) (omega arith) (λ i bytes is. left_long shape batch (g * region_blocks shape + i) bytes each is)))
      refl

  touched_here : (s : ℕ) → touches shape (batch_at known s) g ≡ true → g < regions shape → touches_here shape g (part_of shape key known s g).header.touched ≡ true
  unfolding part_of
  touched_here s touched inside =
      let regional : List ℕ = touched_by shape (batch_at known s) in
      both_true (ascends_from 0 regional && list_all (λ r. nat_lt r (regions shape)) regional) (list_any (λ r. r == g) regional)
      (both_true (ascends_from 0 regional) (list_all (λ r. nat_lt r (regions shape)) regional) (filtered_ascend (λ r. touches shape (batch_at known s) r) 0 (regions shape))
      (all_members (λ r. nat_lt r (regions shape)) regional (λ r among. lt-ltb r (regions shape) (let below = (among_range (regions shape) 0 r (among_filter (λ x. touches shape (batch_at known s) x) r (all_regions shape) among).0).1 in omega (arith, below)))))
      (any_from (λ r. r == g) g regional (among_filter-in (λ x. touches shape (batch_at known s) x) (all_regions shape) g (among_range-in (regions shape) 0 g (omega arith) (omega (arith, inside))) touched) (eq-eqb g g refl))

  -- The law: it has the right shape.
  pub part_shaped : (rec : Record) → IsPartOf shape key known g rec → has_right_shape shape g rec ≡ true
  unfolding has_right_shape header_fits
  part_shaped rec part =
      let h : Header = rec.header in
      let fits : record_fits shape rec ≡ true = subst (λ (r : Record). record_fits shape r ≡ true) (sym part.is) (part_fits part.s part.own part.within) in
      let counts : record_counts shape key rec ≡ true = own-counts shape key known sized countable.small countable.some g rec (inl part) fits in
      let header : header_fits shape h ≡ true = and_right (is_genuine key rec) (header_fits shape h) (and_left (is_genuine key rec && header_fits shape h) (record_fits shape rec) counts) in
      let one = and_left _ (nat_le h.seq (2 ^ 63)) header in
      let two = and_left _ (list_all (λ f. nat_le f (2 ^ 63)) h.fronts) one in
      let many : (length h.fronts == regions shape) ≡ true = and_right _ (length h.fronts == regions shape) two in
      let led : nat_lt h.leader_before (regions shape) ≡ true = and_right _ (nat_lt h.leader_before (regions shape)) (and_left _ (length h.fronts == regions shape) two) in
      let here : touches_here shape g h.touched ≡ true = subst (λ (r : Record). touches_here shape g r.header.touched ≡ true) (sym part.is) (touched_here part.s part.touched part.inside) in
      let rises : h.previous < h.seq = (session_chain shape key known sized g part.inside).rises rec part in
      both_true (header_is_right shape g h && has_content rec.writes rec.run) (record_fits shape rec)
      (both_true (header_is_right shape g h) (has_content rec.writes rec.run)
      (both_true _ (nat_lt h.previous h.seq)
      (both_true _ (nat_lt h.leader_before (regions shape)) (both_true (length h.fronts == regions shape) (touches_here shape g h.touched) many here) led) (lt-ltb h.previous h.seq rises))
      (part-content shape key known g rec part)) fits
