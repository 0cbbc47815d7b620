-- The parts that are made are the untagged parts, and those, sealed, are the rules'.
use Rattle.std.proofs.Common.{◌≡◌, ℕ, zero, suc, ◌+◌, ◌-◌, ◌^◌, ◌<◌, ◌≤◌, ◌∙◌, Bool, true, false, cond, if◌then◌else◌, List, [], ◌∷◌, ◌++◌, map, length, get_or, Some, None, refl, ap, ap₂, sym, subst, arith, length-append}
use Rattle.std.specs.Prelude.{filter, replicate, slice_index, All}
use Rattle.std.specs.List.{range_with_len}
use Rattle.std.proofs.lemmas.List.Elements.{All-nil, All-cons}
use Rattle.std.proofs.lemmas.List.FromFn.{length-map-range_with_len}
use Rattle.std.proofs.lemmas.Nat.{pow_pos}
use Rattle.salus_types.specs.Volume.{Shape, regions}
use Rattle.salus_types.specs.declared.records.Header.{Header}
use Rattle.salus_types.specs.declared.records.Record.{Record}
use Rattle.schedule_text.specs.declared.schedule.Volume.{Volume}
use Rattle.merkle_volume.specs.Top.{top_of}
use Rattle.client_tag.specs.Tags.{sealed}
use Rattle.client_tag.specs.Ranges.{IsHeader, IsRecord, IsBetween}
use Rattle.volume_model.specs.Contents.{Batch, all_regions, apply, region_root, roots_of, volume_top}
use Rattle.volume_model.specs.Parts.{touches, touched_by, leader_of, writes_in}
use Rattle.replica_rules.specs.Voting.{greater}
use Rattle.client_rules.specs.State.{Serving, Unacked}
use Rattle.client_rules.specs.Tables.{number_at}
use Rattle.client_rules.specs.Submitting.{numbers_after, next_header, next_part, next_parts, with_batch}
use Rattle.client_window.specs.Window.{KeptWindow, IsWindow, IsWriteOf, AreWaiting}
use Rattle.client_window.specs.Untagged.{numbers_with, with_roots, roots_with, header_with, untagged_part, untagged_parts, window_with}
use Rattle.client_window.specs.Parting.{shared_header, header_for, part_for, parts_for, topped}
use Rattle.client_window.specs.Standing.{StandsFor, HasRoots}
use Rattle.client_window.proofs.Due.{waiting_longer}
use Rattle.client_window.proofs.Rooted.{roots_are, root_at, Rises, touched_rises, StandAt, new_roots_stand, length-with_roots}
use Rattle.client_window.proofs.Sized.{few_writes, small_writes}

-- ---- what is made

-- the part over other roots after the batch
abbrev part_over : KeptWindow → Batch → List (List ℕ) → ℕ → Record
part_over w batch roots g = record { header = header_with w batch roots g; writes = writes_in w.shape batch g; run = None; tag = replicate 32 0 }

made_over : (w : KeptWindow) (batch : Batch) (roots : List (List ℕ)) (touched : List ℕ) (news : List (List ℕ)) → length news ≡ length touched → StandAt roots touched news
    → map (topped (top_of w.shape.regions_log roots)) (parts_for w.shape batch (shared_header w batch) w.numbers touched news) ≡ map (part_over w batch roots) touched
unfolding parts_for
made_over w batch roots [] news long stand = refl
made_over w batch roots (g ∷ touched) [] long stand = absurd (omega arith)
made_over w batch roots (g ∷ touched) (new ∷ news) long stand =
    ap₂ (λ root rest. record { header = record (header_with w batch roots g) { root = root }; writes = writes_in w.shape batch g; run = None; tag = replicate 32 0 } ∷ rest)
    (sym stand.0) (made_over w batch roots touched news (omega arith) stand.1)

-- what is made are the untagged parts
pub made_are : (w : KeptWindow) (batch : Batch) (news : List (List ℕ)) → length w.roots ≡ regions w.shape → length news ≡ length (touched_by w.shape batch)
    → map (topped (top_of w.shape.regions_log (roots_with w batch news))) (parts_for w.shape batch (shared_header w batch) w.numbers (touched_by w.shape batch) news)
    ≡ untagged_parts w batch news
unfolding untagged_part
made_are w batch news rooted long =
    made_over w batch (roots_with w batch news) (touched_by w.shape batch) news long
    (new_roots_stand (touched_by w.shape batch) news w.roots 0 (subst (λ n. Rises 0 n (touched_by w.shape batch)) (sym rooted) (touched_rises w.shape batch)))

-- ---- they have a spelling

all_rising : {X : Type 0} (f : ℕ → X) (Q : X → Type 0) (low high : ℕ) (touched : List ℕ) → Rises low high touched → ((g : ℕ) → g < high → Q (f g)) → All Q (map f touched)
all_rising f Q low high [] rises each = All-nil Q
all_rising f Q low high (g ∷ touched) rises each = All-cons Q (f g) (map f touched) (each g rises.1) (all_rising f Q (g + 1) high touched rises.2 each)

rising_few : (low high : ℕ) (touched : List ℕ) → low ≤ high → Rises low high touched → low + length touched ≤ high
rising_few low high [] up rises = omega arith
rising_few low high (g ∷ touched) up rises = let rest = rising_few (g + 1) high touched (omega (arith, rises.1)) rises.2 in omega (arith, rises.0)

module _ (w : KeptWindow) (batch : Batch) (news : List (List ℕ)) (few : regions w.shape ≤ 16) (block : IsBetween 1 4096 w.shape.block) (short : length batch ≤ 64) (writes : All (IsWriteOf w.shape) batch) where
  is_record : 1 ≤ length (touched_by w.shape batch) → (g : ℕ) → IsRecord (untagged_part w batch news g)
  unfolding untagged_part
  is_record some g =
      let fronts : length (numbers_with w batch) ≡ regions w.shape =
      length-map-range_with_len (λ r. if touches w.shape batch r then w.last + 1 else slice_index w.numbers r) 0 (regions w.shape) in
      let one : 0 < regions w.shape = pow_pos w.shape.regions_log in
      let touched : 0 + length (touched_by w.shape batch) ≤ regions w.shape = rising_few 0 (regions w.shape) (touched_by w.shape batch) (omega arith) (touched_rises w.shape batch) in
      let written : length (writes_in w.shape batch g) ≤ length batch = few_writes w.shape batch g in
      record {
        its_header = record { first_version = (omega arith, omega arith); few_fronts = (omega arith, omega arith); few_touched = (omega arith, omega arith) };
        few_writes = (omega arith, omega arith);
        small_writes = small_writes w.shape batch g block writes;
        no_run = refl;
      }

  are_those : (touched : List ℕ) → touched_by w.shape batch ≡ touched → All IsRecord (map (λ g. untagged_part w batch news g) touched)
  are_those [] are = All-nil IsRecord
  are_those (g ∷ rest) are =
      let some : 1 ≤ length (touched_by w.shape batch) = subst (λ l. 1 ≤ length l) (sym are) (omega arith) in
      all_rising (λ r. untagged_part w batch news r) IsRecord 0 (regions w.shape) (g ∷ rest) (subst (Rises 0 (regions w.shape)) are (touched_rises w.shape batch)) (λ r inside. is_record some r)

  pub are_records : All IsRecord (untagged_parts w batch news)
  are_records = are_those (touched_by w.shape batch) refl

-- ---- sealed they are those of the rules

abbrev rules_part : List ℕ → Shape → Serving → Batch → ℕ → Record
rules_part key shape c batch g = sealed key (record { header = next_header shape c batch g; writes = writes_in shape batch g; run = None; tag = replicate 32 0 })

map-append : (us : List Unacked) (u : Unacked) → map (λ (x : Unacked). x.leader) (us ++ u ∷ []) ≡ map (λ (x : Unacked). x.leader) us ++ u.leader ∷ []
map-append [] u = refl
map-append (x ∷ us) u = ap (λ l. x.leader ∷ l) (map-append us u)

module _ (w : KeptWindow) (c : Serving) (batch : Batch) (news : List (List ℕ)) (stands : StandsFor w c) (are : HasRoots w.shape c.contents batch news) where
  roots_same : roots_with w batch news ≡ roots_of w.shape (apply c.contents batch)
  roots_same = ap (λ l. with_roots (touched_by w.shape batch) news l) stands.roots ∙ roots_are w.shape c.contents batch news are

  numbers_same : numbers_with w batch ≡ numbers_after w.shape c batch
  numbers_same = λ i. map (λ r. if touches w.shape batch r then stands.last i + 1 else slice_index (stands.numbers i) r) (all_regions w.shape)

  header_same : (g : ℕ) → g < regions w.shape → header_with w batch (roots_with w batch news) g ≡ next_header w.shape c batch g
  header_same g inside =
      let root : get_or (roots_with w batch news) g [] ≡ region_root w.shape (apply c.contents batch) g =
      ap (λ l. get_or l g []) roots_same ∙ root_at w.shape (apply c.contents batch) g inside in
      λ i. record {
        version = 1;
        session = stands.session i;
        seq = stands.last i + 1;
        region = g;
        previous = slice_index (stands.numbers i) g;
        leader_before = stands.leader i;
        fronts = numbers_same i;
        touched = touched_by w.shape batch;
        root = root i;
        top = top_of w.shape.regions_log (roots_same i);
      }

  each_sealed : (key : List ℕ) (low : ℕ) (touched : List ℕ) → Rises low (regions w.shape) touched
      → map (sealed key) (map (λ g. untagged_part w batch news g) touched) ≡ map (λ g. rules_part key w.shape c batch g) touched
  unfolding untagged_part
  each_sealed key low [] rises = refl
  each_sealed key low (g ∷ touched) rises =
      ap₂ (λ h rest. sealed key (record { header = h; writes = writes_in w.shape batch g; run = None; tag = replicate 32 0 }) ∷ rest)
      (header_same g rises.1) (each_sealed key (g + 1) touched rises.2)

  pub parts_sealed : (volume : Volume) → volume.geometry ≡ w.shape → map (sealed volume.key) (untagged_parts w batch news) ≡ next_parts volume c batch
  unfolding next_part
  parts_sealed volume same =
      each_sealed volume.key 0 (touched_by w.shape batch) (touched_rises w.shape batch)
      ∙ ap (λ shape. map (λ g. rules_part volume.key shape c batch g) (touched_by shape batch)) (sym same)

  pub stands_with : (volume : Volume) → volume.geometry ≡ w.shape → StandsFor (window_with w batch news) (with_batch volume c batch)
  stands_with volume same =
      let leader : leader_of w.shape batch ≡ leader_of volume.geometry batch = ap (λ shape. leader_of shape batch) (sym same) in
      record {
        session = stands.session;
        base = stands.base;
        last = ap (λ n. n + 1) stands.last;
        acked = stands.acked;
        numbers = numbers_same ∙ ap (λ shape. numbers_after shape c batch) (sym same);
        roots = roots_same;
        leader = leader;
        leaders = ap₂ (λ l x. l ++ x ∷ []) stands.leaders leader ∙ sym (map-append c.unacked (record { leader = leader_of volume.geometry batch; parts = next_parts volume c batch }));
        claims = stands.claims;
        barriers = stands.barriers;
      }

-- ---- it is a window again

pub window_goes_on : (w : KeptWindow) (batch : Batch) (news : List (List ℕ)) → IsWindow w → w.last - w.acked < 16 → IsWindow (window_with w batch news)
window_goes_on w batch news is room =
    let front = is.front in
    let counted = is.counted in
    let long : length (w.leaders ++ leader_of w.shape batch ∷ []) ≡ length w.leaders + 1 = length-append w.leaders (leader_of w.shape batch ∷ []) in
    record {
      numbered = length-map-range_with_len (λ r. if touches w.shape batch r then w.last + 1 else slice_index w.numbers r) 0 (regions w.shape);
      rooted = length-with_roots (touched_by w.shape batch) news w.roots ∙ is.rooted;
      claims_shape = is.claims_shape;
      based = is.based;
      front = omega arith;
      counted = omega arith;
      few = omega arith;
      waiting = waiting_longer 0 w.barriers w.last (w.last + 1) (omega arith) is.waiting;
      few_wait = is.few_wait;
    }

-- ---- what a submit leaves, from what it made

module _ (before now : KeptWindow) (same : before ≡ now) (is : IsWindow before) (batch : Batch) (news : List (List ℕ)) (shared : Header) (is_shared : shared ≡ shared_header now batch) where
  is_now : IsWindow now
  is_now = subst IsWindow same is

  pub rooted_now : length now.roots ≡ regions now.shape
  rooted_now = is_now.rooted

  pub roots_made : (touched : List ℕ) (given roots : List (List ℕ)) → touched ≡ shared.touched → given ≡ news → roots ≡ with_roots touched given before.roots → roots ≡ roots_with now batch news
  roots_made touched given roots are at made =
      made ∙ ap₂ (λ a b. with_roots a b before.roots) (are ∙ ap (λ (h : Header). h.touched) is_shared) at
      ∙ ap (λ (w : KeptWindow). with_roots (touched_by now.shape batch) news w.roots) same

  pub top_made : (roots : List (List ℕ)) (top : List ℕ) → roots ≡ roots_with now batch news → ((k : ℕ) → length roots ≡ 2 ^ k → top ≡ top_of k roots) → top ≡ top_of now.shape.regions_log (roots_with now batch news)
  top_made roots top made is_top =
      is_top now.shape.regions_log (ap length made ∙ length-with_roots (touched_by now.shape batch) news now.roots ∙ rooted_now)
      ∙ ap (top_of now.shape.regions_log) made

  pub parts_made : (parts : List Record) (top : List ℕ) → length news ≡ length (touched_by now.shape batch)
      → top ≡ top_of now.shape.regions_log (roots_with now batch news) → parts ≡ parts_for now.shape batch shared now.numbers (touched_by now.shape batch) news
      → map (topped top) parts ≡ untagged_parts now batch news
  parts_made parts top long at made =
      ap₂ (λ t ps. map (topped t) ps) at (made ∙ ap (λ h. parts_for now.shape batch h now.numbers (touched_by now.shape batch) news) is_shared)
      ∙ made_are now batch news rooted_now long

  -- the fields of the window after it
  module _ (roots : List (List ℕ)) (leader : ℕ) (leaders : List ℕ) (is_roots : roots ≡ roots_with now batch news) (is_leader : leader ≡ slice_index shared.touched 0) (are_leaders : leaders ≡ before.leaders ++ leader ∷ []) where
    abbrev after : KeptWindow
    after = record before { last = shared.seq; numbers = shared.fronts; roots = roots; leader = leader; leaders = leaders }

    led : leader ≡ leader_of now.shape batch
    led = is_leader ∙ ap (λ (h : Header). slice_index h.touched 0) is_shared

    pub after_is : after ≡ window_with now batch news
    after_is =
        let all : leaders ≡ now.leaders ++ leader_of now.shape batch ∷ [] = are_leaders ∙ ap₂ (λ l x. l ++ x ∷ []) (ap (λ (w : KeptWindow). w.leaders) same) led in
        λ i. record {
          shape = (same i).shape;
          session = (same i).session;
          base = (same i).base;
          last = (is_shared i).seq;
          acked = (same i).acked;
          numbers = (is_shared i).fronts;
          roots = is_roots i;
          leader = led i;
          leaders = all i;
          claims = (same i).claims;
          barriers = (same i).barriers;
        }

    pub after_window : now.last - now.acked < 16 → IsWindow after
    after_window room = subst IsWindow (sym after_is) (window_goes_on now batch news is_now room)
