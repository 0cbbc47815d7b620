-- The parts that the client makes of a batch are those of the session's list.
use Rattle.std.proofs.Common.{◌≡◌, ℕ, zero, suc, ◌+◌, ◌-◌, ◌<◌, ◌≤◌, true, false, ◌==◌, ◌∙◌, if◌then◌else◌, List, [], ◌∷◌, ◌++◌, map, length, take, drop, get_or, None, refl, ap, ap₂, sym, arith, length-append, eq-eqb, eqb-true}
use Rattle.std.specs.Prelude.{replicate}
use Rattle.std.specs.List.{range_with_len}
use Rattle.std.proofs.lemmas.List.{take_all, take-append-le, get_or_append_left}
use Rattle.std.proofs.Math.Seq.{get_or-append_seam}
use Rattle.salus_types.specs.Volume.{Shape, regions}
use Rattle.schedule_text.specs.declared.schedule.Volume.{Volume}
use Rattle.volume_model.specs.Contents.{Batch, all_regions, apply, fold_batches, region_root, volume_top}
use Rattle.client_tag.specs.Tags.{sealed}
use Rattle.volume_model.specs.Parts.{Session, touches, touched_by, leader_of, last_touch, number_of, batch_at, leader_before, contents_after, writes_in, part_header, part_of, base_of}
use Rattle.salus_model.specs.Judge.{Judge, last_number}
use Rattle.client_rules.specs.State as state
use Rattle.client_rules.specs.Tables.{number_at}
use Rattle.client_rules.specs.Submitting.{next_header, next_part}
use Rattle.client_rules.specs.Opening.{base_record}
use Rattle.list_lemmas.proofs.Tests.{by_test}
use Rattle.law_lemmas.proofs.Numbered.{fold_batches-one}
use Rattle.law_lines.specs.Mirror.{MirrorsCounts}
use Rattle.law_lines.specs.Mirrors.{MirrorsKnown}
use Rattle.law_lines.proofs.Submitted.{number-more}

-- two functions that agree on these numbers
map-range : {A : Type 0} (f g : ℕ → A) (a n m : ℕ) → a + n ≤ m → ((r : ℕ) → r < m → f r ≡ g r) → map f (range_with_len a n) ≡ map g (range_with_len a n)
map-range f g a zero m up same = refl
map-range f g a (suc n) m up same = ap₂ (λ x xs. x ∷ xs) (same a (omega (arith, up))) (map-range f g (a + 1) n m (omega (arith, up)) same)

positive : (n : ℕ) → (n == zero) ≡ false → n - 1 < n
positive zero off = absurd (let same : (zero == zero) ≡ true = eq-eqb zero zero refl in cc)
positive (suc n) off = omega arith

module _ (shape : Shape) (judge : Judge) (c : state.Serving) (batch : Batch) (counts : MirrorsCounts shape judge c) where
  abbrev list : List Batch
  list = judge.now.list

  -- the session with one batch more
  abbrev pub more : Session
  more = record judge.now { list = list ++ batch ∷ [] }

  count : length (list ++ batch ∷ []) ≡ length list + 1
  count = length-append list (batch ∷ [])

  based : judge.now.base ≤ length list
  based = let a = counts.based in let b = counts.within in omega (arith, a, b)

  here : length list + 1 - 1 ≡ length list
  here = omega arith

  batch_is : batch_at more (length list + 1) ≡ batch
  batch_is = ap (λ i. get_or (list ++ batch ∷ []) i []) here ∙ get_or-append_seam list batch [] []

  number_is : (r : ℕ) → r < regions shape → (if touches shape batch r then c.last + 1 else number_at c r) ≡ number_of shape more (length list + 1) r
  number_is r inside =
      ap₂ (λ k l. if touches shape batch r then k + 1 else l) counts.last (counts.numbers r inside)
      ∙ sym (number-more shape r judge.now.base list batch based)
      ∙ ap (λ k. last_touch shape r judge.now.base (judge.now.base + 1) (drop judge.now.base (take k (list ++ batch ∷ [])))) count

  previous_is : (g : ℕ) → g < regions shape → number_at c g ≡ number_of shape more (length list + 1 - 1) g
  previous_is g inside =
      counts.numbers g inside
      ∙ ap (λ l. last_touch shape g judge.now.base (judge.now.base + 1) (drop judge.now.base l))
      (sym (ap (λ k. take k (list ++ batch ∷ [])) here ∙ take-append-le (length list) list (batch ∷ []) (omega arith)))

  contents_is : apply c.contents batch ≡ contents_after more (length list + 1)
  contents_is =
      ap (λ cs. apply cs batch) counts.contents ∙ sym (fold_batches-one list batch judge.now.origin)
      ∙ ap (fold_batches judge.now.origin) (sym (take_all (length list + 1) (list ++ batch ∷ []) (let n = count in omega (arith, n))))

  leader_is : c.leader ≡ leader_before shape more (length list + 1)
  leader_is =
      counts.leads
      ∙ by_test (λ t. (length list == judge.now.base) ≡ t → (if t then 0 else leader_of shape (batch_at judge.now (length list))) ≡ (if t then 0 else leader_of shape (batch_at more (length list))))
      (length list == judge.now.base) (λ _ _. refl)
      (λ _ off. ap (leader_of shape) (sym (get_or_append_left list (batch ∷ []) [] (length list - 1) (some off)))) refl
      ∙ ap (λ k. if k == judge.now.base then 0 else leader_of shape (batch_at more k)) (sym here)
    where
      some : (length list == judge.now.base) ≡ false → length list - 1 < length list
      some off =
          by_test (λ t. (length list == zero) ≡ t → length list - 1 < length list) (length list == zero)
          (λ _ at. let none : length list ≡ 0 = eqb-true (length list) 0 at in let b = based in
          let same : (length list == judge.now.base) ≡ true = eq-eqb (length list) judge.now.base (omega (arith, none, b)) in absurd (cc))
          (λ _ off2. positive (length list) off2) refl

  header_is : (g : ℕ) → g < regions shape → next_header shape c batch g ≡ part_header shape more (length list + 1) g
  header_is g inside = λ i. record {
    version = 1;
    session = counts.session i;
    seq = ap (λ k. k + 1) counts.last i;
    region = g;
    previous = previous_is g inside i;
    leader_before = leader_is i;
    fronts = map-range (λ r. if touches shape batch r then c.last + 1 else number_at c r) (λ r. number_of shape more (length list + 1) r) 0 (regions shape) (regions shape) (omega arith) number_is i;
    touched = ap (touched_by shape) (sym batch_is) i;
    root = ap (λ cs. region_root shape cs g) contents_is i;
    top = ap (volume_top shape) contents_is i;
  }

-- The part of a batch that the client makes for a region is that of the session's list with the batch.
pub part-is : (volume : Volume) (judge : Judge) (c : state.Serving) (batch : Batch) → MirrorsCounts volume.geometry judge c
    → (g : ℕ) → g < regions volume.geometry
    → next_part volume c batch g ≡ part_of volume.geometry volume.key (record judge.now { list = judge.now.list ++ batch ∷ [] }) (last_number judge + 1) g
unfolding next_part part_of
part-is volume judge c batch counts g inside =
    ap₂ (λ h b. sealed volume.key (record { header = h; writes = writes_in volume.geometry b g; run = None; tag = replicate 32 0 }))
    (header_is volume.geometry judge c batch counts g inside) (sym (batch_is volume.geometry judge c batch counts))

-- the base records of a session that begins are those of the known session
pub base-is : (volume : Volume) (judge : Judge) (b : state.Beginning) (k : MirrorsKnown judge b) (g : ℕ)
    → base_record volume b.session b.seq b.contents g ≡ base_of volume.geometry volume.key k.known g
unfolding base_record base_of
base-is volume judge b k g =
    let whole : take k.known.base k.known.list ≡ k.known.list = take_all k.known.base k.known.list (let c = k.count in let d = k.base in omega (arith, c, d)) in
    let contents : b.contents ≡ contents_after k.known k.known.base = k.contents ∙ ap (fold_batches k.known.origin) (sym whole) in
    λ i. sealed volume.key (record {
      header = record {
        version = 1;
        session = sym k.session i;
        seq = sym k.base i;
        region = g;
        previous = 0;
        leader_before = 0;
        fronts = replicate (regions volume.geometry) (sym k.base i);
        touched = all_regions volume.geometry;
        root = region_root volume.geometry (contents i) g;
        top = volume_top volume.geometry (contents i);
      };
      writes = [];
      run = None;
      tag = replicate 32 0;
    })
