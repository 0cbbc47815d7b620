-- The blocks of all regions, gathered one region after the other, and what a header names.
use Rattle.std.proofs.Common.{◌≡◌, ℕ, ◌+◌, ◌<◌, ◌^◌, ◌∙◌, Bool, true, false, cond, List, [], ◌∷◌, ◌++◌, length, map, get_or, slice_index, Option, None, Some, inl, inr, refl, ap, ap₂, subst, sym, arith}
use Rattle.std.specs.Prelude.{bytes_eq, option_map, IfSome}
use Rattle.std.proofs.lemmas.List.{length-append, length-map, map-append, append-nil}
use Rattle.std.proofs.Math.Seq.{get_or-append_seam}
use Rattle.std.proofs.lemmas.List.{get_or_append_left}
use Rattle.std.proofs.lemmas.List.FromFn.{length-map-range_with_len, get_or-map-range_with_len}
use Rattle.std.proofs.lemmas.Grind.{flat_map-append}
use Rattle.std.proofs.lemmas.Bool.{cases_lt}
use Rattle.salus_types.specs.Volume.{regions}
use Rattle.salus_types.specs.declared.records.Header.{Header}
use Rattle.salus_types.specs.declared.records.Record.{Record}
use Rattle.salus_types.specs.declared.records.Base.{Base}
use Rattle.merkle_region.specs.Tree.{root_of, IsAmong, NoTwoCollide}
use Rattle.merkle_region.proofs.Membership.{none-within}
use Rattle.merkle_volume.specs.Top.{top_of}
use Rattle.holding_model.specs.Fitting.{has_shape}
use Rattle.volume_model.specs.Contents.{all_regions}
use Rattle.volume_model.specs.Recovering.{blocks_up_to, choices_of, picks, has_top, recovered}
use Rattle.restart_pool.specs.Kept.{Kept, IsSound}
use Rattle.restart_pool.specs.Assembled.{joined, contents_by, contents_of, region_chain_strings, session_strings, AreWhole, HasNoChain, IsRecovered, NoTwoShare}
use Rattle.restart_pool.specs.declared.assemble.Contents.{Contents}
use Rattle.restart_pool.specs.declared.replay.Whole.{Whole}
use Rattle.restart_pool.proofs.Picking.{IsOne, pick-in, no-pick, one-pick, find-one, find-not}
use Rattle.restart_pool.proofs.Single.{one-up_to}
use Rattle.list_lemmas.proofs.Members.{among_map, among_flat_map-in}

module _ (kept : Kept) (e : ℕ) (fronts : List ℕ) where
  abbrev of_region : ℕ → List (List (List ℕ))
  of_region g = blocks_up_to kept.shape kept.held e g (slice_index fronts g)

  pub whole-none : (contents : Contents) → contents.roots ≡ [] → contents.blocks ≡ [] → AreWhole kept e fronts 0 contents
  whole-none contents roots blocks = record { pick = []; count = refl; each = λ g lt. absurd (omega arith); roots = roots; blocks = blocks }

  module _ (n : ℕ) (old new : Contents) (whole : Whole) (so_far : AreWhole kept e fronts n old) (among : IsAmong whole.blocks (of_region n))
      (root : whole.root ≡ root_of kept.shape.height whole.blocks) (roots : new.roots ≡ old.roots ++ whole.root ∷ []) (blocks : new.blocks ≡ old.blocks ++ whole.blocks) where
    each_more : (g : ℕ) → g < n + 1 → IsAmong (get_or (so_far.pick ++ whole.blocks ∷ []) g []) (of_region g)
    each_more g lt = elim (cases_lt g n) [
      | inl less ↦
          let within : g < length so_far.pick = omega (arith, so_far.count, less) in
          subst (λ b. IsAmong b (of_region g)) (sym (get_or_append_left so_far.pick (whole.blocks ∷ []) [] g within)) (so_far.each g less)
      | inr most ↦
          let here : length so_far.pick ≡ g = omega (arith, so_far.count, most, lt) in
          let same : n ≡ g = omega (arith, most, lt) in
          subst (λ b. IsAmong b (of_region g)) (sym (subst (λ k. get_or (so_far.pick ++ whole.blocks ∷ []) k [] ≡ whole.blocks) here (get_or-append_seam so_far.pick whole.blocks [] [])))
          (subst (λ k. IsAmong whole.blocks (of_region k)) same among)
    ]

    pub whole-more : AreWhole kept e fronts (n + 1) new
    whole-more = record {
      pick = so_far.pick ++ whole.blocks ∷ [];
      count = length-append so_far.pick (whole.blocks ∷ []) ∙ ap (λ k. k + 1) so_far.count;
      each = each_more;
      roots = roots ∙ (ap (λ rs. rs ++ whole.root ∷ []) so_far.roots
          ∙ (ap (λ r. map (root_of kept.shape.height) so_far.pick ++ r ∷ []) root ∙ sym (map-append (root_of kept.shape.height) so_far.pick (whole.blocks ∷ []))));
      blocks = blocks ∙ (ap (λ bs. bs ++ whole.blocks) so_far.blocks ∙ last);
    } where
      last : joined so_far.pick ++ whole.blocks ≡ joined (so_far.pick ++ whole.blocks ∷ [])
      last = ap (λ bs. joined so_far.pick ++ bs) (sym (append-nil whole.blocks)) ∙ sym (flat_map-append (λ bs. bs) so_far.pick (whole.blocks ∷ []))

module _ (kept : Kept) (h : Header) where
  abbrev choices : List (List (List (List ℕ)))
  choices = choices_of kept.shape kept.held h

  abbrev of_front : ℕ → List (List (List ℕ))
  of_front g = blocks_up_to kept.shape kept.held h.session g (slice_index h.fronts g)

  choice_at : (g : ℕ) → g < regions kept.shape → get_or choices g [] ≡ of_front g
  choice_at g lt = get_or-map-range_with_len of_front 0 (regions kept.shape) g g [] lt (let e : 0 + g ≡ g = omega arith in e)

  pub picked : (contents : Contents) → (whole : AreWhole kept h.session h.fronts (regions kept.shape) contents) → IsAmong whole.pick (picks choices)
  picked contents whole =
      let n = length-map-range_with_len of_front 0 (regions kept.shape) in
      pick-in [] [] choices whole.pick (whole.count ∙ sym n)
      (λ g lt. let within : g < regions kept.shape = subst (λ k. g < k) n lt in subst (λ cs. IsAmong (get_or whole.pick g []) cs) (sym (choice_at g within)) (whole.each g within))

  pub none-picked : HasNoChain kept h.session h.fronts → picks choices ≡ []
  none-picked lacks =
      let n = length-map-range_with_len of_front 0 (regions kept.shape) in
      no-pick [] choices lacks.region (subst (λ k. lacks.region < k) (sym n) lacks.within) (choice_at lacks.region lacks.within ∙ lacks.none)

  same_contents : (contents : Contents) (whole : AreWhole kept h.session h.fronts (regions kept.shape) contents) → contents ≡ contents_by kept.shape whole.pick
  same_contents contents whole = ap₂ (λ rs bs. record { roots = rs; blocks = bs }) whole.roots whole.blocks

  -- the contents that were put together have the header's top
  pub recovered-sound : (contents : Contents) (whole : AreWhole kept h.session h.fronts (regions kept.shape) contents)
      → bytes_eq (top_of kept.shape.regions_log contents.roots) h.top ≡ true → IsRecovered kept h contents
  recovered-sound contents whole top = record {
    pick = whole.pick;
    among = picked contents whole;
    top = subst (λ roots. bytes_eq (top_of kept.shape.regions_log roots) h.top ≡ true) whole.roots top;
    is = same_contents contents whole;
  }

  pub recovered-none : HasNoChain kept h.session h.fronts → None ≡ contents_of kept h
  unfolding recovered
  recovered-none lacks = rw (none-picked lacks) refl

  module _ (shaped : (base : Base) → IsAmong base kept.held.bases → has_shape kept.shape base.blocks ≡ true)
      (rooted : (base : Base) → IsAmong base kept.held.bases → root_of kept.shape.height base.blocks ≡ base.rec.header.root)
      (plain : (rec : Record) → IsAmong rec kept.held.parts → rec.run ≡ None)
      (single : NoTwoShare kept.held) (none : NoTwoCollide (session_strings kept.shape kept.held h.session)) where
    each_one : (xs : List (List (List ℕ))) → IsAmong xs choices → IsOne xs
    each_one xs m =
        let from = among_map of_front xs (all_regions kept.shape) m in
        let strings = none-within (region_chain_strings kept.shape kept.held h.session from.0) (session_strings kept.shape kept.held h.session)
        (λ x k. among_flat_map-in (λ g. region_chain_strings kept.shape kept.held h.session g) from.0 x (all_regions kept.shape) from.1 k) none in
        subst IsOne (sym from.2) (one-up_to kept shaped rooted plain h.session from.0 single strings (slice_index h.fronts from.0))

    one_pick : IsOne (picks choices)
    one_pick = one-pick choices each_one

    pub recovered-exact : (contents : Contents) (whole : AreWhole kept h.session h.fronts (regions kept.shape) contents)
        → bytes_eq (top_of kept.shape.regions_log contents.roots) h.top ≡ true → Some contents ≡ contents_of kept h
    unfolding recovered
    recovered-exact contents whole top =
        let good = subst (λ roots. bytes_eq (top_of kept.shape.regions_log roots) h.top ≡ true) whole.roots top in
        let found = find-one (λ pick. has_top kept.shape h pick) whole.pick (picks choices) one_pick (picked contents whole) good in
        ap Some (same_contents contents whole) ∙ sym (ap (option_map (contents_by kept.shape)) found)

    pub recovered-not : (contents : Contents) (whole : AreWhole kept h.session h.fronts (regions kept.shape) contents)
        → bytes_eq (top_of kept.shape.regions_log contents.roots) h.top ≡ false → None ≡ contents_of kept h
    unfolding recovered
    recovered-not contents whole top =
        let bad = subst (λ roots. bytes_eq (top_of kept.shape.regions_log roots) h.top ≡ false) whole.roots top in
        let found = find-not (λ pick. has_top kept.shape h pick) whole.pick (picks choices) one_pick (picked contents whole) bad in
        sym (ap (option_map (contents_by kept.shape)) found)

-- ---- by the answer of the code

pub roots-count : (kept : Kept) (e : ℕ) (fronts : List ℕ) (contents : Contents) → AreWhole kept e fronts (regions kept.shape) contents
    → length contents.roots ≡ 2 ^ kept.shape.regions_log
roots-count kept e fronts contents whole = ap length whole.roots ∙ (length-map whole.pick (root_of kept.shape.height) ∙ whole.count)

module _ (kept : Kept) (h : Header) (contents : Contents) (fronts : List ℕ) (same : fronts ≡ h.fronts)
    (made : AreWhole kept h.session fronts (regions kept.shape) contents) (found : Option Contents) where
  whole : AreWhole kept h.session h.fronts (regions kept.shape) contents
  whole = subst (λ fs. AreWhole kept h.session fs (regions kept.shape) contents) same made

  sound_by : (t : Bool) → bytes_eq (top_of kept.shape.regions_log contents.roots) h.top ≡ t → found ≡ cond t (Some contents) None → IfSome found (IsRecovered kept h)
  sound_by true top is = subst (λ o. IfSome o (IsRecovered kept h)) (sym is) (recovered-sound kept h contents whole top)
  sound_by false top is = subst (λ o. IfSome o (IsRecovered kept h)) (sym is) tt

  pub found-sound : found ≡ cond (bytes_eq (top_of kept.shape.regions_log contents.roots) h.top) (Some contents) None → IfSome found (IsRecovered kept h)
  found-sound is = sound_by (bytes_eq (top_of kept.shape.regions_log contents.roots) h.top) refl is

  module _ (sound : IsSound kept) (single : NoTwoShare kept.held) (none : NoTwoCollide (session_strings kept.shape kept.held h.session)) where
    exact_by : (t : Bool) → bytes_eq (top_of kept.shape.regions_log contents.roots) h.top ≡ t → found ≡ cond t (Some contents) None → found ≡ contents_of kept h
    exact_by true top is = is ∙ recovered-exact kept h sound.shaped sound.rooted sound.plain single none contents whole top
    exact_by false top is = is ∙ recovered-not kept h sound.shaped sound.rooted sound.plain single none contents whole top

    pub found-exact : found ≡ cond (bytes_eq (top_of kept.shape.regions_log contents.roots) h.top) (Some contents) None → found ≡ contents_of kept h
    found-exact is = exact_by (bytes_eq (top_of kept.shape.regions_log contents.roots) h.top) refl is

pub none-exact : (kept : Kept) (h : Header) (fronts : List ℕ) → fronts ≡ h.fronts → HasNoChain kept h.session fronts → None ≡ contents_of kept h
none-exact kept h fronts same lacks = recovered-none kept h (subst (λ fs. HasNoChain kept h.session fs) same lacks)
