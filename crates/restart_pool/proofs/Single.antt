-- Where no two different kept records share session, number and region, the chains that end at a number have the same blocks.
use Rattle.std.proofs.Common.{◌≡◌, ℕ, zero, suc, ◌^◌, ◌∙◌, Bool, true, false, ◌==◌, nat_lt, cond, List, [], ◌∷◌, length, map, MatchOption, Option, None, Some, bytes_eq, inl, inr, refl, ap, subst, sym}
use Rattle.std.specs.Prelude.{filter, slice_set}
use Rattle.std.specs.List.{list_all}
use Rattle.std.proofs.lemmas.Bool.{eqb-true, eq-eqb, and_parts}
use Rattle.std.proofs.lemmas.Option.{none-some}
use Rattle.std.proofs.lemmas.List.{length-set}
use Rattle.std.proofs.lemmas.Slice.Eq.{bytes_eq-Decides}
use Rattle.salus_types.specs.Volume.{Shape, region_blocks}
use Rattle.salus_types.specs.declared.records.PlaceWrite.{PlaceWrite}
use Rattle.salus_types.specs.declared.records.Record.{Record}
use Rattle.salus_types.specs.declared.records.Base.{Base}
use Rattle.merkle_region.specs.Tree.{root_of, tree_strings, IsAmong, NoTwoCollide}
use Rattle.holding_model.specs.Fitting.{blocks_written, blocks_after, has_content, has_shape}
use Rattle.volume_model.specs.Recovering.{End, base_end, is_link, is_of, ends_of, blocks_up_to, chain_ends}
use Rattle.restart_pool.specs.Following.{Chains, ends, end_after, follow, NoneFollows, IsEndAt}
use Rattle.restart_pool.specs.Kept.{Kept}
use Rattle.restart_pool.specs.Assembled.{IsKeptRecord, NoTwoShare, region_chain_strings}
use Rattle.restart_pool.specs.declared.replay.Whole.{Whole}
use Rattle.restart_pool.proofs.Chains.{HowEnds, AtBase, ByLink, how_ends}
use Rattle.restart_pool.proofs.Picking.{IsOne}
use Rattle.list_lemmas.proofs.Members.{among_filter, among_filter-in, among_map, among_map-in, among_flat_map-in}
use Rattle.list_lemmas.proofs.Tests.{and_four}
use Rattle.list_lemmas.proofs.SameRoots.{same_roots}

abbrev pub chains_of : Kept → ℕ → ℕ → Chains
chains_of kept e g = record { shape = kept.shape; session = e; region = g; bases = kept.held.bases; parts = kept.held.parts }

pub same-ends : (kept : Kept) (e g : ℕ) → ends (chains_of kept e g) ≡ ends_of kept.shape kept.held e g
unfolding ends ends_of
same-ends kept e g = refl

-- ---- the blocks of the chains up to a number

filter_none : {A : Type 0} (test : A → Bool) (xs : List A) → ((x : A) → IsAmong x xs → test x ≡ true → ⊥) → filter test xs ≡ []
filter_none test [] none = refl
filter_none test (x ∷ xs) none = step (test x) refl (filter_none test xs (λ y m. none y (inr m))) where
  step : (t : Bool) → test x ≡ t → filter test xs ≡ [] → cond t (x ∷ filter test xs) (filter test xs) ≡ []
  step true is rest = absurd (none x (inl refl) is)
  step false is rest = rest

module _ (kept : Kept) (e g x : ℕ) where
  abbrev up_to : List (List (List ℕ))
  up_to = blocks_up_to kept.shape kept.held e g x

  pub none-up_to : NoneFollows (chains_of kept e g) x [] → up_to ≡ []
  unfolding follow
  none-up_to none =
      ap (map (λ (end : End). end.blocks)) (filter_none (λ (end : End). end.at == x) (ends_of kept.shape kept.held e g)
      (λ end m at. none-some end (sym (none end (subst (λ l. IsAmong end l) (sym (same-ends kept e g)) m) (eqb-true end.at x at)))))

  pub whole-up_to : (whole : Whole) → IsEndAt (chains_of kept e g) x whole → IsAmong whole.blocks up_to × (whole.root ≡ root_of kept.shape.height whole.blocks)
  whole-up_to whole found =
      let m = subst (λ l. IsAmong found.end l) (same-ends kept e g) found.among in
      let among = among_map-in (λ (end : End). end.blocks) (filter (λ (end : End). end.at == x) (ends_of kept.shape kept.held e g)) found.end
      (among_filter-in (λ (end : End). end.at == x) (ends_of kept.shape kept.held e g) found.end m (eq-eqb found.end.at x found.at)) in
      subst (λ (w : Whole). IsAmong w.blocks up_to × (w.root ≡ root_of kept.shape.height w.blocks)) (sym found.is) (among, refl)

-- ---- what a chain ends with

pub length-blocks_written : (blocks : List (List ℕ)) (writes : List PlaceWrite) → length (blocks_written blocks writes) ≡ length blocks
unfolding blocks_written
length-blocks_written blocks [] = refl
length-blocks_written blocks (w ∷ writes) = length-blocks_written (slice_set blocks w.place w.bytes) writes ∙ length-set blocks w.place w.bytes

pub shape_length : (shape : Shape) (blocks : List (List ℕ)) → has_shape shape blocks ≡ true → length blocks ≡ 2 ^ shape.height
unfolding has_shape
shape_length shape blocks is =
    let parts = and_parts (length blocks == region_blocks shape) (list_all (λ block. length block == shape.block) blocks) is in
    eqb-true (length blocks) (region_blocks shape) parts.0

-- the record that a chain ends with
pub record EndsWith (kept : Kept) (e g : ℕ) (end : End) : Type 0 where
  pub rec : Record
  pub is_kept : IsKeptRecord kept.held rec
  pub session : rec.header.session ≡ e
  pub region : rec.header.region ≡ g
  pub at : rec.header.seq ≡ end.at
  pub root : root_of kept.shape.height end.blocks ≡ rec.header.root
  pub long : length end.blocks ≡ 2 ^ kept.shape.height

module _ (kept : Kept) (shaped : (base : Base) → IsAmong base kept.held.bases → has_shape kept.shape base.blocks ≡ true)
    (rooted : (base : Base) → IsAmong base kept.held.bases → root_of kept.shape.height base.blocks ≡ base.rec.header.root)
    (plain : (rec : Record) → IsAmong rec kept.held.parts → rec.run ≡ None) (e g : ℕ) where
  abbrev of_base : Base → Bool
  of_base base = is_of e g base.rec.header

  abbrev of_part : Record → Bool
  of_part rec = is_of e g rec.header

  abbrev upto : ℕ → List End
  upto n = chain_ends kept.shape (filter of_base kept.held.bases) (filter of_part kept.held.parts) n

  with_base : (base : Base) → IsAmong base (filter of_base kept.held.bases) → EndsWith kept e g (base_end base)
  with_base base m =
      let good = among_filter of_base base kept.held.bases m in
      let is = and_parts (base.rec.header.session == e) (base.rec.header.region == g) good.1 in
      record {
        rec = base.rec;
        is_kept = inr (base, good.0, refl);
        session = eqb-true base.rec.header.session e is.0;
        region = eqb-true base.rec.header.region g is.1;
        at = refl;
        root = rooted base good.0;
        long = shape_length kept.shape base.blocks (shaped base good.0);
      }

  with_link : (before : End) (rec : Record) → EndsWith kept e g before → IsAmong rec (filter of_part kept.held.parts) → is_link kept.shape before rec ≡ true
      → EndsWith kept e g (end_after kept.shape before rec)
  with_link before rec with m links =
      let good = among_filter of_part rec kept.held.parts m in
      let is = and_parts (rec.header.session == e) (rec.header.region == g) good.1 in
      let says = and_four (rec.header.previous == before.at) (nat_lt rec.header.previous rec.header.seq) (has_content rec.writes rec.run)
      (bytes_eq (root_of kept.shape.height (blocks_after kept.shape before.blocks rec)) rec.header.root) links in
      record {
        rec = rec;
        is_kept = inl good.0;
        session = eqb-true rec.header.session e is.0;
        region = eqb-true rec.header.region g is.1;
        at = refl;
        root = (bytes_eq-Decides (root_of kept.shape.height (blocks_after kept.shape before.blocks rec)) rec.header.root).0 says.3;
        long = rw (plain rec good.0) (length-blocks_written before.blocks rec.writes ∙ with.long);
      }

  by_how : (n : ℕ) (end : End) → ((b : End) → IsAmong b (upto n) → EndsWith kept e g b) → HowEnds kept.shape (filter of_base kept.held.bases) (filter of_part kept.held.parts) n end
      → EndsWith kept e g end
  by_how n end rest (AtBase base m is) = subst (EndsWith kept e g) (sym is) (with_base base m)
  by_how n end rest (ByLink before rec m p links is) = subst (EndsWith kept e g) (sym is) (with_link before rec (rest before m) p links)

  pub ends-with : (n : ℕ) (end : End) → IsAmong end (upto n) → EndsWith kept e g end
  unfolding chain_ends
  ends-with zero end m = let from = among_map base_end end (filter of_base kept.held.bases) m in subst (EndsWith kept e g) (sym from.2) (with_base from.0 from.1)
  ends-with (suc n) end m = by_how n end (ends-with n) (how_ends kept.shape (filter of_base kept.held.bases) (filter of_part kept.held.parts) n end m)

  pub end-with : (end : End) → IsAmong end (ends_of kept.shape kept.held e g) → EndsWith kept e g end
  unfolding ends_of
  end-with end m = ends-with (length kept.held.parts) end m

  -- two chains up to one number have the same blocks
  same_blocks : NoTwoShare kept.held → NoTwoCollide (region_chain_strings kept.shape kept.held e g) → (a b : End)
      → IsAmong a (ends_of kept.shape kept.held e g) → IsAmong b (ends_of kept.shape kept.held e g) → a.at ≡ b.at → a.blocks ≡ b.blocks
  same_blocks single none a b m n at =
      let with_a = end-with a m in
      let with_b = end-with b n in
      let same : with_a.rec ≡ with_b.rec = single with_a.rec with_b.rec with_a.is_kept with_b.is_kept (with_a.session ∙ sym with_b.session)
      (with_a.at ∙ (at ∙ sym with_b.at)) (with_a.region ∙ sym with_b.region) in
      same_roots (region_chain_strings kept.shape kept.held e g) none kept.shape.height a.blocks b.blocks with_a.long with_b.long
      (λ x k. among_flat_map-in (λ (end : End). tree_strings kept.shape.height end.blocks) a x (ends_of kept.shape kept.held e g) m k)
      (λ x k. among_flat_map-in (λ (end : End). tree_strings kept.shape.height end.blocks) b x (ends_of kept.shape kept.held e g) n k)
      (with_a.root ∙ (ap (λ (r : Record). r.header.root) same ∙ sym with_b.root))

  pub one-up_to : NoTwoShare kept.held → NoTwoCollide (region_chain_strings kept.shape kept.held e g) → (x : ℕ) → IsOne (blocks_up_to kept.shape kept.held e g x)
  one-up_to single none x p q m n =
      let a = among_map (λ (end : End). end.blocks) p (filter (λ (end : End). end.at == x) (ends_of kept.shape kept.held e g)) m in
      let b = among_map (λ (end : End). end.blocks) q (filter (λ (end : End). end.at == x) (ends_of kept.shape kept.held e g)) n in
      let good_a = among_filter (λ (end : End). end.at == x) a.0 (ends_of kept.shape kept.held e g) a.1 in
      let good_b = among_filter (λ (end : End). end.at == x) b.0 (ends_of kept.shape kept.held e g) b.1 in
      let at : a.0.at ≡ b.0.at = eqb-true a.0.at x good_a.1 ∙ sym (eqb-true b.0.at x good_b.1) in
      a.2 ∙ (same_blocks single none a.0 b.0 good_a.0 good_b.0 at ∙ sym b.2)

-- what a search for a chain up to a number says of the definition's blocks
module _ (kept : Kept) (e g x : ℕ) where
  found_here : (found : Option Whole) → MatchOption found (NoneFollows (chains_of kept e g) x []) (IsEndAt (chains_of kept e g) x)
      → MatchOption found (blocks_up_to kept.shape kept.held e g x ≡ [])
      (λ whole. IsAmong whole.blocks (blocks_up_to kept.shape kept.held e g x) × (whole.root ≡ root_of kept.shape.height whole.blocks))
  found_here None h = none-up_to kept e g x h
  found_here (Some whole) h = whole-up_to kept e g x whole h

  pub found-up_to : (c : Chains) → c ≡ chains_of kept e g → (found : Option Whole) → MatchOption found (NoneFollows c x []) (IsEndAt c x)
      → MatchOption found (blocks_up_to kept.shape kept.held e g x ≡ [])
      (λ whole. IsAmong whole.blocks (blocks_up_to kept.shape kept.held e g x) × (whole.root ≡ root_of kept.shape.height whole.blocks))
  found-up_to c is found h = found_here found (subst (λ cs. MatchOption found (NoneFollows cs x []) (IsEndAt cs x)) is h)
