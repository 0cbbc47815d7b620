-- A session's own records count in a pool: they are genuine, and their headers fit the volume.
use Rattle.std.proofs.Common.{◌≡◌, ℕ, ◌-◌, ◌^◌, ◌<◌, ◌≤◌, ◌∙◌, Bool, true, false, ◌==◌, ◌&&◌, nat_lt, nat_le, List, [], ◌∷◌, length, map, bytes_eq, inl, inr, refl, ap, sym, subst, arith}
use Rattle.std.specs.Prelude.{replicate}
use Rattle.std.specs.List.{list_all, AllByRecursion}
use Rattle.std.proofs.lemmas.Bool.{lt-ltb, le-leb, eq-eqb}
use Rattle.std.proofs.lemmas.Slice.Eq.{bytes_eq-Decides}
use Rattle.std.proofs.lemmas.List.{length-replicate}
use Rattle.std.proofs.lemmas.List.FromFn.{length-map-range_with_len}
use Rattle.salus_types.specs.Volume.{Shape, regions}
use Rattle.salus_types.specs.declared.records.Header.{Header}
use Rattle.salus_types.specs.declared.records.Record.{Record}
use Rattle.salus_types.specs.declared.records.Base.{Base}
use Rattle.merkle_region.specs.Tree.{root_of, IsAmong}
use Rattle.client_tag.specs.Spelling.{payload_bytes}
use Rattle.client_tag.specs.Tags.{tag_of, is_genuine, sealed}
use Rattle.holding_model.specs.Fitting.{record_fits, has_shape}
use Rattle.volume_model.specs.Contents.{all_regions}
use Rattle.volume_model.specs.Parts.{Session, touches, touched_by, leader_of, number_of, batch_at, leader_before, part_of, base_of}
use Rattle.volume_model.specs.Recovering.{header_fits, record_counts, base_counts}
use Rattle.list_lemmas.proofs.Members.{among_filter, among_map, among_range, among_all}
use Rattle.list_lemmas.proofs.Each.{each_replicate}
use Rattle.list_lemmas.proofs.Tests.{way_with}
use Rattle.law_lemmas.proofs.Numbered.{IsSized, numbered}
use Rattle.law_lemmas.proofs.Owned.{IsOwn}
use Rattle.law_records.specs.Sessions.{TouchesSome}
use Rattle.law_records.proofs.Leaders.{leader_of-inside, some_at}

pub both_true : (a b : Bool) → a ≡ true → b ≡ true → (a && b) ≡ true
both_true true b left right = right
both_true false b left right = left

pub all_members : {A : Type 0} (test : A → Bool) (xs : List A) → ((x : A) → IsAmong x xs → test x ≡ true) → list_all test xs ≡ true
all_members test [] each = refl
all_members test (x ∷ xs) each = both_true (test x) (list_all test xs) (each x (inl refl)) (all_members test xs (λ y m. each y (inr m)))

sealed-genuine : (key : List ℕ) (rec : Record) → is_genuine key (sealed key rec) ≡ true
unfolding is_genuine payload_bytes
sealed-genuine key rec = (bytes_eq-Decides (tag_of key rec) (tag_of key rec)).1 refl

-- the numbers and regions of a header are those of the volume
record Fits (shape : Shape) (h : Header) : Type 0 where
  region : h.region < regions shape
  touched : (g : ℕ) → IsAmong g h.touched → g < regions shape
  leader : h.leader_before < regions shape
  many : length h.fronts ≡ regions shape
  fronts : (f : ℕ) → IsAmong f h.fronts → f ≤ 2 ^ 63
  seq : h.seq ≤ 2 ^ 63

fits_all : (shape : Shape) (h : Header) → Fits shape h → header_fits shape h ≡ true
unfolding header_fits
fits_all shape h fits =
    both_true _ _
    (both_true _ _
    (both_true _ _
    (both_true _ _
    (both_true (nat_lt h.region (regions shape)) (list_all (λ g. nat_lt g (regions shape)) h.touched) (lt-ltb h.region (regions shape) fits.region)
    (all_members (λ g. nat_lt g (regions shape)) h.touched (λ g m. lt-ltb g (regions shape) (fits.touched g m))))
    (lt-ltb h.leader_before (regions shape) fits.leader))
    (eq-eqb (length h.fronts) (regions shape) fits.many))
    (all_members (λ f. nat_le f (2 ^ 63)) h.fronts (λ f m. le-leb f (2 ^ 63) (fits.fronts f m))))
    (le-leb h.seq (2 ^ 63) fits.seq)

module _ (shape : Shape) (key : List ℕ) (known : Session) (sized : IsSized shape known) (small : length known.list ≤ 2 ^ 63)
    (some : AllByRecursion (TouchesSome shape) known.list) (g : ℕ) where
  region-inside : (r : ℕ) → IsAmong r (all_regions shape) → r < regions shape
  region-inside r m = let range = among_range (regions shape) 0 r m in omega arith

  touched-region : (s r : ℕ) → IsAmong r (touched_by shape (batch_at known s)) → r < regions shape
  touched-region s r m = region-inside r (among_filter (λ i. touches shape (batch_at known s) i) r (all_regions shape) m).0

  leader-region : (s : ℕ) → known.base < s → s ≤ length known.list → g < regions shape → leader_before shape known s < regions shape
  leader-region s above within inside =
      way_with (s - 1 == known.base) 0 (leader_of shape (batch_at known (s - 1))) (λ r. r < regions shape) (λ at. omega (arith, inside))
      (λ other. leader_of-inside shape (batch_at known (s - 1)) (some_at shape known.list (s - 1 - 1) (omega (arith, above, within)) some))

  number-small : (s f : ℕ) → known.base ≤ s → s ≤ length known.list → IsAmong f (map (λ r. number_of shape known s r) (all_regions shape)) → f ≤ 2 ^ 63
  number-small s f above within m =
      let from = among_map (λ r. number_of shape known s r) f (all_regions shape) m in
      let is : f ≡ number_of shape known s from.0 = from.2 in
      let low : number_of shape known s from.0 ≤ s = (numbered shape known sized from.0 s (region-inside from.0 from.1) above within).within in
      omega (arith, is, low, within, small)

  part-fits : (s : ℕ) → known.base < s → s ≤ length known.list → g < regions shape → Fits shape (part_of shape key known s g).header
  unfolding part_of
  part-fits s above within inside = record {
    region = inside;
    touched = λ r m. touched-region s r m;
    leader = leader-region s above within inside;
    many = length-map-range_with_len (λ r. number_of shape known s r) 0 (regions shape);
    fronts = λ f m. number-small s f (omega (arith, above)) within m;
    seq = omega (arith, within, small);
  }

  base-fits : g < regions shape → Fits shape (base_of shape key known g).header
  unfolding base_of
  base-fits inside =
      let begun = sized.begun in
      let low : known.base ≤ 2 ^ 63 = omega (arith, begun, small) in
      record {
        region = inside;
        touched = λ r m. region-inside r m;
        leader = omega (arith, inside);
        many = length-replicate (regions shape) known.base;
        fronts = λ f m. among_all (λ x. x ≤ 2 ^ 63) (replicate (regions shape) known.base) f m (each_replicate (λ x. x ≤ 2 ^ 63) (regions shape) known.base low);
        seq = low;
      }

  part-genuine : (s : ℕ) → is_genuine key (part_of shape key known s g) ≡ true
  unfolding part_of
  part-genuine s = sealed-genuine key _

  base-genuine : is_genuine key (base_of shape key known g) ≡ true
  unfolding base_of
  base-genuine = sealed-genuine key _

  own-genuine : (rec : Record) → IsOwn shape key known g rec → is_genuine key rec ≡ true
  own-genuine rec (inl part) = ap (is_genuine key) part.is ∙ part-genuine part.s
  own-genuine rec (inr base) = ap (is_genuine key) base.is ∙ base-genuine

  own-fits : (rec : Record) → IsOwn shape key known g rec → Fits shape rec.header
  own-fits rec (inl part) = subst (λ r. Fits shape r.header) (sym part.is) (part-fits part.s part.own part.within part.inside)
  own-fits rec (inr base) = subst (λ r. Fits shape r.header) (sym base.is) (base-fits base.inside)

  pub own-counts : (rec : Record) → IsOwn shape key known g rec → record_fits shape rec ≡ true → record_counts shape key rec ≡ true
  own-counts rec own fits =
      both_true (is_genuine key rec && header_fits shape rec.header) (record_fits shape rec)
      (both_true (is_genuine key rec) (header_fits shape rec.header) (own-genuine rec own) (fits_all shape rec.header (own-fits rec own))) fits

  pub own_base-counts : (base : Base) → IsOwn shape key known g base.rec → record_fits shape base.rec ≡ true → has_shape shape base.blocks ≡ true
      → root_of shape.height base.blocks ≡ base.rec.header.root → base_counts shape key base ≡ true
  own_base-counts base own fits whole root =
      both_true (record_counts shape key base.rec && has_shape shape base.blocks) (bytes_eq (root_of shape.height base.blocks) base.rec.header.root)
      (both_true (record_counts shape key base.rec) (has_shape shape base.blocks) (own-counts base.rec own fits) whole)
      ((bytes_eq-Decides (root_of shape.height base.blocks) base.rec.header.root).1 root)
