-- Four numbers give a shape exactly where they are within the limits.
use Rattle.std.proofs.Common.{◌≡◌, ℕ, ◌*◌, ◌^◌, ◌<◌, true, leb, refl, sym, ap, subst, ◌∙◌, arith}
use Rattle.std.specs.Prelude.{None, Some, Result, Err}
use Rattle.std.proofs.lemmas.Bool.{and_parts, and_from, leb-true, le-leb}
use Rattle.salus_types.specs.Volume.{Shape, IsVolume, IsBlock, IsReplicas, blocks}
use Rattle.salus_types.specs.declared.geometry.GeometryError.{GeometryError}
use Rattle.salus_types.specs.declared.geometry.GeometryError.TheVariants as error
use Rattle.text_words.proofs.Settled.{pick_true, pick_false, not_true}
use Rattle.schedule_text.specs.Reading.{is_volume, shape_of}

pub volume-test : (s : Shape) → IsVolume s → is_volume s ≡ true
volume-test s w =
    and_from (leb s.regions_log 4) _ (le-leb s.regions_log 4 w.few_regions)
    (and_from (leb s.height 10) _ (le-leb s.height 10 w.low)
    (and_from (leb 1 s.block) _ (le-leb 1 s.block w.small_blocks.0)
    (and_from (leb s.block 4096) _ (le-leb s.block 4096 w.small_blocks.1)
    (and_from (leb 1 s.replicas) _ (le-leb 1 s.replicas w.small_groups.0)
    (and_from (leb s.replicas 5) _ (le-leb s.replicas 5 w.small_groups.1) (le-leb (blocks s * s.block) 1048576 w.small))))))

pub volume-tested : (s : Shape) → is_volume s ≡ true → IsVolume s
volume-tested s h =
    let a = and_parts (leb s.regions_log 4) _ h in
    let b = and_parts (leb s.height 10) _ a.1 in
    let c = and_parts (leb 1 s.block) _ b.1 in
    let d = and_parts (leb s.block 4096) _ c.1 in
    let e = and_parts (leb 1 s.replicas) _ d.1 in
    let f = and_parts (leb s.replicas 5) _ e.1 in
    record {
      few_regions = leb-true s.regions_log 4 a.0;
      low = leb-true s.height 10 b.0;
      small_blocks = (leb-true 1 s.block c.0, leb-true s.block 4096 d.0);
      small_groups = (leb-true 1 s.replicas e.0, leb-true s.replicas 5 f.0);
      small = leb-true (blocks s * s.block) 1048576 f.1;
    }

pub shape-given : (a b c d : ℕ) (s : Shape) → s ≡ record { regions_log = a; height = b; block = c; replicas = d } → IsVolume s → Some s ≡ shape_of a b c d
unfolding shape_of
shape-given a b c d s is w = ap Some is ∙ sym (pick_true _ _ _ (volume-test _ (subst IsVolume is w)))

abbrev Names : GeometryError → GeometryError → Type 0
Names e f = ◌≡◌ {A = Result Shape GeometryError} (Err e) (Err f)

outside : (s : Shape) (e : GeometryError)
    → (Names e error.RegionsRange → 4 < s.regions_log) → (Names e error.HeightRange → 10 < s.height)
    → (Names e error.BlockRange → IsBlock s.block → ⊥) → (Names e error.ReplicasRange → IsReplicas s.replicas → ⊥)
    → (Names e error.VolumeLarge → 1048576 < blocks s * s.block) → IsVolume s → ⊥
outside s error.RegionsRange a b c d e w = let few = w.few_regions in let many = a refl in absurd (omega (arith, few, many))
outside s error.HeightRange a b c d e w = let low = w.low in let high = b refl in absurd (omega (arith, low, high))
outside s error.BlockRange a b c d e w = c refl w.small_blocks
outside s error.ReplicasRange a b c d e w = d refl w.small_groups
outside s error.VolumeLarge a b c d e w = let small = w.small in let large = e refl in absurd (omega (arith, small, large))

pub shape-refused : (a b c d : ℕ) (e : GeometryError)
    → (Names e error.RegionsRange → 4 < a) → (Names e error.HeightRange → 10 < b)
    → (Names e error.BlockRange → IsBlock c → ⊥) → (Names e error.ReplicasRange → IsReplicas d → ⊥)
    → (Names e error.VolumeLarge → 1048576 < 2 ^ a * 2 ^ b * c) → None ≡ shape_of a b c d
unfolding shape_of
shape-refused a b c d e p q r s t =
    sym (pick_false _ _ _ (not_true _ (λ h. outside (record { regions_log = a; height = b; block = c; replicas = d }) e p q r s t (volume-tested _ h))))
