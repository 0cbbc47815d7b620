-- The headers of parts, noted one after the other.
use Rattle.std.proofs.Common.{◌≡◌, ◌∙◌, ℕ, ◌+◌, ◌<◌, ◌≤◌, ◌==◌, ◌&&◌, Bool, false, if◌then◌else◌, List, take, length, get_or, refl, ap, sym, arith, true}
use Rattle.std.proofs.lemmas.Bool.{and_parts, leb-true, leb-false}
use Rattle.std.proofs.lemmas.List.Sums.{fold_more}
use Rattle.std.proofs.Math.Nat.{pow-le-pow_right}
use Rattle.std.specs.Prelude.{nat_le, ◌^◌}
use Rattle.salus_types.specs.Volume.{Shape, regions}
use Rattle.salus_types.specs.declared.records.Header.{Header}
use Rattle.salus_types.specs.declared.records.Record.{Record}
use Rattle.holding_model.specs.Fitting.{has_content, record_fits}
use Rattle.replica_rules.specs.Views.{led_by, header_is_right, has_right_shape}
use Rattle.replica_rules.specs.Leading.{with_header, with_led, noted_with}
use Rattle.pipelined_commit.proofs.Chosen.{touches_few}

pub noted-more : (g region : ℕ) (noted : List Header) (parts : List Record) (i : ℕ) (rec : Record) → region ≡ g → i < length parts → rec ≡ get_or parts i rec
    → (if led_by rec.header == region then with_header (noted_with g noted (take i parts)) rec.header else noted_with g noted (take i parts)) ≡ noted_with g noted (take (i + 1) parts)
noted-more g region noted parts i rec same within is =
    ap (λ n. if led_by rec.header == n then with_header (noted_with g noted (take i parts)) rec.header else noted_with g noted (take i parts)) same
    ∙ ap (λ (x : Record). with_led g (noted_with g noted (take i parts)) x) is ∙ sym (fold_more (with_led g) noted parts i rec within)

few_regions : (log : ℕ) → 2 ^ log ≤ 16 → log ≤ 4
few_regions log few = by_cases (nat_le log 4) refl
  where
    by_cases : (b : Bool) → nat_le log 4 ≡ b → log ≤ 4
    by_cases true pass = leb-true log 4 pass
    by_cases false fail =
        let above : 4 < log = leb-false log 4 fail in
        let five : 5 ≤ log = omega arith in
        let more : 2 ^ 5 ≤ 2 ^ log = pow-le-pow_right (omega arith) five in
        absurd (omega arith)

-- a part of the right shape touches at most 16 regions
pub touches-few : (shape : Shape) (g : ℕ) (rec : Record) → regions shape ≤ 16 → has_right_shape shape g rec ≡ true → length rec.header.touched ≤ 16
unfolding has_right_shape
touches-few shape g rec few right =
    let both = and_parts (header_is_right shape g rec.header && has_content rec.writes rec.run) (record_fits shape rec) right in
    let header = and_parts (header_is_right shape g rec.header) (has_content rec.writes rec.run) both.0 in
    touches_few shape g rec.header (few_regions shape.regions_log few) header.0
