-- The kept digests of a volume: the last one is the top, and a root that is put changes that root alone.
use Rattle.std.proofs.Common.{◌≡◌, ◌≢◌, ℕ, zero, suc, ◌+◌, ◌*◌, ◌-◌, ◌^◌, ◌<◌, ◌≤◌, ◌∙◌, List, [], length, take, drop, get_or, set, refl, sym, ap, inl, inr, arith, length-set, get_or-set_same, get_or-set_other}
use Rattle.std.proofs.lemmas.Bool.{cases_eq}
use Rattle.std.proofs.lemmas.List.{length-take-le, get_or-take, get_or-drop, ext_get_or}
use Rattle.salus_hash.specs.Hash.{above}
use Rattle.merkle_region.specs.Raised.{digest_at, IsRaised}
use Rattle.merkle_region.proofs.Standing.{part, standing_top}
use Rattle.merkle_volume.specs.Top.{top_of}
use Rattle.merkle_volume.specs.Kept.{IsKept}
use Rattle.merkle_volume.proofs.Split.{top_of-step, top_of-none}

root_alone : (i : ℕ) (roots : List (List ℕ)) → top_of 0 (part 0 i roots) ≡ digest_at roots i
root_alone i roots =
    let e : i * 1 + 0 ≡ i = omega arith in
    top_of-none (part 0 i roots)
    ∙ (get_or-take 1 (drop (i * 1) roots) 0 [] (omega arith) ∙ (get_or-drop (i * 1) roots 0 [] ∙ ap (digest_at roots) e))

-- the last digest is the top
pub kept_top : (n : ℕ) (digests : List (List ℕ)) → IsKept n digests → (k : ℕ) → length (take n digests) ≡ 2 ^ k
    → digest_at digests (2 * n - 2) ≡ top_of k (take n digests)
kept_top n digests kept k count =
    let all = length-take-le n digests (omega (arith, kept.some, kept.raised.room)) in
    let same : n ≡ 2 ^ k = omega arith in
    let raised : IsRaised above (2 ^ k) digests = rw (← same) kept.raised in
    standing_top top_of above top_of-step k (take n digests) digests raised
    (λ i within. sym (root_alone i (take n digests) ∙ get_or-take n digests i [] (omega arith)))
    (2 * n - 2) count (omega (arith, kept.some))

-- a root was put
pub roots-put : (n g : ℕ) (root : List ℕ) (before after : List (List ℕ)) → n ≤ length before → n ≤ length after → g < n → digest_at after g ≡ root
    → ((k : ℕ) → k < n → k ≢ g → digest_at after k ≡ digest_at before k) → take n after ≡ set (take n before) g root
roots-put n g root before after room enough within put others =
    let was = length-take-le n before room in
    let is = length-take-le n after enough in
    ext_get_or [] (take n after) (set (take n before) g root) (omega (arith, length-set (take n before) g root))
    (λ i low.
    let inside : i < n = omega arith in
    get_or-take n after i [] inside
    ∙ elim (cases_eq i g) [
      | inl same ↦
          let here : g < length (take n before) = omega arith in
          rw same (put ∙ sym (get_or-set_same (take n before) g root [] here))
      | inr apart ↦
          others i inside apart ∙ (sym (get_or-take n before i [] inside) ∙ sym (get_or-set_other (take n before) g i root [] apart))
    ])

-- no root was changed
pub roots-kept : (n : ℕ) (before after : List (List ℕ)) → n ≤ length before → n ≤ length after
    → ((i : ℕ) → i < n → digest_at after i ≡ digest_at before i) → take n after ≡ take n before
roots-kept n before after room enough same =
    let was = length-take-le n before room in
    let is = length-take-le n after enough in
    ext_get_or [] (take n after) (take n before) (omega arith)
    (λ i low.
    let inside : i < n = omega arith in
    get_or-take n after i [] inside ∙ (same i inside ∙ sym (get_or-take n before i [] inside)))
