-- The messages that a step adds are under way after it.
use Rattle.std.proofs.Common.{◌≡◌, ◌∙◌, inl, inr, ℕ, zero, suc, ◌+◌, ◌-◌, ◌<◌, ◌≤◌, Bool, true, false, if◌then◌else◌, List, [], ◌∷◌, take, drop, None, Some, refl, sym, ap, arith}
use Rattle.std.specs.Prelude.{slice_get}
use Rattle.std.proofs.lemmas.Bool.{lt-ltb}
use Rattle.merkle_region.specs.Tree.{IsAmong}
use Rattle.salus_model.specs.declared.trace.TraceStep.{TraceStep}
use Rattle.salus_model.specs.Following.{Posted, posted_at, hands, was_handed, sent_by}
use Rattle.list_lemmas.proofs.Tests.{by_bool}
use Rattle.law_reads.proofs.Relay.{UnderWay, both_false}

-- ---- by its place

from_take : {A : Type 0} (xs : List A) (n : ℕ) (x : A) → IsAmong x (take n xs) → (i : ℕ) × (slice_get xs i ≡ Some x) × (i < n)
from_take [] zero x among = absurd among
from_take [] (suc n) x among = absurd among
from_take (y ∷ xs) zero x among = absurd among
from_take (y ∷ xs) (suc n) x (inl is) = (zero, ap (λ z. Some z) (sym is), omega arith)
from_take (y ∷ xs) (suc n) x (inr more) = let rest = from_take xs n x more in let low : rest.0 < n = rest.2 in (suc rest.0, rest.1, omega (arith, low))

at_dropped : {A : Type 0} (b : ℕ) (xs : List A) (i : ℕ) → slice_get (drop b xs) i ≡ slice_get xs (b + i)
at_dropped zero xs i = ap (λ (n : ℕ). slice_get xs n) (same i) where
  same : (i : ℕ) → i ≡ zero + i
  same i = omega arith
at_dropped (suc b) [] i = refl
at_dropped (suc b) (x ∷ xs) i = at_dropped b xs i ∙ ap (λ (n : ℕ). slice_get (x ∷ xs) n) (same b i) where
  same : (b i : ℕ) → suc (b + i) ≡ suc b + i
  same b i = omega arith

-- the message has a number between two counts
pub record IsBetween (posts : List Posted) (before now : ℕ) (m : Posted) : Type 0 where
  pub k : ℕ
  pub at : posted_at posts k ≡ Some m
  pub low : before < k
  pub high : k ≤ now

pub between_from : (posts : List Posted) (before now : ℕ) (m : Posted) → IsAmong m (take (now - before) (drop before posts)) → IsBetween posts before now m
between_from posts before now m among =
    let found = from_take (drop before posts) (now - before) m among in
    let i : ℕ = found.0 in
    let less : found.0 < now - before = found.2 in
    let k : ℕ = before + i + 1 in
    let place : before + i ≡ k - 1 = omega arith in
    let there : slice_get posts (k - 1) ≡ Some m = ap (λ (n : ℕ). slice_get posts n) (sym place) ∙ (sym (at_dropped before posts i) ∙ found.1) in
    record {
      k = k;
      at = ap (λ (b : Bool). if b then slice_get posts (k - 1) else None) (lt-ltb 0 k (omega arith)) ∙ there;
      low = omega arith;
      high = omega (arith, less);
    }

-- ---- what was handed over was sent before

unfoldable pub HandsSent : List TraceStep → Type 0
HandsSent [] = Unit {0}
HandsSent (step ∷ earlier) = ((k : ℕ) → hands k step.handed ≡ true → k ≤ sent_by earlier) × (sent_by earlier ≤ step.sent) × HandsSent earlier

pub not_handed : (steps : List TraceStep) (k : ℕ) → HandsSent steps → sent_by steps < k → was_handed steps k ≡ false
unfolding HandsSent
not_handed [] k sent over = refl
not_handed (step ∷ earlier) k sent over =
    let more : sent_by earlier ≤ step.sent = sent.1 in
    both_false (hands k step.handed) (was_handed earlier k)
    (by_bool (hands k step.handed) (hands k step.handed ≡ false) (λ hit. let low : k ≤ sent_by earlier = sent.0 k hit in absurd (omega (arith, low, more, over))) (λ miss. miss))
    (not_handed earlier k sent.2 (omega (arith, more, over)))

-- a message that the step adds is under way, if it is of the kind
pub under_way : (posts : List Posted) (Kind : ℕ → Type 0) (step : TraceStep) (earlier : List TraceStep) (m : Posted) → HandsSent (step ∷ earlier)
    → IsBetween posts (sent_by earlier) step.sent m → ((k : ℕ) → posted_at posts k ≡ Some m → Kind k) → UnderWay Kind (step ∷ earlier)
unfolding HandsSent
under_way posts Kind step earlier m sent added is = record {
  k = added.k;
  sent = added.high;
  is_one = is added.k added.at;
  waits = both_false (hands added.k step.handed) (was_handed earlier added.k)
      (by_bool (hands added.k step.handed) (hands added.k step.handed ≡ false)
      (λ hit. let low : added.k ≤ sent_by earlier = sent.0 added.k hit in let over : sent_by earlier < added.k = added.low in absurd (omega (arith, low, over))) (λ miss. miss))
      (not_handed earlier added.k sent.2 added.low);
}
