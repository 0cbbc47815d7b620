-- Numbers that rise: one that leaves, and one that is free.
use Rattle.std.proofs.Common.{◌≡◌, ◌∙◌, ℕ, ◌+◌, ◌<◌, ◌≤◌, ◌==◌, nat_eq, Bool, true, false, if◌then◌else◌, List, [], ◌∷◌, ◌++◌, map, length, None, Some, refl, sym, ap, subst, arith, append_assoc}
use Rattle.std.specs.Prelude.{find}
use Rattle.std.specs.List.{AllByRecursion}
use Rattle.list_lemmas.proofs.Tests.{unequal}
use Rattle.client_rules.specs.State.{Open}
use Rattle.verified_read.specs.Table.{question_at}
use Rattle.client_asking.specs.Lining.{Rise, AreUpTo}

pub rise_lower : (low high : ℕ) (ns : List ℕ) → low ≤ high → Rise high ns → Rise low ns
rise_lower low high [] below rises = rises
rise_lower low high (n ∷ ns) below rises = (omega (arith, rises.0), rises.1)

-- without one of them
pub rise_without : (low : ℕ) (before : List ℕ) (n : ℕ) (behind : List ℕ) → Rise low (before ++ n ∷ behind) → Rise low (before ++ behind)
rise_without low [] n behind rises = rise_lower low (n + 1) behind (omega (arith, rises.0)) rises.1
rise_without low (m ∷ before) n behind rises = (rises.0, rise_without (m + 1) before n behind rises.1)

rise_above : (low : ℕ) (before : List ℕ) (n : ℕ) (behind : List ℕ) → Rise low (before ++ n ∷ behind) → low ≤ n
rise_above low [] n behind rises = rises.0
rise_above low (m ∷ before) n behind rises = let above = rise_above (m + 1) before n behind rises.1 in omega (arith, rises.0)

-- a number that stands behind those of the questions is the number of none of them
pub rise_free : (low : ℕ) (reads : List Open) (n : ℕ) (behind : List ℕ) → Rise low (map (λ (o : Open). o.question.number) reads ++ n ∷ behind) → question_at n reads ≡ None
rise_free low [] n behind rises = refl
rise_free low (o ∷ reads) n behind rises =
    let above = rise_above (o.question.number + 1) (map (λ (x : Open). x.question.number) reads) n behind rises.1 in
    ap (λ b. if b then Some o else question_at n reads) (unequal o.question.number n (omega arith)) ∙ rise_free (o.question.number + 1) reads n behind rises.1

-- one more behind all
pub rise_more : (low high : ℕ) (ns : List ℕ) (n : ℕ) → low ≤ n → AreUpTo high ns → high < n → Rise low ns → Rise low (ns ++ n ∷ [])
rise_more low high [] n above up_to new rises = (above, tt)
rise_more low high (m ∷ ns) n above up_to new rises = (rises.0, rise_more (m + 1) high ns n (omega (arith, up_to.0)) up_to.1 new rises.1)

pub up_to_more : (high more : ℕ) (ns : List ℕ) → high ≤ more → AreUpTo high ns → AreUpTo more ns
up_to_more high more [] below up_to = up_to
up_to_more high more (n ∷ ns) below up_to = (omega (arith, up_to.0), up_to_more high more ns below up_to.1)

pub up_to_without : (high : ℕ) (before : List ℕ) (n : ℕ) (behind : List ℕ) → AreUpTo high (before ++ n ∷ behind) → AreUpTo high (before ++ behind)
up_to_without high [] n behind up_to = up_to.1
up_to_without high (m ∷ before) n behind up_to = (up_to.0, up_to_without high before n behind up_to.1)
