-- From a leader's table of claims to what its licence asks: the form in which a node's table is read.
use Rattle.std.proofs.Common.{◌≡◌, ℕ, ◌≤◌, ◌<◌, true, List, ◌⊎◌, arith, le_trans, ⊎_elim, inl, inr}
use Rattle.law_prefix.specs.World.{Volume, Claim}
use Rattle.law_prefix.specs.Steps.{Claimed, AllClaim}
use Rattle.law_prefix.proofs.Growing.{split}

-- each entry is the place from which the table began, or was handed as a claim of that session; and the table began at
-- most at the base that the node holds
pub record TableGood (v : Volume) (claims : List Claim) (e began held : ℕ) (entry : ℕ → ℕ) : Type 0 where
  pub began_low : began ≤ held
  pub entries : (r : ℕ) → v.honest r ≡ true → (entry r ≤ began) ⊎ Claimed claims r e (entry r)

pub claimed_less : (claims : List Claim) (r e x y : ℕ) → x ≤ y → Claimed claims r e y → Claimed claims r e x
claimed_less claims r e x y low c = record { claim = c.claim; sent = c.sent; node = c.node; session = c.session; front = le_trans low c.front }

pub read_table : (v : Volume) (claims : List Claim) (e began held : ℕ) (entry : ℕ → ℕ) → TableGood v claims e began held entry
    → (g x : ℕ) → ((r : ℕ) → v.region r ≡ g → x ≤ entry r) → (x ≤ held) ⊎ AllClaim v claims g e x
read_table v claims e began held entry good g x all =
    ⊎_elim (λ (l : x ≤ began). inl (le_trans l good.began_low))
    (λ (l : began < x). inr (λ r honest place.
    ⊎_elim (λ (m : entry r ≤ began). let a : x ≤ entry r = all r place in absurd (omega arith))
    (λ (c : Claimed claims r e (entry r)). claimed_less claims r e x (entry r) (all r place) c)
    (good.entries r honest)))
    (split x began)
