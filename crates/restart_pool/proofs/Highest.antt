-- A bound of the numbers that ways have reached, which falls from one round to the next.
use Rattle.std.proofs.Common.{ℕ, suc, ◌<◌, ◌≤◌, max, List, [], ◌∷◌, inl, inr, refl, subst, sym, arith}
use Rattle.restart_pool.specs.declared.chain.Way.{Way}
use Rattle.restart_pool.specs.Following.{EachBelow}

unfoldable pub highest : List Way → ℕ
highest [] = 0
highest (way ∷ ways) = max (suc way.at) (highest ways)

pub each-highest : (ways : List Way) → EachBelow (highest ways) ways
unfolding highest
each-highest [] = λ w m. absurd m
each-highest (way ∷ ways) = λ w m. elim m [
  | inl e ↦ subst (λ (v : Way). v.at < max (suc way.at) (highest ways)) (sym e) (omega arith)
  | inr k ↦ let rest = each-highest ways w k in omega (arith, rest)
]

-- a bound of all is at least the highest
pub highest-least : (n : ℕ) (ways : List Way) → EachBelow n ways → highest ways ≤ n
unfolding highest
highest-least n [] below = omega arith
highest-least n (way ∷ ways) below =
    let here = below way (inl refl) in
    let rest = highest-least n ways (λ w m. below w (inr m)) in
    omega (arith, here, rest)
