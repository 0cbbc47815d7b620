-- What a node's disk may hold: a base of the open session with parts that link from it, and bases of later sessions.
use Rattle.std.specs.Prelude.{◌≡◌, ℕ, suc, ◌≤◌, ◌<◌, nat_le, true, cond, List, [], ◌∷◌, ◌++◌, length}
use Rattle.law_prefix.specs.Numbers.{touches, number}

-- part number `before + 1` of a region
pub record Part : Type 0 where
  pub before : ℕ
  pub previous : ℕ

pub record Image : Type 0 where
  pub session : ℕ
  pub base : ℕ
  pub parts : List Part
  pub later : List ℕ

-- The part of batch number `before + 1` for region g, in a session with these batches that began at n.
pub record IsPart (bs : List (List ℕ)) (n g : ℕ) (p : Part) : Type 0 where
  pub after_start : n ≤ p.before
  pub submitted : p.before < length bs
  pub touched : touches bs p.before g ≡ true
  pub links : p.previous ≡ number bs n p.before g

-- the parts link by `previous` from the place `at`
unfoldable pub IsLinked : List (List ℕ) → ℕ → ℕ → ℕ → List Part → Type 0
IsLinked bs n g at [] = Unit {0}
IsLinked bs n g at (p ∷ ps) = IsPart bs n g p × (p.previous ≡ at) × IsLinked bs n g (suc p.before) ps

-- the number of the last part, or the base's place
unfoldable pub reach : ℕ → List Part → ℕ
reach at [] = at
reach at (p ∷ ps) = reach (suc p.before) ps

-- folding up to F: the place of the new base, and the parts that are left
unfoldable pub folded_place : ℕ → ℕ → List Part → ℕ
folded_place F at [] = at
folded_place F at (p ∷ ps) = cond (nat_le (suc p.before) F) (folded_place F (suc p.before) ps) (folded_place F at ps)

unfoldable pub folded_parts : ℕ → List Part → List Part
folded_parts F [] = []
folded_parts F (p ∷ ps) = cond (nat_le (suc p.before) F) (folded_parts F ps) (p ∷ folded_parts F ps)

-- a first stretch of the parts leads from the base to exactly y
pub record HasChain (at : ℕ) (ps : List Part) (y : ℕ) : Type 0 where
  pub front : List Part
  pub rest : List Part
  pub joined : ps ≡ front ++ rest
  pub ends : reach at front ≡ y
