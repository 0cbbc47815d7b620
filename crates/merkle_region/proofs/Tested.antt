-- The test of a path decides whether it verifies.
use Rattle.std.proofs.Common.{ℕ, List, length, ◌==◌, bytes_eq, Decides}
use Rattle.std.proofs.lemmas.Bool.Decides.{Decides-eqb, Decides-and, Decides-like}
use Rattle.std.proofs.lemmas.Slice.Eq.{bytes_eq-Decides}
use Rattle.salus_hash.specs.Hash.{leaf}
use Rattle.merkle_region.specs.Tree.{climb, Verifies, verified}

pub verified-Decides : (root : List ℕ) (height i : ℕ) (block : List ℕ) (path : List (List ℕ))
    → Decides (verified root height i block path) (Verifies root height i block path)
verified-Decides root height i block path =
    Decides-like (verified root height i block path)
    (λ p. record { levels = p.0; climbs = p.1 }) (λ v. (v.levels, v.climbs))
    (Decides-and (length path == height) (bytes_eq (climb i (leaf block) path) root)
    (Decides-eqb (length path) height) (bytes_eq-Decides (climb i (leaf block) path) root))
