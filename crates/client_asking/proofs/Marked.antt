-- Blocks that are marked, one after another.
use Rattle.std.proofs.Common.{◌≡◌, ◌≢◌, ◌∙◌, ℕ, ◌+◌, ◌<◌, ◌==◌, ◌||◌, Bool, true, false, List, [], ◌∷◌, ◌++◌, length, take, get_or, refl, sym, ap, subst, arith}
use Rattle.std.proofs.Math.ListN.{set}
use Rattle.std.specs.List.{list_any}
use Rattle.std.proofs.lemmas.Bool.{eqb-true, eqb-false}
use Rattle.std.proofs.lemmas.List.{get_or-set_same, get_or-set_other, take_more}
use Rattle.std.proofs.lemmas.List.Folds.{list_any-append}
use Rattle.list_lemmas.proofs.Tests.{by_bool, or_false, or_true}
use Rattle.salus_types.specs.declared.records.Write.{Write}
use Rattle.volume_model.specs.Contents.{Batch}

set_at : (marks : List Bool) (k b : ℕ) (x : Bool) → k < length marks → get_or marks b false ≡ x → get_or (set marks k true) b false ≡ (x || ((k == b) || false))
set_at marks k b x within was = by_bool (k == b) _
    (λ here. ap (λ n. get_or (set marks k true) n false) (sym (eqb-true k b here)) ∙ get_or-set_same marks k true false within ∙ sym (ap (λ t. x || (t || false)) here ∙ or_true x))
    (λ there. get_or-set_other marks k b true false (λ e. eqb-false k b there (sym e)) ∙ was ∙ sym (ap (λ t. x || (t || false)) there ∙ or_false x))

pub marked_more : (batch : Batch) (i : ℕ) (w : Write) (marks : List Bool) (b : ℕ) → take (i + 1) batch ≡ take i batch ++ w ∷ [] → w.block < length marks
    → get_or marks b false ≡ list_any (λ (x : Write). x.block == b) (take i batch)
    → get_or (set marks w.block true) b false ≡ list_any (λ (x : Write). x.block == b) (take (i + 1) batch)
marked_more batch i w marks b more within was =
    set_at marks w.block b (list_any (λ (x : Write). x.block == b) (take i batch)) within was
    ∙ sym (ap (list_any (λ (x : Write). x.block == b)) more ∙ list_any-append (λ (x : Write). x.block == b) (take i batch) (w ∷ []))
