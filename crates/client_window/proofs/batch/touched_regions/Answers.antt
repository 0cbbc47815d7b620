use Rattle.std.proofs.Common.{◌≡◌, ◌∙◌, ◌++◌, ◌∷◌, [], ℕ, Bool, true, false, cond, List, map, refl, ap, sym, append-nil, arith}
use Rattle.std.specs.Prelude.{filter}
use Rattle.std.specs.List.{range_with_len}
use Rattle.std.proofs.lemmas.List.FromFn.{filter_of_map_range_with_len_more}
use Rattle.volume_model.specs.Parts.{touches}
use Rattle.client_window.proofs.batch.touched_regions.Goals as goal
use Rattle.client_window.proofs.batch.touched_regions.Goals.{then-touches+in_ok-push, else-touches}

pub regions-preserved : goal.regions-preserved
regions-preserved c =
    let r = c.regions.region in
    let test : ℕ → Bool = λ g. touches c.args.geometry.now c.args.batch.now g in
    let is : c.touches.result ≡ test r = c.touches.ensures ∙ ap (λ b. touches c.args.geometry.now b r) c.as_slice.ensures in
    let more = filter_of_map_range_with_len_more test (λ g. g) 0 r r (omega arith) in
    elim c.if-touches.branch [
      | then-touches+in_ok-push w ↦
          w.touched-is ∙ w.in_ok-push.ensures.ok ∙ ap (λ l. l ++ r ∷ []) c.regions.invariant
          ∙ sym (more ∙ ap (λ t. filter test (map (λ g. g) (range_with_len 0 r)) ++ cond t (r ∷ []) []) (sym is ∙ w.if-touches.true))
      | else-touches w ↦
          w.touched-is ∙ c.regions.invariant ∙ sym (append-nil _)
          ∙ sym (more ∙ ap (λ t. filter test (map (λ g. g) (range_with_len 0 r)) ++ cond t (r ∷ []) []) (sym is ∙ w.if-touches.false))
    ]
