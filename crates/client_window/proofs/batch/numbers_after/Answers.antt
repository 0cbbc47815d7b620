use Rattle.std.proofs.Common.{◌≡◌, ◌∙◌, ◌++◌, ◌∷◌, [], ℕ, if◌then◌else◌, ap, ap₂, arith, sym}
use Rattle.std.specs.Prelude.{slice_index}
use Rattle.std.proofs.lemmas.List.FromFn.{map-range_with_len_more}
use Rattle.volume_model.specs.Parts.{touches}
use Rattle.client_window.proofs.batch.numbers_after.Goals as goal

pub regions-preserved : goal.regions-preserved
regions-preserved c =
    let r = c.regions.region in
    let number : ℕ → ℕ = λ g. if touches c.args.geometry.now c.args.batch.now g then c.args.next else slice_index c.args.numbers.now g in
    let here : c.number_after.result ≡ number r =
    c.number_after.ensures
    ∙ ap₂ (λ t n. if t then c.args.next else n) (c.touches.ensures ∙ ap (λ b. touches c.args.geometry.now b r) c.as_slice.ensures) (ap (λ l. slice_index l r) c.as_slice-in-regions.ensures) in
    c.in_ok-push.ensures.ok ∙ ap₂ (λ l n. l ++ n ∷ []) c.regions.invariant here ∙ sym (map-range_with_len_more number 0 r r (omega arith))
