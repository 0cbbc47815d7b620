use Rattle.std.proofs.Common.{◌≡◌, ◌∙◌, ◌++◌, ◌∷◌, ◌==◌, ◌<◌, [], ℕ, Bool, true, false, cond, List, map, length, get_or, refl, ap, sym, subst, append-nil, arith, Vec, Global}
use Rattle.std.specs.Prelude.{filter}
use Rattle.std.specs.List.{list_any, range_with_len}
use Rattle.std.proofs.lemmas.List.FromFn.{filter_of_map_range_with_len_more}
use Rattle.std.proofs.lemmas.Option.{same_Some, slice_get-get_or}
use Rattle.salus_types.specs.Volume.{blocks}
use Rattle.salus_types.specs.declared.records.Write.{Write}
use Rattle.client_asking.proofs.blocks.distinct_blocks.Goals as goal
use Rattle.client_asking.proofs.blocks.distinct_blocks.Goals.{then-index+in_ok-push, else-index}

same_default : (marks : List Bool) (i : ℕ) (d e : Bool) → i < length marks → get_or marks i d ≡ get_or marks i e
same_default marks i d e within = same_Some (get_or marks i d) (get_or marks i e) (sym (slice_get-get_or marks i d within) ∙ slice_get-get_or marks i e within)

pub numbers-preserved : goal.numbers-preserved
numbers-preserved c =
    let r = c.numbers.block in
    let test : ℕ → Bool = λ b. list_any (λ (w : Write). w.block == b) c.args.batch.now in
    let below : c.numbers.block < blocks c.args.geometry.now = omega (arith, c.numbers-test.true, c.blocks-block-end.ensures.value) in
    let is : c.index.result.now ≡ test c.numbers.block =
    c.index.ensures ∙ same_default c.in_ok-marks.marks.items c.numbers.block c.index.result.now false (omega (arith, c.in_ok-marks.ensures.length))
    ∙ c.in_ok-marks.ensures.marks c.numbers.block below in
    let more = filter_of_map_range_with_len_more test (λ b. b) 0 r r (omega arith) in
    elim c.if-index.branch [
      | then-index+in_ok-push w ↦
          ap (λ (v : Vec ℕ Global). v.items) w.written-is ∙ w.in_ok-push.ensures.items ∙ ap (λ l. l ++ r ∷ []) c.numbers.invariant
          ∙ sym (more ∙ ap (λ t. filter test (map (λ b. b) (range_with_len 0 r)) ++ cond t (r ∷ []) []) (sym is ∙ w.if-index.true))
      | else-index w ↦
          ap (λ (v : Vec ℕ Global). v.items) w.written-is ∙ c.numbers.invariant ∙ sym (append-nil _)
          ∙ sym (more ∙ ap (λ t. filter test (map (λ b. b) (range_with_len 0 r)) ++ cond t (r ∷ []) []) (sym is ∙ w.if-index.false))
    ]
