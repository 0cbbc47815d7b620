-- What a caller cites: when a write heads the line, and each block that it writes is known or asked for.
use Rattle.std.proofs.Common.{◌≡◌, ◌∙◌, ℕ, ◌+◌, ◌<◌, ◌==◌, ◌||◌, true, if◌then◌else◌, List, [], ◌∷◌, ◌++◌, map, length, refl, sym, ap, subst, arith}
use Rattle.std.specs.List.{AllByRecursion, list_any, range_with_len}
use Rattle.std.proofs.lemmas.Bool.{true≢false, eq-eqb, or_right}
use Rattle.std.proofs.lemmas.List.Elements.{recursion_from_All}
use Rattle.salus_types.specs.Volume.{Shape, blocks}
use Rattle.salus_types.specs.declared.records.Write.{Write}
use Rattle.merkle_region.specs.Tree.{IsAmong}
use Rattle.volume_model.specs.Contents.{Batch}
use Rattle.volume_model.specs.Parts.{blocks_of}
use Rattle.salus_model.specs.declared.trace.Request.{Request}
use Rattle.salus_model.specs.declared.trace.Request.TheVariants as request
use Rattle.salus_model.specs.Waiting.{Taken, is_write, questions_from, questions_of}
use Rattle.client_rules.specs.State.{Open}
use Rattle.client_rules.specs.Tables.{fresh, line_of, head_questions}
use Rattle.client_window.specs.Window.{IsWriteOf}
use Rattle.client_asking.specs.Lining.{AreWithin, IsAccepted, IsBatchOf}
use Rattle.client_asking.proofs.Few.{blocks_within}
use Rattle.client_asking.proofs.Heads.{first_writes}
use Rattle.list_lemmas.proofs.Members.{among_all, all_among, among_filter-in, among_range-in, any_from}
use Rattle.pruned_volume.specs.Trees.{KeptTrees, is_known}
use Rattle.head_blocks.specs.Headed.{IsCovered, IsHeaded, is_asked_for}

-- ---- nothing waits

pub headed_empty : (trees : KeptTrees) → IsHeaded trees [] []
unfolding line_of
headed_empty trees = record { heads = refl; within = tt; covered = tt; none = λ e. refl }

-- ---- a head that has asked for all its blocks

-- the blocks of these questions are those that are asked for
asked_same : (shape : Shape) (v j : ℕ) (bs : List ℕ) (b : ℕ) → is_asked_for (map (fresh shape) (questions_from v j bs)) b ≡ list_any (λ x. x == b) bs
unfolding questions_from
asked_same shape v j [] b = refl
asked_same shape v j (x ∷ bs) b = ap (λ t. (x == b) || t) (asked_same shape v (j + 1) bs b)

asked_within : (top : ℕ) (shape : Shape) (v j : ℕ) (bs : List ℕ) → AllByRecursion (λ b. b < top) bs → AllByRecursion (λ (o : Open). o.question.block < top) (map (fresh shape) (questions_from v j bs))
unfolding questions_from
asked_within top shape v j [] within = tt
asked_within top shape v j (b ∷ bs) within = (within.0, asked_within top shape v (j + 1) bs within.1)

-- a block that the batch writes is one of its blocks
written : (shape : Shape) (batch : Batch) (w : Write) → IsAmong w batch → w.block < blocks shape → list_any (λ x. x == w.block) (blocks_of shape batch) ≡ true
written shape batch w m within =
    any_from (λ x. x == w.block) w.block (blocks_of shape batch)
    (among_filter-in (λ b. list_any (λ (x : Write). x.block == b) batch) (range_with_len 0 (blocks shape)) w.block
    (among_range-in (blocks shape) 0 w.block (omega arith) (omega (arith, within)))
    (any_from (λ (x : Write). x.block == w.block) w batch m (eq-eqb w.block w.block refl)))
    (eq-eqb w.block w.block refl)

batch_covered : (shape : Shape) (trees : KeptTrees) (v : ℕ) (batch : Batch) → trees.shape ≡ shape → IsBatchOf shape batch
    → AllByRecursion (IsCovered trees (map (fresh shape) (questions_from v 1 (blocks_of shape batch)))) batch
batch_covered shape trees v batch same is = all_among _ batch (λ w m.
    let within : w.block < blocks shape = (among_all (IsWriteOf shape) batch w m (recursion_from_All (IsWriteOf shape) batch is.1)).within in
    record {
      within = subst (λ s. w.block < blocks s) (sym same) within;
      covered = or_right (is_known trees w.block) _ (asked_same shape v 1 (blocks_of shape batch) w.block ∙ written shape batch w m within);
    })

module _ (shape : Shape) (trees : KeptTrees) (same : trees.shape ≡ shape) where
  write_headed : (v : ℕ) (x : Request) (rs : List Taken) → is_write x ≡ true → line_of (record { event = v; request = x } ∷ rs) ≡ record { event = v; request = x } ∷ rs → IsAccepted shape x
      → IsHeaded trees (map (fresh shape) (questions_of shape v x)) (record { event = v; request = x } ∷ rs)
  write_headed v (request.Write batch) rs is heads accepted = record {
    heads = heads;
    within = subst (λ s. AreWithin s (map (fresh shape) (questions_from v 1 (blocks_of shape batch)))) (sym same) (asked_within (blocks shape) shape v 1 (blocks_of shape batch) (blocks_within shape batch));
    covered = batch_covered shape trees v batch same accepted;
    none = λ e. absurd (omega (arith, ap length e));
  }
  write_headed v (request.Read b) rs is heads accepted = absurd (true≢false (sym is))
  write_headed v request.Barrier rs is heads accepted = absurd (true≢false (sym is))
  write_headed v (request.Restart e) rs is heads accepted = absurd (true≢false (sym is))
  write_headed v (request.Reassign e g) rs is heads accepted = absurd (true≢false (sym is))

  -- the questions are those that the head asks
  pub headed_asked : (line : List Taken) → line_of line ≡ line → AllByRecursion (λ (t : Taken). IsAccepted shape t.request) line → IsHeaded trees (map (fresh shape) (head_questions shape line)) line
  headed_asked [] heads accepted = headed_empty trees
  headed_asked (r ∷ rs) heads accepted = write_headed r.event r.request rs (first_writes r rs heads) heads accepted.0

-- ---- one more waits behind the head

heads_more : (r : Taken) (rs more : List Taken) → is_write r.request ≡ true → line_of (r ∷ rs ++ more) ≡ r ∷ rs ++ more
unfolding line_of
heads_more r rs more is = ap (λ b. if b then r ∷ rs ++ more else line_of (rs ++ more)) is

pub headed_joined : (trees : KeptTrees) (asked : List Open) (line : List Taken) (t : Taken) → 0 < length line → IsHeaded trees asked line → IsHeaded trees asked (line ++ t ∷ [])
headed_joined trees asked [] t some headed = absurd (omega (arith, some))
headed_joined trees asked (r ∷ rs) t some headed = record {
  heads = heads_more r rs (t ∷ []) (first_writes r rs headed.heads);
  within = headed.within;
  covered = headed.covered;
  none = λ e. absurd (omega (arith, ap length e));
}
