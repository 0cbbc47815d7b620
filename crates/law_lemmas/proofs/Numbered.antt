-- A region's number: the last batch that touched it. Its blocks are those after that batch.
use Rattle.std.proofs.Common.{◌≡◌, ℕ, zero, suc, ◌+◌, ◌-◌, ◌<◌, ◌≤◌, ◌∙◌, Bool, true, false, if◌then◌else◌, List, [], ◌∷◌, ◌++◌, length, get_or, take, drop, refl, ap, sym, subst, arith}
use Rattle.std.proofs.lemmas.List.{length-take-le, length-drop, take_more, drop-append-le, drop_all}
use Rattle.salus_types.specs.Volume.{Shape, regions, blocks}
use Rattle.volume_model.specs.Contents.{Batch, apply, fold_batches, blocks_in}
use Rattle.volume_model.specs.Parts.{Session, contents_after, touches, last_touch, number_of, batch_at}
use Rattle.salus_model.proofs.Growing.{last_touch-append}
use Rattle.law_lemmas.proofs.Written.{length-apply}
use Rattle.law_lemmas.proofs.Regional.{untouched}

pub fold_batches-append : (batches more : List Batch) (contents : List (List ℕ)) → fold_batches contents (batches ++ more) ≡ fold_batches (fold_batches contents batches) more
unfolding fold_batches
fold_batches-append [] more contents = refl
fold_batches-append (b ∷ batches) more contents = fold_batches-append batches more (apply contents b)

pub fold_batches-one : (batches : List Batch) (b : Batch) (contents : List (List ℕ)) → fold_batches contents (batches ++ b ∷ []) ≡ apply (fold_batches contents batches) b
unfolding fold_batches
fold_batches-one batches b contents = fold_batches-append batches (b ∷ []) contents

pub length-fold_batches : (batches : List Batch) (contents : List (List ℕ)) → length (fold_batches contents batches) ≡ length contents
unfolding fold_batches
length-fold_batches [] contents = refl
length-fold_batches (b ∷ batches) contents = length-fold_batches batches (apply contents b) ∙ length-apply b contents

-- what every session that is known keeps to
pub record IsSized (shape : Shape) (known : Session) : Type 0 where
  pub long : length known.origin ≡ blocks shape
  pub begun : known.base ≤ length known.list

module _ (shape : Shape) (known : Session) (sized : IsSized shape known) where
  pub length-contents_after : (s : ℕ) → length (contents_after known s) ≡ blocks shape
  length-contents_after s = length-fold_batches (take s known.list) known.origin ∙ sized.long

  -- a batch more
  pub contents_after-more : (s : ℕ) → s < length known.list → contents_after known (s + 1) ≡ apply (contents_after known s) (batch_at known (s + 1))
  contents_after-more s within =
      let place : s ≡ s + 1 - 1 = omega arith in
      ap (fold_batches known.origin) (take_more known.list s [] within)
      ∙ (fold_batches-one (take s known.list) (get_or known.list s []) known.origin
      ∙ ap (λ i. apply (contents_after known s) (get_or known.list i [])) place)

  pub number_of-base : (g : ℕ) → number_of shape known known.base g ≡ known.base
  unfolding last_touch
  number_of-base g =
      let short : length (take known.base known.list) ≡ known.base = length-take-le known.base known.list sized.begun in
      ap (last_touch shape g known.base (known.base + 1)) (drop_all known.base (take known.base known.list) (omega arith))

  pub number_of-more : (s g : ℕ) → known.base ≤ s → s < length known.list
      → number_of shape known (s + 1) g ≡ (if touches shape (batch_at known (s + 1)) g then s + 1 else number_of shape known s g)
  number_of-more s g above within =
      let place : s ≡ s + 1 - 1 = omega arith in
      let short : length (take s known.list) ≡ s = length-take-le s known.list (omega arith) in
      let left : length (drop known.base (take s known.list)) ≡ s - known.base = length-drop known.base (take s known.list) ∙ ap (λ n. n - known.base) short in
      let last : known.base + 1 + length (drop known.base (take s known.list)) ≡ s + 1 = omega arith in
      ap (λ l. last_touch shape g known.base (known.base + 1) (drop known.base l)) (take_more known.list s [] within)
      ∙ (ap (last_touch shape g known.base (known.base + 1)) (drop-append-le known.base (take s known.list) (get_or known.list s [] ∷ []) (omega arith))
      ∙ (last_touch-append shape g (drop known.base (take s known.list)) (get_or known.list s []) known.base (known.base + 1)
      ∙ (ap (λ n. if touches shape (get_or known.list s []) g then n else number_of shape known s g) last
      ∙ ap (λ i. if touches shape (get_or known.list i []) g then s + 1 else number_of shape known s g) place)))

  -- the number is that of a batch of the session or its base, and the blocks are those after it
  pub record IsNumbered (g s : ℕ) : Type 0 where
    pub above : known.base ≤ number_of shape known s g
    pub within : number_of shape known s g ≤ s
    pub blocks : blocks_in shape (contents_after known (number_of shape known s g)) g ≡ blocks_in shape (contents_after known s) g

  numbered_more : (g s : ℕ) → g < regions shape → known.base ≤ s → s < length known.list → IsNumbered g s → (t : Bool) → touches shape (batch_at known (s + 1)) g ≡ t
      → IsNumbered g (s + 1)
  numbered_more g s inside above within before true is =
      let same : number_of shape known (s + 1) g ≡ s + 1 = number_of-more s g above within ∙ ap (λ t. if t then s + 1 else number_of shape known s g) is in
      record { above = omega arith; within = omega arith; blocks = ap (λ n. blocks_in shape (contents_after known n) g) same }
  numbered_more g s inside above within before false is =
      let same : number_of shape known (s + 1) g ≡ number_of shape known s g = number_of-more s g above within ∙ ap (λ t. if t then s + 1 else number_of shape known s g) is in
      let low = before.above in
      let high = before.within in
      record {
        above = omega arith;
        within = omega arith;
        blocks = ap (λ n. blocks_in shape (contents_after known n) g) same
            ∙ (before.blocks
            ∙ (sym (untouched shape (contents_after known s) (length-contents_after s) (batch_at known (s + 1)) g inside is)
            ∙ ap (λ c. blocks_in shape c g) (sym (contents_after-more s within))));
      }

  numbered_from : (g : ℕ) → g < regions shape → (k : ℕ) → known.base + k ≤ length known.list → IsNumbered g (known.base + k)
  numbered_from g inside zero within =
      let same : known.base + 0 ≡ known.base = omega arith in
      let first : number_of shape known (known.base + 0) g ≡ known.base + 0 = ap (λ s. number_of shape known s g) same ∙ (number_of-base g ∙ sym same) in
      record { above = omega arith; within = omega arith; blocks = ap (λ n. blocks_in shape (contents_after known n) g) first }
  numbered_from g inside (suc k) within =
      let same : known.base + k + 1 ≡ known.base + suc k = omega arith in
      subst (IsNumbered g) same
      (numbered_more g (known.base + k) inside (omega arith) (omega arith) (numbered_from g inside k (omega arith)) (touches shape (batch_at known (known.base + k + 1)) g) refl)

  pub numbered : (g s : ℕ) → g < regions shape → known.base ≤ s → s ≤ length known.list → IsNumbered g s
  numbered g s inside above within =
      let same : known.base + (s - known.base) ≡ s = omega arith in
      subst (IsNumbered g) same (numbered_from g inside (s - known.base) (omega arith))
