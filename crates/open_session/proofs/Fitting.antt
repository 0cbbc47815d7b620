-- What is answered and dumped can be spelled: blocks of the volume's length, and paths of the tree's height.
use Rattle.std.proofs.Common.{◌≡◌, ◌∙◌, ℕ, ◌^◌, ◌<◌, ◌≤◌, true, not, if◌then◌else◌, List, [], ◌∷◌, length, All, Option, None, Some, Result, Ok, Err, IfOk, IfSome, MatchOption, refl, sym, ap, subst, arith}
use Rattle.std.proofs.lemmas.Nat.{pow_pos}
use Rattle.std.proofs.Math.Nat.{mod-lt, pow-le-pow_right}
use Rattle.salus_types.specs.Volume.{Shape, IsBlock}
use Rattle.salus_types.specs.declared.memory.NoMemory.{NoMemory}
use Rattle.salus_message.specs.declared.small.Ask.{Ask}
use Rattle.salus_message.specs.declared.replies.Answer.{Answer}
use Rattle.salus_message.specs.Ranges.{IsAnswer}
use Rattle.client_tag.specs.Spelling.{size_of}
use Rattle.client_tag.specs.Ranges.{AreBlocks}
use Rattle.merkle_region.specs.Tree.{block_at}
use Rattle.merkle_region.proofs.Reached.{length-path_from}
use Rattle.volume_model.specs.Contents.{place_of}
use Rattle.holding_model.specs.Fitting.{has_shape}
use Rattle.replica_rules.specs.Views.{View}
use Rattle.replica_rules.specs.Replicas.{AskTaken, answer_to, is_asked_here, is_due, take_ask, with_ask}
use Rattle.region_view.specs.Kept.{KeptView}
use Rattle.region_view.proofs.Shaping.{IsShaped, shape-parts}
use Rattle.region_replica.specs.Serving.{Serving}
use Rattle.region_replica.specs.Asking.{IsAskTaken, IsFirstDue, IsNoneDue}
use Rattle.list_lemmas.proofs.Tests.{way_with}

-- the view's blocks are those of a volume
pub record IsFitting (shape : Shape) (view : View) : Type 0 where
  pub shaped : IsShaped shape view.blocks
  pub block : IsBlock shape.block
  pub low : shape.height ≤ 10

-- as the program learns it
pub view-fits : (s : Serving) (seen : KeptView) (shape : Shape) (size height : ℕ) → seen ≡ record { shape = s.shape; view = s.replica.view } → shape ≡ seen.shape
    → size ≡ shape.block → IsBlock size → height ≡ shape.height → height ≤ 10 → has_shape seen.shape seen.view.blocks ≡ true → IsFitting s.shape s.replica.view
view-fits s seen shape size height same at size_is block height_is low shaped =
    let here : shape ≡ s.shape = at ∙ ap (λ (k : KeptView). k.shape) same in
    record {
      shaped = shape-parts s.shape s.replica.view.blocks (subst (λ (k : KeptView). has_shape k.shape k.view.blocks ≡ true) same shaped);
      block = subst IsBlock (size_is ∙ ap (λ (sh : Shape). sh.block) here) block;
      low = subst (λ n. n ≤ 10) (height_is ∙ ap (λ (sh : Shape). sh.height) here) low;
    }

pub is-answer : (shape : Shape) (view : View) (ask : Ask) → IsFitting shape view → IsAnswer (answer_to shape view ask)
is-answer shape view ask fits =
    let place : ℕ = place_of shape ask.block in
    let within : place < 2 ^ shape.height = mod-lt ask.block (pow_pos shape.height) in
    let there : place < length view.blocks = subst (λ n. place < n) (sym fits.shaped.count) within in
    let size : length (block_at view.blocks place) ≡ shape.block = fits.shaped.sized place [] there in
    let path = length-path_from shape.height view.blocks place in
    record {
      small_block = subst (λ n. (1 ≤ n) × (n ≤ 4096)) (sym size) fits.block;
      short_path = subst (λ n. n ≤ 12) (sym path) (omega (arith, fits.low));
    }

-- the answer that comes next
pub due-fits : (before after : Serving) (result : Result (Option Answer) NoMemory) → IsFitting before.shape before.replica.view
    → IfOk result (λ o. MatchOption o (IsNoneDue before after) (IsFirstDue before after)) → IfOk result (λ o. IfSome o IsAnswer)
due-fits before after (Ok None) fits due = tt
due-fits before after (Ok (Some answer)) fits due = subst IsAnswer (sym due.answer) (is-answer before.shape before.replica.view due.ask fits)
due-fits before after (Err e) fits due = tt

-- the answer to an ask
taken_fits : (s : Serving) (ask : Ask) → IsFitting s.shape s.replica.view → IfSome (take_ask s.shape s.region s.replica ask).answer IsAnswer
unfolding take_ask
taken_fits s ask fits =
    way_with (not (is_asked_here s.shape s.region s.replica ask)) (record { replica = s.replica; answer = None })
    (if is_due s.replica.view ask then record { replica = s.replica; answer = Some (answer_to s.shape s.replica.view ask) } else record { replica = record s.replica { asks = with_ask s.replica.asks ask }; answer = None })
    (λ (t : AskTaken). IfSome t.answer IsAnswer) (λ other. tt)
    (λ here. way_with (is_due s.replica.view ask) (record { replica = s.replica; answer = Some (answer_to s.shape s.replica.view ask) }) (record { replica = record s.replica { asks = with_ask s.replica.asks ask }; answer = None })
    (λ (t : AskTaken). IfSome t.answer IsAnswer) (λ due. is-answer s.shape s.replica.view ask fits) (λ early. tt))

pub ask-fits : (before after : Serving) (ask : Ask) (result : Result (Option Answer) NoMemory) → IsFitting before.shape before.replica.view
    → IfOk result (IsAskTaken before ask after) → IfOk result (λ o. IfSome o IsAnswer)
ask-fits before after ask (Ok given) fits taken = subst (λ o. IfSome o IsAnswer) (sym taken.answer) (taken_fits before ask fits)
ask-fits before after ask (Err e) fits taken = tt

-- the blocks of a view
size_first : (blocks : List (List ℕ)) (n : ℕ) → All (λ (x : List ℕ). length x ≡ n) blocks → 0 < length blocks → size_of blocks ≡ n
size_first [] n sized some = absurd (omega (arith, some))
size_first (block ∷ blocks) n sized some = sized 0 [] (omega arith)

pub are-blocks : (shape : Shape) (view : View) → IsFitting shape view → AreBlocks view.blocks
are-blocks shape view fits =
    let few : 2 ^ shape.height ≤ 2 ^ 10 = pow-le-pow_right (omega arith) fits.low in
    let count : length view.blocks ≡ 2 ^ shape.height = fits.shaped.count in
    let some : 0 < 2 ^ shape.height = pow_pos shape.height in
    let first : size_of view.blocks ≡ shape.block = size_first view.blocks shape.block fits.shaped.sized (subst (λ n. 0 < n) (sym count) some) in
    record {
      few_blocks = omega arith;
      one_size = λ i d within. fits.shaped.sized i d within ∙ sym first;
      small_blocks = λ i d within. subst (λ n. (1 ≤ n) × (n ≤ 4096)) (sym (fits.shaped.sized i d within)) fits.block;
    }

-- as the program learns it
pub dump-fits : (seen : KeptView) (shape : Shape) (size height : ℕ) (blocks : List (List ℕ)) → shape ≡ seen.shape → size ≡ shape.block → IsBlock size → height ≡ shape.height → height ≤ 10
    → blocks ≡ seen.view.blocks → has_shape seen.shape seen.view.blocks ≡ true → AreBlocks blocks
dump-fits seen shape size height blocks at size_is block height_is low same shaped =
    let s : Serving = record { shape = seen.shape; region = 0; replica = record { session = 0; view = seen.view; early = []; asks = [] } } in
    subst (λ (l : List (List ℕ)). AreBlocks l) (sym same) (are-blocks seen.shape seen.view (view-fits s seen shape size height refl at size_is block height_is low shaped))
