-- What an answer leaves of the write at the head: that its blocks are known or asked for.
use Rattle.std.proofs.Common.{◌≡◌, ◌∙◌, ℕ, ◌<◌, ◌||◌, true, List, [], ◌∷◌, length, Option, Some, IsSome, is_some, inl, inr, refl, sym, ap, subst, arith}
use Rattle.std.specs.List.{AllByRecursion}
use Rattle.std.proofs.lemmas.Bool.{or_cases, or_left, or_right, true≢false}
use Rattle.std.proofs.lemmas.List.Elements.{All-from_recursion}
use Rattle.list_lemmas.proofs.Each.{all_then}
use Rattle.list_lemmas.proofs.Tests.{or_false}
use Rattle.salus_types.specs.Volume.{blocks}
use Rattle.salus_types.specs.declared.names.NodeName.{NodeName}
use Rattle.salus_message.specs.declared.replies.Answer.{Answer}
use Rattle.printed_lines.specs.declared.line.Line.{Line}
use Rattle.salus_model.specs.Waiting.{Taken}
use Rattle.client_rules.specs.State.{Open}
use Rattle.client_rules.specs.Tables.{open_at, closed_at, struck_at}
use Rattle.verified_read.specs.Table.{Table, HaveOwnNumbers}
use Rattle.client_asking.specs.declared.step.Step.{Step}
use Rattle.client_asking.specs.Lining.{AreWithin}
use Rattle.pruned_volume.specs.Trees.{KeptTrees, is_known, IsKnownWrite}
use Rattle.head_blocks.specs.declared.headway.Headway.{Headway}
use Rattle.head_blocks.specs.declared.headway.Headway.TheVariants as headway
use Rattle.head_blocks.specs.Headed.{head_batch, is_asked_for, IsCovered, IsHeaded, IsLeft}
use Rattle.head_blocks.specs.Weighing.{IsGrafted, IsSame, IsStruck}
use Rattle.head_blocks.specs.Ending.{IsEnding, headway_of}
use Rattle.head_blocks.proofs.Questions.{closed_asked, closed_within, some_of, struck_asked, struck_within}

-- where something is asked for, there is a head
some_asked : (a : Answer) (asked : List Open) → asked ≡ [] → IsSome (open_at a asked) → ⊥
some_asked a asked none some = true≢false (sym some ∙ ap (λ l. is_some (open_at a l)) none)

there_is : (asked : List Open) (line : List Taken) (a : Answer) → (line ≡ [] → asked ≡ []) → IsSome (open_at a asked) → 0 < length line
there_is asked [] a none some = absurd (some_asked a asked (none refl) some)
there_is asked (t ∷ line) a none some = omega arith

-- nothing has changed
pub same_headed : (k l : KeptTrees) (t : Table) (left : List Open) → IsSame k l t left → (line : List Taken) → IsHeaded k t.asked line → IsHeaded l left line
same_headed k l t left same line headed = subst (λ x. IsHeaded x left line) (sym same.trees) (subst (λ x. IsHeaded k x line) (sym same.asked) headed)

-- a replica is struck
struck_headed : (k : KeptTrees) (asked left : List Open) (line : List Taken) → AreWithin k.shape left → ((b : ℕ) → is_asked_for left b ≡ is_asked_for asked b) → (asked ≡ [] → left ≡ [])
    → IsHeaded k asked line → IsHeaded k left line
struck_headed k asked left line within same none headed = record {
  heads = headed.heads;
  within = within;
  covered = all_then (IsCovered k asked) (IsCovered k left) (λ w c. record { within = c.within; covered = ap (λ t. is_known k w.block || t) (same w.block) ∙ c.covered }) (head_batch line) headed.covered;
  none = λ e. none (headed.none e);
}

module _ (k l : KeptTrees) (t : Table) (left : List Open) (name : NodeName) (number : ℕ) (a : Answer) where
  -- it was struck, and then the head has perhaps ended
  pub struck_left : (h : Headway) (m : KeptTrees) (last : List Open) (fault : Option Line) (before after : Step) → IsStruck k l t left name number a → IsEnding h l m left last fault before after
      → (line : List Taken) → IsHeaded k t.asked line → IsLeft h m last line
  struck_left headway.Waits m last fault before after struck ending line headed =
      subst (λ x. IsHeaded x last line) (sym (ending.trees ∙ struck.trees))
      (subst (λ x. IsHeaded k x line) (sym (ending.stay ∙ struck.asked))
      (struck_headed k t.asked (struck_at a name.replica struck.strike t.asked) line (struck_within k.shape a name.replica struck.strike t.asked headed.within)
      (struck_asked a name.replica struck.strike t.asked) (λ none. ap (struck_at a name.replica struck.strike) none) headed))
  struck_left headway.Known m last fault before after struck ending line headed = absurd ending
  struck_left headway.Faulted m last fault before after struck ending line headed =
      record { none = ending.none; head = there_is t.asked line a headed.none struck.judged.one.asked }

  -- a block is known
  module _ (o : Open) (own : HaveOwnNumbers t.asked) (found : open_at a t.asked ≡ Some o) (grafted : IsGrafted k l t left name number a) (shape : l.shape ≡ k.shape) where
    known_still : (b : ℕ) → b < blocks k.shape → (is_known k b || is_asked_for t.asked b) ≡ true → (is_known l b || is_asked_for left b) ≡ true
    known_still b within covered = elim (or_cases (is_known k b) (is_asked_for t.asked b) covered) [
      | inl was ↦ or_left (is_known l b) (is_asked_for left b) (grafted.stays b within was)
      | inr asked ↦ elim (closed_asked a t.asked o b own found asked) [
        | inl same ↦ or_left (is_known l b) (is_asked_for left b) (subst (λ n. is_known l n ≡ true) same grafted.known)
        | inr still ↦ or_right (is_known l b) (is_asked_for left b) (ap (λ x. is_asked_for x b) grafted.asked ∙ still)
      ]
    ]

    still_covered : (line : List Taken) → IsHeaded k t.asked line → AllByRecursion (IsCovered l left) (head_batch line)
    still_covered line headed = all_then (IsCovered k t.asked) (IsCovered l left) (λ w c. record {
      within = subst (λ s. w.block < blocks s) (sym shape) c.within;
      covered = known_still w.block c.within c.covered;
    }) (head_batch line) headed.covered

    left_headed : (line : List Taken) → IsHeaded k t.asked line → IsHeaded l left line
    left_headed line headed = record {
      heads = headed.heads;
      within = subst (λ s. AreWithin s left) (sym shape) (subst (AreWithin k.shape) (sym grafted.asked) (closed_within k.shape a.read t.asked headed.within));
      covered = still_covered line headed;
      none = λ e. grafted.asked ∙ ap (closed_at a.read) (headed.none e);
    }

    left_by : (last : List Open) → left ≡ last → (line : List Taken) → IsHeaded k t.asked line → IsLeft (headway_of last) l last line
    left_by [] is line headed = record {
      settled = record { none = refl; head = there_is t.asked line a headed.none grafted.judged.one.asked };
      known = All-from_recursion (IsKnownWrite l) (head_batch line)
          (all_then (IsCovered l []) (IsKnownWrite l) (λ w c. record { within = c.within; known = sym (or_false (is_known l w.block)) ∙ c.covered }) (head_batch line)
          (subst (λ x. AllByRecursion (IsCovered l x) (head_batch line)) is (still_covered line headed)));
    }
    left_by (x ∷ last) is line headed = subst (λ y. IsHeaded l y line) is (left_headed line headed)

  pub grafted_left : HaveOwnNumbers t.asked → IsGrafted k l t left name number a → l.shape ≡ k.shape → (line : List Taken) → IsHeaded k t.asked line → IsLeft (headway_of left) l left line
  grafted_left own grafted shape line headed =
      let one = some_of (open_at a t.asked) grafted.judged.one.asked in
      left_by one.0 own one.1 grafted shape left refl line headed
