-- The head's questions: what a strike and a closed question leave of them.
use Rattle.std.proofs.Common.{◌≡◌, ◌⊎◌, ◌∙◌, ℕ, ◌<◌, ◌==◌, ◌||◌, ◌&&◌, nat_eq, Bool, true, false, not, if◌then◌else◌, List, [], ◌∷◌, map, Option, None, Some, IsSome, unwrap_or, inl, inr, refl, sym, ap, ap₂, subst}
use Rattle.std.proofs.lemmas.Bool.{cases_Bool, cond-true, eqb-true, eq-eqb, or_cases, or_left, or_right, true≢false}
use Rattle.std.proofs.lemmas.Option.{none-some, same_Some}
use Rattle.std.specs.List.{AllByRecursion, IsDistinct}
use Rattle.std.specs.Option.{option_map}
use Rattle.list_lemmas.proofs.Each.{all_filter}
use Rattle.salus_types.specs.Volume.{Shape, blocks}
use Rattle.salus_types.specs.declared.strike.Strike.{Strike}
use Rattle.salus_message.specs.declared.replies.Answer.{Answer}
use Rattle.printed_lines.specs.declared.line.Line.TheVariants as line
use Rattle.salus_model.specs.Waiting.{Question}
use Rattle.salus_model.specs.Answering.{all_struck}
use Rattle.client_rules.specs.State.{Open}
use Rattle.client_rules.specs.Tables.{answers, open_at, closed_at, struck, struck_at}
use Rattle.verified_read.specs.Table.{HaveOwnNumbers, question_at}
use Rattle.verified_read.proofs.CallerLemmas.{fault-struck, open-named, question-open}
use Rattle.client_asking.specs.Lining.{AreWithin}
use Rattle.head_blocks.specs.Headed.{is_asked_for}
use Rattle.head_blocks.specs.Ending.{fault_in, fault_line}

pub some_of : (x : Option Open) → IsSome x → (o : Open) × (x ≡ Some o)
some_of None some = absurd (true≢false (sym some))
some_of (Some o) some = (o, refl)

-- the question of the answer's number is the one that it answers
pub asked_of : (a : Answer) (asked : List Open) (o : Open) (q : Question) → HaveOwnNumbers asked → open_at a asked ≡ Some o
    → Some q ≡ option_map (λ (x : Open). x.question) (question_at a.read asked) → q ≡ o.question
asked_of a asked o q own found is = same_Some q o.question (is ∙ ap (option_map (λ (x : Open). x.question)) (question-open a asked o own found))

pub asked_there : (a : Answer) (asked : List Open) (P : Type 0) → HaveOwnNumbers asked → IsSome (open_at a asked) → question_at a.read asked ≡ None → P
asked_there a asked P own some none =
    let one = some_of (open_at a asked) some in absurd (none-some one.0 (sym none ∙ question-open a asked one.0 own one.1))

-- ---- a strike

struck_question : (b : Bool) (by : ℕ) (s : Strike) (x : Open) → (if b then struck by s x else x).question ≡ x.question
struck_question true by s x = refl
struck_question false by s x = refl

pub struck_asked : (a : Answer) (by : ℕ) (s : Strike) (asked : List Open) (b : ℕ) → is_asked_for (struck_at a by s asked) b ≡ is_asked_for asked b
struck_asked a by s [] b = refl
struck_asked a by s (x ∷ asked) b =
    ap₂ (λ (q : Question) (t : Bool). (q.block == b) || t) (struck_question (answers a x) by s x) (struck_asked a by s asked b)

pub struck_within : (shape : Shape) (a : Answer) (by : ℕ) (s : Strike) (asked : List Open) → AreWithin shape asked → AreWithin shape (struck_at a by s asked)
struck_within shape a by s [] within = tt
struck_within shape a by s (x ∷ asked) within =
    (subst (λ (q : Question). q.block < blocks shape) (sym (struck_question (answers a x) by s x)) within.0, struck_within shape a by s asked within.1)

mapped : {A B : Type 0} (b : Bool) (f : A → B) (x y : A) (r s : Option A) → f x ≡ f y → option_map f r ≡ option_map f s → option_map f (if b then Some x else r) ≡ option_map f (if b then Some y else s)
mapped true f x y r s same rest = ap Some same
mapped false f x y r s same rest = rest

struck_found : (n : ℕ) (a : Answer) (by : ℕ) (s : Strike) (asked : List Open)
    → option_map (λ (o : Open). o.question) (question_at n (struck_at a by s asked)) ≡ option_map (λ (o : Open). o.question) (question_at n asked)
struck_found n a by s [] = refl
struck_found n a by s (x ∷ asked) =
    ap (λ (q : Question). option_map (λ (o : Open). o.question) (if n == q.number then Some (if answers a x then struck by s x else x) else question_at n (struck_at a by s asked))) (struck_question (answers a x) by s x)
    ∙ mapped (n == x.question.number) (λ (o : Open). o.question) (if answers a x then struck by s x else x) x (question_at n (struck_at a by s asked)) (question_at n asked)
    (struck_question (answers a x) by s x) (struck_found n a by s asked)

line_of_fault : (q : Question) (strikes : List (Option Strike)) (b : Bool) → fault_line (Some q) (if b then Some strikes else None) ≡ (if b then Some (line.Fault q.event q.block strikes) else None)
line_of_fault q strikes true = refl
line_of_fault q strikes false = refl

-- the fault that there is after a strike
pub struck_fault : (a : Answer) (by : ℕ) (s : Strike) (asked : List Open) (o : Open) → HaveOwnNumbers asked → open_at a asked ≡ Some o
    → fault_in a.read (struck_at a by s asked) ≡ (if all_struck (struck by s o).strikes then Some (line.Fault o.question.event o.question.block (struck by s o).strikes) else None)
struck_fault a by s asked o own found =
    ap₂ fault_line (struck_found a.read a by s asked ∙ ap (option_map (λ (x : Open). x.question)) (question-open a asked o own found)) (fault-struck a by s asked o own found)
    ∙ line_of_fault o.question (struck by s o).strikes (all_struck (struck by s o).strikes)

-- ---- a question that is closed

-- those of the answer's number are for its block
abbrev AreNamed : Answer → List Open → Type 0
AreNamed a asked = AllByRecursion (λ (x : Open). (x.question.number == a.read) ≡ true → a.block ≡ x.question.block) asked

free_named : (a : Answer) (n : ℕ) (asked : List Open) → a.read ≡ n → AllByRecursion (λ m. nat_eq n m ≡ false) (map (λ (o : Open). o.question.number) asked) → AreNamed a asked
free_named a n [] is free = tt
free_named a n (x ∷ asked) is free =
    (λ hit. absurd (true≢false (sym (eq-eqb n x.question.number (sym is ∙ sym (eqb-true x.question.number a.read hit))) ∙ free.0)), free_named a n asked is free.1)

named : (a : Answer) (asked : List Open) (o : Open) → HaveOwnNumbers asked → open_at a asked ≡ Some o → AreNamed a asked
unfolding IsDistinct
named a [] o own found = tt
named a (x ∷ asked) o own found = elim (cases_Bool (nat_eq a.read x.question.number)) [
  | inl hit ↦
      let is : Some x ≡ Some o = sym (cond-true _ _ _ hit) ∙ question-open a (x ∷ asked) o own found in
      let same : a.block ≡ x.question.block = (open-named a (x ∷ asked) o found).1 ∙ sym (ap (λ r. (unwrap_or r x).question.block) is) in
      (λ _. same, free_named a x.question.number asked (eqb-true a.read x.question.number hit) own.0)
  | inr miss ↦ (
    λ hit. absurd (true≢false (sym (eq-eqb a.read x.question.number (sym (eqb-true x.question.number a.read hit))) ∙ miss)),
    named a asked o own.1 (ap (λ b. if b && (a.block == x.question.block) then Some x else open_at a asked) (sym miss) ∙ found),
  )
]

-- what is left behind the first question, and what is left of all
closed_on : (a : Answer) (x : Open) (asked : List Open) (b : ℕ) → (x.question.number == a.read) ≡ true → (a.block ≡ b) ⊎ (is_asked_for (closed_at a.read asked) b ≡ true)
    → (a.block ≡ b) ⊎ (is_asked_for (closed_at a.read (x ∷ asked)) b ≡ true)
closed_on a x asked b hit (inl same) = inl same
closed_on a x asked b hit (inr rest) = inr (ap (λ t. is_asked_for (if not t then x ∷ closed_at a.read asked else closed_at a.read asked) b) hit ∙ rest)

kept_on : (a : Answer) (x : Open) (asked : List Open) (b : ℕ) → (x.question.number == a.read) ≡ false → (a.block ≡ b) ⊎ (is_asked_for (closed_at a.read asked) b ≡ true)
    → (a.block ≡ b) ⊎ (is_asked_for (closed_at a.read (x ∷ asked)) b ≡ true)
kept_on a x asked b miss (inl same) = inl same
kept_on a x asked b miss (inr rest) =
    inr (ap (λ t. is_asked_for (if not t then x ∷ closed_at a.read asked else closed_at a.read asked) b) miss ∙ or_right (x.question.block == b) _ rest)

closed_named : (a : Answer) (asked : List Open) (b : ℕ) → AreNamed a asked → is_asked_for asked b ≡ true → (a.block ≡ b) ⊎ (is_asked_for (closed_at a.read asked) b ≡ true)
closed_named a [] b names e = absurd (true≢false (sym e))
closed_named a (x ∷ asked) b names e = elim (cases_Bool (x.question.number == a.read)) [
  | inl hit ↦ elim (or_cases (x.question.block == b) (is_asked_for asked b) e) [
    | inl here ↦ inl (names.0 hit ∙ eqb-true x.question.block b here)
    | inr later ↦ closed_on a x asked b hit (closed_named a asked b names.1 later)
  ]
  | inr miss ↦ elim (or_cases (x.question.block == b) (is_asked_for asked b) e) [
    | inl here ↦ inr (ap (λ t. is_asked_for (if not t then x ∷ closed_at a.read asked else closed_at a.read asked) b) miss ∙ or_left (x.question.block == b) _ here)
    | inr later ↦ kept_on a x asked b miss (closed_named a asked b names.1 later)
  ]
]

-- a block that was asked for is that of the answer, or asked for still
pub closed_asked : (a : Answer) (asked : List Open) (o : Open) (b : ℕ) → HaveOwnNumbers asked → open_at a asked ≡ Some o → is_asked_for asked b ≡ true
    → (a.block ≡ b) ⊎ (is_asked_for (closed_at a.read asked) b ≡ true)
closed_asked a asked o b own found e = closed_named a asked b (named a asked o own found) e

pub closed_within : (shape : Shape) (number : ℕ) (asked : List Open) → AreWithin shape asked → AreWithin shape (closed_at number asked)
closed_within shape number asked within = all_filter (λ (o : Open). o.question.block < blocks shape) (λ (o : Open). not (o.question.number == number)) asked within
