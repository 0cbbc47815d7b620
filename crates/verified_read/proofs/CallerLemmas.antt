-- What a caller cites of a table of open questions.
use Rattle.std.proofs.Common.{◌≡◌, ◌⊎◌, ◌∙◌, ℕ, ◌==◌, ◌&&◌, nat_eq, Bool, true, false, not, if◌then◌else◌, List, [], ◌∷◌, unwrap_or, Option, Some, None, IsSome, is_some, refl, sym, ap, subst, true≢false, inl, inr}
use Rattle.std.proofs.lemmas.Bool.{cases_Bool, and_parts, cond-true, cond-false, eqb-true, eq-eqb}
use Rattle.std.specs.Prelude.{map, find, filter}
use Rattle.std.specs.List.{AllByRecursion, IsDistinct}
use Rattle.std.specs.Option.{option_and_then, option_map}
use Rattle.salus_types.specs.declared.names.NodeName.{NodeName}
use Rattle.salus_types.specs.declared.strike.Strike.{Strike}
use Rattle.salus_message.specs.declared.replies.Answer.{Answer}
use Rattle.salus_model.specs.Answering.{is_fitting}
use Rattle.client_rules.specs.State.{Open}
use Rattle.client_rules.specs.Tables.{answers, struck, struck_at, closed_at, open_at}
use Rattle.verified_read.specs.Table.{Table, HaveOwnNumbers, fault_of, fault_at, question_at}
use Rattle.verified_read.specs.Judging.{AnswersOne}
use Rattle.verified_read.proofs.Verdicts.{one_from}
pub use Rattle.verified_read.proofs.Verdicts.{fits, verdict-stale, verdict-past, verdict-good, verdict-bad, stands-by_rules, said-by_rules, said-exact}

-- ---- an answer to none of the questions

none_open : (o : Option Open) → (IsSome o → ⊥) → o ≡ None
none_open None h = refl
none_open (Some o) h = absurd (h refl)

pub unanswered : (t : Table) (name : NodeName) (a : Answer) → (AnswersOne t name a → ⊥) → (is_fitting t.shape name a ≡ false) ⊎ (open_at a t.asked ≡ None)
unanswered t name a none = elim (cases_Bool (is_fitting t.shape name a)) [
  | inl fit ↦ inr (none_open (open_at a t.asked) (λ asked. none (one_from t name a fit asked)))
  | inr unfit ↦ inl unfit
]

-- ---- an answer to one of them

find_passes : {A : Type 0} (test : A → Bool) (xs : List A) (x : A) → find test xs ≡ Some x → test x ≡ true
find_passes test [] x e = absurd (true≢false (ap is_some (sym e)))
find_passes test (y ∷ ys) x e = elim (cases_Bool (test y)) [
  | inl hit ↦ sym (ap (λ o. test (unwrap_or o x)) (sym (cond-true _ _ _ hit) ∙ e)) ∙ hit
  | inr miss ↦ find_passes test ys x (sym (cond-false _ _ _ miss) ∙ e)
]

-- it names that question's number and block
pub open-named : (a : Answer) (asked : List Open) (o : Open) → open_at a asked ≡ Some o → (a.read ≡ o.question.number) × (a.block ≡ o.question.block)
open-named a asked o found =
    let parts = and_parts (a.read == o.question.number) (a.block == o.question.block) (find_passes (λ x. answers a x) asked o found) in
    (eqb-true a.read o.question.number parts.0, eqb-true a.block o.question.block parts.1)

free_open : (a : Answer) (asked : List Open) → AllByRecursion (λ m. nat_eq a.read m ≡ false) (map (λ (o : Open). o.question.number) asked) → open_at a asked ≡ None
free_open a [] free = refl
free_open a (x ∷ asked) free =
    ap (λ b. if b && (a.block == x.question.block) then Some x else open_at a asked) free.0 ∙ free_open a asked free.1

first : (b : Bool) (x o : Open) (r : Option Open) → r ≡ None → (if b then Some x else r) ≡ Some o → Some x ≡ Some o
first true x o r none e = e
first false x o r none e = absurd (true≢false (ap is_some (sym e ∙ none)))

-- that question is the one of its number
pub question-open : (a : Answer) (asked : List Open) (o : Open) → HaveOwnNumbers asked → open_at a asked ≡ Some o → question_at a.read asked ≡ Some o
unfolding IsDistinct
question-open a [] o own found = found
question-open a (x ∷ asked) o own found = elim (cases_Bool (nat_eq a.read x.question.number)) [
  | inl hit ↦
      let free : open_at a asked ≡ None =
      free_open a asked (subst (λ n. AllByRecursion (λ m. nat_eq n m ≡ false) (map (λ (o : Open). o.question.number) asked)) (sym (eqb-true a.read x.question.number hit)) own.0) in
      cond-true _ _ _ hit
      ∙ first (a.block == x.question.block) x o (open_at a asked) free
      (ap (λ b. if b && (a.block == x.question.block) then Some x else open_at a asked) (sym hit) ∙ found)
  | inr miss ↦
      cond-false _ _ _ miss
      ∙ question-open a asked o own.1 (ap (λ b. if b && (a.block == x.question.block) then Some x else open_at a asked) (sym miss) ∙ found)
]

-- ---- a strike

pub closed-struck : (a : Answer) (by : ℕ) (s : Strike) (asked : List Open) → closed_at a.read (struck_at a by s asked) ≡ closed_at a.read asked
closed-struck a by s [] = refl
closed-struck a by s (x ∷ asked) = elim (cases_Bool (answers a x)) [
  | inl hit ↦
      let same : (x.question.number == a.read) ≡ true = eq-eqb x.question.number a.read (sym (eqb-true a.read x.question.number (and_parts (a.read == x.question.number) (a.block == x.question.block) hit).0)) in
      ap (λ b. closed_at a.read ((if b then struck by s x else x) ∷ struck_at a by s asked)) hit
      ∙ ap (λ b. if not b then struck by s x ∷ closed_at a.read (struck_at a by s asked) else closed_at a.read (struck_at a by s asked)) same
      ∙ closed-struck a by s asked ∙ ap (λ b. if not b then x ∷ closed_at a.read asked else closed_at a.read asked) (sym same)
  | inr miss ↦
      ap (λ b. closed_at a.read ((if b then struck by s x else x) ∷ struck_at a by s asked)) miss
      ∙ ap (λ l. if not (x.question.number == a.read) then x ∷ l else l) (closed-struck a by s asked)
]

struck_number : (b : Bool) (by : ℕ) (s : Strike) (x : Open) → (if b then struck by s x else x).question.number ≡ x.question.number
struck_number true by s x = refl
struck_number false by s x = refl

struck_found : (b : Bool) (f : Open → Open) (x : Open) (r : Option Open) → (if b then Some (f x) else option_map f r) ≡ option_map f (if b then Some x else r)
struck_found true f x r = refl
struck_found false f x r = refl

struck_question : (a : Answer) (n by : ℕ) (s : Strike) (asked : List Open)
    → question_at n (struck_at a by s asked) ≡ option_map (λ (o : Open). if answers a o then struck by s o else o) (question_at n asked)
struck_question a n by s [] = refl
struck_question a n by s (x ∷ asked) =
    ap (λ m. if nat_eq n m then Some (if answers a x then struck by s x else x) else question_at n (struck_at a by s asked)) (struck_number (answers a x) by s x)
    ∙ ap (λ r. if nat_eq n x.question.number then Some (if answers a x then struck by s x else x) else r) (struck_question a n by s asked)
    ∙ struck_found (nat_eq n x.question.number) (λ (o : Open). if answers a o then struck by s o else o) x (question_at n asked)

-- the fault that there is after a strike
pub fault-struck : (a : Answer) (by : ℕ) (s : Strike) (asked : List Open) (o : Open) → HaveOwnNumbers asked → open_at a asked ≡ Some o
    → fault_at a.read (struck_at a by s asked) ≡ fault_of (struck by s o).strikes
fault-struck a by s asked o own found =
    let now : question_at a.read (struck_at a by s asked) ≡ Some (struck by s o) =
    struck_question a a.read by s asked ∙ ap (option_map (λ (x : Open). if answers a x then struck by s x else x)) (question-open a asked o own found)
    ∙ ap (λ b. Some (if b then struck by s o else o)) (find_passes (λ x. answers a x) asked o found) in
    ap (option_and_then (λ (x : Open). fault_of x.strikes)) now
