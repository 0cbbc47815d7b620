-- What leaves the waiting line: nothing where a write stands at its head, and else its oldest request.
use Rattle.std.proofs.Common.{◌≡◌, ◌∙◌, Bool, true, false, if◌then◌else◌, List, [], ◌∷◌, ◌++◌, Option, None, Some, length, drop, refl, ap, sym, arith}
use Rattle.std.specs.Prelude.{MatchOption, IfNone, option_to_list}
use Rattle.salus_model.specs.Waiting.{Taken, is_write, left_of}
use Rattle.client_rules.specs.Tables.{line_of}
use Rattle.waiting_line.specs.Heading.{is_held_up}

pub held-left : (line : List Taken) → is_held_up line ≡ true → left_of line ≡ []
unfolding left_of
held-left [] e = refl
held-left (t ∷ line) e = ap (λ b. if b then [] else t ∷ left_of line) e

pub held-line : (line : List Taken) → is_held_up line ≡ true → line_of line ≡ line
unfolding line_of
held-line [] e = refl
held-line (t ∷ line) e = ap (λ b. if b then t ∷ line else line_of line) e

-- What a queue says where its oldest is taken out: it stood before the rest, and all but the first are left.
abbrev pub Shortens : List Taken → List Taken → Option Taken → Type 0
Shortens line rest out = (line ≡ option_to_list out ++ rest) × (rest ≡ drop 1 line)

-- where none is given there was none
was_empty : (line rest : List Taken) → Shortens line rest None → line ≡ []
was_empty [] rest short = refl
was_empty (t ∷ line) rest short = let same : length (t ∷ line) ≡ length line = ap length (short.0 ∙ short.1) in absurd (omega (arith, same))

pub free-left : (items line rest : List Taken) (out : Option Taken) → items ≡ line → Shortens items rest out → is_held_up line ≡ false
    → MatchOption out ((left_of line ≡ []) × (rest ≡ line)) (λ t. left_of line ≡ t ∷ left_of rest)
unfolding left_of
free-left items line rest None view short e =
    (ap left_of (sym view ∙ was_empty items rest short), sym short.0 ∙ view)
free-left items line rest (Some t) view short e =
    let is : line ≡ t ∷ rest = sym view ∙ short.0 in
    ap left_of is ∙ ap (λ b. if b then [] else t ∷ left_of rest) (ap is_held_up (sym is) ∙ e)

pub free-head : (items rest : List Taken) (out : Option Taken) → Shortens items rest out → IfNone out (line_of rest ≡ rest)
unfolding line_of
free-head items rest None short = let none : rest ≡ [] = sym short.0 ∙ was_empty items rest short in ap line_of none ∙ sym none
free-head items rest (Some t) short = tt

pub free-line : (items line rest : List Taken) (out : Option Taken) → items ≡ line → Shortens items rest out → is_held_up line ≡ false → line_of rest ≡ line_of line
unfolding line_of
free-line items line rest None view short e = ap line_of (sym short.0 ∙ view)
free-line items line rest (Some t) view short e =
    let is : line ≡ t ∷ rest = sym view ∙ short.0 in
    sym (ap line_of is ∙ ap (λ b. if b then t ∷ rest else line_of rest) (ap is_held_up (sym is) ∙ e))
