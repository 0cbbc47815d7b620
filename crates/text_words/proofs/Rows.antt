-- The lines that are read are the lines of the text, and no others are.
use Rattle.std.proofs.Common.{◌≡◌, ◌≢◌, ℕ, Bool, true, false, cond, eqb, List, [], ◌∷◌, ◌++◌, refl, sym, ap, subst, ◌∙◌}
use Rattle.std.specs.List.{AllByRecursion, flat_map}
use Rattle.std.proofs.lemmas.Bool.{eqb-true, eqb-false, ne_eqb}
use Rattle.text_words.specs.Reading.{front, past, onto_first_line, lines_left}
use Rattle.text_words.specs.Grammar.{Lacks, ends_line, completed, ended, IsLines}
use Rattle.text_words.proofs.Settled.{pick_false}
use Rattle.text_words.proofs.Stepping.{lines_left_step}

-- ---- no line has a line end in it

onto_lacks : (b : ℕ) (lines : List (List ℕ)) → b ≢ 10 → AllByRecursion (Lacks 10) lines → AllByRecursion (Lacks 10) (onto_first_line b lines)
onto_lacks b [] other w = ((other, tt), tt)
onto_lacks b (line ∷ lines) other w = ((other, w.0), w.1)

lacks_step : (b : ℕ) (lines : List (List ℕ)) (t : Bool) → eqb b 10 ≡ t → AllByRecursion (Lacks 10) lines
    → AllByRecursion (Lacks 10) (cond t ([] ∷ lines) (onto_first_line b lines))
lacks_step b lines true e w = (tt, w)
lacks_step b lines false e w = onto_lacks b lines (eqb-false b 10 e) w

lines_lack : (text : List ℕ) → AllByRecursion (Lacks 10) (lines_left text)
unfolding lines_left
lines_lack [] = tt
lines_lack (b ∷ text) = lacks_step b (lines_left text) (eqb b 10) refl (lines_lack text)

-- ---- the lines with their ends are the text

last_joined : (b : ℕ) (t : Bool) → eqb b 10 ≡ t
    → flat_map ended (cond t ([] ∷ []) (onto_first_line b [])) ≡ cond t (b ∷ []) ((b ∷ []) ++ 10 ∷ [])
last_joined b true e = ap (λ c. c ∷ []) (sym (eqb-true b 10 e))
last_joined b false e = refl

onto_joined : (b : ℕ) (line : List ℕ) (lines : List (List ℕ)) → flat_map ended (onto_first_line b (line ∷ lines)) ≡ b ∷ flat_map ended (line ∷ lines)
onto_joined b line lines = refl

joined_step : (b : ℕ) (line : List ℕ) (lines : List (List ℕ)) (t : Bool) → eqb b 10 ≡ t
    → flat_map ended (cond t ([] ∷ line ∷ lines) (onto_first_line b (line ∷ lines))) ≡ b ∷ flat_map ended (line ∷ lines)
joined_step b line lines true e = ap (λ c. c ∷ flat_map ended (line ∷ lines)) (sym (eqb-true b 10 e))
joined_step b line lines false e = onto_joined b line lines

more_completed : (b : ℕ) (text : List ℕ) (t : Bool) → b ∷ cond t text (text ++ 10 ∷ []) ≡ cond t (b ∷ text) ((b ∷ text) ++ 10 ∷ [])
more_completed b text true = refl
more_completed b text false = refl

lines_joined : (b : ℕ) (text : List ℕ) → flat_map ended (lines_left (b ∷ text)) ≡ completed (b ∷ text)
unfolding lines_left
lines_joined b [] = last_joined b (eqb b 10) refl
lines_joined b (c ∷ text) =
    let there : lines_left (c ∷ text) ≡ front 10 (c ∷ text) ∷ lines_left (past 10 (c ∷ text)) = lines_left_step c text in
    ap (λ ls. flat_map ended (cond (eqb b 10) ([] ∷ ls) (onto_first_line b ls))) there
    ∙ (joined_step b (front 10 (c ∷ text)) (lines_left (past 10 (c ∷ text))) (eqb b 10) refl
    ∙ (ap (λ ls. b ∷ flat_map ended ls) (sym there)
    ∙ (ap (λ l. b ∷ l) (lines_joined c text) ∙ more_completed b (c ∷ text) (ends_line (c ∷ text)))))

-- ---- lines with their ends are read as these lines

line_again : (line : List ℕ) (rest : List ℕ) → Lacks 10 line → lines_left (ended line ++ rest) ≡ line ∷ lines_left rest
unfolding lines_left
line_again [] rest w = refl
line_again (b ∷ line) rest w = pick_false (eqb b 10) _ _ (ne_eqb b 10 w.0) ∙ ap (onto_first_line b) (line_again line rest w.1)

lines_left-nil : lines_left [] ≡ []
unfolding lines_left
lines_left-nil = refl

lines_again : (lines : List (List ℕ)) → AllByRecursion (Lacks 10) lines → lines_left (flat_map ended lines) ≡ lines
lines_again [] w = lines_left-nil
lines_again (line ∷ lines) w = line_again line (flat_map ended lines) w.0 ∙ ap (λ ls. line ∷ ls) (lines_again lines w.1)

-- ---- the relation

empty_lines : IsLines [] ([] ∷ [])
empty_lines = record { each = (tt, tt); joined = refl }

some_lines : (b : ℕ) (text : List ℕ) → IsLines (b ∷ text) (front 10 (b ∷ text) ∷ lines_left (past 10 (b ∷ text)))
some_lines b text = subst (IsLines (b ∷ text)) (lines_left_step b text) (record { each = lines_lack (b ∷ text); joined = lines_joined b text })

pub lines-sound : (text : List ℕ) → IsLines text (front 10 text ∷ lines_left (past 10 text))
unfolding front past lines_left
lines-sound [] = empty_lines
lines-sound (b ∷ text) = some_lines b text

pub lines-only : (text : List ℕ) (lines : List (List ℕ)) → IsLines text lines → lines ≡ front 10 text ∷ lines_left (past 10 text)
lines-only text lines w =
    let read = lines-sound text in
    sym (lines_again lines w.each) ∙ (ap lines_left (w.joined ∙ sym read.joined) ∙ lines_again (front 10 text ∷ lines_left (past 10 text)) read.each)
