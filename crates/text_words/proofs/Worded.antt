-- The words that are cut are the words of the line, and no others are.
use Rattle.std.proofs.Common.{◌≡◌, ◌≢◌, ℕ, ◌+◌, ◌-◌, ◌≤◌, Bool, true, false, cond, eqb, List, [], ◌∷◌, ◌++◌, length, map, take, drop, Bor, refl, sym, ap, subst, ◌∙◌, append_assoc}
use Rattle.std.specs.Prelude.{None, Some, position}
use Rattle.std.specs.List.{AllByRecursion, join_with_byte, slice_split, onto_first, count_by}
use Rattle.std.proofs.lemmas.Bool.{eqb-false, ne_eqb, ltb-true}
use Rattle.std.proofs.lemmas.List.{map-append, take_all, take_rest}
use Rattle.std.proofs.lemmas.List.Splits.{join_with_byte-slice_split, length-slice_split, slice_split_first}
use Rattle.text_words.specs.Reading.{front, words_of}
use Rattle.text_words.specs.Grammar.{Lacks, IsWords}
use Rattle.text_words.proofs.Settled.{pick_false}
use Rattle.text_words.proofs.Stepping.{front-none}
use Rattle.text_words.proofs.Spaced.{front_lacks}

abbrev cut : List ℕ → List (List ℕ)
cut line = slice_split (λ b. eqb b 32) line

onto_lacks : (b : ℕ) (words : List (List ℕ)) → b ≢ 32 → AllByRecursion (Lacks 32) words → AllByRecursion (Lacks 32) (onto_first b words)
onto_lacks b [] other w = ((other, tt), tt)
onto_lacks b (word ∷ words) other w = ((other, w.0), w.1)

lacks_step : (b : ℕ) (words : List (List ℕ)) (t : Bool) → eqb b 32 ≡ t → AllByRecursion (Lacks 32) words
    → AllByRecursion (Lacks 32) (cond t ([] ∷ words) (onto_first b words))
lacks_step b words true e w = (tt, w)
lacks_step b words false e w = onto_lacks b words (eqb-false b 32 e) w

words_lack : (line : List ℕ) → AllByRecursion (Lacks 32) (cut line)
words_lack [] = (tt, tt)
words_lack (b ∷ line) = lacks_step b (cut line) (eqb b 32) refl (words_lack line)

pub words-sound : (line : List ℕ) → IsWords line (words_of line)
unfolding words_of
words-sound line = record { each = words_lack line; joined = join_with_byte-slice_split 32 line }

pub words-are : (line : List ℕ) (words : List (List ℕ)) → words ≡ words_of line → IsWords line words
words-are line words e = subst (IsWords line) (sym e) (words-sound line)

last_word : (word : List ℕ) → Lacks 32 word → cut word ≡ word ∷ []
last_word [] w = refl
last_word (b ∷ word) w = pick_false (eqb b 32) _ _ (ne_eqb b 32 w.0) ∙ ap (onto_first b) (last_word word w.1)

word_again : (word rest : List ℕ) → Lacks 32 word → cut (word ++ 32 ∷ rest) ≡ word ∷ cut rest
word_again [] rest w = refl
word_again (b ∷ word) rest w = pick_false (eqb b 32) _ _ (ne_eqb b 32 w.0) ∙ ap (onto_first b) (word_again word rest w.1)

words_again : (word : List ℕ) (words : List (List ℕ)) → AllByRecursion (Lacks 32) (word ∷ words) → cut (join_with_byte 32 (word ∷ words)) ≡ word ∷ words
words_again word [] w = last_word word w.0
words_again word (next ∷ words) w = word_again word (join_with_byte 32 (next ∷ words)) w.0 ∙ ap (λ ws. word ∷ ws) (words_again next words w.1)

pub words-only : (line word : List ℕ) (words : List (List ℕ)) → IsWords line (word ∷ words) → words_of line ≡ word ∷ words
unfolding words_of
words-only line word words w = ap cut (sym w.joined) ∙ words_again word words w.each

-- the first word is what stands before the first space
front_cut : (b : ℕ) (line : List ℕ) (words : List (List ℕ)) (t : Bool) → cut line ≡ front 32 line ∷ words
    → cond t ([] ∷ cut line) (onto_first b (cut line)) ≡ cond t [] (b ∷ front 32 line) ∷ cond t (cut line) words
front_cut b line words true e = refl
front_cut b line words false e = ap (onto_first b) e

cut_front : (line : List ℕ) → (words : List (List ℕ)) × (cut line ≡ front 32 line ∷ words)
unfolding front
cut_front [] = ([], refl)
cut_front (b ∷ line) = let p = cut_front line in (cond (eqb b 32) (cut line) p.0, front_cut b line p.0 (eqb b 32) p.1)

pub words_front : (line : List ℕ) → (words : List (List ℕ)) × (words_of line ≡ front 32 line ∷ words)
unfolding words_of
words_front line = cut_front line

-- ---- the steps of the two loops

pub spaces_and_one : (line : List ℕ) (spaces i : ℕ) → spaces ≡ count_by (λ b. eqb b 32) (take i line) → length line ≤ i → spaces + 1 ≡ length (words_of line)
unfolding words_of
spaces_and_one line spaces i counted far =
    ap (λ n. n + 1) (counted ∙ ap (count_by (λ b. eqb b 32)) (take_all i line far)) ∙ sym (length-slice_split (λ b. eqb b 32) line)

is_there : (t : Bool) (m end : ℕ) → Some end ≡ cond t (Some m) None → (t ≡ true) × (end ≡ m)
is_there true m end h = (refl, cc)
is_there false m end h = absurd (cc)

words_found : (xs : List ℕ) (end : ℕ) → Some end ≡ position (λ b. eqb b 32) xs → words_of xs ≡ take end xs ∷ words_of (drop (end + 1) xs)
unfolding words_of
words_found xs end h =
    let there = is_there _ _ end h in
    slice_split_first (λ b. eqb b 32) xs 0 (ltb-true _ _ there.0) ∙ ap (λ n. take n xs ∷ cut (drop (n + 1) xs)) (sym there.1)

words_none : (xs : List ℕ) → None ≡ position (λ b. eqb b 32) xs → words_of xs ≡ xs ∷ []
unfolding words_of
words_none xs h = last_word xs (subst (Lacks 32) (sym (front-none 32 xs h)) (front_lacks 32 xs))

pub split-more : (words : List (Bor (List ℕ))) (word : Bor (List ℕ)) (xs : List ℕ) (end : ℕ) → word.now ≡ take end xs
    → Some end ≡ position (λ b. eqb b 32) xs
    → map (λ w. w.now) (words ++ word ∷ []) ++ words_of (take (length xs - (end + 1)) (drop (end + 1) xs)) ≡ map (λ w. w.now) words ++ words_of xs
split-more words word xs end is h =
    ap (λ rest. map (λ w. w.now) (words ++ word ∷ []) ++ words_of rest) (take_rest xs (end + 1))
    ∙ (ap (λ ws. ws ++ words_of (drop (end + 1) xs)) (map-append (λ w. w.now) words (word ∷ []))
    ∙ (append_assoc (map (λ w. w.now) words) (word.now ∷ []) (words_of (drop (end + 1) xs))
    ∙ ap (λ ws. map (λ w. w.now) words ++ ws) (ap (λ w. w ∷ words_of (drop (end + 1) xs)) is ∙ sym (words_found xs end h))))

pub split-end : (words : List (Bor (List ℕ))) (word : Bor (List ℕ)) → None ≡ position (λ b. eqb b 32) word.now
    → map (λ w. w.now) (words ++ word ∷ []) ≡ map (λ w. w.now) words ++ words_of word.now
split-end words word h = map-append (λ w. w.now) words (word ∷ []) ∙ ap (λ ws. map (λ w. w.now) words ++ ws) (sym (words_none word.now h))
