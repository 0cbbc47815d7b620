-- The questions of the write at the head: their numbers, and what they reach.
use Rattle.std.proofs.Common.{◌≡◌, ◌∙◌, ℕ, ◌+◌, ◌*◌, ◌^◌, ◌<◌, ◌≤◌, ◌==◌, ◌||◌, ◌&&◌, nat_eq, Bool, true, false, if◌then◌else◌, List, [], ◌∷◌, ◌++◌, map, length, take, None, Some, refl, sym, ap, ap₂, subst, arith, append_assoc, append-nil}
use Rattle.std.specs.Prelude.{find, flat_map}
use Rattle.std.specs.List.{list_all}
use Rattle.std.proofs.lemmas.Bool.{true≢false}
use Rattle.std.proofs.lemmas.List.{length-map, map-append}
use Rattle.std.proofs.lemmas.Grind.{flat_map-append}
use Rattle.salus_types.specs.Volume.{Shape}
use Rattle.list_lemmas.proofs.Tests.{unequal_up, unequal}
use Rattle.salus_model.specs.declared.trace.Request.{Request}
use Rattle.salus_model.specs.declared.trace.Request.TheVariants as request
use Rattle.salus_model.specs.Waiting.{Taken, Question, is_write, left_of, questions, questions_from, questions_of}
use Rattle.client_rules.specs.State.{Open, Serving}
use Rattle.client_rules.specs.Tables.{asks, fresh, line_of, read_questions, head_questions}
use Rattle.salus_types.specs.declared.records.Out.{Out}
use Rattle.posting.specs.Letters.{out_of_letter}
use Rattle.verified_read.specs.Table.{question_at}

-- one more question
pub questions_snoc : (v j : ℕ) (bs : List ℕ) (b : ℕ) → questions_from v j (bs ++ b ∷ []) ≡ questions_from v j bs ++ record { event = v; number = 2 ^ 32 * (j + length bs) + v; block = b } ∷ []
unfolding questions_from
questions_snoc v j [] b = ap (λ n. record { event = v; number = 2 ^ 32 * n + v; block = b } ∷ []) (omega arith)
questions_snoc v j (x ∷ bs) b =
    ap (λ l. record { event = v; number = 2 ^ 32 * j + v; block = x } ∷ l)
    (questions_snoc v (j + 1) bs b ∙ ap (λ n. questions_from v (j + 1) bs ++ record { event = v; number = 2 ^ 32 * n + v; block = b } ∷ []) (omega arith))

-- a later number is free
pub number_free : (shape : Shape) (v j k : ℕ) (bs : List ℕ) → j + length bs ≤ k → question_at (2 ^ 32 * k + v) (map (fresh shape) (questions_from v j bs)) ≡ None
unfolding questions_from
number_free shape v j k [] later = refl
number_free shape v j k (b ∷ bs) later =
    ap (λ t. if t then Some (fresh shape (record { event = v; number = 2 ^ 32 * j + v; block = b })) else question_at (2 ^ 32 * k + v) (map (fresh shape) (questions_from v (j + 1) bs)))
    (unequal (2 ^ 32 * j + v) (2 ^ 32 * k + v) (omega arith))
    ∙ number_free shape v (j + 1) k bs (omega arith)

pub length_questions : (v j : ℕ) (bs : List ℕ) → length (questions_from v j bs) ≡ length bs
unfolding questions_from
length_questions v j [] = refl
length_questions v j (b ∷ bs) = let rest = length_questions v (j + 1) bs in omega arith

-- ---- the line

pub line_again : (rs : List Taken) → line_of (line_of rs) ≡ line_of rs
unfolding line_of
line_again [] = refl
line_again (r ∷ rs) = by_write (is_write r.request) refl (line_again rs)
  where
    by_write : (t : Bool) → is_write r.request ≡ t → line_of (line_of rs) ≡ line_of rs → line_of (if t then r ∷ rs else line_of rs) ≡ (if t then r ∷ rs else line_of rs)
    by_write true is rest = ap (λ t. if t then r ∷ rs else line_of rs) is
    by_write false is rest = rest

length_line : (rs : List Taken) → length (line_of rs) ≤ length rs
unfolding line_of
length_line [] = omega arith
length_line (r ∷ rs) = by_write (is_write r.request) (length_line rs)
  where
    by_write : (t : Bool) → length (line_of rs) ≤ length rs → length (if t then r ∷ rs else line_of rs) ≤ length (r ∷ rs)
    by_write true rest = omega arith
    by_write false rest = omega arith

-- where a write heads the line, its first request is one
pub first_writes : (r : Taken) (rs : List Taken) → line_of (r ∷ rs) ≡ r ∷ rs → is_write r.request ≡ true
unfolding line_of
first_writes r rs heads = by_write (is_write r.request) refl heads
  where
    by_write : (t : Bool) → is_write r.request ≡ t → (if t then r ∷ rs else line_of rs) ≡ r ∷ rs → is_write r.request ≡ true
    by_write true is e = is
    by_write false is e = absurd (omega (arith, length_line rs, ap length e))

-- the questions are those of the reads that leave, and then those of the head
pub questions_parted : (shape : Shape) (rs : List Taken) → questions shape rs ≡ read_questions (left_of rs) ++ head_questions shape (line_of rs)
unfolding questions left_of line_of
questions_parted shape [] = refl
questions_parted shape (r ∷ rs) = by_request r.event r.request (questions_parted shape rs)
  where
    by_request : (v : ℕ) (x : Request) → questions shape rs ≡ read_questions (left_of rs) ++ head_questions shape (line_of rs)
        → (if is_write x then questions_of shape v x else questions_of shape v x ++ questions shape rs)
        ≡ read_questions (if is_write x then [] else record { event = v; request = x } ∷ left_of rs) ++ head_questions shape (if is_write x then record { event = v; request = x } ∷ rs else line_of rs)
    by_request v (request.Write batch) rest = refl
    by_request v (request.Read b) rest = ap (λ l. record { event = v; number = v; block = b } ∷ l) rest
    by_request v request.Barrier rest = rest
    by_request v (request.Restart e) rest = rest
    by_request v (request.Reassign e g) rest = rest

-- where a write heads the line, nothing but a write asks
pub no_write_heads : (r : Taken) (rs line : List Taken) (P : Type 0) → line ≡ r ∷ rs → line_of line ≡ line → is_write r.request ≡ false → P
no_write_heads r rs line P is heads not_write =
    absurd (true≢false (sym (first_writes r rs (sym (ap line_of is) ∙ heads ∙ is)) ∙ not_write))

-- ---- one more of the blocks is asked for

module _ (shape : Shape) (v i b n : ℕ) (bs : List ℕ) (more : take (i + 1) bs ≡ take i bs ++ b ∷ []) (count : length (take i bs) ≡ i) (number : n ≡ 2 ^ 32 * (i + 1) + v) where
  questions_more : questions_from v 1 (take (i + 1) bs) ≡ questions_from v 1 (take i bs) ++ record { event = v; number = n; block = b } ∷ []
  questions_more =
      ap (questions_from v 1) more ∙ questions_snoc v 1 (take i bs) b
      ∙ ap (λ m. questions_from v 1 (take i bs) ++ record { event = v; number = m; block = b } ∷ []) (ap (λ m. 2 ^ 32 * m + v) (omega (arith, count)) ∙ sym number)

  pub asked_more : (asked new : List Open) → asked ≡ map (fresh shape) (questions_from v 1 (take i bs)) → new ≡ asked ++ fresh shape (record { event = v; number = n; block = b }) ∷ []
      → new ≡ map (fresh shape) (questions_from v 1 (take (i + 1) bs))
  asked_more asked new before now =
      now ∙ ap (λ l. l ++ fresh shape (record { event = v; number = n; block = b }) ∷ []) before
      ∙ sym (ap (map (fresh shape)) questions_more ∙ map-append (fresh shape) (questions_from v 1 (take i bs)) (record { event = v; number = n; block = b } ∷ []))

  pub outs_more : (c : Serving) (first before after : List Out) → before ≡ first ++ map out_of_letter (flat_map (λ q. asks shape c q) (questions_from v 1 (take i bs)))
      → after ≡ before ++ map out_of_letter (asks shape c (record { event = v; number = n; block = b }))
      → after ≡ first ++ map out_of_letter (flat_map (λ q. asks shape c q) (questions_from v 1 (take (i + 1) bs)))
  outs_more c first before after was now =
      let q : Question = record { event = v; number = n; block = b } in
      now ∙ ap (λ l. l ++ map out_of_letter (asks shape c q)) was
      ∙ append_assoc first (map out_of_letter (flat_map (λ x. asks shape c x) (questions_from v 1 (take i bs)))) (map out_of_letter (asks shape c q))
      ∙ ap (λ l. first ++ l)
      (sym (map-append out_of_letter (flat_map (λ x. asks shape c x) (questions_from v 1 (take i bs))) (asks shape c q))
      ∙ ap (map out_of_letter)
      (ap (λ l. flat_map (λ x. asks shape c x) (questions_from v 1 (take i bs)) ++ l) (sym (append-nil (asks shape c q)))
      ∙ sym (ap (flat_map (λ x. asks shape c x)) questions_more ∙ flat_map-append (λ x. asks shape c x) (questions_from v 1 (take i bs)) (q ∷ []))))

pub few_asked : (shape : Shape) (v i : ℕ) (bs : List ℕ) → length (map (fresh shape) (questions_from v 1 (take i bs))) ≡ length (take i bs)
few_asked shape v i bs = length-map (questions_from v 1 (take i bs)) (fresh shape) ∙ length_questions v 1 (take i bs)
