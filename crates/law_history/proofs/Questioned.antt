-- What is asked of the servers: the block of a read that has left, or one of the first write.
use Rattle.std.proofs.Common.{◌≡◌, ◌⊎◌, ℕ, zero, suc, ◌+◌, ◌*◌, ◌^◌, ◌<◌, ◌≤◌, ◌∙◌, Bool, true, false, if◌then◌else◌, List, [], ◌∷◌, ◌++◌, inl, inr, refl, ap, sym, arith}
use Rattle.std.proofs.lemmas.Bool.{false≢true}
use Rattle.std.proofs.lemmas.Nat.{pow_pos}
use native.Mathlib.Nat.{mul-suc}
use Rattle.salus_types.specs.Volume.{Shape}
use Rattle.merkle_region.specs.Tree.{IsAmong}
use Rattle.merkle_region.proofs.Membership.{among_either}
use Rattle.salus_model.specs.declared.trace.Request.{Request}
use Rattle.salus_model.specs.declared.trace.Request.TheVariants as request
use Rattle.volume_model.specs.Contents.{Batch}
use Rattle.volume_model.specs.Parts.{blocks_of}
use Rattle.salus_model.specs.Waiting.{Taken, is_write, Question, questions_from, questions_of, questions}
use Rattle.law_history.proofs.Joined.{Ascends, ascends_later}

-- the question of a read has the event as its number, and one of a write hasn't
abbrev pub IsAskedBy : Request → Question → Type 0
IsAskedBy r q = ((r ≡ request.Read q.block) × (q.number ≡ q.event)) ⊎ ((batch : Batch) × (r ≡ request.Write batch) × (q.number ≡ q.event → ⊥))

above_own : (k i v : ℕ) → 0 < k → 0 < i → k * i + v ≡ v → ⊥
above_own k zero v big positive e = absurd (omega arith)
above_own k (suc i) v big positive e = let whole : k * suc i ≡ k * i + k = mul-suc k i in absurd (omega arith)

numbered_from : (v : ℕ) (bs : List ℕ) (j : ℕ) (q : Question) → IsAmong q (questions_from v j bs) → (q.event ≡ v) × ((i : ℕ) × (j ≤ i) × (q.number ≡ 2 ^ 32 * i + v))
unfolding questions_from
numbered_from v [] j q m = absurd m
numbered_from v (b ∷ bs) j q (inl e) = (ap (λ x. x.event) e, (j, omega arith, ap (λ x. x.number) e))
numbered_from v (b ∷ bs) j q (inr m) =
    let rest = numbered_from v bs (j + 1) q m in
    let above = rest.1.1 in
    (rest.0, (rest.1.0, omega arith, rest.1.2))

asked_by : (shape : Shape) (v : ℕ) (r : Request) (q : Question) → IsAmong q (questions_of shape v r) → (q.event ≡ v) × IsAskedBy r q
asked_by shape v (request.Write batch) q m =
    let from = numbered_from v (blocks_of shape batch) 1 q m in
    let above = from.1.1 in
    (from.0, inr (batch, refl, λ e. above_own (2 ^ 32) from.1.0 v (pow_pos 32) (omega arith) (sym from.1.2 ∙ (e ∙ from.0))))
asked_by shape v (request.Read b) q (inl e) =
    (ap (λ x. x.event) e, inl (ap (λ x. request.Read x.block) (sym e), ap (λ x. x.number) e ∙ sym (ap (λ x. x.event) e)))
asked_by shape v (request.Read b) q (inr m) = absurd m
asked_by shape v request.Barrier q m = absurd m
asked_by shape v (request.Restart e) q m = absurd m
asked_by shape v (request.Reassign e g) q m = absurd m

-- a question of a request among these; each write among them is the asking one or a later one
pub record IsQuestion (requests : List Taken) (q : Question) : Type 0 where
  pub taken : Taken
  pub among : IsAmong taken requests
  pub event : q.event ≡ taken.event
  pub by : IsAskedBy taken.request q
  pub first : (r : Taken) → IsAmong r requests → is_write r.request ≡ true → (r.event ≡ q.event) ⊎ (q.event < r.event)

question_here : (shape : Shape) (low : ℕ) (r : Taken) (rs : List Taken) → Ascends low (r ∷ rs) → (q : Question)
    → IsAmong q (questions_of shape r.event r.request) → IsQuestion (r ∷ rs) q
question_here shape low r rs up q m =
    let by = asked_by shape r.event r.request q m in
    record {
      taken = r;
      among = inl refl;
      event = by.0;
      by = by.1;
      first = λ x among write. elim among [
        | inl e ↦ inl (ap (λ y. y.event) e ∙ sym by.0)
        | inr later ↦ (let above = ascends_later rs r.event x up.1 later in let same = by.0 in inr (omega arith))
      ];
    }

question_behind : (r : Taken) (rs : List Taken) (q : Question) → is_write r.request ≡ false → IsQuestion rs q → IsQuestion (r ∷ rs) q
question_behind r rs q reads of = record {
  taken = of.taken;
  among = inr of.among;
  event = of.event;
  by = of.by;
  first = λ x among write. elim among [
    | inl e ↦ absurd (false≢true (sym reads ∙ (sym (ap (λ y. is_write y.request) e) ∙ write)))
    | inr later ↦ of.first x later write
  ];
}

question_step : (shape : Shape) (low : ℕ) (r : Taken) (rs : List Taken) → Ascends low (r ∷ rs) → (q : Question) (t : Bool) → is_write r.request ≡ t
    → (IsAmong q (questions shape rs) → IsQuestion rs q)
    → IsAmong q (if t then questions_of shape r.event r.request else questions_of shape r.event r.request ++ questions shape rs) → IsQuestion (r ∷ rs) q
question_step shape low r rs up q true is rest m = question_here shape low r rs up q m
question_step shape low r rs up q false is rest m =
    elim (among_either q (questions_of shape r.event r.request) (questions shape rs) m) [
      | inl here ↦ question_here shape low r rs up q here
      | inr later ↦ question_behind r rs q is (rest later)
    ]

pub question : (shape : Shape) (rs : List Taken) (low : ℕ) → Ascends low rs → (q : Question) → IsAmong q (questions shape rs) → IsQuestion rs q
unfolding questions
question shape [] low up q m = absurd m
question shape (r ∷ rs) low up q m =
    question_step shape low r rs up q (is_write r.request) refl (λ more. question shape rs r.event up.1 q more) m
