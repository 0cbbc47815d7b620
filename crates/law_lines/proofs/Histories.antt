-- How the history goes on by one step of a serving client.
use Rattle.std.proofs.Common.{◌≡◌, ℕ, Bool, true, false, not, cond, ◌&&◌, ◌||◌, ◌∙◌, List, [], ◌∷◌, ◌++◌, map, None, refl, ap, ap₂, append-nil}
use Rattle.std.specs.Prelude.{fold}
use Rattle.std.specs.List.{list_any, list_all, range_with_len}
use Rattle.salus_types.specs.Volume.{Shape}
use Rattle.printed_lines.specs.declared.line.Line.{Line}
use Rattle.printed_lines.specs.declared.line.Line.TheVariants as line
use Rattle.salus_model.specs.declared.trace.TraceStep.{TraceStep}
use Rattle.salus_model.specs.Judge.{Judge}
use Rattle.salus_model.specs.Hearing.{News, Past, since, news_since, opens, is_open_line, is_stage_line, is_refused_line, Phase, phase_by_line}
use Rattle.salus_model.specs.Waiting.{Taken, taken_in, all_taken, unended, live, has_ended, Question}
use Rattle.salus_model.specs.Answering.{verdict_in, verdict_then, is_known, first_strike}
use Rattle.list_lemmas.proofs.Tests.{by_test, or_false, or_none, same_either}
use Rattle.law_lines.specs.Mirror.{IsUntouched, open_of}

-- a step with what it told, and its lines
abbrev pub past : TraceStep → News → Judge → List Line → Past
past step news judge lines = record { step = step; news = news; before = judge; lines = lines }

-- ---- lines of a client that goes on serving

abbrev pub is_work : Line → Bool
is_work (line.Submit v s) = true
is_work (line.Ack s) = true
is_work (line.Read v b x) = true
is_work (line.Fault v b strikes) = true
is_work (line.Barrier v s) = true
is_work other = false

-- one of them opens and stages nothing, refuses nothing, and leaves the phase
pub record IsWork (l : Line) : Type 0 where
  pub opens_not : is_open_line l ≡ false
  pub stages_not : is_stage_line l ≡ false
  pub refuses_not : is_refused_line l ≡ false
  pub phase : (phase : Phase) → phase_by_line phase l ≡ phase

work_line : (l : Line) → is_work l ≡ true → IsWork l
work_line (line.Submit v s) is = record { opens_not = refl; stages_not = refl; refuses_not = refl; phase = λ p. refl }
work_line (line.Ack s) is = record { opens_not = refl; stages_not = refl; refuses_not = refl; phase = λ p. refl }
work_line (line.Read v b x) is = record { opens_not = refl; stages_not = refl; refuses_not = refl; phase = λ p. refl }
work_line (line.Fault v b strikes) is = record { opens_not = refl; stages_not = refl; refuses_not = refl; phase = λ p. refl }
work_line (line.Barrier v s) is = record { opens_not = refl; stages_not = refl; refuses_not = refl; phase = λ p. refl }
work_line (line.Refused v cause) is = absurd (cc)
work_line (line.Skip v k) is = absurd (cc)
work_line (line.Stage e f s) is = absurd (cc)
work_line (line.Open e) is = absurd (cc)
work_line (line.Lost e) is = absurd (cc)

pub record AreWork (ls : List Line) : Type 0 where
  pub opens_not : list_any is_open_line ls ≡ false
  pub stages_not : list_any is_stage_line ls ≡ false
  pub refuses_not : list_any is_refused_line ls ≡ false
  pub phase : (phase : Phase) → fold phase_by_line phase ls ≡ phase

work_more : (t : Bool) (l : Line) (ls : List Line) → is_work l ≡ t → (list_all is_work ls ≡ true → AreWork ls) → (t && list_all is_work ls) ≡ true → AreWork (l ∷ ls)
work_more false l ls is rest all = absurd (cc)
work_more true l ls is rest all =
    let w = work_line l is in
    let r = rest all in
    record {
      opens_not = ap₂ (λ x y. x || y) w.opens_not r.opens_not;
      stages_not = ap₂ (λ x y. x || y) w.stages_not r.stages_not;
      refuses_not = ap₂ (λ x y. x || y) w.refuses_not r.refuses_not;
      phase = λ p. ap (λ q. fold phase_by_line q ls) (w.phase p) ∙ r.phase p;
    }

pub work_lines : (ls : List Line) → list_all is_work ls ≡ true → AreWork ls
work_lines [] all = record { opens_not = refl; stages_not = refl; refuses_not = refl; phase = λ p. refl }
work_lines (l ∷ ls) all = work_more (is_work l) l ls refl (work_lines ls) all

-- ---- what is live

pub live-plain : (history : List Past) (p : Past) (judge : Judge) → opens p ≡ false → taken_in p ≡ [] → live (p ∷ history) judge ≡ live history judge
unfolding live since all_taken
live-plain history p judge not_open none = rw (not_open, none) (ap (unended judge) (append-nil (all_taken (since opens history))))

one_more : (judge : Judge) (t : Bool) (r : Taken) (rs : List Taken) → has_ended judge r.event ≡ false → unended judge (rs ++ r ∷ []) ≡ unended judge rs ++ r ∷ []
one_more judge t r [] fresh = rw fresh refl
one_more judge t r (x ∷ rs) fresh =
    by_test (λ t. cond (not t) (x ∷ unended judge (rs ++ r ∷ [])) (unended judge (rs ++ r ∷ [])) ≡ cond (not t) (x ∷ unended judge rs) (unended judge rs) ++ r ∷ []) (has_ended judge x.event)
    (λ _. one_more judge t r rs fresh) (λ _. ap (λ l. x ∷ l) (one_more judge t r rs fresh))

pub live-joined : (history : List Past) (p : Past) (judge : Judge) (r : Taken) → opens p ≡ false → taken_in p ≡ r ∷ [] → has_ended judge r.event ≡ false
    → live (p ∷ history) judge ≡ live history judge ++ r ∷ []
unfolding live since all_taken
live-joined history p judge r not_open one fresh = rw (not_open, one) (one_more judge true r (all_taken (since opens history)) fresh)

pub news-plain : (history : List Past) (p : Past) → opens p ≡ false → news_since opens (p ∷ history) ≡ p.news ∷ news_since opens history
unfolding since
news-plain history p not_open = rw not_open refl

-- ---- what was answered

-- two histories agree on all answers
pub record AgreeOn (shape : Shape) (q : Question) (next history : List Past) : Type 0 where
  pub known : is_known shape q next ≡ is_known shape q history
  pub strikes : (r : ℕ) → first_strike shape q r next ≡ first_strike shape q r history

-- a step that is worth nothing to a question
pub agree-none : (shape : Shape) (q : Question) (history : List Past) (p : Past) → verdict_then shape q history p ≡ None → AgreeOn shape q (p ∷ history) history
unfolding is_known first_strike
agree-none shape q history p none = record { known = rw none (or_false _); strikes = λ r. rw none (or_none _) }

-- news that is worth nothing to any
pub agree-quiet : (shape : Shape) (history : List Past) (p : Past) → ((q : Question) → verdict_in shape p.before q p.news ≡ None) → (q : Question) → AgreeOn shape q (p ∷ history) history
agree-quiet shape history p quiet q = agree-none shape q history p (rw (quiet q) (same_either _ _))

-- an answer that is stale is worth nothing
pub agree-same : (shape : Shape) (q : Question) (next history : List Past) → AgreeOn shape q next history → open_of shape next q ≡ open_of shape history q
agree-same shape q next history a = λ i. record { question = q; strikes = map (λ r. a.strikes r i) (range_with_len 0 shape.replicas) }

pub untouched-agree : (shape : Shape) (q : Question) (next history : List Past) → AgreeOn shape q next history → IsUntouched shape history q → IsUntouched shape next q
untouched-agree shape q next history a u = record { unknown = a.known ∙ u.unknown; unstruck = λ r. a.strikes r ∙ u.unstruck r }
