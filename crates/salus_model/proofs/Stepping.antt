-- How the definitions go on by one step of the history.
use Rattle.std.proofs.Common.{◌≡◌, ℕ, Bool, true, false, ◌||◌, if◌then◌else◌, List, [], ◌∷◌, Option, None, Some, refl, ap, append-nil, arith}
use Rattle.std.specs.Option.{option_or}
use Rattle.salus_types.specs.Volume.{Shape}
use Rattle.schedule_text.specs.declared.schedule.Event.TheVariants as event
use Rattle.salus_types.specs.declared.names.Sender.TheVariants as sender
use Rattle.salus_model.specs.declared.trace.Request.TheVariants as request
use Rattle.salus_model.specs.declared.trace.Handed.TheVariants as handed
use Rattle.salus_model.specs.declared.trace.TraceStep.{TraceStep}
use Rattle.salus_model.specs.Judge.{Judge}
use Rattle.salus_model.specs.Following.{Follows, FollowsFrom}
use Rattle.salus_model.specs.Hearing.{Silence, Past, since, phase_of}
use Rattle.salus_model.specs.Waiting.{all_taken, live, unended, Question}
use Rattle.salus_model.specs.Answering.{Verdict, verdict_then, is_known, first_strike}

abbrev no_verdict : Option (ℕ × Verdict)
no_verdict = None

none_both : (t : Bool) → (if t then None else None) ≡ no_verdict
none_both true = refl
none_both false = refl

or_false : (b : Bool) → (b || false) ≡ b
or_false true = refl
or_false false = refl

or_none : {A : Type 0} (o : Option A) → option_or o None ≡ o
or_none None = refl
or_none (Some x) = refl

-- a step that tells the client nothing and gives no line, as a node's and a tick are
pub record IsSilent (p : Past) : Type 0 where
  pub news : p.news ≡ Silence
  pub lines : p.lines ≡ []

module _ (p : Past) (history : List Past) (silent : IsSilent p) where
  pub phase-silent : phase_of (p ∷ history) ≡ phase_of history
  unfolding phase_of
  phase-silent = rw (silent.news, silent.lines) refl

  pub live-silent : (judge : Judge) → live (p ∷ history) judge ≡ live history judge
  unfolding live since all_taken
  live-silent judge = rw (silent.lines, silent.news) (ap (unended judge) (append-nil _))

  pub verdict-silent : (shape : Shape) (q : Question) → verdict_then shape q history p ≡ None
  verdict-silent shape q = rw silent.news (none_both _)

  pub is_known-silent : (shape : Shape) (q : Question) → is_known shape q (p ∷ history) ≡ is_known shape q history
  unfolding is_known
  is_known-silent shape q = rw (verdict-silent shape q) (or_false _)

  pub first_strike-silent : (shape : Shape) (q : Question) (r : ℕ) → first_strike shape q r (p ∷ history) ≡ first_strike shape q r history
  unfolding first_strike
  first_strike-silent shape q r = rw (verdict-silent shape q) (or_none _)

-- a schedule of a read and a drop that is skipped is followed by one step
abbrev one_step : TraceStep
one_step = record { event = 1; party = sender.Client; handed = handed.Asked (request.Read 0); sent = 0; failed = false; loaded = None }

pub follows-read : Follows (event.Read 0 ∷ event.Drop 9 ∷ []) [] (one_step ∷ [])
unfolding FollowsFrom
follows-read = (
  one_step ∷ [],
  [],
  refl,
  record {
    step = one_step;
    only = refl;
    is_step = record {
      number = refl;
      addressed = refl;
      hands_it = refl;
      more = omega arith;
      there = omega arith;
      own = λ k above within. absurd (omega (arith, above, within));
      loaded_then = refl;
    };
  },
  ([], [], refl, refl, (refl, refl)),
)
