-- Lines that are legal only add batches to what is known: so the abstract client goes on as well.
use Rattle.std.proofs.Common.{◌≡◌, ℕ, zero, ◌∙◌, List, [], ◌∷◌, ◌++◌, Option, None, Some, inl, inr, refl, ap, sym, subst, arith, append-nil}
use Rattle.std.proofs.lemmas.List.{map-append}
use Rattle.salus_types.specs.Volume.{Shape}
use Rattle.schedule_text.specs.declared.schedule.Event.{Event}
use Rattle.printed_lines.specs.declared.line.Line.{Line}
use Rattle.printed_lines.specs.declared.line.Line.TheVariants as line
use Rattle.volume_model.specs.Contents.{Batch}
use Rattle.volume_model.specs.Parts.{Session, touched_by}
use Rattle.salus_model.specs.Judge.{Judge, known_at, event_at, batch_of, judged, judged_all, IsLegalLine, AlongLines}
use Rattle.salus_model.specs.Hearing.{Past, judge_of}
use Rattle.law_lemmas.proofs.Growing.{extended, going_still, Grows, grows_on, going-grows}
use Rattle.law_lemmas.proofs.Settled.{stage-grows, open-grows}
use Rattle.law_lemmas.proofs.Owned.{known-session}
use Rattle.law_prefix.specs.World as abstract
use Rattle.kept_model.specs.Batches.{touching, list_of, start_of}
use Rattle.kept_model.specs.Phases.{IsKnown, IsClientOf}
use Rattle.law_phases.specs.Going.{GoesOn}
use Rattle.law_phases.specs.Opening.{AreCountable}
use Rattle.law_phases.proofs.Sees.{Knows}

module _ (shape : Shape) (events : List Event) where
  still_grows : (judge after : Judge) → after.now ≡ judge.now → after.others ≡ judge.others → after.staged ≡ judge.staged → after.opened ≡ judge.opened → Grows judge after
  still_grows judge after now others staged opened = going-grows judge after (going_still judge after now others staged opened)

  line_grows : (judge : Judge) (l : Line) → IsLegalLine shape events judge l → Grows judge (judged events judge l)
  line_grows judge (line.Submit v s) legal =
      going-grows judge (judged events judge (line.Submit v s)) (record { more = batch_of (event_at events v); now = refl; others = refl; staged = refl; opened = refl })
  line_grows judge (line.Ack s) legal = still_grows judge (judged events judge (line.Ack s)) refl refl refl refl
  line_grows judge (line.Read v b x) legal = still_grows judge (judged events judge (line.Read v b x)) refl refl refl refl
  line_grows judge (line.Fault v b strikes) legal = still_grows judge (judged events judge (line.Fault v b strikes)) refl refl refl refl
  line_grows judge (line.Barrier v s) legal = still_grows judge (judged events judge (line.Barrier v s)) refl refl refl refl
  line_grows judge (line.Refused v cause) legal = still_grows judge (judged events judge (line.Refused v cause)) refl refl refl refl
  line_grows judge (line.Skip v k) legal = still_grows judge (judged events judge (line.Skip v k)) refl refl refl refl
  line_grows judge (line.Stage e f s) legal = stage-grows events judge e f s legal
  line_grows judge (line.Open e) legal = open-grows judge e
  line_grows judge (line.Lost e) legal = still_grows judge (judged events judge (line.Lost e)) refl refl refl refl

  pub lines_grow : (lines : List Line) (judge : Judge) → AlongLines (IsLegalLine shape events) events judge lines → Grows judge (judged_all events judge lines)
  unfolding AlongLines judged_all
  lines_grow [] judge legal = going-grows judge judge (going_still judge judge refl refl refl refl)
  lines_grow (l ∷ lines) judge legal = grows_on judge (judged events judge l) (judged_all events (judged events judge l) lines) (line_grows judge l legal.0) (lines_grow lines (judged events judge l) legal.1)

  -- session 0 isn't known
  pub none_blank : (judge : Judge) → AreCountable shape events judge → known_at judge zero ≡ None
  none_blank judge all = by (known_at judge zero) refl where
    by : (o : Option Session) → known_at judge zero ≡ o → known_at judge zero ≡ None
    by None at = at
    by (Some known) at =
        let positive = (all.each known zero at).positive in
        let number : known.session ≡ zero = known-session judge zero known at in
        absurd (omega (arith, positive, number))

  pub knows_on : (a b : Judge) (c d : abstract.Client) → Grows a b → known_at a zero ≡ None → known_at b zero ≡ None → Knows shape a c → Knows shape b d → GoesOn c d
  knows_on a b c d grows blank_a blank_b first second = record {
    lists = λ e m. longer e (first.there e m);
    starts = λ e m. same_start e (first.there e m);
    known = λ e m. second.back e (still_known e (first.there e m));
  }
    where
      still_known : (e : ℕ) → IsKnown a e → IsKnown b e
      still_known e (inl zero_is) = inl zero_is
      still_known e (inr known) = let grown = grows known.0 e known.1 in inr (extended known.0 grown.0, grown.1)

      longer : (e : ℕ) → IsKnown a e → (more : List (List ℕ)) × (d.lists e ≡ c.lists e ++ more)
      longer e (inl zero_is) = (
        [],
        second.lists e ∙ (ap (list_of shape) (ap (known_at b) zero_is ∙ blank_b)
            ∙ (sym (first.lists e ∙ ap (list_of shape) (ap (known_at a) zero_is ∙ blank_a)) ∙ sym (append-nil (c.lists e)))),
      )
      longer e (inr known) =
          let grown = grows known.0 e known.1 in (
            touching shape grown.0,
            second.lists e ∙ (ap (list_of shape) grown.1
                ∙ (map-append (λ (b : Batch). touched_by shape b) known.0.list grown.0
                ∙ ap (λ l. l ++ touching shape grown.0) (sym (first.lists e ∙ ap (list_of shape) known.1)))),
          )

      same_start : (e : ℕ) → IsKnown a e → d.starts e ≡ c.starts e
      same_start e (inl zero_is) =
          second.starts e ∙ (ap start_of (ap (known_at b) zero_is ∙ blank_b) ∙ sym (first.starts e ∙ ap start_of (ap (known_at a) zero_is ∙ blank_a)))
      same_start e (inr known) =
          let grown = grows known.0 e known.1 in
          second.starts e ∙ (ap start_of grown.1 ∙ sym (first.starts e ∙ ap start_of known.1))

  -- the abstract client before and after a step of the history
  pub client_on : (history : List Past) (p : Past) (c d : abstract.Client) → IsClientOf shape events history c → IsClientOf shape events (p ∷ history) d
      → p.before ≡ judge_of shape events history → AlongLines (IsLegalLine shape events) events p.before p.lines
      → AreCountable shape events p.before → AreCountable shape events (judge_of shape events (p ∷ history)) → GoesOn c d
  client_on history p c d before after at legal many more =
      knows_on p.before (judge_of shape events (p ∷ history)) c d (lines_grow p.lines p.before legal) (none_blank p.before many) (none_blank (judge_of shape events (p ∷ history)) more)
      (subst (λ j. Knows shape j c) (sym at) (record { lists = before.lists; starts = before.starts; there = before.known_there; back = before.known_back }))
      (record { lists = after.lists; starts = after.starts; there = after.known_there; back = after.known_back })
