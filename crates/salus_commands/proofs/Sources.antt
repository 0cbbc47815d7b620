-- From the text that was read to what the source had.
use Rattle.std.proofs.Common.{◌≡◌, ◌<◌, ℕ, List, length, Option, None, Some, IfSome, inl, inr, refl, sym, subst, arith}
use Rattle.salus_io.specs.Told.{IsAtEnd, ConsumesMore}
use Rattle.schedule_text.specs.declared.error.Cause.TheVariants as cause
use Rattle.schedule_text.specs.declared.error.ScheduleError.{ScheduleError}
use Rattle.salus_commands.specs.declared.report.Report.{Report}
use Rattle.salus_commands.specs.Refusing.{IsRefused}
use Rattle.salus_commands.specs.Statuses.{IsRefusedOf, PartOfText, RefusedText, WrotePart, WroteRefusal}

-- what holds of the text holds of what the source had
of_source : (P : List ℕ → Type 0) (old : Option (List ℕ)) (text : List ℕ) → IfSome old (λ left. left ≡ text) → P text → IfSome old P
of_source P None text told holds = tt
of_source P (Some left) text told holds = subst P (sym told) holds

if_then : (P Q : List ℕ → Type 0) (old : Option (List ℕ)) → ((text : List ℕ) → P text → Q text) → IfSome old P → IfSome old Q
if_then P Q None gives holds = tt
if_then P Q (Some text) gives holds = gives text holds

-- a text that is refused was that of a source which was read to its end
refused_of : (old new : Option (List ℕ)) (text : List ℕ) (why : ScheduleError) → IfSome old (λ left. left ≡ text) → IsAtEnd new → IsRefused text why → IsRefusedOf old new why
refused_of old new text why told ended refused = record {
  read = inl ended;
  refused = of_source (λ t. IsRefused t why) old text told refused;
}

pub refused_of_source : (old new : Option (List ℕ)) (text : List ℕ) (held_old held_new : Option (List ℕ))
    → IfSome old (λ left. left ≡ text) → IsAtEnd new → RefusedText text held_old held_new → WroteRefusal old new held_old held_new
refused_of_source old new text held_old held_new told ended r = record {
  why = r.why;
  refused = refused_of old new text r.why told ended r.refused;
  written = r.written;
}

pub part_of_source : (old new : Option (List ℕ)) (text : List ℕ) (report : Report) (held_old held_new : Option (List ℕ))
    → IfSome old (λ left. left ≡ text) → IsAtEnd new → PartOfText text report held_old held_new → WrotePart old new report held_old held_new
part_of_source old new text report held_old held_new told ended (inl p) = inl (record {
  ran = record { text = text; told = told; ran = p.ran };
  written = p.written;
})
part_of_source old new text report held_old held_new told ended (inr p) = inr (record {
  why = p.why;
  refused = refused_of old new text p.why told ended p.refused;
  written = p.written;
  nothing = p.nothing;
})

-- ---- a text that is too long

abbrev pub too_long : ScheduleError
too_long = record { line = 0; cause = cause.Long }

long_refused : (text : List ℕ) → 67108864 < length text → IsRefused text too_long
long_refused text long = (inl (refl, refl, long), λ schedule means. let short = means.short in absurd (omega (arith, short)))

pub too_long_of : (old new : Option (List ℕ)) → ConsumesMore old new 67108864 → IfSome old (λ left. 67108864 < length left) → IsRefusedOf old new too_long
too_long_of old new more long = record {
  read = inr more;
  refused = if_then (λ left. 67108864 < length left) (λ left. IsRefused left too_long) old long_refused long;
}
