-- Each claim that a sound node sends in a run is of batches that are known at its end, and its numbers have their widths.
use Rattle.std.proofs.Common.{◌≡◌, ◌∙◌, inl, inr, ◌<◌, Bool, true, if◌then◌else◌, List, [], ◌∷◌, ◌++◌, refl, sym, ap, subst}
use Rattle.std.specs.List.{AllByRecursion}
use Rattle.std.proofs.lemmas.Grind.{flat_map-append}
use Rattle.salus_types.specs.Volume.{Shape, regions}
use Rattle.salus_types.specs.declared.names.NodeName.{NodeName}
use Rattle.salus_types.specs.declared.names.Sender.TheVariants as sender
use Rattle.salus_types.specs.declared.records.Record.{Record}
use Rattle.salus_types.specs.declared.records.Held.{Held}
use Rattle.salus_message.specs.declared.small.Committed.{Committed}
use Rattle.salus_message.specs.declared.wire.Message.{Message}
use Rattle.salus_message.specs.declared.wire.Message.TheVariants as message
use Rattle.schedule_text.specs.Limits.{IsWithinLimits}
use Rattle.schedule_text.specs.declared.schedule.Volume.{Volume}
use Rattle.schedule_text.specs.declared.schedule.Event.{Event}
use Rattle.merkle_region.specs.Tree.{IsAmong}
use Rattle.volume_model.specs.Groups.{same_party}
use Rattle.volume_model.specs.Parts.{base_of}
use Rattle.salus_model.specs.declared.trace.TraceStep.{TraceStep}
use Rattle.salus_model.specs.Judge.{Judge, start_judge, first_session}
use Rattle.salus_model.specs.Following.{Posted}
use Rattle.salus_model.specs.Forgery.{IsTagged}
use Rattle.salus_model.specs.Licences.{Letter, letters_in, letters_to, IsLicensed}
use Rattle.replica_rules.specs.Rules.{Sending}
use Rattle.replica_rules.proofs.Keeping.{OfHeld}
use Rattle.run_rules.specs.Knowing.{KnownNode, fresh, after_handed, outs_to}
use Rattle.run_rules.specs.Running.{addresses, known_of, AllSteps, formatted, new_session}
use Rattle.list_lemmas.proofs.Each.{all_both, all_split, all_then}
use Rattle.list_lemmas.proofs.Members.{among_all}
use Rattle.law_lemmas.proofs.Growing.{Grows, tagged-grows}
use Rattle.law_lemmas.proofs.Numbered.{IsSized}
use Rattle.law_lemmas.proofs.Settled.{EachKnown, now-known, start_settled}
use Rattle.law_handed.specs.Bringing.{HasOrigin, records_held}
use Rattle.law_handed.specs.Fitting.{IsSpelled, LetterGiven}
use Rattle.law_handed.specs.Licensing.{BeginsFormatted, moments_of}
use Rattle.law_handed.proofs.FirstHeld.{formatted_begins}
use Rattle.law_handed.proofs.Granted.{messages_licensed}
use Rattle.law_shown.proofs.Formatting.{formatted_fits}
use Rattle.law_gathered.proofs.Fronts.{steps_front}
use Rattle.law_asked.proofs.Rooted.{IsOwn, AreOwn}
use Rattle.law_complete.proofs.Moments.{held_more, moments_origin, fresh_stands}
use Rattle.law_complete.proofs.HearingKnown.{IsKnownUpTo, claim_up_to}

module _ (volume : Volume) (events : List Event) (posts : List Posted) (trace : List TraceStep) (limits : IsWithinLimits (record { volume = volume; events = events })) (name : NodeName) (inside : name.region < regions volume.geometry)
    (right : AllSteps volume.geometry posts name (fresh volume.geometry name.region (formatted volume name)) 0 trace) (spelled : AllByRecursion (LetterGiven IsSpelled IsSpelled) (letters_to posts name trace))
    (judge : Judge) (sized : EachKnown judge (IsSized volume.geometry)) (started : Grows (start_judge volume.geometry) judge) (own : AreOwn volume posts judge (letters_to posts name trace)) where
  abbrev shape : Shape
  shape = volume.geometry

  abbrev first : Held
  first = formatted volume name

  abbrev start : KnownNode
  start = fresh volume.geometry name.region (formatted volume name)

  abbrev base : Record
  base = base_of shape volume.key (new_session shape) name.region

  base_tagged : IsTagged shape volume.key judge base
  base_tagged =
      tagged-grows shape volume.key (start_judge shape) judge base (start_settled shape).sized started
      (record { e = 1; session = first_session shape; known = now-known (start_judge shape); g = name.region; either = inr (record { inside = inside; is = refl }) })

  firsts : (rec : Record) → IsAmong rec (records_held first) → IsTagged shape volume.key judge rec × IsSpelled rec
  firsts rec (inl same) = subst (λ (r : Record). IsTagged shape volume.key judge r × IsSpelled r) (sym same) (base_tagged, (formatted_fits volume name limits.volume inside).bases.0.given)
  firsts rec (inr nothing) = absurd nothing

  module _ (done : List TraceStep) (t : TraceStep) (rest : List TraceStep) (whole : trace ≡ done ++ t ∷ rest) (mine : addresses name t ≡ true) where
    abbrev letters : List Letter
    letters = letters_to posts name done ++ letters_in posts t.handed

    abbrev moments : List Held
    moments = moments_of shape posts name start done

    -- what holds of each letter of the run holds of each till then
    till_then : (P : Letter → Type 0) → AllByRecursion P (letters_to posts name trace) → AllByRecursion P letters
    till_then P all =
        let apart : letters_to posts name trace ≡ letters_to posts name done ++ letters_to posts name (t ∷ rest) =
        ap (λ (l : List TraceStep). letters_to posts name l) whole ∙ flat_map-append (λ (s : TraceStep). if same_party s.party (sender.Node name) then letters_in posts s.handed else []) done (t ∷ rest) in
        let both = all_split P (letters_to posts name done) (letters_to posts name (t ∷ rest)) (subst (λ (l : List Letter). AllByRecursion P l) apart all) in
        let here = all_split P (if addresses name t then letters_in posts t.handed else []) (letters_to posts name rest) both.1 in
        all_both P (letters_to posts name done) (letters_in posts t.handed) both.0 (subst (λ (w : Bool). AllByRecursion P (if w then letters_in posts t.handed else [])) mine here.0)

    front : AllSteps shape posts name start 0 done
    front = steps_front volume events posts name start 0 done (t ∷ rest) (subst (λ (l : List TraceStep). AllSteps shape posts name start 0 l) whole right)

    origins : AllByRecursion (OfHeld (HasOrigin first letters)) moments
    origins =
        all_then (OfHeld (HasOrigin first (letters_to posts name done))) (OfHeld (HasOrigin first letters)) (held_more first shape posts name (letters_to posts name done) (letters_in posts t.handed)) moments
        (moments_origin first shape posts name [] start 0 done front (fresh_stands first shape name.region (record { bases = (inl (inl refl), tt); parts = tt })))

    -- in each of the contents that the disk may mean then
    abbrev everywhere : (Held → Type 0) → Type 0
    everywhere P = AllByRecursion P (after_handed shape name.region posts (known_of shape posts name start done) t.handed t.failed).contents

    pub claim_known : (out : Sending) → IsAmong out (outs_to shape name.region posts (known_of shape posts name start done) t.handed t.failed) → (x : Committed) → out.message ≡ message.Committed x → IsKnownUpTo judge x.session x.front
    claim_known out among x is =
        let begun : BeginsFormatted shape base first = formatted_begins volume name inside in
        let licence : IsLicensed shape letters base moments everywhere name.region out.message =
        among_all (λ (o : Sending). IsLicensed shape letters base moments everywhere name.region o.message) (outs_to shape name.region posts (known_of shape posts name start done) t.handed t.failed) out among
        (messages_licensed shape posts name first done front begun.parts base t.handed t.failed begun.bases) in
        claim_up_to volume posts judge sized letters (till_then (IsOwn volume posts judge) own) (till_then (LetterGiven IsSpelled IsSpelled) spelled) first firsts moments origins x.session x.front
        (subst (λ (m : Message). IsLicensed shape letters base moments everywhere name.region m) is licence)
