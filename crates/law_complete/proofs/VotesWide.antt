-- A vote that a sound node sends in a run has its widths: they are those of the part that it is for.
use Rattle.std.proofs.Common.{◌≡◌, ◌∙◌, ℕ, ◌^◌, ◌<◌, Bool, true, if◌then◌else◌, List, [], ◌∷◌, ◌++◌, length, ap, subst}
use Rattle.std.specs.List.{AllByRecursion}
use Rattle.salus_types.specs.Volume.{Shape, regions}
use Rattle.salus_types.specs.declared.names.NodeName.{NodeName}
use Rattle.salus_types.specs.declared.names.Sender.TheVariants as sender
use Rattle.salus_types.specs.declared.records.Record.{Record}
use Rattle.salus_types.specs.declared.records.Held.{Held}
use Rattle.salus_message.specs.declared.small.Prepared.{Prepared}
use Rattle.salus_message.specs.declared.wire.Message.{Message}
use Rattle.salus_message.specs.declared.wire.Message.TheVariants as message
use Rattle.salus_message.specs.Ranges.{PreparedWidths}
use Rattle.schedule_text.specs.declared.schedule.Volume.{Volume}
use Rattle.schedule_text.specs.declared.schedule.Event.{Event}
use Rattle.client_tag.specs.Ranges.{HasWidths}
use Rattle.merkle_region.specs.Tree.{IsAmong}
use Rattle.volume_model.specs.Parts.{base_of}
use Rattle.salus_model.specs.declared.trace.TraceStep.{TraceStep}
use Rattle.salus_model.specs.Following.{Posted}
use Rattle.salus_model.specs.Licences.{Letter, letters_in, letters_to, IsVotedFor, IsLicensed}
use Rattle.replica_rules.specs.Rules.{Sending}
use Rattle.run_rules.specs.Knowing.{KnownNode, fresh, after_handed, outs_to}
use Rattle.run_rules.specs.Running.{addresses, known_of, AllSteps, formatted, new_session}
use Rattle.list_lemmas.proofs.Each.{all_both, all_split}
use Rattle.list_lemmas.proofs.Members.{among_all}
use Rattle.law_handed.specs.Fitting.{IsSpelled, LetterGiven}
use Rattle.law_handed.specs.Licensing.{BeginsFormatted, moments_of}
use Rattle.law_handed.proofs.FirstHeld.{formatted_begins}
use Rattle.law_handed.proofs.Granted.{messages_licensed}
use Rattle.law_gathered.proofs.Fronts.{steps_front}
use Rattle.law_complete.proofs.Posted.{letters_apart}

module _ (volume : Volume) (events : List Event) (posts : List Posted) (trace : List TraceStep) (name : NodeName) (inside : name.region < regions volume.geometry)
    (right : AllSteps volume.geometry posts name (fresh volume.geometry name.region (formatted volume name)) 0 trace) (spelled : AllByRecursion (LetterGiven IsSpelled IsSpelled) (letters_to posts name trace))
    (done : List TraceStep) (t : TraceStep) (rest : List TraceStep) (whole : trace ≡ done ++ t ∷ rest) (mine : addresses name t ≡ true) where
  abbrev shape : Shape
  shape = volume.geometry

  abbrev first : Held
  first = formatted volume name

  abbrev start : KnownNode
  start = fresh volume.geometry name.region (formatted volume name)

  abbrev base : Record
  base = base_of shape volume.key (new_session shape) name.region

  abbrev letters : List Letter
  letters = letters_to posts name done ++ letters_in posts t.handed

  are_spelled : AllByRecursion (LetterGiven IsSpelled IsSpelled) letters
  are_spelled =
      let apart : letters_to posts name trace ≡ letters_to posts name done ++ letters_to posts name (t ∷ rest) =
      ap (λ (l : List TraceStep). letters_to posts name l) whole ∙ letters_apart posts name done (t ∷ rest) in
      let both = all_split (LetterGiven IsSpelled IsSpelled) (letters_to posts name done) (letters_to posts name (t ∷ rest)) (subst (λ (l : List Letter). AllByRecursion (LetterGiven IsSpelled IsSpelled) l) apart spelled) in
      let here = all_split (LetterGiven IsSpelled IsSpelled) (if addresses name t then letters_in posts t.handed else []) (letters_to posts name rest) both.1 in
      all_both (LetterGiven IsSpelled IsSpelled) (letters_to posts name done) (letters_in posts t.handed) both.0
      (subst (λ (w : Bool). AllByRecursion (LetterGiven IsSpelled IsSpelled) (if w then letters_in posts t.handed else [])) mine here.0)

  front : AllSteps shape posts name start 0 done
  front = steps_front volume events posts name start 0 done (t ∷ rest) (subst (λ (l : List TraceStep). AllSteps shape posts name start 0 l) whole right)

  -- in each of the contents that the disk may mean then
  abbrev everywhere : (Held → Type 0) → Type 0
  everywhere P = AllByRecursion P (after_handed shape name.region posts (known_of shape posts name start done) t.handed t.failed).contents

  wide_for : (v : Prepared) (rec : Record) → IsVotedFor letters v rec → PreparedWidths v
  wide_for v rec for =
      let wide : HasWidths rec.header = (among_all (LetterGiven IsSpelled IsSpelled) letters (record { from = sender.Client; message = message.Part (record { rec = rec }) }) for.came are_spelled).widths.header_typed in (
        subst (λ (x : ℕ). x < 2 ^ 64) for.session wide.session_width,
        (subst (λ (x : ℕ). x < 2 ^ 64) for.seq wide.seq_width, (subst (λ (x : ℕ). x < 2 ^ 16) for.region wide.region_width, subst (λ (x : List ℕ). length x ≡ 32) for.root wide.root_width)),
      )

  pub vote_wide : (out : Sending) → IsAmong out (outs_to shape name.region posts (known_of shape posts name start done) t.handed t.failed) → (v : Prepared) → out.message ≡ message.Prepared v → PreparedWidths v
  vote_wide out among v is =
      let begun : BeginsFormatted shape base first = formatted_begins volume name inside in
      let licence : IsLicensed shape letters base (moments_of shape posts name start done) everywhere name.region out.message =
      among_all (λ (o : Sending). IsLicensed shape letters base (moments_of shape posts name start done) everywhere name.region o.message) (outs_to shape name.region posts (known_of shape posts name start done) t.handed t.failed) out among
      (messages_licensed shape posts name first done front begun.parts base t.handed t.failed begun.bases) in
      let of : IsLicensed shape letters base (moments_of shape posts name start done) everywhere name.region (message.Prepared v) =
      subst (λ (m : Message). IsLicensed shape letters base (moments_of shape posts name start done) everywhere name.region m) is licence in
      wide_for v of.0 of.1
