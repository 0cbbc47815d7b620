-- A claim that a sound node sends has its widths, so that it is read as it was sent.
use Rattle.std.proofs.Common.{◌≡◌, ◌∙◌, inl, inr, ℕ, ◌+◌, ◌^◌, ◌<◌, Bool, true, false, if◌then◌else◌, List, [], ◌∷◌, ◌++◌, refl, sym, ap, subst}
use Rattle.std.specs.Prelude.{Ok}
use Rattle.std.specs.List.{AllByRecursion}
use Rattle.std.proofs.lemmas.Grind.{flat_map-append}
use Rattle.salus_types.specs.Volume.{Shape, regions}
use Rattle.salus_types.specs.declared.names.NodeName.{NodeName}
use Rattle.salus_types.specs.declared.names.Sender.TheVariants as sender
use Rattle.salus_types.specs.declared.records.Record.{Record}
use Rattle.salus_types.specs.declared.records.Held.{Held}
use Rattle.salus_message.specs.declared.small.Committed.{Committed}
use Rattle.salus_message.specs.declared.wire.Message.{Message}
use Rattle.salus_message.specs.declared.wire.Message.TheVariants as message
use Rattle.salus_message.specs.Reading.{message_at}
use Rattle.salus_message.specs.Spelling.{message_bytes}
use Rattle.schedule_text.specs.Limits.{IsWithinLimits}
use Rattle.schedule_text.specs.declared.schedule.Volume.{Volume}
use Rattle.schedule_text.specs.declared.schedule.Event.{Event}
use Rattle.merkle_region.specs.Tree.{IsAmong, NoTwoCollide}
use Rattle.volume_model.specs.Groups.{same_party}
use Rattle.volume_model.specs.Parts.{base_of}
use Rattle.salus_model.specs.declared.trace.TraceStep.{TraceStep}
use Rattle.salus_model.specs.Judge.{Judge, start_judge, first_session}
use Rattle.salus_model.specs.Following.{Posted, sent_by}
use Rattle.salus_model.specs.Forgery.{IsTagged}
use Rattle.salus_model.specs.Guarding.{is_lied_for}
use Rattle.salus_model.specs.Hearing.{Past, judge_of}
use Rattle.salus_model.specs.Complete.{IsSound}
use Rattle.salus_model.specs.Licences.{Letter, letters_in, letters_to, IsLicensed}
use Rattle.client_rules.specs.State as state
use Rattle.replica_rules.specs.Rules.{Sending}
use Rattle.replica_rules.proofs.Keeping.{OfHeld}
use Rattle.run_rules.specs.Knowing.{KnownNode, fresh, after_handed, outs_to}
use Rattle.run_rules.specs.Running.{addresses, known_of, AllSteps, formatted, new_session}
use Rattle.list_lemmas.proofs.Each.{all_both, all_split, all_then}
use Rattle.list_lemmas.proofs.Members.{among_all}
use Rattle.law_lemmas.proofs.Growing.{tagged-grows}
use Rattle.law_lemmas.proofs.Settled.{now-known, start_settled}
use Rattle.law_history.specs.Handing.{steps_in}
use Rattle.law_handed.specs.Bringing.{HasOrigin, records_held}
use Rattle.law_handed.specs.Fitting.{IsSpelled, LetterGiven}
use Rattle.law_handed.specs.Licensing.{BeginsFormatted, moments_of}
use Rattle.law_handed.proofs.FirstHeld.{formatted_begins}
use Rattle.law_handed.proofs.Granted.{messages_licensed}
use Rattle.law_shown.proofs.Formatting.{formatted_fits}
use Rattle.law_gathered.proofs.Fronts.{steps_front}
use Rattle.law_asked.proofs.Along as asked
use Rattle.law_asked.proofs.Rooted.{AreOwn, handed_own}
use Rattle.law_complete.proofs.Moments.{held_more, moments_origin, fresh_stands}
use Rattle.law_complete.proofs.Words.{claim_read}
use Rattle.law_complete.proofs.HearingKnown.{claim_up_to}

module _ (volume : Volume) (events : List Event) (posts : List Posted) (trace : List TraceStep) (limits : IsWithinLimits (record { volume = volume; events = events })) (strings : List (List ℕ)) (none : NoTwoCollide strings)
    (unlied : is_lied_for events sender.Client ≡ false) (name : NodeName) (sound : IsSound events trace name)
    (right : AllSteps volume.geometry posts name (fresh volume.geometry name.region (formatted volume name)) 0 trace)
    (spelled : AllByRecursion (LetterGiven IsSpelled IsSpelled) (letters_to posts name trace)) where
  abbrev shape : Shape
  shape = volume.geometry

  abbrev first : Held
  first = formatted volume name

  abbrev start : KnownNode
  start = fresh volume.geometry name.region first

  abbrev Along : List TraceStep → List Past → ℕ → ℕ → state.Client → KnownNode → Type 0
  Along done history n top c known = asked.IsAlong volume events posts trace limits strings none unlied name sound right done history n top c known

  abbrev Given : List Past → ℕ → ℕ → state.Client → KnownNode → List TraceStep → List TraceStep → Type 0
  Given history n m c known done rest = asked.AreGiven volume events posts trace limits strings none unlied name sound right history n m c known done rest

  module _ (done : List TraceStep) (history : List Past) (n top : ℕ) (c : state.Client) (known : KnownNode) (a : Along done history n top c known) (t : TraceStep) (rest : List TraceStep)
      (given : Given history n (top + 1) c known done (t ∷ rest)) where
    abbrev judge : Judge
    judge = judge_of volume.geometry events history

    abbrev sent : ℕ
    sent = sent_by (steps_in history)

    abbrev letters : List Letter
    letters = letters_to posts name done ++ letters_in posts t.handed

    abbrev moments : List Held
    moments = moments_of shape posts name start done

    abbrev base : Record
    base = base_of shape volume.key (new_session shape) name.region

    module _ (party : t.party ≡ sender.Node name) where
      within : name.region < regions shape
      within = asked.within_here volume events posts trace limits strings none unlied name sound right done history n top c known a t rest given party

      front : AllSteps shape posts name start 0 done
      front = steps_front volume events posts name start 0 done (t ∷ rest) (subst (λ (l : List TraceStep). AllSteps shape posts name start 0 l) given.whole right)

      own : AreOwn volume posts judge letters
      own =
          all_both _ (letters_to posts name done) (letters_in posts t.handed) a.letters
          (handed_own volume posts judge events sent unlied a.posted t.handed (asked.over volume events posts trace limits strings none unlied name sound right done history n top c known a t rest given))

      are_spelled : AllByRecursion (LetterGiven IsSpelled IsSpelled) letters
      are_spelled =
          let apart : letters_to posts name trace ≡ letters_to posts name done ++ letters_to posts name (t ∷ rest) =
          ap (λ (l : List TraceStep). letters_to posts name l) given.whole ∙ flat_map-append (λ (s : TraceStep). if same_party s.party (sender.Node name) then letters_in posts s.handed else []) done (t ∷ rest) in
          let both = all_split (LetterGiven IsSpelled IsSpelled) (letters_to posts name done) (letters_to posts name (t ∷ rest)) (subst (λ (l : List Letter). AllByRecursion (LetterGiven IsSpelled IsSpelled) l) apart spelled) in
          let here = all_split (LetterGiven IsSpelled IsSpelled) (if addresses name t then letters_in posts t.handed else []) (letters_to posts name rest) both.1 in
          let mine : addresses name t ≡ true = asked.mine volume events posts trace limits strings none unlied name sound right done history n top c known a t rest given party in
          all_both (LetterGiven IsSpelled IsSpelled) (letters_to posts name done) (letters_in posts t.handed) both.0
          (subst (λ (w : Bool). AllByRecursion (LetterGiven IsSpelled IsSpelled) (if w then letters_in posts t.handed else [])) mine here.0)

      base_tagged : IsTagged shape volume.key judge base
      base_tagged =
          tagged-grows shape volume.key (start_judge shape) judge base (start_settled shape).sized a.standing.reached.first
          (record { e = 1; session = first_session shape; known = now-known (start_judge shape); g = name.region; either = inr (record { inside = within; is = refl }) })

      base_spelled : IsSpelled base
      base_spelled = (formatted_fits volume name limits.volume within).bases.0.given

      firsts : (rec : Record) → IsAmong rec (records_held first) → IsTagged shape volume.key judge rec × IsSpelled rec
      firsts rec (inl same) = subst (λ (r : Record). IsTagged shape volume.key judge r × IsSpelled r) (sym same) (base_tagged, base_spelled)
      firsts rec (inr nothing) = absurd nothing

      origins : AllByRecursion (OfHeld (HasOrigin first letters)) moments
      origins =
          all_then (OfHeld (HasOrigin first (letters_to posts name done))) (OfHeld (HasOrigin first letters)) (held_more first shape posts name (letters_to posts name done) (letters_in posts t.handed)) moments
          (moments_origin first shape posts name [] start 0 done front (fresh_stands first shape name.region (record { bases = (inl (inl refl), tt); parts = tt })))

      -- in each of the contents that the disk may mean then
      abbrev everywhere : (Held → Type 0) → Type 0
      everywhere P = AllByRecursion P (after_handed shape name.region posts (known_of shape posts name start done) t.handed t.failed).contents

      -- its licence says which batch it is of
      pub claim_wide : (out : Sending) → IsAmong out (outs_to shape name.region posts known t.handed t.failed) → (x : Committed) → out.message ≡ message.Committed x → (x.session < 2 ^ 64) × (x.front < 2 ^ 64)
      claim_wide out among x is =
          let begun : BeginsFormatted shape base first = formatted_begins volume name within in
          let there : IsAmong out (outs_to shape name.region posts (known_of shape posts name start done) t.handed t.failed) =
          subst (λ (k : KnownNode). IsAmong out (outs_to shape name.region posts k t.handed t.failed)) (sym a.known_is) among in
          let licence : IsLicensed shape letters base moments everywhere name.region out.message =
          among_all (λ (o : Sending). IsLicensed shape letters base moments everywhere name.region o.message) (outs_to shape name.region posts (known_of shape posts name start done) t.handed t.failed) out there
          (messages_licensed shape posts name first done front begun.parts base t.handed t.failed begun.bases) in
          (claim_up_to volume posts judge a.standing.settled.sized letters own are_spelled first firsts moments origins x.session x.front
          (subst (λ (m : Message). IsLicensed shape letters base moments everywhere name.region m) is licence)).small

      -- So it is read as it was sent.
      pub claim_again : (out : Sending) → IsAmong out (outs_to shape name.region posts known t.handed t.failed) → (q : Committed) → message_at (message_bytes out.message) ≡ Ok (message.Committed q) → out.message ≡ message.Committed q
      claim_again out among q reads = claim_read out.message (claim_wide out among) q reads
