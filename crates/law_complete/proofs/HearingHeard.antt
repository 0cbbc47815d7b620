-- Along a run: each claim that a sound node has posted is of a batch of its session, and so is each that the client hears of it.
use Rattle.std.proofs.Common.{◌≡◌, ◌∙◌, inl, inr, ℕ, ◌+◌, ◌<◌, ◌≤◌, Bool, true, false, if◌then◌else◌, List, [], ◌∷◌, ◌++◌, length, not, Some, refl, sym, ap, subst}
use Rattle.std.specs.Prelude.{Ok}
use Rattle.std.specs.List.{AllByRecursion}
use Rattle.std.proofs.lemmas.Bool.{cases_lt, true≢false}
use Rattle.std.proofs.lemmas.Grind.{flat_map-append}
use Rattle.std.proofs.lemmas.Option.{same_Some}
use Rattle.salus_types.specs.Volume.{Shape, regions}
use Rattle.salus_types.specs.declared.names.NodeName.{NodeName}
use Rattle.salus_types.specs.declared.names.Sender.TheVariants as sender
use Rattle.salus_types.specs.declared.records.Record.{Record}
use Rattle.salus_types.specs.declared.records.Held.{Held}
use Rattle.salus_message.specs.declared.small.Committed.{Committed}
use Rattle.salus_message.specs.declared.wire.Message.{Message}
use Rattle.salus_message.specs.declared.wire.Message.TheVariants as message
use Rattle.salus_message.specs.Reading.{message_at}
use Rattle.salus_message.specs.Spelling.{message_bytes}
use Rattle.schedule_text.specs.Limits.{IsWithinLimits}
use Rattle.schedule_text.specs.declared.schedule.Volume.{Volume}
use Rattle.schedule_text.specs.declared.schedule.Event.{Event}
use Rattle.merkle_region.specs.Tree.{IsAmong, NoTwoCollide}
use Rattle.volume_model.specs.Groups.{same_party}
use Rattle.volume_model.specs.Parts.{Session, base_of}
use Rattle.salus_model.specs.declared.trace.TraceStep.{TraceStep}
use Rattle.salus_model.specs.Judge.{Judge, start_judge, first_session, known_at, last_number}
use Rattle.salus_model.specs.Following.{Posted, posted_at, sent_by}
use Rattle.salus_model.specs.Forgery.{IsTagged}
use Rattle.salus_model.specs.Guarding.{is_lied_for}
use Rattle.salus_model.specs.Hearing.{News, Says, Past, judge_of}
use Rattle.salus_model.specs.Due.{past_of, history_from}
use Rattle.salus_model.specs.Complete.{IsSound}
use Rattle.salus_model.specs.Licences.{Letter, letters_in, letters_to, IsLicensed}
use Rattle.client_rules.specs.State as state
use Rattle.replica_rules.specs.Rules.{Sending}
use Rattle.replica_rules.proofs.Keeping.{OfHeld}
use Rattle.run_rules.specs.Knowing.{KnownNode, fresh, after_handed, outs_to}
use Rattle.run_rules.specs.Running.{addresses, known_of, AllSteps, formatted, new_session}
use Rattle.list_lemmas.proofs.Each.{all_both, all_split, all_then}
use Rattle.list_lemmas.proofs.Lists.{among_between}
use Rattle.list_lemmas.proofs.Members.{among_all, among_map}
use Rattle.list_lemmas.proofs.Tests.{and_left}
use Rattle.law_lemmas.proofs.Growing.{tagged-grows}
use Rattle.law_lemmas.proofs.Settled.{now-known, start_settled}
use Rattle.law_history.specs.Handing.{steps_in}
use Rattle.law_handed.specs.Bringing.{HasOrigin, records_held}
use Rattle.law_handed.specs.Fitting.{IsSpelled, LetterGiven}
use Rattle.law_handed.specs.Licensing.{BeginsFormatted, moments_of}
use Rattle.law_handed.proofs.FirstHeld.{formatted_begins}
use Rattle.law_handed.proofs.Granted.{messages_licensed}
use Rattle.law_shown.proofs.Formatting.{formatted_fits}
use Rattle.law_gathered.proofs.Fronts.{steps_front}
use Rattle.law_asked.proofs.Along as asked
use Rattle.law_asked.proofs.Rooted.{AreOwn, handed_own}
use Rattle.law_asked.proofs.Said.{IsSaid, step_said}
use Rattle.law_complete.proofs.Moments.{held_more, moments_origin, fresh_stands}
use Rattle.law_complete.proofs.Words.{claim_read}
use Rattle.law_complete.proofs.HearingKnown.{IsKnownUpTo, up_to_more, claim_up_to}

module _ (volume : Volume) (events : List Event) (posts : List Posted) (trace : List TraceStep) (limits : IsWithinLimits (record { volume = volume; events = events })) (strings : List (List ℕ)) (none : NoTwoCollide strings)
    (unlied : is_lied_for events sender.Client ≡ false) (name : NodeName) (sound : IsSound events trace name)
    (right : AllSteps volume.geometry posts name (fresh volume.geometry name.region (formatted volume name)) 0 trace)
    (spelled : AllByRecursion (LetterGiven IsSpelled IsSpelled) (letters_to posts name trace)) where
  abbrev shape : Shape
  shape = volume.geometry

  abbrev first : Held
  first = formatted volume name

  abbrev start : KnownNode
  start = fresh volume.geometry name.region first

  abbrev Along : List TraceStep → List Past → ℕ → ℕ → state.Client → KnownNode → Type 0
  Along done history n top c known = asked.IsAlong volume events posts trace limits strings none unlied name sound right done history n top c known

  abbrev Given : List Past → ℕ → ℕ → state.Client → KnownNode → List TraceStep → List TraceStep → Type 0
  Given history n m c known done rest = asked.AreGiven volume events posts trace limits strings none unlied name sound right history n m c known done rest

  abbrev judge_here : List Past → Judge
  judge_here history = judge_of volume.geometry events history

  abbrev sent_of : List Past → ℕ
  sent_of history = sent_by (steps_in history)

  -- in the first messages that were sent, each claim of the node
  abbrev pub ClaimsKnown : Judge → ℕ → Type 0
  ClaimsKnown judge sent =
      (k : ℕ) → 0 < k → k ≤ sent → (post : Posted) → posted_at posts k ≡ Some post → post.from ≡ sender.Node name → (c : Committed) → message_at post.bytes ≡ Ok (message.Committed c)
      → IsKnownUpTo judge c.session c.front

  -- a claim that the client hears of it then
  abbrev pub HeardOf : Past → Type 0
  HeardOf p = (c : Committed) → p.news ≡ Says name (message.Committed c) → c.session ≡ p.before.now.session → c.front ≤ last_number p.before

  module _ (done : List TraceStep) (history : List Past) (n top : ℕ) (c : state.Client) (known : KnownNode) (a : Along done history n top c known) (t : TraceStep) (rest : List TraceStep)
      (given : Given history n (top + 1) c known done (t ∷ rest)) (claims : ClaimsKnown (judge_here history) (sent_of history)) where
    abbrev judge : Judge
    judge = judge_here history

    abbrev sent : ℕ
    sent = sent_of history

    abbrev p : Past
    p = past_of volume events posts history t

    abbrev letters : List Letter
    letters = letters_to posts name done ++ letters_in posts t.handed

    abbrev moments : List Held
    moments = moments_of shape posts name start done

    abbrev base : Record
    base = base_of shape volume.key (new_session shape) name.region

    -- ---- what it sends then

    module _ (party : t.party ≡ sender.Node name) where
      within : name.region < regions shape
      within = asked.within_here volume events posts trace limits strings none unlied name sound right done history n top c known a t rest given party

      front : AllSteps shape posts name start 0 done
      front = steps_front volume events posts name start 0 done (t ∷ rest) (subst (λ (l : List TraceStep). AllSteps shape posts name start 0 l) given.whole right)

      own : AreOwn volume posts judge letters
      own =
          all_both _ (letters_to posts name done) (letters_in posts t.handed) a.letters
          (handed_own volume posts judge events sent unlied a.posted t.handed (asked.over volume events posts trace limits strings none unlied name sound right done history n top c known a t rest given))

      are_spelled : AllByRecursion (LetterGiven IsSpelled IsSpelled) letters
      are_spelled =
          let apart : letters_to posts name trace ≡ letters_to posts name done ++ letters_to posts name (t ∷ rest) =
          ap (λ (l : List TraceStep). letters_to posts name l) given.whole ∙ flat_map-append (λ (s : TraceStep). if same_party s.party (sender.Node name) then letters_in posts s.handed else []) done (t ∷ rest) in
          let both = all_split (LetterGiven IsSpelled IsSpelled) (letters_to posts name done) (letters_to posts name (t ∷ rest)) (subst (λ (l : List Letter). AllByRecursion (LetterGiven IsSpelled IsSpelled) l) apart spelled) in
          let here = all_split (LetterGiven IsSpelled IsSpelled) (if addresses name t then letters_in posts t.handed else []) (letters_to posts name rest) both.1 in
          let mine : addresses name t ≡ true = asked.mine volume events posts trace limits strings none unlied name sound right done history n top c known a t rest given party in
          all_both (LetterGiven IsSpelled IsSpelled) (letters_to posts name done) (letters_in posts t.handed) both.0
          (subst (λ (w : Bool). AllByRecursion (LetterGiven IsSpelled IsSpelled) (if w then letters_in posts t.handed else [])) mine here.0)

      base_tagged : IsTagged shape volume.key judge base
      base_tagged =
          tagged-grows shape volume.key (start_judge shape) judge base (start_settled shape).sized a.standing.reached.first
          (record { e = 1; session = first_session shape; known = now-known (start_judge shape); g = name.region; either = inr (record { inside = within; is = refl }) })

      base_spelled : IsSpelled base
      base_spelled = (formatted_fits volume name limits.volume within).bases.0.given

      firsts : (rec : Record) → IsAmong rec (records_held first) → IsTagged shape volume.key judge rec × IsSpelled rec
      firsts rec (inl same) = subst (λ (r : Record). IsTagged shape volume.key judge r × IsSpelled r) (sym same) (base_tagged, base_spelled)
      firsts rec (inr nothing) = absurd nothing

      origins : AllByRecursion (OfHeld (HasOrigin first letters)) moments
      origins =
          all_then (OfHeld (HasOrigin first (letters_to posts name done))) (OfHeld (HasOrigin first letters)) (held_more first shape posts name (letters_to posts name done) (letters_in posts t.handed)) moments
          (moments_origin first shape posts name [] start 0 done front (fresh_stands first shape name.region (record { bases = (inl (inl refl), tt); parts = tt })))

      -- in each of the contents that the disk may mean then
      abbrev everywhere : (Held → Type 0) → Type 0
      everywhere P = AllByRecursion P (after_handed shape name.region posts (known_of shape posts name start done) t.handed t.failed).contents

      out_known : (out : Sending) → IsAmong out (outs_to shape name.region posts known t.handed t.failed) → (q : Committed) → message_at (message_bytes out.message) ≡ Ok (message.Committed q)
          → IsKnownUpTo judge q.session q.front
      out_known out among q reads =
          let begun : BeginsFormatted shape base first = formatted_begins volume name within in
          let there : IsAmong out (outs_to shape name.region posts (known_of shape posts name start done) t.handed t.failed) =
          subst (λ (k : KnownNode). IsAmong out (outs_to shape name.region posts k t.handed t.failed)) (sym a.known_is) among in
          let licence : IsLicensed shape letters base moments everywhere name.region out.message =
          among_all (λ (o : Sending). IsLicensed shape letters base moments everywhere name.region o.message) (outs_to shape name.region posts (known_of shape posts name start done) t.handed t.failed) out there
          (messages_licensed shape posts name first done front begun.parts base t.handed t.failed begun.bases) in
          let up_to : (x : Committed) → out.message ≡ message.Committed x → IsKnownUpTo judge x.session x.front =
          λ x is. claim_up_to volume posts judge a.standing.settled.sized letters own are_spelled first firsts moments origins x.session x.front
          (subst (λ (m : Message). IsLicensed shape letters base moments everywhere name.region m) is licence) in
          up_to q (claim_read out.message (λ x is. (up_to x is).small) q reads)

      new_claim : (k : ℕ) → sent < k → k ≤ t.sent → (post : Posted) → posted_at posts k ≡ Some post → (q : Committed) → message_at post.bytes ≡ Ok (message.Committed q) → IsKnownUpTo judge q.session q.front
      new_claim k above low post at q reads =
          let outs : List Sending = outs_to shape name.region posts known t.handed t.failed in
          let send : Sending → Posted = λ out. record { from = sender.Node name; to = out.to; bytes = message_bytes out.message } in
          let node = asked.node_now volume events posts trace limits strings none unlied name sound right done history n top c known a t rest given party in
          let found = among_map send post outs (subst (λ (l : List Posted). IsAmong post l) node.messages (among_between posts sent t.sent k post at above low)) in
          out_known found.0 found.1 q (ap (λ (m : Posted). message_at m.bytes) (sym found.2) ∙ reads)

    -- ---- after it

    pub claims_then : ClaimsKnown (judge_here (p ∷ history)) t.sent
    claims_then k counted low post at from q reads =
        let more : IsKnownUpTo judge q.session q.front → IsKnownUpTo (judge_here (p ∷ history)) q.session q.front =
        λ one. up_to_more judge (judge_here (p ∷ history)) (asked.grows volume events posts trace limits strings none unlied name sound right done history n top c known a t rest given) q.session q.front one in
        elim (cases_lt sent k) [
          | inl above ↦
              more
              (new_claim (sym (asked.posted_own volume events posts trace limits strings none unlied name sound right done history n top c known a t rest given k above low post at) ∙ from) k above low post at q reads)
          | inr within ↦ more (claims k counted within post at from q reads)
        ]

    -- what the client hears of it in the step
    pub heard_then : HeardOf p
    heard_then q is same =
        let over = asked.over volume events posts trace limits strings none unlied name sound right done history n top c known a t rest given in
        let said : IsSaid events posts sent (Says name (message.Committed q)) = subst (λ (x : News). IsSaid events posts sent x) is (step_said events posts sent t over) in
        by said
      where
        by : IsSaid events posts sent (Says name (message.Committed q)) → q.front ≤ last_number judge
        by (inl lied) = absurd (true≢false (sym (and_left (not (is_lied_for events (sender.Node name))) _ sound.right) ∙ ap not lied))
        by (inr was) =
            let k : IsKnownUpTo judge q.session q.front = claims was.k was.counted was.low was.post was.at was.from q was.reads in
            let known_here : k.known ≡ judge.now = same_Some k.known judge.now (sym k.at ∙ (ap (λ (e : ℕ). known_at judge e) same ∙ now-known judge)) in
            subst (λ (s : Session). q.front ≤ length s.list) known_here k.within

  -- ---- along the run

  -- each that it hears in the steps that are left, after what it heard before
  pub heard_from : (rest done : List TraceStep) (history : List Past) (n top : ℕ) (c : state.Client) (known : KnownNode) → Along done history n top c known → Given history n (top + 1) c known done rest
      → ClaimsKnown (judge_here history) (sent_of history) → AllByRecursion HeardOf history → AllByRecursion HeardOf (history_from volume events posts history rest)
  unfolding history_from
  heard_from [] done history n top c known a given claims heard = heard
  heard_from (t ∷ rest) done history n top c known a given claims heard =
      heard_from rest (done ++ t ∷ []) _ _ _ _ _ (asked.along_then volume events posts trace limits strings none unlied name sound right done history n top c known a t rest given)
      (asked.given_then volume events posts trace limits strings none unlied name sound right done history n top c known a t rest given)
      (claims_then done history n top c known a t rest given claims) (heard_then done history n top c known a t rest given claims, heard)
