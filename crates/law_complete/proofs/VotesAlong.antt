-- Along a run in which nobody lies: each vote that a sound node has posted is right, and what was handed to it was posted before.
use Rattle.std.proofs.Common.{◌≡◌, ◌∙◌, inl, inr, ℕ, ◌+◌, ◌^◌, ◌<◌, ◌≤◌, Bool, true, false, if◌then◌else◌, List, [], ◌∷◌, ◌++◌, length, Some, refl, sym, ap, subst, append_assoc, append-nil}
use Rattle.std.specs.Prelude.{Ok}
use Rattle.std.specs.List.{AllByRecursion}
use Rattle.std.proofs.lemmas.Bool.{cases_lt}
use Rattle.salus_types.specs.Volume.{Shape}
use Rattle.salus_types.specs.declared.names.NodeName.{NodeName}
use Rattle.salus_types.specs.declared.names.Sender.{Sender}
use Rattle.salus_types.specs.declared.names.Sender.TheVariants as sender
use Rattle.salus_types.specs.declared.records.Record.{Record}
use Rattle.salus_types.specs.declared.records.Held.{Held}
use Rattle.salus_message.specs.declared.small.Prepared.{Prepared}
use Rattle.salus_message.specs.declared.wire.Message.{Message}
use Rattle.salus_message.specs.declared.wire.Message.TheVariants as message
use Rattle.salus_message.specs.Ranges.{PreparedWidths}
use Rattle.salus_message.specs.Reading.{message_at}
use Rattle.salus_message.specs.Spelling.{message_bytes}
use Rattle.schedule_text.proofs.Decided.{same_ok}
use Rattle.schedule_text.specs.Limits.{IsWithinLimits}
use Rattle.schedule_text.specs.declared.schedule.Volume.{Volume}
use Rattle.schedule_text.specs.declared.schedule.Event.{Event}
use Rattle.client_tag.specs.Ranges.{HasWidths}
use Rattle.merkle_region.specs.Tree.{IsAmong, NoTwoCollide}
use Rattle.volume_model.specs.Groups.{is_client}
use Rattle.volume_model.specs.Parts.{base_of}
use Rattle.salus_model.specs.declared.trace.Handed.{Handed}
use Rattle.salus_model.specs.declared.trace.Handed.TheVariants as handed
use Rattle.salus_model.specs.declared.trace.TraceStep.{TraceStep}
use Rattle.salus_model.specs.Judge.{Judge}
use Rattle.salus_model.specs.Following.{Posted, posted_at, sent_by}
use Rattle.salus_model.specs.Guarding.{is_lied_for}
use Rattle.salus_model.specs.Hearing.{News, Silence, Past, news_in, news_of, judge_of}
use Rattle.salus_model.specs.Due.{past_of, history_from}
use Rattle.salus_model.specs.Complete.{IsSound}
use Rattle.salus_model.specs.Licences.{Letter, letters_in, letters_to, IsVotedFor, IsLicensed}
use Rattle.client_rules.specs.State as state
use Rattle.client_rules.specs.State.{Told}
use Rattle.client_rules.specs.Rules.{told, ticked, is_tick, client_step}
use Rattle.replica_rules.specs.Rules.{Sending}
use Rattle.run_rules.specs.Knowing.{KnownNode, fresh, after_handed, outs_to}
use Rattle.run_rules.specs.Running.{addresses, known_of, AllSteps, formatted, new_session}
use Rattle.list_lemmas.proofs.Each.{either_way, all_both, all_split}
use Rattle.list_lemmas.proofs.Lists.{among_between}
use Rattle.list_lemmas.proofs.Members.{among_all, among_map}
use Rattle.list_lemmas.proofs.Tests.{way_with}
use Rattle.law_lemmas.proofs.Numbered.{IsSized}
use Rattle.law_lemmas.proofs.Settled.{EachKnown}
use Rattle.law_history.specs.Handing.{steps_in}
use Rattle.law_handed.specs.Fitting.{IsSpelled, LetterGiven}
use Rattle.law_handed.specs.Licensing.{BeginsFormatted, moments_of}
use Rattle.law_handed.proofs.FirstHeld.{formatted_begins}
use Rattle.law_handed.proofs.Granted.{messages_licensed}
use Rattle.law_gathered.proofs.Fronts.{steps_front}
use Rattle.law_phases.specs.Letters.{HasWrites, IsOfClient, KeepsLetters}
use Rattle.law_phases.proofs.Letters.{told_tell, ticked_tell}
use Rattle.law_asked.proofs.Along as asked
use Rattle.law_asked.proofs.Rooted.{IsOwn, AreOwn, handed_own}
use Rattle.law_complete.proofs.PartWords.{vote_read}
use Rattle.law_complete.proofs.Posted.{WasPosted, WerePosted, posted_later, both_posted, handed_posted, letters_apart, letters_more}
use Rattle.law_complete.proofs.VotesRight.{IsRightVote, right_more}

-- ---- what the client sends

tick_silent : (posts : List Posted) (what : Handed) → is_tick what ≡ true → news_in posts what ≡ Silence
tick_silent posts handed.Tick is = refl
tick_silent posts (handed.Asked r) is = absurd (cc)
tick_silent posts (handed.Deliver k) is = absurd (cc)
tick_silent posts (handed.Stop k) is = absurd (cc)
tick_silent posts (handed.Lie from bytes) is = absurd (cc)
tick_silent posts handed.Crash is = absurd (cc)
tick_silent posts handed.Replace is = absurd (cc)
tick_silent posts handed.ClientCrash is = absurd (cc)

same_when_silent : (volume : Volume) (c : state.Client) (v : ℕ) (x : News) → x ≡ Silence → (told volume c v x).client ≡ c
unfolding told
same_when_silent volume c v x silent = ap (λ (y : News). (told volume c v y).client) silent

module _ (volume : Volume) (posts : List Posted) (c : state.Client) (keeps : KeepsLetters c) (t : TraceStep) where
  abbrev answer : Told
  answer = told volume c t.event (news_of posts t)

  abbrev AllOf : state.Client → List state.Letter → Type 0
  AllOf d letters = AllByRecursion (λ (l : state.Letter). IsOfClient d l.message) letters

  -- the parts among the letters of a step have writes
  letters_of : AllOf answer.client (client_step volume posts c t).outs
  letters_of =
      way_with (is_client t.party) (if is_tick t.handed then ticked volume.geometry c else answer.outs) [] (λ l. AllOf answer.client l)
      (λ mine. way_with (is_tick t.handed) (ticked volume.geometry c) answer.outs (λ l. AllOf answer.client l)
      (λ tick.
      let silent : news_of posts t ≡ Silence = ap (λ (w : Bool). if w then news_in posts t.handed else Silence) mine ∙ tick_silent posts t.handed tick in
      subst (λ (d : state.Client). AllOf d (ticked volume.geometry c)) (sym (same_when_silent volume c t.event (news_of posts t) silent)) (ticked_tell volume c keeps))
      (λ _. (told_tell volume c t.event (news_of posts t) keeps).sends))
      (λ _. tt)

-- ---- along the run

module _ (volume : Volume) (events : List Event) (posts : List Posted) (trace : List TraceStep) (limits : IsWithinLimits (record { volume = volume; events = events })) (strings : List (List ℕ)) (none : NoTwoCollide strings)
    (unlied : is_lied_for events sender.Client ≡ false) (name : NodeName) (sound : IsSound events trace name)
    (right : AllSteps volume.geometry posts name (fresh volume.geometry name.region (formatted volume name)) 0 trace)
    (honest : (who : Sender) → is_lied_for events who ≡ false) (spelled : AllByRecursion (LetterGiven IsSpelled IsSpelled) (letters_to posts name trace)) where
  abbrev shape : Shape
  shape = volume.geometry

  abbrev start : KnownNode
  start = fresh volume.geometry name.region (formatted volume name)

  abbrev Before : List TraceStep → List Past → ℕ → ℕ → state.Client → KnownNode → Type 0
  Before done history n top c known = asked.IsAlong volume events posts trace limits strings none unlied name sound right done history n top c known

  abbrev Given : List Past → ℕ → ℕ → state.Client → KnownNode → List TraceStep → List TraceStep → Type 0
  Given history n m c known done rest = asked.AreGiven volume events posts trace limits strings none unlied name sound right history n m c known done rest

  abbrev judge_here : List Past → Judge
  judge_here history = judge_of volume.geometry events history

  abbrev sent_of : List Past → ℕ
  sent_of history = sent_by (steps_in history)

  -- What holds after the steps of a front part: the parts that the client has posted have writes, what was handed to the node
  -- was posted, and each vote that it has posted is right.
  pub record Votes (judge : Judge) (sent : ℕ) (done : List TraceStep) (c : state.Client) : Type 0 where
    pub keeps : KeepsLetters c
    pub full : (rec : Record) → WasPosted posts sent (record { from = sender.Client; message = message.Part (record { rec = rec }) }) → HasWrites rec
    pub came : WerePosted posts sent (letters_to posts name done)
    pub voted : (v : Prepared) → WasPosted posts sent (record { from = sender.Node name; message = message.Prepared v }) → IsRightVote volume.geometry volume.key judge v

  module _ (done : List TraceStep) (history : List Past) (n top : ℕ) (c : state.Client) (known : KnownNode) (a : Before done history n top c known) (t : TraceStep) (rest : List TraceStep)
      (given : Given history n (top + 1) c known done (t ∷ rest)) (votes : Votes (judge_here history) (sent_of history) done c) where
    abbrev judge : Judge
    judge = judge_here history

    abbrev judge_then : Judge
    judge_then = judge_here (past_of volume events posts history t ∷ history)

    abbrev sent : ℕ
    sent = sent_of history

    abbrev client_then : state.Client
    client_then = (told volume c t.event (news_of posts t)).client

    abbrev letters : List Letter
    letters = letters_to posts name done ++ letters_in posts t.handed

    more : sent ≤ t.sent
    more = (asked.well_here volume events posts trace limits strings none unlied name sound right done history n top c known a t rest given).0.more

    -- ---- the client's parts

    full_then : (rec : Record) → WasPosted posts t.sent (record { from = sender.Client; message = message.Part (record { rec = rec }) }) → HasWrites rec
    full_then rec was = elim (cases_lt sent was.k) [
      | inl above ↦
          let l = asked.letter_of volume events posts trace limits strings none unlied name sound right done history n top c known a t rest given was.k above was.low was.post was.at was.from in
          let same : l.l.message ≡ message.Part (record { rec = rec }) = same_ok l.l.message (message.Part (record { rec = rec })) (sym l.reads ∙ was.reads) in
          subst (λ (x : Message). IsOfClient client_then x) same
          (among_all (λ (x : state.Letter). IsOfClient client_then x.message) (client_step volume posts c t).outs l.l l.among (letters_of volume posts c votes.keeps t))
      | inr within ↦ votes.full rec (record { k = was.k; counted = was.counted; low = within; post = was.post; at = was.at; from = was.from; reads = was.reads })
    ]

    -- ---- what is handed to the node

    came_here : WerePosted posts sent (letters_in posts t.handed)
    came_here = handed_posted events honest posts sent t.handed (asked.over volume events posts trace limits strings none unlied name sound right done history n top c known a t rest given)

    came_then : WerePosted posts t.sent (letters_to posts name (done ++ t ∷ []))
    came_then =
        subst (WerePosted posts t.sent) (sym (letters_more posts name done t))
        (both_posted posts t.sent (letters_to posts name done) (if addresses name t then letters_in posts t.handed else []) (λ l among. posted_later posts sent t.sent more l (votes.came l among))
        (either_way (addresses name t) (letters_in posts t.handed) [] (WerePosted posts t.sent) (λ l among. posted_later posts sent t.sent more l (came_here l among)) (λ l nothing. absurd nothing)))

    -- ---- what it votes for then

    module _ (party : t.party ≡ sender.Node name) where
      abbrev base : Record
      base = base_of shape volume.key (new_session shape) name.region

      abbrev first : Held
      first = formatted volume name

      front : AllSteps shape posts name start 0 done
      front = steps_front volume events posts name start 0 done (t ∷ rest) (subst (λ (l : List TraceStep). AllSteps shape posts name start 0 l) given.whole right)

      own : AreOwn volume posts judge letters
      own =
          all_both (IsOwn volume posts judge) (letters_to posts name done) (letters_in posts t.handed) a.letters
          (handed_own volume posts judge events sent unlied a.posted t.handed (asked.over volume events posts trace limits strings none unlied name sound right done history n top c known a t rest given))

      are_spelled : AllByRecursion (LetterGiven IsSpelled IsSpelled) letters
      are_spelled =
          let apart : letters_to posts name trace ≡ letters_to posts name done ++ letters_to posts name (t ∷ rest) =
          ap (λ (l : List TraceStep). letters_to posts name l) given.whole ∙ letters_apart posts name done (t ∷ rest) in
          let both = all_split (LetterGiven IsSpelled IsSpelled) (letters_to posts name done) (letters_to posts name (t ∷ rest)) (subst (λ (l : List Letter). AllByRecursion (LetterGiven IsSpelled IsSpelled) l) apart spelled) in
          let here = all_split (LetterGiven IsSpelled IsSpelled) (if addresses name t then letters_in posts t.handed else []) (letters_to posts name rest) both.1 in
          let mine : addresses name t ≡ true = asked.mine volume events posts trace limits strings none unlied name sound right done history n top c known a t rest given party in
          all_both (LetterGiven IsSpelled IsSpelled) (letters_to posts name done) (letters_in posts t.handed) both.0
          (subst (λ (w : Bool). AllByRecursion (LetterGiven IsSpelled IsSpelled) (if w then letters_in posts t.handed else [])) mine here.0)

      came_letters : WerePosted posts sent letters
      came_letters = both_posted posts sent (letters_to posts name done) (letters_in posts t.handed) votes.came came_here

      -- in each of the contents that the disk may mean then
      abbrev everywhere : (Held → Type 0) → Type 0
      everywhere P = AllByRecursion P (after_handed shape name.region posts (known_of shape posts name start done) t.handed t.failed).contents

      -- the part of its licence
      module _ (v : Prepared) (rec : Record) (for : IsVotedFor letters v rec) where
        vote_right : IsRightVote shape volume.key judge v
        vote_right = record {
          rec = rec;
          tagged = among_all (IsOwn volume posts judge) letters (record { from = sender.Client; message = message.Part (record { rec = rec }) }) for.came own refl rec (inl refl);
          full = votes.full rec (came_letters (record { from = sender.Client; message = message.Part (record { rec = rec }) }) for.came);
          session = for.session;
          seq = for.seq;
          region = for.region;
          root = for.root;
        }

        vote_wide : PreparedWidths v
        vote_wide =
            let wide : HasWidths rec.header = (among_all (LetterGiven IsSpelled IsSpelled) letters (record { from = sender.Client; message = message.Part (record { rec = rec }) }) for.came are_spelled).widths.header_typed in (
              subst (λ (x : ℕ). x < 2 ^ 64) for.session wide.session_width,
              (subst (λ (x : ℕ). x < 2 ^ 64) for.seq wide.seq_width, (subst (λ (x : ℕ). x < 2 ^ 16) for.region wide.region_width, subst (λ (x : List ℕ). length x ≡ 32) for.root wide.root_width)),
            )

      out_right : (out : Sending) → IsAmong out (outs_to shape name.region posts known t.handed t.failed) → (v : Prepared) → message_at (message_bytes out.message) ≡ Ok (message.Prepared v) → IsRightVote shape volume.key judge v
      out_right out among v reads =
          let within = asked.within_here volume events posts trace limits strings none unlied name sound right done history n top c known a t rest given party in
          let begun : BeginsFormatted shape base first = formatted_begins volume name within in
          let there : IsAmong out (outs_to shape name.region posts (known_of shape posts name start done) t.handed t.failed) =
          subst (λ (k : KnownNode). IsAmong out (outs_to shape name.region posts k t.handed t.failed)) (sym a.known_is) among in
          let licence : IsLicensed shape letters base (moments_of shape posts name start done) everywhere name.region out.message =
          among_all (λ (o : Sending). IsLicensed shape letters base (moments_of shape posts name start done) everywhere name.region o.message) (outs_to shape name.region posts (known_of shape posts name start done) t.handed t.failed) out there
          (messages_licensed shape posts name first done front begun.parts base t.handed t.failed begun.bases) in
          let of : (x : Prepared) → out.message ≡ message.Prepared x → IsLicensed shape letters base (moments_of shape posts name start done) everywhere name.region (message.Prepared x) =
          λ x is. subst (λ (m : Message). IsLicensed shape letters base (moments_of shape posts name start done) everywhere name.region m) is licence in
          let is : out.message ≡ message.Prepared v = vote_read out.message (λ x same. vote_wide x (of x same).0 (of x same).1) v reads in
          vote_right v (of v is).0 (of v is).1

      new_vote : (k : ℕ) → sent < k → k ≤ t.sent → (post : Posted) → posted_at posts k ≡ Some post → (v : Prepared) → message_at post.bytes ≡ Ok (message.Prepared v) → IsRightVote shape volume.key judge v
      new_vote k above low post at v reads =
          let outs : List Sending = outs_to shape name.region posts known t.handed t.failed in
          let send : Sending → Posted = λ out. record { from = sender.Node name; to = out.to; bytes = message_bytes out.message } in
          let node = asked.node_now volume events posts trace limits strings none unlied name sound right done history n top c known a t rest given party in
          let found = among_map send post outs (subst (λ (l : List Posted). IsAmong post l) node.messages (among_between posts sent t.sent k post at above low)) in
          out_right found.0 found.1 v (ap (λ (m : Posted). message_at m.bytes) (sym found.2) ∙ reads)

    voted_then : (v : Prepared) → WasPosted posts t.sent (record { from = sender.Node name; message = message.Prepared v }) → IsRightVote shape volume.key judge_then v
    voted_then v was =
        let on : IsRightVote shape volume.key judge v → IsRightVote shape volume.key judge_then v =
        λ one. right_more shape volume.key judge judge_then a.standing.settled.sized (asked.grows volume events posts trace limits strings none unlied name sound right done history n top c known a t rest given) v one in
        elim (cases_lt sent was.k) [
          | inl above ↦
              on
              (new_vote (sym (asked.posted_own volume events posts trace limits strings none unlied name sound right done history n top c known a t rest given was.k above was.low was.post was.at) ∙ was.from) was.k above was.low was.post was.at
              v was.reads)
          | inr within ↦ on (votes.voted v (record { k = was.k; counted = was.counted; low = within; post = was.post; at = was.at; from = was.from; reads = was.reads }))
        ]

    -- So it is after the step.
    votes_then : Votes judge_then t.sent (done ++ t ∷ []) client_then
    votes_then = record { keeps = (told_tell volume c t.event (news_of posts t) votes.keeps).keeps; full = full_then; came = came_then; voted = voted_then }

  -- ---- at the end of a front part

  pub record IsEnd (done : List TraceStep) (history : List Past) : Type 0 where
    pub c : state.Client
    pub sized : EachKnown (judge_of volume.geometry events history) (IsSized volume.geometry)
    pub votes : Votes (judge_of volume.geometry events history) (sent_by (steps_in history)) done c

  pub end_of : (steps rest done : List TraceStep) (history : List Past) (n top : ℕ) (c : state.Client) (known : KnownNode) → Before done history n top c known → Given history n (top + 1) c known done (steps ++ rest)
      → Votes (judge_here history) (sent_of history) done c → IsEnd (done ++ steps) (history_from volume events posts history steps)
  unfolding history_from
  end_of [] rest done history n top c known a given votes = subst (λ (l : List TraceStep). IsEnd l history) (sym (append-nil done)) (record { c = c; sized = a.standing.settled.sized; votes = votes })
  end_of (t ∷ steps) rest done history n top c known a given votes =
      subst (λ (l : List TraceStep). IsEnd l (history_from volume events posts (past_of volume events posts history t ∷ history) steps)) (append_assoc done (t ∷ []) steps)
      (end_of steps rest (done ++ t ∷ []) (past_of volume events posts history t ∷ history) _ _ _ _
      (asked.along_then volume events posts trace limits strings none unlied name sound right done history n top c known a t (steps ++ rest) given)
      (asked.given_then volume events posts trace limits strings none unlied name sound right done history n top c known a t (steps ++ rest) given)
      (votes_then done history n top c known a t (steps ++ rest) given votes))
