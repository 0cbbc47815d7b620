-- Along a run: each claim of a sound node was of known batches when the client heard it.
use Rattle.std.proofs.Common.{◌≡◌, ◌∙◌, inl, inr, ℕ, ◌+◌, false, not, List, [], ◌∷◌, ◌++◌, refl, sym, ap, subst, append_assoc, append-nil}
use Rattle.std.specs.List.{AllByRecursion}
use Rattle.std.proofs.lemmas.Bool.{true≢false}
use Rattle.salus_types.specs.Volume.{Shape}
use Rattle.salus_types.specs.declared.names.NodeName.{NodeName}
use Rattle.salus_types.specs.declared.names.Sender.TheVariants as sender
use Rattle.salus_message.specs.declared.small.Committed.{Committed}
use Rattle.salus_message.specs.declared.wire.Message.TheVariants as message
use Rattle.schedule_text.specs.Limits.{IsWithinLimits}
use Rattle.schedule_text.specs.declared.schedule.Volume.{Volume}
use Rattle.schedule_text.specs.declared.schedule.Event.{Event}
use Rattle.merkle_region.specs.Tree.{IsAmong, NoTwoCollide}
use Rattle.salus_model.specs.declared.trace.TraceStep.{TraceStep}
use Rattle.salus_model.specs.Judge.{Judge, IsLegalLine, AlongLines}
use Rattle.salus_model.specs.Following.{Posted, sent_by}
use Rattle.salus_model.specs.Guarding.{is_lied_for}
use Rattle.salus_model.specs.Hearing.{News, Says, Past, judge_of}
use Rattle.salus_model.specs.Due.{past_of, history_from}
use Rattle.salus_model.specs.Complete.{IsSound}
use Rattle.salus_model.specs.Licences.{letters_to}
use Rattle.client_rules.specs.State as state
use Rattle.run_rules.specs.Knowing.{KnownNode, fresh}
use Rattle.run_rules.specs.Running.{AllSteps, formatted}
use Rattle.list_lemmas.proofs.Tests.{and_left}
use Rattle.law_history.specs.Handing.{steps_in}
use Rattle.law_handed.specs.Fitting.{IsSpelled, LetterGiven}
use Rattle.law_phases.specs.Opening.{AreCountable}
use Rattle.law_phases.proofs.Countable.{lines_countable}
use Rattle.law_asked.proofs.Along as asked
use Rattle.law_asked.proofs.Said.{IsSaid, step_said}
use Rattle.law_complete.proofs.HearingKnown.{IsKnownUpTo}
use Rattle.law_complete.proofs.HearingHeard.{ClaimsKnown, claims_then}
use Rattle.law_served.proofs.Stepped.{legal_now}
use Rattle.law_complete.proofs.Opened.{IsOrderly, AllLast, lines_last}
use Rattle.law_complete.proofs.Lasting.{IsLasting, lasting_then}

module _ (volume : Volume) (events : List Event) (posts : List Posted) (trace : List TraceStep) (limits : IsWithinLimits (record { volume = volume; events = events })) (strings : List (List ℕ)) (none : NoTwoCollide strings)
    (unlied : is_lied_for events sender.Client ≡ false) (name : NodeName) (sound : IsSound events trace name)
    (right : AllSteps volume.geometry posts name (fresh volume.geometry name.region (formatted volume name)) 0 trace)
    (spelled : AllByRecursion (LetterGiven IsSpelled IsSpelled) (letters_to posts name trace)) where
  abbrev shape : Shape
  shape = volume.geometry

  abbrev pub Along : List TraceStep → List Past → ℕ → ℕ → state.Client → KnownNode → Type 0
  Along done history n top c known = asked.IsAlong volume events posts trace limits strings none unlied name sound right done history n top c known

  abbrev pub Given : List Past → ℕ → ℕ → state.Client → KnownNode → List TraceStep → List TraceStep → Type 0
  Given history n m c known done rest = asked.AreGiven volume events posts trace limits strings none unlied name sound right history n m c known done rest

  abbrev judge_here : List Past → Judge
  judge_here history = judge_of volume.geometry events history

  abbrev sent_of : List Past → ℕ
  sent_of history = sent_by (steps_in history)

  -- a claim that the client hears of the node then
  abbrev pub IsKnownThen : Past → Type 0
  IsKnownThen p = (c : Committed) → p.news ≡ Says name (message.Committed c) → IsKnownUpTo p.before c.session c.front

  -- between two steps
  pub record IsBetween (history : List Past) : Type 0 where
    pub claims : ClaimsKnown volume events posts trace limits strings none unlied name sound right spelled (judge_here history) (sent_of history)
    pub countable : AreCountable shape events (judge_here history)
    pub orderly : IsOrderly (judge_here history)
    pub lasting : (q : Past) → IsAmong q history → IsLasting history (judge_here history) q
    pub heard : (q : Past) → IsAmong q history → IsKnownThen q

  module _ (done : List TraceStep) (history : List Past) (n top : ℕ) (c : state.Client) (known : KnownNode) (a : Along done history n top c known) (t : TraceStep) (rest : List TraceStep)
      (given : Given history n (top + 1) c known done (t ∷ rest)) (b : IsBetween history) where
    abbrev p : Past
    p = past_of volume events posts history t

    legal : AlongLines (IsLegalLine shape events) events (judge_here history) p.lines
    legal =
        legal_now volume events strings none posts n top history t a.some
        (asked.fits volume events posts trace limits strings none unlied name sound right done history n top c known a t rest given).0 (given.scheduled t (inl refl)) a.standing
        (asked.shows_now volume events posts trace limits strings none unlied name sound right done history n top c known a t rest given)
        (asked.within_now volume events posts trace limits strings none unlied name sound right done history n top c known a t rest given)

    all_last : AllLast shape events p.lines (judge_here history)
    all_last = lines_last shape events p.lines (judge_here history) legal b.orderly

    known_now : IsKnownThen p
    known_now q is =
        let over = asked.over volume events posts trace limits strings none unlied name sound right done history n top c known a t rest given in
        let said : IsSaid events posts (sent_of history) (Says name (message.Committed q)) = subst (λ (x : News). IsSaid events posts (sent_of history) x) is (step_said events posts (sent_of history) t over) in
        by said
      where
        by : IsSaid events posts (sent_of history) (Says name (message.Committed q)) → IsKnownUpTo (judge_here history) q.session q.front
        by (inl lied) = absurd (true≢false (sym (and_left (not (is_lied_for events (sender.Node name))) _ sound.right) ∙ ap not lied))
        by (inr was) = b.claims was.k was.counted was.low was.post was.at was.from q was.reads

    heard_now : (q : Past) → IsAmong q (p ∷ history) → IsKnownThen q
    heard_now q (inl same) = subst IsKnownThen (sym same) known_now
    heard_now q (inr among) = b.heard q among

    between_then : IsBetween (p ∷ history)
    between_then = record {
      claims = claims_then volume events posts trace limits strings none unlied name sound right spelled done history n top c known a t rest given b.claims;
      countable = lines_countable volume events limits p.lines (judge_here history) legal b.countable;
      orderly = all_last.orderly;
      lasting = lasting_then shape events history p all_last b.orderly b.lasting;
      heard = heard_now;
    }

  -- at the end of the steps
  pub record IsEnd (done : List TraceStep) (history : List Past) : Type 0 where
    pub n : ℕ
    pub top : ℕ
    pub c : state.Client
    pub known : KnownNode
    pub along : Along done history n top c known
    pub between : IsBetween history

  pub end_from : (rest done : List TraceStep) (history : List Past) (n top : ℕ) (c : state.Client) (known : KnownNode) → Along done history n top c known → Given history n (top + 1) c known done rest → IsBetween history
      → IsEnd (done ++ rest) (history_from volume events posts history rest)
  unfolding history_from
  end_from [] done history n top c known a given b =
      subst (λ (l : List TraceStep). IsEnd l history) (sym (append-nil done)) (record { n = n; top = top; c = c; known = known; along = a; between = b })
  end_from (t ∷ rest) done history n top c known a given b =
      subst (λ (l : List TraceStep). IsEnd l (history_from volume events posts (past_of volume events posts history t ∷ history) rest)) (append_assoc done (t ∷ []) rest)
      (end_from rest (done ++ t ∷ []) (past_of volume events posts history t ∷ history) _ _ _ _ (asked.along_then volume events posts trace limits strings none unlied name sound right done history n top c known a t rest given)
      (asked.given_then volume events posts trace limits strings none unlied name sound right done history n top c known a t rest given) (between_then done history n top c known a t rest given b))
