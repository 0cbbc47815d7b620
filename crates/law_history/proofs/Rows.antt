-- The lines that are due for a node's message: fair ones, or one that stages or opens a session, or tells that it is lost.
use Rattle.std.proofs.Common.{◌≡◌, ◌⊎◌, ℕ, ◌≤◌, ◌==◌, ◌&&◌, not, List, [], ◌∷◌, drop, length, Option, None, Some, inl, inr, refl, sym, subst, arith}
use Rattle.std.proofs.lemmas.Bool.{cond_both}
use Rattle.salus_types.specs.Volume.{Shape}
use Rattle.salus_types.specs.declared.names.NodeName.{NodeName}
use Rattle.salus_types.specs.declared.records.Header.{Header}
use Rattle.merkle_region.specs.Tree.{IsAmong, NoTwoCollide}
use Rattle.salus_message.specs.declared.wire.Message.{Message}
use Rattle.salus_message.specs.declared.wire.Message.TheVariants as message
use Rattle.schedule_text.specs.declared.schedule.Volume.{Volume}
use Rattle.schedule_text.specs.declared.schedule.Event.{Event}
use Rattle.printed_lines.specs.declared.line.Line.{Line}
use Rattle.printed_lines.specs.declared.line.Line.TheVariants as line
use Rattle.volume_model.specs.Parts.{Session}
use Rattle.salus_model.specs.Judge.{Judge, known_at, last_number, AlongLines, IsPrefixOf, IsOpened, KeepsAll, IsKeptLine}
use Rattle.salus_model.specs.Hearing.{News, Says, Past, since, opens, begins, stages, news_since, Phase, Serving, Closed, Gathering, Fetching, Staged}
use Rattle.salus_model.specs.Waiting.{Taken, has_ended, all_taken, live}
use Rattle.salus_model.specs.Answering.{present_root}
use Rattle.volume_model.specs.Recovering.{choice_of}
use Rattle.salus_model.specs.Opening.{replies_to, all_replied, pool_of, all_switched, is_fetched}
use Rattle.salus_model.specs.Due.{due_choice, due_replies, due_serving, due_gathering, due_fetching, due_staged, due_message}
use Rattle.std.specs.Prelude.{IsSomeAnd}
use Rattle.list_lemmas.proofs.Members.{among_map}
use Rattle.law_lemmas.proofs.Settled.{EachKnown, IsSettled, now-known, not_known}
use Rattle.law_history.specs.Keeping.{IsChoiceKept}
use Rattle.law_history.proofs.Chosen.{HasContents, IsRightChoice, choice_right}
use Rattle.law_history.proofs.Fairly.{AreFair, IsKept}
use Rattle.law_history.proofs.Joined.{AreGood, good_filter}
use Rattle.law_history.proofs.Acked.{acks-fair}
use Rattle.law_history.proofs.Answered.{answer-fair}
use Rattle.law_history.proofs.Heard.{IsHeard, pool_tagged, among_since}
use Rattle.law_history.proofs.Phases.{IsOpening, IsToOpen, PhaseFits}

pub record IsStageRow (K : Type 0) (events : List Event) (judge : Judge) (top : ℕ) (lines : List Line) : Type 0 where
  pub e : ℕ
  pub f : ℕ
  pub s : ℕ
  pub is : lines ≡ line.Stage e f s ∷ []
  pub legal : IsPrefixOf events judge e f s
  pub opening : IsOpening events judge top e
  pub keeps : K → IsKeptLine judge (line.Stage e f s)

pub record IsOpenRow (judge : Judge) (top : ℕ) (lines : List Line) : Type 0 where
  pub e : ℕ
  pub is : lines ≡ line.Open e ∷ []
  pub legal : IsOpened judge e
  pub within : e ≤ top

pub record IsLostRow (lines : List Line) : Type 0 where
  pub e : ℕ
  pub is : lines ≡ line.Lost e ∷ []

-- K is the premise under which a session that is staged has all that was acknowledged
abbrev pub IsRow : Type 0 → Shape → List Event → List Taken → ℕ → ℕ → Judge → List Line → Type 0
IsRow K shape events all m top judge lines =
    AreFair shape events all m judge lines ⊎ (IsStageRow K events judge top lines ⊎ (IsOpenRow judge top lines ⊎ IsLostRow lines))

-- the news since the gathering began is heard, with that of one more step
pub all_heard : (volume : Volume) (judge : Judge) (strings : List (List ℕ)) (history : List Past)
    → ((p : Past) → IsAmong p history → IsHeard volume judge strings p.news) → (news : News) → IsHeard volume judge strings news
    → (x : News) → IsAmong x (news ∷ news_since begins history) → IsHeard volume judge strings x
all_heard volume judge strings history heard news here x among = elim among [
  | inl same ↦ subst (IsHeard volume judge strings) (sym same) here
  | inr earlier ↦
      let from = among_map (λ (p : Past). p.news) x (since begins history) earlier in
      subst (IsHeard volume judge strings) (sym from.2) (heard from.0 (among_since begins history from.0 from.1))
]

module _ (volume : Volume) (events : List Event) (history : List Past) (m top : ℕ) (judge : Judge) (settled : IsSettled volume.geometry judge top)
    (good : AreGood volume.geometry events m (all_taken (since opens history))) (kept : IsKept (all_taken (since opens history)) m judge)
    (strings : List (List ℕ)) (none : NoTwoCollide strings) (contents : EachKnown judge (HasContents volume.geometry strings)) where
  abbrev all : List Taken
  all = all_taken (since opens history)

  abbrev IsRowHere : Type 0 → List Line → Type 0
  IsRowHere K lines = IsRow K volume.geometry events all m top judge lines

  nothing : (K : Type 0) → IsRowHere K []
  unfolding AlongLines
  nothing K = inl tt

  -- ---- serving

  good_live : AreGood volume.geometry events m (live history judge)
  unfolding live
  good_live = good_filter volume.geometry events m (λ r. not (has_ended judge r.event)) all good

  row_serving : (K : Type 0) (name : NodeName) (x : Message) → IsHeard volume judge strings (Says name x) → IsRowHere K (due_serving volume.geometry events history judge name x)
  unfolding AlongLines
  row_serving K name (message.Committed c) heard =
      cond_both {A = List Line} (c.session == judge.now.session) _ [] (IsRowHere K)
      (λ t. inl (acks-fair volume.geometry events all m (live history judge) good_live (Says name (message.Committed c) ∷ news_since opens history) (drop judge.acked judge.now.list) judge refl))
      (λ t. nothing K)
  row_serving K name (message.Answer a) heard =
      inl (answer-fair volume.geometry events history m judge (settled.sized judge.now judge.now.session (now-known judge)) good kept strings none
      (contents judge.now judge.now.session (now-known judge)) name a (λ x i. heard.seen x i))
  row_serving K name other heard = nothing K

  -- ---- gathering

  stage_choice : (K : Type 0) (e : ℕ) (h : Header) (known : Session) → IsOpening events judge top e → known_at judge h.session ≡ Some known → h.seq ≤ length known.list → (K → IsKeptLine judge (line.Stage e h.session h.seq))
      → IsRowHere K (line.Stage e h.session h.seq ∷ [])
  stage_choice K e h known opening at within keeps = inr (inl (record {
    e = e;
    f = h.session;
    s = h.seq;
    is = refl;
    legal = record { event = opening.event; asked = opening.asked; fresh = not_known judge e (known_at judge e) refl opening.below; from = known; known = at; within = within };
    opening = opening;
    keeps = keeps;
  }))

  abbrev AreHeard : List News → Type 0
  AreHeard news = (x : News) → IsAmong x news → IsHeard volume judge strings x

  -- the choice of a gathering is a front part of a known session, and what is recovered of it are the contents after it
  pub gathered-choice : (e : ℕ) (news : List News) (heard : AreHeard news) (h : Header)
      → choice_of volume.geometry (pool_of volume.geometry volume.key (replies_to e news)) ≡ Some h
      → IsRightChoice volume.geometry volume.key judge strings none settled.sized contents (pool_of volume.geometry volume.key (replies_to e news))
      (pool_tagged volume judge strings e news heard) h
  gathered-choice e news heard h is =
      choice_right volume.geometry volume.key judge strings none settled.sized contents (pool_of volume.geometry volume.key (replies_to e news))
      (pool_tagged volume judge strings e news heard) h is

  row_choice : (K : Type 0) (e : ℕ) (news : List News) → AreHeard news → IsOpening events judge top e
      → (K → (h : Header) → choice_of volume.geometry (pool_of volume.geometry volume.key (replies_to e news)) ≡ Some h → IsKeptLine judge (line.Stage e h.session h.seq))
      → (o : Option Header) → choice_of volume.geometry (pool_of volume.geometry volume.key (replies_to e news)) ≡ o → IsRowHere K (due_choice e o)
  row_choice K e news heard opening keeps None is = inr (inr (inr (record { e = e; is = refl })))
  row_choice K e news heard opening keeps (Some h) is =
      let right = gathered-choice e news heard h is in
      stage_choice K e h right.known opening right.of.at right.of.within (λ k. keeps k h is)

  row_gathering : (e : ℕ) (name : NodeName) (x : Message) → IsOpening events judge top e → AreHeard (Says name x ∷ news_since begins history)
      → IsRowHere (IsChoiceKept volume history judge (Says name x) (Gathering e)) (due_gathering volume history e name x)
  row_gathering e name (message.Gathered g) opening heard =
      let news : List News = Says name (message.Gathered g) ∷ news_since begins history in
      let K : Type 0 = IsChoiceKept volume history judge (Says name (message.Gathered g)) (Gathering e) in
      cond_both {A = List Line} (g.session == e) (due_replies volume e (replies_to e (Says name (message.Gathered g) ∷ news_since begins history))) [] (IsRowHere K)
      (λ t. cond_both {A = List Line} (all_replied volume.geometry (replies_to e news)) _ [] (IsRowHere K)
      (λ u. row_choice K e news heard opening (λ k h is. k e h refl u is) (choice_of volume.geometry (pool_of volume.geometry volume.key (replies_to e news))) refl)
      (λ u. nothing K))
      (λ t. nothing K)
  row_gathering e name other opening heard = nothing (IsChoiceKept volume history judge (Says name other) (Gathering e))

  -- ---- fetching, and staged

  row_fetching : (K : Type 0) (e g : ℕ) (name : NodeName) (x : Message) → IsOpening events judge top e → IsRowHere K (due_fetching volume.geometry judge e g name x)
  row_fetching K e g name (message.Dumped d) opening =
      cond_both {A = List Line} (is_fetched volume.geometry judge.now.session g (present_root volume.geometry judge g) name d) (line.Stage e judge.now.session (last_number judge) ∷ []) [] (IsRowHere K)
      (λ t. inr (inl (record {
        e = e;
        f = judge.now.session;
        s = last_number judge;
        is = refl;
        legal = record {
          event = opening.event;
          asked = opening.asked;
          fresh = not_known judge e (known_at judge e) refl opening.below;
          from = judge.now;
          known = now-known judge;
          within = omega arith;
        };
        opening = opening;
        keeps = λ k. subst (λ o. IsSomeAnd o (λ from. KeepsAll judge (last_number judge) from)) (sym (now-known judge))
            (record { within = omega arith; same = refl; acknowledged = kept.acked });
      })))
      (λ t. nothing K)
  row_fetching K e g name other opening = nothing K

  row_staged : (K : Type 0) (e : ℕ) (name : NodeName) (x : Message) → IsToOpen judge top e → IsRowHere K (due_staged volume.geometry history e name x)
  row_staged K e name (message.Switched w) to_open =
      cond_both {A = List Line} ((w.session == e) && all_switched volume.geometry e (Says name (message.Switched w) ∷ news_since stages history)) (line.Open e ∷ []) [] (IsRowHere K)
      (λ t. inr (inr (inl (record { e = e; is = refl; legal = record { last = to_open.last; once = to_open.once }; within = to_open.within }))))
      (λ t. nothing K)
  row_staged K e name other to_open = nothing K

  -- ---- any phase

  pub row_message : (heard : (p : Past) → IsAmong p history → IsHeard volume judge strings p.news) (name : NodeName) (x : Message) → IsHeard volume judge strings (Says name x)
      → (phase : Phase) → PhaseFits events judge top phase
      → IsRowHere (IsChoiceKept volume history judge (Says name x) phase) (due_message volume events history judge name x phase)
  row_message heard name x here Serving fits = row_serving (IsChoiceKept volume history judge (Says name x) Serving) name x here
  row_message heard name x here Closed fits = nothing (IsChoiceKept volume history judge (Says name x) Closed)
  row_message heard name x here (Gathering e) fits =
      row_gathering e name x fits (all_heard volume judge strings history heard (Says name x) here)
  row_message heard name x here (Fetching e g) fits = row_fetching (IsChoiceKept volume history judge (Says name x) (Fetching e g)) e g name x fits
  row_message heard name x here (Staged e) fits = row_staged (IsChoiceKept volume history judge (Says name x) (Staged e)) e name x fits
