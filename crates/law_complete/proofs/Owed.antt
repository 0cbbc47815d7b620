-- What is owed to a question of the head: in each step it stays owed, as long as it is asked.
use Rattle.std.proofs.Common.{◌≡◌, ◌∙◌, inl, inr, ℕ, ◌≤◌, ◌==◌, Bool, true, false, if◌then◌else◌, List, ◌∷◌, Option, Some, refl, sym, ap, subst, eqb-true}
use Rattle.std.specs.Prelude.{IfSome, Result}
use Rattle.std.proofs.lemmas.Bool.{true≢false, eq-eqb}
use Rattle.salus_types.specs.Volume.{Shape}
use Rattle.salus_types.specs.declared.names.NodeName.{NodeName}
use Rattle.salus_types.specs.declared.names.Sender.{Sender}
use Rattle.salus_types.specs.declared.names.Sender.TheVariants as sender
use Rattle.salus_types.specs.declared.strike.Strike.{Strike}
use Rattle.salus_message.specs.declared.replies.Answer.{Answer}
use Rattle.salus_message.specs.declared.wire.Message.{Message}
use Rattle.salus_message.specs.declared.wire.Message.TheVariants as message
use Rattle.salus_message.specs.declared.wire.MessageError.{MessageError}
use Rattle.schedule_text.specs.declared.schedule.Volume.{Volume}
use Rattle.merkle_region.specs.Tree.{IsAmong}
use Rattle.volume_model.specs.Contents.{region_of}
use Rattle.volume_model.specs.Groups.{is_client, same_party, group_of}
use Rattle.salus_model.specs.declared.trace.Handed.{Handed}
use Rattle.salus_model.specs.declared.trace.Handed.TheVariants as handed
use Rattle.salus_model.specs.declared.trace.TraceStep.{TraceStep}
use Rattle.salus_model.specs.Following.{Posted, posted_at, hands, sent_by}
use Rattle.salus_model.specs.Hearing.{News, Says, Silence, news_from, news_of_post, news_of_message, news_in, news_of}
use Rattle.salus_model.specs.Waiting.{Question}
use Rattle.salus_model.specs.Answering.{Struck, is_fitting}
use Rattle.salus_model.specs.Complete.{is_stop}
use Rattle.client_rules.specs.State as state
use Rattle.client_rules.specs.State.{Open, Letter}
use Rattle.client_rules.specs.Tables.{worth, answers}
use Rattle.client_rules.specs.Rules.{is_tick, told}
use Rattle.replica_rules.specs.Nodes.{Memory}
use Rattle.run_rules.specs.Running.{addresses}
use Rattle.list_lemmas.proofs.Members.{among_all}
use Rattle.list_lemmas.proofs.Tests.{by_bool}
use Rattle.law_lemmas.proofs.Named.{node-itself}
use Rattle.law_answers.proofs.Asks.{both_true}
use Rattle.law_reads.specs.Reading.{counts, IsAskedOf, IsNew}
use Rattle.law_reads.specs.Serving.{KeepsOne}
use Rattle.law_reads.proofs.Relay.{Arrives, IsKept, IsAsked, owed_step}
use Rattle.law_reads.proofs.Underway.{HandsSent}
use Rattle.law_reads.proofs.Served.{IsAskOf, IsReplyOf, IsOwed, HandsOwn}
use Rattle.law_reads.proofs.Asking.{IsOwnStep, ask_sent}
use Rattle.law_heads.specs.Heads.{IsAskedAgain, StaysAsked, AreOfHead, AsksHead}
use Rattle.law_heads.proofs.Asked.{asks_head}
use Rattle.law_asked.proofs.Serves.{GoesOn, told_on}

-- ---- what a message tells the client

handed_news : (posts : List Posted) (what : Handed) (k : ℕ) (m : Posted) → is_stop what ≡ false → hands k what ≡ true → posted_at posts k ≡ Some m
    → (news_in posts what ≡ news_from m.from m.bytes) × (is_tick what ≡ false)
handed_news posts (handed.Deliver j) k m runs hit at =
    (ap (λ (n : ℕ). news_of_post (posted_at posts n)) (eqb-true j k hit) ∙ ap (λ (o : Option Posted). news_of_post o) at, refl)
handed_news posts (handed.Stop j) k m runs hit at = absurd (true≢false runs)
handed_news posts (handed.Asked r) k m runs hit at = absurd (cc)
handed_news posts (handed.Lie from bytes) k m runs hit at = absurd (cc)
handed_news posts handed.Tick k m runs hit at = absurd (cc)
handed_news posts handed.Crash k m runs hit at = absurd (cc)
handed_news posts handed.Replace k m runs hit at = absurd (cc)
handed_news posts handed.ClientCrash k m runs hit at = absurd (cc)

tick_silent : (posts : List Posted) (what : Handed) → is_tick what ≡ true → news_in posts what ≡ Silence
tick_silent posts handed.Tick is = refl
tick_silent posts (handed.Asked r) is = absurd (cc)
tick_silent posts (handed.Deliver k) is = absurd (cc)
tick_silent posts (handed.Stop k) is = absurd (cc)
tick_silent posts (handed.Lie from bytes) is = absurd (cc)
tick_silent posts handed.Crash is = absurd (cc)
tick_silent posts handed.Replace is = absurd (cc)
tick_silent posts handed.ClientCrash is = absurd (cc)

serves_one : (s next : state.Serving) → state.Serves s ≡ state.Serves next → s ≡ next
serves_one s next is = cc

-- a question of session e is owed by that node
abbrev pub Owes : Volume → List Posted → NodeName → ℕ → Question → Option Memory → List TraceStep → Type 0
Owes volume posts name e q memory earlier = IsOwed volume.geometry posts name e q.number q.block ⊥ memory earlier

module _ (volume : Volume) (posts : List Posted) (name : NodeName) (memory : Option Memory) (earlier : List TraceStep) (t : TraceStep) (sent : HandsSent (t ∷ earlier)) where
  abbrev shape : Shape
  shape = volume.geometry

  abbrev x : News
  x = news_of posts t

  -- ---- a step of another party

  not_here : (k : ℕ) (m : Posted) → posted_at posts k ≡ Some m → HandsOwn posts t → hands k t.handed ≡ true → m.to ≡ t.party
  not_here k m at own hit = subst (λ (p : Option Posted). IfSome p (λ q. q.to ≡ t.party)) at (own k hit)

  pub other_owes : (e : ℕ) (q : Question) → is_client t.party ≡ false → addresses name t ≡ false → HandsOwn posts t → sent_by earlier ≤ t.sent → Owes volume posts name e q memory earlier
      → Owes volume posts name e q memory (t ∷ earlier)
  other_owes e q other away own more owed =
      owed_step (IsAskOf posts name e q.number q.block) (IsReplyOf shape posts name e q.number q.block) ⊥ (KeepsOne e q.number q.block memory) ⊥ (KeepsOne e q.number q.block memory) t earlier more
      (record {
        done = λ done. absurd done;
        kept = λ kept. IsKept kept;
        asked = λ arrives. absurd (true≢false (sym (node-itself name) ∙ (ap (λ (w : Sender). same_party w (sender.Node name)) (not_here arrives.k _ arrives.is_one.at own arrives.handed) ∙ away)));
        answered = λ arrives. absurd (true≢false (ap is_client (not_here arrives.k _ arrives.is_one.at own arrives.handed) ∙ other));
      }) owed

  -- ---- a step of the client

  module _ (s : state.Serving) (mine : IsOwnStep volume posts (state.Serves s) earlier t) where
    abbrev outs : List Letter
    outs = (told volume (state.Serves s) t.event x).outs

    abbrev IsFair : Question → Type 0
    IsFair q = (a : Answer) → x ≡ Says name (message.Answer a) → counts shape s name a ≡ true → a.block ≡ q.block → (k : Strike) → worth shape s a ≡ Struck k → ⊥

    not_node : sender.Node name ≡ sender.Client → ⊥
    not_node is = cc

    not_asked : (e : ℕ) (q : Question) → Arrives (IsAskOf posts name e q.number q.block) t → ⊥
    not_asked e q arrives = not_node (not_here arrives.k _ arrives.is_one.at mine.own arrives.handed ∙ mine.party)

    -- an answer has it asked again
    again_sent : (o : Open) → IsAskedAgain shape s o x outs → IsFair o.question → Arrives (IsReplyOf shape posts name s.session o.question.number o.question.block) t
        → Owes volume posts name s.session o.question memory (t ∷ earlier)
    again_sent o again is_fair arrives =
        let r = arrives.is_one in
        let m : Posted = record { from = sender.Node name; to = sender.Client; bytes = r.bytes } in
        let news = handed_news posts t.handed arrives.k m mine.runs arrives.handed r.at in
        let is : x ≡ Says name (message.Answer r.answer) =
        ap (λ (p : Bool). if p then news_in posts t.handed else Silence) (ap is_client mine.party)
        ∙ (news.0 ∙ ap (λ (d : Result Message MessageError). news_of_message name d) r.decoded) in
        let count : counts shape s name r.answer ≡ true = both_true (r.answer.session == s.session) (is_fitting shape name r.answer) (eq-eqb r.answer.session s.session r.session) r.fits in
        let hit : answers r.answer o ≡ true =
        both_true (r.answer.read == o.question.number) (r.answer.block == o.question.block) (eq-eqb r.answer.read o.question.number r.read) (eq-eqb r.answer.block o.question.block r.block) in
        let asked : IsAskedOf shape s o name outs =
        (subst (λ (y : News). IsAskedAgain shape s o y outs) is again) count hit (λ k struck. is_fair r.answer is count r.block k struck) in
        IsAsked (ask_sent volume posts name s.session o.question.number o.question.block (state.Serves s) earlier t mine sent s o refl refl refl news.1 asked)

    stays_owed : (o : Open) → StaysAsked shape s x o outs → IsFair o.question → ((b : Open) → IsAmong b s.asked → b.question ≡ o.question → Owes volume posts name s.session b.question memory earlier)
        → Owes volume posts name s.session o.question memory (t ∷ earlier)
    stays_owed o stays is_fair owed =
        let q : Question = o.question in
        owed_step (IsAskOf posts name s.session q.number q.block) (IsReplyOf shape posts name s.session q.number q.block) ⊥ (KeepsOne s.session q.number q.block memory) ⊥ (KeepsOne s.session q.number q.block memory) t earlier
        mine.by.more
        (record {
          done = λ done. absurd done;
          kept = λ kept. IsKept kept;
          asked = λ arrives. absurd (not_asked s.session q arrives);
          answered = λ arrives. again_sent o stays.again is_fair arrives;
        })
        (subst (λ (y : Question). Owes volume posts name s.session y memory earlier) stays.question (owed stays.before stays.among stays.question))

    -- one that is new goes to the server
    new_owed : (next : state.Serving) (o : Open) → IsNew shape next o outs → is_tick t.handed ≡ false → IsAmong name (group_of shape (region_of shape o.question.block)) → Owes volume posts name next.session o.question memory (t ∷ earlier)
    new_owed next o new still inside =
        IsAsked (ask_sent volume posts name next.session o.question.number o.question.block (state.Serves s) earlier t mine sent next o refl refl refl still
        (among_all (λ (r : NodeName). IsAskedOf shape next o r outs) (group_of shape (region_of shape o.question.block)) name inside new.asked))

    module _ (next : state.Serving) (is : (told volume (state.Serves s) t.event x).client ≡ state.Serves next) where
      session : next.session ≡ s.session
      session = (subst (λ (c : state.Client). GoesOn volume s t.event x c) is (told_on volume s t.event x).goes).session

      -- a tick changes nothing
      silent_stays : (o : Open) → IsAmong o next.asked → x ≡ Silence → StaysAsked shape s x o outs
      unfolding told
      silent_stays o o_in silent =
          let same : s ≡ next = serves_one s next (sym (ap (λ (y : News). (told volume (state.Serves s) t.event y).client) silent) ∙ is) in
          record {
            before = o;
            among = subst (λ (d : state.Serving). IsAmong o d.asked) (sym same) o_in;
            question = refl;
            again = subst (λ (y : News). IsAskedAgain shape s o y outs) (sym silent) tt;
          }

      -- Each question that is asked then is owed.
      pub client_owes : (o : Open) → IsAmong o next.asked → AreOfHead s → IsFair o.question → IsAmong name (group_of shape (region_of shape o.question.block))
          → ((b : Open) → IsAmong b s.asked → b.question ≡ o.question → Owes volume posts name s.session b.question memory earlier) → Owes volume posts name next.session o.question memory (t ∷ earlier)
      client_owes o o_in heads is_fair inside owed =
          by_bool (is_tick t.handed) (Owes volume posts name next.session o.question memory (t ∷ earlier))
          (λ tick. same_session (stays_owed o (silent_stays o o_in (ap (λ (p : Bool). if p then news_in posts t.handed else Silence) (ap is_client mine.party) ∙ tick_silent posts t.handed tick)) is_fair owed))
          (λ still. elim ((subst (λ (c : state.Client). AsksHead shape s x outs c) is (asks_head volume s t.event x heads)) o o_in) [
            | inl stays ↦ same_session (stays_owed o stays is_fair owed)
            | inr new ↦ new_owed next o new still inside
          ])
        where
          same_session : Owes volume posts name s.session o.question memory (t ∷ earlier) → Owes volume posts name next.session o.question memory (t ∷ earlier)
          same_session = subst (λ (e : ℕ). Owes volume posts name e o.question memory (t ∷ earlier)) (sym session)
