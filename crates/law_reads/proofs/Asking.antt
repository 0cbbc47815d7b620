-- The client's part: an answer that arrives gives the block, or the server is asked again.
use Rattle.std.proofs.Common.{◌≡◌, ◌∙◌, ◌⊎◌, inl, inr, ⊎_elim, ℕ, ◌^◌, ◌<◌, ◌==◌, Bool, true, false, if◌then◌else◌, List, [], ◌∷◌, Option, Some, refl, sym, ap, subst, eqb-true}
use Rattle.std.specs.Prelude.{IfSome, Result, Ok}
use Rattle.std.proofs.lemmas.Bool.{true≢false, eq-eqb}
use Rattle.salus_types.specs.declared.names.NodeName.{NodeName}
use Rattle.salus_types.specs.declared.names.Sender.TheVariants as sender
use Rattle.salus_message.specs.declared.wire.Message.{Message}
use Rattle.salus_message.specs.declared.wire.Message.TheVariants as message
use Rattle.salus_message.specs.declared.wire.MessageError.{MessageError}
use Rattle.salus_message.specs.Reading.{message_at}
use Rattle.salus_message.specs.Spelling.{message_bytes}
use Rattle.salus_message.specs.Ranges.{AskedWidths, HasWidths}
use Rattle.volume_model.specs.Contents.{region_of}
use Rattle.schedule_text.specs.declared.schedule.Volume.{Volume}
use Rattle.merkle_region.specs.Tree.{IsAmong}
use Rattle.volume_model.specs.Groups.{is_client}
use Rattle.salus_model.specs.declared.trace.Handed.{Handed}
use Rattle.salus_model.specs.declared.trace.Handed.TheVariants as handed
use Rattle.salus_model.specs.declared.trace.TraceStep.{TraceStep}
use Rattle.salus_model.specs.Following.{Posted, posted_at, hands, sent_by}
use Rattle.salus_model.specs.Hearing.{News, Says, Silence, news_of_message, news_of_post, news_from, news_in, news_of}
use Rattle.salus_model.specs.Answering.{is_fitting}
use Rattle.salus_model.specs.Complete.{is_crash, is_stop}
use Rattle.client_rules.specs.State.{Open, Serving, Letter, Client, Serves, Told}
use Rattle.client_rules.specs.Tables.{number_at, ask_of}
use Rattle.client_rules.specs.Rules.{told, is_tick, ticked, client_step, posted_letter}
use Rattle.replica_rules.specs.Nodes.{Memory}
use Rattle.run_rules.specs.Running.{posts_between}
use Rattle.run_rules.specs.Serving.{IsClientStep}
use Rattle.list_lemmas.proofs.Members.{among_map-in}
use Rattle.law_answers.proofs.Asks.{both_true}
use Rattle.law_reads.specs.Reading.{UnstruckAt, HaveOwnNumbers, StaysOpen, GivesBlock, IsFair, IsAskedOf}
use Rattle.law_reads.specs.Serving.{AreSmall, KeepsOne}
use Rattle.law_reads.proofs.Relay.{UnderWay, Arrives, IsDone, IsKept, IsAsked, IsAnswered, owed_step}
use Rattle.law_reads.proofs.Underway.{between_from, HandsSent, under_way}
use Rattle.law_reads.proofs.Open.{stays_open, answered_by}
use Rattle.law_reads.proofs.Served.{IsAskOf, IsReplyOf, IsOwed, HandsOwn}

-- ---- what a message tells the client

handed_news : (posts : List Posted) (what : Handed) (k : ℕ) (m : Posted) → is_stop what ≡ false → hands k what ≡ true → posted_at posts k ≡ Some m
    → (news_in posts what ≡ news_from m.from m.bytes) × (is_tick what ≡ false)
handed_news posts (handed.Deliver j) k m runs hit at =
    (ap (λ (n : ℕ). news_of_post (posted_at posts n)) (eqb-true j k hit) ∙ ap (λ (o : Option Posted). news_of_post o) at, refl)
handed_news posts (handed.Stop j) k m runs hit at = absurd (true≢false runs)
handed_news posts (handed.Asked r) k m runs hit at = absurd (cc)
handed_news posts (handed.Lie from bytes) k m runs hit at = absurd (cc)
handed_news posts handed.Tick k m runs hit at = absurd (cc)
handed_news posts handed.Crash k m runs hit at = absurd (cc)
handed_news posts handed.Replace k m runs hit at = absurd (cc)
handed_news posts handed.ClientCrash k m runs hit at = absurd (cc)

-- a step of the client, by its rules
pub record IsOwnStep (volume : Volume) (posts : List Posted) (c : Client) (earlier : List TraceStep) (step : TraceStep) : Type 0 where
  pub by : IsClientStep volume posts c (sent_by earlier) step
  pub party : step.party ≡ sender.Client
  pub own : HandsOwn posts step
  pub runs : is_stop step.handed ≡ false
  pub spelled : (l : Letter) → IsAmong l (client_step volume posts c step).outs → (message_at (message_bytes l.message) ≡ Ok l.message) × HasWidths l.message

module _ (volume : Volume) (posts : List Posted) (name : NodeName) (e v b : ℕ) (before : Client) (earlier : List TraceStep) (step : TraceStep)
    (mine : IsOwnStep volume posts before earlier step) (sent : HandsSent (step ∷ earlier)) where
  abbrev x : News
  x = news_of posts step

  abbrev answer : Told
  answer = told volume before step.event x

  is_mine : is_client step.party ≡ true
  is_mine = ap is_client mine.party

  -- where the step isn't a tick, what the rules send is sent
  outs_are : is_tick step.handed ≡ false → (client_step volume posts before step).outs ≡ answer.outs
  outs_are still =
      ap (λ (p : Bool). if p then (if is_tick step.handed then ticked volume.geometry before else answer.outs) else []) is_mine
      ∙ ap (λ (t : Bool). if t then ticked volume.geometry before else answer.outs) still

  -- an ask of the question that the rules send is under way
  pub ask_sent : (c : Serving) (o : Open) → c.session ≡ e → o.question.number ≡ v → o.question.block ≡ b → is_tick step.handed ≡ false → IsAskedOf volume.geometry c o name answer.outs
      → UnderWay (IsAskOf posts name e v b) (step ∷ earlier)
  ask_sent c o session number block still asked =
      let l : Letter = record { to = name; message = ask_of volume.geometry c o.question } in
      let out : IsAmong l (client_step volume posts before step).outs = subst (λ (ls : List Letter). IsAmong l ls) (sym (outs_are still)) asked in
      let there : IsAmong (posted_letter l) (posts_between posts (sent_by earlier) step.sent) =
      subst (λ (ls : List Posted). IsAmong (posted_letter l) ls) (sym mine.by.messages) (among_map-in posted_letter (client_step volume posts before step).outs l out) in
      let wide : AskedWidths c.session o.question.number o.question.block (number_at c (region_of volume.geometry o.question.block)) = (mine.spelled l out).1 in
      let small : AreSmall e v b = record {
        session = subst (λ (n : ℕ). n < 2 ^ 64) session wide.0;
        read = subst (λ (n : ℕ). n < 2 ^ 64) number wide.1.0;
        block = subst (λ (n : ℕ). n < 2 ^ 32) block wide.1.1.0;
      } in
      under_way posts (IsAskOf posts name e v b) step earlier (posted_letter l) sent (between_from posts (sent_by earlier) step.sent (posted_letter l) there)
      (λ k at. record {
        ask = record { session = c.session; read = o.question.number; block = o.question.block; at = _ };
        bytes = message_bytes l.message;
        at = at;
        decoded = (mine.spelled l out).0;
        small = small;
        session = session;
        read = number;
        block = block;
      })

module _ (volume : Volume) (posts : List Posted) (name : NodeName) (e v b : ℕ) (c : Serving) (o : Open) (earlier : List TraceStep) (step : TraceStep)
    (mine : IsOwnStep volume posts (Serves c) earlier step) (sent : HandsSent (step ∷ earlier))
    (one : HaveOwnNumbers c.reads) (there : IsAmong o c.reads) (session : c.session ≡ e) (number : o.question.number ≡ v) (block : o.question.block ≡ b) (small : v < 2 ^ 32)
    (fair : IsFair volume.geometry c name.replica o (news_of posts step)) where
  abbrev Then : Option Memory → Type 0
  Then memory = IsOwed volume.geometry posts name e v b (GivesBlock o (told volume (Serves c) step.event (news_of posts step)).lines) memory (step ∷ earlier)

  reply_on : (memory : Option Memory) → Arrives (IsReplyOf volume.geometry posts name e v b) step → Then memory
  reply_on memory arrives =
      let r : IsReplyOf volume.geometry posts name e v b arrives.k = arrives.is_one in
      let m : Posted = record { from = sender.Node name; to = sender.Client; bytes = r.bytes } in
      let news = handed_news posts step.handed arrives.k m mine.runs arrives.handed r.at in
      let is : news_of posts step ≡ Says name (message.Answer r.answer) =
      ap (λ (p : Bool). if p then news_in posts step.handed else Silence) (is_mine volume posts name e v b (Serves c) earlier step mine sent)
      ∙ (news.0 ∙ ap (λ (d : Result Message MessageError). news_of_message name d) r.decoded) in
      let by = answered_by volume c o step.event name r.answer one there (subst (λ (n : ℕ). n < 2 ^ 32) (sym number) small) (both_true (r.answer.session == c.session) (is_fitting volume.geometry name r.answer) (eq-eqb r.answer.session c.session (r.session ∙ sym session)) r.fits)
      (r.read ∙ sym number) (r.block ∙ sym block) (subst (λ (y : News). IsFair volume.geometry c name.replica o y) is fair) in
      ⊎_elim (λ (again : IsAskedOf volume.geometry c o name (told volume (Serves c) step.event (Says name (message.Answer r.answer))).outs).
      IsAsked (ask_sent volume posts name e v b (Serves c) earlier step mine sent c o session number block news.1
      (subst (λ (y : News). IsAskedOf volume.geometry c o name (told volume (Serves c) step.event y).outs) (sym is) again)))
      (λ (gives : GivesBlock o (told volume (Serves c) step.event (Says name (message.Answer r.answer))).lines).
      IsDone (subst (λ (y : News). GivesBlock o (told volume (Serves c) step.event y).lines) (sym is) gives)) by

  not_node : sender.Node name ≡ sender.Client → ⊥
  not_node is = cc

  ask_on : (memory : Option Memory) → Arrives (IsAskOf posts name e v b) step → Then memory
  ask_on memory arrives =
      let r : IsAskOf posts name e v b arrives.k = arrives.is_one in
      let to : sender.Node name ≡ step.party = subst (λ (m : Option Posted). IfSome m (λ p. p.to ≡ step.party)) r.at (mine.own arrives.k arrives.handed) in
      absurd (not_node (to ∙ mine.party))

  -- what is owed before a step of the client is owed after it, or a line gives the block
  owed_on : (memory : Option Memory) → IsOwed volume.geometry posts name e v b ⊥ memory earlier → Then memory
  owed_on memory owed =
      owed_step (IsAskOf posts name e v b) (IsReplyOf volume.geometry posts name e v b) ⊥ (KeepsOne e v b memory) (GivesBlock o (told volume (Serves c) step.event (news_of posts step)).lines) (KeepsOne e v b memory)
      step earlier mine.by.more
      (record {
        done = λ done. absurd done;
        kept = λ kept. IsKept kept;
        asked = λ arrives. ask_on memory arrives;
        answered = λ arrives. reply_on memory arrives;
      }) owed

  -- a read that is open and owed
  pub record IsWaiting (memory : Option Memory) (client : Client) : Type 0 where
    pub stays : StaysOpen name.replica o c.session client
    pub owed : IsOwed volume.geometry posts name e v b ⊥ memory (step ∷ earlier)

  abbrev Ends : Option Memory → Type 0
  Ends memory = IsWaiting memory (told volume (Serves c) step.event (news_of posts step)).client ⊎ GivesBlock o (told volume (Serves c) step.event (news_of posts step)).lines

  both_on : (memory : Option Memory) → StaysOpen name.replica o c.session (told volume (Serves c) step.event (news_of posts step)).client → Then memory → Ends memory
  both_on memory stays (IsDone gives) = inr gives
  both_on memory stays (IsKept kept) = inl (record { stays = stays; owed = IsKept kept })
  both_on memory stays (IsAsked way) = inl (record { stays = stays; owed = IsAsked way })
  both_on memory stays (IsAnswered way) = inl (record { stays = stays; owed = IsAnswered way })

  -- A step of the client that is no crash: the read is open and owed, or a line gives its block.
  pub client_on : (memory : Option Memory) → UnstruckAt name.replica o.strikes → is_crash (news_of posts step) ≡ false → IsOwed volume.geometry posts name e v b ⊥ memory earlier → Ends memory
  client_on memory un calm owed =
      ⊎_elim (λ (stays : StaysOpen name.replica o c.session (told volume (Serves c) step.event (news_of posts step)).client). both_on memory stays (owed_on memory owed))
      (λ (gives : GivesBlock o (told volume (Serves c) step.event (news_of posts step)).lines). inr gives)
      (stays_open volume c name.replica o step.event (news_of posts step) one there un calm fair)
