-- The server's part: an ask that arrives is answered or kept, and one that is kept is answered or stays kept.
use Rattle.std.proofs.Common.{◌≡◌, ◌∙◌, ⊎_elim, ℕ, ◌^◌, ◌<◌, ◌||◌, Bool, true, false, if◌then◌else◌, List, [], ◌∷◌, Option, None, Some, refl, sym, ap, ap₂, subst, eqb-true}
use Rattle.std.specs.Prelude.{option_map, IfSome, Ok}
use Rattle.std.specs.Option.{option_map_or}
use Rattle.salus_types.specs.Volume.{Shape, IsVolume}
use Rattle.salus_types.specs.declared.names.NodeName.{NodeName}
use Rattle.salus_types.specs.declared.names.Sender.TheVariants as sender
use Rattle.salus_message.specs.declared.small.Ask.{Ask}
use Rattle.salus_message.specs.declared.replies.Answer.{Answer}
use Rattle.salus_message.specs.declared.wire.Message.TheVariants as message
use Rattle.salus_message.specs.Reading.{message_at}
use Rattle.salus_message.specs.Spelling.{message_bytes}
use Rattle.merkle_region.specs.Tree.{IsAmong}
use Rattle.volume_model.specs.Contents.{region_of}
use Rattle.salus_model.specs.declared.trace.Handed.{Handed}
use Rattle.salus_model.specs.declared.trace.Handed.TheVariants as handed
use Rattle.salus_model.specs.declared.trace.TraceStep.{TraceStep}
use Rattle.salus_model.specs.Following.{Posted, posted_at, hands, sent_by}
use Rattle.salus_model.specs.Answering.{is_fitting}
use Rattle.replica_rules.specs.Views.{View}
use Rattle.replica_rules.specs.Replicas.{answer_to}
use Rattle.replica_rules.specs.Nodes.{Memory}
use Rattle.replica_rules.specs.Rules.{Sending, Input, Receives, handled}
use Rattle.run_rules.specs.Knowing.{KnownNode, after_input, outs_of, input_of_post, input_of, after_handed, outs_to, reloaded, known_to}
use Rattle.run_rules.specs.Running.{posts_between, IsNodeStep}
use Rattle.list_lemmas.proofs.Members.{among_map-in}
use Rattle.law_answers.specs.Owing.{Answers, KeepsIn, BringsAsk, StandsFor, IsSeenTo}
use Rattle.law_answers.proofs.Asks.{taken_seen, kept_seen}
use Rattle.law_reads.specs.Serving.{AreSmall, KeepsOne, IsClear}
use Rattle.law_reads.proofs.Readable.{IsReadable, answer_again, answer_fits}
use Rattle.law_reads.proofs.Relay.{UnderWay, Arrives, Owed, IsDone, IsKept, IsAnswered, owed_step}
use Rattle.law_reads.proofs.Underway.{between_from, HandsSent, under_way}

-- ---- the messages of a question

-- message k is the client's ask to that node, of a session, a read number and a block
pub record IsAskOf (posts : List Posted) (name : NodeName) (e v b k : ℕ) : Type 0 where
  pub ask : Ask
  pub bytes : List ℕ
  pub at : posted_at posts k ≡ Some (record { from = sender.Client; to = sender.Node name; bytes = bytes })
  pub decoded : message_at bytes ≡ Ok (message.Ask ask)
  pub small : AreSmall e v b
  pub session : ask.session ≡ e
  pub read : ask.read ≡ v
  pub block : ask.block ≡ b

-- message k is the node's answer to it, as long as the volume's are
pub record IsReplyOf (shape : Shape) (posts : List Posted) (name : NodeName) (e v b k : ℕ) : Type 0 where
  pub answer : Answer
  pub bytes : List ℕ
  pub at : posted_at posts k ≡ Some (record { from = sender.Node name; to = sender.Client; bytes = bytes })
  pub decoded : message_at bytes ≡ Ok (message.Answer answer)
  pub session : answer.session ≡ e
  pub read : answer.read ≡ v
  pub block : answer.block ≡ b
  pub fits : is_fitting shape name answer ≡ true

abbrev pub IsOwed : Shape → List Posted → NodeName → (e v b : ℕ) → Type 0 → Option Memory → List TraceStep → Type 0
IsOwed shape posts name e v b Done memory earlier = Owed (IsAskOf posts name e v b) (IsReplyOf shape posts name e v b) Done (KeepsOne e v b memory) earlier

-- ---- what a step hands over

pub handed_input : (posts : List Posted) (what : Handed) (k : ℕ) (m : Posted) → hands k what ≡ true → posted_at posts k ≡ Some m → input_of posts what ≡ Some (input_of_post m)
handed_input posts (handed.Deliver j) k m hit at = ap (λ (n : ℕ). option_map (λ m. input_of_post m) (posted_at posts n)) (eqb-true j k hit) ∙ ap (λ (o : Option Posted). option_map (λ m. input_of_post m) o) at
handed_input posts (handed.Stop j) k m hit at = ap (λ (n : ℕ). option_map (λ m. input_of_post m) (posted_at posts n)) (eqb-true j k hit) ∙ ap (λ (o : Option Posted). option_map (λ m. input_of_post m) o) at
handed_input posts (handed.Asked r) k m hit at = absurd (cc)
handed_input posts (handed.Lie from bytes) k m hit at = absurd (cc)
handed_input posts handed.Tick k m hit at = absurd (cc)
handed_input posts handed.Crash k m hit at = absurd (cc)
handed_input posts handed.Replace k m hit at = absurd (cc)
handed_input posts handed.ClientCrash k m hit at = absurd (cc)

-- what a step hands over goes to its party
abbrev pub HandsOwn : List Posted → TraceStep → Type 0
HandsOwn posts step = (k : ℕ) → hands k step.handed ≡ true → IfSome (posted_at posts k) (λ m. m.to ≡ step.party)

-- a step of a node that speaks, in which no call fails and nothing is loaded
pub record IsSoundStep (shape : Shape) (posts : List Posted) (name : NodeName) (known : KnownNode) (earlier : List TraceStep) (step : TraceStep) : Type 0 where
  pub by : IsNodeStep shape posts name known (sent_by earlier) step
  pub party : step.party ≡ sender.Node name
  pub own : HandsOwn posts step
  pub speaks : known.silent ≡ false
  pub calm : step.failed ≡ false
  pub unloaded : step.loaded ≡ None

module _ (shape : Shape) (posts : List Posted) (name : NodeName) (e v b : ℕ) (known : KnownNode) (earlier : List TraceStep) (step : TraceStep)
    (sound : IsSoundStep shape posts name known earlier step) (sent : HandsSent (step ∷ earlier)) (volume : IsVolume shape) where
  abbrev g : ℕ
  g = name.region

  abbrev outs : List Sending
  outs = outs_to shape g posts known step.handed step.failed

  abbrev now : KnownNode
  now = known_to shape g posts known step.handed step.failed step.loaded

  abbrev then_known : Option Input → Bool → KnownNode
  then_known x failed = option_map_or (λ input. after_input shape g known input failed) x known

  -- nothing is loaded
  now_is : now ≡ then_known (input_of posts step.handed) step.failed
  now_is = ap (λ (o : Option _). reloaded shape g (after_handed shape g posts known step.handed step.failed) o) sound.unloaded

  -- it handles its input
  after_is : (input : Input) → input_of posts step.handed ≡ Some input → now.state ≡ (handled shape g known.state input).node
  after_is input is =
      ap (λ (k : KnownNode). k.state) now_is
      ∙ ap₂ (λ (x : Option Input) (f : Bool). (then_known x f).state) is sound.calm
      ∙ ap (λ (s : Bool). (if s then known else record { state = (handled shape g known.state input).node; silent = false; contents = (handled shape g known.state input).node.held ∷ [] }).state) sound.speaks

  outs_are : (input : Input) → input_of posts step.handed ≡ Some input → outs ≡ (handled shape g known.state input).outs
  outs_are input is =
      ap₂ (λ (x : Option Input) (f : Bool). option_map_or (λ i. outs_of shape g known i f) x []) is sound.calm
      ∙ ap (λ (s : Bool). if s || false then [] else (handled shape g known.state input).outs) sound.speaks

  module _ (clear : IsClear shape posts name e v b known step) (view_then : (m : Memory) → now.state.memory ≡ Some m → IsReadable shape m.replica.view) (Done : Type 0) where
    stays_then : (input : Input) → input_of posts step.handed ≡ Some input → (handled shape g known.state input).node.held.session ≡ known.state.held.session
    stays_then input is = ap (λ s. s.held.session) (sym (after_is input is)) ∙ clear.stays

    abbrev Then : Type 0
    Then = IsOwed shape posts name e v b Done now.state.memory (step ∷ earlier)

    -- an answer is under way
    replied : region_of shape b ≡ g → AreSmall e v b → (ask : Ask) → ask.session ≡ e → ask.read ≡ v → ask.block ≡ b → Answers shape ask outs now.state.memory
        → UnderWay (IsReplyOf shape posts name e v b) (step ∷ earlier)
    replied region small ask session read block a =
        let view : View = a.m.replica.view in
        let answer : Answer = answer_to shape view ask in
        let numbers : AreSmall ask.session ask.read ask.block = record {
          session = subst (λ (n : ℕ). n < 2 ^ 64) (sym session) small.session;
          read = subst (λ (n : ℕ). n < 2 ^ 64) (sym read) small.read;
          block = subst (λ (n : ℕ). n < 2 ^ 32) (sym block) small.block;
        } in
        let readable : IsReadable shape view = view_then a.m a.is in
        let out : Sending = record { to = sender.Client; message = message.Answer answer } in
        let m : Posted = record { from = sender.Node name; to = sender.Client; bytes = message_bytes (message.Answer answer) } in
        let there : IsAmong m (posts_between posts (sent_by earlier) step.sent) =
        subst (λ (l : List Posted). IsAmong m l) (sym sound.by.messages) (among_map-in (λ (o : Sending). record { from = sender.Node name; to = o.to; bytes = message_bytes o.message }) outs out a.sent) in
        under_way posts (IsReplyOf shape posts name e v b) step earlier m sent (between_from posts (sent_by earlier) step.sent m there)
        (λ k at. record {
          answer = answer;
          bytes = m.bytes;
          at = at;
          decoded = answer_again shape volume view readable ask numbers;
          session = session;
          read = read;
          block = block;
          fits = answer_fits shape volume view readable ask numbers name (ap (λ (n : ℕ). region_of shape n) block ∙ region);
        })

    seen_on : region_of shape b ≡ g → AreSmall e v b → (input : Input) → input_of posts step.handed ≡ Some input → (ask : Ask) → ask.session ≡ e → ask.read ≡ v → ask.block ≡ b
        → IsSeenTo shape input ask (handled shape g known.state input).outs (handled shape g known.state input).node.memory → Then
    seen_on region small input is ask session read block seen =
        ⊎_elim (λ (a : Answers shape ask (handled shape g known.state input).outs (handled shape g known.state input).node.memory).
        let there : Answers shape ask outs now.state.memory =
        subst (λ (o : Option Memory). Answers shape ask outs o) (ap (λ s. s.memory) (sym (after_is input is)))
        (subst (λ (l : List Sending). Answers shape ask l (handled shape g known.state input).node.memory) (sym (outs_are input is)) a) in
        IsAnswered (replied region small ask session read block there))
        (λ (kept : (other : Ask) × StandsFor input ask other × KeepsIn other (handled shape g known.state input).node.memory).
        let keeps : KeepsIn kept.0 now.state.memory = subst (λ (o : Option Memory). KeepsIn kept.0 o) (ap (λ s. s.memory) (sym (after_is input is))) kept.2 in
        ⊎_elim (λ (same : kept.0 ≡ ask). IsKept (record {
          ask = kept.0;
          keeps = keeps;
          small = small;
          session = ap (λ (a : Ask). a.session) same ∙ session;
          read = ap (λ (a : Ask). a.read) same ∙ read;
          block = ap (λ (a : Ask). a.block) same ∙ block;
        }))
        (λ (new : (kept.0.read ≡ ask.read) × BringsAsk input kept.0).
        let of = clear.asks input is kept.0 new.1 (new.0 ∙ read) in
        IsKept (record { ask = kept.0; keeps = keeps; small = small; session = of.0; read = new.0 ∙ read; block = of.1 })) kept.1) seen

    kept_by : region_of shape b ≡ g → (x : Option Input) → input_of posts step.handed ≡ x → KeepsOne e v b known.state.memory → Then
    kept_by region None is kept =
        let same : now.state ≡ known.state = ap (λ (k : KnownNode). k.state) now_is ∙ ap (λ (x : Option Input). (then_known x step.failed).state) is in
        IsKept (record {
          ask = kept.ask;
          keeps = subst (λ (o : Option Memory). KeepsIn kept.ask o) (ap (λ s. s.memory) (sym same)) kept.keeps;
          small = kept.small;
          session = kept.session;
          read = kept.read;
          block = kept.block;
        })
    kept_by region (Some input) is kept =
        seen_on region kept.small input is kept.ask kept.session kept.read kept.block (kept_seen shape g known.state input kept.ask kept.keeps (stays_then input is))

    -- the memory is of the session, and the block of the region
    asked_by : (m : Memory) → known.state.memory ≡ Some m → m.replica.session ≡ e → region_of shape b ≡ g → Arrives (IsAskOf posts name e v b) step → Then
    asked_by m there of region arrives =
        let one : IsAskOf posts name e v b arrives.k = arrives.is_one in
        let input : Input = Receives sender.Client one.bytes in
        let is : input_of posts step.handed ≡ Some input = handed_input posts step.handed arrives.k _ arrives.handed one.at in
        seen_on region one.small input is one.ask one.session one.read one.block
        (taken_seen shape g known.state m one.bytes one.ask there one.decoded (one.session ∙ sym of) (ap (λ (n : ℕ). region_of shape n) one.block ∙ region))

    -- the client's messages don't come to it
    not_client : sender.Client ≡ sender.Node name → ⊥
    not_client is = cc

    answered_by : Arrives (IsReplyOf shape posts name e v b) step → Then
    answered_by arrives =
        let one : IsReplyOf shape posts name e v b arrives.k = arrives.is_one in
        let to : sender.Client ≡ step.party = subst (λ (o : Option Posted). IfSome o (λ m. m.to ≡ step.party)) one.at (sound.own arrives.k arrives.handed) in
        absurd (not_client (to ∙ sound.party))

    -- What is owed before a step of the server is owed after it.
    pub served_step : (m : Memory) → known.state.memory ≡ Some m → m.replica.session ≡ e → region_of shape b ≡ g → IsOwed shape posts name e v b Done known.state.memory earlier → Then
    served_step m there of region owed =
        owed_step (IsAskOf posts name e v b) (IsReplyOf shape posts name e v b) Done (KeepsOne e v b known.state.memory) Done (KeepsOne e v b now.state.memory) step earlier sound.by.more
        (record {
          done = λ done. IsDone done;
          kept = λ kept. kept_by region (input_of posts step.handed) refl kept;
          asked = λ arrives. asked_by m there of region arrives;
          answered = λ arrives. answered_by arrives;
        }) owed
