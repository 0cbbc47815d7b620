-- What that gives of a step: the asks of an open read are its own, an answer to it isn't struck, and no ask that is kept is above
-- the present number.
use Rattle.std.proofs.Common.{◌≡◌, ◌∙◌, inl, inr, ℕ, ◌^◌, ◌<◌, ◌≤◌, ◌==◌, ◌&&◌, not, true, false, List, length, Option, None, Some, sym, ap, subst, arith, eqb-true}
use Rattle.std.proofs.lemmas.Bool.{true≢false}
use Rattle.salus_types.specs.Volume.{Shape, regions}
use Rattle.salus_types.specs.declared.names.NodeName.{NodeName}
use Rattle.salus_types.specs.declared.names.Sender.TheVariants as sender
use Rattle.salus_types.specs.declared.strike.Strike.{Strike}
use Rattle.salus_message.specs.declared.small.Ask.{Ask}
use Rattle.salus_message.specs.declared.replies.Answer.{Answer}
use Rattle.salus_message.specs.declared.wire.Message.TheVariants as message
use Rattle.schedule_text.specs.declared.schedule.Volume.{Volume}
use Rattle.schedule_text.specs.declared.schedule.Event.{Event}
use Rattle.volume_model.specs.Contents.{region_of}
use Rattle.salus_model.specs.declared.trace.TraceStep.{TraceStep}
use Rattle.salus_model.specs.Following.{Posted}
use Rattle.salus_model.specs.Guarding.{is_lied_for}
use Rattle.salus_model.specs.Hearing.{News, Asks, Says, Crashes, Silence, Past, news_of}
use Rattle.salus_model.specs.Judge.{Judge}
use Rattle.salus_model.specs.Answering.{Struck, is_fitting}
use Rattle.salus_model.specs.Complete.{IsSound}
use Rattle.client_rules.specs.State as state
use Rattle.client_rules.specs.State.{Open}
use Rattle.client_rules.specs.Tables.{number_at, worth}
use Rattle.replica_rules.specs.Nodes.{Memory}
use Rattle.replica_rules.specs.Rules.{Input}
use Rattle.run_rules.specs.Knowing.{KnownNode}
use Rattle.list_lemmas.proofs.Each.{OfSome}
use Rattle.list_lemmas.proofs.Members.{among_all}
use Rattle.list_lemmas.proofs.Tests.{and_left, and_right}
use Rattle.law_lemmas.proofs.Numbered.{IsSized}
use Rattle.law_lemmas.proofs.Owned.{IsTold, told}
use Rattle.law_lemmas.proofs.Settled.{EachKnown}
use Rattle.law_lines.specs.Mirrors.{Holds}
use Rattle.law_lines.proofs.ReadRows.{same-worth}
use Rattle.law_answers.specs.Owing.{KeepsIn}
use Rattle.law_answers.proofs.Rules.{OfInput}
use Rattle.law_reads.specs.Reading.{IsFair}
use Rattle.law_reads.specs.Serving.{IsReadOf, FairAt}
use Rattle.law_reads.proofs.Mirrored.{number_below}
use Rattle.law_asked.specs.Asking.{AsksAt, KeptBelow}
use Rattle.law_asked.proofs.Handled.{AsksOf}
use Rattle.law_asked.proofs.Kept.{WasAsked, IsHandedOver, brought, input_asked}
use Rattle.law_asked.proofs.Said.{WasSaid, IsSaid, step_said}
use Rattle.law_asked.proofs.Present.{IsRootedIn, not_struck}
use Rattle.law_asked.proofs.Fits.{AskFits}
use Rattle.law_asked.proofs.Rooted.{AnswersRooted}

-- a sound node is lied for by nobody
unlied_node : (events : List Event) (trace : List TraceStep) (name : NodeName) → IsSound events trace name → is_lied_for events (sender.Node name) ≡ true → ⊥
unlied_node events trace name sound lied = absurd (true≢false (sym (and_left (not (is_lied_for events (sender.Node name))) _ sound.right) ∙ ap not lied))

module _ (volume : Volume) (events : List Event) (posts : List Posted) (history : List Past) (judge : Judge) (n m sent : ℕ) (small : n ≤ 2 ^ 32) (t : TraceStep) (over : IsHandedOver events sent t.handed) where
  abbrev shape : Shape
  shape = volume.geometry

  abbrev AsksFitAll : state.Client → Type 0
  AsksFitAll c = (a : Ask) → WasAsked posts sent a → AskFits shape n m c a

  -- ---- asks

  module _ (unlied : is_lied_for events sender.Client ≡ false) (v b : ℕ) where
    serving_asks : (s : state.Serving) → Holds volume history judge n m (state.Serves s) → AsksFitAll (state.Serves s) → AsksAt posts v b (state.Serves s) t
    serving_asks s holds asks is_open input is ask brings read =
        let given : OfInput (λ rec. Unit {0}) (WasAsked posts sent) input =
        subst (λ (o : Option Input). OfSome (λ (i : Input). OfInput (λ rec. Unit {0}) (WasAsked posts sent) i) o) is (input_asked events posts sent unlied t.handed over) in
        let fits : AskFits shape n m (state.Serves s) ask = asks ask (brought (WasAsked posts sent) input ask given brings) in
        let below : is_open.read.question.number < n = number_below shape history judge n s holds.mirrors is_open.read is_open.among in
        let number : is_open.read.question.number ≡ v = is_open.of.number in
        let of = fits.own.of_read (omega (arith, below, number, read, small)) is_open.read is_open.among (number ∙ sym read) in
        (of.0, of.1 ∙ is_open.of.block)

    pub asks_at : (c : state.Client) → Holds volume history judge n m c → AsksFitAll c → AsksAt posts v b c t
    asks_at (state.Serves s) holds asks = serving_asks s holds asks
    asks_at state.Closed holds asks = tt
    asks_at (state.Gathers g) holds asks = tt
    asks_at (state.Fetches f) holds asks = tt
    asks_at (state.Stages d) holds asks = tt
    asks_at (state.Switches d) holds asks = tt

  -- ---- answers

  module _ (trace : List TraceStep) (name : NodeName) (sound : IsSound events trace name) (sized : EachKnown judge (IsSized shape)) (rooted : AnswersRooted volume posts name judge sent)
      (v b : ℕ) (region : region_of volume.geometry b ≡ name.region) where
    module _ (s : state.Serving) (holds : Holds volume history judge n m (state.Serves s)) where
      -- an answer of it that counts isn't struck
      own_fair : (a : Answer) → WasSaid posts sent name (message.Answer a) → a.session ≡ s.session → region_of shape a.block ≡ name.region → (k : Strike) → worth shape s a ≡ Struck k → ⊥
      own_fair a was session of k struck =
          let root : IsRootedIn shape volume.key judge name.region a = rooted was.k was.counted was.low was.post was.at was.from a was.reads in
          let here : IsRootedIn shape volume.key judge (region_of shape a.block) a = subst (λ (g : ℕ). IsRootedIn shape volume.key judge g a) (sym of) root in
          let says : IsTold shape root.tagged.session root.tagged.g root.rec.header =
          told shape volume.key root.tagged.session (sized root.tagged.session root.tagged.e root.tagged.known) root.tagged.g root.rec root.tagged.either in
          let inside : region_of shape a.block < regions shape = subst (λ (g : ℕ). g < regions shape) (sym says.region ∙ (root.region ∙ sym of)) says.inside in
          not_struck shape volume.key judge sized a (session ∙ holds.mirrors.counts.session) inside here k (sym (same-worth shape judge s a holds.mirrors.counts inside) ∙ struck)

      fair_answer : (o : Open) → IsReadOf v b o.question → (node : NodeName) (a : Answer) → IsSaid events posts sent (Says node (message.Answer a)) → IsFair shape s name.replica o (Says node (message.Answer a))
      fair_answer o of node a said replica count ours k struck =
          let session : a.session ≡ s.session = eqb-true a.session s.session (and_left (a.session == s.session) (is_fitting shape node a) count) in
          let fit = and_right (a.session == s.session) (is_fitting shape node a) count in
          let front = and_left ((node.region == region_of shape a.block) && (length a.bytes == shape.block)) (length a.path == shape.height) fit in
          let place : node.region ≡ region_of shape a.block = eqb-true node.region (region_of shape a.block) (and_left (node.region == region_of shape a.block) (length a.bytes == shape.block) front) in
          let block : a.block ≡ o.question.block = eqb-true a.block o.question.block (and_right (a.read == o.question.number) (a.block == o.question.block) ours) in
          let here : region_of shape a.block ≡ name.region = ap (region_of shape) (block ∙ of.block) ∙ region in
          let same : node ≡ name = one_name node name (place ∙ here) replica in
          elim (subst (λ (x : NodeName). IsSaid events posts sent (Says x (message.Answer a))) same said) [
            | inl lied ↦ unlied_node events trace name sound lied
            | inr was ↦ own_fair a was session here k struck
          ]
        where
          one_name : (x y : NodeName) → x.region ≡ y.region → x.replica ≡ y.replica → x ≡ y
          one_name x y regions replicas = λ i. record { region = regions i; replica = replicas i }

      fair_news : (o : Open) → IsReadOf v b o.question → (x : News) → IsSaid events posts sent x → IsFair shape s name.replica o x
      fair_news o of (Says node (message.Answer a)) said = fair_answer o of node a said
      fair_news o of (Says node other) said = tt
      fair_news o of (Asks r) said = tt
      fair_news o of Crashes said = tt
      fair_news o of Silence said = tt

    pub fair_at : (c : state.Client) → Holds volume history judge n m c → FairAt volume.geometry posts name v b c t
    fair_at (state.Serves s) holds = λ o among of. fair_news s holds o of (news_of posts t) (step_said events posts sent t over)
    fair_at state.Closed holds = tt
    fair_at (state.Gathers g) holds = tt
    fair_at (state.Fetches f) holds = tt
    fair_at (state.Stages d) holds = tt
    fair_at (state.Switches d) holds = tt

-- ---- asks that are kept

kept_asked : (P : Ask → Type 0) (space : Shape) (ask : Ask) (o : Option Memory) → AsksOf space P o → KeepsIn ask o → P ask
kept_asked P space ask None all keeps = absurd keeps
kept_asked P space ask (Some m) all keeps = among_all P m.replica.asks ask keeps.kept all

pub kept_below : (volume : Volume) (posts : List Posted) (n m sent : ℕ) (c : state.Client) (known : KnownNode) → ((a : Ask) → WasAsked posts sent a → AskFits volume.geometry n m c a)
    → AsksOf volume.geometry (WasAsked posts sent) known.state.memory → (b : ℕ) → KeptBelow volume.geometry b c known
kept_below volume posts n m sent (state.Serves s) known asks kept b = λ ask keeps session block inside.
    let fits : AskFits volume.geometry n m (state.Serves s) ask = asks ask (kept_asked (WasAsked posts sent) volume.geometry ask known.state.memory kept keeps) in
    subst (λ (k : ℕ). ask.at ≤ number_at s (region_of volume.geometry k)) block (fits.own.at session (subst (λ (k : ℕ). region_of volume.geometry k < regions volume.geometry) (sym block) inside))
kept_below volume posts n m sent state.Closed known asks kept b = tt
kept_below volume posts n m sent (state.Gathers g) known asks kept b = tt
kept_below volume posts n m sent (state.Fetches f) known asks kept b = tt
kept_below volume posts n m sent (state.Stages d) known asks kept b = tt
kept_below volume posts n m sent (state.Switches d) known asks kept b = tt
