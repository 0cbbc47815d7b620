-- What is owed to the client before a step of its own is owed after it.
use Rattle.std.proofs.Common.{◌≡◌, ◌∙◌, ℕ, Bool, true, false, if◌then◌else◌, List, [], ◌∷◌, Option, Some, Result, refl, sym, ap, subst, eqb-true}
use Rattle.std.specs.Prelude.{IfSome}
use Rattle.std.specs.List.{AllByRecursion}
use Rattle.std.proofs.lemmas.Bool.{true≢false}
use Rattle.salus_types.specs.declared.names.NodeName.{NodeName}
use Rattle.salus_types.specs.declared.names.Sender.TheVariants as sender
use Rattle.salus_message.specs.declared.wire.Message.{Message}
use Rattle.salus_message.specs.declared.wire.MessageError.{MessageError}
use Rattle.salus_message.specs.Spelling.{message_bytes}
use Rattle.salus_message.proofs.MessageLaws.{message_again}
use Rattle.schedule_text.specs.Limits.{IsOfVolume}
use Rattle.schedule_text.specs.declared.schedule.Volume.{Volume}
use Rattle.merkle_region.specs.Tree.{IsAmong}
use Rattle.volume_model.specs.Groups.{is_client}
use Rattle.salus_model.specs.declared.trace.Handed.{Handed}
use Rattle.salus_model.specs.declared.trace.Handed.TheVariants as handed
use Rattle.salus_model.specs.declared.trace.TraceStep.{TraceStep}
use Rattle.salus_model.specs.Following.{Posted, posted_at, hands, sent_by}
use Rattle.salus_model.specs.Hearing.{News, Says, Silence, news_of_message, news_from, news_of_post, news_in, news_of}
use Rattle.salus_model.specs.Complete.{is_stop}
use Rattle.client_rules.specs.State.{Client, Letter, Told}
use Rattle.client_rules.specs.Rules.{told, is_tick, ticked, client_step, posted_letter}
use Rattle.run_rules.specs.Running.{posts_between}
use Rattle.run_rules.specs.Serving.{IsClientStep}
use Rattle.list_lemmas.proofs.Members.{among_all, among_map-in}
use Rattle.list_lemmas.proofs.Tests.{by_bool}
use Rattle.law_lines.proofs.Openings.{HasNodes}
use Rattle.law_ranged.specs.Ranging.{IsSentWithin}
use Rattle.law_reads.proofs.Relay.{UnderWay, IsDone, IsAsked, owed_step}
use Rattle.law_reads.proofs.Underway.{between_from, HandsSent, under_way}
use Rattle.law_reads.proofs.Served.{HandsOwn}
use Rattle.law_complete.proofs.Awaiting as awaiting
use Rattle.law_complete.proofs.Awaiting.{Replies, Done, IsOpen, IsLetterOf, IsReplyOf, OwedBy, IsOwed, owed_more}
use Rattle.law_complete.proofs.Passing.{StaysSo, Passes, Begins, Ends, Stays, moves}

-- what a message that is handed over tells
handed_news : (posts : List Posted) (what : Handed) (k : ℕ) (m : Posted) → is_stop what ≡ false → hands k what ≡ true → posted_at posts k ≡ Some m → news_in posts what ≡ news_from m.from m.bytes
handed_news posts (handed.Deliver j) k m runs hit at = ap (λ (n : ℕ). news_of_post (posted_at posts n)) (eqb-true j k hit) ∙ ap (λ (o : Option Posted). news_of_post o) at
handed_news posts (handed.Stop j) k m runs hit at = absurd (true≢false runs)
handed_news posts (handed.Asked r) k m runs hit at = absurd (cc)
handed_news posts (handed.Lie from bytes) k m runs hit at = absurd (cc)
handed_news posts handed.Tick k m runs hit at = absurd (cc)
handed_news posts handed.Crash k m runs hit at = absurd (cc)
handed_news posts handed.Replace k m runs hit at = absurd (cc)
handed_news posts handed.ClientCrash k m runs hit at = absurd (cc)

-- a tick tells nothing
tick_silent : (posts : List Posted) (what : Handed) → is_tick what ≡ true → news_in posts what ≡ Silence
tick_silent posts handed.Tick is = refl
tick_silent posts (handed.Asked r) is = absurd (cc)
tick_silent posts (handed.Deliver k) is = absurd (cc)
tick_silent posts (handed.Stop k) is = absurd (cc)
tick_silent posts (handed.Lie from bytes) is = absurd (cc)
tick_silent posts handed.Crash is = absurd (cc)
tick_silent posts handed.Replace is = absurd (cc)
tick_silent posts handed.ClientCrash is = absurd (cc)

none_told : (volume : Volume) (c : Client) (v : ℕ) (l : Letter) → IsAmong l (told volume c v Silence).outs → ⊥
unfolding told
none_told volume c v l among = among

-- a step of the client, by its rules, that no stop hands anything
pub record IsOwnStep (volume : Volume) (posts : List Posted) (c : Client) (earlier : List TraceStep) (t : TraceStep) : Type 0 where
  pub by : IsClientStep volume posts c (sent_by earlier) t
  pub party : t.party ≡ sender.Client
  pub own : HandsOwn posts t
  pub runs : is_stop t.handed ≡ false
  pub letters : AllByRecursion (IsSentWithin volume.geometry) (client_step volume posts c t).outs

module _ (volume : Volume) (posts : List Posted) (nodes : HasNodes volume.geometry) (name : NodeName) (inside : IsOfVolume volume.geometry name) (c : Client) (earlier : List TraceStep) (t : TraceStep)
    (mine : IsOwnStep volume posts c earlier t) (sent : HandsSent (t ∷ earlier)) where
  abbrev x : News
  x = news_of posts t

  abbrev answer : Told
  answer = told volume c t.event x

  news_is : x ≡ news_in posts t.handed
  news_is = ap (λ (b : Bool). if b then news_in posts t.handed else Silence) (ap is_client mine.party)

  -- what the rules send is under way
  begun : (l : Letter) → IsAmong l answer.outs → l.to ≡ name → awaiting.Asks answer.client name l.message → UnderWay (IsLetterOf posts name (awaiting.Asks answer.client name)) (t ∷ earlier)
  begun l among to asks =
      by_bool (is_tick t.handed) (UnderWay (IsLetterOf posts name (awaiting.Asks answer.client name)) (t ∷ earlier))
      (λ tick. absurd (none_told volume c t.event l (subst (λ (y : News). IsAmong l (told volume c t.event y).outs) (news_is ∙ tick_silent posts t.handed tick) among)))
      (λ still.
      let outs_are : (client_step volume posts c t).outs ≡ answer.outs =
      ap (λ (b : Bool). if b then (if is_tick t.handed then ticked volume.geometry c else answer.outs) else []) (ap is_client mine.party) ∙ ap (λ (b : Bool). if b then ticked volume.geometry c else answer.outs) still in
      let out : IsAmong l (client_step volume posts c t).outs = subst (λ (ls : List Letter). IsAmong l ls) (sym outs_are) among in
      let within : IsSentWithin volume.geometry l = among_all (IsSentWithin volume.geometry) (client_step volume posts c t).outs l out mine.letters in
      let there : IsAmong (posted_letter l) (posts_between posts (sent_by earlier) t.sent) =
      subst (λ (ls : List Posted). IsAmong (posted_letter l) ls) (sym mine.by.messages) (among_map-in posted_letter (client_step volume posts c t).outs l out) in
      under_way posts (IsLetterOf posts name (awaiting.Asks answer.client name)) t earlier (posted_letter l) sent (between_from posts (sent_by earlier) t.sent (posted_letter l) there)
      (λ k at. record {
        m = l.message;
        bytes = message_bytes l.message;
        at = subst (λ (n : NodeName). posted_at posts k ≡ Some (record { from = sender.Client; to = sender.Node n; bytes = message_bytes l.message })) to at;
        reads = message_again l.message within.counts within.widths;
        counts = within.counts;
        widths = within.widths;
        of = asks;
      }))

  not_node : sender.Node name ≡ sender.Client → ⊥
  not_node is = cc

  -- no ask of the client comes to it, and a reply tells what it is
  stayed : StaysSo volume.geometry c answer.client name x → IsOwed volume.geometry posts c name earlier → IsOwed volume.geometry posts answer.client name (t ∷ earlier)
  stayed so owed =
      owed_more posts name (awaiting.Asks c name) (Replies volume.geometry c name) (awaiting.Asks answer.client name) (Replies volume.geometry answer.client name) so.asks so.replies (Done answer.client name) (t ∷ earlier)
      (owed_step (IsLetterOf posts name (awaiting.Asks c name)) (IsReplyOf posts name (Replies volume.geometry c name)) (Done c name) ⊥ (Done answer.client name) ⊥ t earlier mine.by.more
      (record {
        done = λ done. IsDone (so.done done);
        kept = λ none. absurd none;
        asked = λ arrives. absurd (not_node (subst (λ (m : Option Posted). IfSome m (λ p. p.to ≡ t.party)) arrives.is_one.at (mine.own arrives.k arrives.handed) ∙ mine.party));
        answered = λ arrives.
            let r : IsReplyOf posts name (Replies volume.geometry c name) arrives.k = arrives.is_one in
            let is : x ≡ Says name r.m =
            news_is ∙ (handed_news posts t.handed arrives.k (record { from = sender.Node name; to = sender.Client; bytes = r.bytes }) mine.runs arrives.handed r.at ∙ ap (λ (d : Result Message MessageError). news_of_message name d) r.reads) in
            IsDone (so.replied r.m is r.of);
      }) owed)

  passed : Passes volume.geometry c name x answer → IsOwed volume.geometry posts c name earlier → IsOwed volume.geometry posts answer.client name (t ∷ earlier)
  passed (Begins l among to asks) owed = IsAsked (begun l among to asks)
  passed (Ends done) owed = IsDone done
  passed (Stays so) owed = stayed so owed

  -- A step of the client: what is owed is owed after it.
  pub client_owed : IsOpen volume.geometry c → IsOwed volume.geometry posts c name earlier → IsOwed volume.geometry posts answer.client name (t ∷ earlier)
  client_owed ready owed = passed (moves volume nodes name inside c t.event x ready).passes owed
