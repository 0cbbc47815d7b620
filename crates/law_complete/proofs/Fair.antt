-- No answer of a sound server to a question of its region is struck.
use Rattle.std.proofs.Common.{◌≡◌, ◌∙◌, inl, inr, ℕ, ◌<◌, ◌==◌, not, true, sym, ap, subst, eqb-true}
use Rattle.std.proofs.lemmas.Bool.{true≢false}
use Rattle.std.proofs.Common.{List}
use Rattle.salus_types.specs.Volume.{Shape, regions}
use Rattle.salus_types.specs.declared.names.NodeName.{NodeName}
use Rattle.salus_types.specs.declared.names.Sender.TheVariants as sender
use Rattle.salus_types.specs.declared.strike.Strike.{Strike}
use Rattle.salus_message.specs.declared.replies.Answer.{Answer}
use Rattle.salus_message.specs.declared.wire.Message.TheVariants as message
use Rattle.schedule_text.specs.declared.schedule.Volume.{Volume}
use Rattle.schedule_text.specs.declared.schedule.Event.{Event}
use Rattle.volume_model.specs.Contents.{region_of}
use Rattle.salus_model.specs.declared.trace.TraceStep.{TraceStep}
use Rattle.salus_model.specs.Following.{Posted}
use Rattle.salus_model.specs.Guarding.{is_lied_for}
use Rattle.salus_model.specs.Hearing.{Says, Past}
use Rattle.salus_model.specs.Judge.{Judge}
use Rattle.salus_model.specs.Answering.{Struck, is_fitting}
use Rattle.salus_model.specs.Complete.{IsSound}
use Rattle.client_rules.specs.State as state
use Rattle.client_rules.specs.Tables.{worth}
use Rattle.list_lemmas.proofs.Tests.{and_left}
use Rattle.law_lemmas.proofs.Numbered.{IsSized}
use Rattle.law_lemmas.proofs.Owned.{IsTold, told}
use Rattle.law_lemmas.proofs.Settled.{EachKnown}
use Rattle.law_lines.specs.Mirror.{MirrorsServing}
use Rattle.law_lines.proofs.ReadRows.{same-worth}
use Rattle.law_reads.specs.Reading.{counts}
use Rattle.law_asked.proofs.Said.{WasSaid, IsSaid}
use Rattle.law_asked.proofs.Present.{IsRootedIn, not_struck}
use Rattle.law_asked.proofs.Rooted.{AnswersRooted}

module _ (volume : Volume) (events : List Event) (posts : List Posted) (trace : List TraceStep) (history : List Past) (judge : Judge) (n sent : ℕ) (name : NodeName) (sound : IsSound events trace name)
    (sized : EachKnown judge (IsSized volume.geometry)) (rooted : AnswersRooted volume posts name judge sent) (s : state.Serving) (mirrors : MirrorsServing volume.geometry history judge n s) where
  abbrev shape : Shape
  shape = volume.geometry

  -- it is lied for by nobody
  unlied_node : is_lied_for events (sender.Node name) ≡ true → ⊥
  unlied_node lied = absurd (true≢false (sym (and_left (not (is_lied_for events (sender.Node name))) _ sound.right) ∙ ap not lied))

  own_fair : (a : Answer) → WasSaid posts sent name (message.Answer a) → a.session ≡ s.session → region_of shape a.block ≡ name.region → (k : Strike) → worth shape s a ≡ Struck k → ⊥
  own_fair a was session of k struck =
      let root : IsRootedIn shape volume.key judge name.region a = rooted was.k was.counted was.low was.post was.at was.from a was.reads in
      let here : IsRootedIn shape volume.key judge (region_of shape a.block) a = subst (λ (g : ℕ). IsRootedIn shape volume.key judge g a) (sym of) root in
      let says : IsTold shape root.tagged.session root.tagged.g root.rec.header =
      told shape volume.key root.tagged.session (sized root.tagged.session root.tagged.e root.tagged.known) root.tagged.g root.rec root.tagged.either in
      let inside : region_of shape a.block < regions shape = subst (λ (g : ℕ). g < regions shape) (sym says.region ∙ (root.region ∙ sym of)) says.inside in
      not_struck shape volume.key judge sized a (session ∙ mirrors.counts.session) inside here k (sym (same-worth shape judge s a mirrors.counts inside) ∙ struck)

  pub fair : (a : Answer) → IsSaid events posts sent (Says name (message.Answer a)) → counts shape s name a ≡ true → region_of shape a.block ≡ name.region → (k : Strike) → worth shape s a ≡ Struck k → ⊥
  fair a said count of k struck = elim said [
    | inl lied ↦ unlied_node lied
    | inr was ↦ own_fair a was (eqb-true a.session s.session (and_left (a.session == s.session) (is_fitting shape name a) count)) of k struck
  ]
