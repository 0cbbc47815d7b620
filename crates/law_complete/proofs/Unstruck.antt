-- Along a run: no answer of a sound server strikes it, so no line is a fault of a block of its region.
use Rattle.std.proofs.Common.{◌≡◌, ◌∙◌, inl, inr, ℕ, ◌+◌, ◌<◌, ◌==◌, ◌&&◌, not, true, false, List, [], ◌∷◌, ◌++◌, length, Option, None, Some, refl, sym, ap, ap₂, subst, eqb-true}
use Rattle.std.specs.Option.{option_or}
use Rattle.std.proofs.lemmas.Bool.{true≢false}
use Rattle.salus_types.specs.Volume.{Shape, regions}
use Rattle.salus_types.specs.declared.names.NodeName.{NodeName}
use Rattle.salus_types.specs.declared.names.Sender.TheVariants as sender
use Rattle.salus_types.specs.declared.strike.Strike.{Strike}
use Rattle.salus_message.specs.declared.replies.Answer.{Answer}
use Rattle.salus_message.specs.declared.wire.Message.TheVariants as message
use Rattle.schedule_text.specs.Limits.{IsWithinLimits}
use Rattle.schedule_text.specs.declared.schedule.Volume.{Volume}
use Rattle.schedule_text.specs.declared.schedule.Event.{Event}
use Rattle.merkle_region.specs.Tree.{NoTwoCollide}
use Rattle.volume_model.specs.Contents.{region_of}
use Rattle.salus_model.specs.declared.trace.TraceStep.{TraceStep}
use Rattle.salus_model.specs.Judge.{Judge}
use Rattle.salus_model.specs.Following.{Posted, sent_by}
use Rattle.salus_model.specs.Guarding.{is_lied_for}
use Rattle.salus_model.specs.Hearing.{News, Asks, Says, Crashes, Silence, Past, news_of, judge_of}
use Rattle.salus_model.specs.Waiting.{Question, is_asked}
use Rattle.salus_model.specs.Answering.{Verdict, Stale, Good, Struck, verdict_of, is_fitting, is_answer, verdict_in, strike_by, first_strike}
use Rattle.salus_model.specs.Due.{past_of, history_from}
use Rattle.salus_model.specs.Complete.{IsSound}
use Rattle.client_rules.specs.State as state
use Rattle.run_rules.specs.Knowing.{KnownNode, fresh}
use Rattle.run_rules.specs.Running.{AllSteps, formatted}
use Rattle.list_lemmas.proofs.Each.{either_way}
use Rattle.list_lemmas.proofs.Tests.{way_with, and_left, and_right}
use Rattle.law_lemmas.proofs.Numbered.{IsSized}
use Rattle.law_lemmas.proofs.Owned.{IsTold, told}
use Rattle.law_lemmas.proofs.Settled.{EachKnown}
use Rattle.law_history.specs.Handing.{steps_in}
use Rattle.law_asked.proofs.Said.{WasSaid, IsSaid, step_said}
use Rattle.law_asked.proofs.Present.{IsRootedIn, not_struck}
use Rattle.law_asked.proofs.Along as asked
use Rattle.law_complete.specs.Faulting.{HasNoFaultAt}
use Rattle.law_complete.proofs.Lines.{news_fine}

module _ (volume : Volume) (events : List Event) (posts : List Posted) (trace : List TraceStep) (limits : IsWithinLimits (record { volume = volume; events = events })) (strings : List (List ℕ)) (none : NoTwoCollide strings)
    (unlied : is_lied_for events sender.Client ≡ false) (name : NodeName) (sound : IsSound events trace name)
    (right : AllSteps volume.geometry posts name (fresh volume.geometry name.region (formatted volume name)) 0 trace) (many : name.replica < volume.geometry.replicas) where
  abbrev shape : Shape
  shape = volume.geometry

  abbrev Before : List TraceStep → List Past → ℕ → ℕ → state.Client → KnownNode → Type 0
  Before done history n top c known = asked.IsAlong volume events posts trace limits strings none unlied name sound right done history n top c known

  abbrev Given : List Past → ℕ → ℕ → state.Client → KnownNode → List TraceStep → List TraceStep → Type 0
  Given history n m c known done rest = asked.AreGiven volume events posts trace limits strings none unlied name sound right history n m c known done rest

  -- it is lied for by nobody
  unlied_node : is_lied_for events (sender.Node name) ≡ true → ⊥
  unlied_node lied = absurd (true≢false (sym (and_left (not (is_lied_for events (sender.Node name))) _ sound.right) ∙ ap not lied))

  -- the server has no strike at a question of its region
  abbrev pub IsUnstruck : List Past → Type 0
  IsUnstruck history = (q : Question) → region_of volume.geometry q.block ≡ name.region → first_strike volume.geometry q name.replica history ≡ None

  module _ (done : List TraceStep) (history : List Past) (n top : ℕ) (c : state.Client) (known : KnownNode) (a : Before done history n top c known) where
    abbrev judge : Judge
    judge = judge_of volume.geometry events history

    abbrev sent : ℕ
    sent = sent_by (steps_in history)

    sized : EachKnown judge (IsSized volume.geometry)
    sized = a.standing.settled.sized

    own_right : (y : Answer) → WasSaid posts sent name (message.Answer y) → y.session ≡ judge.now.session → region_of shape y.block ≡ name.region → (k : Strike) → verdict_of shape judge y ≡ Struck k → ⊥
    own_right y was session of k struck =
        let root : IsRootedIn shape volume.key judge name.region y = a.rooted was.k was.counted was.low was.post was.at was.from y was.reads in
        let here : IsRootedIn shape volume.key judge (region_of shape y.block) y = subst (λ (g : ℕ). IsRootedIn shape volume.key judge g y) (sym of) root in
        let says : IsTold shape root.tagged.session root.tagged.g root.rec.header =
        told shape volume.key root.tagged.session (sized root.tagged.session root.tagged.e root.tagged.known) root.tagged.g root.rec root.tagged.either in
        let inside : region_of shape y.block < regions shape = subst (λ (g : ℕ). g < regions shape) (sym says.region ∙ (root.region ∙ sym of)) says.inside in
        not_struck shape volume.key judge sized y session inside here k struck

    never : (q : Question) (node : NodeName) (y : Answer) → IsSaid events posts sent (Says node (message.Answer y)) → is_answer shape judge q node y ≡ true → (s : Strike) → verdict_of shape judge y ≡ Struck s
        → region_of shape q.block ≡ name.region → node.replica ≡ name.replica → ⊥
    never q node y said is s verdict region replica =
        let front = and_left ((y.session == judge.now.session) && (y.read == q.number) && (y.block == q.block)) (is_fitting shape node y) is in
        let fit = and_right ((y.session == judge.now.session) && (y.read == q.number) && (y.block == q.block)) (is_fitting shape node y) is in
        let session : y.session ≡ judge.now.session =
        eqb-true y.session judge.now.session (and_left (y.session == judge.now.session) (y.read == q.number) (and_left ((y.session == judge.now.session) && (y.read == q.number)) (y.block == q.block) front)) in
        let block : y.block ≡ q.block = eqb-true y.block q.block (and_right ((y.session == judge.now.session) && (y.read == q.number)) (y.block == q.block) front) in
        let place : node.region ≡ region_of shape y.block =
        eqb-true node.region (region_of shape y.block)
        (and_left (node.region == region_of shape y.block) (length y.bytes == shape.block) (and_left ((node.region == region_of shape y.block) && (length y.bytes == shape.block)) (length y.path == shape.height) fit)) in
        let here : region_of shape y.block ≡ name.region = ap (region_of shape) block ∙ region in
        let same : node ≡ name = one_name node name (place ∙ here) replica in
        elim (subst (λ (z : NodeName). IsSaid events posts sent (Says z (message.Answer y))) same said) [
          | inl lied ↦ unlied_node lied
          | inr was ↦ own_right y was session here s verdict
        ]
      where
        one_name : (l m : NodeName) → l.region ≡ m.region → l.replica ≡ m.replica → l ≡ m
        one_name l m regions replicas = λ i. record { region = regions i; replica = replicas i }

    no_strike : (x : News) → IsSaid events posts sent x → (q : Question) → region_of shape q.block ≡ name.region → strike_by name.replica (verdict_in shape judge q x) ≡ None
    no_strike (Says node (message.Answer y)) said q region =
        way_with (is_answer shape judge q node y) (Some (node.replica, verdict_of shape judge y)) None (λ o. strike_by name.replica o ≡ None) (λ is. by_verdict is (verdict_of shape judge y) refl) (λ _. refl)
      where
        by_verdict : is_answer shape judge q node y ≡ true → (v : Verdict) → verdict_of shape judge y ≡ v → strike_by name.replica (Some (node.replica, v)) ≡ None
        by_verdict is Stale verdict = refl
        by_verdict is Good verdict = refl
        by_verdict is (Struck s) verdict =
            way_with (node.replica == name.replica) (Some s) None (λ o. o ≡ None) (λ hit. absurd (never q node y said is s verdict region (eqb-true node.replica name.replica hit))) (λ _. refl)
    no_strike (Says node other) said q region = refl
    no_strike (Asks r) said q region = refl
    no_strike Crashes said q region = refl
    no_strike Silence said q region = refl

    module _ (t : TraceStep) (rest : List TraceStep) (given : Given history n (top + 1) c known done (t ∷ rest)) where
      abbrev x : News
      x = news_of posts t

      abbrev p : Past
      p = past_of volume events posts history t

      said : IsSaid events posts sent x
      said = step_said events posts sent t (asked.over volume events posts trace limits strings none unlied name sound right done history n top c known a t rest given)

      pub unstruck_then : IsUnstruck history → IsUnstruck (p ∷ history)
      unfolding first_strike
      unstruck_then was q region =
          ap₂ (λ (l m : Option Strike). option_or l m) (was q region)
          (either_way (is_asked shape history judge q) (verdict_in shape judge q x) None (λ o. strike_by name.replica o ≡ None) (no_strike x said q region) refl)

      pub faultless_then : IsUnstruck history → HasNoFaultAt volume.geometry name history → HasNoFaultAt volume.geometry name (p ∷ history)
      faultless_then was fine = (news_fine volume name events posts sent history judge many was never t.event x said, fine)

  -- So after all steps.
  pub faultless_from : (rest done : List TraceStep) (history : List Past) (n top : ℕ) (c : state.Client) (known : KnownNode) → Before done history n top c known → Given history n (top + 1) c known done rest
      → IsUnstruck history → HasNoFaultAt volume.geometry name history → HasNoFaultAt volume.geometry name (history_from volume events posts history rest)
  unfolding history_from
  faultless_from [] done history n top c known a given was fine = fine
  faultless_from (t ∷ rest) done history n top c known a given was fine =
      faultless_from rest (done ++ t ∷ []) (past_of volume events posts history t ∷ history) _ _ _ _
      (asked.along_then volume events posts trace limits strings none unlied name sound right done history n top c known a t rest given)
      (asked.given_then volume events posts trace limits strings none unlied name sound right done history n top c known a t rest given)
      (unstruck_then done history n top c known a t rest given was) (faultless_then done history n top c known a t rest given was fine)
