-- What is told of an answer that ends the head.
use Rattle.std.proofs.Common.{◌≡◌, ◌∙◌, ℕ, ◌<◌, List, [], ◌∷◌, length, drop, refl, sym, ap, subst, append-nil}
use Rattle.salus_types.specs.Volume.{Shape}
use Rattle.salus_types.specs.declared.names.NodeName.{NodeName}
use Rattle.salus_message.specs.declared.replies.Answer.{Answer}
use Rattle.schedule_text.specs.declared.schedule.Volume.{Volume}
use Rattle.salus_model.specs.Waiting.{Taken}
use Rattle.client_rules.specs.State.{Serving}
use Rattle.client_rules.specs.Serving.{before, head_faulted, leaves, submits}
use Rattle.client_premises.specs.Premises.{AnswerIsApart}
use Rattle.pruned_volume.specs.Trees.{AgreesAll, KeptTrees}
use Rattle.verified_read.specs.Table.{Table}
use Rattle.client_asking.specs.declared.step.Step.{Step}
use Rattle.head_blocks.specs.declared.headway.Headway.{Headway}
use Rattle.head_blocks.specs.declared.headway.Headway.TheVariants as headway
use Rattle.head_blocks.specs.Advancing.{BearsHead, HasEnded, IsDue, IsTold as IsHeard, head_told}
use Rattle.serving_client.specs.declared.inside.Core.{Core}
use Rattle.serving_client.specs.Kept.{KeptServing}
use Rattle.serving_client.specs.Keeping.{IsBorne, kept_of}
use Rattle.serving_client.specs.Standing.{IsTold, StandsFor}
use Rattle.serving_client.proofs.Heads.{faulted_is}
use Rattle.serving_client.proofs.Standings.{told_before, told_same}

module _ (k : Core) (name : NodeName) (a : Answer) (trees : KeptTrees) (asked : Table) (first middle after : Step) (kept : KeptServing) (way : Headway)
    (heard : (volume : Volume) (c : Serving) → volume.geometry ≡ k.pipeline.window.shape → BearsHead k.pipeline k.trees k.asked.asked c → AnswerIsApart k.pipeline.window.shape c a
    → IsHeard way volume c (head_told volume c name a) asked.asked first middle)
    (agrees : (c : Serving) → BearsHead k.pipeline k.trees k.asked.asked c → AnswerIsApart k.pipeline.window.shape c a → AgreesAll trees c.contents)
    (volume : Volume) (c : Serving) (stands : StandsFor volume (kept_of k) c) (apart : AnswerIsApart volume.geometry c a) where
  bears : BearsHead k.pipeline k.trees k.asked.asked c
  bears = record { stands = stands.pipeline; same = stands.asked; agrees = stands.agrees }

  apart_here : AnswerIsApart k.pipeline.window.shape c a
  apart_here = subst (λ s. AnswerIsApart s c a) stands.volume_is.geometry apart

  borne : IsBorne volume (record k { trees = trees; asked = asked }) c
  borne = record { volume_is = stands.volume_is; pipeline = stands.pipeline; agrees = agrees c bears apart_here; reads = stands.reads }

  pub told_known : way ≡ headway.Known
      → ((v : Volume) (d : Serving) → IsBorne v (record k { trees = trees; asked = asked }) d → IsTold v middle after kept (submits v d k.line))
      → IsTold volume first after kept (head_told volume c name a)
  told_known is submitted =
      let due : IsDue volume c (head_told volume c name a) first middle =
      subst (λ w. IsHeard w volume c (head_told volume c name a) asked.asked first middle) is (heard volume c stands.volume_is.geometry bears apart_here) in
      told_same volume kept first after (before [] [] (submits volume c k.line)) (head_told volume c name a)
      (due.submitted ∙ ap (submits volume c) (sym stands.line))
      (told_before volume kept first middle after [] [] (submits volume c k.line) (due.outs ∙ sym (append-nil first.outs.items)) (due.lines ∙ sym (append-nil first.lines.items)) (submitted volume c borne))

  pub told_faulted : way ≡ headway.Faulted → 0 < length k.line
      → ((v : Volume) (d : Serving) → IsBorne v (record k { trees = trees; asked = asked }) d → IsTold v middle after kept (leaves v.geometry d (drop 1 k.line)))
      → IsTold volume first after kept (head_told volume c name a)
  told_faulted is some left =
      let ended : HasEnded volume c (head_told volume c name a) first middle =
      subst (λ w. IsHeard w volume c (head_told volume c name a) asked.asked first middle) is (heard volume c stands.volume_is.geometry bears apart_here) in
      told_same volume kept first after (before [] (ended.line ∷ []) (leaves volume.geometry c (drop 1 k.line))) (head_told volume c name a)
      (ended.ended ∙ ap (head_faulted volume.geometry c ended.line) (sym stands.line) ∙ faulted_is volume.geometry c ended.line k.line some)
      (told_before volume kept first middle after [] (ended.line ∷ []) (leaves volume.geometry c (drop 1 k.line)) (ended.outs ∙ sym (append-nil first.outs.items)) ended.lines (left volume c borne))
