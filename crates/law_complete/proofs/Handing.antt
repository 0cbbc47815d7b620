-- A message of a node to the client that was handed over is news of a step.
use Rattle.std.proofs.Common.{◌≡◌, ◌∙◌, inl, inr, ℕ, ◌-◌, ◌<◌, ◌≤◌, Bool, true, false, if◌then◌else◌, List, [], ◌∷◌, length, Option, None, Some, refl, sym, ap, subst, arith, eqb-true}
use Rattle.std.specs.Prelude.{IfSome, slice_get}
use Rattle.std.specs.List.{AllByRecursion}
use Rattle.std.proofs.lemmas.Bool.{true≢false, lt-ltb}
use Rattle.std.proofs.lemmas.Option.{slice_get_within}
use Rattle.salus_types.specs.declared.names.Sender.{Sender}
use Rattle.salus_types.specs.declared.names.Sender.TheVariants as sender
use Rattle.schedule_text.specs.declared.schedule.Volume.{Volume}
use Rattle.schedule_text.specs.declared.schedule.Event.{Event}
use Rattle.merkle_region.specs.Tree.{IsAmong}
use Rattle.volume_model.specs.Groups.{is_client}
use Rattle.salus_model.specs.declared.trace.Handed.{Handed}
use Rattle.salus_model.specs.declared.trace.Handed.TheVariants as handed
use Rattle.salus_model.specs.declared.trace.TraceStep.{TraceStep}
use Rattle.salus_model.specs.Following.{Posted, posted_at, hands, was_handed}
use Rattle.salus_model.specs.Hearing.{Silence, Past, news_from, news_of_post, news_in, news_of}
use Rattle.salus_model.specs.Due.{past_of, history_from}
use Rattle.salus_model.specs.Complete.{is_stop}
use Rattle.list_lemmas.proofs.Members.{among_all, any_among}
use Rattle.law_reads.proofs.Events.{Of, hands_own, runs_for}

-- a message that was posted has a number among theirs
pub posted_within : (posts : List Posted) (k : ℕ) (m : Posted) → 0 < k → posted_at posts k ≡ Some m → k ≤ length posts
posted_within posts k m up at =
    let there : slice_get posts (k - 1) ≡ Some m = sym (ap (λ (b : Bool). if b then slice_get posts (k - 1) else None) (lt-ltb 0 k up)) ∙ at in
    let within : k - 1 < length posts = slice_get_within posts (k - 1) m there in
    omega (arith, up, within)

delivers : (k : ℕ) (what : Handed) → hands k what ≡ true → is_stop what ≡ false → what ≡ handed.Deliver k
delivers k (handed.Deliver j) hit runs = ap (λ (n : ℕ). handed.Deliver n) (eqb-true j k hit)
delivers k (handed.Stop j) hit runs = absurd (true≢false runs)
delivers k (handed.Asked r) hit runs = absurd (true≢false (sym hit))
delivers k (handed.Lie from bytes) hit runs = absurd (true≢false (sym hit))
delivers k handed.Tick hit runs = absurd (true≢false (sym hit))
delivers k handed.Crash hit runs = absurd (true≢false (sym hit))
delivers k handed.Replace hit runs = absurd (true≢false (sym hit))
delivers k handed.ClientCrash hit runs = absurd (true≢false (sym hit))

module _ (volume : Volume) (events : List Event) (posts : List Posted) where
  past_kept : (steps : List TraceStep) (history : List Past) (q : Past) → IsAmong q history → IsAmong q (history_from volume events posts history steps)
  unfolding history_from
  past_kept [] history q among = among
  past_kept (t ∷ steps) history q among = past_kept steps (past_of volume events posts history t ∷ history) q (inr among)

  -- the step stands in the history, with what it told the client
  pub record IsInHistory (t : TraceStep) (history : List Past) : Type 0 where
    pub q : Past
    pub among : IsAmong q history
    pub news : q.news ≡ news_of posts t

  step_past : (steps : List TraceStep) (history : List Past) (t : TraceStep) → IsAmong t steps → IsInHistory t (history_from volume events posts history steps)
  unfolding history_from
  step_past [] history t among = absurd among
  step_past (s ∷ steps) history t (inl same) =
      let p : Past = past_of volume events posts history s in
      record { q = p; among = past_kept steps (p ∷ history) p (inl refl); news = ap (news_of posts) (sym same) }
  step_past (s ∷ steps) history t (inr among) = step_past steps (past_of volume events posts history s ∷ history) t among

  -- a step that told the client the message
  pub record IsNews (post : Posted) (history : List Past) : Type 0 where
    pub q : Past
    pub among : IsAmong q history
    pub news : q.news ≡ news_from post.from post.bytes

  module _ (trace : List TraceStep) (of : AllByRecursion (Of events posts) trace) (k : ℕ) (post : Posted) (at : posted_at posts k ≡ Some post) (to : post.to ≡ sender.Client) where
    told_by : (t : TraceStep) → IsAmong t trace → hands k t.handed ≡ true → news_of posts t ≡ news_from post.from post.bytes
    told_by t among hit =
        let here = among_all (Of events posts) trace t among of in
        let party : t.party ≡ sender.Client = sym (subst (λ (o : Option Posted). IfSome o (λ m. m.to ≡ t.party)) at (hands_own events posts t here k hit)) ∙ to in
        let what : t.handed ≡ handed.Deliver k = delivers k t.handed hit (runs_for events posts t.party t.handed here (ap is_client party)) in
        ap (λ (w : Sender). if is_client w then news_in posts t.handed else Silence) party ∙ (ap (news_in posts) what ∙ ap news_of_post at)

    pub handed_news : was_handed trace k ≡ true → IsNews post (history_from volume events posts [] trace)
    handed_news was =
        let found = any_among (λ (step : TraceStep). hands k step.handed) trace was in
        let past : IsInHistory found.0 (history_from volume events posts [] trace) = step_past trace [] found.0 found.1 in
        record { q = past.q; among = past.among; news = past.news ∙ told_by found.0 found.1 found.2 }
