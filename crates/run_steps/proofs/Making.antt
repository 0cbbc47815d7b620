-- A run with one step more of a node, or of the client.
use Rattle.std.proofs.Common.{◌≡◌, ◌∙◌, ℕ, ◌+◌, ◌^◌, ◌<◌, ◌≤◌, Bool, true, false, List, [], ◌∷◌, ◌++◌, map, length, reverse, None, refl, sym, ap, subst, length-append, arith}
use Rattle.std.specs.Prelude.{is_some}
use Rattle.std.specs.List.{AllByRecursion}
use Rattle.salus_types.specs.Volume.{Shape, IsVolume}
use Rattle.salus_types.specs.declared.names.NodeName.{NodeName}
use Rattle.salus_types.specs.declared.names.Sender.{Sender}
use Rattle.salus_types.specs.declared.names.Sender.TheVariants as sender
use Rattle.salus_types.specs.declared.records.Out.{Out}
use Rattle.schedule_text.specs.declared.schedule.Volume.{Volume}
use Rattle.printed_lines.specs.declared.line.Line.{Line}
use Rattle.salus_model.specs.declared.trace.Handed.{Handed}
use Rattle.salus_model.specs.declared.trace.TraceStep.{TraceStep}
use Rattle.salus_model.specs.Following.{Posted, sent_by, loads, IsStep}
use Rattle.salus_model.specs.Hearing.{news_of}
use Rattle.client_rules.specs.State.{Client}
use Rattle.client_rules.specs.Rules.{client_step, posted_letter}
use Rattle.client_premises.specs.Premises.{IsApart}
use Rattle.client_premises.proofs.Along.{next, behind_map}
use Rattle.posting.specs.Letters.{out_of_letter}
use Rattle.posting.specs.Sendings.{out_of_sending}
use Rattle.run_rules.specs.Knowing.{outs_to, LoadsRight}
use Rattle.run_rules.specs.Running.{posts_between}
use Rattle.run_rules.specs.Run.{First}
use Rattle.run_rules.specs.Serving.{IsClientStep}
use Rattle.law_ranged.specs.Ranging.{IsSentWithin}
use Rattle.law_ranged.proofs.Bounded.{ClientFits}
use Rattle.run_steps.specs.Steps.{IsFront, known_at, OfClient, AreMade}
use Rattle.run_steps.specs.Parties.{posts_by}
use Rattle.run_steps.proofs.Fronts.{between_new, own_new, front_longer}
use Rattle.run_steps.proofs.Sending.{node_posts, client_posts, node_within, posts_own}
use Rattle.run_steps.proofs.Stepping.{node_made, client_made, client_next}

-- a step that adds these messages of its party, where so many were sent before
pub record Adds (sent : List Posted) (trace : List TraceStep) (n : ℕ) (party : Sender) (what : Handed) (new : List Posted) (step : TraceStep) : Type 0 where
  pub number : step.event ≡ n
  pub addressed : step.party ≡ party
  pub hands_it : step.handed ≡ what
  pub before : sent_by (reverse trace) ≡ length sent
  pub now : step.sent ≡ length (sent ++ new)
  pub own : AllByRecursion (λ m. m.from ≡ party) new
  pub loaded_then : is_some step.loaded ≡ loads what

-- it is a step of that event
pub is_step : (sent : List Posted) (trace : List TraceStep) (n : ℕ) (party : Sender) (what : Handed) (new : List Posted) (step : TraceStep) (posts : List Posted)
    → Adds sent trace n party what new step → IsFront (sent ++ new) posts → IsStep posts (reverse trace) n party what step
is_step sent trace n party what new step posts adds front =
    let before = adds.before in
    let now = adds.now in
    let both = length-append sent new in
    let long = front_longer (sent ++ new) posts front in
    record {
      number = adds.number;
      addressed = adds.addressed;
      hands_it = adds.hands_it;
      more = omega (arith, before, now, both);
      there = omega (arith, now, long);
      own = λ k low high. own_new sent new posts party step front now adds.addressed adds.own k (omega (arith, low, before)) high;
      loaded_then = adds.loaded_then;
    }

module _ (first : First) (volume : Volume) (limits : IsVolume volume.geometry) (posts sent : List Posted) (trace : List TraceStep) (told : List (List Line)) (step : TraceStep) (outs : List Out) where
  abbrev shape : Shape
  shape = volume.geometry

  -- of a node
  pub node_step : (n : ℕ) (name : NodeName) (what : Handed) → Adds sent trace n (sender.Node name) what (posts_by shape (sender.Node name) outs) step
      → IsFront (sent ++ posts_by shape (sender.Node name) outs) posts
      → AreMade first volume posts trace told
      → ((known_at first volume posts trace name).silent ≡ true → step.failed ≡ false)
      → LoadsRight shape name.region posts (known_at first volume posts trace name) step.handed step.failed step.loaded
      → outs ≡ map out_of_sending (outs_to shape name.region posts (known_at first volume posts trace name) step.handed step.failed)
      → AreMade first volume posts (trace ++ step ∷ []) (told ++ [] ∷ [])
  node_step n name what adds front made quiet loads same =
      let new : List Posted = posts_by shape (sender.Node name) outs in
      let before = adds.before in
      let now = adds.now in
      let both = length-append sent new in
      node_made volume posts first trace step told made name adds.addressed (record {
        quiet = quiet;
        loads = loads;
        more = omega (arith, before, now, both);
        messages = ap (λ (k : ℕ). posts_between posts k step.sent) before
            ∙ (between_new sent new posts step.sent front now
            ∙ node_posts shape name outs (outs_to shape name.region posts (known_at first volume posts trace name) step.handed step.failed) same (node_within volume limits posts first trace name step.handed step.failed));
      })

  -- of the client: P holds of it before the step, and Q after it
  pub client_made_by : (n b next_b : ℕ) (what : Handed) (said : List Line) (P Q : Client → Type 0) → Adds sent trace n sender.Client what (posts_by shape sender.Client outs) step
      → IsFront (sent ++ posts_by shape sender.Client outs) posts
      → AreMade first volume posts trace told
      → OfClient first volume posts trace (λ d. P d × ClientFits shape b d)
      → step.failed ≡ false → step.loaded ≡ None
      → ((d : Client) → P d → IsApart volume d (news_of posts step) → Q (next volume posts d step) × (outs ≡ map out_of_letter (client_step volume posts d step).outs) × (said ≡ (client_step volume posts d step).lines))
      → ((d : Client) → ClientFits shape b d → ClientFits shape next_b (next volume posts d step) × AllByRecursion (IsSentWithin shape) (client_step volume posts d step).outs)
      → AreMade first volume posts (trace ++ step ∷ []) (told ++ said ∷ []) × OfClient first volume posts (trace ++ step ∷ []) (λ d. Q d × ClientFits shape next_b d)
  client_made_by n b next_b what said P Q adds front made so_far calm unloaded answers fits =
      let new : List Posted = posts_by shape sender.Client outs in
      let before = adds.before in
      let now = adds.now in
      let both = length-append sent new in
      let up : sent_by (reverse trace) ≤ step.sent = omega (arith, before, now, both) in
      let messages : (d : Client) → outs ≡ map out_of_letter (client_step volume posts d step).outs → AllByRecursion (IsSentWithin shape) (client_step volume posts d step).outs
      → posts_between posts (sent_by (reverse trace)) step.sent ≡ map posted_letter (client_step volume posts d step).outs =
      λ d same within. ap (λ (k : ℕ). posts_between posts k step.sent) before ∙ (between_new sent new posts step.sent front now ∙ client_posts shape outs (client_step volume posts d step).outs same within) in
      let Before : Client → Type 0 = λ d. P d × ClientFits shape b d in (
        client_made volume posts first trace step told made said adds.addressed
            (behind_map volume posts first.client trace Before
            (λ d. IsApart volume d (news_of posts step) → IsClientStep volume posts d (sent_by (reverse trace)) step × (said ≡ (client_step volume posts d step).lines))
            (λ d is apart.
            let answer = answers d is.0 apart in
            (record { calm = calm; unloaded = unloaded; more = up; messages = messages d answer.1 (fits d is.1).1 }, answer.2)) so_far),
        client_next volume posts first trace step (λ d. Q d × ClientFits shape next_b d)
            (behind_map volume posts first.client trace Before (λ d. IsApart volume d (news_of posts step) → Q (next volume posts d step) × ClientFits shape next_b (next volume posts d step))
            (λ d is apart. ((answers d is.0 apart).0, (fits d is.1).0)) so_far),
      )
