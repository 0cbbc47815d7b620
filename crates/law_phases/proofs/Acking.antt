-- The acknowledgements of a claim are as many steps of the abstract client.
use Rattle.std.proofs.Common.{◌≡◌, ℕ, suc, ◌+◌, ◌-◌, ◌<◌, ◌∙◌, true, List, [], ◌∷◌, ◌++◌, length, drop, get_or, refl, ap, sym, subst, arith}
use Rattle.std.proofs.lemmas.Bool.{cond_both}
use Rattle.std.proofs.lemmas.List.{length-drop, drop-drop, get_or-drop}
use Rattle.salus_types.specs.Volume.{Shape}
use Rattle.schedule_text.specs.declared.schedule.Event.{Event}
use Rattle.printed_lines.specs.declared.line.Line.{Line}
use Rattle.printed_lines.specs.declared.line.Line.TheVariants as line
use Rattle.volume_model.specs.Contents.{Batch}
use Rattle.volume_model.specs.Parts.{leader_of}
use Rattle.salus_model.specs.Judge.{Judge, judged_all}
use Rattle.salus_model.specs.Hearing.{News}
use Rattle.salus_model.specs.Waiting.{Taken, unended}
use Rattle.salus_model.specs.Due.{all_claim, barriers_due, ack_due, acks_due}
use Rattle.list_lemmas.proofs.Each.{all_both}
use Rattle.law_lemmas.proofs.Judged.{judged_all-append}
use Rattle.law_lemmas.proofs.Settled.{now-known}
use Rattle.law_prefix.specs.World as abstract
use Rattle.law_prefix.specs.World.{World, Guarded, leader}
use Rattle.law_prefix.specs.Steps.{AllClaim, Acks}
use Rattle.law_prefix.specs.Run.{Run, Step, begun, further, acked, with_client}
use Rattle.kept_model.specs.Batches.{touching, list_of, list_at}
use Rattle.kept_model.specs.Nodes.{volume_as}
use Rattle.law_records.proofs.Numbers.{length-touching}
use Rattle.law_records.proofs.Leaders.{leader_as}
use Rattle.law_phases.proofs.Sees.{Sees, sees_same}
use Rattle.law_phases.proofs.Still.{SameSessions, IsCalm, AreCalm, still_same, still_calm, barriers_still, calm_ack}

-- all but the client's sessions and front is as before
pub record Stays (w x : World) : Type 0 where
  pub images : x.images ≡ w.images
  pub counts : x.counts ≡ w.counts
  pub fresh : x.fresh ≡ w.fresh
  pub votes : x.votes ≡ w.votes
  pub claims : x.claims ≡ w.claims
  pub staged : x.staged ≡ w.staged
  pub switched : x.switched ≡ w.switched
  pub replies : x.replies ≡ w.replies
  pub asked : x.client.asked ≡ w.client.asked
  pub phase : x.client.phase ≡ w.client.phase
  pub switches : x.client.switches ≡ w.client.switches

pub stays_here : (w : World) → Stays w w
stays_here w = record { images = refl; counts = refl; fresh = refl; votes = refl; claims = refl; staged = refl; switched = refl; replies = refl; asked = refl; phase = refl; switches = refl }

-- runs one after another
pub run_on : (v : abstract.Volume) (w x y : World) → Run v w x → Run v x y → Run v w y
run_on v w x y first (begun u guarded) = first
run_on v w x y first (further u z t run step guarded) = further w z t (run_on v w u z first run) step guarded

pub one_step : (v : abstract.Volume) (w x : World) → Guarded v w.counts → Guarded v x.counts → Step v w x → Run v w x
one_step v w x before after step = further w w x (begun w before) step after

module _ (shape : Shape) (events : List Event) where
  abbrev v : abstract.Volume
  v = volume_as shape events

  pub record IsAcked (w : World) (judge : Judge) : Type 0 where
    pub after : World
    pub run : Run v w after
    pub stays : Stays w after
    pub sees : Sees shape judge after.client

  module _ (requests : List Taken) (news : List News) (claims : List abstract.Claim)
      (claimed : (session s : ℕ) (batch : Batch) → all_claim shape session s batch news ≡ true → AllClaim v claims (leader_of shape batch) session s) where
    abbrev ack_first : Judge → Judge
    ack_first judge = record judge { acked = judge.acked + 1 }

    -- after one acknowledgement the front is one more, and the sessions are the same
    ack_then : (judge : Judge) → SameSessions (ack_first judge) (judged_all events judge (ack_due events judge requests))
    unfolding judged_all
    ack_then judge =
        subst (SameSessions (ack_first judge))
        (sym (judged_all-append events judge (line.Ack (judge.acked + 1) ∷ []) (barriers_due (ack_first judge) (unended (ack_first judge) requests))))
        (still_same events (barriers_due (ack_first judge) (unended (ack_first judge) requests)) (ack_first judge) (barriers_still (ack_first judge) (unended (ack_first judge) requests)))

    ack_calm : (judge : Judge) → AreCalm (ack_due events judge requests)
    unfolding judged_all
    ack_calm judge = (calm_ack (judge.acked + 1), still_calm (barriers_due (ack_first judge) (unended (ack_first judge) requests)) (barriers_still (ack_first judge) (unended (ack_first judge) requests)))

    pub acks_calm : (batches : List Batch) (judge : Judge) → AreCalm (acks_due shape events requests news judge batches)
    unfolding acks_due
    acks_calm [] judge = tt
    acks_calm (batch ∷ batches) judge =
        let after : Judge = judged_all events judge (ack_due events judge requests) in
        cond_both {A = List Line} (all_claim shape judge.now.session (judge.acked + 1) batch news) (ack_due events judge requests ++ acks_due shape events requests news after batches) [] AreCalm
        (λ t. all_both IsCalm (ack_due events judge requests) (acks_due shape events requests news after batches) (ack_calm judge) (acks_calm batches after))
        (λ t. tt)

    acks_premise : (judge : Judge) (batch : Batch) (batches : List Batch) (w : World) → drop judge.acked judge.now.list ≡ batch ∷ batches → w.claims ≡ claims → Sees shape judge w.client
        → w.client.phase ≡ abstract.Serving → all_claim shape judge.now.session (judge.acked + 1) batch news ≡ true → Acks v w
    acks_premise judge batch batches w left same sees serving all =
        let here : w.client.lists w.client.served ≡ touching shape judge.now.list =
        sees.knows.lists w.client.served ∙ (ap (list_at shape judge) sees.served ∙ ap (list_of shape) (now-known judge)) in
        let long : length (touching shape judge.now.list) ≡ length judge.now.list = length-touching shape judge.now.list in
        let some : length judge.now.list - judge.acked ≡ suc (length batches) = sym (length-drop judge.acked judge.now.list) ∙ ap length left in
        let within : judge.acked < length judge.now.list = omega (arith, some) in
        let front : w.client.acked ≡ judge.acked = sees.acked in
        let next : judge.acked + 1 ≡ suc w.client.acked = omega (arith, front) in
        let place : judge.acked + 0 ≡ judge.acked = omega arith in
        let first : get_or judge.now.list judge.acked [] ≡ batch =
        ap (λ i. get_or judge.now.list i []) (sym place) ∙ (sym (get_or-drop judge.acked judge.now.list 0 []) ∙ ap (λ l. get_or l 0 []) left) in
        let led : leader (w.client.lists w.client.served) w.client.acked ≡ leader_of shape batch =
        ap (λ l. leader l w.client.acked) here ∙ (ap (leader (touching shape judge.now.list)) front ∙ (leader_as shape judge.now.list judge.acked within ∙ ap (leader_of shape) first)) in
        let length_here : length (w.client.lists w.client.served) ≡ length judge.now.list = ap length here ∙ long in
        let whole : AllClaim v claims (leader_of shape batch) judge.now.session (judge.acked + 1) = claimed judge.now.session (judge.acked + 1) batch all in
        record {
          serving = serving;
          there = omega (arith, within, front, length_here);
          claimed = subst (λ cs. AllClaim v cs (leader (w.client.lists w.client.served) w.client.acked) w.client.served (suc w.client.acked)) (sym same)
              (subst (λ g. AllClaim v claims g w.client.served (suc w.client.acked)) (sym led)
              (subst (λ e. AllClaim v claims (leader_of shape batch) e (suc w.client.acked)) (sym sees.served)
              (subst (λ n. AllClaim v claims (leader_of shape batch) judge.now.session n) next whole)));
        }

    pub acks_run : (batches : List Batch) (judge : Judge) (w : World) → drop judge.acked judge.now.list ≡ batches → w.claims ≡ claims → Sees shape judge w.client
        → w.client.phase ≡ abstract.Serving → Guarded v w.counts → IsAcked w (judged_all events judge (acks_due shape events requests news judge batches))
    unfolding acks_due judged_all
    acks_run [] judge w left same sees serving guarded = record { after = w; run = begun w guarded; stays = stays_here w; sees = sees }
    acks_run (batch ∷ batches) judge w left same sees serving guarded =
        let after : Judge = judged_all events judge (ack_due events judge requests) in
        cond_both {A = List Line} (all_claim shape judge.now.session (judge.acked + 1) batch news) (ack_due events judge requests ++ acks_due shape events requests news after batches) []
        (λ lines. IsAcked w (judged_all events judge lines))
        (λ t.
        let x : World = with_client w (record w.client { acked = suc w.client.acked }) in
        let step : Step v w x = acked w (acks_premise judge batch batches w left same sees serving t) in
        let then : SameSessions (ack_first judge) after = ack_then judge in
        let one : suc w.client.acked ≡ judge.acked + 1 = (let front = sees.acked in omega (arith, front)) in
        let now : Sees shape (ack_first judge) x.client = record {
          knows = record { lists = sees.knows.lists; starts = sees.knows.starts; there = sees.knows.there; back = sees.knows.back };
          served = sees.served;
          acked = one;
        } in
        let list : drop after.acked after.now.list ≡ batches =
        ap (λ n. drop n after.now.list) then.acked ∙ (ap (λ k. drop (judge.acked + 1) k.list) then.now ∙ (sym (drop-drop 1 judge.acked judge.now.list) ∙ ap (drop 1) left)) in
        let rest : IsAcked x (judged_all events after (acks_due shape events requests news after batches)) =
        acks_run batches after x list same (sees_same shape (ack_first judge) after x.client then.now then.others then.acked now) serving guarded in
        subst (IsAcked w) (sym (judged_all-append events judge (ack_due events judge requests) (acks_due shape events requests news after batches)))
        (record {
          after = rest.after;
          run = run_on v w x rest.after (one_step v w x guarded guarded step) rest.run;
          stays = record {
            images = rest.stays.images;
            counts = rest.stays.counts;
            fresh = rest.stays.fresh;
            votes = rest.stays.votes;
            claims = rest.stays.claims;
            staged = rest.stays.staged;
            switched = rest.stays.switched;
            replies = rest.stays.replies;
            asked = rest.stays.asked;
            phase = rest.stays.phase;
            switches = rest.stays.switches;
          };
          sees = rest.sees;
        }))
        (λ t. record { after = w; run = begun w guarded; stays = stays_here w; sees = sees })
