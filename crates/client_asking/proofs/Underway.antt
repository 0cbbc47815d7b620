-- The waiting line while requests leave it: at the start, one more, and at the end.
use Rattle.std.proofs.Common.{◌≡◌, ◌∙◌, ℕ, ◌+◌, ◌<◌, ◌≤◌, List, [], ◌∷◌, ◌++◌, map, length, refl, sym, ap, subst, arith}
use Rattle.salus_model.specs.Waiting.{Taken, left_of, barriers_among}
use Rattle.client_rules.specs.State.{Open, Serving}
use Rattle.client_rules.specs.Tables.{fresh, line_of, read_question}
use Rattle.client_pipeline.specs.Pipeline.{KeptPipeline, Stays}
use Rattle.verified_read.specs.Table.{Table}
use Rattle.client_asking.specs.declared.step.Step.{Step}
use Rattle.client_asking.specs.Leaving.{Bears, HaveLeft, left_with}
use Rattle.client_asking.specs.Lining.{AreUpTo, HasRoom, numbers_taken}
use Rattle.client_asking.specs.Underway.{GoesOnLeaving, IsLeaving}
use Rattle.client_asking.proofs.Left.{left_both, left_none, oldest_left, room_left, up_to_left}

pub stays_here : (p : KeptPipeline) → Stays p p
stays_here p = record { shape = refl; session = refl; last = refl; acked = omega arith; key = refl }

pub stays_on : (p q r : KeptPipeline) → Stays p q → Stays q r → Stays p r
stays_on p q r first second = record {
  shape = second.shape ∙ first.shape;
  session = second.session ∙ first.session;
  last = second.last ∙ first.last;
  acked = omega (arith, first.acked, second.acked);
  key = second.key ∙ first.key;
}

pub leaving_starts : (p : KeptPipeline) (reads : Table) (line : List Taken) (step : Step) → HasRoom p reads.asked line → IsLeaving p reads line step p reads line step
leaving_starts p reads line step room = record {
  stays = stays_here p;
  shape = refl;
  room = room;
  up_to = λ high up_to. up_to;
  rest = refl;
  goes = λ c bears. record { now = c; bears = bears; rest = λ q others after left. left };
}

module _ (p0 p q : KeptPipeline) (reads0 reads others : Table) (line0 line behind : List Taken) (step0 step after : Step) (t : Taken) where
  pub leaving_more : IsLeaving p0 reads0 line0 step0 p reads line step → left_of line ≡ t ∷ left_of behind → line_of behind ≡ line_of line
      → ((c : Serving) → Bears p reads.asked c → HaveLeft p.window.shape (t ∷ []) c step q others.asked after)
      → others.asked ≡ reads.asked ++ map (fresh p.window.shape) (read_question t.event t.request)
      → length q.window.barriers ≤ length p.window.barriers + barriers_among (t ∷ []) → Stays p q → others.shape ≡ reads.shape
      → IsLeaving p0 reads0 line0 step0 q others behind after
  leaving_more leaving left same one opens few stays shape =
      let oldest : line ≡ t ∷ behind = oldest_left line t behind left same in
      record {
        stays = stays_on p0 p q leaving.stays stays;
        shape = shape ∙ leaving.shape;
        room = room_left p q reads.asked others.asked t behind (subst (λ l. HasRoom p reads.asked l) oldest leaving.room) opens few stays;
        up_to = λ high up_to. up_to_left p.window.shape reads.asked others.asked t behind high opens (subst (λ l. AreUpTo high (numbers_taken reads.asked l)) oldest (leaving.up_to high up_to));
        rest = same ∙ leaving.rest;
        goes = λ c bears.
            let goes = leaving.goes c bears in
            let first = one goes.now goes.bears in
            record {
              now = left_with p.window.shape goes.now (t ∷ []);
              bears = first.bears;
              rest = λ r those last have.
                  subst (λ s. HaveLeft s (left_of line0) c step0 r those last) (sym stays.shape)
                  (goes.rest r those last
                  (subst (λ l. HaveLeft p.window.shape l goes.now step r those last) (sym left)
                  (left_both p.window.shape goes.now (t ∷ []) (left_of behind) step after last q r others.asked those first
                  (subst (λ s. HaveLeft s (left_of behind) (left_with p.window.shape goes.now (t ∷ [])) after r those last) stays.shape have))));
            };
      }

pub leaving_ends : (p0 p : KeptPipeline) (reads0 reads : Table) (line0 line : List Taken) (step0 step : Step) → IsLeaving p0 reads0 line0 step0 p reads line step
    → left_of line ≡ [] → (c : Serving) → Bears p0 reads0.asked c → HaveLeft p0.window.shape (left_of line0) c step0 p reads.asked step
leaving_ends p0 p reads0 reads line0 line step0 step leaving none c bears =
    let goes = leaving.goes c bears in
    subst (λ s. HaveLeft s (left_of line0) c step0 p reads.asked step) leaving.stays.shape
    (goes.rest p reads.asked step (subst (λ l. HaveLeft p.window.shape l goes.now step p reads.asked step) (sym none) (left_none p.window.shape goes.now step p reads.asked goes.bears)))

-- what the next one finds
pub next_room : (p : KeptPipeline) (reads : List Open) (line behind : List Taken) (t : Taken) → HasRoom p reads line → left_of line ≡ t ∷ left_of behind → line_of behind ≡ line_of line
    → HasRoom p reads (t ∷ behind)
next_room p reads line behind t room left same = subst (λ l. HasRoom p reads l) (oldest_left line t behind left same) room

pub shorter : (line behind : List Taken) (t : Taken) → left_of line ≡ t ∷ left_of behind → line_of behind ≡ line_of line → length behind < length line
shorter line behind t left same = omega (arith, ap length (oldest_left line t behind left same))
