use Rattle.std.proofs.Common.{◌<◌, ◌≡◌, ◌∙◌, length, sym, arith, rules}
use Rattle.text_words.proofs.Stepping.{past_lt}
use Rattle.schedule_text.proofs.Advancing.{events-wrong, events-more, events-end, event-within, fails-too}
use Rattle.schedule_text.proofs.text.events_of.Goals as goal

pub returns-in-Err : goal.returns-in-Err
returns-in-Err c =
    let there : 0 < length c.loop-rest.rest.now = search rules in
    fails-too _ _ _ (λ wrong h. sym c.loop-rest.invariant.meaning ∙ events-wrong _ _ _ _ _ _ wrong there c.split_first.ensures.front h) c.in-Err.ensures

pub loop-rest-smaller : goal.loop-rest-smaller
loop-rest-smaller c =
    let there : 0 < length c.loop-rest.rest.now = search rules in
    let less = past_lt 10 c.loop-rest.rest.now there in
    rw c.split_first.ensures.past less

pub loop-rest-preserved : goal.loop-rest-preserved
loop-rest-preserved c =
    let there : 0 < length c.loop-rest.rest.now = search rules in
    let within = event-within _ _ _ _ _ c.in-Ok.ensures in
    record {
      within = omega (arith, within);
      meaning = events-more _ _ _ _ _ _ _ _ _ _ there c.split_first.ensures.front c.split_first.ensures.past c.in-Ok.ensures c.latest_after-latest.ensures c.in_ok-push.ensures.ok
          ∙ c.loop-rest.invariant.meaning;
    }

pub returns : goal.returns
returns c =
    let ended : length c.loop-rest.rest.now ≡ 0 = search rules in
    sym c.loop-rest.invariant.meaning ∙ events-end _ _ _ _ _ ended
