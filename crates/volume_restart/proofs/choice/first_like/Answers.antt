use Rattle.std.proofs.Common.{◌≡◌, Some, take, refl, subst}
use Rattle.std.specs.Prelude.{slice_get, IfSome}
use Rattle.std.proofs.lemmas.Option.{MatchOption-at_some, MatchOption-at_none, slice_get_read}
use Rattle.salus_types.specs.declared.records.Header.{Header}
use Rattle.merkle_region.specs.Tree.{IsAmong}
use Rattle.restart_pool.proofs.Taken.{each_more, each_all, item_among}
use Rattle.volume_restart.specs.Choosing.{IsChoice, NotLike}
use Rattle.volume_restart.proofs.choice.first_like.Goals as goal

pub headers-init : goal.headers-init
headers-init c = λ single none h m. absurd m

pub choice_like-requires : goal.choice_like-requires
choice_like-requires c =
    let x = c.header-item.result in
    subst (λ hs. IsAmong x hs) c.headers-headers.ensures (item_among c.headers-headers.result.now c.headers.header-index x c.headers-test.true c.header-item.is)

pub headers-preserved : goal.headers-preserved
headers-preserved c = λ single none.
    each_more (NotLike c.args.pool.now c.args.like.now) c.headers-headers.result.now c.headers.header-index c.header-item.result c.headers-test.true c.header-item.is
    (c.headers.invariant single none) (MatchOption-at_none _ _ c.in_default.is (c.in_ok-choice.ensures.exact single none))

pub returns-in-Some-clause-sound : goal.returns-in-Some-clause-sound
returns-in-Some-clause-sound c = subst (λ o. IfSome o (IsChoice c.args.pool.now)) c.in-Some.is c.in_ok-choice.ensures.sound

pub returns-in-Some-clause-exact : goal.returns-in-Some-clause-exact
returns-in-Some-clause-exact c = λ single none.
    let got = MatchOption-at_some _ _ c.in-Some.choice c.in-Some.is (c.in_ok-choice.ensures.exact single none) in
    let i = c.headers.header-index in
    let x = c.header-item.result in
    record {
      place = i;
      header = x;
      found = subst (λ hs. slice_get hs i ≡ Some x) c.headers-headers.ensures (slice_get_read c.headers-headers.result.now _ i x refl c.headers-test.true c.header-item.is);
      same = got.0;
      is = got.1;
      earlier = subst (λ hs. (h : Header) → IsAmong h (take i hs) → NotLike c.args.pool.now c.args.like.now h) c.headers-headers.ensures (c.headers.invariant single none);
    }

pub returns-clause-exact : goal.returns-clause-exact
returns-clause-exact c = λ single none.
    subst (λ hs. (h : Header) → IsAmong h hs → NotLike c.args.pool.now c.args.like.now h) c.headers-headers.ensures
    (each_all (NotLike c.args.pool.now c.args.like.now) c.headers-headers.result.now c.headers.header-index c.headers-test.false (c.headers.invariant single none))
