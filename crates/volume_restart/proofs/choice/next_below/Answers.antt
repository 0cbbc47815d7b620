use Rattle.std.proofs.Common.{◌+◌, List, take, subst}
use Rattle.std.specs.Prelude.{option_copied}
use Rattle.std.proofs.lemmas.List.{take_all}
use Rattle.salus_types.specs.declared.records.Header.{Header}
use Rattle.restart_pool.proofs.Taken.{among_next, item_taken, taken_more}
use Rattle.volume_restart.specs.Choosing.{IsNext}
use Rattle.volume_restart.proofs.Next.{next-none, next-more}
use Rattle.volume_restart.proofs.choice.next_below.Goals as goal

pub headers-init : goal.headers-init
headers-init c = next-none (option_copied c.args.tried)

pub headers-preserved : goal.headers-preserved
headers-preserved c =
    let hs = c.args.headers.now in
    let i = c.headers.header-index in
    let x = c.header-item.result in
    rw c.better-best.ensures
    (next-more (take i hs) (take (i + 1) hs) (option_copied c.args.tried) x (item_taken hs i x c.headers-test.true c.header-item.is) (λ h m. taken_more hs i h m)
    (λ h m. among_next hs i x c.headers-test.true c.header-item.is h m) (option_copied c.headers.best) c.headers.invariant)

pub returns : goal.returns
returns c =
    subst (λ (hs : List Header). IsNext hs (option_copied c.args.tried) (option_copied c.headers.best)) (take_all c.headers.header-index c.args.headers.now c.headers-test.false) c.headers.invariant
