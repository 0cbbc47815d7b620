use Rattle.std.proofs.Common.{◌≡◌, ◌∙◌, ◌++◌, ◌∷◌, [], ◌+◌, take, refl, ap, sym, subst}
use Rattle.std.proofs.lemmas.List.{take_more}
use Rattle.client_window.specs.Written.{Leaves}
use Rattle.client_window.proofs.Left.{leaves_none, leaves_more}
use Rattle.client_window.proofs.written.last_writes.Goals as goal

pub writes-init : goal.writes-init
writes-init c = leaves_none c.new-last.result.entries c.new-last.ensures.empty

pub writes-preserved : goal.writes-preserved
writes-preserved c =
    let i = c.writes.write-index in
    let w = c.write-item.result in
    let more : take (i + 1) c.args.batch.now ≡ take i c.args.batch.now ++ w ∷ [] =
    take_more c.args.batch.now i w c.writes-test.true ∙ ap (λ v. take i c.args.batch.now ++ v ∷ []) (sym c.write-item.is) in
    subst (λ l. Leaves l c.insert.new.self.entries) (sym more)
    (leaves_more (take i c.args.batch.now) w _ c.writes.last.entries c.insert.new.self.entries refl (λ b. c.in_ok-insert.ensures.updates.0 b) c.writes.invariant)
