use Rattle.std.proofs.Common.{◌≡◌, ◌++◌, ◌∙◌, ap, sym, length}
use Rattle.salus_world.specs.Growing.{new_messages}
use Rattle.salus_world.proofs.Mailing.{taken_front, all_given}
use Rattle.salus_world.proofs.mail.post.Goals as goal

pub returns : goal.returns
returns c =
    let none = (rw c.in-None.is at c.next.ensures.steps).0 in
    let left : length c.outs.out-iterator.rest.items ≡ 0 = sym c.outs.out-iterator.rest.ok.0 ∙ none in
    let given = all_given _ _ _ (taken_front _ _ _ c.outs.yielded_by) left in
    let items = given ∙ c.into_iter-out-iterator.ensures.into_iter_gives.0 in
    c.outs.invariant ∙ ap (λ outs. c.args.sent.now.items ++ new_messages c.args.geometry.now c.args.from outs) items
