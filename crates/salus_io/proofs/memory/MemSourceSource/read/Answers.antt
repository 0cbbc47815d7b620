use Rattle.std.proofs.Common.{◌≡◌, take, drop, Some, sym, ap, ◌∙◌, arith, drop_of_length-le}
use Rattle.std.proofs.lemmas.Grind.{common_steps}
use Rattle.std.proofs.lemmas.List.{take_rest}
use Rattle.salus_io.proofs.Joining.{split_from}
use Rattle.salus_io.proofs.memory.MemSourceSource.read.Goals as goal

pub returns-clause-taken : goal.returns-clause-taken
returns-clause-taken c =
    let content = c.self.inside.content.items in
    let at = c.self.inside.at in
    let n = c.copy_front-count.result in
    let copied : take n c.copy_front-count.new.out ≡ take n (drop at content) = rw (take_rest, c.deref.ensures.value) at c.copy_front-count.ensures.copied in
    ap (λ s. Some s.left) (sym c.self.view_is) ∙ ap Some (split_from content c.copy_front-count.new.out at n copied)

pub returns-clause-end : goal.returns-clause-end
returns-clause-end c =
    λ none. drop_of_length-le c.self.inside.content.items (grind (arith, common_steps))
