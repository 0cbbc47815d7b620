use Rattle.std.proofs.Common.{◌≡◌, ◌∙◌, ◌++◌, map, ap, sym, subst}
use Rattle.std.specs.List.{AllByRecursion}
use Rattle.std.specs.Ordering.{nat_cmp}
use Rattle.std.specs.BTreeMap.Range.{entries_between}
use Rattle.std.specs.declared.ops.Bound.TheVariants.{Included, Excluded}
use Rattle.client_window.specs.Written.{Entry, write_of}
use Rattle.client_window.proofs.Left.{IsIn, all_between}
use Rattle.client_window.proofs.written.writes_between.Goals as goal

pub entries-init : goal.entries-init
entries-init c =
    let all : c.into_iter-block-iterator.result ≡ entries_between nat_cmp (Included c.args.from) (Excluded c.args.to) c.args.last.now.entries =
    c.into_iter-block-iterator.ensures.into_iter_gives ∙ c.range-block-items.ensures.between tt in (
      ap (λ ws. ws ++ map (write_of c.args.from) c.into_iter-block-iterator.result) c.new-writes.ensures ∙ ap (map (write_of c.args.from)) all,
      subst (λ l. AllByRecursion (IsIn c.args.from c.args.to) l) (sym all) (all_between c.args.from c.args.to c.args.last.now.entries),
    )
