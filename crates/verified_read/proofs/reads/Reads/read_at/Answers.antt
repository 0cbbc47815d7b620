use Rattle.std.proofs.Common.{◌∙◌, ℕ, slice_get, sym, ap}
use Rattle.std.specs.Map.Iter.{deref_pair}
use Rattle.std.specs.Option.{option_map}
use Rattle.verified_read.specs.declared.asked.Asked.{Asked}
use Rattle.verified_read.specs.Entries.{open_of}
use Rattle.verified_read.specs.Table.{Table, questions_in}
use Rattle.verified_read.proofs.Opened.{question-place}
use Rattle.verified_read.proofs.reads.Reads.read_at.Goals as goal

pub returns : goal.returns
returns c =
    ap (λ (t : Table). slice_get (questions_in t.asked) c.args.i) (sym c.self.view_is) ∙ question-place c.self.inside.asked.entries c.args.i
    ∙ ap (option_map (λ (x : ℕ × Asked). (open_of x).question)) (sym c.get_index.ensures.entry ∙ ap (option_map deref_pair) c.unwrap.ensures)
