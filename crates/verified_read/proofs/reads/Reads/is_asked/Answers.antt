use Rattle.std.proofs.Common.{◌∙◌, ◌==◌, false, is_some, sym, ap}
use Rattle.std.specs.Option.{option_map_or}
use Rattle.client_rules.specs.Tables.{open_at}
use Rattle.verified_read.specs.declared.asked.Asked.{Asked}
use Rattle.verified_read.specs.Table.{Table}
use Rattle.verified_read.proofs.Opened.{open-lookup}
use Rattle.verified_read.proofs.reads.Reads.is_asked.Goals as goal

pub returns-in-Some : goal.returns-in-Some
returns-in-Some c =
    ap (λ o. option_map_or (λ (v : Asked). c.args.answer.now.block == v.block) o false) c.in-Some.ensures.value
    ∙ sym (open-lookup c.args.answer.now c.self.inside.asked.entries c.self.invariant.1)
    ∙ ap (λ (t : Table). is_some (open_at c.args.answer.now t.asked)) c.self.view_is

pub returns-in-None : goal.returns-in-None
returns-in-None c =
    ap (λ o. option_map_or (λ (v : Asked). c.args.answer.now.block == v.block) o false) c.in-None.ensures.value
    ∙ sym (open-lookup c.args.answer.now c.self.inside.asked.entries c.self.invariant.1)
    ∙ ap (λ (t : Table). is_some (open_at c.args.answer.now t.asked)) c.self.view_is
