use Rattle.std.proofs.Common.{◌∙◌, sym, ap}
use Rattle.std.specs.Option.{option_map}
use Rattle.client_rules.specs.State.{Open}
use Rattle.verified_read.specs.declared.asked.Asked.{Asked}
use Rattle.verified_read.specs.Entries.{open_of}
use Rattle.verified_read.specs.Table.{Table, question_at}
use Rattle.verified_read.proofs.Opened.{asked-lookup, question-lookup}
use Rattle.verified_read.proofs.reads.Reads.question.Goals as goal

pub returns-in-Some-clause-question : goal.returns-in-Some-clause-question
returns-in-Some-clause-question c =
    ap (λ o. option_map (λ (v : Asked). (open_of (c.args.number, v)).question) o) c.in-Some.ensures.value
    ∙ sym (asked-lookup c.args.number c.self.inside.asked.entries)
    ∙ ap (λ (t : Table). option_map (λ (o : Open). o.question) (question_at c.args.number t.asked)) c.self.view_is

pub returns-in-None-clause-question : goal.returns-in-None-clause-question
returns-in-None-clause-question c =
    ap (λ o. option_map (λ (v : Asked). (open_of (c.args.number, v)).question) o) c.in-None.ensures.value
    ∙ sym (asked-lookup c.args.number c.self.inside.asked.entries)
    ∙ ap (λ (t : Table). option_map (λ (o : Open). o.question) (question_at c.args.number t.asked)) c.self.view_is

pub returns-in-None-clause-free : goal.returns-in-None-clause-free
returns-in-None-clause-free c =
    ap (λ (t : Table). question_at c.args.number t.asked) (sym c.self.view_is) ∙ question-lookup c.args.number c.self.inside.asked.entries
    ∙ ap (option_map (λ (v : Asked). open_of (c.args.number, v))) (sym c.in-None.ensures.value)
