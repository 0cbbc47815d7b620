use Rattle.std.proofs.Common.{◌∙◌, ◌++◌, ◌∷◌, [], None, List, sym, ap, subst}
use Rattle.salus_types.specs.declared.records.Out.{Out}
use Rattle.replica_rules.specs.Rules.{by_dump}
use Rattle.open_session.specs.Asking.{dump_out}
use Rattle.open_session.specs.Turning.{IsTurn}
use Rattle.open_session.proofs.VotesTaken.{told_turn}
use Rattle.open_session.proofs.AsksTold.{dump-not, dump-told}
use Rattle.open_session.proofs.told.dump_outs.Goals as goal

pub returns-then-not-is_dumped : goal.returns-then-not-is_dumped
returns-then-not-is_dumped c = λ kept seen same.
    subst (λ (l : List Out). IsTurn (by_dump c.args.region c.args.dump.now) kept kept (told_turn l None)) (sym c.new-outs.ensures.items)
    (dump-not c.args.region c.args.dump.now c.args.session kept same (sym c.is_dumped.ensures ∙ c.if-not-is_dumped.true))

pub returns : goal.returns
returns c = λ kept seen same.
    dump-told c.args.region c.args.dump.now c.args.session kept c.args.view.now c.post_dump.new.outs.items same (sym c.is_dumped.ensures ∙ c.if-not-is_dumped.false) seen
    (c.in_ok-post_dump.ensures ∙ ap (λ (l : List Out). l ++ dump_out c.args.session c.args.region c.args.view.now.view ∷ []) c.new-outs.ensures.items)
