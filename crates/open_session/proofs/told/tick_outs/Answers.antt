use Rattle.std.proofs.Common.{◌∙◌, ◌++◌, List, map, nat_lt, ap}
use Rattle.std.specs.Prelude.{filter, flat_map}
use Rattle.salus_types.specs.declared.records.Record.{Record}
use Rattle.salus_types.specs.declared.records.Out.{Out}
use Rattle.replica_rules.specs.Rules.{votes_for}
use Rattle.posting.specs.Sendings.{out_of_sending}
use Rattle.open_session.proofs.AsksTold.{tick-told}
use Rattle.open_session.proofs.told.tick_outs.Goals as goal

pub returns : goal.returns
returns c = λ s led parts begun same.
    tick-told c.args.geometry.now c.args.session s c.args.leader.now c.args.parts.now c.args.begun c.committed.result c.front.result c.post_votes_above.new.outs.items c.post_front.new.outs.items c.requires
    led parts begun same c.committed.ensures c.front.ensures
    (c.in_ok-post_votes_above.ensures ∙ ap (λ (l : List Out). l ++ map out_of_sending (flat_map (λ rec. votes_for c.args.geometry.now rec) (filter (λ (rec : Record). nat_lt c.committed.result rec.header.seq) c.args.parts.now))) c.new-outs.ensures.items)
    c.in_ok-post_front.ensures
