use Rattle.std.proofs.Common.{◌∙◌, ◌≤◌, nat_eq, length, sym, ap, subst, arith}
use Rattle.std.specs.HashMap.{HashMap, IsUnique}
use Rattle.client_rules.specs.Tables.{struck_at}
use Rattle.verified_read.specs.declared.asked.Asked.{Asked}
use Rattle.verified_read.specs.declared.reads.Reads.TheInside.{Inside}
use Rattle.verified_read.specs.Entries.{open_in}
use Rattle.verified_read.specs.Table.{Table, HavePlaces}
use Rattle.verified_read.proofs.Opened.{open-struck, none-struck}
use Rattle.verified_read.proofs.Places.{places-struck}
use Rattle.verified_read.proofs.reads.Reads.strike.Goals.{in-Some, in-None}
use Rattle.verified_read.proofs.reads.Reads.strike.Goals as goal

abbrev Holds : Inside → Type 0
Holds i = (length i.asked.entries ≤ 64) × IsUnique nat_eq i.asked × HavePlaces i.geometry (open_in i.asked.entries)

pub invariant_of-self : goal.invariant_of-self
invariant_of-self c = elim c.match-get_mut.branch [
  | in-Some w ↦
      let wrote = c.get_mut.follows.holds w.strike.new.self in
      let struck =
      ap open_in wrote.0
      ∙ open-struck c.args.answer.now c.args.from.replica c.args.strike w.in-Some.entry.now w.strike.new.self c.self.inside.asked.entries c.self.invariant.1 (sym w.in-Some.ensures.value) w.strike.ensures in
      subst Holds (sym w.self-inside-is)
      (omega (arith, wrote.2, c.self.invariant.0), wrote.4, subst (HavePlaces c.self.inside.geometry) (sym struck) (places-struck c.self.inside.geometry c.args.answer.now c.args.from.replica c.args.strike (open_in c.self.inside.asked.entries) c.self.invariant.2))
  | in-None w ↦ subst Holds (sym (w.self-inside-is ∙ (λ j. record { geometry = c.self.inside.geometry; asked = c.get_mut.follows.holds-at-none j }))) c.self.invariant
]

pub returns-clause-asked : goal.returns-clause-asked
returns-clause-asked c = elim c.match-get_mut.branch [
  | in-Some w ↦
      ap (λ (i : Inside). open_in i.asked.entries) w.self-inside-is ∙ ap open_in (c.get_mut.follows.holds w.strike.new.self).0
      ∙ open-struck c.args.answer.now c.args.from.replica c.args.strike w.in-Some.entry.now w.strike.new.self c.self.inside.asked.entries c.self.invariant.1 (sym w.in-Some.ensures.value) w.strike.ensures
      ∙ ap (λ (t : Table). struck_at c.args.answer.now c.args.from.replica c.args.strike t.asked) c.self.view_is
  | in-None w ↦
      ap (λ (i : Inside). open_in i.asked.entries) w.self-inside-is ∙ (λ j. open_in (c.get_mut.follows.holds-at-none j).entries)
      ∙ none-struck c.args.answer.now c.args.from.replica c.args.strike c.self.inside.asked.entries (sym w.in-None.ensures.value)
      ∙ ap (λ (t : Table). struck_at c.args.answer.now c.args.from.replica c.args.strike t.asked) c.self.view_is
]
