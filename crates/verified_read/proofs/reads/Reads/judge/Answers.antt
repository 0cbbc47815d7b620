use Rattle.verified_read.specs.declared.verdict.Standing.TheVariants as standing
use Rattle.verified_read.proofs.Verdicts.{stands-by_rules, stands-exact}
use Rattle.verified_read.proofs.reads.Reads.judge.Goals as goal

pub returns-clause-standing : goal.returns-clause-standing
returns-clause-standing c = stands-by_rules c.args.self.now c.args.from c.args.answer.now c.args.number c.stand-standing.result c.stand-standing.ensures

pub returns-clause-unknown : goal.returns-clause-unknown
returns-clause-unknown c = stands-exact c.args.self.now c.args.from c.args.answer.now c.args.number c.stand-standing.result standing.Unknown c.stand-standing.ensures

pub returns-clause-past : goal.returns-clause-past
returns-clause-past c = λ at. stands-exact c.args.self.now c.args.from c.args.answer.now c.args.number c.stand-standing.result (standing.Past at) c.stand-standing.ensures

pub returns-clause-stale : goal.returns-clause-stale
returns-clause-stale c = λ at. stands-exact c.args.self.now c.args.from c.args.answer.now c.args.number c.stand-standing.result (standing.Stale at) c.stand-standing.ensures

pub returns-clause-present : goal.returns-clause-present
returns-clause-present c = stands-exact c.args.self.now c.args.from c.args.answer.now c.args.number c.stand-standing.result standing.Present c.stand-standing.ensures
