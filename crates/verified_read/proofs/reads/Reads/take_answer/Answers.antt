use Rattle.verified_read.specs.declared.verdict.Verdict.TheVariants as said
use Rattle.verified_read.proofs.CallerLemmas.{said-by_rules, said-exact}
use Rattle.verified_read.proofs.reads.Reads.take_answer.Goals as goal

pub returns-clause-verdict : goal.returns-clause-verdict
returns-clause-verdict c = said-by_rules c.args.self.now c.args.from c.args.answer.now c.args.number c.args.root.now c.decide.result c.decide.ensures.said

pub returns-clause-unknown : goal.returns-clause-unknown
returns-clause-unknown c = said-exact c.args.self.now c.args.from c.args.answer.now c.args.number c.args.root.now c.decide.result said.Unknown c.decide.ensures.said

pub returns-clause-past : goal.returns-clause-past
returns-clause-past c = λ at. said-exact c.args.self.now c.args.from c.args.answer.now c.args.number c.args.root.now c.decide.result (said.Past at) c.decide.ensures.said

pub returns-clause-stale : goal.returns-clause-stale
returns-clause-stale c = λ at. said-exact c.args.self.now c.args.from c.args.answer.now c.args.number c.args.root.now c.decide.result (said.Stale at) c.decide.ensures.said

pub returns-clause-block : goal.returns-clause-block
returns-clause-block c = said-exact c.args.self.now c.args.from c.args.answer.now c.args.number c.args.root.now c.decide.result said.Block c.decide.ensures.said

pub returns-clause-bad : goal.returns-clause-bad
returns-clause-bad c = λ held got. said-exact c.args.self.now c.args.from c.args.answer.now c.args.number c.args.root.now c.decide.result (said.Bad held got) c.decide.ensures.said
