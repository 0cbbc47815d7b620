use Rattle.std.proofs.Common.{◌≡◌, ◌∙◌, sym, ne_eqb, eq-eqb, lt-ltb, le-ltb}
use Rattle.serving_client.specs.Keeping.{kept_of}
use Rattle.serving_client.proofs.Standings.{told_nothing, told_same}
use Rattle.serving_client.proofs.Ruling.{answer_of_another, answer_of_head, answer_of_read}
use Rattle.serving_client.proofs.answers.take_answer.Goals as goal

pub returns-then-answer-session-clause-told : goal.returns-then-answer-session-clause-told
returns-then-answer-session-clause-told c = λ volume client stands apart.
    told_same volume (kept_of c.args.core.now) c.args.step.now c.args.step.now _ _
    (answer_of_another volume client c.args.from c.args.answer (ne_eqb c.args.answer.session client.session (λ e. c.if-answer-session.true (e ∙ sym (c.session.ensures.stands client stands.pipeline)))))
    (told_nothing volume (kept_of c.args.core.now) c.args.step.now client stands)

pub returns-in_ok-take_read_answer-clause-told : goal.returns-in_ok-take_read_answer-clause-told
returns-in_ok-take_read_answer-clause-told c = λ volume client stands apart.
    told_same volume (kept_of c.take_read_answer.new.core) c.args.step.now c.take_read_answer.new.step _ _
    (answer_of_read volume client c.args.from c.args.answer (eq-eqb c.args.answer.session client.session (c.if-answer-session.false ∙ c.session.ensures.stands client stands.pipeline)) (lt-ltb c.args.answer.read 4294967296 c.if-answer-lt-READS.true))
    (c.in_ok-take_read_answer.ensures.told volume client stands)

pub returns-in_ok-take_head_answer-clause-told : goal.returns-in_ok-take_head_answer-clause-told
returns-in_ok-take_head_answer-clause-told c = λ volume client stands apart.
    told_same volume (kept_of c.take_head_answer.new.core) c.args.step.now c.take_head_answer.new.step _ _
    (answer_of_head volume client c.args.from c.args.answer (eq-eqb c.args.answer.session client.session (c.if-answer-session.false ∙ c.session.ensures.stands client stands.pipeline)) (le-ltb c.args.answer.read 4294967296 c.if-answer-lt-READS.false))
    (c.in_ok-take_head_answer.ensures.told volume client stands apart)
