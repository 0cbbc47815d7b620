use Rattle.std.proofs.Common.{◌≡◌, ◌∙◌, ◌+◌, ◌*◌, ◌++◌, ◌∷◌, [], ℕ, List, ◌<◌, None, length, take, get_or, refl, sym, ap, subst, arith, append-nil}
use Rattle.std.proofs.lemmas.List.{take_more, length-take}
use Rattle.salus_model.specs.Waiting.{questions_from}
use Rattle.client_rules.specs.Tables.{fresh}
use Rattle.verified_read.specs.Table.{question_at}
use Rattle.client_asking.proofs.Heads.{asked_more, outs_more, few_asked, number_free}
use Rattle.client_asking.proofs.head.ask_each.Goals as goal

counted : (i : ℕ) (bs : List ℕ) → i < length bs → length (take i bs) ≡ i
counted i bs within = omega (arith, length-take i bs)

pub questions-init : goal.questions-init
unfolding questions_from
questions-init c = (c.requires.empty, c.requires.shape, λ client stands. sym (append-nil c.args.outs.now.items))

pub ask-requires-clause-new_number : goal.ask-requires-clause-new_number
ask-requires-clause-new_number c =
    let count = counted c.questions.i c.args.written.now c.questions-test.true in
    subst (λ l. question_at (4294967296 * (c.questions.i + 1) + c.args.event) l ≡ None) (sym c.questions.invariant.0)
    (number_free c.args.pipeline.now.window.shape c.args.event 1 (c.questions.i + 1) (take c.questions.i c.args.written.now) (omega arith))

pub ask-requires-clause-room : goal.ask-requires-clause-room
ask-requires-clause-room c =
    let count = counted c.questions.i c.args.written.now c.questions-test.true in
    omega (arith, ap length c.questions.invariant.0, few_asked c.args.pipeline.now.window.shape c.args.event c.questions.i c.args.written.now, c.requires.few, c.questions-test.true)

pub questions-preserved : goal.questions-preserved
questions-preserved c =
    let i = c.questions.i in
    let bs = c.args.written.now in
    let b = get_or c.args.written.now c.questions.i 0 in
    let n = 4294967296 * (c.questions.i + 1) + c.args.event in
    let shape = c.args.pipeline.now.window.shape in
    let more : take (c.questions.i + 1) c.args.written.now ≡ take c.questions.i c.args.written.now ++ get_or c.args.written.now c.questions.i 0 ∷ [] = take_more c.args.written.now c.questions.i 0 c.questions-test.true in
    let count = counted c.questions.i c.args.written.now c.questions-test.true in (
      asked_more shape c.args.event i b n bs more count refl c.questions.asked.asked c.ask.new.self.asked c.questions.invariant.0
          (subst (λ s. c.ask.new.self.asked ≡ c.questions.asked.asked ++ fresh s (record { event = c.args.event; number = n; block = b }) ∷ []) c.questions.invariant.1 c.in_ok-ask.ensures.ok),
      c.ask.ensures.shape ∙ c.questions.invariant.1,
      λ client stands. outs_more shape c.args.event i b n bs more count refl client c.args.outs.now.items c.questions.outs.items c.ask_group.new.outs.items (c.questions.invariant.2 client stands) (c.in_ok-ask_group.ensures client stands),
    )
