use Rattle.std.proofs.Common.{◌≡◌, ◌∙◌, ◌+◌, ◌++◌, [], ◌∷◌, ℕ, nat_eq, length, length-append, None, sym, ap, subst, arith}
use Rattle.std.proofs.lemmas.List.{length-replicate}
use Rattle.std.specs.Prelude.{replicate}
use Rattle.indexmap.proofs.CallerLemmas.{insert_entry-new}
use Rattle.client_rules.specs.Tables.{fresh}
use Rattle.verified_read.specs.declared.asked.Asked.{Asked}
use Rattle.verified_read.specs.Entries.{open_of, open_in}
use Rattle.verified_read.specs.Table.{Table, HavePlaces, question_at}
use Rattle.verified_read.proofs.Opened.{open-push, open-length, none_asked}
use Rattle.verified_read.proofs.Places.{places-push}
use Rattle.verified_read.proofs.reads.Reads.ask.Goals as goal

pub invariant_of-self-2 : goal.invariant_of-self-2
invariant_of-self-2 c =
    let es = c.self.inside.asked.entries in
    let v : Asked = record { event = c.question.inside.event; block = c.question.inside.block; strikes = c.in_ok-strikes.strikes } in
    let free : question_at c.question.inside.number (open_in es) ≡ None = (λ j. question_at (c.question.view_is j).number (c.self.view_is j).asked) ∙ c.requires.new_number in
    let pushed = c.in_ok-insert.ensures.entries ∙ insert_entry-new nat_eq c.self.inside.asked c.question.inside.number v (none_asked c.question.inside.number es free) in
    let few : length es ≡ length c.args.self.now.asked = sym (open-length es) ∙ ap (λ (t : Table). length t.asked) c.self.view_is in
    let places : length c.in_ok-strikes.strikes ≡ c.self.inside.geometry.replicas = ap length c.in_ok-strikes.ensures ∙ length-replicate c.replicas.result None ∙ c.replicas.ensures.value in (
      omega (arith, ap length pushed, length-append es ((c.question.inside.number, v) ∷ []), few, c.requires.room),
      c.insert.ensures.unique,
      subst (HavePlaces c.self.inside.geometry) (sym (ap open_in pushed ∙ open-push es (c.question.inside.number, v)))
          (places-push c.self.inside.geometry (open_in es) (open_of (c.question.inside.number, v)) c.self.invariant.2 places),
    )

pub returns-clause-ok : goal.returns-clause-ok
returns-clause-ok c =
    let es = c.self.inside.asked.entries in
    let v : Asked = record { event = c.question.inside.event; block = c.question.inside.block; strikes = c.in_ok-strikes.strikes } in
    let free : question_at c.question.inside.number (open_in es) ≡ None = (λ j. question_at (c.question.view_is j).number (c.self.view_is j).asked) ∙ c.requires.new_number in
    let pushed = c.in_ok-insert.ensures.entries ∙ insert_entry-new nat_eq c.self.inside.asked c.question.inside.number v (none_asked c.question.inside.number es free) in
    let none_struck : c.in_ok-strikes.strikes ≡ replicate c.args.self.now.shape.replicas None =
    c.in_ok-strikes.ensures ∙ ap (λ n. replicate n None) (c.replicas.ensures.value ∙ ap (λ (t : Table). t.shape.replicas) c.self.view_is) in
    let new : open_of (c.question.inside.number, v) ≡ fresh c.args.self.now.shape c.args.question = λ j. record { question = c.question.view_is j; strikes = none_struck j } in
    ap open_in pushed ∙ open-push es (c.question.inside.number, v) ∙ (λ j. (c.self.view_is j).asked ++ new j ∷ [])
