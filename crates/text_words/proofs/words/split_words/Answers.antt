use Rattle.std.proofs.Common.{◌∙◌, rules}
use Rattle.text_words.proofs.Worded.{split-more, split-end, words-are}
use Rattle.text_words.proofs.words.split_words.Goals as goal

pub words-preserved : goal.words-preserved
words-preserved c =
    (rw c.in_ok-push-in-Some.ensures.items (split-more _ _ _ _ (search rules) c.in-Some.ensures.value ∙ c.words.invariant.0), search rules)

pub returns-in-None-clause-exact : goal.returns-in-None-clause-exact
returns-in-None-clause-exact c = rw c.in_ok-push-in-None.ensures.items (split-end _ _ c.in-None.ensures.value ∙ c.words.invariant.0)

pub returns-in-None-clause-spelled : goal.returns-in-None-clause-spelled
returns-in-None-clause-spelled c = words-are _ _ (rw c.in_ok-push-in-None.ensures.items (split-end _ _ c.in-None.ensures.value ∙ c.words.invariant.0))
