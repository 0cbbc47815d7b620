use Rattle.text_words.proofs.Stepping.{front-found, past-found, front-none, past-none}
use Rattle.text_words.proofs.word.split_first.Goals as goal

pub returns-in-Some-clause-front : goal.returns-in-Some-clause-front
returns-in-Some-clause-front c = front-found _ _ _ c.in-Some.ensures.value

pub returns-in-Some-clause-past : goal.returns-in-Some-clause-past
returns-in-Some-clause-past c = past-found _ _ _ c.in-Some.ensures.value

pub returns-in-None-clause-front : goal.returns-in-None-clause-front
returns-in-None-clause-front c = front-none _ _ c.in-None.ensures.value

pub returns-in-None-clause-past : goal.returns-in-None-clause-past
returns-in-None-clause-past c = past-none _ _ c.in-None.ensures.value
