use Rattle.text_words.proofs.Granted.{some-found, some-only}
use Rattle.salus_commands.proofs.Spelled.{command-settles}
use Rattle.salus_commands.proofs.words.command_of.Goals as goal

pub returns-clause-found : goal.returns-clause-found
returns-clause-found c = some-found _ _ _ (rw c.as_slice.ensures.value at c.spelled.ensures) (command-settles _)

pub returns-clause-only : goal.returns-clause-only
returns-clause-only c = some-only _ _ _ (rw c.as_slice.ensures.value at c.spelled.ensures) (command-settles _)
