-- The law is proved over the definitions.
use Rattle.word_shapes.proofs.ChoiceLaws.{choice-none, none-choice, choice-is, choice-only}
use Rattle.word_shapes.proofs.laws.best_choice.Goals as goal

pub returns-clause-nothing : goal.returns-clause-nothing
returns-clause-nothing _ = choice-none

pub returns-clause-waits : goal.returns-clause-waits
returns-clause-waits _ = none-choice

pub returns-clause-best : goal.returns-clause-best
returns-clause-best _ = choice-is

pub returns-clause-only : goal.returns-clause-only
returns-clause-only _ = choice-only
