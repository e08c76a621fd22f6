-- The law is proved over the definitions.
use Rattle.word_shapes.proofs.PriorityQueueLaws.{empty, holds-below, holds-length, holds-elsewhere}
use Rattle.word_shapes.proofs.laws.order_at_rest.Goals as goal

pub returns-clause-empty : goal.returns-clause-empty
returns-clause-empty _ = empty

pub returns-clause-below : goal.returns-clause-below
returns-clause-below _ = holds-below

pub returns-clause-most : goal.returns-clause-most
returns-clause-most _ = holds-length

pub returns-clause-elsewhere : goal.returns-clause-elsewhere
returns-clause-elsewhere _ = holds-elsewhere
