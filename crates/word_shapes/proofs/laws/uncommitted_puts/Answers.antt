-- The law is proved over the definitions.
use Rattle.word_shapes.proofs.InterleavingLaws.{all-left-out}
use Rattle.word_shapes.proofs.laws.uncommitted_puts.Goals as goal

pub returns : goal.returns
returns _ = all-left-out
