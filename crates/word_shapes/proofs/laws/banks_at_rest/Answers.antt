-- The law is proved over the definitions.
use Rattle.word_shapes.proofs.TripleBufferLaws.{rests, stands-other, abandons}
use Rattle.word_shapes.proofs.laws.banks_at_rest.Goals as goal

pub returns-clause-rests : goal.returns-clause-rests
returns-clause-rests _ = rests

pub returns-clause-elsewhere : goal.returns-clause-elsewhere
returns-clause-elsewhere _ = stands-other

pub returns-clause-abandoned : goal.returns-clause-abandoned
returns-clause-abandoned _ = abandons
