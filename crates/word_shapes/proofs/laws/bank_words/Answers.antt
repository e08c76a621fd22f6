-- The law is proved over the definitions.
use Rattle.word_shapes.proofs.TripleBufferLaws.{newest-word, kept-word}
use Rattle.word_shapes.proofs.laws.bank_words.Goals as goal

pub returns-clause-newest : goal.returns-clause-newest
returns-clause-newest _ = newest-word

pub returns-clause-kept : goal.returns-clause-kept
returns-clause-kept _ = kept-word
