-- The laws are proved over the definitions.
use Rattle.word_shapes.proofs.TripleBufferLaws.{pin-ends, word-ends, release-ends}
use Rattle.word_shapes.proofs.triple_buffer.TripleBuffer.take.Goals as goal

pub returns-in-Pin-clause-takes : goal.returns-in-Pin-clause-takes
returns-in-Pin-clause-takes c = λ m s h. rw c.in-Pin.is (λ e. pin-ends c.args.self.now m s c.requires.fits e h)

pub returns-in-Word-clause-takes : goal.returns-in-Word-clause-takes
returns-in-Word-clause-takes c = λ m s h.
    let within = rw c.in-Word.is at c.requires.part in
    rw (c.in-Word.is, c.word.ensures) (λ xs is. word-ends c.args.self.now m s c.in-Word.bank c.in-Word.index xs within.0 within.1 is h)

pub returns-in-Release-clause-takes : goal.returns-in-Release-clause-takes
returns-in-Release-clause-takes c = λ m s h. rw c.in-Release.is (release-ends c.args.self.now m s c.requires.fits h)
