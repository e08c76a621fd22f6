-- The laws are proved over the definitions.
use Rattle.word_shapes.proofs.TripleBufferLaws.{fill-ends, commit-ends}
use Rattle.word_shapes.proofs.triple_buffer.TripleBuffer.put.Goals as goal

pub returns-in-Fill-clause-puts : goal.returns-in-Fill-clause-puts
returns-in-Fill-clause-puts c = λ m s h.
    let within = rw c.in-Fill.is at c.requires.part in
    rw (c.in-Fill.is, c.word.ensures)
    (λ p e b i. fill-ends c.args.self.now m s p c.in-Fill.bank c.in-Fill.index c.in-Fill.value c.requires.fits within.0 within.1 e b i h)

pub returns-in-Commit-clause-puts : goal.returns-in-Commit-clause-puts
returns-in-Commit-clause-puts c = λ m s h. rw c.in-Commit.is (λ p e b whole. commit-ends c.args.self.now m s p c.in-Commit.bank c.requires.fits e b whole h)
