-- The law is proved over the definitions.
use Rattle.word_shapes.proofs.PriorityQueueLaws.{again-ends}
use Rattle.word_shapes.proofs.priority_queue.PriorityQueue.again.Goals as goal

pub returns-clause-waits : goal.returns-clause-waits
returns-clause-waits c = λ m xs h. rw c.places.ensures (again-ends c.args.self.now c.args.entry m xs c.requires.entry h)
