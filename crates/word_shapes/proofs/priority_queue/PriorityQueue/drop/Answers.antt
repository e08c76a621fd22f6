-- The law is proved over the definitions.
use Rattle.word_shapes.proofs.PriorityQueueLaws.{drop-ends}
use Rattle.word_shapes.proofs.priority_queue.PriorityQueue.drop.Goals as goal

pub returns-clause-drops : goal.returns-clause-drops
returns-clause-drops c = λ m xs h there. rw c.places.ensures (drop-ends c.args.self.now c.args.entry m xs h there)
