-- The law is proved over the definitions.
use Rattle.word_shapes.proofs.PriorityQueueLaws.{front-ends}
use Rattle.word_shapes.proofs.priority_queue.PriorityQueue.front.Goals as goal

pub returns-clause-chooses : goal.returns-clause-chooses
returns-clause-chooses c = λ m xs h. rw c.places.ensures (front-ends c.args.self.now c.args.ranks m xs h)
