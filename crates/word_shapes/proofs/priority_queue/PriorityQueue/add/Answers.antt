-- The law is proved over the definitions.
use Rattle.word_shapes.proofs.PriorityQueueLaws.{add-ends}
use Rattle.word_shapes.proofs.priority_queue.PriorityQueue.add.Goals as goal

pub returns-clause-adds : goal.returns-clause-adds
returns-clause-adds c = λ m xs h absent. rw c.places.ensures (add-ends c.args.self.now c.args.entry m xs c.requires.entry h absent)
