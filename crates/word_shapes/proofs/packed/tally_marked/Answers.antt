-- The marks fit above the number of entries.
use Rattle.std.proofs.Common.{arith}
use Rattle.word_shapes.proofs.PackingLaws.{marks_bound}
use Rattle.word_shapes.proofs.packed.tally_marked.Goals as goal

pub overflow_mul-result : goal.overflow_mul-result
overflow_mul-result c = rw c.bit.ensures.is (let lt = marks_bound c.marks.result c.args.entry (omega arith) c.requires in omega arith)

pub overflow_add-result : goal.overflow_add-result
overflow_add-result c = rw c.bit.ensures.is (let lt = marks_bound c.marks.result c.args.entry (omega arith) c.requires in omega arith)
