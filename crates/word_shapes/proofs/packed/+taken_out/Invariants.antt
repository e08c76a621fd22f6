-- Each call has one place less.
use Rattle.word_shapes.proofs.packed.+taken_out.Given as goal

abbrev pub decreases-taken_out : goal.decreases-taken_out
decreases-taken_out l = l.count
