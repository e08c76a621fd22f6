-- Each call has one place less.
use Rattle.word_shapes.proofs.packed.+choice.Given as goal

abbrev pub decreases-choice : goal.decreases-choice
decreases-choice l = l.count
