use Rattle.std.proofs.Common.{refl, arith}
use Rattle.trace_reader.specs.Guess as spec
use Rattle.trace_reader.proofs.Lengths.{one_none}
use Rattle.trace_reader.proofs.guess.long_step.Goals as goal

pub returns-in-len1 : goal.returns-in-len1
returns-in-len1 c = one_none c.args.words.now (λ w. w.now) (spec.long_step c.args.depth c.args.word.now) (λ a. refl) (omega arith) (omega arith)
