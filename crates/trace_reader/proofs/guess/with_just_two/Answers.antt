use Rattle.std.proofs.Common.{refl}
use Rattle.trace_reader.specs.Guess as spec
use Rattle.trace_reader.proofs.Lengths.{some_none}
use Rattle.trace_reader.proofs.guess.with_just_two.Goals as goal

pub returns-in-len1-up : goal.returns-in-len1-up
returns-in-len1-up c = some_none c.args.words.now (λ w. w.now) (spec.with_just_two c.args.word.now c.args.first.now c.args.second.now) (λ a more. refl) c.in-len1-up.len_at_least
