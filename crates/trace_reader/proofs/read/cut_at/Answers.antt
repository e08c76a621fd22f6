use Rattle.std.proofs.Common.{sym}
use Rattle.std.specs.Prelude.{◌==◌}
use Rattle.trace_reader.proofs.Cuts.{cut_slices, cut_nowhere}
use Rattle.trace_reader.proofs.read.cut_at.Goals as goal

pub returns-in-Some-clause-parts : goal.returns-in-Some-clause-parts
returns-in-Some-clause-parts c = cut_slices (λ b. b == c.args.mark) c.args.text.now c.in-Some.place (sym c.in-Some.ensures.place)

pub returns-in-None-clause-parts : goal.returns-in-None-clause-parts
returns-in-None-clause-parts c = cut_nowhere (λ b. b == c.args.mark) c.args.text.now (sym c.in-None.ensures.place)
