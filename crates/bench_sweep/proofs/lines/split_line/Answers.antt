use Rattle.std.proofs.Common.{sym}
use Rattle.bench_sweep.proofs.Lining.{cut_rest}
use Rattle.bench_sweep.proofs.lines.split_line.Goals as goal

pub returns-in-Some-clause-lines : goal.returns-in-Some-clause-lines
returns-in-Some-clause-lines c = λ some. cut_rest c.args.text.now c.in-Some.feed (sym c.in-Some.ensures.place)
