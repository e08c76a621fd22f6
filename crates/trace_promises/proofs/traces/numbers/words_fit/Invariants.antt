use Rattle.std.proofs.Common.{length}
use Rattle.bench_report.specs.Numbers.{IsNumber, Each}
use Rattle.trace_promises.proofs.traces.numbers.words_fit.Given as goal

abbrev pub invariant-loop-rest : goal.invariant-loop-rest
invariant-loop-rest l = Each IsNumber l.rest → Each IsNumber l.words

abbrev pub decreases-loop-rest : goal.decreases-loop-rest
decreases-loop-rest l = length l.rest
