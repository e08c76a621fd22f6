use Rattle.std.proofs.Common.{length}
use Rattle.bench_report.specs.Numbers.{Each}
use Rattle.trace_promises.specs.traces.Numbers.{DirectiveFits}
use Rattle.trace_promises.proofs.traces.numbers.script_fits.Given as goal

abbrev pub invariant-loop-rest : goal.invariant-loop-rest
invariant-loop-rest l = Each DirectiveFits l.rest → Each DirectiveFits l.script

abbrev pub decreases-loop-rest : goal.decreases-loop-rest
decreases-loop-rest l = length l.rest
