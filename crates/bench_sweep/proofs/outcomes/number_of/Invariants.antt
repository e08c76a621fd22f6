use Rattle.std.proofs.Common.{◌≡◌, ◌≤◌, length}
use Rattle.bench_sweep.specs.Reports as reports
use Rattle.bench_sweep.proofs.outcomes.number_of.Given as goal

abbrev pub invariant-loop-rest : goal.invariant-loop-rest
invariant-loop-rest l = record {
  same : reports.number_on 0 l.word ≡ reports.number_on l.number l.rest;
  small : l.number ≤ 10000000009;
}

abbrev pub decreases-loop-rest : goal.decreases-loop-rest
decreases-loop-rest l = length l.rest
