use Rattle.std.proofs.Common.{◌≡◌, [], map}
use Rattle.bench_sweep.specs.Outcomes as spec
use Rattle.bench_sweep.specs.Reports as reports
use Rattle.bench_sweep.proofs.outcomes.outcome_of.Given as goal

abbrev pub invariant-loop-line : goal.invariant-loop-line
invariant-loop-line l = spec.telling l.outcome ≡ reports.told_behind l.lines [] (map (λ x. x.now) l.yielded)
