use Rattle.std.proofs.Common.{◌≡◌, drop}
use Rattle.std.specs.List.{All}
use Rattle.bench_sweep.specs.Groups as spec
use Rattle.bench_sweep.proofs.groups.ranges.Given as goal

abbrev pub invariant-loop-place : goal.invariant-loop-place
invariant-loop-place l = record {
  is : spec.ranges_of l.outcome l.settled ≡ spec.with_ranges l.outcome l.ranges.items l.place (drop l.place l.settled);
  each : All (spec.IsRangeOf l.settled l.outcome) l.ranges.items;
}
