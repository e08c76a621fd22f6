use Rattle.std.proofs.Common.{◌≡◌, ◌+◌, ◌<◌, ◌≤◌, drop, length}
use Rattle.std.specs.Prelude.{reverse, IfSome}
use Rattle.bench_sweep.specs.Groups as spec
use Rattle.bench_sweep.proofs.groups.settle.Given as goal

abbrev pub invariant-loop-place : goal.invariant-loop-place
invariant-loop-place l = record {
  done : l.backwards.items ≡ reverse (spec.settled (drop l.place l.tried));
  next : l.next ≡ spec.head (spec.settled (drop l.place l.tried));
  short : IfSome l.next (λ s. s.wait + l.place < length l.tried);
  within : l.place ≤ length l.tried;
}

abbrev pub decreases-loop-place : goal.decreases-loop-place
decreases-loop-place l = l.place
