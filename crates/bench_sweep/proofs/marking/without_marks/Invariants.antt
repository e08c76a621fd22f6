use Rattle.std.proofs.Common.{◌≡◌, ◌+◌, ◌++◌, length, vec_len}
use Rattle.bench_sweep.specs.Reactions as spec
use Rattle.bench_sweep.proofs.marking.without_marks.Given as goal

abbrev pub invariant-loop-feed : goal.invariant-loop-feed
invariant-loop-feed l = record {
  same : spec.without_marks l.text ≡ l.bytes.items ++ spec.without_marks l.rest;
  length : vec_len l.bytes + length l.rest ≡ length l.text;
}

abbrev pub decreases-loop-feed : goal.decreases-loop-feed
decreases-loop-feed l = length l.rest
