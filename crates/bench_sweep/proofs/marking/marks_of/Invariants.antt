use Rattle.std.proofs.Common.{◌≡◌, ◌+◌, ◌≤◌, length}
use Rattle.bench_sweep.specs.Lines.{lines_in}
use Rattle.bench_sweep.specs.Marks as spec
use Rattle.bench_sweep.proofs.marking.marks_of.Given as goal

abbrev pub invariant-loop-rest : goal.invariant-loop-rest
invariant-loop-rest l = record {
  same : spec.marks_of l.text ≡ spec.marks_behind l.line (lines_in l.rest) (l.part, l.marks);
  within : l.line + length l.rest ≤ length l.text;
}

abbrev pub decreases-loop-rest : goal.decreases-loop-rest
decreases-loop-rest l = length l.rest
