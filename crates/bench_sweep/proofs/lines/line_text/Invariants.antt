use Rattle.std.proofs.Common.{◌≡◌, ◌+◌, ◌-◌, ◌≤◌}
use Rattle.bench_sweep.specs.Lines as spec
use Rattle.bench_sweep.proofs.lines.line_text.Given as goal

abbrev pub invariant-loop-line : goal.invariant-loop-line
invariant-loop-line l = record {
  same : spec.line_at l.number (spec.lines_in l.text) ≡ spec.line_at (l.number + 1 - l.line) (spec.lines_in l.rest);
  first : 1 ≤ l.line;
}

abbrev pub decreases-loop-line : goal.decreases-loop-line
decreases-loop-line l = l.number - l.line
