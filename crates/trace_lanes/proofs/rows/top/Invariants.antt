use Rattle.std.proofs.Common.{◌≡◌, ◌≤◌, ◌+◌, ◌*◌}
use Rattle.trace_lanes.specs.Rows as spec
use Rattle.trace_lanes.proofs.rows.top.Given as goal

abbrev pub invariant-loop-row : goal.invariant-loop-row
invariant-loop-row l = record {
  top : l.y ≡ spec.top l.used l.row;
  within : l.y ≤ 8 + l.row * 36;
}
