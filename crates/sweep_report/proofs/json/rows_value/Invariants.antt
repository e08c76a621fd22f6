use Rattle.std.proofs.Common.{◌≡◌, ◌++◌, drop, map}
use Rattle.serde_json.specs.View.{view}
use Rattle.sweep_report.specs.Json as spec
use Rattle.sweep_report.proofs.json.rows_value.Given as goal

abbrev pub invariant-loop-row : goal.invariant-loop-row
invariant-loop-row l = map spec.row_data l.rows ≡ map view l.all.items ++ map spec.row_data (drop l.row-index l.rows)
