use Rattle.std.proofs.Common.{◌≡◌, ◌++◌, drop, map}
use Rattle.serde_json.specs.View.{view}
use Rattle.sweep_report.specs.Json as spec
use Rattle.sweep_report.specs.Table.{table_of}
use Rattle.sweep_report.proofs.json.groups_value.Given as goal

abbrev pub invariant-loop-group : goal.invariant-loop-group
invariant-loop-group l = map (spec.group_data (table_of l.shown)) l.group-items ≡ map view l.all.items ++ map (spec.group_data (table_of l.shown)) (drop l.group-index l.group-items)
