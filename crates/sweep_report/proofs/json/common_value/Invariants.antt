use Rattle.std.proofs.Common.{◌≡◌, ◌++◌, drop, map}
use Rattle.std.specs.Prelude.{flat_map}
use Rattle.serde_json.specs.View.{view}
use Rattle.sweep_report.specs.Json as spec
use Rattle.sweep_report.specs.Table.{table_of}
use Rattle.sweep_report.proofs.json.common_value.Given as goal

abbrev pub invariant-loop-told : goal.invariant-loop-told
invariant-loop-told l = flat_map (spec.shared_data (table_of l.shown)) l.fn.told ≡ map view l.all.items ++ flat_map (spec.shared_data (table_of l.shown)) (drop l.told-index l.fn.told)
