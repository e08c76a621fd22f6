use Rattle.std.proofs.Common.{◌≡◌, ◌++◌, drop, map}
use Rattle.std.specs.Prelude.{flat_map}
use Rattle.serde_json.specs.View.{view}
use Rattle.sweep_report.specs.Json as spec
use Rattle.sweep_report.proofs.json.lines_value.Given as goal

abbrev pub invariant-loop-told : goal.invariant-loop-told
invariant-loop-told l = flat_map (spec.unshared_data l.shown.swept.now.outcomes.items l.shown.groups.now) l.fn.told ≡ map view l.all.items ++ flat_map (spec.unshared_data l.shown.swept.now.outcomes.items l.shown.groups.now) (drop l.told-index l.fn.told)
