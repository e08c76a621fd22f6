use Rattle.std.proofs.Common.{◌≡◌, ◌++◌, drop, map}
use Rattle.serde_json.specs.View.{view}
use Rattle.serde_json.specs.Data.{string}
use Rattle.sweep_report.specs.Table.{asked_on}
use Rattle.sweep_report.proofs.json.part_value.Given as goal

abbrev pub invariant-loop-directive : goal.invariant-loop-directive
invariant-loop-directive l = map (λ d. string (asked_on l.script d.line)) l.directives ≡ map view l.all.items ++ map (λ d. string (asked_on l.script d.line)) (drop l.directive-index l.directives)
