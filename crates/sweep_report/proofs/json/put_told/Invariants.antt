use Rattle.std.proofs.Common.{◌≡◌, ◌++◌, map}
use Rattle.serde_json.specs.View.{view}
use Rattle.sweep_report.specs.Json as spec
use Rattle.sweep_report.proofs.json.put_told.Given as goal

abbrev pub invariant-loop-text : goal.invariant-loop-text
invariant-loop-text l = map view l.all.items ≡ map view l.initial.all.items ++ map (spec.line_data l.told.line) (map (λ x. x.now) l.yielded)
