use Rattle.std.proofs.Common.{◌≡◌, ◌++◌, drop, map}
use Rattle.serde_json.specs.View.{view}
use Rattle.serde_json.specs.Data.{string}
use Rattle.sweep_report.specs.Table.{asked_on}
use Rattle.sweep_report.proofs.json.reactions_value.Given as goal

abbrev pub invariant-loop-reaction : goal.invariant-loop-reaction
invariant-loop-reaction l = map (λ r. string (asked_on l.script r.directive.line)) l.reactions ≡ map view l.all.items ++ map (λ r. string (asked_on l.script r.directive.line)) (drop l.reaction-index l.reactions)
