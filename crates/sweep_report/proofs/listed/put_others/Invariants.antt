use Rattle.std.proofs.Common.{◌≡◌, ◌++◌, drop}
use Rattle.std.specs.Prelude.{codes, flat_map, string_bytes}
use Rattle.sweep_report.specs.Table.{asked_on}
use Rattle.sweep_report.proofs.listed.put_others.Given as goal

abbrev pub invariant-loop-directive : goal.invariant-loop-directive
invariant-loop-directive l = string_bytes l.initial.text ++ flat_map (λ e. codes "; " ++ asked_on l.script e.line) l.directives ≡ string_bytes l.text ++ flat_map (λ e. codes "; " ++ asked_on l.script e.line) (drop l.directive-index l.directives)
