use Rattle.std.proofs.Common.{◌≡◌, ◌++◌, map}
use Rattle.std.specs.Prelude.{flat_map, string_bytes}
use Rattle.sweep_report.specs.Page as spec
use Rattle.sweep_report.proofs.page.put_told.Given as goal

abbrev pub invariant-loop-line : goal.invariant-loop-line
invariant-loop-line l = string_bytes l.text ≡ string_bytes l.initial.text ++ flat_map (spec.told_line l.told.line) (map (λ x. x.now) l.yielded)
