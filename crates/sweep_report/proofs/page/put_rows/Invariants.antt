use Rattle.std.proofs.Common.{◌≡◌, ◌++◌, drop}
use Rattle.std.specs.Prelude.{flat_map, string_bytes}
use Rattle.sweep_report.specs.Page as spec
use Rattle.sweep_report.proofs.page.put_rows.Given as goal

abbrev pub invariant-loop-row : goal.invariant-loop-row
invariant-loop-row l = string_bytes l.initial.text ++ flat_map spec.row_text l.rows ≡ string_bytes l.text ++ flat_map spec.row_text (drop l.row-index l.rows)
