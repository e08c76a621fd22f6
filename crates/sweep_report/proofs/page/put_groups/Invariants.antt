use Rattle.std.proofs.Common.{◌≡◌, ◌+◌, ◌++◌, drop}
use Rattle.std.specs.Prelude.{string_bytes}
use Rattle.sweep_report.specs.Page as spec
use Rattle.sweep_report.specs.Table.{table_of}
use Rattle.sweep_report.proofs.page.put_groups.Given as goal

abbrev pub invariant-loop-number : goal.invariant-loop-number
invariant-loop-number l = string_bytes l.initial.text ++ spec.groups_text (table_of l.shown) 1 l.groups ≡ string_bytes l.text ++ spec.groups_text (table_of l.shown) (l.number + 1) (drop l.number l.groups)
