use Rattle.std.proofs.Common.{◌≡◌, ◌++◌, drop}
use Rattle.std.specs.Prelude.{flat_map, string_bytes}
use Rattle.sweep_report.specs.Page as spec
use Rattle.sweep_report.specs.Table.{table_of}
use Rattle.sweep_report.proofs.page.common.Given as goal

abbrev pub invariant-loop-told : goal.invariant-loop-told
invariant-loop-told l = flat_map (spec.shared_text (table_of l.shown)) l.fn.told ≡ string_bytes l.text ++ flat_map (spec.shared_text (table_of l.shown)) (drop l.told-index l.fn.told)
