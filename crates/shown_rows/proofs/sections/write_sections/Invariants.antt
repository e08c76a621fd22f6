use Rattle.std.proofs.Common.{◌≡◌, ◌++◌, take}
use Rattle.std.specs.Prelude.{string_bytes}
use Rattle.bench_report.specs.Shown.{rows_text}
use Rattle.mcal_drivers.specs.Setting.{SystemState}
use Rattle.run_model.specs.World.{World}
use Rattle.shown_rows.specs.Shows.{section_rows}
use Rattle.shown_rows.proofs.sections.write_sections.Given as goal

abbrev pub invariant-loop-number : goal.invariant-loop-number
invariant-loop-number g l = (w : World) (s : SystemState) → g.R.ShownBoard.shows l.run w s → string_bytes l.text ≡ string_bytes l.fn.text ++ rows_text l.line (section_rows s 0 (take l.number l.sections))
