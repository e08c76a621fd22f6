use Rattle.std.proofs.Common.{◌≡◌, ◌++◌}
use Rattle.std.specs.Prelude.{flat_map, string_bytes}
use Rattle.std.specs.List.{range_with_len}
use Rattle.bench_report.specs.Shown.{rows_text}
use Rattle.mcal_drivers.specs.Setting.{SystemState}
use Rattle.run_model.specs.World.{World}
use Rattle.shown_rows.specs.Objects.{object_rows}
use Rattle.shown_rows.proofs.objects.write_objects.Given as goal

abbrev pub invariant-loop-number : goal.invariant-loop-number
invariant-loop-number g l =
    (w : World) (s : SystemState) → g.R.ShownBoard.shows l.run w s →
    string_bytes l.text ≡ string_bytes l.fn.text ++ rows_text l.line (flat_map (λ n. object_rows (g.R.ShownBoard.configured l.run) w s l.objects n) (range_with_len 0 l.number))
