-- The trace of a legal run is read and drawn.
use Rattle.std.proofs.Common.{◌<◌, ◌≤◌, List, [], true, length, map, ◌∙◌, ap}
use Rattle.chip_model.specs.Chip.{Chip}
use Rattle.mcal_base.specs.declared.directive.Directive.{Directive}
use Rattle.mcal_base.specs.declared.directive.Request.{Request}
use Rattle.run_model.specs.Entry.{Entry}
use Rattle.run_model.specs.Moment.{Setting}
use Rattle.run_model.specs.Stops.{steps_in}
use Rattle.script_runner.specs.Scripts.{IsScript, IsRun}
use Rattle.bench_report.specs.Limit.{most_bytes}
use Rattle.bench_report.specs.Numbers.{Each, EntryFits}
use Rattle.bench_report.specs.Report.{report, report_lines}
use Rattle.bench_report.specs.Rows.{Row}
use Rattle.trace_reader.specs.Told.{told_line}
use Rattle.trace_drawing.specs.signs.Drawing.{drawing_of}
use Rattle.trace_drawing.specs.signs.Moments.{moments_of}
use Rattle.trace_drawing.proofs.Balance.{is_drawing}
use Rattle.trace_drawing.specs.Program.{◌>>=◌}
use Rattle.trace_promises.specs.traces.Drawn.{IsDrawn}
use Rattle.trace_promises.specs.traces.Lines.{HasLines}
use Rattle.trace_promises.specs.traces.Numbers.{DirectiveFits, RowsFit}
use Rattle.trace_promises.proofs.DrawnLaws.{run_is_drawn}
use Rattle.trace_promises.proofs.Read.{report_is_read}

pub is_drawn : {State Call : Type 0} (g : Setting State Call) (call_of : Request → Call) (first : Chip) (script : List Directive) (es : List Entry) (shows : List (List Row)) → HasLines g → IsScript script → IsRun g first call_of script es →
    Each DirectiveFits script → Each EntryFits es → steps_in es < 18446744073709551615 → Each RowsFit shows → length (report true script es shows) ≤ most_bytes → IsDrawn script es shows
is_drawn g call_of first script es shows lines s run d h few r short =
    let read = report_is_read script es shows d h r short in
    let all = map told_line (report_lines true [] shows script es) in
    let x = run_is_drawn g call_of lines first script es shows s.lines run few in
    record {
      read = read;
      drawing = x.drawing;
      drawn = ap (λ y. y >>= (λ ls. moments_of script ls >>= drawing_of)) read ∙ (ap (λ y. y >>= drawing_of) x.belong ∙ x.drawn);
      shows_all = is_drawing script all x.moments x.drawing x.belong x.drawn;
    }
