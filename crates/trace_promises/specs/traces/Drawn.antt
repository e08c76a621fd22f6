-- A trace that is drawn.
use Rattle.std.specs.Prelude.{◌≡◌, List, [], map, true, Ok}
use Rattle.mcal_base.specs.declared.directive.Directive.{Directive}
use Rattle.run_model.specs.Entry.{Entry}
use Rattle.bench_report.specs.Report.{report, report_lines}
use Rattle.bench_report.specs.Rows.{Row}
use Rattle.trace_reader.specs.Reading.{read_trace}
use Rattle.trace_reader.specs.Told.{told_line}
use Rattle.trace_reader.specs.declared.told.TraceLine.{TraceLine}
use Rattle.trace_drawing.specs.signs.Drawing.{Drawing, drawing_of}
use Rattle.trace_drawing.specs.signs.Laws.{IsDrawingOf}
use Rattle.trace_drawing.specs.signs.Moments.{moments_of}
use Rattle.trace_drawing.specs.declared.signs.moments.Moment.{Moment}
use Rattle.trace_drawing.specs.Program.{drawing_under}

-- The trace is drawn: its lines belong to the directives of the script, and its signs are these.
pub record HasDrawing (script : List Directive) (lines : List TraceLine) : Type 0 where
  pub moments : List Moment
  pub belong : moments_of script lines ≡ Ok moments
  pub drawing : Drawing
  pub drawn : drawing_of moments ≡ Ok drawing

-- The trace of a journal is read as what its lines tell, and its drawing shows each of its lines and each directive of the script, in their order and once.
pub record IsDrawn (script : List Directive) (entries : List Entry) (shows : List (List Row)) : Type 0 where
  pub read : read_trace (report true script entries shows) ≡ Ok (map told_line (report_lines true [] shows script entries))
  pub drawing : Drawing
  pub drawn : drawing_under script (report true script entries shows) ≡ Ok drawing
  pub shows_all : IsDrawingOf script (map told_line (report_lines true [] shows script entries)) drawing
